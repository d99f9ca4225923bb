-- What the rounds see of an analysed instruction.
use Rattle.std.specs.Prelude.{ℕ, Bool, List, map, Option, is_some, nat_eq, if◌then◌else◌}
use Rattle.std.specs.Map.{lookup}
use Rattle.rv_word.specs.declared.inst.Inst.{Inst}
use Rattle.rv_word.specs.declared.inst.Inst.TheVariants.{Jal, Jalr, Branch, Store, Ecall, Ebreak, Illegal}
use Rattle.rv_word.specs.Meaning.{meaning}
use Rattle.rv_semantics.specs.Prints.{task_reads, task_writes}
use Rattle.fitting.specs.Claims.{among}
use Rattle.distill_rules.specs.declared.Fate.{Fate}
use Rattle.distill_rules.specs.declared.Fate.TheVariants.{Stays, Goes, AsNeeded}
use Rattle.distill_rules.specs.Cuts.{Cuts}
use Rattle.distill_rules.specs.Flow.{Site, Graph}
use Rattle.distill_rules.specs.Rounds.{Point}

-- jumps, calls, EBREAK and illegal words stay, and so do a branch that is not cut and a store that is not dead
abbrev pub fate_of : Option Bool → Bool → Inst → Fate
fate_of cut dead (Jal rd off) = Stays
fate_of cut dead (Jalr rd rs1 off) = Stays
fate_of cut dead (Branch test rs1 rs2 off) = if is_some cut then Goes else Stays
fate_of cut dead (Store kind rs1 rs2 off) = if dead then Goes else Stays
fate_of cut dead Ecall = Stays
fate_of cut dead Ebreak = Stays
fate_of cut dead (Illegal word) = Stays
fate_of cut dead _ = AsNeeded

-- where a task may print at these pcs; by its side that is cut, and whether it is dead, set and an anchor. A load that is set
-- needs no register
abbrev pub point_by : (ℕ → Bool) → Option Bool → Bool → Bool → Bool → Site → Point
point_by prints cut dead is_set is_anchor s =
    record {
      pc = s.pc;
      next = s.next;
      reads = task_reads prints (meaning s.word) s.pc;
      asks = if is_set then 0 else task_reads prints (meaning s.word) s.pc;
      writes = task_writes prints (meaning s.word) s.pc;
      fate = fate_of cut dead (meaning s.word);
      is_anchor = is_anchor;
    }

-- what the rounds see of an instruction beside these lists
abbrev pub point : Cuts → List ℕ → Site → Point
point c anchors s =
    point_by (among c.writes) (lookup (nat_eq s.pc) c.cut) (among c.dead s.pc) (is_some (lookup (nat_eq s.pc) c.same)) (among anchors s.pc) s

-- the same of each instruction of a graph
abbrev pub points : Cuts → List ℕ → Graph → List Point
points c anchors g = map (point c anchors) g.spots
