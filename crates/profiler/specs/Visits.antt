-- A position in the code, as the tally sees it.
use Rattle.std.specs.Prelude.{ℕ, Bool, if◌then◌else◌, Option, Some, None}
use Rattle.rv_word.specs.declared.inst.Inst.{Inst}
use Rattle.cells.specs.declared.Cell.{Cell}
use Rattle.cells.specs.Bytes.{word_of}
use Rattle.memory.specs.declared.Memory.{Ghosts}
use Rattle.rv_semantics.specs.declared.Flow.{Flow}
use Rattle.rv_semantics.specs.declared.Flow.TheVariants.{Next}
use Rattle.rv_semantics.specs.Effect.{effect_at}
use Rattle.rv_semantics.specs.Calls.{step}
use Rattle.seq_machine.specs.declared.machine.Machine.{Machine}
use Rattle.seq_machine.specs.States.{state_of}
use Rattle.profile_laws.specs.Profiles.{with_mark}
use Rattle.profile_laws.specs.Tally.{Visit, visit, is_register_jump}
use Rattle.access_trace.specs.Spans.{span_of}
use Rattle.profiler.specs.declared.visit.Visit.{Visit as CodeVisit}

-- what a visit in the code stands for
abbrev pub visit_of : CodeVisit → Visit
visit_of v = record {
  pc = v.pc;
  taken = v.taken;
  changed = v.changed;
  target = v.target;
  loads = span_of v.loads;
  puts = span_of v.puts;
  claim = v.claim;
}

-- where an instruction goes on
abbrev pub goes_to : Flow → Option ℕ
goes_to (Next to) = Some to
goes_to _ = None

-- where a jump by a register goes, if it goes on
abbrev pub jump_target : Inst → ℕ → (Cell → ℕ) → Option ℕ
jump_target i pc v = if is_register_jump i then goes_to (effect_at i pc v).flow else None

-- the visit of a machine's position, where a memory has the program's words, and short writes are counted or not
abbrev pub visit_here : {M : Type 0} {d : Ghosts M} → (M → ℕ → ℕ) → Bool → M → Machine M d → Visit
visit_here at calls program m =
    visit (with_mark calls) (word_of (at program) m.arch.pc) (state_of at m) (step (state_of at m)).arch.pc
