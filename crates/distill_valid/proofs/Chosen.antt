-- What the assumption says that is picked at a pc.
use Rattle.std.proofs.Common.{◌≡◌, ℕ, Bool, true, false, List, refl, Option, Some, None}
use Rattle.std.specs.Option.{option_map}
use Rattle.rv_word.specs.declared.inst.Inst.{Inst}
use Rattle.rv_word.specs.declared.inst.Inst.TheVariants.{Lui, Auipc, Jal, Jalr, Branch, Load, Store, OpImm, Op, Fence, Ecall, Ebreak, Illegal}
use Rattle.dist_image.specs.Image.{Premise, Cut, Targets, Dead, Same}
use Rattle.profile_data.specs.Profile.{Tally}
use Rattle.distill_rules.specs.Flow.{targets_by}
use Rattle.distill_valid.proofs.Picked.{dead_pick_by}

some_is : {A : Type 0} (x y : A) → ◌≡◌ {A = Option A} (Some x) (Some y) → x ≡ y
some_is x y e = cc

-- the targets that are claimed are those of a row
pub targets_from : (i : Inst) (o : Option Tally) (to : List ℕ) → targets_by i o ≡ Some to → (t : Tally) × (o ≡ Some t) × (t.targets ≡ to)
targets_from (Jalr rd rs1 off) None to e = cc
targets_from (Jalr rd rs1 off) (Some t) to e = (t, refl, some_is t.targets to e)
targets_from (Lui rd imm) o to e = cc
targets_from (Auipc rd imm) o to e = cc
targets_from (Jal rd off) o to e = cc
targets_from (Branch test rs1 rs2 off) o to e = cc
targets_from (Load kind rd rs1 off) o to e = cc
targets_from (Store kind rs1 rs2 off) o to e = cc
targets_from (OpImm op rd rs1 imm) o to e = cc
targets_from (Op op rd rs1 rs2) o to e = cc
targets_from (Fence word) o to e = cc
targets_from Ecall o to e = cc
targets_from Ebreak o to e = cc
targets_from (Illegal word) o to e = cc

-- ---- of what is picked at a pc

pub cut_as : (pc : ℕ) (o : Option Bool) (p : Premise) → option_map (Cut pc) o ≡ Some p → (taken : Bool) × (Cut pc taken ≡ p)
cut_as pc None p e = cc
cut_as pc (Some taken) p e = (taken, some_is (Cut pc taken) p e)

pub targets_as : (pc : ℕ) (o : Option (List ℕ)) (p : Premise) → option_map (Targets pc) o ≡ Some p → (to : List ℕ) × (o ≡ Some to) × (Targets pc to ≡ p)
targets_as pc None p e = cc
targets_as pc (Some to) p e = (to, refl, some_is (Targets pc to) p e)

pub dead_as : (pc : ℕ) (b : Bool) (p : Premise) → dead_pick_by b pc ≡ Some p → Dead pc ≡ p
dead_as pc true p e = some_is (Dead pc) p e
dead_as pc false p e = cc

pub same_as : (pc : ℕ) (o : Option ℕ) (p : Premise) → option_map (Same pc) o ≡ Some p → (v : ℕ) × (o ≡ Some v) × (Same pc v ≡ p)
same_as pc None p e = cc
same_as pc (Some v) p e = (v, refl, some_is (Same pc v) p e)
