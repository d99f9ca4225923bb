-- What the word of a slot leaves of a state, by the flow that it answers.
use Rattle.std.specs.Prelude.{◌≡◌, ℕ, true, false, List, nat_eq, slice_index}
use Rattle.cells.specs.Cells.{Arch}
use Rattle.rv_semantics.specs.declared.Flow.{Flow}
use Rattle.rv_semantics.specs.declared.Flow.TheVariants.{Next}
use Rattle.rv_semantics.specs.Values.{arch_of}
use Rattle.rv_semantics.specs.Machine.{exec, flow_of}
use Rattle.rv_step.specs.declared.arch.Arch.{Arch as CodeArch}

-- the code's registers and memory, at a pc
abbrev pub placed : {M : Type 0} → (M → ℕ → ℕ) → ℕ → CodeArch M → Arch
placed at pc a = arch_of pc a.regs (at a.mem)

-- each register but this one has the same value
abbrev pub AreSameBut : ℕ → List ℕ → List ℕ → Type 0
AreSameBut r old new = (n : ℕ) → nat_eq r n ≡ false → slice_index new n ≡ slice_index old n

-- where it goes on, the state with that pc is the one after the word; else the state is as it was
abbrev pub Leaves : ℕ → Arch → Arch → Flow → Type 0
Leaves word s t (Next to) = ((exec word).stops s ≡ false) × (record t { pc = to } ≡ (exec word).move s) × (flow_of word s ≡ Next to)
Leaves word s t f = ((exec word).stops s ≡ true) × (t ≡ s) × (flow_of word s ≡ f)
