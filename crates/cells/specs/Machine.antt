-- A machine as the laws see it: steps that read and write cells.
use Rattle.std.specs.Prelude.{◌≡◌, ℕ, Bool, true, false, List}
use Rattle.cells.specs.declared.Cell.{Cell}
use Rattle.cells.specs.declared.Cell.TheVariants.{Pc}
use Rattle.cells.specs.Cells.{Arch, value, is_pc, IsCell}

-- `stops` says that a call, or an instruction that ends the run, stands at the pc. Where none does, `move` is the state
-- after one step, `says` is what the step prints, and `reads` and `writes` are the cells that it reads and writes
pub record Machine : Type 0 where
  pub stops : Arch → Bool
  pub move : Arch → Arch
  pub says : Arch → List ℕ
  pub reads : Arch → Cell → Bool
  pub writes : Arch → Cell → Bool

-- s has c's pc, and c's values in the cells that c reads
pub record SameSeen (m : Machine) (c s : Arch) : Type 0 where
  pub pc : s.pc ≡ c.pc
  pub each : (x : Cell) → m.reads c x ≡ true → value s x ≡ value c x

-- locality: what a step does rests on the pc and on the cells that it reads, and what it does not write stays
pub record IsLocal (m : Machine) : Type 0 where
  pub stops : (c s : Arch) → SameSeen m c s → m.stops s ≡ m.stops c
  pub reads : (c s : Arch) → SameSeen m c s → (x : Cell) → m.reads s x ≡ m.reads c x
  pub writes : (c s : Arch) → SameSeen m c s → m.stops c ≡ false → (x : Cell) → m.writes s x ≡ m.writes c x
  pub pc : (c s : Arch) → SameSeen m c s → m.stops c ≡ false → (m.move s).pc ≡ (m.move c).pc
  pub says : (c s : Arch) → SameSeen m c s → m.stops c ≡ false → m.says s ≡ m.says c
  pub put : (c s : Arch) → SameSeen m c s → m.stops c ≡ false → (x : Cell) → m.writes c x ≡ true → value (m.move s) x ≡ value (m.move c) x
  pub stays : (s : Arch) → m.stops s ≡ false → (x : Cell) → is_pc x ≡ false → m.writes s x ≡ false → value (m.move s) x ≡ value s x
  pub within : (s : Arch) (x : Cell) → m.reads s x ≡ true → IsCell x
  pub no_pc : (s : Arch) → m.reads s Pc ≡ false
