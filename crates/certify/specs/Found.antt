-- What an assumption that is found says.
use Rattle.std.specs.Prelude.{ℕ}

-- what is claimed of a pc
abbrev pub claim : {A : Type 0} → ℕ × A → A
claim e = e.1
