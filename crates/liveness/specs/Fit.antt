-- The points of a graph are fit: their masks have 32 registers, and none stands for register 0.
use Rattle.std.specs.Prelude.{ℕ, ◌<◌, ◌^◌, List, All}
use Rattle.distill_rules.specs.Cuts.{Cuts}
use Rattle.distill_rules.specs.Flow.{Graph}
use Rattle.distill_rules.specs.Points.{points}
use Rattle.distill_rules.specs.Solution.{AreFit}

-- the words of a graph's instructions have 32 bits
abbrev pub HaveWords : Graph → Type 0
HaveWords g = All (λ s. s.word < 2 ^ 32) g.spots

-- whatever is cut, and wherever tasks begin
abbrev pub ArePointsFit : Type 0
ArePointsFit = (c : Cuts) (anchors : List ℕ) (g : Graph) → HaveWords g → AreFit (points c anchors g)
