-- The points of a graph are fit.
use Rattle.std.proofs.Common.{◌<◌, ◌^◌, ◌∷◌, ◌++◌, List, []}
use Rattle.std.specs.Prelude.{All}
use Rattle.std.proofs.lemmas.List.Elements.{All-head, All-tail}
use Rattle.distill_rules.specs.Flow.{Site}
use Rattle.distill_rules.specs.Rounds.{Point}
use Rattle.distill_rules.specs.Solution.{IsFit, AreFit}
use Rattle.distill_rules.proofs.Fitting.{HaveWords, points_fit}
use Rattle.liveness.specs.Fit.{ArePointsFit}

each_word : (ss : List Site) → All (λ s. s.word < 2 ^ 32) ss → HaveWords ss
each_word [] h = tt
each_word (s ∷ ss) h = (All-head (λ (s : Site). s.word < 2 ^ 32) s ss h, each_word ss (All-tail (λ (s : Site). s.word < 2 ^ 32) s ss h))

pub all_fit : ArePointsFit
all_fit c anchors g h = points_fit c anchors g.spots (each_word g.spots h)

-- one more is fit too
pub fit_more : (ps : List Point) (p : Point) → AreFit ps → IsFit p → AreFit (ps ++ p ∷ [])
fit_more [] p h k = (k, tt)
fit_more (q ∷ ps) p h k = (h.0, fit_more ps p h.1 k)
