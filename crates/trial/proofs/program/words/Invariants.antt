-- The blocks so far, with those to come.
use Rattle.std.proofs.Common.{◌≡◌, ◌-◌, ◌∷◌, ◌++◌, map}
use Rattle.rand_core.specs.Pcg32Seed.{pcg32_seed}
use Rattle.rand_pcg.specs.Pcg.{pcg32_of_seed}
use Rattle.rv_word.specs.Spelling.{spelling}
use Rattle.trial.specs.Made.{blocks}
use Rattle.trial.proofs.program.words.Given as goal

abbrev pub invariant-loop-i : goal.invariant-loop-i
invariant-loop-i l =
    0x008002B7 ∷ map spelling (blocks l.size (pcg32_of_seed (pcg32_seed 16 l.seed))).0 ≡ l.words.items ++ map spelling (blocks (l.size - l.i) l.g).0
