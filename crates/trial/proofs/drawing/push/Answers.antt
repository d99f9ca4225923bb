-- The word is the instruction's only one.
use Rattle.std.proofs.Common.{[], ◌∷◌, ◌++◌, sym, ap, ◌∙◌}
use Rattle.rv_word.specs.Spelling.{spelling}
use Rattle.rv_word.proofs.MeaningSpelling.{meaning-spelling, spelling-lt}
use Rattle.trial.proofs.drawing.push.Goals as goal

pub returns : goal.returns
returns c =
    let i = c.args.i in
    c.in_ok-push.ensures.items ∙ ap (λ w. c.args.words.now.items ++ w ∷ []) (sym (c.encode.ensures.only (spelling i) (spelling-lt i c.requires) (meaning-spelling i c.requires)))
