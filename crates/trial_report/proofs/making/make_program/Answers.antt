-- The file's words are counted.
use Rattle.std.proofs.Common.{List, ℕ, length, sym, ap, ◌∙◌}
use Rattle.trial.specs.Made.{words}
use Rattle.trial_report.proofs.Lines.{words_counted}
use Rattle.trial_report.proofs.making.make_program.Goals as goal

pub returns-in-Ok-clause-words : goal.returns-in-Ok-clause-words
returns-in-Ok-clause-words c =
    words_counted (words c.args.seed c.args.size) c.len.result
    (c.len.ensures ∙ sym c.deref.ensures.len ∙ ap (λ (bytes : List ℕ). length bytes) (c.deref.ensures.value ∙ c.in_ok-file.ensures.file))
