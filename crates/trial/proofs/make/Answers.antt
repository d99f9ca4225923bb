-- The file of the words is accepted.
use Rattle.std.proofs.Common.{ap, ◌∙◌}
use Rattle.std.proofs.lemmas.Result.{IfOk-weaker}
use Rattle.elf_reader.specs.Refusal.{refusal}
use Rattle.trial.specs.File.{file_of}
use Rattle.trial.proofs.Accepted.{all_accepted}
use Rattle.trial.proofs.make.Goals as goal

pub returns-clause-accepted : goal.returns-clause-accepted
returns-clause-accepted c =
    let is = ap file_of (c.deref.ensures.value ∙ c.in_ok-words.ensures.words) in
    IfOk-weaker c.file_of.result _ _
    (λ file k. ap refusal (k ∙ is) ∙ all_accepted c.args.seed c.args.size c.requires.few) c.file_of.ensures
