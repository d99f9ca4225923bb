-- Two verdicts are one.
use Rattle.assume_list.proofs.Judged as proof
use Rattle.assume_list.proofs.verdict_is_one.Goals as goal

pub returns : goal.returns
returns c = proof.verdict_is_one
