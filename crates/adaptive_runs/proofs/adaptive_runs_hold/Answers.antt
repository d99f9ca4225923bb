-- What the laws of exchanged images say of the worlds of an adaptive run.
use Rattle.adaptive_runs.proofs.Worlds.{holds, rises, tells}
use Rattle.adaptive_runs.proofs.adaptive_runs_hold.Goals as goal

pub returns-clause-kept : goal.returns-clause-kept
returns-clause-kept c p limit is_plan k = holds p limit is_plan k

pub returns-clause-sequential : goal.returns-clause-sequential
returns-clause-sequential c p limit is_plan k = (holds p limit is_plan k).is_seq

pub returns-clause-rises : goal.returns-clause-rises
returns-clause-rises c p limit is_plan k = rises p limit is_plan k

pub returns-clause-told : goal.returns-clause-told
returns-clause-told c p limit is_plan k = tells p limit is_plan k
