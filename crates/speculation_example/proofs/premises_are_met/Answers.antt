-- Each premise is met.
use Rattle.speculation_example.proofs.Meets.{is_known, master_spends, is_setting}
use Rattle.speculation_example.proofs.premises_are_met.Goals as goal

pub returns-clause-world : goal.returns-clause-world
returns-clause-world c = is_known

pub returns-clause-spends : goal.returns-clause-spends
returns-clause-spends c = master_spends

pub returns-clause-setting : goal.returns-clause-setting
returns-clause-setting c = is_setting
