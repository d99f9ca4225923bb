-- Each row is worked.
use Rattle.speculation_example.proofs.Rows.{finds_nothing, forks, reaches_first, is_full, meets_call, does_known, gives_fuel, spends_all, ends, compares_late, squashes, counts_squash, gives_up, looks_at_call}
use Rattle.speculation_example.proofs.rows_are_worked.Goals as goal

pub returns-clause-nothing : goal.returns-clause-nothing
returns-clause-nothing c = finds_nothing

pub returns-clause-forks : goal.returns-clause-forks
returns-clause-forks c = forks

pub returns-clause-reached : goal.returns-clause-reached
returns-clause-reached c = reaches_first

pub returns-clause-full : goal.returns-clause-full
returns-clause-full c = is_full

pub returns-clause-met : goal.returns-clause-met
returns-clause-met c = meets_call

pub returns-clause-known : goal.returns-clause-known
returns-clause-known c = does_known

pub returns-clause-fuel : goal.returns-clause-fuel
returns-clause-fuel c = gives_fuel

pub returns-clause-spent : goal.returns-clause-spent
returns-clause-spent c = spends_all

pub returns-clause-ended : goal.returns-clause-ended
returns-clause-ended c = ends

pub returns-clause-late : goal.returns-clause-late
returns-clause-late c = compares_late

pub returns-clause-squashed : goal.returns-clause-squashed
returns-clause-squashed c = squashes

pub returns-clause-counted : goal.returns-clause-counted
returns-clause-counted c = counts_squash

pub returns-clause-given_up : goal.returns-clause-given_up
returns-clause-given_up c = gives_up

pub returns-clause-looked : goal.returns-clause-looked
returns-clause-looked c = looks_at_call
