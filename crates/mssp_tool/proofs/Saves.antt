-- The file that a command writes, behind what it read.
use Rattle.std.proofs.Common.{◌≡◌, ℕ, ◌≤◌, arith, List, Option, subst, ◌∙◌}
use Rattle.outside.specs.Answers.{OthersStay}
use Rattle.outside.specs.Files.{Files}
use Rattle.answers.specs.declared.answer.Answer.{Answer}
use Rattle.answers.specs.declared.answer.Answer.TheVariants.{Usage, Absent, StoreFault, SinkFault, Memory, TooLong, Refused, Done, Ran, Budget, Broken}
use Rattle.speculative_runs.specs.Told.{Reads, Written}
use Rattle.mssp_tool.specs.Files.{Saved}
use Rattle.mssp_tool.proofs.Reports.{others_stay, same_stay}

-- the store is as it was told at first, and a count that rose in a part of a call rose in the call
pub saved_within : (told told' left : Option Files) (before mid now : ℕ) (last : Option (List ℕ)) (name bytes : List ℕ) (a : Answer) → told' ≡ told → before ≤ mid
    → Saved (record { told = told'; before = mid; now = now; failed = last }) left name bytes a → Saved (record { told = told; before = before; now = now; failed = last }) left name bytes a
saved_within told told' left before mid now last name bytes Done e l h = subst (λ d. Written d left name bytes) e h
saved_within told told' left before mid now last name bytes (StoreFault s) e l (same, rose, others) = (same, (omega (arith, l, rose.0), rose.1), subst (λ d. OthersStay d left name) e others)
saved_within told told' left before mid now last name bytes Memory e l h = h ∙ e
saved_within told told' left before mid now last name bytes Usage e l h = absurd h
saved_within told told' left before mid now last name bytes Broken e l h = absurd h
saved_within told told' left before mid now last name bytes (Absent s) e l h = absurd h
saved_within told told' left before mid now last name bytes SinkFault e l h = absurd h
saved_within told told' left before mid now last name bytes (TooLong s) e l h = absurd h
saved_within told told' left before mid now last name bytes (Refused r) e l h = absurd h
saved_within told told' left before mid now last name bytes (Ran pc end) e l h = absurd h
saved_within told told' left before mid now last name bytes Budget e l h = absurd h

-- no other file has changed
pub saved_changes : (store : Reads) (left : Option Files) (name bytes : List ℕ) (a : Answer) → Saved store left name bytes a → OthersStay store.told left name
saved_changes store left name bytes Done h = others_stay store.told left name bytes h
saved_changes store left name bytes (StoreFault s) (same, rose, others) = others
saved_changes store left name bytes Memory h = same_stay store.told left name h
saved_changes store left name bytes Usage h = absurd h
saved_changes store left name bytes Broken h = absurd h
saved_changes store left name bytes (Absent s) h = absurd h
saved_changes store left name bytes SinkFault h = absurd h
saved_changes store left name bytes (TooLong s) h = absurd h
saved_changes store left name bytes (Refused r) h = absurd h
saved_changes store left name bytes (Ran pc end) h = absurd h
saved_changes store left name bytes Budget h = absurd h
