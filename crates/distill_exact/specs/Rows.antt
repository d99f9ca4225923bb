-- Worked rows: what the rules assume of small programs, and what fails for want of one of the premises.
use Rattle.std.specs.Prelude.{◌≡◌, ℕ, true, false, List, [], ◌∷◌, Option, Some}
use Rattle.rv_word.specs.Meaning.{meaning}
use Rattle.cells.specs.Run.{State}
use Rattle.rv_semantics.specs.Programs.{misfetch}
use Rattle.rv_semantics.specs.Prints.{nowhere}
use Rattle.rv_semantics.specs.Start.{start}
use Rattle.profile_data.specs.Profile.{Tally}
use Rattle.dist_image.specs.Image.{Cut, Within, nothing_known}
use Rattle.fitting.specs.Fails.{program, Fails}
use Rattle.fitting.specs.Rows.{never_true, always_taken, branch_aside, store_for_write, turns, rewriting, exiting, noting}
use Rattle.profile_laws.specs.Tally.{profile_of}
use Rattle.distill_rules.specs.Analysed.{analysed, analysed_row}
use Rattle.distill_rules.specs.Cuts.{Cuts, cuts}
use Rattle.distill_rules.specs.Flow.{targets_by}
use Rattle.distill_exact.specs.Laws.{IsNotedAs}

-- the rows of the first n steps
abbrev pub rows_of : State → ℕ → List Tally
rows_of s n = (profile_of nowhere s n).rows

-- what is cut and what is dead by them, where a side with so many executions in a thousand is rare
abbrev pub cuts_of : State → ℕ → ℕ → Cuts
cuts_of s n rare = cuts (program s) (rows_of s n) rare

-- to where the jump by a register at a pc went in the first n steps
abbrev pub targets_of : State → ℕ → ℕ → Option (List ℕ)
targets_of s n pc = targets_by (meaning (program s pc)) (analysed_row (rows_of s n) pc)

-- what is assumed of small programs
pub record AssumedRows : Type 0 where
  pub never : cuts_of (start never_true []) 45 0 ≡ record { cut = (0x00010008, true) ∷ []; dead = []; writes = []; same = [] }
  pub always : cuts_of (start always_taken []) 6 0 ≡ record { cut = (0x00010004, false) ∷ []; dead = []; writes = []; same = [] }
  -- a branch that ends the run is taken, and is not cut
  pub aside : cuts_of (start branch_aside []) 1 0 ≡ record { cut = []; dead = []; writes = []; same = [] }
  -- a call that writes reads what was stored, and this counts for nothing
  pub dead : cuts_of (start store_for_write []) 10 0 ≡ record { cut = []; dead = 0x00010008 ∷ []; writes = []; same = [] }
  -- a jump that ends the run goes nowhere
  pub nowhere : targets_of (start misfetch []) 3 0x00010008 ≡ Some []

-- `rare` has to be 0: the branch of ten turns falls through once, and its fallen side is cut
pub record RareRows : Type 0 where
  pub rare : cuts_of turns 24 100 ≡ record { cut = (0x00010008, false) ∷ []; dead = []; writes = []; same = [] }
  pub fails : Fails turns nothing_known (Cut 0x00010008 false) 20
  pub at_zero : cuts_of turns 24 0 ≡ record { cut = []; dead = []; writes = []; same = [] }

-- Within needs that no row is changed, and more steps or an end: an analysed instruction leads to one that is not
pub record WithinRows : Type 0 where
  pub changed : analysed (rows_of rewriting 6) ≡ 0x00010000 ∷ 0x00010004 ∷ 0x00010008 ∷ 0x0001000c ∷ 0x00010014 ∷ []
  pub to_changed : Fails rewriting (noting 0x0001000c) Within 3
  pub one_step : IsNotedAs (noting 0x00010000) (rows_of exiting 1)
  pub not_ended : Fails exiting (noting 0x00010000) Within 0
