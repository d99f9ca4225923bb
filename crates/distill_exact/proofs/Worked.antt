-- The rows, by running the definitions.
use Rattle.std.proofs.Common.{◌≡◌, Bool, true, false, ◌||◌, cond, Some, None, is_some, refl}
use Rattle.std.specs.Prelude.{nat_eq}
use Rattle.cells.specs.Seen.{given_values}
use Rattle.rv_semantics.specs.Calls.{call, read, write}
use Rattle.rv_semantics.specs.Machine.{moved}
use Rattle.fitting.specs.Rows.{exiting, noting, note}
use Rattle.profile_laws.specs.Tally.{places, kept}
use Rattle.distill_rules.specs.Analysed.{analysed}
use Rattle.distill_exact.specs.Laws.{IsNotedAs}
use Rattle.distill_exact.specs.Rows.{rows_of, AssumedRows, RareRows, WithinRows}

pub assumed : AssumedRows
unfolding call read write moved given_values places kept analysed
assumed = record { never = refl; always = refl; aside = refl; dead = refl; nowhere = refl }

pub rare : RareRows
unfolding call read moved given_values places kept analysed
rare = record { rare = refl; fails = (refl, refl, refl); at_zero = refl }

one_step : IsNotedAs (noting 0x00010000) (rows_of exiting 1)
unfolding call read moved given_values places kept analysed
one_step pc = if_noted (nat_eq 0x00010000 pc)
  where
    if_noted : (b : Bool) → is_some (cond b (Some (note 0x00010000 0 0 0)) None) ≡ (b || false)
    if_noted true = refl
    if_noted false = refl

pub within : WithinRows
unfolding call read moved given_values places kept analysed
within = record { changed = refl; to_changed = (refl, refl, refl); one_step = one_step; not_ended = (refl, refl, refl) }
