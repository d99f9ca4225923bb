-- The run of four steps, the second of which loads, meets the list at each of them.
use Rattle.std.proofs.Common.{◌≡◌, ℕ, zero, suc, true, Option, Some, refl, ap, arith, inl, inr}
use Rattle.std.specs.Prelude.{map}
use Rattle.std.specs.List.{All}
use Rattle.std.specs.List.Sorted.{IsStrictlyIncreasing}
use Rattle.cells.specs.Run.{is_over}
use Rattle.cells.specs.Seen.{given_values}
use Rattle.rv_semantics.specs.Calls.{call}
use Rattle.rv_semantics.specs.Machine.{moved}
use Rattle.dist_image.specs.declared.image.Note.{Note}
use Rattle.dist_image.specs.declared.image.Slot.{Slot}
use Rattle.dist_image.specs.declared.image.Slot.TheVariants.{Exec}
use Rattle.dist_image.specs.Image.{IsImage, IsSlot, IsAnchor, IsNote, IsPremise, key_of}
use Rattle.fitting.specs.Fits.{Fits, IsKept}
use Rattle.fitting.specs.Fails.{state_at, program, Meets}
use Rattle.fitting.specs.Rows.{note}
use Rattle.fitting.proofs.Masked.{apart}
use Rattle.fitting.proofs.Tested.{fits_by}
use Rattle.small_images.specs.Rows.{reading, reading_image, IsMet, IsAlwaysSafe}
use Rattle.small_images.proofs.Cases.{never, yes, none_below, no_failure, none_some, always_safe}

slots : All (IsSlot 1) reading_image.slots
slots zero d l = omega arith
slots (suc zero) d l = ((omega arith, omega arith), omega arith)
slots (suc (suc zero)) d l = ((omega arith, omega arith), omega arith)
slots (suc (suc (suc k))) d l = absurd (omega (arith, l))

anchors : All (IsAnchor 3) reading_image.anchors
anchors zero d l = ((omega arith, omega arith), omega arith, omega arith, omega arith)
anchors (suc k) d l = absurd (omega (arith, l))

notes : All (IsNote 3) reading_image.notes
notes zero d l = ((omega arith, omega arith), omega arith, (omega arith, omega arith), (omega arith, omega arith))
notes (suc zero) d l = ((omega arith, omega arith), omega arith, (omega arith, omega arith), (omega arith, omega arith))
notes (suc (suc zero)) d l = ((omega arith, omega arith), omega arith, (omega arith, omega arith), (omega arith, omega arith))
notes (suc (suc (suc k))) d l = absurd (omega (arith, l))

notes_rise : IsStrictlyIncreasing (map (λ (n : Note). n.pc) reading_image.notes)
notes_rise zero l = omega arith
notes_rise (suc zero) l = omega arith
notes_rise (suc (suc k)) l = absurd (omega (arith, l))

premises : All IsPremise reading_image.assumptions
premises zero d l = ((omega arith, omega arith), omega arith, (λ k d l. none_below k l), λ k l. absurd (omega (arith, l)))
premises (suc zero) d l = ((omega arith, omega arith), omega arith, (λ k d l. none_below k l), λ k l. absurd (omega (arith, l)))
premises (suc (suc zero)) d l = ((omega arith, omega arith), omega arith, (λ k d l. none_below k l), λ k l. absurd (omega (arith, l)))
premises (suc (suc (suc zero))) d l = ((omega arith, omega arith), omega arith, (λ k d l. none_below k l), λ k l. absurd (omega (arith, l)))
premises (suc (suc (suc (suc k)))) d l = absurd (omega (arith, l))

premises_rise : IsStrictlyIncreasing (map key_of reading_image.assumptions)
premises_rise zero l = omega arith
premises_rise (suc zero) l = omega arith
premises_rise (suc (suc zero)) l = omega arith
premises_rise (suc (suc (suc k))) l = absurd (omega (arith, l))

is_image : IsImage reading_image
is_image = record {
  version = inr refl;
  plain = λ e. let h : 2 ≡ 1 = e in absurd (omega (arith, h));
  limit = (omega arith, omega arith);
  few_slots = omega arith;
  few_anchors = omega arith;
  few_notes = omega arith;
  few_assumptions = omega arith;
  few_targets = omega arith;
  slots = slots;
  anchors = anchors;
  anchors_rise = λ k l. absurd (omega (arith, l));
  notes = notes;
  notes_rise = notes_rise;
  assumptions = premises;
  assumptions_rise = premises_rise;
  few_writes = omega arith;
  writes = λ k d l. none_below k l;
  writes_rise = λ k l. absurd (omega (arith, l));
}

-- the word of the slot, or 0
abbrev word_of : Option Slot → ℕ
word_of (Some (Exec origin w)) = w
word_of _ = 0

not_own : IsKept (program reading) reading_image (note 0x00010004 0 0x80 0x80) → ⊥
not_own e = let h : 0x00000513 ≡ 0x0003A503 = ap word_of e in omega (arith, h)

fits : Fits (program reading) reading_image
fits = fits_by (program reading) reading_image ((0, refl), (1, refl), (2, refl)) ((refl, refl), tt) (
  record { either = inr (inl (record { unkept = not_own; slot = (0x00000513, refl, refl); next = (refl, tt) })); aimed = tt; reads = refl; next = (refl, tt); anchor = λ a. refl },
  (
    record { either = inr (inr (record { slot = refl; place = inr refl; may = apart 131072 0 refl; next = (refl, tt) })); aimed = tt; reads = refl; next = (refl, tt); anchor = never },
    (
      record { either = inl (record { slot = refl; reads = refl; next = tt }); aimed = tt; reads = refl; next = tt; anchor = never },
      tt,
    ),
  ),
)

meets : Meets reading reading_image 4
unfolding moved given_values
meets zero l going = no_failure reading reading_image 0 ((λ f. never f.0), ((λ f. never f.0), ((λ f. none_some f.0 f.1), ((λ f. yes f.1), tt))))
meets (suc zero) l going =
    no_failure reading reading_image 1
    ((λ f. f.1 refl), ((λ f. yes f.2), ((λ f. f.2 (inr (2, record { near = omega arith; going = refl; stops = refl }))), ((λ f. yes f.1), tt))))
meets (suc (suc zero)) l going = no_failure reading reading_image 2 ((λ f. f.1 refl), ((λ f. yes f.2), ((λ f. none_some f.0 f.1), ((λ f. yes f.1), tt))))
meets (suc (suc (suc zero))) l going = no_failure reading reading_image 3 ((λ f. f.1 refl), ((λ f. yes f.1), ((λ f. none_some f.0 f.1), ((λ f. yes f.1), tt))))
meets (suc (suc (suc (suc k)))) l going = absurd (omega (arith, l))

over : is_over (state_at reading 4) ≡ true
unfolding moved given_values call
over = refl

pub met : IsMet reading reading_image 4
met = record { valid = is_image; fits = fits; meets = meets }

pub safe : IsAlwaysSafe reading reading_image
safe = always_safe reading reading_image 4 met over
