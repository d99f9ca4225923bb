-- The run of three steps meets the list at each of them.
use Rattle.std.proofs.Common.{◌≡◌, zero, suc, true, refl, arith, inl, inr}
use Rattle.std.specs.List.{All}
use Rattle.cells.specs.Run.{is_over}
use Rattle.cells.specs.Seen.{given_values}
use Rattle.rv_semantics.specs.Calls.{call}
use Rattle.rv_semantics.specs.Machine.{moved}
use Rattle.dist_image.specs.Image.{IsImage, IsSlot, IsAnchor, IsNote}
use Rattle.fitting.specs.Fits.{Fits}
use Rattle.fitting.specs.Fails.{state_at, program, Meets}
use Rattle.fitting.proofs.Tested.{fits_by}
use Rattle.small_images.specs.Rows.{exiting, exit_image, IsMet, IsAlwaysSafe}
use Rattle.small_images.proofs.Cases.{never, yes, none_below, premises, premises_known, premises_rise, no_failure, none_some, always_safe}

slots : All (IsSlot 1) exit_image.slots
slots zero d l = omega arith
slots (suc zero) d l = ((omega arith, omega arith), omega arith)
slots (suc (suc k)) d l = absurd (omega (arith, l))

anchors : All (IsAnchor 2) exit_image.anchors
anchors zero d l = ((omega arith, omega arith), omega arith, omega arith, omega arith)
anchors (suc k) d l = absurd (omega (arith, l))

notes : All (IsNote 2) exit_image.notes
notes zero d l = ((omega arith, omega arith), omega arith, (omega arith, omega arith), (omega arith, omega arith))
notes (suc k) d l = absurd (omega (arith, l))

is_image : IsImage exit_image
is_image = record {
  version = inl refl;
  plain = λ e. (refl, premises_known);
  limit = (omega arith, omega arith);
  few_slots = omega arith;
  few_anchors = omega arith;
  few_notes = omega arith;
  few_assumptions = omega arith;
  few_targets = omega arith;
  slots = slots;
  anchors = anchors;
  anchors_rise = λ k l. absurd (omega (arith, l));
  notes = notes;
  notes_rise = λ k l. absurd (omega (arith, l));
  assumptions = premises;
  assumptions_rise = premises_rise;
  few_writes = omega arith;
  writes = λ k d l. none_below k l;
  writes_rise = λ k l. absurd (omega (arith, l));
}

fits : Fits (program exiting) exit_image
fits = fits_by (program exiting) exit_image ((0, refl), (1, refl), (2, refl)) ((refl, refl), tt)
    (record { either = inl (record { slot = refl; reads = refl; next = tt }); aimed = tt; reads = refl; next = tt; anchor = λ a. refl }, tt)

meets : Meets exiting exit_image 3
unfolding moved given_values
meets zero l going = no_failure exiting exit_image 0 ((λ f. never f.0), ((λ f. never f.0), ((λ f. none_some f.0 f.1), tt)))
meets (suc zero) l going = no_failure exiting exit_image 1 ((λ f. never f.0), ((λ f. never f.0), ((λ f. none_some f.0 f.1), tt)))
meets (suc (suc zero)) l going = no_failure exiting exit_image 2 ((λ f. f.1 refl), ((λ f. yes f.1), ((λ f. f.2 (inr (0, record { near = omega arith; going = refl; stops = refl }))), tt)))
meets (suc (suc (suc k))) l going = absurd (omega (arith, l))

over : is_over (state_at exiting 3) ≡ true
unfolding moved given_values call
over = refl

pub met : IsMet exiting exit_image 3
met = record { valid = is_image; fits = fits; meets = meets }

pub safe : IsAlwaysSafe exiting exit_image
safe = always_safe exiting exit_image 3 met over
