-- The run of nine steps, the sixth of which prints, meets the list at each of them.
use Rattle.std.proofs.Common.{◌≡◌, zero, suc, true, refl, arith, inl, inr}
use Rattle.std.specs.Prelude.{map}
use Rattle.std.specs.List.{All}
use Rattle.std.specs.List.Sorted.{IsStrictlyIncreasing}
use Rattle.cells.specs.Cells.{IsPc}
use Rattle.cells.specs.Run.{is_over}
use Rattle.cells.specs.Seen.{given_values}
use Rattle.speculation.specs.Engine.{happens}
use Rattle.rv_semantics.specs.Calls.{call, write}
use Rattle.rv_semantics.specs.Machine.{moved}
use Rattle.dist_image.specs.declared.image.Note.{Note}
use Rattle.dist_image.specs.Image.{IsImage, IsSlot, IsAnchor, IsNote}
use Rattle.image_semantics.specs.World.{begin}
use Rattle.fitting.specs.Fits.{Fits}
use Rattle.fitting.specs.Fails.{state_at, program, Meets}
use Rattle.fitting.proofs.Masked.{apart}
use Rattle.fitting.proofs.Tested.{fits_by}
use Rattle.small_images.specs.Rows.{greeting, greeting_image, IsMet, IsAlwaysSafe, TaskPrints}
use Rattle.small_images.proofs.Cases.{never, yes, premises, premises_rise, no_failure, none_some, always_safe}

slots : All (IsSlot 1) greeting_image.slots
slots zero d l = omega arith
slots (suc zero) d l = ((omega arith, omega arith), omega arith)
slots (suc (suc zero)) d l = ((omega arith, omega arith), omega arith)
slots (suc (suc (suc k))) d l = absurd (omega (arith, l))

anchors : All (IsAnchor 3) greeting_image.anchors
anchors zero d l = ((omega arith, omega arith), omega arith, omega arith, omega arith)
anchors (suc k) d l = absurd (omega (arith, l))

notes : All (IsNote 3) greeting_image.notes
notes zero d l = ((omega arith, omega arith), omega arith, (omega arith, omega arith), (omega arith, omega arith))
notes (suc zero) d l = ((omega arith, omega arith), omega arith, (omega arith, omega arith), (omega arith, omega arith))
notes (suc (suc zero)) d l = ((omega arith, omega arith), omega arith, (omega arith, omega arith), (omega arith, omega arith))
notes (suc (suc (suc zero))) d l = ((omega arith, omega arith), omega arith, (omega arith, omega arith), (omega arith, omega arith))
notes (suc (suc (suc (suc k)))) d l = absurd (omega (arith, l))

notes_rise : IsStrictlyIncreasing (map (λ (n : Note). n.pc) greeting_image.notes)
notes_rise zero l = omega arith
notes_rise (suc zero) l = omega arith
notes_rise (suc (suc zero)) l = omega arith
notes_rise (suc (suc (suc k))) l = absurd (omega (arith, l))

writes : All IsPc greeting_image.writes
writes zero d l = (omega arith, omega arith)
writes (suc k) d l = absurd (omega (arith, l))

is_image : IsImage greeting_image
is_image = record {
  version = inr refl;
  plain = λ e. let h : 2 ≡ 1 = e in absurd (omega (arith, h));
  limit = (omega arith, omega arith);
  few_slots = omega arith;
  few_anchors = omega arith;
  few_notes = omega arith;
  few_assumptions = omega arith;
  few_targets = omega arith;
  slots = slots;
  anchors = anchors;
  anchors_rise = λ k l. absurd (omega (arith, l));
  notes = notes;
  notes_rise = notes_rise;
  assumptions = premises;
  assumptions_rise = premises_rise;
  few_writes = omega arith;
  writes = writes;
  writes_rise = λ k l. absurd (omega (arith, l));
}

fits : Fits (program greeting) greeting_image
fits = fits_by (program greeting) greeting_image ((0, refl), (1, refl), (2, refl)) ((refl, refl), tt) (
  record { either = inl (record { slot = refl; reads = refl; next = (refl, tt) }); aimed = tt; reads = refl; next = (refl, tt); anchor = λ a. refl },
  (
    record { either = inr (inr (record { slot = refl; place = inr refl; may = apart 1024 0 refl; next = (refl, tt) })); aimed = tt; reads = refl; next = (refl, tt); anchor = never },
    (
      record { either = inr (inr (record { slot = refl; place = inr refl; may = apart 131072 0 refl; next = (refl, tt) })); aimed = tt; reads = refl; next = (refl, tt); anchor = never },
      (
        record { either = inl (record { slot = refl; reads = refl; next = tt }); aimed = tt; reads = refl; next = tt; anchor = never },
        tt,
      ),
    ),
  ),
)

meets : Meets greeting greeting_image 9
unfolding moved given_values call write
meets zero l going = no_failure greeting greeting_image 0 ((λ f. never f.0), ((λ f. never f.0), ((λ f. none_some f.0 f.1), tt)))
meets (suc zero) l going = no_failure greeting greeting_image 1 ((λ f. never f.0), ((λ f. never f.0), ((λ f. none_some f.0 f.1), tt)))
meets (suc (suc zero)) l going = no_failure greeting greeting_image 2 ((λ f. never f.0), ((λ f. never f.0), ((λ f. none_some f.0 f.1), tt)))
meets (suc (suc (suc zero))) l going = no_failure greeting greeting_image 3 ((λ f. never f.0), ((λ f. never f.0), ((λ f. none_some f.0 f.1), tt)))
meets (suc (suc (suc (suc zero)))) l going = no_failure greeting greeting_image 4 ((λ f. never f.0), ((λ f. never f.0), ((λ f. none_some f.0 f.1), tt)))
meets (suc (suc (suc (suc (suc zero))))) l going = no_failure greeting greeting_image 5 ((λ f. f.1 refl), ((λ f. yes f.2), ((λ f. f.2 (inr (3, record { near = omega arith; going = refl; stops = refl }))), tt)))
meets (suc (suc (suc (suc (suc (suc zero)))))) l going = no_failure greeting greeting_image 6 ((λ f. f.1 refl), ((λ f. yes f.2), ((λ f. none_some f.0 f.1), tt)))
meets (suc (suc (suc (suc (suc (suc (suc zero))))))) l going = no_failure greeting greeting_image 7 ((λ f. f.1 refl), ((λ f. yes f.2), ((λ f. none_some f.0 f.1), tt)))
meets (suc (suc (suc (suc (suc (suc (suc (suc zero)))))))) l going = no_failure greeting greeting_image 8 ((λ f. f.1 refl), ((λ f. yes f.1), ((λ f. none_some f.0 f.1), tt)))
meets (suc (suc (suc (suc (suc (suc (suc (suc (suc k))))))))) l going = absurd (omega (arith, l))

over : is_over (state_at greeting 9) ≡ true
unfolding moved given_values call write
over = refl

pub met : IsMet greeting greeting_image 9
met = record { valid = is_image; fits = fits; meets = meets }

pub safe : IsAlwaysSafe greeting greeting_image
safe = always_safe greeting greeting_image 9 met over

pub prints : TaskPrints
unfolding happens begin moved given_values call write
prints = refl
