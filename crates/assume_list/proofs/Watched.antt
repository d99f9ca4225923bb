-- What is kept of a run while it is looked at.
use Rattle.std.proofs.Common.{◌≡◌, ℕ, suc, ◌+◌, Bool, cond, map, Some, refl, sym, ap, ◌∙◌, arith}
use Rattle.rv_semantics.specs.Effect.{is_store}
use Rattle.std.specs.Prelude.{nat_eq, slice_get}
use Rattle.cells.specs.Bytes.{number}
use Rattle.cells.specs.Run.{State}
use Rattle.rv_word.specs.Meaning.{meaning}
use Rattle.rv_semantics.specs.Machine.{word_at}
use Rattle.rv_semantics.specs.Calls.{step}
use Rattle.rv_semantics.specs.Prints.{nowhere}
use Rattle.fitting.specs.Claims.{among}
use Rattle.dist_image.specs.Image.{Premise, Cut, Targets, Dead, Code, Within, Span, Same, Distilled}
use Rattle.fitting.specs.Fits.{is_analysed}
use Rattle.fitting.specs.Fails.{state_at}
use Rattle.profile_laws.specs.Tally.{bytes_in, stored, kept}
use Rattle.assumption_laws.specs.Looks.{read_bytes, fails_by, first_from, first_failing}
use Rattle.assume_list.specs.Marks.{dead_in, counted}
use Rattle.assume_list.specs.Sights.{look_in, marks_after}
use Rattle.assume_list.specs.Watched.{IsWatched}
use Rattle.assume_list.proofs.Sames.{same_first, AreMarked, same_fails, listed_dead, among_counted, counted_on}

none_at : (start : State) (a : ℕ) → (kept nowhere start 0).writers a ≡ 0
unfolding kept
none_at start a = refl

-- the writer of a byte after position j, where the state there is u
abbrev written : State → ℕ → State → ℕ → ℕ
written start j u a = cond (among (bytes_in (stored (meaning (word_at u.arch)) u)) a) (cond (is_store (meaning (word_at u.arch))) (u.arch.pc + 1) 0) ((kept nowhere start j).writers a)

written_is : (start : State) (j a : ℕ) → (kept nowhere start (suc j)).writers a ≡ written start j (state_at start j) a
unfolding kept
written_is start j a = refl

place_is : (j k : ℕ) → k ≡ j + 1 → k ≡ suc j
place_is j k e = omega (arith, e)

pub begun : (start : State) (image : Distilled) (j : ℕ) (s : State) (program dead marks : ℕ → ℕ) (analysed : Bool) → j ≡ 0 → s ≡ start → program ≡ start.arch.mem
    → dead ≡ dead_in image.assumptions → ((a : ℕ) → marks a ≡ 0) → analysed ≡ is_analysed image start.arch.pc → IsWatched start image j s program dead marks analysed
begun start image j s program dead marks analysed zero_is state_is program_is dead_is marks_are analysed_is = record {
  state = state_is ∙ ap (state_at start) (sym zero_is);
  words = program_is;
  claimed = dead_is;
  marked = λ a. marks_are a ∙ sym (ap (counted dead) (ap (λ k. (kept nowhere start k).writers a) zero_is ∙ none a));
  noted = analysed_is ∙ ap (λ (t : State). is_analysed image t.arch.pc) (sym state_is);
}
  where
    none : (a : ℕ) → (kept nowhere start 0).writers a ≡ 0
    none a = none_at start a

pub next : (start : State) (image : Distilled) (j k : ℕ) (s t : State) (program dead marks later after_dead now : ℕ → ℕ) (analysed stays : Bool)
    → IsWatched start image j s program dead marks analysed → k ≡ j + 1 → t ≡ step s → later ≡ program → after_dead ≡ dead
    → ((a : ℕ) → now a ≡ marks_after dead s marks a) → stays ≡ is_analysed image t.arch.pc → IsWatched start image k t later after_dead now stays
next start image j k s t program dead marks later after_dead now analysed stays w k_is t_is later_is dead_is now_is stays_is = record {
  state = t_is ∙ ap step w.state ∙ ap (state_at start) (sym place);
  words = later_is ∙ w.words;
  claimed = dead_is ∙ w.claimed;
  marked = λ a.
      now_is a ∙ counted_on dead marks (kept nowhere start j).writers w.marked s a
      ∙ ap (λ (u : State). counted dead (written start j u a)) w.state
      ∙ ap (counted dead) (sym (written_is start j a))
      ∙ ap (λ i. counted dead ((kept nowhere start i).writers a)) (sym place)
      ∙ ap (λ (d : ℕ → ℕ). counted d ((kept nowhere start k).writers a)) (sym dead_is);
  noted = stays_is;
}
  where
    place : k ≡ suc j
    place = place_is j k k_is

-- what fails first by what is seen is what fails first
pub first_is : (start : State) (image : Distilled) (j : ℕ) (s : State) (program dead marks : ℕ → ℕ) (analysed : Bool) → IsWatched start image j s program dead marks analysed
    → first_from (fails_by (look_in image (number 4 s.arch.pc program) s marks)) 0 image.assumptions ≡ first_failing start image j
first_is start image j s program dead marks analysed w =
    same_first (fails_by (look_in image (number 4 s.arch.pc program) s marks)) (fails_by (look_in image (number 4 s.arch.pc program) s writers)) 0 image.assumptions
    (λ k x at. same_fails (look_in image (number 4 s.arch.pc program) s marks) (look_in image (number 4 s.arch.pc program) s writers)
    (record { pc = refl; stops = refl; side = refl; jumps = refl; changed = refl; analysed = refl; next = refl; stays = refl; load = refl }) x (marked_alike k x at))
    ∙ ap (λ (p : ℕ → ℕ). first_from (fails_by (look_in image (number 4 s.arch.pc p) s writers)) 0 image.assumptions) w.words
    ∙ ap (λ (t : State). first_from (fails_by (look_in image (number 4 t.arch.pc start.arch.mem) t writers)) 0 image.assumptions) w.state
  where
    writers : ℕ → ℕ
    writers = (kept nowhere start j).writers

    marked_alike : (k : ℕ) (x : Premise) → slice_get image.assumptions k ≡ Some x → AreMarked x (map marks (read_bytes image s.arch)) (map writers (read_bytes image s.arch))
    marked_alike k (Cut at taken) e = tt
    marked_alike k (Targets at to) e = tt
    marked_alike k Code e = tt
    marked_alike k Within e = tt
    marked_alike k Span e = tt
    marked_alike k (Same at value) e = tt
    marked_alike k (Dead at) e = among_counted dead marks writers w.marked (read_bytes image s.arch) at
        (ap (λ (d : ℕ → ℕ). nat_eq (d at) 0) w.claimed ∙ listed_dead image.assumptions (λ _. 0) k at e)
