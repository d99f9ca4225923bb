-- What is seen of a position in the code's own terms is what is looked at.
use Rattle.std.proofs.Common.{◌≡◌, ℕ, ◌+◌, Bool, false, ◌||◌, ◌++◌, List, map, Option, Some, None, refl, sym, ap, ◌∙◌, true≢false}
use Rattle.std.specs.Prelude.{IsNone}
use Rattle.cells.specs.declared.End.{End}
use Rattle.cells.specs.Run.{State, is_over, is_end}
use Rattle.rv_word.specs.Meaning.{meaning}
use Rattle.rv_semantics.specs.Machine.{word_at}
use Rattle.rv_semantics.specs.Calls.{step}
use Rattle.dist_image.specs.Image.{Premise, Cut, Targets, Dead, Code, Within, Span, Same, Distilled, prints_at}
use Rattle.image_semantics.specs.World.{task_machine}
use Rattle.fitting.specs.Claims.{among}
use Rattle.profile_laws.specs.Tally.{Span as Bytes, span, places, bytes_in, loaded}
use Rattle.assumption_laws.specs.Looks.{read_bytes, fails_by, first_from}
use Rattle.assume_list.specs.declared.sight.Sight.{Sight}
use Rattle.assume_list.specs.Sights.{seen, look_in, is_stopping_call}
use Rattle.assume_list.proofs.Stops.{stops_is}
use Rattle.assume_list.proofs.Sames.{same_first, IsAlike, AreMarked, same_fails}

pub not_over : (end : Option End) → IsNone end → is_end end ≡ false
not_over None h = refl
not_over (Some e) h = absurd (true≢false h)

-- it stops where it is a call that no task does, or the run is over afterwards
pub stop_seen : (image : Distilled) (s t : State) (calls stops : Bool) → is_over s ≡ false → t ≡ step s → calls ≡ is_stopping_call (prints_at image) (meaning (word_at s.arch)) s.arch
    → stops ≡ (calls || is_over t) → stops ≡ (task_machine image).stops s.arch
stop_seen image s t calls stops going t_is calls_is stops_is_so =
    stops_is_so ∙ ap (λ b. b || is_over t) calls_is ∙ ap (λ (u : State). is_stopping_call (prints_at image) (meaning (word_at s.arch)) s.arch || is_over u) t_is ∙ sym (stops_is (prints_at image) s going)

pub marks_seen : (image : Distilled) (s : State) (marks : ℕ → ℕ) (read : List ℕ) (count from : ℕ) → span count from ≡ loaded (prints_at image) (meaning (word_at s.arch)) s.arch
    → ((at : ℕ) → among read (at + 1) ≡ among (map marks (places 4 s.arch.pc ++ places count from)) (at + 1))
    → (at : ℕ) → among read (at + 1) ≡ among (map marks (read_bytes image s.arch)) (at + 1)
marks_seen image s marks read count from is e at = e at ∙ ap (λ (b : Bytes). among (map marks (places 4 s.arch.pc ++ bytes_in b)) (at + 1)) is

pub looked : (image : Distilled) (word : ℕ) (s : State) (marks : ℕ → ℕ) (v : Sight) (read : List ℕ) (result : Option ℕ)
    → result ≡ first_from (fails_by (seen v read)) 0 image.assumptions → IsAlike (seen v read) (look_in image word s marks)
    → ((at : ℕ) → among read (at + 1) ≡ among (map marks (read_bytes image s.arch)) (at + 1))
    → result ≡ first_from (fails_by (look_in image word s marks)) 0 image.assumptions
looked image word s marks v read result is alike e =
    is ∙ same_first (fails_by (seen v read)) (fails_by (look_in image word s marks)) 0 image.assumptions (λ k x at. same_fails (seen v read) (look_in image word s marks) alike x (marked x))
  where
    marked : (x : Premise) → AreMarked x read (map marks (read_bytes image s.arch))
    marked (Cut at taken) = tt
    marked (Targets at to) = tt
    marked (Dead at) = e at
    marked Code = tt
    marked Within = tt
    marked Span = tt
    marked (Same at value) = tt
