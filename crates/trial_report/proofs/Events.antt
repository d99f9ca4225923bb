-- Events that are given one after the other.
use Rattle.std.proofs.Common.{◌≡◌, ℕ, ◌+◌, ◌<◌, ◌≤◌, zero, suc, false, refl, ap, subst, ◌∙◌, arith, ⊎_elim}
use Rattle.std.proofs.lemmas.Bool.{cases_lt}
use Rattle.std.specs.Prelude.{Option, Some, None, is_some}
use Rattle.cells.specs.declared.End.{End}
use Rattle.cells.specs.Run.{State, is_over, is_end}
use Rattle.speculation.specs.declared.Event.{Event}
use Rattle.speculation.specs.World.{World}
use Rattle.speculation.specs.Engine.{Model, happens, fresh}
use Rattle.speculation_schedules.specs.Schedule.{after}
use Rattle.dist_image.specs.Image.{Distilled}
use Rattle.image_semantics.specs.World.{world}
use Rattle.event_list.specs.Draws.{Drawing, generator_of, generator_after, drawn_event, drawn}

-- the same world, from its parts
pub same_world : (s t : State) (i j : Distilled) (m n : ℕ) → s ≡ t → i ≡ j → m ≡ n → world s i m ≡ world t j n
same_world s t i j m n a b c = λ z. world (a z) (b z) (c z)

-- each is counted
pub counted_after : (w : World) (event : ℕ → Event) (k : ℕ) → (after w event k).counts.events ≡ k
unfolding after happens
counted_after w event zero = refl
counted_after w event (suc k) = let before = counted_after w event k in omega (arith, before)

-- none is given at first
pub fresh_after : (w : World) (event : ℕ → Event) → fresh w ≡ after w event 0
unfolding after
fresh_after w event = refl

-- one more is
pub next_after : (w v : World) (event : ℕ → Event) (k : ℕ) (m m' : Model) (e : Event) → v ≡ w → m ≡ after w event k → e ≡ event k → m' ≡ (happens v m e).1 → m' ≡ after w event (k + 1)
unfolding after
next_after w v event k m m' e world is same next =
    let suc_is : suc k ≡ k + 1 = omega arith in
    next ∙ (λ i. (happens (world i) (is i) (same i)).1) ∙ ap (after w event) suc_is

-- the run had not ended before any of them
pub goes_on : (w : World) (event : ℕ → Event) (k : ℕ) → ((j : ℕ) → j < k → is_over (after w event j).committed ≡ false) → is_over (after w event k).committed ≡ false
    → (j : ℕ) → j < k + 1 → is_over (after w event j).committed ≡ false
goes_on w event k before here j l =
    ⊎_elim
    (λ (b : j < k). before j b)
    (λ (b : k ≤ j). let same : k ≡ j = omega (arith, l, b) in subst (λ n. is_over (after w event n).committed ≡ false) same here)
    (cases_lt j k)

-- ---- what is drawn

pub first_draw : (number : ℕ) (d : Drawing) → d ≡ record { generator = generator_of number; slaves = 4 } → d ≡ record { generator = generator_after number 0; slaves = 4 }
unfolding generator_after
first_draw number d is = is

pub next_draw : (number k : ℕ) (d d' : Drawing) → d ≡ record { generator = generator_after number k; slaves = 4 } → d' ≡ (drawn_event d).1
    → d' ≡ record { generator = generator_after number (k + 1); slaves = 4 }
unfolding generator_after
next_draw number k d d' is next =
    let suc_is : suc k ≡ k + 1 = omega arith in
    let left : ℕ → Drawing = λ n. record { generator = generator_after number n; slaves = 4 } in
    next ∙ ap (λ (x : Drawing). (drawn_event x).1) is ∙ ap left suc_is

pub drawn_so : (number k : ℕ) (d : Drawing) (e : Event) → d ≡ record { generator = generator_after number k; slaves = 4 } → e ≡ (drawn_event d).0 → e ≡ drawn number 4 k
drawn_so number k d e is this = this ∙ ap (λ (x : Drawing). (drawn_event x).0) is

-- ---- what a machine tells

pub still_on : (end : Option End) → is_some end ≡ false → is_end end ≡ false
still_on None h = refl
still_on (Some e) h = absurd (cc)
