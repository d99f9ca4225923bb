-- A machine that is given events: it comes to a stop, its output only grows, and what it is given is counted.
use Rattle.std.proofs.Common.{◌≡◌, ℕ, ◌+◌, ◌-◌, ◌*◌, ◌^◌, ◌<◌, ◌≤◌, zero, suc, Bool, true, false, cond, [], refl, sym, ap, subst, ◌∙◌, arith, inl, inr}
use Rattle.std.specs.Prelude.{nat_eq}
use Rattle.std.proofs.lemmas.Bool.{cases_lt}
use Rattle.std.proofs.Math.Nat.{mul-le-mul_right, mul-le-mul_left}
use Rattle.cells.specs.Run.{State, is_over, iterate}
use Rattle.rv_semantics.specs.Calls.{step}
use Rattle.speculation.specs.declared.Event.{Event}
use Rattle.speculation.specs.World.{World, IsWorld}
use Rattle.speculation.specs.Engine.{Model, happens, fresh}
use Rattle.dist_image.specs.Image.{Distilled, IsImage, most_steps}
use Rattle.image_semantics.specs.World.{world}
use Rattle.image_semantics.proofs.Known.{known, spends}
use Rattle.speculation_schedules.specs.Schedule.{after, has_come, IsFirstStop}
use Rattle.speculation_schedules.proofs.After.{holds, rises}
use Rattle.speculation_schedules.proofs.Near.{near_event, near_stop}
use Rattle.speculation_schedules.proofs.Rounds.{rounds_come}
use Rattle.speculation_schedules.proofs.Stops.{steps_come, stops}
use Rattle.speculative_runs.specs.declared.speculating.Schedule.{Schedule}
use Rattle.speculative_runs.specs.declared.speculating.Schedule.TheVariants.{Rounds, Alone}
use Rattle.speculative_runs.specs.Speculated.{events_of, most, IsStop}
use Rattle.speculative_runs.proofs.Runs.{Grows, grows}

-- ---- events one after the other

-- each is counted
pub counted_after : (w : World) (event : ℕ → Event) (k : ℕ) → (after w event k).counts.events ≡ k
unfolding after happens
counted_after w event zero = refl
counted_after w event (suc k) = let before = counted_after w event k in omega (arith, before)

-- one more
pub next_after : (w : World) (event : ℕ → Event) (k n : ℕ) (m m' : Model) (e : Event) → m ≡ after w event k → e ≡ event k → m' ≡ (happens w m e).1 → n ≡ k + 1 → m' ≡ after w event n
unfolding after
next_after w event k n m m' e is same next one =
    let suc_is : suc k ≡ n = omega (arith, one) in
    next ∙ (λ i. (happens w (is i) (same i)).1) ∙ ap (after w event) suc_is

-- ---- the course of a machine: its models after each number of events

-- Each is the sequential run from `start` at its position, which never falls; it has come far enough after `most` events at the latest; and where it
-- first has it stops as the run does
pub record IsCourse (start : State) (w : World) (models : ℕ → Model) (far most : ℕ) : Type 0 where
  pub is_run : (k : ℕ) → (models k).committed ≡ iterate step start (models k).position
  pub rises : (k : ℕ) → (models k).position ≤ (models (suc k)).position
  pub comes : (k : ℕ) → has_come far (models k) ≡ false → k < most
  pub stops : (k : ℕ) → IsFirstStop models far k → IsStop w models far k

module _ (models : ℕ → Model) (far : ℕ) where
  abbrev Before : ℕ → Type 0
  Before j = (i : ℕ) → i < j → has_come far (models i) ≡ false

  not_before : (j : ℕ) → Before j → has_come far (models j) ≡ false → Before (suc j)
  not_before j before e i l = elim (cases_lt i j) [
    | inl below ↦ before i below
    | inr above ↦ let same : j ≡ i = omega (arith, l, above) in subst (λ n. has_come far (models n) ≡ false) same e
  ]

  here_or_later : (j : ℕ) → Before j → (Before (suc j) → (k : ℕ) × IsFirstStop models far k × (suc j ≤ k)) → (b : Bool) → has_come far (models j) ≡ b
      → (k : ℕ) × IsFirstStop models far k × (j ≤ k)
  here_or_later j before later true e = (j, record { there = e; first = before }, omega arith)
  here_or_later j before later false e =
      let found = later (not_before j before e) in
      let l = found.2 in
      (found.0, found.1, omega (arith, l))

  -- the stop that comes, if there has been none before and one comes at last
  first_stop : (d j : ℕ) → Before j → has_come far (models (d + j)) ≡ true → (k : ℕ) × IsFirstStop models far k × (j ≤ k)
  first_stop zero j before there =
      let same : 0 + j ≡ j = omega arith in (j, record { there = subst (λ n. has_come far (models n) ≡ true) same there; first = before }, omega arith)
  first_stop (suc d) j before there =
      let same : suc d + j ≡ d + suc j = omega arith in
      here_or_later j before (λ all. first_stop d (suc j) all (subst (λ n. has_come far (models n) ≡ true) same there)) (has_come far (models j)) refl

module _ {start : State} {w : World} {models : ℕ → Model} {far most : ℕ} (course : IsCourse start w models far most) where
  comes_at_last : has_come far (models most) ≡ true
  comes_at_last = came_if (has_come far (models most)) refl
    where
      came_if : (b : Bool) → has_come far (models most) ≡ b → b ≡ true
      came_if true e = refl
      came_if false e = let l = course.comes most e in absurd (omega (arith, l))

  -- it comes to a stop, and none comes before it has come far enough
  pub stop_comes : (j : ℕ) → ((i : ℕ) → i < j → has_come far (models i) ≡ false) → (k : ℕ) × IsFirstStop models far k × (j ≤ k)
  stop_comes zero before =
      let same : most ≡ most + 0 = omega arith in
      first_stop models far most 0 before (subst (λ m. has_come far (models m) ≡ true) same comes_at_last)
  stop_comes (suc j) before =
      let l = course.comes j (before j (omega arith)) in
      let same : most ≡ (most - suc j) + suc j = omega (arith, l) in
      first_stop models far (most - suc j) (suc j) before (subst (λ m. has_come far (models m) ≡ true) same comes_at_last)

  rises_by : (j d : ℕ) → (models j).position ≤ (models (d + j)).position
  rises_by j zero = let same : j ≡ 0 + j = omega arith in subst (λ n. (models j).position ≤ (models n).position) same (omega arith)
  rises_by j (suc d) =
      let same : suc (d + j) ≡ suc d + j = omega arith in
      let before = rises_by j d in
      let last = course.rises (d + j) in
      subst (λ n. (models j).position ≤ (models n).position) same (omega (arith, before, last))

  -- outputs only grow
  pub outputs_grow : (j k : ℕ) → j ≤ k → Grows (models j).committed (models k).committed
  outputs_grow j k l =
      let p = (models j).position in
      let q = (models k).position in
      let there : (k - j) + j ≡ k = omega (arith, l) in
      let rise : p ≤ q = subst (λ n. p ≤ (models n).position) there (rises_by j (k - j)) in
      let far_on : (q - p) + p ≡ q = omega (arith, rise) in
      let g : Grows (iterate step start p) (iterate step start q) = subst (λ n. Grows (iterate step start p) (iterate step start n)) far_on (grows start p (q - p)) in
      subst (λ s. Grows s (models k).committed) (sym (course.is_run j)) (subst (λ s. Grows (iterate step start p) s) (sym (course.is_run k)) g)

-- the longest task of either version
pub most_steps_few : (version : ℕ) → most_steps version ≤ 16384
most_steps_few version = elim (nat_eq version 1) as (λ b. cond b 16384 4096 ≤ 16384) [ true ↦ omega arith | false ↦ omega arith ]

-- ---- the world of a run beside an image

module _ (start : State) (image : Distilled) (slaves : ℕ) (ok : IsImage image) (some : 0 < slaves) where
  abbrev w : World
  w = world start image slaves

  abbrev is_known : IsWorld w
  is_known = known start image slaves ok some

  short : image.limit ≤ 16384
  short = let l = ok.limit.1 in let few = most_steps_few image.version in omega (arith, l, few)

  pub comes : (s : Schedule) (far k : ℕ) → has_come far (after w (events_of s slaves) k) ≡ false → k < most s w far
  comes Rounds far k not_yet = rounds_come w is_known (spends start image slaves) far k not_yet
  comes Alone far k not_yet = steps_come w is_known far k not_yet

  -- the number of events has room
  pub few_events : (s : Schedule) (far : ℕ) → slaves ≤ 64 → far ≤ 10 ^ 12 → most s w far < 2 ^ 64 - 1
  few_events Alone far few bounded = omega (arith, bounded)
  few_events Rounds far few bounded =
      let limit : 5 * image.limit + 7 ≤ 81927 = let l = short in omega (arith, l) in
      let a : (5 * image.limit + 7) * far ≤ 81927 * far = mul-le-mul_right far limit in
      let b : 81927 * far ≤ 81927 * 10 ^ 12 = omega (arith, bounded) in
      let turns : slaves + 7 ≤ 71 = omega (arith, few) in
      let c : (5 * image.limit + 7) * far * (slaves + 7) ≤ (5 * image.limit + 7) * far * 71 = mul-le-mul_left ((5 * image.limit + 7) * far) turns in
      omega (arith, a, b, c)

  near : (event : ℕ → Event) (far k : ℕ) → 0 < far → IsFirstStop (after w event) far k → (after w event k).position < far + image.limit
  unfolding after
  near event far k least stop = near_stop (after w event) image.limit (first_position event) (λ j. near_next event j) far k least stop
    where
      first_position : (event : ℕ → Event) → (after w event 0).position ≡ 0
      first_position event = refl

      near_next : (event : ℕ → Event) (j : ℕ) → (after w event (suc j)).position ≤ (after w event j).position + image.limit
      near_next event j = near_event w is_known.limit (after w event j) (event j) (holds w is_known event j).tasks

  -- the course of a machine that is given these events
  pub its_course : (s : Schedule) (far : ℕ) → 0 < far → is_over start ≡ false → IsCourse start w (after w (events_of s slaves)) far (most s w far)
  its_course s far least runs =
      let event = events_of s slaves in
      record {
        is_run = λ k. (holds w is_known event k).is_seq;
        rises = λ k. rises w is_known event k;
        comes = λ k not_yet. comes s far k not_yet;
        stops = λ k stop. record {
          first = stop;
          sequential = stops w is_known runs event far k stop;
          near = let l = near event far k least stop in let l2 = short in omega (arith, l, l2);
        };
      }

-- none yet
pub begins_after : (w : World) (event : ℕ → Event) (m : Model) → m ≡ fresh w → m ≡ after w event 0
unfolding after
begins_after w event m e = e

pub silent_after : (w : World) (event : ℕ → Event) → w.start.env.output ≡ [] → (after w event 0).committed.env.output ≡ []
unfolding after
silent_after w event e = e
