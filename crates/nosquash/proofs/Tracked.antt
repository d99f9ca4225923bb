-- What is tracked from the first event on, and that the next event is safe.
use Rattle.std.proofs.Common.{◌≡◌, ℕ, ◌+◌, ◌<◌, ◌≤◌, sym, ap, subst, arith, Result, Ok, Err}
use Rattle.std.specs.Prelude.{IfOk, OnErr}
use Rattle.std.specs.declared.alloc.AllocError.{AllocError}
use Rattle.std.proofs.Math.Logic.{∥∥₁_elim, ∥∥₁_map₂}
use Rattle.std.specs.Coded.{le_prop, Unit-prop, Coded-set, coded_ℕ}
use Rattle.cells.specs.Run.{State}
use Rattle.speculation.specs.declared.Effect.{Effect}
use Rattle.speculation.specs.declared.Effect.TheVariants.{Moved, Forked, Stalled, Halted, Stepped, Done, Committed, Squashed, Ended, Started, Idle}
use Rattle.speculation.specs.declared.Event.{Event}
use Rattle.speculation.specs.Engine.{Model, Answer, happens, fresh}
use Rattle.speculation.specs.Kept.{Holds}
use Rattle.squash_laws.specs.Tracks.{IsSafe}
use Rattle.dist_image.specs.Image.{Distilled, IsImage}
use Rattle.image_semantics.specs.World.{world}
use Rattle.fitting.specs.Fits.{Fits}
use Rattle.fitting.specs.Fails.{program, Meets, Reaches}
use Rattle.fitting_laws.specs.Laws.{TracksRun}
use Rattle.fitting_laws.specs.Setting.{setting}
use Rattle.fitting_laws.proofs.Safe.{next_safe, broken_before}
use Rattle.fitting_laws.proofs.Sets.{is_setting}
use Rattle.squash_laws.proofs.Safe.{happens_tracks, fresh_tracks}

-- that an event is safe has one proof at most
pub safe_prop : (f : Effect) → IsProp (IsSafe f)
safe_prop (Squashed d) = λ a b. absurd a
safe_prop (Committed steps dropped) = Coded-set coded_ℕ _ _
safe_prop Moved = Unit-prop
safe_prop (Forked n) = Unit-prop
safe_prop Stalled = Unit-prop
safe_prop (Halted why) = Unit-prop
safe_prop Stepped = Unit-prop
safe_prop (Done e) = Unit-prop
safe_prop (Ended e) = Unit-prop
safe_prop (Started pc) = Unit-prop
safe_prop Idle = Unit-prop

module _ (start : State) (image : Distilled) (slaves : ℕ) (ok : IsImage image) (some : 1 ≤ slaves) where
  slave : 0 < slaves
  slave = omega (arith, some)

  -- before the first event
  pub fresh_tracked : TracksRun start image slaves (fresh (world start image slaves))
  fresh_tracked fits n meets = fresh_tracks (setting start image slaves n) (is_setting start image slaves ok n slave fits meets)

  pub event_tracked : (m : Model) (e : Event) → Holds (world start image slaves) m → TracksRun start image slaves m → TracksRun start image slaves (happens (world start image slaves) m e).1
  event_tracked m e holds tracks fits n meets =
      happens_tracks (setting start image slaves n) (is_setting start image slaves ok n slave fits meets) m e holds (tracks fits n meets)

  pub next_tracked : (m : Model) (e : Event) → ∥ Holds (world start image slaves) m ∥₁ → ∥ TracksRun start image slaves m ∥₁ → ∥ TracksRun start image slaves (happens (world start image slaves) m e).1 ∥₁
  next_tracked m e holds tracks = ∥∥₁_map₂ holds tracks (event_tracked m e)

  pub next_is_safe : (m : Model) (e : Event) → ∥ Holds (world start image slaves) m ∥₁ → ∥ TracksRun start image slaves m ∥₁
      → Fits (program start) image → (n : ℕ) → Meets start image n → Reaches start image n m.position → IsSafe (happens (world start image slaves) m e).0
  next_is_safe m e holds tracks fits n meets room =
      ∥∥₁_elim holds (safe_prop _) (λ h. ∥∥₁_elim tracks (safe_prop _) (λ t. next_safe start image slaves n ok slave fits meets m h t room e))

  pub next_breaks : (m : Model) (e : Event) → ∥ Holds (world start image slaves) m ∥₁ → ∥ TracksRun start image slaves m ∥₁
      → (IsSafe (happens (world start image slaves) m e).0 → ⊥) → Fits (program start) image → (n : ℕ) → Meets start image n → n < m.position + image.limit
  next_breaks m e holds tracks bad fits n meets =
      ∥∥₁_elim holds le_prop (λ h. ∥∥₁_elim tracks le_prop (λ t. (broken_before start image slaves n ok slave fits meets m h t e bad).0))

-- an answer, or nothing has changed
abbrev IsAnswer : State → Distilled → ℕ → Model → Model → Event → Result Effect AllocError → Type 0
IsAnswer start image slaves old new e result = IfOk result (λ effect. ◌≡◌ {A = Answer} (effect, new) (happens (world start image slaves) old e))

pub tracked_after : (start start' : State) (image image' : Distilled) (slaves slaves' : ℕ) (old new : Model) (e : Event) (result : Result Effect AllocError)
    → IsImage image → 1 ≤ slaves → ∥ Holds (world start image slaves) old ∥₁ → ∥ TracksRun start image slaves old ∥₁
    → start' ≡ start → image' ≡ image → slaves' ≡ slaves → IsAnswer start image slaves old new e result → OnErr result (new ≡ old)
    → ∥ TracksRun start' image' slaves' new ∥₁
tracked_after start start' image image' slaves slaves' old new e result ok some holds tracks same_start same_image same_slaves answer stays =
    subst (λ (x : State × Distilled × ℕ). ∥ TracksRun x.0 x.1 x.2 new ∥₁) (λ i. (sym same_start i, sym same_image i, sym same_slaves i)) (still_tracked result answer stays)
  where
    still_tracked : (r : Result Effect AllocError) → IsAnswer start image slaves old new e r → OnErr r (new ≡ old) → ∥ TracksRun start image slaves new ∥₁
    still_tracked (Ok effect) is same = subst (λ (m : Model). ∥ TracksRun start image slaves m ∥₁) (sym (ap (λ (a : Answer). a.1) is)) (next_tracked start image slaves ok some old e holds tracks)
    still_tracked (Err x) is same = subst (λ (m : Model). ∥ TracksRun start image slaves m ∥₁) (sym same) tracks

module _ (start : State) (image : Distilled) (slaves : ℕ) (old new : Model) (e : Event) where
  pub safe_after : (result : Result Effect AllocError) → IsImage image → 1 ≤ slaves → ∥ Holds (world start image slaves) old ∥₁ → ∥ TracksRun start image slaves old ∥₁
      → IsAnswer start image slaves old new e result
      → IfOk result (λ effect. Fits (program start) image → (n : ℕ) → Meets start image n → Reaches start image n old.position → IsSafe effect)
  safe_after (Ok effect) ok some holds tracks is = λ fits n meets room.
      subst IsSafe (sym (ap (λ (a : Answer). a.0) is)) (next_is_safe start image slaves ok some old e holds tracks fits n meets room)
  safe_after (Err x) ok some holds tracks is = tt

  pub broken_after : (result : Result Effect AllocError) → IsImage image → 1 ≤ slaves → ∥ Holds (world start image slaves) old ∥₁ → ∥ TracksRun start image slaves old ∥₁
      → IsAnswer start image slaves old new e result
      → IfOk result (λ effect. (IsSafe effect → ⊥) → Fits (program start) image → (n : ℕ) → Meets start image n → n < old.position + image.limit)
  broken_after (Ok effect) ok some holds tracks is = λ bad fits n meets.
      next_breaks start image slaves ok some old e holds tracks (λ safe. bad (subst IsSafe (sym (ap (λ (a : Answer). a.0) is)) safe)) fits n meets
  broken_after (Err x) ok some holds tracks is = tt
