-- Counts of squashes and of tasks that are given up stay where each event is safe.
use Rattle.std.proofs.Common.{◌≡◌, ℕ, ◌<◌, ◌≤◌, zero, suc, refl, arith, inr}
use Rattle.cells.specs.Run.{State, EndsWithin}
use Rattle.speculation.specs.declared.Counts.{Counts}
use Rattle.speculation.specs.declared.Effect.{Effect}
use Rattle.speculation.specs.declared.Effect.TheVariants.{Moved, Forked, Stalled, Halted, Stepped, Done, Committed, Squashed, Ended, Started, Idle}
use Rattle.speculation.specs.declared.Event.{Event}
use Rattle.speculation.specs.declared.Event.TheVariants.{Master as MasterEvent, Slave, Commit, Serial as SerialEvent, Restart}
use Rattle.speculation.specs.Engine.{Model, happens, counted_by}
use Rattle.speculation.specs.Kept.{Holds}
use Rattle.squash_laws.specs.Tracks.{IsSafe}
use Rattle.dist_image.specs.Image.{Distilled, IsImage}
use Rattle.image_semantics.specs.World.{world}
use Rattle.image_semantics.proofs.Known.{known}
use Rattle.fitting.specs.Fits.{Fits}
use Rattle.fitting.specs.Fails.{state_at, program, Meets}
use Rattle.fitting_laws.specs.Laws.{TracksRun}
use Rattle.fitting_laws.proofs.Safe.{next_safe}
use Rattle.speculation_schedules.specs.Schedule.{after}
use Rattle.speculation_schedules.proofs.After.{holds}
use Rattle.nosquash.proofs.Tracked.{fresh_tracked, event_tracked}

abbrev IsClean : Counts → Type 0
IsClean c = (c.squashed ≡ 0) × (c.dropped ≡ 0)

-- what a safe effect adds to these counts
adds_nothing : (e : Event) (f : Effect) (c : Counts) → IsSafe f → IsClean c → IsClean (counted_by e f c)
adds_nothing e (Squashed d) c safe h = absurd safe
adds_nothing e (Committed steps dropped) c safe h = (h.0, let d = h.1 in omega (arith, safe, d))
adds_nothing SerialEvent Stepped c safe h = h
adds_nothing Restart Stepped c safe h = h
adds_nothing MasterEvent Stepped c safe h = h
adds_nothing (Slave j) Stepped c safe h = h
adds_nothing Commit Stepped c safe h = h
adds_nothing e Moved c safe h = h
adds_nothing e (Forked n) c safe h = h
adds_nothing e Stalled c safe h = h
adds_nothing e (Halted why) c safe h = h
adds_nothing e (Done end) c safe h = h
adds_nothing e (Ended end) c safe h = h
adds_nothing e (Started pc) c safe h = h
adds_nothing e Idle c safe h = h

module _ (start : State) (image : Distilled) (slaves n : ℕ) (ok : IsImage image) (some : 0 < slaves) (fits : Fits (program start) image) (meets : Meets start image n) (ends : EndsWithin (state_at start) n) (event : ℕ → Event) where
  few : 1 ≤ slaves
  few = omega (arith, some)

  one : (m : Model) (e : Event) → Holds (world start image slaves) m → TracksRun start image slaves m → IsClean m.counts → IsClean (happens (world start image slaves) m e).1.counts
  unfolding happens
  one m e h tracks is =
      adds_nothing e (happens (world start image slaves) m e).0 m.counts
      (next_safe start image slaves n ok some fits meets m h tracks (inr ends) e) is

  both : (k : ℕ) → TracksRun start image slaves (after (world start image slaves) event k) × IsClean (after (world start image slaves) event k).counts
  unfolding after
  both zero = (fresh_tracked start image slaves ok few, (refl, refl))
  both (suc k) =
      let m = after (world start image slaves) event k in
      let before = both k in
      let h = holds (world start image slaves) (known start image slaves ok some) event k in
      (event_tracked start image slaves ok few m (event k) h before.0, one m (event k) h before.0 before.1)

pub clean : (start : State) (image : Distilled) (slaves n : ℕ) → IsImage image → 0 < slaves → Fits (program start) image → Meets start image n → EndsWithin (state_at start) n
    → (event : ℕ → Event) (k : ℕ)
    → ((after (world start image slaves) event k).counts.squashed ≡ 0) × ((after (world start image slaves) event k).counts.dropped ≡ 0)
clean start image slaves n ok some fits meets ends event k = (both start image slaves n ok some fits meets ends event k).1
