-- What events do, by the laws against squashes.
use Rattle.std.proofs.Common.{◌≡◌, ℕ, ◌<◌, zero, suc, Bool, true, false, cond, List, [], ◌∷◌, take, Option, Some, None, refl, subst}
use Rattle.std.specs.Prelude.{slice_get}
use Rattle.cells.specs.declared.End.{End}
use Rattle.cells.specs.Run.{State, is_over}
use Rattle.speculation.specs.declared.Counts.{Counts}
use Rattle.speculation.specs.declared.Effect.{Effect}
use Rattle.speculation.specs.declared.Effect.TheVariants.{Idle}
use Rattle.speculation.specs.declared.Event.{Event}
use Rattle.speculation.specs.declared.Event.TheVariants.{Serial as SerialEvent}
use Rattle.speculation.specs.declared.Mode.{Mode}
use Rattle.speculation.specs.declared.Mode.TheVariants.{Serial, Speculating}
use Rattle.speculation.specs.World.{World}
use Rattle.speculation.specs.Engine.{Model, run, effects, happens, fresh, counted, going_on, serial_step, told_end, counted_by}
use Rattle.speculation.proofs.Keeps.{fresh_holds, run_keeps}
use Rattle.squash_laws.specs.Tracks.{IsSafe}
use Rattle.squash_laws.proofs.Safe.{happens_safe, run_tracks, fresh_tracks}
use Rattle.dist_image.specs.Image.{Distilled, IsImage}
use Rattle.image_semantics.specs.World.{world}
use Rattle.fitting_laws.specs.Setting.{setting}
use Rattle.fitting_laws.proofs.Sets.{is_setting}
use Rattle.speculation_schedules.specs.Schedule.{after, alone}
use Rattle.speculative_runs.specs.Unsquashed.{AreUnsquashed}

-- effect k is what an event did to the model before it
effect_is : (w : World) (es : List Event) (m : Model) (k : ℕ) (effect : Effect) → slice_get (effects w es m) k ≡ Some effect → (e : Event) × ((happens w (run w (take k es) m) e).0 ≡ effect)
effect_is w [] m k effect is = absurd (cc)
effect_is w (e ∷ es) m zero effect is = (e, cc)
effect_is w (e ∷ es) m (suc k) effect is = effect_is w es (happens w m e).1 k effect is

pub are_unsquashed : (start : State) (image : Distilled) (slaves : ℕ) → IsImage image → 0 < slaves → (es : List Event) → AreUnsquashed start image (world start image slaves) es
are_unsquashed start image slaves ok some es k effect is = λ fits n meets room.
    let s = setting start image slaves n in
    let w = world start image slaves in
    let at = is_setting start image slaves ok n some fits meets in
    let before = take k es in
    let h = effect_is w es (fresh w) k effect is in
    subst IsSafe h.1
    (happens_safe s at (run w before (fresh w)) h.0 room (run_keeps w at.known before (fresh w) (fresh_holds w)) (run_tracks s at before (fresh w) (fresh_holds w) (fresh_tracks s at)))

abbrev pub IsClean : Counts → Type 0
IsClean c = (c.squashed ≡ 0) × (c.dropped ≡ 0)

-- a serial step squashes nothing
step_clean : (w : World) (m : Model) → IsClean m.counts → IsClean (happens w m SerialEvent).1.counts
unfolding happens
step_clean w m h = clean_if_over (is_over m.committed)
  where
    told : (o : Option End) → IsClean (counted_by SerialEvent (told_end o) m.counts)
    told None = h
    told (Some end) = h

    clean_by_mode : (k : Mode) → IsClean (counted_by SerialEvent (serial_step w m k).0 m.counts)
    clean_by_mode (Serial debt) = told (w.step m.committed).env.over
    clean_by_mode Speculating = h

    clean_if_over : (b : Bool) → IsClean (counted SerialEvent m.counts (cond b (Idle, m) (going_on w m SerialEvent))).1.counts
    clean_if_over true = h
    clean_if_over false = clean_by_mode m.mode

pub alone_clean : (w : World) (k : ℕ) → IsClean (after w alone k).counts
unfolding after
alone_clean w zero = (refl, refl)
alone_clean w (suc k) = step_clean w (after w alone k) (alone_clean w k)
