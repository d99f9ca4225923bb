-- What stands after some events.
use Rattle.std.proofs.Common.{◌≡◌, ℕ, ◌+◌, ◌<◌, ◌≤◌, zero, suc, Bool, true, false, cond, List, [], ◌∷◌, Option, Some, None, refl, ap, subst, inl, inr, ◌⊎◌}
use Rattle.std.specs.Prelude.{nat_lt, length}
use mathlib.Core.Path.{fun_ext}
use Rattle.cells.specs.declared.Differ.{Differ}
use Rattle.cells.specs.Run.{is_over}
use Rattle.speculation.specs.declared.Effect.TheVariants.{Idle}
use Rattle.speculation.specs.declared.Ending.{Ending}
use Rattle.speculation.specs.declared.Ending.TheVariants.{Reached, Met, Full}
use Rattle.speculation.specs.declared.Event.{Event}
use Rattle.speculation.specs.declared.Event.TheVariants.{Master as MasterEvent, Slave, Commit, Serial as SerialEvent, Restart}
use Rattle.speculation.specs.declared.Mode.{Mode}
use Rattle.speculation.specs.declared.Mode.TheVariants.{Serial, Speculating}
use Rattle.speculation.specs.World.{World, IsWorld, Master, Driven, Goes, Spawns, Stays, Halts}
use Rattle.speculation.specs.Task.{Task, differ_at}
use Rattle.speculation.specs.Engine.{Model, settled, restart, serial_step, driven, master_step, jumped, committed_as, commit_front, commit, counted, going_on, happens}
use Rattle.speculation.specs.Kept.{Holds}
use Rattle.speculation_schedules.specs.Schedule.{after, has_come}
use Rattle.speculation_schedules.specs.Exchanges.{after_each, AreExchanged}
use Rattle.speculation_schedules.proofs.Exchanged as worlds

-- an event ends nothing, or takes the position on by one
abbrev pub EndsByStep : Model → Model → Type 0
EndsByStep m m' = (m'.committed.env.over ≡ m.committed.env.over) ⊎ (m'.position ≡ m.position + 1)

module _ (w : World) where
  by_restart : (m : Model) (k : Mode) (o : Option ℕ) → EndsByStep m (restart w m k o).1
  by_restart m (Serial false) (Some c) = inl refl
  by_restart m (Serial false) None = inl refl
  by_restart m (Serial true) o = inl refl
  by_restart m Speculating o = inl refl

  by_serial : (m : Model) (k : Mode) → EndsByStep m (serial_step w m k).1
  by_serial m (Serial d) = inr refl
  by_serial m Speculating = inl refl

  by_settled : (m x : Model) (a : Option Master) (ts : List Task) → x.committed.env.over ≡ m.committed.env.over → (settled x a ts).committed.env.over ≡ m.committed.env.over
  by_settled m x None [] e = e
  by_settled m x None (t ∷ ts) e = e
  by_settled m x (Some a) ts e = e

  by_driven : (m : Model) (d : Driven) → EndsByStep m (driven w m d).1
  by_driven m (Goes a) = inl refl
  by_driven m (Spawns pc a) = inl refl
  by_driven m Stays = inl refl
  by_driven m (Halts why) = inl (by_settled m (record m { master = None }) None m.tasks refl)

  by_master : (m : Model) (o : Option Master) → EndsByStep m (master_step w m o).1
  by_master m None = inl refl
  by_master m (Some a) = by_driven m (w.drive (nat_lt (length m.tasks) w.slaves) a)

  by_committed : (m : Model) (t : Task) (ts : List Task) (e : Ending) → (committed_as w m t ts e).committed.env.over ≡ m.committed.env.over
  by_committed m t ts Reached = by_settled m (record (jumped w m t) { tasks = ts }) m.master ts refl
  by_committed m t ts Met = refl
  by_committed m t ts Full = refl

  by_front : (m : Model) (t : Task) (ts : List Task) (o : Option Ending) (d : Option Differ) → EndsByStep m (commit_front w m t ts o d).1
  by_front m t ts None d = inl refl
  by_front m t ts (Some e) (Some d) = inl refl
  by_front m t ts (Some e) None = inl (by_committed m t ts e)

  by_commit : (m : Model) (ts : List Task) → EndsByStep m (commit w m ts).1
  by_commit m [] = inl refl
  by_commit m (t ∷ ts) = by_front m t ts t.ending (differ_at w t m.committed)

  by_event : (m : Model) (e : Event) → EndsByStep m (going_on w m e).1
  by_event m Restart = by_restart m m.mode (w.anchor m.committed.arch.pc)
  by_event m SerialEvent = by_serial m m.mode
  by_event m MasterEvent = by_master m m.master
  by_event m (Slave j) = inl refl
  by_event m Commit = by_commit m m.tasks

  pub ends_by_step : (m : Model) (e : Event) → EndsByStep m (happens w m e).1
  unfolding happens
  ends_by_step m e = ends_if_over (is_over m.committed)
    where
      ends_if_over : (b : Bool) → EndsByStep m (counted e m.counts (cond b (Idle, m) (going_on w m e))).1
      ends_if_over true = inl refl
      ends_if_over false = by_event m e

  module _ (known : IsWorld w) (event : ℕ → Event) where
    -- one world alone is a world that gives way to itself
    pub always : AreExchanged (λ k. w) event
    always = record { known = λ k. known; run = λ k n. refl; serial = λ k. inl refl }

    after_same : (k : ℕ) → after_each (λ k. w) event k ≡ after w event k
    unfolding after after_each
    after_same zero = refl
    after_same (suc k) = ap (λ (m : Model). (happens w m (event k)).1) (after_same k)

    pub same : after_each (λ k. w) event ≡ after w event
    same = fun_ext after_same

    pub holds : (k : ℕ) → Holds w (after w event k)
    holds k = subst (λ (f : ℕ → Model). Holds w (f k)) same (worlds.holds (λ k. w) event always k)

    pub rises : (k : ℕ) → (after w event k).position ≤ (after w event (suc k)).position
    rises k = subst (λ (f : ℕ → Model). (f k).position ≤ (f (suc k)).position) same (worlds.rises (λ k. w) event always k)

    pub step_ends : (k : ℕ) → EndsByStep (after w event k) (after w event (suc k))
    unfolding after
    step_ends k = ends_by_step (after w event k) (event k)

    pub before : (far j k : ℕ) → has_come far (after w event j) ≡ false → has_come far (after w event k) ≡ true → j < k
    before far j k =
        subst (λ (f : ℕ → Model). has_come far (f j) ≡ false → has_come far (f k) ≡ true → j < k) same (worlds.before (λ k. w) event always far j k)
