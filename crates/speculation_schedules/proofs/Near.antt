-- An event takes the position on by a task's steps at most, and so a machine stops near where it was to come.
use Rattle.std.proofs.Common.{◌≡◌, ℕ, ◌+◌, ◌<◌, ◌≤◌, zero, suc, Bool, true, false, cond, ◌||◌, List, [], ◌∷◌, Option, Some, None, arith, true≢false}
use Rattle.std.specs.Prelude.{nat_lt, nat_le, length}
use Rattle.std.proofs.lemmas.Bool.{leb-false}
use Rattle.cells.specs.declared.Differ.{Differ}
use Rattle.cells.specs.Run.{is_over}
use Rattle.speculation.specs.declared.Effect.TheVariants.{Idle}
use Rattle.speculation.specs.declared.Ending.{Ending}
use Rattle.speculation.specs.declared.Ending.TheVariants.{Reached, Met, Full}
use Rattle.speculation.specs.declared.Event.{Event}
use Rattle.speculation.specs.declared.Event.TheVariants.{Master as MasterEvent, Slave, Commit, Serial as SerialEvent, Restart}
use Rattle.speculation.specs.declared.Mode.{Mode}
use Rattle.speculation.specs.declared.Mode.TheVariants.{Serial, Speculating}
use Rattle.speculation.specs.World.{World, Master, Driven, Goes, Spawns, Stays, Halts}
use Rattle.speculation.specs.Task.{Task, AreTasks, differ_at}
use Rattle.speculation.specs.Engine.{Model, restart, serial_step, driven, master_step, jumped, committed_as, commit_front, commit, counted, going_on, happens}
use Rattle.speculation_laws.proofs.Answers.{settled_still}
use Rattle.speculation_schedules.specs.Schedule.{has_come, IsFirstStop}

module _ (w : World) where
  -- an event takes the position on by a task's steps at most
  abbrev pub Near : Model → Model → Type 0
  Near m m' = m'.position ≤ m.position + w.limit

  near_restart : (m : Model) (k : Mode) (o : Option ℕ) → Near m (restart w m k o).1
  near_restart m (Serial false) (Some c) = omega arith
  near_restart m (Serial false) None = omega arith
  near_restart m (Serial true) o = omega arith
  near_restart m Speculating o = omega arith

  near_serial : 0 < w.limit → (m : Model) (k : Mode) → Near m (serial_step w m k).1
  near_serial l m (Serial d) = omega (arith, l)
  near_serial l m Speculating = omega arith

  near_driven : (m : Model) (d : Driven) → Near m (driven w m d).1
  near_driven m (Goes a) = omega arith
  near_driven m (Spawns pc a) = omega arith
  near_driven m Stays = omega arith
  near_driven m (Halts why) = let halted : Model = record m { master = None } in let p = (settled_still w halted None m.tasks).1 in omega (arith, p)

  near_master : (m : Model) (o : Option Master) → Near m (master_step w m o).1
  near_master m None = omega arith
  near_master m (Some a) = near_driven m (w.drive (nat_lt (length m.tasks) w.slaves) a)

  near_committed : (m : Model) (t : Task) (ts : List Task) (e : Ending) → t.steps ≤ w.limit → Near m (committed_as w m t ts e)
  near_committed m t ts Reached l = let p = (settled_still w (record (jumped w m t) { tasks = ts }) m.master ts).1 in omega (arith, p, l)
  near_committed m t ts Met l = omega (arith, l)
  near_committed m t ts Full l = omega (arith, l)

  near_front : (m : Model) (t : Task) (ts : List Task) (o : Option Ending) (d : Option Differ) → t.steps ≤ w.limit → Near m (commit_front w m t ts o d).1
  near_front m t ts None d l = omega arith
  near_front m t ts (Some e) (Some d) l = omega arith
  near_front m t ts (Some e) None l = near_committed m t ts e l

  near_commit : (m : Model) (ts : List Task) → AreTasks w ts → Near m (commit w m ts).1
  near_commit m [] are = omega arith
  near_commit m (t ∷ ts) are = near_front m t ts t.ending (differ_at w t m.committed) are.0.within

  pub near_event : 0 < w.limit → (m : Model) (e : Event) → AreTasks w m.tasks → Near m (happens w m e).1
  unfolding happens
  near_event l m e are = near_if_over (is_over m.committed)
    where
      near_going_on : (e : Event) → Near m (going_on w m e).1
      near_going_on Restart = near_restart m m.mode (w.anchor m.committed.arch.pc)
      near_going_on SerialEvent = near_serial l m m.mode
      near_going_on MasterEvent = near_master m m.master
      near_going_on (Slave j) = omega arith
      near_going_on Commit = near_commit m m.tasks are

      near_if_over : (b : Bool) → Near m (counted e m.counts (cond b (Idle, m) (going_on w m e))).1
      near_if_over true = omega arith
      near_if_over false = near_going_on e

or_false : (a b : Bool) → (a || b) ≡ false → b ≡ false
or_false false b e = e
or_false true b e = absurd (true≢false e)

-- where each event takes the position on by so many steps at most, the first stop is less than that past where it was to come
pub near_stop : (models : ℕ → Model) (limit : ℕ) → (models 0).position ≡ 0 → ((k : ℕ) → (models (suc k)).position ≤ (models k).position + limit) → (far k : ℕ) → 0 < far
    → IsFirstStop models far k → (models k).position < far + limit
near_stop models limit start near far zero least stop = omega (arith, start, least)
near_stop models limit start near far (suc k) least stop =
    let before = or_false (is_over (models k).committed) (nat_le far (models k).position) (stop.first k (omega arith)) in
    let less = leb-false far (models k).position before in
    let one = near k in
    omega (arith, less, one)
