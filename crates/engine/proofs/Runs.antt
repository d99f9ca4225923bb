-- A slave's event, from what the code's task tells.
use Rattle.std.proofs.Common.{◌≡◌, ℕ, ◌<◌, true, false, cond, length, get_or, Option, Some, None, refl, sym, ap, ◌∙◌, subst}
use Rattle.std.specs.Prelude.{is_some, Result, Ok, Err, IfOk, OnErr}
use Rattle.std.proofs.Math.ListN.{set}
use Rattle.std.proofs.lemmas.List.{map-set}
use Rattle.cells.specs.declared.End.{End}
use Rattle.cells.specs.Run.{State, is_end}
use Rattle.speculation.specs.declared.Effect.{Effect}
use Rattle.speculation.specs.declared.Effect.TheVariants.{Idle}
use Rattle.speculation.specs.declared.Ending.{Ending}
use Rattle.speculation.specs.declared.Event.{Event}
use Rattle.speculation.specs.declared.Event.TheVariants as event
use Rattle.speculation.specs.World.{World}
use Rattle.speculation.specs.Task.{Task, advance, EndFits}
use Rattle.speculation.specs.Engine.{told_task, slave_told, slave_tasks, going_on}
use Rattle.dist_image.specs.Image.{Distilled}
use Rattle.image_semantics.specs.World.{world}
use Rattle.slave.specs.Task.{Shown as TaskShown, modelled as task_modelled, IsTaskOf}
use Rattle.engine.specs.Shown.{Shown, modelled, tasks_modelled, Does, Happens, MayTake, IsCostly, is_shown_run_by}
use Rattle.engine.proofs.Lists.{none_goes, first_goes}

-- a running task has a step left
room_by : (w : World) (t : Task) (o : Option Ending) → o ≡ None → EndFits w t o → t.steps < w.limit
room_by w t None e h = h.0
room_by w t (Some x) e h = absurd (cc)

pub has_room : (start : State) (image : Distilled) (k : TaskShown) → IsTaskOf image k → k.ending ≡ None → k.steps < image.limit
has_room start image k h e = room_by (world start image 1) (task_modelled k) k.ending e (h start 1).task.ended

module _ (image : Distilled) (slaves : ℕ) (s : Shown) (j : ℕ) where
  pub does_rest : ((k : ℕ) (d : TaskShown) → k < length s.tasks → is_shown_run_by slaves j (get_or s.tasks k d) ≡ false) → Does image slaves (event.Slave j) s Idle s
  does_rest none start c =
      let h = none_goes task_modelled (world start image slaves) j s.tasks none in
      λ i. (sym h.0 i, record (modelled s c) { tasks = sym h.1 i })

  module _ (i : ℕ) (d : TaskShown) (l : i < length s.tasks) (runs : is_shown_run_by slaves j (get_or s.tasks i d) ≡ true) (before : (k : ℕ) → k < i → is_shown_run_by slaves j (get_or s.tasks k d) ≡ false) where
    pub does_run : (y : TaskShown) (f : Effect) → ((start : State) → task_modelled y ≡ advance (world start image slaves) (task_modelled (get_or s.tasks i d))) → f ≡ told_task y.ending
        → Does image slaves (event.Slave j) s f (record s { tasks = set s.tasks i y })
    does_run y f next told start c =
        let h = first_goes task_modelled (world start image slaves) j s.tasks i d l runs before in
        let effect : f ≡ slave_told (world start image slaves) j (tasks_modelled s.tasks) = told ∙ ap (λ (t : Task). told_task t.ending) (next start) ∙ sym h.0 in
        let tasks : tasks_modelled (set s.tasks i y) ≡ slave_tasks (world start image slaves) j (tasks_modelled s.tasks) =
        map-set task_modelled s.tasks i y ∙ ap (set (tasks_modelled s.tasks) i) (next start) ∙ sym h.1 in
        λ z. (effect z, record (modelled s c) { tasks = tasks z })

    takes : (o : Option Ending) → MayTake (told_task o)
    takes None = tt
    takes (Some e) = tt

    pub costly_run : IsCostly image slaves (event.Slave j) s
    costly_run start c =
        let h = first_goes task_modelled (world start image slaves) j s.tasks i d l runs before in
        subst MayTake (sym h.0) (takes (advance (world start image slaves) (task_modelled (get_or s.tasks i d))).ending)

-- what an event does, of a machine that goes on
over_is : (o : Option End) → is_some o ≡ false → is_end o ≡ false
over_is None e = refl
over_is (Some x) e = absurd (cc)

pub goes_on : (image : Distilled) (slaves : ℕ) (e f : Event) (s t : Shown) (x : Effect) → e ≡ f → is_some s.committed.env.over ≡ false → Does image slaves f s x t → Happens image slaves e s x t
goes_on image slaves e f s t x same over h start c =
    h start c ∙ (λ i. cond (sym (over_is s.committed.env.over over) i) (Idle, modelled s c) (going_on (world start image slaves) (modelled s c) (sym same i)))

-- two facts of a result make a third
pub both_ok : {T E : Type 0} (r : Result T E) (P Q R : T → Type 0) → IfOk r P → IfOk r Q → ((x : T) → P x → Q x → R x) → IfOk r R
both_ok (Ok x) P Q R p q h = h x p q
both_ok (Err e) P Q R p q h = tt

pub if_err : {T E : Type 0} (r : Result T E) (P Q : Type 0) → (P → Q) → OnErr r P → OnErr r Q
if_err (Ok x) P Q h p = tt
if_err (Err e) P Q h p = h p
