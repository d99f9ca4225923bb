-- Events that find nothing to do.
use Rattle.std.proofs.Common.{◌≡◌, ℕ, ◌+◌, Bool, true, false, cond, not, List, [], ◌∷◌, Option, Some, None, refl, sym, ap, ◌∙◌}
use Rattle.std.specs.Prelude.{is_some}
use Rattle.std.specs.Option.{option_map}
use Rattle.cells.specs.declared.Differ.{Differ}
use Rattle.cells.specs.Run.{is_over}
use Rattle.speculation.specs.declared.Counts.{Counts}
use Rattle.speculation.specs.declared.Effect.TheVariants.{Idle}
use Rattle.speculation.specs.declared.Ending.{Ending}
use Rattle.speculation.specs.declared.Event.{Event}
use Rattle.speculation.specs.declared.Event.TheVariants.{Master as MasterEvent, Slave, Commit, Serial as SerialEvent, Restart}
use Rattle.speculation.specs.declared.Mode.{Mode}
use Rattle.speculation.specs.declared.Mode.TheVariants.{Serial, Speculating}
use Rattle.speculation.specs.World.{World, Master}
use Rattle.speculation.specs.Task.{Task}
use Rattle.speculation.specs.Engine.{Model, Answer, restart, serial_step, master_step, commit_front, commit, going_on}
use Rattle.speculation_laws.specs.Told.{may_start, is_speculating, has_done_front}
use Rattle.dist_image.specs.Image.{Distilled}
use Rattle.image_semantics.specs.World.{world}
use Rattle.engine.specs.Shown.{Shown, modelled, tasks_modelled, Does, Happens}
use Rattle.engine.specs.Counted.{counted}

-- nothing but the event is counted
pub idle_counted : (e : Event) (c : Counts) → record c { events = c.events + 1 } ≡ counted e Idle c
idle_counted Restart c = refl
idle_counted SerialEvent c = refl
idle_counted MasterEvent c = refl
idle_counted (Slave j) c = refl
idle_counted Commit c = refl

-- what has no value
pub none_of : {X : Type 0} (o : Option X) → is_some o ≡ false → None ≡ o
none_of None e = refl
none_of (Some x) e = absurd (cc)

-- and so shows none
pub none_shown : {X Y : Type 0} (f : X → Y) (o : Option X) → is_some o ≡ false → is_some (option_map f o) ≡ false
none_shown f None e = refl
none_shown f (Some x) e = absurd (cc)

-- ---- in the model

module _ (w : World) (m : Model) where
  abbrev idle : Answer
  idle = (Idle, m)

  restart_waits : (k : Mode) (o : Option ℕ) → not (may_start k) ≡ true → idle ≡ restart w m k o
  restart_waits (Serial true) o e = refl
  restart_waits (Serial false) o e = absurd (cc)
  restart_waits Speculating o e = refl

  serial_waits : (k : Mode) → is_speculating k ≡ true → idle ≡ serial_step w m k
  serial_waits (Serial debt) e = absurd (cc)
  serial_waits Speculating e = refl

  master_waits : (o : Option Master) → is_some o ≡ false → idle ≡ master_step w m o
  master_waits None e = refl
  master_waits (Some a) e = absurd (cc)

  commit_waits : (ts : List Task) → not (has_done_front ts) ≡ true → idle ≡ commit w m ts
  commit_waits [] e = refl
  commit_waits (t ∷ ts) e = front_waits t.ending _ e
    where
      front_waits : (o : Option Ending) (d : Option Differ) → not (is_some o) ≡ true → idle ≡ commit_front w m t ts o d
      front_waits None d e = refl
      front_waits (Some x) d e = absurd (cc)

-- ---- on the stage

either_way : (b : Bool) (x y : Answer) → x ≡ y → x ≡ cond b x y
either_way true x y h = refl
either_way false x y h = h

module _ (image : Distilled) (slaves : ℕ) (s : Shown) where
  -- an event that is idle while the machine goes on is idle once it has ended, too
  pub idle_always : (e f : Event) → e ≡ f → Does image slaves f s Idle s → Happens image slaves e s Idle s
  idle_always e f same h start c =
      either_way (is_over s.committed) (Idle, modelled s c) (going_on (world start image slaves) (modelled s c) e)
      (h start c ∙ ap (going_on (world start image slaves) (modelled s c)) (sym same))

  pub restart_rests : not (may_start s.mode) ≡ true → Does image slaves Restart s Idle s
  restart_rests e start c = restart_waits (world start image slaves) (modelled s c) s.mode _ e

  pub serial_rests : is_speculating s.mode ≡ true → Does image slaves SerialEvent s Idle s
  serial_rests e start c = serial_waits (world start image slaves) (modelled s c) s.mode e

  pub master_rests : is_some s.master ≡ false → Does image slaves MasterEvent s Idle s
  master_rests e start c = master_waits (world start image slaves) (modelled s c) s.master e

  pub commit_rests : not (has_done_front (tasks_modelled s.tasks)) ≡ true → Does image slaves Commit s Idle s
  commit_rests e start c = commit_waits (world start image slaves) (modelled s c) (tasks_modelled s.tasks) e
