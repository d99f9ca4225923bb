-- What an event keeps, from what happened on the stage and what was counted.
use Rattle.std.proofs.Common.{◌≡◌, ℕ, ◌+◌, ◌-◌, ◌^◌, ◌<◌, ◌≤◌, Bool, true, false, cond, ◌||◌, List, [], ◌∷◌, length, refl, sym, ap, ◌∙◌, subst, arith}
use Rattle.std.specs.Coded.{le_prop, Coded-set, coded_ℕ}
use Rattle.std.proofs.Math.Logic.{∥∥₁_elim, ∥∥₁_map}
use Rattle.cells.specs.Run.{State, is_over}
use Rattle.speculation.specs.declared.Counts.{Counts}
use Rattle.speculation.specs.declared.Effect.{Effect}
use Rattle.speculation.specs.declared.Effect.TheVariants.{Moved, Forked, Stalled, Halted, Stepped, Done, Committed, Squashed, Ended, Started, Idle}
use Rattle.speculation.specs.declared.Event.{Event}
use Rattle.speculation.specs.declared.Event.TheVariants.{Master as MasterEvent, Slave, Commit, Serial as SerialEvent, Restart}
use Rattle.speculation.specs.declared.Mode.TheVariants.{Serial, Speculating}
use Rattle.speculation.specs.World.{World, seq}
use Rattle.speculation.specs.Engine.{Model, Answer, counted as counted_answer, going_on, happens}
use Rattle.speculation.specs.Task.{Task}
use Rattle.speculation.specs.Kept.{Holds, AreNumbered}
use Rattle.speculation.proofs.Keeps.{happens_keeps, bounded}
use Rattle.speculation_laws.specs.Told.{Tells, waits, is_idle}
use Rattle.speculation_laws.proofs.Answers.{happens_tells, happens_idle, run_rises}
use Rattle.speculation_laws.proofs.Debt.{ends_in_debt}
use Rattle.dist_image.specs.Image.{Distilled, IsImage}
use Rattle.image_semantics.specs.World.{world}
use Rattle.image_semantics.proofs.Known.{known}
use Rattle.engine.specs.Shown.{Shown, modelled, Happens, MayTake, IsCostly}
use Rattle.engine.specs.Counted.{counted, AreCounts}
use Rattle.engine.proofs.Sets.{State-set}

-- that tasks are numbered has one proof at most
numbered_prop : (next : ℕ) (ts : List Task) → IsProp (AreNumbered next ts)
numbered_prop next [] = λ a b. refl
numbered_prop next (t ∷ ts) = let rest = numbered_prop next ts in hlevel (Coded-set coded_ℕ, rest)

-- of a model that has what is kept
module _ (w : World) (m : Model) (holds : ∥ Holds w m ∥₁) where
  pub sequential : m.committed ≡ seq w m.position
  sequential = ∥∥₁_elim holds (State-set _ _) (λ h. h.is_seq)

  pub position_is : m.position ≡ m.counts.by_tasks + m.counts.serial
  position_is = ∥∥₁_elim holds (Coded-set coded_ℕ _ _) (λ h. h.position)

  pub squashed_few : m.counts.squashed ≤ m.counts.serial + 1
  squashed_few = ∥∥₁_elim holds le_prop (λ h. (bounded w m h).0)

  pub serial_few : m.counts.serial ≤ m.position
  serial_few = ∥∥₁_elim holds le_prop (λ h. (bounded w m h).1)

  pub position_few : m.position ≤ m.counts.events
  position_few = ∥∥₁_elim holds le_prop (λ h. (bounded w m h).2)

  pub live_few : length m.tasks ≤ w.slaves
  live_few = ∥∥₁_elim holds le_prop (λ h. h.live)

  pub numbered : AreNumbered m.next m.tasks
  numbered = ∥∥₁_elim holds (numbered_prop _ _) (λ h. h.numbers)

  made_few : m.counts.tasks + m.counts.dropped ≤ m.counts.events
  made_few = ∥∥₁_elim holds le_prop (λ h. let made = h.made in let next = h.next in omega (arith, made, next))

  steps_few : m.counts.serial + m.counts.by_tasks ≤ m.counts.events
  steps_few = ∥∥₁_elim holds le_prop (λ h. let steps = h.steps in omega (arith, steps))

-- squashes are no more than events
squashes_fit : (e : Event) (f : Effect) (c : Counts) → c.serial ≤ c.events → c.squashed ≤ c.serial + 1 → (counted e f c).squashed ≤ (counted e f c).serial + 1 → c.events < 2 ^ 64 - 1 → (counted e f c).squashed < 2 ^ 64
squashes_fit e (Squashed d) c serial before after room = omega (arith, serial, after, room)
squashes_fit e (Committed steps dropped) c serial before after room = omega (arith, serial, before, room)
squashes_fit e (Ended x) c serial before after room = omega (arith, serial, before, room)
squashes_fit SerialEvent Stepped c serial before after room = omega (arith, serial, before, room)
squashes_fit Restart Stepped c serial before after room = omega (arith, serial, before, room)
squashes_fit MasterEvent Stepped c serial before after room = omega (arith, serial, before, room)
squashes_fit (Slave j) Stepped c serial before after room = omega (arith, serial, before, room)
squashes_fit Commit Stepped c serial before after room = omega (arith, serial, before, room)
squashes_fit e Moved c serial before after room = omega (arith, serial, before, room)
squashes_fit e (Forked n) c serial before after room = omega (arith, serial, before, room)
squashes_fit e Stalled c serial before after room = omega (arith, serial, before, room)
squashes_fit e (Halted y) c serial before after room = omega (arith, serial, before, room)
squashes_fit e (Done x) c serial before after room = omega (arith, serial, before, room)
squashes_fit e (Started pc) c serial before after room = omega (arith, serial, before, room)
squashes_fit e Idle c serial before after room = omega (arith, serial, before, room)

-- of an event on the stage s, after which the stage is t
module _ (start : State) (image : Distilled) (slaves : ℕ) (ok : IsImage image) (some : 0 < slaves) (s : Shown) (c : Counts) (holds : ∥ Holds (world start image slaves) (modelled s c) ∥₁) (e : Event) where
  pub costly : is_over s.committed ≡ false → IsCostly image slaves e s → MayTake (happens (world start image slaves) (modelled s c) e).0
  unfolding happens
  costly going h =
      subst (λ b. MayTake (cond b (Idle, modelled s c) (going_on (world start image slaves) (modelled s c) e)).0) (sym going) (h start c)

  module _ (f : Effect) (t : Shown) (done : Happens image slaves e s f t) where
    answer_is : (f, modelled t (counted e f c)) ≡ happens (world start image slaves) (modelled s c) e
    unfolding happens
    answer_is = ap (counted_answer e c) (done start c)

    pub kept : ∥ Holds (world start image slaves) (modelled t (counted e f c)) ∥₁
    kept = ∥∥₁_map holds
        (λ h. subst (λ (a : Answer). Holds (world start image slaves) a.1) (sym answer_is)
        (happens_keeps (world start image slaves) (known start image slaves ok some) (modelled s c) e h))

    pub counts_fit : c.events < 2 ^ 64 - 1 → AreCounts (counted e f c)
    counts_fit room =
        let w = world start image slaves in
        let m = modelled t (counted e f c) in
        let made = made_few w m kept in
        let steps = steps_few w m kept in
        let serial = serial_few w (modelled s c) holds in
        let position = position_few w (modelled s c) holds in
        record {
          events = omega (arith, room);
          tasks = omega (arith, room, made);
          by_tasks = omega (arith, room, steps);
          serial = omega (arith, room, steps);
          squashed = squashes_fit e f c (omega (arith, serial, position)) (squashed_few w (modelled s c) holds) (squashed_few w m kept) room;
          dropped = omega (arith, room, made);
        }

    module _ (k : Counts) (is : k ≡ counted e f c) where
      pub answered : (f, modelled t k) ≡ happens (world start image slaves) (modelled s c) e
      answered = ap (λ (n : Counts). (f, modelled t n)) is ∙ answer_is

      pub holds_after : ∥ Holds (world start image slaves) (modelled t k) ∥₁
      holds_after = subst (λ (n : Counts). ∥ Holds (world start image slaves) (modelled t n) ∥₁) (sym is) kept

      pub told : Tells (world start image slaves) (modelled s c) e f (modelled t k)
      told =
          subst (λ (a : Answer). Tells (world start image slaves) (modelled s c) e a.0 a.1) (sym answered)
          (happens_tells (world start image slaves) (modelled s c) e (sequential (world start image slaves) (modelled s c) holds))

      pub idle : is_idle f ≡ (is_over s.committed || waits (world start image slaves) (modelled s c) e)
      idle = ap (λ (a : Answer). is_idle a.0) answered ∙ happens_idle (world start image slaves) (modelled s c) e some

      pub rises : s.position ≤ t.position
      rises =
          ∥∥₁_elim holds le_prop
          (λ h. subst (λ (a : Answer). s.position ≤ a.1.position) (sym answered) (run_rises (world start image slaves) (known start image slaves ok some) (e ∷ []) (modelled s c) h))

      pub owed : s.mode ≡ Speculating → (debt : Bool) → t.mode ≡ Serial debt → debt ≡ true
      owed spec debt serial = ends_in_debt (world start image slaves) (modelled s c) spec e debt (ap (λ (a : Answer). a.1.mode) (sym answered) ∙ serial)
