-- Where speculation begins, and the master's events, from what the code's master tells.
use Rattle.std.proofs.Common.{◌≡◌, ℕ, ◌+◌, ◌*◌, ◌<◌, suc, Bool, true, false, cond, ◌&&◌, [], ◌∷◌, ◌++◌, length, Option, Some, None, refl, sym, ap, ◌∙◌, subst, arith}
use Rattle.std.specs.Prelude.{◌-◌, slice_get, nat_eq, nat_lt, unwrap_or}
use Rattle.std.specs.Option.{option_map}
use Rattle.std.proofs.lemmas.List.{length-map, map-append}
use Rattle.cells.specs.Cells.{Arch, value}
use Rattle.cells.specs.Run.{State}
use Rattle.speculation.specs.declared.Counts.{Counts}
use Rattle.speculation.specs.declared.Effect.{Effect}
use Rattle.speculation.specs.declared.Effect.TheVariants.{Forked, Started}
use Rattle.speculation.specs.declared.Event.{Event}
use Rattle.speculation.specs.declared.Event.TheVariants as event
use Rattle.speculation.specs.declared.Mode.TheVariants.{Serial}
use Rattle.speculation.specs.declared.Why.TheVariants as why
use Rattle.speculation.specs.World.{World, Master, Driven, Goes, Spawns, Stays, Halts}
use Rattle.speculation.specs.Task.{new_task}
use Rattle.speculation.specs.Engine.{Model, driven, spawned, started, master_step, going_on, restart}
use Rattle.rv_word.specs.Meaning.{meaning}
use Rattle.rv_semantics.specs.Effect.{effect_at}
use Rattle.rv_semantics.specs.Machine.{exec_in}
use Rattle.dist_image.specs.declared.image.Slot.{Slot}
use Rattle.dist_image.specs.declared.image.Slot.TheVariants.{Exec, Go, Fork}
use Rattle.dist_image.specs.declared.image.Anchor.{Anchor}
use Rattle.dist_image.specs.Image.{Distilled, IsImage, slot_of, prints_at}
use Rattle.image_semantics.specs.World.{world, drive, slot_done, fork, go_to, why_of, begin, begin_behind, anchor_of, count_of}
use Rattle.image_semantics.proofs.Known.{known}
use Rattle.slave.specs.Task.{fresh, modelled as task_modelled}
use Rattle.master.specs.declared.master.MasterDid.{MasterDid}
use Rattle.master.specs.declared.master.MasterDid.TheVariants as did
use Rattle.master.specs.Shown.{next_spawn, forking, as_driven}
use Rattle.engine.specs.Shown.{Shown, modelled, Does, MayTake, IsCostly, begun, due_at}
use Rattle.engine.proofs.Anchors.{anchor_count, fork_names}

-- the same effect and the same stage do the same
pub does_by : (image : Distilled) (slaves : ℕ) (e : Event) (s : Shown) (f g : Effect) (t u : Shown) → g ≡ f → u ≡ t → Does image slaves e s f t → Does image slaves e s g u
does_by image slaves e s f g t u p q h start c = (λ i. (p i, modelled (q i) c)) ∙ h start c

-- Restart at an anchor
pub does_restart : (image : Distilled) (slaves : ℕ) (s : Shown) (x : Anchor) → s.mode ≡ Serial false → anchor_of image s.committed.arch.pc ≡ Some x
    → Does image slaves event.Restart s (Started s.committed.arch.pc) (begun x s)
unfolding begin
does_restart image slaves s x mode at start c =
    let w = world start image slaves in
    let m = modelled s c in
    sym (
    ap (λ k. restart w m k (count_of image s.committed.arch.pc)) mode
    ∙ ap (λ (o : Option Anchor). restart w m (Serial false) (option_map (λ (a : Anchor). a.count) o)) at
    ∙ (λ i. (Started s.committed.arch.pc, record (started w m x.count) { master = Some (begin_behind s.committed.arch (at i)) }))
    )

-- where a spawn is due, the slot is the Fork of its anchor, one anchor is left, and the master has slots to spend
pub record IsDue (image : Distilled) (a : Master) (k : ℕ) : Type 0 where
  pub spent : nat_lt a.spent (4 * image.limit + 4) ≡ true
  pub left : nat_eq a.left 1 ≡ true
  pub slot : slice_get image.slots a.slot ≡ Some (Fork k)

forking_is : (o : Option Slot) (k : ℕ) → forking o ≡ Some k → o ≡ Some (Fork k)
forking_is None k e = absurd (cc)
forking_is (Some (Exec origin word)) k e = absurd (cc)
forking_is (Some (Go target)) k e = absurd (cc)
forking_is (Some (Fork j)) k e = let same : j ≡ k = cc in ap (λ n. Some (Fork n)) same

pub due_is : (image : Distilled) (a : Master) (k : ℕ) → next_spawn image a ≡ Some k → IsDue image a k
unfolding next_spawn
due_is image a k e = due_if_able (nat_lt a.spent (4 * image.limit + 4)) (nat_eq a.left 1) refl refl e
  where
    due_if_able : (b c : Bool) → nat_lt a.spent (4 * image.limit + 4) ≡ b → nat_eq a.left 1 ≡ c → cond (b && c) (forking (slice_get image.slots a.slot)) None ≡ Some k → IsDue image a k
    due_if_able true true s l h = record { spent = s; left = l; slot = forking_is (slice_get image.slots a.slot) k h }
    due_if_able true false s l h = absurd (cc)
    due_if_able false c s l h = absurd (cc)

-- the master that there is has this spawn due
next_is : (image : Distilled) (o : Option Master) (a : Master) (k : ℕ) → o ≡ Some a → due_at image o ≡ Some k → next_spawn image a ≡ Some k
next_is image o a k runs due = sym (ap (due_at image) runs) ∙ due

-- its anchor is one of the image
pub due_within : (image : Distilled) (o : Option Master) (a : Master) (k : ℕ) → IsImage image → o ≡ Some a → due_at image o ≡ Some k → k < length image.anchors
due_within image o a k ok runs due = fork_names image ok a.slot k (due_is image a k (next_is image o a k runs due)).slot

abbrev pub spawning : Anchor → Master → Master
spawning x a = record { slot = a.slot + 1; arch = a.arch; left = x.count; spent = 0 }

-- with room it is spawned
due_spawns : (image : Distilled) (a : Master) (k : ℕ) (x : Anchor) → next_spawn image a ≡ Some k → slice_get image.anchors k ≡ Some x → drive image true a ≡ Spawns x.pc (spawning x a)
unfolding drive
due_spawns image a k x e at =
    let is = due_is image a k e in
    ap (λ b. cond b (slot_done image true a (slice_get image.slots a.slot)) (Halts why.Spent)) is.spent
    ∙ ap (slot_done image true a) is.slot
    ∙ ap (fork true a) at
    ∙ ap (λ b. cond b (Spawns x.pc (spawning x a)) (Goes (record { slot = a.slot + 1; arch = a.arch; left = a.left - 1; spent = suc a.spent }))) is.left

-- a master that was driven to a spawn is what was spawned
pub spawned_is : (image : Distilled) (d : MasterDid) (a b : Master) (pc : ℕ) → as_driven image d a ≡ Spawns pc b → a ≡ b
spawned_is image did.Moved a b pc e = absurd (cc)
spawned_is image (did.Spawned k) a b pc e = cc
spawned_is image did.Stalled a b pc e = absurd (cc)
spawned_is image (did.Halted why) a b pc e = absurd (cc)

-- the master's event, where it runs
master_does : (image : Distilled) (slaves : ℕ) (s : Shown) (a : Master) (d : Driven) → s.master ≡ Some a → drive image (nat_lt (length s.tasks) slaves) a ≡ d
    → (start : State) (c : Counts) → going_on (world start image slaves) (modelled s c) event.Master ≡ driven (world start image slaves) (modelled s c) d
master_does image slaves s a d runs is start c =
    let w = world start image slaves in
    let m = modelled s c in
    ap (master_step w m) runs
    ∙ ap (λ n. driven w m (drive image (nat_lt n slaves) a)) (length-map s.tasks task_modelled)
    ∙ ap (driven w m) is

abbrev pub forked : Anchor → Master → Shown → Shown
forked x a s = record s {
  master = Some (spawning x a);
  tasks = s.tasks ++ fresh s.next x.count (value (record a.arch { pc = x.pc })) ∷ [];
  next = s.next + 1;
}

module _ (image : Distilled) (slaves : ℕ) (ok : IsImage image) (s : Shown) (a : Master) (k : ℕ) (x : Anchor) (runs : s.master ≡ Some a) (due : due_at image s.master ≡ Some k) (found : slice_get image.anchors k ≡ Some x) where
  pub spawns : drive image true a ≡ Spawns x.pc (spawning x a)
  spawns = due_spawns image a k x (next_is image s.master a k runs due) found

  module _ (room : nat_lt (length s.tasks) slaves ≡ true) where
    forks : (start : State) (c : Counts) → going_on (world start image slaves) (modelled s c) event.Master ≡ driven (world start image slaves) (modelled s c) (Spawns x.pc (spawning x a))
    forks = master_does image slaves s a (Spawns x.pc (spawning x a)) runs (ap (λ b. drive image b a) room ∙ spawns)

    pub does_fork : Does image slaves event.Master s (Forked s.next) (forked x a s)
    does_fork start c =
        let w = world start image slaves in
        let m = modelled s c in
        let y = fresh s.next x.count (value (record a.arch { pc = x.pc })) in
        (λ i. (Forked s.next, record (modelled (forked x a s) c) { tasks = map-append task_modelled s.tasks (y ∷ []) i }))
        ∙ (λ i. (Forked s.next, record (spawned w m x.pc (spawning x a)) { tasks = m.tasks ++ new_task s.next (record a.arch { pc = x.pc }) (unwrap_or (sym (anchor_count image ok k x found) i) 1) ∷ [] }))
        ∙ sym (forks start c)

    pub costly_fork : IsCostly image slaves event.Master s
    costly_fork start c = subst (λ (p : Effect × Model). MayTake p.0) (sym (forks start c)) tt

-- a master with no spawn due never stalls
abbrev Acts : Driven → Type 0
Acts (Goes b) = Unit {0}
Acts (Spawns pc b) = Unit {0}
Acts Stays = ⊥
Acts (Halts y) = Unit {0}

go_acts : (a : Master) (arch : Arch) (o : Option ℕ) → Acts (go_to a arch o)
go_acts a arch None = tt
go_acts a arch (Some slot) = tt

fork_acts : (image : Distilled) (room : Bool) (a : Master) (k : ℕ) (o : Option Anchor) → nat_lt a.spent (4 * image.limit + 4) ≡ true → slice_get image.slots a.slot ≡ Some (Fork k) → next_spawn image a ≡ None → Acts (fork room a o)
unfolding next_spawn
fork_acts image room a k None s at due = tt
fork_acts image room a k (Some x) s at due = acts_if_last (nat_eq a.left 1) refl
  where
    acts_if_last : (b : Bool) → nat_eq a.left 1 ≡ b → Acts (cond b (cond room (Spawns x.pc (record { slot = a.slot + 1; arch = a.arch; left = x.count; spent = 0 })) Stays) (Goes (record { slot = a.slot + 1; arch = a.arch; left = a.left - 1; spent = suc a.spent })))
    acts_if_last false l = tt
    acts_if_last true l =
        let is : next_spawn image a ≡ Some k = λ i. cond (s i && l i) (forking (at i)) None in
        let no : None ≡ Some k = sym due ∙ is in
        absurd (cc)

slot_acts : (image : Distilled) (room : Bool) (a : Master) (o : Option Slot) → nat_lt a.spent (4 * image.limit + 4) ≡ true → slice_get image.slots a.slot ≡ o → next_spawn image a ≡ None → Acts (slot_done image room a o)
slot_acts image room a None s at due = tt
slot_acts image room a (Some (Fork k)) s at due = fork_acts image room a k (slice_get image.anchors k) s at due
slot_acts image room a (Some (Go target)) s at due = go_acts a a.arch (slot_of image target)
slot_acts image room a (Some (Exec origin word)) s at due = acts_if_stops ((exec_in (prints_at image) word).stops (record a.arch { pc = origin }))
  where
    acts_if_stops : (b : Bool) → Acts (cond b (Halts (why_of (effect_at (meaning word) origin (value (record a.arch { pc = origin }))).flow)) (go_to a ((exec_in (prints_at image) word).move (record a.arch { pc = origin })) (slot_of image ((exec_in (prints_at image) word).move (record a.arch { pc = origin })).pc)))
    acts_if_stops true = tt
    acts_if_stops false = go_acts a ((exec_in (prints_at image) word).move (record a.arch { pc = origin })) (slot_of image ((exec_in (prints_at image) word).move (record a.arch { pc = origin })).pc)

drive_acts : (image : Distilled) (room : Bool) (a : Master) → next_spawn image a ≡ None → Acts (drive image room a)
unfolding drive
drive_acts image room a due = acts_if_able (nat_lt a.spent (4 * image.limit + 4)) refl
  where
    acts_if_able : (b : Bool) → nat_lt a.spent (4 * image.limit + 4) ≡ b → Acts (cond b (slot_done image room a (slice_get image.slots a.slot)) (Halts why.Spent))
    acts_if_able true s = slot_acts image room a (slice_get image.slots a.slot) s refl due
    acts_if_able false s = tt

takes : (w : World) (m : Model) (d : Driven) → Acts d → MayTake (driven w m d).0
takes w m (Goes b) h = tt
takes w m (Spawns pc b) h = tt
takes w m Stays h = h
takes w m (Halts y) h = tt

pub costly_drive : (image : Distilled) (slaves : ℕ) (s : Shown) (a : Master) → s.master ≡ Some a → next_spawn image a ≡ None → IsCostly image slaves event.Master s
costly_drive image slaves s a runs due start c =
    let room = nat_lt (length s.tasks) slaves in
    subst (λ (p : Effect × Model). MayTake p.0) (sym (master_does image slaves s a (drive image room a) runs refl start c))
    (takes (world start image slaves) (modelled s c) (drive image room a) (drive_acts image room a due))

-- and without room it never spawns
pub no_spawn : (image : Distilled) (room : Bool) (a b : Master) (k pc : ℕ) → IsImage image → drive image room a ≡ Spawns pc b → next_spawn image a ≡ Some k → (room ≡ true → next_spawn image a ≡ None) → ⊥
no_spawn image true a b k pc ok is due none = let no : None ≡ Some k = sym (none refl) ∙ due in cc
no_spawn image false a b k pc ok is due none = (known nowhere image 1 ok (omega arith)).room a b pc is
  where
    nowhere : State
    nowhere = record {
      arch = record { pc = 0; regs = λ _. 0; mem = λ _. 0 };
      env = record { input = []; taken = 0; output = []; first_break = 0; brk = 0; over = None };
    }
