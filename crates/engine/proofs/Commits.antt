-- The tasks' steps and commits, from what the code's tasks tell.
use Rattle.std.proofs.Common.{◌≡◌, ℕ, ◌+◌, suc, zero, Bool, true, false, cond, ◌||◌, List, [], ◌∷◌, length, Option, Some, None, refl, sym, ap, ◌∙◌, subst}
use Rattle.std.specs.Prelude.{is_some}
use mathlib.Core.Bool.{Bool-set}
use Rattle.std.proofs.Math.Logic.{∥∥₁_elim, ∥∥₁_map}
use Rattle.std.proofs.lemmas.List.{length-map}
use Rattle.cells.specs.declared.Cell.{Cell}
use Rattle.cells.specs.declared.Cell.TheVariants.{Pc, Reg}
use Rattle.cells.specs.declared.Differ.{Differ}
use Rattle.cells.specs.Cells.{Arch, value, from_cells}
use Rattle.cells.specs.Differ.{differ}
use Rattle.cells.specs.Run.{State, printed}
use Rattle.cells.specs.Task.{said, apply, moves, written}
use Rattle.cells.specs.Bytes.{number}
use Rattle.cells.specs.Seen.{Seen, puts_of}
use Rattle.speculation.specs.declared.Counts.{Counts}
use Rattle.speculation.specs.declared.Effect.TheVariants.{Committed, Squashed, Idle}
use Rattle.speculation.specs.declared.Ending.{Ending}
use Rattle.speculation.specs.declared.Ending.TheVariants.{Reached, Met, Full}
use Rattle.speculation.specs.declared.Event.TheVariants as event
use Rattle.speculation.specs.World.{Master}
use Rattle.speculation.specs.Task.{record_of}
use Rattle.speculation.specs.Engine.{Answer, settled, dropped_by, committed_as, commit_front, commit, going_on}
use Rattle.rv_word.specs.declared.inst.Inst.{Inst}
use Rattle.rv_word.specs.Meaning.{meaning}
use Rattle.rv_word.specs.Masks.{sources}
use Rattle.rv_semantics.specs.Values.{bytes_of}
use Rattle.rv_semantics.specs.Effect.{next, effect_at, first, second, load_count, load_from}
use Rattle.rv_semantics.specs.Prints.{is_task_call}
use Rattle.rv_semantics.specs.Machine.{machine_in, word_at}
use Rattle.seq_machine.proofs.Advances.{zero_unput}
use Rattle.dist_image.specs.Image.{Distilled, prints_at}
use Rattle.image_semantics.specs.World.{world, task_machine}
use Rattle.layers.specs.Layered.{laid}
use Rattle.slave.specs.Task.{Shown as TaskShown, modelled as task_modelled, IsTaskOf}
use Rattle.slave.proofs.Keeps.{laid_is}
use Rattle.engine.specs.Shown.{Shown, modelled, tasks_modelled, AreTasksOf, Does, MayTake, IsCostly, rested, given_up, retired, dropped_of, younger}
use Rattle.engine.proofs.Sets.{Arch-set, Bytes-set, Record-set}
use Rattle.engine.proofs.Lists.{tasks_younger}

-- the state with the task's pc and what it wrote, and its output appended
abbrev pub laid_on : TaskShown → State → State
laid_on k s = record { arch = from_cells (laid k.pc k.seen (value s.arch)); env = printed s.env k.output }

abbrev pub moved_on : TaskShown → Shown → Shown
moved_on k s = record s { committed = laid_on k s.committed; position = s.position + k.steps }

rest_is : (u : Shown) (c : Counts) (o : Option Master) (l : List TaskShown) → modelled (rested u o l) c ≡ settled (modelled u c) o (tasks_modelled l)
rest_is u c None [] = refl
rest_is u c None (k ∷ ks) = refl
rest_is u c (Some a) l = refl

rested_tasks : (image : Distilled) (u : Shown) (o : Option Master) (l : List TaskShown) → AreTasksOf image u.tasks → AreTasksOf image (rested u o l).tasks
rested_tasks image u None [] h = h
rested_tasks image u None (k ∷ ks) h = h
rested_tasks image u (Some a) l h = h

-- what a task's view has of register 0: the machine never writes it
unput : (i : Inst) (pc : ℕ) (v : Cell → ℕ) (b : Bool) → is_some (puts_of (cond b (next pc ((Reg 10, v (Reg 12)) ∷ [])) (effect_at i pc v)).puts (Reg 0)) ≡ false
unput i pc v true = refl
unput i pc v false = ap is_some (zero_unput i pc (first (sources i) v) (second (sources i) v) (number (load_count i) (load_from i (first (sources i) v)) (bytes_of v)))

module _ (prints : ℕ → Bool) where
  written_zero : (c : Arch) (t : ℕ) → written (machine_in prints) c t (Reg 0) ≡ false
  written_zero c zero = refl
  written_zero c (suc t) =
      let s = moves (machine_in prints) c t in
      let i = meaning (word_at s) in
      λ j. written_zero c t j || unput i s.pc (value s) (is_task_call prints i s.pc (value s)) j

module _ (image : Distilled) (s : Shown) (k : TaskShown) (ks : List TaskShown) (tasks : s.tasks ≡ k ∷ ks) (all : ∥ AreTasksOf image s.tasks ∥₁) where
  known : ∥ IsTaskOf image k ∥₁
  known = ∥∥₁_map all (λ h. (subst (AreTasksOf image) tasks h).0)

  pub wrote_zero : k.seen.wrote (Reg 0) ≡ false
  wrote_zero = ∥∥₁_elim known (Bool-set _ _) (λ h. ap (λ (x : Seen). x.wrote (Reg 0)) (h s.committed 1).seen ∙ written_zero (prints_at image) (from_cells k.seen.base) k.steps)

  module _ (start : State) (slaves : ℕ) where
    recorded_is : k.seen.recorded ≡ record_of (world start image slaves) (task_modelled k)
    recorded_is = ∥∥₁_elim known (Record-set _ _) (λ h. ap (λ (x : Seen). x.recorded) (h start slaves).seen)

    laid_is_applied : from_cells (laid k.pc k.seen (value s.committed.arch)) ≡ apply (task_machine image) (from_cells k.seen.base) k.steps s.committed.arch
    laid_is_applied = ∥∥₁_elim known (Arch-set _ _) (λ h. laid_is (world start image slaves) k (h start slaves) (value s.committed.arch))

    output_is : k.output ≡ said (task_machine image) (from_cells k.seen.base) k.steps
    output_is = ∥∥₁_elim known (Bytes-set _ _) (λ h. (h start slaves).output)

    module _ (c : Counts) where
      commit_is : (o : Option Ending) (d : Option Differ) → k.ending ≡ o → differ k.seen.recorded (value s.committed.arch) ≡ d
          → going_on (world start image slaves) (modelled s c) event.Commit ≡ commit_front (world start image slaves) (modelled s c) (task_modelled k) (tasks_modelled ks) o d
      commit_is o d ending differs =
          ap (λ l. commit (world start image slaves) (modelled s c) (tasks_modelled l)) tasks
          ∙ (λ i. commit_front (world start image slaves) (modelled s c) (task_modelled k) (tasks_modelled ks) (ending i) (differ (sym recorded_is i) (value s.committed.arch)))
          ∙ ap (commit_front (world start image slaves) (modelled s c) (task_modelled k) (tasks_modelled ks) o) differs

      committed_is : laid_on k s.committed
          ≡ record { arch = apply (task_machine image) (from_cells k.seen.base) k.steps s.committed.arch; env = printed s.committed.env (said (task_machine image) (from_cells k.seen.base) k.steps) }
      committed_is = λ i. record {
        arch = laid_is_applied i;
        env = printed s.committed.env (output_is i);
      }

      dropped_is : length (younger s.tasks) ≡ length (tasks_modelled ks)
      dropped_is = ap (λ l. length (younger l)) tasks ∙ sym (length-map ks task_modelled)

      retired_is : (e : Ending) → ◌≡◌ {A = Answer} (Committed k.steps (dropped_of e s.tasks), modelled (retired e (moved_on k s)) c)
          (Committed k.steps (dropped_by e (tasks_modelled ks)), committed_as (world start image slaves) (modelled s c) (task_modelled k) (tasks_modelled ks) e)
      retired_is Reached =
          ap (λ l. (Committed k.steps 0, modelled (rested (record (moved_on k s) { tasks = younger l }) s.master (younger l)) c)) tasks
          ∙ ap (λ m. (Committed k.steps 0, m)) (rest_is (record (moved_on k s) { tasks = ks }) c s.master ks)
          ∙ (λ i. (Committed k.steps 0, settled (record (modelled (moved_on k s) c) { committed = committed_is i; tasks = tasks_modelled ks }) s.master (tasks_modelled ks)))
      retired_is Met = λ i. (Committed k.steps (dropped_is i), record (modelled (given_up (moved_on k s)) c) { committed = committed_is i })
      retired_is Full = λ i. (Committed k.steps (dropped_is i), record (modelled (given_up (moved_on k s)) c) { committed = committed_is i })

  module _ (slaves : ℕ) where
    pub does_wait : k.ending ≡ None → Does image slaves event.Commit s Idle s
    does_wait ending start c = sym (commit_is start slaves c None (differ k.seen.recorded (value s.committed.arch)) ending refl)

    pub does_squash : (e : Ending) (d : Differ) → k.ending ≡ Some e → differ k.seen.recorded (value s.committed.arch) ≡ Some d → Does image slaves event.Commit s (Squashed d) (given_up s)
    does_squash e d ending differs start c = sym (commit_is start slaves c (Some e) (Some d) ending differs)

    pub does_commit : (e : Ending) → k.ending ≡ Some e → differ k.seen.recorded (value s.committed.arch) ≡ None
        → Does image slaves event.Commit s (Committed k.steps (dropped_of e s.tasks)) (retired e (moved_on k s))
    does_commit e ending none start c = retired_is start slaves c e ∙ sym (commit_is start slaves c (Some e) None ending none)

    pub costly_commit : (e : Ending) → k.ending ≡ Some e → differ k.seen.recorded (value s.committed.arch) ≡ None → IsCostly image slaves event.Commit s
    costly_commit e ending none start c = subst (λ (a : Answer). MayTake a.0) (sym (commit_is start slaves c (Some e) None ending none)) tt

-- the tasks that are left
pub retired_tasks : (image : Distilled) (e : Ending) (s : Shown) → AreTasksOf image s.tasks → AreTasksOf image (retired e s).tasks
retired_tasks image Reached s h = rested_tasks image (record s { tasks = younger s.tasks }) s.master (younger s.tasks) (tasks_younger image s.tasks h)
retired_tasks image Met s h = tt
retired_tasks image Full s h = tt

-- the machine's cells, where a view was laid over it
pub laid_pc : (pc : ℕ) (seen : Seen) (f : Cell → ℕ) → laid pc seen f Pc ≡ pc
unfolding laid
laid_pc pc seen f = refl

pub laid_reg : (pc : ℕ) (seen : Seen) (f : Cell → ℕ) (n : ℕ) → seen.wrote (Reg n) ≡ false → laid pc seen f (Reg n) ≡ f (Reg n)
unfolding laid
laid_reg pc seen f n e = ap (λ b. cond b (seen.value (Reg n)) (f (Reg n))) e
