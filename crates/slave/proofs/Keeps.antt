-- An event keeps a task a task, and a task's record, writes and pc give the state after its steps.
use Rattle.std.proofs.Common.{◌≡◌, ℕ, ◌+◌, ◌<◌, ◌≤◌, ◌%◌, zero, suc, Bool, true, false, cond, refl, sym, ap, ◌∙◌, subst, arith, Option, Some, None, List, [], ◌∷◌, ◌++◌, not, append_assoc, add-one}
use Rattle.std.specs.Prelude.{nat_eq, is_some, IfSome, IsNone, OnErr, Result, Ok, Err}
use Rattle.std.specs.Int.{from_bool}
use Rattle.std.proofs.lemmas.List.{append-nil}
use mathlib.Core.Path.{fun_ext}
use Rattle.cells.specs.declared.Cell.{Cell}
use Rattle.cells.specs.declared.Cell.TheVariants.{Pc, Reg, Byte}
use Rattle.cells.specs.Cells.{Arch, value, from_cells}
use Rattle.cells.specs.Machine.{Machine, IsLocal}
use Rattle.cells.specs.Run.{State, is_over, printed, iterate}
use Rattle.cells.specs.Task.{moves, said, recorded, recorded_values, IsQuiet, Matches, applied, apply}
use Rattle.cells.specs.Bytes.{bytes_from}
use Rattle.cells.specs.Seen.{Seen, task_seen, task_value}
use Rattle.cells.proofs.Law.{jump, quiet_too, same_said, Matches-less}
use Rattle.speculation.specs.declared.Ending.{Ending}
use Rattle.speculation.specs.declared.Ending.TheVariants.{Reached, Met, Full}
use Rattle.speculation.specs.World.{World, arrivals}
use Rattle.speculation.specs.Task.{advance, ended_by, looked, IsTask, EndFits}
use Rattle.speculation.proofs.Runs.{advance_keeps}
use Rattle.rv_word.specs.declared.inst.Inst.{Inst}
use Rattle.rv_word.specs.Meaning.{meaning}
use Rattle.rv_semantics.specs.declared.Flow.{Flow}
use Rattle.rv_semantics.specs.declared.Flow.TheVariants.{Next, Call, Break, Illegal, Misfetch}
use Rattle.rv_semantics.specs.Values.{bytes_of}
use Rattle.rv_semantics.specs.Effect.{effect_at, next}
use Rattle.rv_semantics.specs.Prints.{is_task_call, task_effect, task_output}
use Rattle.rv_semantics.specs.Machine.{is_next, word_at}
use Rattle.rv_semantics.specs.Calls.{step}
use Rattle.rv_semantics.proofs.Tasks.{machine_local, moves as does_step}
use Rattle.rv_step.specs.Outcome.{Outcome, task_step, inst_at}
use Rattle.rv_step.proofs.Follows.{task_follows}
use Rattle.dist_image.specs.Image.{Distilled, IsImage, anchor_at, prints_at}
use Rattle.image_semantics.specs.World.{world, task_machine}
use Rattle.image_semantics.proofs.Known.{known}
use Rattle.layers.specs.Layered.{laid, begun, pc_alone}
use Rattle.slave.specs.Task.{Shown, fresh, next_of, ending_after, left_at, went, performed, goes_to, advanced, modelled, Shows, IsTaskOf, Agrees, FollowsRun}
use Rattle.slave.proofs.Worlds.{one_more, task_same}
use Rattle.slave.proofs.Calls.{step_four}

-- ---- what a view lays and records is what the definition applies and records

laid_at : (m : Machine) (c : Arch) (f : Cell → ℕ) (t r pc : ℕ) → pc ≡ (moves m c t).pc → (x : Cell) → laid pc (task_seen m c t r) f x ≡ applied m c t (from_cells f) x
unfolding laid task_value
laid_at m c f t r pc e Pc = e
laid_at m c f t r pc e (Reg n) = refl
laid_at m c f t r pc e (Byte a) = refl

pub laid_is : (w : World) (k : Shown) → Shows w k → (f : Cell → ℕ) → from_cells (laid k.pc k.seen f) ≡ apply w.machine (from_cells k.seen.base) k.steps (from_cells f)
unfolding apply
laid_is w k h f =
    ap (λ (s : Seen). from_cells (laid k.pc s f)) h.seen
    ∙ ap from_cells (fun_ext (laid_at w.machine (from_cells k.seen.base) f k.steps (looked k.ending k.steps) k.pc h.pc))

-- ---- where a task stops it prints nothing

none_printed : (prints : ℕ → Bool) (i : Inst) (pc : ℕ) (v : Cell → ℕ) → not (is_next (task_effect prints i pc v).flow) ≡ true → task_output prints i pc v ≡ []
none_printed prints i pc v = none_if_call (is_task_call prints i pc v)
  where
    none_if_call : (b : Bool) → not (is_next (cond b (next pc ((Reg 10, v (Reg 12)) ∷ [])) (effect_at i pc v)).flow) ≡ true → cond b (bytes_from (v (Reg 12)) (v (Reg 11)) (bytes_of v)) [] ≡ []
    none_if_call true e = absurd (cc)
    none_if_call false e = refl

matches_now : (m : Machine) → IsLocal m → (o : Option Ending) (c s : Arch) (t : ℕ) → Matches m c (looked o t) s → Matches m c t s
matches_now m local None c s t h = h
matches_now m local (Some Reached) c s t h = h
matches_now m local (Some Full) c s t h = h
matches_now m local (Some Met) c s t h = Matches-less m local c s t h

recorded_some : (b : Bool) (v : ℕ) → b ≡ true → cond b (Some v) None ≡ Some v
recorded_some true v e = refl
recorded_some false v e = absurd (cc)

module _ (start : State) (image : Distilled) (slaves : ℕ) where
  abbrev w : World
  w = world start image slaves

  abbrev m : Machine
  m = task_machine image

  local : IsLocal m
  local = machine_local (prints_at image)

  -- ---- the law of a task, over whole states

  matches_at : (c : Arch) (s : State) (t r : ℕ) → Agrees (task_seen m c t r) s → Matches m c r s.arch
  matches_at c s t r h x e = h x (value c x) (recorded_some (recorded m c r x) (value c x) e)

  -- steps where nothing stops a task
  quiet_steps : (s : State) (t : ℕ) → is_over s ≡ false → IsQuiet m s.arch t → iterate step s t ≡ record { arch = moves m s.arch t; env = printed s.env (said m s.arch t) }
  quiet_steps s zero over quiet = λ i. record s { env = record s.env { output = sym (append-nil s.env.output) i } }
  quiet_steps s (suc t) over quiet =
      ap step (quiet_steps s t over (λ i l. quiet i (omega arith)))
      ∙ does_step (prints_at image) (record { arch = moves m s.arch t; env = printed s.env (said m s.arch t) }) over (quiet t (omega arith))
      ∙ (λ i. record { arch = moves m s.arch (suc t); env = record s.env { output = append_assoc s.env.output (said m s.arch t) (m.says (moves m s.arch t)) i } })

  pub follows_run : (k : Shown) → Shows w k → FollowsRun k
  follows_run k h s over agrees =
      let c = from_cells k.seen.base in
      let r = looked k.ending k.steps in
      let matches = matches_now m local k.ending c s.arch k.steps (matches_at c s k.steps r (subst (λ (n : Seen). Agrees n s) h.seen agrees)) in
      quiet_steps s k.steps over (quiet_too m local c s.arch k.steps h.task.quiet matches)
      ∙ ap (λ (a : Arch). record { arch = a; env = printed s.env (said m s.arch k.steps) }) (sym (jump m local c s.arch k.steps h.task.quiet matches) ∙ sym (laid_is w k h (value s.arch)))
      ∙ ap (λ (bytes : List ℕ). record { arch = from_cells (laid k.pc k.seen (value s.arch)); env = printed s.env bytes }) (same_said m local c s.arch k.steps h.task.quiet matches ∙ sym h.output)

  -- ---- a task that has only begun

  begun_recorded : (base : Cell → ℕ) (x : Cell) → pc_alone base x ≡ recorded_values m (from_cells base) 0 x
  unfolding pc_alone
  begun_recorded base Pc = refl
  begun_recorded base (Reg n) = refl
  begun_recorded base (Byte a) = refl

  begun_value : (base : Cell → ℕ) (x : Cell) → base x ≡ task_value m (from_cells base) 0 x
  unfolding task_value
  begun_value base Pc = refl
  begun_value base (Reg n) = refl
  begun_value base (Byte a) = refl

  begun_base : (base : Cell → ℕ) (x : Cell) → base x ≡ value (from_cells base) x
  begun_base base Pc = refl
  begun_base base (Reg n) = refl
  begun_base base (Byte a) = refl

  begun_seen : (base : Cell → ℕ) → begun base ≡ task_seen m (from_cells base) 0 0
  begun_seen base = λ i. record { recording = true; base = fun_ext (begun_base base) i; value = fun_ext (begun_value base) i; recorded = fun_ext (begun_recorded base) i; wrote = λ x. false }

  pub fresh_shows : (number count : ℕ) (base : Cell → ℕ) → 0 < image.limit → 0 < count → base Pc % 4 ≡ 0 → Shows w (fresh number count base)
  fresh_shows number count base some counts four =
      record {
        seen = begun_seen base;
        output = refl;
        pc = refl;
        left = omega arith;
        aligned = four;
        task = record { quiet = λ i l. absurd (omega arith); within = omega arith; counted = λ i l. absurd (omega arith); ended = (some, counts) };
      }

  -- ---- one event of a running task

  looked_ran : (b d : Bool) (t : ℕ) → looked (cond b (Some Reached) (cond d (Some Full) None)) t ≡ t
  looked_ran true d t = refl
  looked_ran false true t = refl
  looked_ran false false t = refl

  none_left : (l a n : ℕ) → l + a ≡ n → nat_eq l 0 ≡ nat_eq a n
  none_left l a n sum = none_if_zero (nat_eq l 0) refl
    where
      none_if_zero : (b : Bool) → nat_eq l 0 ≡ b → nat_eq l 0 ≡ nat_eq a n
      none_if_zero b e = grind arith

  module _ (k : Shown) (h : Shows w k) (going : k.ending ≡ None) where
    abbrev c : Arch
    c = from_cells k.seen.base

    -- the definition's task makes the same step; and it shows what it should, if that is a task
    abbrev Goes : Shown → Type 0
    Goes j = (modelled j ≡ advance w (modelled k)) × (IsTask w (modelled j) → Shows w j)

    running : arrivals w c k.steps < k.count
    running = (subst (EndFits w (modelled k)) going h.task.ended).1

    seen_now : k.seen ≡ task_seen m c k.steps k.steps
    seen_now = h.seen ∙ ap (λ o. task_seen m c k.steps (looked o k.steps)) going

    abbrev out : Outcome
    out = task_step (prints_at image) k.pc k.seen

    abbrev Did : Outcome → Type 0
    Did o =
        ((to : ℕ) → o.flow ≡ Next to → (m.stops (moves m c k.steps) ≡ false) × ((moves m c (suc k.steps)).pc ≡ to) × (o.seen ≡ task_seen m c (suc k.steps) (suc k.steps)))
        × (is_next o.flow ≡ false → (m.stops (moves m c k.steps) ≡ true) × (o.seen ≡ task_seen m c k.steps (suc k.steps)))

    did : Did out
    did =
        let same : out ≡ task_step (prints_at image) (moves m c k.steps).pc (task_seen m c k.steps k.steps) = λ i. task_step (prints_at image) (h.pc i) (seen_now i) in
        subst Did (sym same) (task_follows (prints_at image) c k.steps h.task.quiet)

    -- what it prints at its pc
    prints_here : (pc : ℕ) → pc ≡ (moves m c k.steps).pc → task_output (prints_at image) (inst_at pc (task_value m c k.steps)) pc (task_value m c k.steps) ≡ m.says (moves m c k.steps)
    unfolding task_value
    prints_here pc e = ap (λ (n : ℕ). task_output (prints_at image) (inst_at n (value (moves m c k.steps))) n (value (moves m c k.steps))) e

    output_now : k.output ++ task_output (prints_at image) (inst_at k.pc k.seen.value) k.pc k.seen.value ≡ said m c k.steps ++ m.says (moves m c k.steps)
    output_now =
        let shown = ap (λ (s : Seen). s.value) seen_now in
        (λ i. h.output i ++ (ap (λ (v : Cell → ℕ). task_output (prints_at image) (inst_at k.pc v) k.pc v) shown ∙ prints_here k.pc h.pc) i)

    stood : is_next out.flow ≡ false → Goes (went image (performed (prints_at image) k) None)
    stood e =
        let d = did.1 e in
        let silent : m.says (moves m c k.steps) ≡ [] = none_printed (prints_at image) (meaning (word_at (moves m c k.steps))) (moves m c k.steps).pc (value (moves m c k.steps)) d.0 in
        let output = output_now ∙ ap (λ (bytes : List ℕ). said m c k.steps ++ bytes) silent ∙ append-nil (said m c k.steps) in
        subst (λ (s : Seen). Goes (record (performed (prints_at image) k) { seen = s; ending = Some Met })) (sym d.1) (
          sym (ap (λ b. cond b (record (modelled k) { ending = Some Met }) (record (modelled k) { steps = suc k.steps; ending = ended_by w (modelled k) })) d.0),
          λ is_task. record { seen = refl; output = output; pc = h.pc; left = h.left; aligned = h.aligned; task = is_task },
        )

    -- gone to a pc with so many steps
    abbrev gone : ℕ → ℕ → Shown
    gone to t =
        record (performed (prints_at image) k) { seen = task_seen m c (suc k.steps) (suc k.steps); pc = to; left = left_at image k to; steps = t; ending = ending_after (left_at image k to) t image.limit }

    sum : (to : ℕ) → (moves m c (suc k.steps)).pc ≡ to → left_at image k to + arrivals w c (suc k.steps) ≡ k.count
    sum to e =
        let more = one_more start image slaves c k.steps ∙ ap (λ (pc : ℕ). from_bool (is_some (anchor_at image pc)) + arrivals w c k.steps) e in
        let one = at_most_one (is_some (anchor_at image to)) in
        let before = h.left in
        let l = running in
        omega (arith, more, one, before, l)
      where
        at_most_one : (b : Bool) → from_bool b ≤ 1
        at_most_one true = omega arith
        at_most_one false = omega arith

    gone_goes : (to : ℕ) → m.stops (moves m c k.steps) ≡ false → (moves m c (suc k.steps)).pc ≡ to → to % 4 ≡ 0 → Goes (gone to (suc k.steps))
    gone_goes to runs e four =
        let l = left_at image k to in
        let same = ap (λ b. cond b (Some Reached) (cond (nat_eq (suc k.steps) image.limit) (Some Full) None)) (none_left l (arrivals w c (suc k.steps)) k.count (sum to e)) in (
          ap (λ (o : Option Ending). record (modelled k) { steps = suc k.steps; ending = o }) same
              ∙ sym (ap (λ b. cond b (record (modelled k) { ending = Some Met }) (record (modelled k) { steps = suc k.steps; ending = ended_by w (modelled k) })) runs),
          λ is_task. record {
            seen = ap (task_seen m c (suc k.steps)) (sym (looked_ran (nat_eq l 0) (nat_eq (suc k.steps) image.limit) (suc k.steps)));
            output = output_now;
            pc = sym e;
            left = sum to e;
            aligned = four;
            task = is_task;
          },
        )

    went_on : (to : ℕ) → out.flow ≡ Next to → to % 4 ≡ 0 → Goes (went image (performed (prints_at image) k) (Some to))
    went_on to e four =
        let d = did.0 to e in
        subst (λ (s : Seen). Goes (went image (record (performed (prints_at image) k) { seen = s }) (Some to))) (sym d.2)
        (subst (λ (t : ℕ). Goes (gone to t)) (sym (add-one k.steps)) (gone_goes to d.0 d.1 four))

    pub goes : Goes (advanced image k)
    unfolding advanced
    goes = goes_by out.flow refl
      where
        goes_by : (f : Flow) → out.flow ≡ f → Goes (went image (performed (prints_at image) k) (next_of f))
        goes_by (Next to) e = went_on to e (subst (λ (f : Flow). IfSome (next_of f) (λ (to : ℕ). to % 4 ≡ 0)) e (step_four (prints_at image) (inst_at k.pc k.seen.value) k.pc k.seen.value h.aligned))
        goes_by Call e = stood (ap is_next e)
        goes_by Break e = stood (ap is_next e)
        goes_by (Illegal word) e = stood (ap is_next e)
        goes_by (Misfetch to) e = stood (ap is_next e)

-- a task of an image stays one, and its event is the definition's
pub advanced_is_task : (image : Distilled) → IsImage image → (k : Shown) → IsTaskOf image k → k.ending ≡ None → IsTaskOf image (advanced image k)
advanced_is_task image ok k h going start slaves =
    let one = world start image 1 in
    let is_task : IsTask one (modelled (advanced image k)) =
    subst (IsTask one) (sym (goes start image 1 k (h start 1) going).0) (advance_keeps one (known start image 1 ok (omega arith)) (modelled k) (h start 1).task going) in
    (goes start image slaves k (h start slaves) going).1 (task_same start image 1 slaves (modelled (advanced image k)) is_task)

-- what the code did, part by part, is that event
pub went_is : (image : Distilled) (k j : Shown) (next : Option ℕ) → j ≡ performed (prints_at image) k → next ≡ goes_to (prints_at image) k → went image j next ≡ advanced image k
unfolding advanced
went_is image k j next e f = λ i. went image (e i) (f i)

-- ---- answers

pub on_err : {T E P : Type 0} (r : Result T E) → P → OnErr r P
on_err (Ok x) p = tt
on_err (Err e) p = p

pub none_is : (o : Option Ending) → IsNone o → o ≡ None
none_is None h = refl
none_is (Some e) h = absurd (cc)
