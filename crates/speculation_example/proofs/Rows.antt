-- The worked rows: they compute, but for the comparison of a commit.
use Rattle.std.proofs.Common.{◌≡◌, ℕ, zero, suc, inl, inr, ⊎_elim, ◌⊎◌, Bool, true, false, ◌&&◌, cond, List, [], ◌∷◌, Option, Some, None, refl, sym, ap, ◌∙◌, subst, true≢false}
use Rattle.std.specs.Prelude.{nat_eq, not}
use Rattle.std.proofs.lemmas.Bool.{eqb-true, eq-eqb, not-false, and_parts, or_cases}
use Rattle.cells.specs.declared.Cell.{Cell}
use Rattle.cells.specs.declared.Cell.TheVariants.{Pc, Reg, Byte}
use Rattle.cells.specs.declared.Differ.{Differ}
use Rattle.cells.specs.Cells.{Arch, value, is_pc}
use Rattle.cells.specs.Run.{is_over}
use Rattle.cells.specs.Task.{apply, moves, recorded, written, recorded_values}
use Rattle.cells.specs.Differ.{is_other, differs, first_where, first_reg, differ}
use Rattle.cells.proofs.Differs.{differ_pc, differ_reg}
use Rattle.speculation.specs.declared.Effect.TheVariants.{Moved, Forked, Stepped, Done, Committed, Squashed, Started, Idle}
use Rattle.speculation.specs.declared.Ending.TheVariants.{Reached}
use Rattle.speculation.specs.declared.Event.TheVariants.{Master as MasterEvent, Slave, Commit, Serial as SerialEvent, Restart}
use Rattle.speculation.specs.World.{World}
use Rattle.speculation.specs.Task.{Task, new_task, record_of, differ_at}
use Rattle.speculation.specs.Engine.{Model, Answer, in_debt, commit_front, commit, counted, happens, run, fresh, effects}
use Rattle.speculation.proofs.Runs.{first_told}
use Rattle.speculation_example.specs.Small.{Op, op_of, loads, looks, speculation_example, small_world, small_start}
use Rattle.speculation_example.specs.Rows.{FindsNothing, Forks, ReachesFirst, IsFull, MeetsCall, DoesKnown, GivesFuel, SpendsAll, Ends, ComparesLate, Squashes, CountsSquash, GivesUp, LooksAtCall, astray, at_call, start_at}
use Rattle.speculation_example.specs.Laws.{small}

pub finds_nothing : FindsNothing
unfolding happens
finds_nothing = refl

pub forks : Forks
unfolding happens
forks = refl

pub reaches_first : ReachesFirst
unfolding happens
reaches_first = refl

pub is_full : IsFull
unfolding happens
is_full = refl

pub meets_call : MeetsCall
unfolding happens
meets_call = refl

pub does_known : DoesKnown
unfolding happens
does_known = refl

pub gives_fuel : GivesFuel
unfolding happens
gives_fuel = refl

pub spends_all : SpendsAll
unfolding happens
spends_all = refl

pub ends : Ends
unfolding happens
ends = refl

-- a value is not another one than itself
is_same : (b : Bool) (v : ℕ) → is_other (cond b (Some v) None) v ≡ false
is_same true v = ap not (eq-eqb v v refl)
is_same false v = refl

equal_of : (p v : ℕ) → is_other (Some p) v ≡ false → p ≡ v
equal_of p v e = eqb-true p v (not-false (nat_eq p v) e)

-- where no recorded cell differs, none is told
none_told : (recorded : Cell → Option ℕ) (found : Cell → ℕ) → ((x : Cell) → differs recorded found x ≡ false) → differ recorded found ≡ None
none_told recorded found same = tells_none (differ recorded found) refl
  where
    tells_none : (o : Option Differ) → differ recorded found ≡ o → o ≡ None
    tells_none None e = refl
    tells_none (Some d) e =
        let f = first_told recorded found d e in
        absurd (f.other (equal_of d.predicted (found d.cell) (ap (λ o. is_other o (found d.cell)) (sym f.was_recorded) ∙ same d.cell) ∙ f.is_found))

-- a task of the small machine records the pc, register 1 and byte 96 at most
abbrev MayRecord : Cell → Type 0
MayRecord x = (x ≡ Pc) ⊎ (x ≡ Reg 1) ⊎ (x ≡ Byte 96)

looked_first : (op : Op) (x : Cell) → looks op x ≡ true → MayRecord x
looked_first op Pc r = inl refl
looked_first op (Reg n) r = inr (inl (ap Reg (sym (eqb-true 1 n r))))
looked_first op (Byte a) r = inr (inr (ap Byte (sym (eqb-true 96 a (and_parts (loads op) (nat_eq 96 a) r).1))))

only_pc : (x : Cell) → is_pc x ≡ true → x ≡ Pc
only_pc Pc e = refl
only_pc (Reg n) e = absurd (true≢false (sym e))
only_pc (Byte a) e = absurd (true≢false (sym e))

recorded_cells : (c : Arch) (t : ℕ) (x : Cell) → recorded speculation_example c t x ≡ true → MayRecord x
recorded_cells c zero x r = inl (only_pc x r)
recorded_cells c (suc t) x r =
    ⊎_elim
    (λ (h : recorded speculation_example c t x ≡ true). recorded_cells c t x h)
    (λ (h : (speculation_example.reads (moves speculation_example c t) x && not (written speculation_example c t x)) ≡ true).
    looked_first (op_of (moves speculation_example c t).pc) x (and_parts (speculation_example.reads (moves speculation_example c t) x) (not (written speculation_example c t x)) h).0)
    (or_cases (recorded speculation_example c t x) (speculation_example.reads (moves speculation_example c t) x && not (written speculation_example c t x)) r)

agrees : (c s : Arch) (t : ℕ) → s.pc ≡ c.pc → s.regs 1 ≡ c.regs 1 → s.mem 96 ≡ c.mem 96 → differ (recorded_values speculation_example c t) (value s) ≡ None
agrees c s t pc one known = none_told (recorded_values speculation_example c t) (value s) (λ x. at x (recorded speculation_example c t x) refl)
  where
    at : (x : Cell) (b : Bool) → recorded speculation_example c t x ≡ b → is_other (cond b (Some (value c x)) None) (value s x) ≡ false
    at x false e = refl
    at x true e = may x (recorded_cells c t x e)
      where
        may : (x : Cell) → MayRecord x → is_other (Some (value c x)) (value s x) ≡ false
        may x (inl h) = subst (λ x. is_other (Some (value c x)) (value s x) ≡ false) (sym h) (ap (λ v. is_other (Some c.pc) v) pc ∙ is_same true c.pc)
        may x (inr (inl h)) = subst (λ x. is_other (Some (value c x)) (value s x) ≡ false) (sym h) (ap (λ v. is_other (Some (c.regs 1)) v) one ∙ is_same true (c.regs 1))
        may x (inr (inr h)) = subst (λ x. is_other (Some (value c x)) (value s x) ≡ false) (sym h) (ap (λ v. is_other (Some (c.mem 96)) v) known ∙ is_same true (c.mem 96))

abbrev first_of : List Task → Task
first_of [] = new_task 0 small_start.arch 1
first_of (t ∷ ts) = t

abbrev others : List Task → List Task
others [] = []
others (t ∷ ts) = ts

-- one commit in a row
committed_next : (w : World) (m : Model) (t : Task) (ts : List Task) (d : Option Differ) → m.tasks ≡ t ∷ ts → is_over m.committed ≡ false → differ_at w t m.committed ≡ d
    → happens w m Commit ≡ counted Commit m.counts (commit_front w m t ts t.ending d)
unfolding happens
committed_next w m t ts d tasks going is =
    ap (λ (b : Bool). counted Commit m.counts (cond b (Idle, m) (commit w m m.tasks))) going
    ∙ ap (λ l. counted Commit m.counts (commit w m l)) tasks
    ∙ ap (λ d. counted Commit m.counts (commit_front w m t ts t.ending d)) is

strayed : Task
strayed = record { number = 4; base = (start_at 4 9).arch; count = 1; steps = 2; ending = Some Reached }

squashed_next : happens small astray Commit ≡ counted Commit astray.counts (Squashed (record { cell = Pc; predicted = 4; found = 0 }), in_debt astray)
unfolding strayed
squashed_next = committed_next small astray strayed [] _ refl refl (differ_pc (record_of small strayed) (value small_start.arch) refl)

pub squashes : Squashes
unfolding happens
squashes =
    ap (λ (a : Answer). a.0 ∷ effects small (Restart ∷ SerialEvent ∷ SerialEvent ∷ SerialEvent ∷ Restart ∷ MasterEvent ∷ MasterEvent ∷ MasterEvent ∷ []) a.1) squashed_next

pub counts_squash : CountsSquash
unfolding happens
counts_squash = ap (λ (a : Answer). (run small (Restart ∷ SerialEvent ∷ SerialEvent ∷ []) a.1).counts) squashed_next

abbrev at_end : World
at_end = small_world 8 (start_at 12 5)

pub gives_up : GivesUp
unfolding happens apply
gives_up =
    ap (λ (a : Answer). a.0 ∷ effects at_end (Slave 1 ∷ Restart ∷ SerialEvent ∷ SerialEvent ∷ []) a.1)
    (committed_next at_end (at_call 5) (first_of (at_call 5).tasks) (others (at_call 5).tasks) None refl refl (agrees (start_at 12 5).arch (start_at 12 5).arch 1 refl refl refl))

first_reg_is : first_reg (record_of at_end (first_of (at_call 9).tasks)) (value (start_at 12 5).arch) ≡ Some 1
unfolding first_where
first_reg_is = refl

pub looks_at_call : LooksAtCall
unfolding happens
looks_at_call =
    ap (λ (a : Answer). a.0 ∷ effects at_end (SerialEvent ∷ []) a.1)
    (committed_next at_end (at_call 9) (first_of (at_call 9).tasks) (others (at_call 9).tasks) _ refl refl
    (differ_reg (record_of at_end (first_of (at_call 9).tasks)) (value (start_at 12 5).arch) 1 refl first_reg_is))

-- both tasks are done, and then both are committed
abbrev both_done : Model
both_done = run small (Restart ∷ MasterEvent ∷ MasterEvent ∷ MasterEvent ∷ Slave 1 ∷ Slave 1 ∷ Slave 1 ∷ Slave 0 ∷ Slave 0 ∷ Slave 0 ∷ []) (fresh small)

abbrev one_left : Answer
one_left = counted Commit both_done.counts (commit_front small both_done (first_of both_done.tasks) (others both_done.tasks) (Some Reached) None)

first_commit : happens small both_done Commit ≡ one_left
unfolding happens
first_commit =
    committed_next small both_done (first_of both_done.tasks) (others both_done.tasks) None refl refl
    (agrees (first_of both_done.tasks).base both_done.committed.arch 3 refl refl refl)

second_commit : happens small one_left.1 Commit ≡ counted Commit one_left.1.counts (commit_front small one_left.1 (first_of one_left.1.tasks) [] (Some Reached) None)
unfolding happens apply
second_commit =
    committed_next small one_left.1 (first_of one_left.1.tasks) [] None refl refl
    (agrees (first_of one_left.1.tasks).base one_left.1.committed.arch 3 refl refl refl)

pub compares_late : ComparesLate
unfolding happens
compares_late =
    ap (λ l. Started 0 ∷ Moved ∷ Moved ∷ Forked 1 ∷ Stepped ∷ Stepped ∷ Done Reached ∷ Stepped ∷ Stepped ∷ Done Reached ∷ l)
    (ap (λ (a : Answer). a.0 ∷ (happens small a.1 Commit).0 ∷ []) first_commit ∙ ap (λ (a : Answer). Committed 3 0 ∷ a.0 ∷ []) second_commit)
