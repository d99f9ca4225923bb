-- How many cells a task of an image records at most, and how many bytes it prints.
use Rattle.std.proofs.Common.{◌≡◌, ℕ, zero, suc, ◌+◌, ◌*◌, ◌≤◌, ◌<◌, Bool, true, false, cond, List, [], length, refl, sym, ap, ◌∙◌, subst, arith, Option, Some, None, is_some, ⊎_elim}
use Rattle.std.specs.Prelude.{nat_le, find, ◌==◌}
use Rattle.std.proofs.lemmas.Bool.{and_parts, leb-true}
use Rattle.std.proofs.lemmas.List.{length-append}
use mathlib.Core.Path.{fun_ext}
use Rattle.cells.specs.declared.Cell.{Cell}
use Rattle.cells.specs.declared.Cell.TheVariants.{Reg}
use Rattle.cells.specs.Bytes.{bytes_from}
use Rattle.cells.specs.Cells.{Arch, value, from_cells}
use Rattle.cells.specs.Run.{State}
use Rattle.cells.specs.Seen.{Seen}
use Rattle.cells.specs.Task.{moves, said, recorded}
use Rattle.speculation.specs.declared.Ending.{Ending}
use Rattle.speculation.specs.declared.Ending.TheVariants.{Reached, Met, Full}
use Rattle.speculation.specs.Task.{EndFits, looked}
use Rattle.rv_word.specs.declared.inst.Inst.{Inst}
use Rattle.rv_word.specs.Meaning.{meaning}
use Rattle.rv_semantics.specs.Values.{bytes_of}
use Rattle.rv_semantics.specs.Prints.{nowhere, is_short_write, is_task_call, asks, task_output}
use Rattle.rv_semantics.specs.Machine.{machine, machine_in, word_at}
use Rattle.rv_semantics.specs.Bounded.{IsAmong}
use Rattle.rv_semantics.proofs.Bounded.{recorded_few, recorded_printing}
use Rattle.dist_image.specs.Image.{Distilled, IsImage, most_steps, prints_at}
use Rattle.image_semantics.specs.World.{world, task_machine}
use Rattle.slave.specs.Task.{Shown, modelled, Shows, IsTaskOf}
use Rattle.slave.specs.Laws.{IsSmall, most_recorded, most_printed}

-- ---- what steps print

bytes_many : (n a : ℕ) (m : ℕ → ℕ) → length (bytes_from n a m) ≡ n
bytes_many zero a m = refl
bytes_many (suc n) a m = ap suc (bytes_many n (a + 1) m)

printed_few : (prints : ℕ → Bool) (i : Inst) (pc : ℕ) (v : Cell → ℕ) → length (task_output prints i pc v) ≤ 256
printed_few prints i pc v = few_if_call (is_task_call prints i pc v) refl
  where
    few_if_call : (b : Bool) → is_task_call prints i pc v ≡ b → length (cond b (bytes_from (v (Reg 12)) (v (Reg 11)) (bytes_of v)) []) ≤ 256
    few_if_call false e = omega arith
    few_if_call true e =
        let short = (and_parts (asks prints i pc) (is_short_write v) e).1 in
        let few = leb-true (v (Reg 12)) 256 (and_parts _ (nat_le (v (Reg 12)) 256) short).1 in
        let many = bytes_many (v (Reg 12)) (v (Reg 11)) (bytes_of v) in
        omega (arith, few, many)

said_few : (prints : ℕ → Bool) (c : Arch) (t : ℕ) → length (said (machine_in prints) c t) ≤ 256 * t
said_few prints c zero = omega arith
said_few prints c (suc t) =
    let s = moves (machine_in prints) c t in
    let sum = length-append (said (machine_in prints) c t) ((machine_in prints).says s) in
    let before = said_few prints c t in
    let now = printed_few prints (meaning (word_at s)) s.pc (value s) in
    omega (arith, sum, before, now)

said_none : (c : Arch) (t : ℕ) → length (said machine c t) ≡ 0
said_none c zero = refl
said_none c (suc t) = let sum = length-append (said machine c t) [] in let before = said_none c t in omega (arith, sum, before)

-- ---- a record of t steps

some_recorded : (b : Bool) (v : ℕ) → is_some (cond b (Some v) None) ≡ true → b ≡ true
some_recorded true v e = refl
some_recorded false v e = e

among_recorded : (test : Cell → Bool) (o : Cell → Option ℕ) (n m : ℕ) → n ≤ m → ((x : Cell) → is_some (o x) ≡ true → test x ≡ true) → IsAmong test n → IsAmong (λ x. is_some (o x)) m
among_recorded test o n m l h (cs, less, within) = (cs, omega (arith, l, less), λ x e. within x (h x e))

-- ---- a task of an image

looked_within : (o : Option Ending) (limit steps : ℕ) → steps ≤ limit → (o ≡ Some Met → steps < limit) → looked o steps ≤ limit
looked_within None limit steps l met = l
looked_within (Some Reached) limit steps l met = l
looked_within (Some Full) limit steps l met = l
looked_within (Some Met) limit steps l met = met refl

-- an image of the first version lists no pc
lists_none : (image : Distilled) → image.writes ≡ [] → prints_at image ≡ nowhere
lists_none image e = fun_ext (λ pc. ap (λ (ws : List ℕ). is_some (find (λ w. w == pc) ws)) e)

module _ (image : Distilled) (ok : IsImage image) (k : Shown) (start : State) (h : Shows (world start image 1) k) where
  abbrev c : Arch
  c = from_cells k.seen.base

  abbrev r : ℕ
  r = looked k.ending k.steps

  few_looks : r ≤ image.limit
  few_looks = looked_within k.ending image.limit k.steps h.task.within (λ e. (subst (EndFits (world start image 1) (modelled k)) e h.task.ended).0)

  recorded_is : (x : Cell) → is_some (k.seen.recorded x) ≡ true → recorded (task_machine image) c r x ≡ true
  recorded_is x e = some_recorded (recorded (task_machine image) c r x) (value c x) (sym (ap (λ (s : Seen). is_some (s.recorded x)) h.seen) ∙ e)

  at_first : image.version ≡ 1 → IsSmall image k
  at_first first =
      let none = lists_none image (ok.plain first).0 in
      let limit : image.limit ≤ 16_384 = subst (λ v. image.limit ≤ most_steps v) first ok.limit.1 in
      let few = few_looks in
      let silent = ap length (h.output ∙ ap (λ prints. said (machine_in prints) c k.steps) none) ∙ said_none c k.steps in
      subst (λ v. IsAmong (λ x. is_some (k.seen.recorded x)) (most_recorded v) × (length k.output ≤ most_printed v)) (sym first) (
        among_recorded (recorded machine c r) k.seen.recorded (10 * r) 163_840 (omega (arith, limit, few)) (λ x e. sym (ap (λ prints. recorded (machine_in prints) c r x) none) ∙ recorded_is x e) (recorded_few c r),
        omega (arith, silent),
      )

  at_second : image.version ≡ 2 → IsSmall image k
  at_second second =
      let limit : image.limit ≤ 4_096 = subst (λ v. image.limit ≤ most_steps v) second ok.limit.1 in
      let few = few_looks in
      let steps = h.task.within in
      let printed = said_few (prints_at image) c k.steps in
      let same = ap length h.output in
      subst (λ v. IsAmong (λ x. is_some (k.seen.recorded x)) (most_recorded v) × (length k.output ≤ most_printed v)) (sym second) (
        among_recorded (recorded (task_machine image) c r) k.seen.recorded (264 * r) 1_081_344 (omega (arith, limit, few)) recorded_is (recorded_printing (prints_at image) c r),
        omega (arith, limit, steps, printed, same),
      )

-- a state of a run, of which nothing but its being one is used
any : Arch → State
any a = record { arch = a; env = record { input = []; taken = 0; output = []; first_break = 0; brk = 0; over = None } }

pub small : (image : Distilled) → IsImage image → (k : Shown) → IsTaskOf image k → IsSmall image k
small image ok k h = ⊎_elim (at_first image ok k start shows) (at_second image ok k start shows) ok.version
  where
    start : State
    start = any (from_cells k.seen.base)

    shows : Shows (world (any (from_cells k.seen.base)) image 1) k
    shows = h (any (from_cells k.seen.base)) 1
