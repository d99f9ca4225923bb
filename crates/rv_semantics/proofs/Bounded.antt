-- How many cells a task can record: no step reads more than ten, and one that may print no more than 264.
use Rattle.std.proofs.Common.{◌≡◌, ℕ, zero, suc, ◌+◌, ◌*◌, ◌≤◌, Bool, true, false, not, cond, ◌||◌, ◌&&◌, refl, sym, ap, subst, ◌∙◌, List, [], ◌∷◌, ◌++◌, length, arith, ◌⊎◌, inl, inr}
use lib.Dec.{eqb}
use Rattle.std.specs.Prelude.{nat_le}
use Rattle.std.specs.List.{flat_map}
use Rattle.std.proofs.lemmas.Bool.{or_cases, or_left, or_right, and_parts, leb-true}
use Rattle.std.proofs.lemmas.List.{length-append}
use Rattle.rv_word.specs.declared.inst.LoadKind.{LoadKind}
use Rattle.rv_word.specs.declared.inst.LoadKind.TheVariants.{Lb, Lh, Lw, Lbu, Lhu}
use Rattle.rv_word.specs.declared.inst.Inst.{Inst}
use Rattle.rv_word.specs.declared.inst.Inst.TheVariants.{Lui, Auipc, Jal, Jalr, Branch, Load, Store, OpImm, Op, Fence, Ecall, Ebreak, Illegal}
use Rattle.rv_word.specs.Masks.{sources}
use Rattle.rv_word.specs.Meaning.{meaning}
use Rattle.cells.specs.declared.Cell.{Cell}
use Rattle.cells.specs.declared.Cell.TheVariants.{Reg}
use Rattle.cells.specs.Cells.{Arch, value, is_pc}
use Rattle.cells.specs.Bytes.{byte_cells}
use Rattle.cells.specs.Seen.{among}
use Rattle.cells.specs.Task.{moves, written, recorded}
use Rattle.rv_semantics.specs.Values.{register_cell}
use Rattle.rv_semantics.specs.Effect.{cells, load_count, load_from, load_size, first}
use Rattle.rv_semantics.specs.Prints.{nowhere, is_short_write, is_call, asks, arguments, shown, task_cells}
use Rattle.rv_semantics.specs.Machine.{machine, machine_in, word_at}
use Rattle.rv_semantics.specs.Bounded.{IsAmong}
use Rattle.rv_semantics.proofs.Local.{among_append}
use Rattle.rv_semantics.proofs.Tasks.{is_call_is}

bytes_many : (k a : ℕ) → length (byte_cells k a) ≡ k
bytes_many zero a = refl
bytes_many (suc k) a = ap suc (bytes_many k (a + 1))

register_one : (r : ℕ) → length (register_cell r) ≤ 1
register_one r = one_cell_at_most (eqb r 0)
  where
    one_cell_at_most : (b : Bool) → length (cond b [] (Reg r ∷ [])) ≤ 1
    one_cell_at_most true = omega arith
    one_cell_at_most false = omega arith

registers_few : (rs : List ℕ) → length (flat_map register_cell rs) ≤ length rs
registers_few [] = omega arith
registers_few (r ∷ rs) =
    let sum = length-append (register_cell r) (flat_map register_cell rs) in
    let one = register_one r in
    let rest = registers_few rs in
    omega (arith, sum, one, rest)

size_few : (kind : LoadKind) → load_size kind ≤ 4
size_few Lb = omega arith
size_few Lbu = omega arith
size_few Lh = omega arith
size_few Lhu = omega arith
size_few Lw = omega arith

sources_few : (i : Inst) → length (sources i) + load_count i ≤ 6
sources_few (Lui rd imm) = omega arith
sources_few (Auipc rd imm) = omega arith
sources_few (Jal rd off) = omega arith
sources_few (Jalr rd rs1 off) = omega arith
sources_few (Branch test rs1 rs2 off) = omega arith
sources_few (Load kind rd rs1 off) = let few = size_few kind in omega (arith, few)
sources_few (Store kind rs1 rs2 off) = omega arith
sources_few (OpImm op rd rs1 imm) = omega arith
sources_few (Op op rd rs1 rs2) = omega arith
sources_few (Fence w) = omega arith
sources_few Ecall = omega arith
sources_few Ebreak = omega arith
sources_few (Illegal w) = omega arith

cells_few : (i : Inst) (v : Cell → ℕ) → length (cells i v) ≤ 6
cells_few i v =
    let from = load_from i (first (sources i) v) in
    let parts = length-append (flat_map register_cell (sources i)) (byte_cells (load_count i) from) in
    let loaded = bytes_many (load_count i) from in
    let few = registers_few (sources i) in
    let most = sources_few i in
    omega (arith, parts, loaded, few, most)

-- a short write shows at most 256 bytes
shown_few : (v : Cell → ℕ) → length (shown v) ≤ 256
shown_few v = few_if_short (is_short_write v) refl
  where
    few_if_short : (b : Bool) → is_short_write v ≡ b → length (cond b (byte_cells (v (Reg 12)) (v (Reg 11))) []) ≤ 256
    few_if_short false e = omega arith
    few_if_short true e =
        let few = leb-true (v (Reg 12)) 256 (and_parts _ (nat_le (v (Reg 12)) 256) e).1 in
        let many = bytes_many (v (Reg 12)) (v (Reg 11)) in
        omega (arith, few, many)

task_cells_few : (prints : ℕ → Bool) (i : Inst) (pc : ℕ) (v : Cell → ℕ) → length (task_cells prints i pc v) ≤ 260
task_cells_few prints i pc v = few_if_asked (asks prints i pc) refl
  where
    few_if_asked : (b : Bool) → asks prints i pc ≡ b → length (cond b (arguments ++ shown v) [] ++ cells i v) ≤ 260
    few_if_asked false e = let few = cells_few i v in omega (arith, few)
    few_if_asked true e =
        subst (λ i. length ((arguments ++ shown v) ++ cells i v) ≤ 260) (sym (is_call_is i (and_parts (prints pc) (is_call i) e).1))
        (let none = length-append (arguments ++ shown v) [] in
        let few = shown_few v in
        omega (arith, none, few))

module _ (prints : ℕ → Bool) (most : ℕ) (few : (i : Inst) (pc : ℕ) (v : Cell → ℕ) → length (task_cells prints i pc v) ≤ most) where
  -- the cells that a step reads
  abbrev read_at : Arch → List Cell
  read_at s = byte_cells 4 s.pc ++ task_cells prints (meaning (word_at s)) s.pc (value s)

  read_few : (s : Arch) → length (read_at s) ≤ most + 4
  read_few s =
      let all = length-append (byte_cells 4 s.pc) (task_cells prints (meaning (word_at s)) s.pc (value s)) in
      let fetched = bytes_many 4 s.pc in
      let own = few (meaning (word_at s)) s.pc (value s) in
      omega (arith, all, fetched, own)

  read_is : (s : Arch) (x : Cell) → (machine_in prints).reads s x ≡ true → among (read_at s) x ≡ true
  read_is s x e = among_append (byte_cells 4 s.pc) (task_cells prints (meaning (word_at s)) s.pc (value s)) x ∙ e

  -- what was recorded before, or is read now
  joined : (m : Arch → Cell → Bool) (s : Arch) (n : ℕ) (was not_yet : Cell → Bool) → m s ≡ (machine_in prints).reads s → IsAmong was n
      → IsAmong (λ x. was x || (m s x && not_yet x)) (n + (most + 4))
  joined m s n was not_yet same before =
      let sum = length-append before.0 (read_at s) in
      let less = before.1 in
      let now = read_few s in
      (before.0 ++ read_at s, omega (arith, sum, less, now), λ x e. before_or_now x (or_cases (was x) (m s x && not_yet x) e))
    where
      old : (x : Cell) → (is_pc x ≡ true) ⊎ (among before.0 x ≡ true) → (is_pc x ≡ true) ⊎ (among (before.0 ++ read_at s) x ≡ true)
      old x (inl p) = inl p
      old x (inr a) = inr (among_append before.0 (read_at s) x ∙ or_left (among before.0 x) (among (read_at s) x) a)

      before_or_now : (x : Cell) → (was x ≡ true) ⊎ ((m s x && not_yet x) ≡ true) → (is_pc x ≡ true) ⊎ (among (before.0 ++ read_at s) x ≡ true)
      before_or_now x (inl h) = old x (before.2 x h)
      before_or_now x (inr h) =
          inr (among_append before.0 (read_at s) x
          ∙ or_right (among before.0 x) (among (read_at s) x) (read_is s x (ap (λ (f : Cell → Bool). f x) (sym same) ∙ (and_parts (m s x) (not_yet x) h).0)))

  all_few : (c : Arch) (t : ℕ) → IsAmong (recorded (machine_in prints) c t) (t * (most + 4))
  all_few c zero = ([], omega arith, λ x e. inl e)
  all_few c (suc t) =
      let more : t * (most + 4) + (most + 4) ≡ suc t * (most + 4) = omega arith in
      subst (λ n. IsAmong (recorded (machine_in prints) c (suc t)) n) more
      (joined (machine_in prints).reads (moves (machine_in prints) c t) (t * (most + 4)) (recorded (machine_in prints) c t) (λ x. not (written (machine_in prints) c t x)) refl (all_few c t))

pub recorded_few : (c : Arch) (t : ℕ) → IsAmong (recorded machine c t) (10 * t)
recorded_few c t =
    let turned : t * 10 ≡ 10 * t = omega arith in
    subst (λ n. IsAmong (recorded machine c t) n) turned (all_few nowhere 6 (λ i pc v. cells_few i v) c t)

pub recorded_printing : (prints : ℕ → Bool) (c : Arch) (t : ℕ) → IsAmong (recorded (machine_in prints) c t) (264 * t)
recorded_printing prints c t =
    let turned : t * 264 ≡ 264 * t = omega arith in
    subst (λ n. IsAmong (recorded (machine_in prints) c t) n) turned (all_few prints 260 (task_cells_few prints) c t)
