-- The bytes that a step reads and writes are those that the tally takes it to load and to put.
use Rattle.std.proofs.Common.{◌≡◌, ℕ, zero, suc, ◌+◌, ◌*◌, ◌/◌, ◌%◌, ◌^◌, ◌==◌, Bool, true, false, ◌&&◌, ◌||◌, not, cond, List, [], ◌∷◌, ◌++◌, length, take, Option, Some, None, is_some, refl, ap, ◌∙◌}
use Rattle.std.specs.Prelude.{nat_eq}
use Rattle.std.proofs.lemmas.Bool.{and_parts}
use Rattle.std.proofs.lemmas.List.{append-nil}
use Rattle.std.specs.List.{flat_map}
use Rattle.std.specs.Int.{w32, to_le_bytes}
use lib.Dec.{eqb}
use Rattle.rv_word.specs.declared.inst.Inst.{Inst}
use Rattle.rv_word.specs.declared.inst.Inst.TheVariants.{Lui, Auipc, Jal, Jalr, Branch, Load, Store, OpImm, Op, Fence, Ecall, Ebreak, Illegal}
use Rattle.rv_word.specs.declared.inst.StoreKind.{StoreKind}
use Rattle.rv_word.specs.declared.inst.StoreKind.TheVariants.{Sb, Sh, Sw}
use Rattle.rv_word.specs.Meaning.{meaning}
use Rattle.rv_word.specs.Masks.{sources}
use Rattle.cells.specs.declared.Cell.{Cell}
use Rattle.cells.specs.declared.Cell.TheVariants.{Reg, Byte}
use Rattle.cells.specs.Cells.{Arch, value}
use Rattle.cells.specs.Bytes.{byte_cells, byte_puts}
use Rattle.cells.specs.Run.{State}
use Rattle.cells.specs.Seen.{among as is_cell_of, puts_of, or_first}
use Rattle.rv_semantics.specs.Values.{register_cell, register_puts}
use Rattle.rv_semantics.specs.Effect.{Effect, effect_at, cells, first, second, holds, load_count, load_from, store_size, sum32, jumped, branched, after}
use Rattle.rv_semantics.specs.Prints.{is_short_write, is_call, asks, arguments, task_cells}
use Rattle.rv_semantics.proofs.Tasks.{is_call_is}
use Rattle.rv_semantics.specs.Machine.{machine_in, word_at, is_next}
use Rattle.rv_semantics.specs.Calls.{writes, stop_puts, call_puts, read_count}
use Rattle.fitting.specs.Claims.{among}
use Rattle.profile_laws.specs.Tally.{places, span, no_bytes, bytes_in, loaded, taken_in, stored}

pub cells_are_places : (k a b : ℕ) → is_cell_of (byte_cells k a) (Byte b) ≡ among (places k a) b
unfolding places
cells_are_places zero a b = refl
cells_are_places (suc k) a b = ap (λ c. nat_eq (a % 2 ^ 32) b || c) (cells_are_places k (a + 1) b)

-- no register is a byte
no_register : (rs : List ℕ) (cs : List Cell) (b : ℕ) → is_cell_of (flat_map register_cell rs ++ cs) (Byte b) ≡ is_cell_of cs (Byte b)
no_register [] cs b = refl
no_register (r ∷ rs) cs b = none_if_zero (r == 0) (no_register rs cs b)
  where
    none_if_zero : (t : Bool) → is_cell_of (flat_map register_cell rs ++ cs) (Byte b) ≡ is_cell_of cs (Byte b) → is_cell_of ((cond t [] (Reg r ∷ []) ++ flat_map register_cell rs) ++ cs) (Byte b) ≡ is_cell_of cs (Byte b)
    none_if_zero true rest = rest
    none_if_zero false rest = rest

abbrev own_loads : Inst → Arch → ℕ → Bool
own_loads i s b = among (places (load_count i) (load_from i (first (sources i) (value s)))) b

own_bytes : (i : Inst) (s : Arch) (b : ℕ) → is_cell_of (cells i (value s)) (Byte b) ≡ own_loads i s b
own_bytes i s b =
    let f = load_from i (first (sources i) (value s)) in
    no_register (sources i) (byte_cells (load_count i) f) b ∙ cells_are_places (load_count i) f b

-- beside what the instruction loads by itself, a call's bytes are shown
task_bytes : (prints : ℕ → Bool) (i : Inst) (s : Arch) (b : ℕ) → is_cell_of (task_cells prints i s.pc (value s)) (Byte b) ≡ among (bytes_in (loaded prints i s)) b
task_bytes prints i s b = told_if_asked (asks prints i s.pc) refl
  where
    read_by : Bool → Bool → Bool
    read_by a c = is_cell_of (cond a (arguments ++ cond c (byte_cells (s.regs 12) (s.regs 11)) []) [] ++ cells i (value s)) (Byte b)

    told : Bool → Bool
    told c = among (bytes_in (cond c (span (s.regs 12) (s.regs 11)) (span (load_count i) (load_from i (first (sources i) (value s)))))) b

    shows : (c : Bool) → is_call i ≡ true → read_by true c ≡ told c
    shows true call =
        ap (λ j. is_cell_of (byte_cells (s.regs 12) (s.regs 11) ++ cells j (value s)) (Byte b)) (is_call_is i call)
        ∙ ap (λ cs. is_cell_of cs (Byte b)) (append-nil (byte_cells (s.regs 12) (s.regs 11)))
        ∙ cells_are_places (s.regs 12) (s.regs 11) b
    shows false call = own_bytes i s b

    told_if_asked : (a : Bool) → asks prints i s.pc ≡ a → read_by a (is_short_write (value s)) ≡ told (a && is_short_write (value s))
    told_if_asked false e = own_bytes i s b
    told_if_asked true e = shows (is_short_write (value s)) (and_parts (prints s.pc) (is_call i) e).1

pub reads_are_loads : (prints : ℕ → Bool) (s : Arch) (b : ℕ) → (machine_in prints).reads s (Byte b) ≡ (among (places 4 s.pc) b || among (bytes_in (loaded prints (meaning (word_at s)) s)) b)
reads_are_loads prints s b =
    ap (λ c. is_cell_of (byte_cells 4 s.pc) (Byte b) || c) (task_bytes prints (meaning (word_at s)) s b)
    ∙ ap (λ c. c || among (bytes_in (loaded prints (meaning (word_at s)) s)) b) (cells_are_places 4 s.pc b)

-- a register's put is no byte's
no_register_put : (r v b : ℕ) → is_some (puts_of (register_puts r v) (Byte b)) ≡ false
no_register_put r v b = no_put_if_zero (r == 0)
  where
    no_put_if_zero : (t : Bool) → is_some (puts_of (cond t [] ((Reg r, v) ∷ [])) (Byte b)) ≡ false
    no_put_if_zero true = refl
    no_put_if_zero false = refl

put_or : (o : Option ℕ) (t : Bool) (v : ℕ) → is_some (or_first o (cond t (Some v) None)) ≡ (t || is_some o)
put_or None true v = refl
put_or None false v = refl
put_or (Some x) true v = refl
put_or (Some x) false v = refl

puts_are_places : (vs : List ℕ) (a b : ℕ) → is_some (puts_of (byte_puts a vs) (Byte b)) ≡ among (places (length vs) a) b
unfolding places
puts_are_places [] a b = refl
puts_are_places (v ∷ vs) a b =
    put_or (puts_of (byte_puts (a + 1) vs) (Byte b)) (nat_eq (a % 2 ^ 32) b) v
    ∙ ap (λ c. nat_eq (a % 2 ^ 32) b || c) (puts_are_places vs (a + 1) b)

store_length : (kind : StoreKind) (v : ℕ) → length (take (store_size kind) (to_le_bytes w32 v)) ≡ store_size kind
store_length Sb v = refl
store_length Sh v = refl
store_length Sw v = refl

module _ (s : State) (b : ℕ) where
  -- what is written by an instruction with this effect
  abbrev written : Effect → Bool
  written e = cond (not (is_next e.flow)) (stop_puts s e.flow (Byte b)) (is_some (puts_of e.puts (Byte b)))

  jump_puts_none : (t : Bool) (to : ℕ) → written (jumped t to []) ≡ false
  jump_puts_none true to = refl
  jump_puts_none false to = refl

  jump_puts : (t : Bool) (to r v : ℕ) → written (jumped t to (register_puts r v)) ≡ false
  jump_puts true to r v = no_register_put r v b
  jump_puts false to r v = refl

  branch_puts : (t : Bool) (pc to : ℕ) → written (branched t pc to) ≡ false
  branch_puts true pc to = jump_puts_none (to % 4 == 0) to
  branch_puts false pc to = refl

  call_puts_taken : call_puts s (Byte b) ≡ among (bytes_in (taken_in s)) b
  unfolding places
  call_puts_taken = taken_if_reading (nat_eq (s.arch.regs 17) 63 && nat_eq (s.arch.regs 10) 0)
    where
      taken_if_reading : (t : Bool) → (t && is_cell_of (byte_cells (read_count s) (s.arch.regs 11)) (Byte b)) ≡ among (bytes_in (cond t (span (read_count s) (s.arch.regs 11)) no_bytes)) b
      taken_if_reading true = cells_are_places (read_count s) (s.arch.regs 11) b
      taken_if_reading false = refl

  -- by the instruction
  written_by : (i : Inst) → written (effect_at i s.arch.pc (value s.arch)) ≡ among (bytes_in (stored i s)) b
  unfolding places
  written_by (Lui rd imm) = no_register_put rd imm b
  written_by (Auipc rd imm) = no_register_put rd ((s.arch.pc + imm) % 2 ^ 32) b
  written_by (Jal rd off) = jump_puts (sum32 s.arch.pc off % 4 == 0) (sum32 s.arch.pc off) rd (after s.arch.pc)
  written_by (Jalr rd rs1 off) =
      let to = sum32 (first (rs1 ∷ []) (value s.arch)) off / 2 * 2 in
      jump_puts (to % 4 == 0) to rd (after s.arch.pc)
  written_by (Branch test rs1 rs2 off) = branch_puts (holds test (first (rs1 ∷ rs2 ∷ []) (value s.arch)) (second (rs1 ∷ rs2 ∷ []) (value s.arch))) s.arch.pc (sum32 s.arch.pc off)
  written_by (Load kind rd rs1 off) = no_register_put rd _ b
  written_by (Store kind rs1 rs2 off) =
      let f = sum32 (first (rs1 ∷ rs2 ∷ []) (value s.arch)) off in
      let n = second (rs1 ∷ rs2 ∷ []) (value s.arch) in
      puts_are_places (take (store_size kind) (to_le_bytes w32 n)) f b
      ∙ ap (λ k. among (places k f) b) (store_length kind n)
  written_by (OpImm op rd rs1 imm) = no_register_put rd _ b
  written_by (Op op rd rs1 rs2) = no_register_put rd _ b
  written_by (Fence w) = refl
  written_by Ecall = call_puts_taken
  written_by Ebreak = refl
  written_by (Illegal w) = refl

pub writes_are_puts : (s : State) (b : ℕ) → writes s (Byte b) ≡ among (bytes_in (stored (meaning (word_at s.arch)) s)) b
unfolding writes
writes_are_puts s b = written_by s b (meaning (word_at s.arch))
