-- What an instruction does, by the values that it reads (RISC-V unprivileged manual, RV32I 2.1 and M 2.0). Nothing here
-- sees a state.
use Rattle.std.specs.Prelude.{ℕ, ℤ, ◌+◌, ◌*◌, ◌/◌, ◌%◌, ◌^◌, Bool, true, false, not, ◌||◌, nat_lt, int_lt, nat_le, int_le, ◌==◌, List, [], ◌∷◌, ◌++◌, take}
use Rattle.std.specs.List.{flat_map}
use Rattle.std.specs.Int.{w8, w16, w32, cast_signed, cast_unsigned, to_le_bytes}
use Rattle.rv_word.specs.declared.inst.Test.{Test}
use Rattle.rv_word.specs.declared.inst.Test.TheVariants.{Beq, Bne, Blt, Bge, Bltu, Bgeu}
use Rattle.rv_word.specs.declared.inst.LoadKind.{LoadKind}
use Rattle.rv_word.specs.declared.inst.LoadKind.TheVariants.{Lb, Lh, Lw, Lbu, Lhu}
use Rattle.rv_word.specs.declared.inst.StoreKind.{StoreKind}
use Rattle.rv_word.specs.declared.inst.StoreKind.TheVariants.{Sb, Sh, Sw}
use Rattle.rv_word.specs.declared.inst.ImmOp.{ImmOp}
use Rattle.rv_word.specs.declared.inst.ImmOp.TheVariants.{Addi, Slti, Sltiu, Xori, Ori, Andi, Slli, Srli, Srai}
use Rattle.rv_word.specs.declared.inst.RegOp.{RegOp}
use Rattle.rv_word.specs.declared.inst.RegOp.TheVariants.{Add, Sll, Slt, Sltu, Xor, Srl, Or, And, Sra}
use Rattle.rv_word.specs.declared.inst.Inst.{Inst}
use Rattle.rv_word.specs.declared.inst.Inst.TheVariants.{Lui, Auipc, Jal, Jalr, Branch, Load, Store, OpImm, Op, Fence, Ecall, Ebreak, Illegal}
use Rattle.rv_word.specs.Masks.{sources}
use Rattle.rv_alu.specs.Alu.{alu, signed}
use Rattle.cells.specs.declared.Cell.{Cell}
use Rattle.cells.specs.Bytes.{byte_cells, byte_puts, number}
use Rattle.rv_semantics.specs.Values.{register_cell, register_puts, register_value, bytes_of}
use Rattle.rv_semantics.specs.declared.Flow.{Flow}
use Rattle.rv_semantics.specs.declared.Flow.TheVariants as flow

-- where the run goes on, and which cells are put with which values
pub record Effect : Type 0 where
  pub flow : Flow
  pub puts : List (Cell × ℕ)

-- an address and an offset, modulo 2^32
abbrev pub sum32 : ℕ → ℤ → ℕ
sum32 a z = (a + cast_unsigned w32 z) % 2 ^ 32

-- the pc behind an instruction
abbrev pub after : ℕ → ℕ
after pc = (pc + 4) % 2 ^ 32

-- whether a branch's condition holds of two numbers
abbrev pub holds : Test → ℕ → ℕ → Bool
holds Beq a b = a == b
holds Bne a b = not (a == b)
holds Blt a b = int_lt (signed a) (signed b)
holds Bge a b = int_le (signed b) (signed a)
holds Bltu a b = nat_lt a b
holds Bgeu a b = nat_le b a

-- the operation of an instruction with an immediate
abbrev pub op_of : ImmOp → RegOp
op_of Addi = Add
op_of Slti = Slt
op_of Sltiu = Sltu
op_of Xori = Xor
op_of Ori = Or
op_of Andi = And
op_of Slli = Sll
op_of Srli = Srl
op_of Srai = Sra

-- how many bytes a load takes
abbrev pub load_size : LoadKind → ℕ
load_size Lb = 1
load_size Lbu = 1
load_size Lh = 2
load_size Lhu = 2
load_size Lw = 4

-- the descriptors 1 and 2 are one output
abbrev pub is_output : ℕ → Bool
is_output descriptor = (descriptor == 1) || (descriptor == 2)

-- a loaded byte or half, extended to 32 bits
abbrev pub extended : LoadKind → ℕ → ℕ
extended Lb n = cast_unsigned w32 (cast_signed w8 n)
extended Lh n = cast_unsigned w32 (cast_signed w16 n)
extended _ n = n

-- how many bytes a store puts
abbrev pub store_size : StoreKind → ℕ
store_size Sb = 1
store_size Sh = 2
store_size Sw = 4

-- whether an instruction is a store
abbrev pub is_store : Inst → Bool
is_store (Store kind rs1 rs2 off) = true
is_store _ = false

-- how many bytes are loaded, and from where on, by the value of the first register
abbrev pub load_count : Inst → ℕ
load_count (Load kind rd rs1 off) = load_size kind
load_count _ = 0

-- the address of a load
abbrev pub load_from : Inst → ℕ → ℕ
load_from (Load kind rd rs1 off) a = sum32 a off
load_from _ a = 0

-- what an instruction does that goes on behind it
abbrev pub next : ℕ → List (Cell × ℕ) → Effect
next pc puts = record { flow = flow.Next (after pc); puts = puts }

-- what an instruction does that stops, and puts nothing
abbrev pub stop : Flow → Effect
stop f = record { flow = f; puts = [] }

-- a target that is no multiple of 4 puts nothing
abbrev pub jumped : Bool → ℕ → List (Cell × ℕ) → Effect
jumped true to puts = record { flow = flow.Next to; puts = puts }
jumped false to puts = stop (flow.Misfetch to)

-- what a jump does: to no multiple of 4 it is a misfetch, and puts nothing
abbrev pub jump : ℕ → List (Cell × ℕ) → Effect
jump to puts = jumped (to % 4 == 0) to puts

-- what a branch does: where it isn't taken it goes on behind
abbrev pub branched : Bool → ℕ → ℕ → Effect
branched true pc to = jump to []
branched false pc to = next pc []

-- by the pc, the values a and b of the registers that are read, and the number n that is loaded
abbrev pub effect : Inst → ℕ → ℕ → ℕ → ℕ → Effect
effect (Lui rd imm) pc a b n = next pc (register_puts rd imm)
effect (Auipc rd imm) pc a b n = next pc (register_puts rd ((pc + imm) % 2 ^ 32))
effect (Jal rd off) pc a b n = jump (sum32 pc off) (register_puts rd (after pc))
effect (Jalr rd rs1 off) pc a b n = jump (sum32 a off / 2 * 2) (register_puts rd (after pc))
effect (Branch test rs1 rs2 off) pc a b n = branched (holds test a b) pc (sum32 pc off)
effect (Load kind rd rs1 off) pc a b n = next pc (register_puts rd (extended kind n))
effect (Store kind rs1 rs2 off) pc a b n = next pc (byte_puts (sum32 a off) (take (store_size kind) (to_le_bytes w32 b)))
effect (OpImm op rd rs1 imm) pc a b n = next pc (register_puts rd (alu (op_of op) a (cast_unsigned w32 imm)))
effect (Op op rd rs1 rs2) pc a b n = next pc (register_puts rd (alu op a b))
effect (Fence w) pc a b n = next pc []
effect Ecall pc a b n = stop flow.Call
effect Ebreak pc a b n = stop flow.Break
effect (Illegal w) pc a b n = stop (flow.Illegal w)

-- the value of the first source
abbrev pub first : List ℕ → (Cell → ℕ) → ℕ
first [] v = 0
first (r ∷ rs) v = register_value r v

-- the value of the second source
abbrev pub second : List ℕ → (Cell → ℕ) → ℕ
second [] v = 0
second (r ∷ rs) v = first rs v

-- the effect where the cells have the values v, and the cells that are read for it, in order
abbrev pub effect_at : Inst → ℕ → (Cell → ℕ) → Effect
effect_at i pc v =
    effect i pc (first (sources i) v) (second (sources i) v) (number (load_count i) (load_from i (first (sources i) v)) (bytes_of v))

-- the cells that an instruction reads
abbrev pub cells : Inst → (Cell → ℕ) → List Cell
cells i v = flat_map register_cell (sources i) ++ byte_cells (load_count i) (load_from i (first (sources i) v))
