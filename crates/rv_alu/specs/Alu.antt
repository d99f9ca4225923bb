-- What the operations make of two registers. A register is a number below 2 ^ 32.
use Rattle.std.specs.Prelude.{ℕ, ℤ, pos, ◌+◌, ◌-◌, ◌*◌, ◌/◌, ◌%◌, ◌^◌, ◌*ℤ◌, nat_lt, int_lt, ◌==◌, if◌then◌else◌, bit_and, bit_or, bit_xor, int_div, int_rem}
use Rattle.std.specs.Int.{w32, w64, cast_signed, cast_unsigned, int_shr, from_bool}
use Rattle.rv_word.specs.declared.inst.RegOp.{RegOp}
use Rattle.rv_word.specs.declared.inst.RegOp.TheVariants.{Add, Sll, Slt, Sltu, Xor, Srl, Or, And, Sub, Sra, Mul, Mulh, Mulhsu, Mulhu, Div, Divu, Rem, Remu}

-- the value of a register in two's complement
abbrev pub signed : ℕ → ℤ
signed n = cast_signed w32 n

-- the low 32 bits of a number, in two's complement
abbrev pub low : ℤ → ℕ
low z = cast_unsigned w32 z

-- bits 63 to 32 of a number, in two's complement
abbrev pub high : ℤ → ℕ
high z = cast_unsigned w64 z / 2 ^ 32

-- `int_shr` keeps the sign; `int_div` cuts towards zero, and `int_rem` has the sign of the dividend
abbrev pub alu : RegOp → ℕ → ℕ → ℕ
alu Add a b = (a + b) % 2 ^ 32
alu Sub a b = (a + (2 ^ 32 - b)) % 2 ^ 32
alu Sll a b = a * 2 ^ (b % 32) % 2 ^ 32
alu Slt a b = from_bool (int_lt (signed a) (signed b))
alu Sltu a b = from_bool (nat_lt a b)
alu Xor a b = bit_xor a b
alu Srl a b = a / 2 ^ (b % 32)
alu Sra a b = low (int_shr (signed a) (b % 32))
alu Or a b = bit_or a b
alu And a b = bit_and a b
alu Mul a b = a * b % 2 ^ 32
alu Mulh a b = high (signed a *ℤ signed b)
alu Mulhsu a b = high (signed a *ℤ pos b)
alu Mulhu a b = a * b / 2 ^ 32
alu Div a b = if b == 0 then 2 ^ 32 - 1 else low (int_div (signed a) (signed b))
alu Divu a b = if b == 0 then 2 ^ 32 - 1 else a / b
alu Rem a b = if b == 0 then a else low (int_rem (signed a) (signed b))
alu Remu a b = if b == 0 then a else a % b
