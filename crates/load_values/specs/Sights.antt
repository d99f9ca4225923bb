-- What a position tells of the load at its pc, and what is known of a load after some positions.
use Rattle.std.specs.Prelude.{ℕ, zero, suc, Bool, true, false, not, ◌&&◌, if◌then◌else◌, nat_eq, List, [], ◌∷◌, ◌++◌, Option, Some, None}
use Rattle.std.specs.List.{sum_by}
use Rattle.std.specs.Map.{values_of}
use Rattle.rv_word.specs.declared.inst.Inst.{Inst}
use Rattle.rv_word.specs.declared.inst.Inst.TheVariants.{Load}
use Rattle.rv_word.specs.Meaning.{meaning}
use Rattle.cells.specs.Cells.{Arch, value}
use Rattle.cells.specs.Bytes.{number}
use Rattle.cells.specs.Run.{State}
use Rattle.rv_semantics.specs.Values.{register_value}
use Rattle.rv_semantics.specs.Effect.{sum32, load_size, extended}
use Rattle.rv_semantics.specs.Machine.{word_at}
use Rattle.fitting.specs.Fails.{program, arch_at, pc_at}
use Rattle.load_values.specs.declared.sight.Sight.{Sight}
use Rattle.load_values.specs.declared.sight.Sight.TheVariants.{Value, Executed, Hidden, Nothing}
use Rattle.load_values.specs.declared.loads.Found.{Found}
use Rattle.load_values.specs.declared.loads.Found.TheVariants.{One, Many, Unseen}
use Rattle.load_values.specs.Reading.{has_word}
use Rattle.load_values.specs.Found.{is_load, sets_register}

-- ---- positions

-- what a load loads, extended to 32 bits
abbrev pub value_of : Inst → Arch → ℕ
value_of (Load kind rd rs1 off) s = extended kind (number (load_size kind) (sum32 (register_value rs1 (value s)) off) s.mem)
value_of _ s = 0

-- `own` tells whether the word is the program's, and `hides` whether it stands in the place of a load
abbrev pub sight_by : Bool → Bool → Inst → Arch → Sight
sight_by own hides i s =
    if is_load i then (if own && sets_register i then Value (value_of i s) else Executed)
    else if hides then Hidden
    else Nothing

-- of a word that is fetched where the program has another word, or the same
abbrev pub sight_of : ℕ → ℕ → Arch → Sight
sight_of word own s = sight_by (nat_eq word own) (not (nat_eq word own) && is_load (meaning own)) (meaning word) s

-- what is seen at position i
abbrev pub sight_at : State → ℕ → Sight
sight_at start i = sight_of (word_at (arch_at start i)) (program start (pc_at start i)) (arch_at start i)

-- ---- what is known

-- whether a load is executed
abbrev pub executes : Sight → Bool
executes (Value v) = true
executes Executed = true
executes Hidden = false
executes Nothing = false

-- whether a load was executed
abbrev pub is_executed : Option Found → Bool
is_executed (Some (One v)) = true
is_executed (Some Many) = true
is_executed (Some Unseen) = false
is_executed None = false

-- a value more
abbrev pub one_more : ℕ → Option Found → Found
one_more v (Some (One u)) = if nat_eq u v then One u else Many
one_more v (Some Many) = Many
one_more v (Some Unseen) = Many
one_more v None = One v

-- the program's load was not executed
abbrev pub hidden : Option Found → Found
hidden (Some (One u)) = Many
hidden (Some Many) = Many
hidden (Some Unseen) = Unseen
hidden None = Unseen

-- what is known of a pc once this is seen there
abbrev pub noted : Sight → Option Found → Found
noted (Value v) known = one_more v known
noted Executed known = Many
noted Hidden known = hidden known
noted Nothing known = hidden known

-- what is known of the load at a pc after a position there
abbrev pub known_after : Sight → Option Found → Option Found
known_after (Value v) known = Some (one_more v known)
known_after Executed known = Some Many
known_after Hidden known = Some (hidden known)
known_after Nothing known = known

-- what is known of the load at a pc after the first n positions
unfoldable pub known_at : State → ℕ → ℕ → Option Found
known_at start p zero = None
known_at start p (suc n) = if nat_eq (pc_at start n) p then known_after (sight_at start n) (known_at start p n) else known_at start p n

-- 1 where a load is executed at a pc at which none was, else 0
abbrev pub newly : Sight → Option Found → ℕ
newly s known = if executes s && not (is_executed known) then 1 else 0

-- ---- the whole list

-- at how many pcs a load was executed
abbrev pub weight : Found → ℕ
weight f = if is_executed (Some f) then 1 else 0

-- at how many pcs a load was executed
abbrev pub executed_count : List (ℕ × Found) → ℕ
executed_count es = sum_by weight (values_of es)

-- the value that is listed
abbrev pub single : Found → Option ℕ
single (One v) = if has_word v then Some v else None
single Many = None
single Unseen = None

-- the row of a pc with one value
abbrev pub row_of : ℕ → Option ℕ → List (ℕ × ℕ)
row_of pc (Some v) = (pc, v) ∷ []
row_of pc None = []

-- the rows of what was found
abbrev pub listed : List (ℕ × Found) → List (ℕ × ℕ)
listed [] = []
listed (e ∷ es) = row_of e.0 (single e.1) ++ listed es
