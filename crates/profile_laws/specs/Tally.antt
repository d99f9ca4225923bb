-- A run's profile, kept position by position: the rows so far, and the latest writer of each byte.
use Rattle.std.specs.Prelude.{ℕ, ◌+◌, ◌%◌, ◌^◌, zero, suc, Bool, true, false, not, ◌||◌, ◌&&◌, if◌then◌else◌, nat_eq, nat_lt, ◌==◌, List, [], ◌∷◌, ◌++◌, Option, Some, None, is_some}
use Rattle.rv_word.specs.declared.inst.Inst.{Inst}
use Rattle.rv_word.specs.declared.inst.Inst.TheVariants.{Jalr, Store, Ecall}
use Rattle.rv_word.specs.Meaning.{meaning}
use Rattle.rv_word.specs.Masks.{sources}
use Rattle.cells.specs.Cells.{Arch, value}
use Rattle.cells.specs.Run.{State, is_over}
use Rattle.rv_semantics.specs.Effect.{first, load_count, load_from, store_size, sum32, is_store}
use Rattle.rv_semantics.specs.Prints.{is_task_call}
use Rattle.rv_semantics.specs.Machine.{machine, word_at}
use Rattle.rv_semantics.specs.Calls.{read_count}
use Rattle.profile_data.specs.Profile.{Tally, Profiled, row_at}
use Rattle.fitting.specs.Claims.{among}
use Rattle.fitting.specs.Fails.{program, state_at, pc_at}
use Rattle.profile_laws.specs.Profiles.{is_counted}

-- ---- what a position does

-- k addresses from a on: after 2 ^ 32 - 1 comes 0
unfoldable pub places : ℕ → ℕ → List ℕ
places zero a = []
places (suc k) a = a % 2 ^ 32 ∷ places k (a + 1)

-- a number of bytes, from an address on
pub record Span : Type 0 where
  pub count : ℕ
  pub from : ℕ

-- so many bytes from an address on
abbrev pub span : ℕ → ℕ → Span
span count from = record { count = count; from = from }

-- no bytes
abbrev pub no_bytes : Span
no_bytes = span 0 0

-- the addresses of a span
abbrev pub bytes_in : Span → List ℕ
bytes_in s = places s.count s.from

-- the bytes that a step of a task loads or shows, beside those of its word, where it may print at these pcs: no instruction
-- does both
abbrev pub loaded : (ℕ → Bool) → Inst → Arch → Span
loaded prints i s = if is_task_call prints i s.pc (value s) then span (s.regs 12) (s.regs 11) else span (load_count i) (load_from i (first (sources i) (value s)))

-- the bytes that a call puts: those that a read takes
abbrev pub taken_in : State → Span
taken_in s = if nat_eq (s.arch.regs 17) 63 && nat_eq (s.arch.regs 10) 0 then span (read_count s) (s.arch.regs 11) else no_bytes

-- the bytes that an instruction or a call puts
abbrev pub stored : Inst → State → Span
stored (Store kind rs1 rs2 off) s = span (store_size kind) (sum32 (first (sources (Store kind rs1 rs2 off)) (value s.arch)) off)
stored Ecall s = taken_in s
stored _ s = no_bytes

-- whether an instruction is a jump by a register
abbrev pub is_register_jump : Inst → Bool
is_register_jump (Jalr rd rs1 off) = true
is_register_jump _ = false

-- What a profile counts of a position. `claim` is what the bytes that it puts are marked with: 1 more than the pc of a store, 0 for a call
pub record Visit : Type 0 where
  pub pc : ℕ
  pub taken : Bool
  pub changed : Bool
  pub target : Option ℕ
  pub loads : Span
  pub puts : Span
  pub claim : ℕ

-- where short writes may print at these pcs, of the position of a state, where `word` is the program's word at its pc, and the next position is at `next`
abbrev pub visit : (ℕ → Bool) → ℕ → State → ℕ → Visit
visit prints word s next =
    let i = meaning (word_at s.arch) in
    record {
      pc = s.arch.pc;
      taken = is_counted prints i s.arch;
      changed = not (nat_eq (word_at s.arch) word);
      target = if is_register_jump i && not (machine.stops s.arch) then Some next else None;
      loads = loaded prints i s.arch;
      puts = stored i s;
      claim = if is_store i then s.arch.pc + 1 else 0;
    }

-- ---- rows

-- the row of a pc, changed
abbrev pub updated : ℕ → (Tally → Tally) → List Tally → List Tally
updated pc f [] = []
updated pc f (t ∷ ts) = if t.pc == pc then f t ∷ ts else t ∷ updated pc f ts

-- the row of a pc that was not executed yet
abbrev pub fresh : ℕ → Tally
fresh pc = record { pc = pc; executed = 0; taken = 0; read = false; changed = false; targets = [] }

-- a number in its place among numbers that rise, unless it is there
abbrev pub placed : ℕ → List ℕ → List ℕ
placed n [] = n ∷ []
placed n (m ∷ ms) = if nat_lt m n then m ∷ placed n ms else if m == n then m ∷ ms else n ∷ m ∷ ms

-- the targets with one more, where there is one
abbrev pub with_target : Option ℕ → List ℕ → List ℕ
with_target None ns = ns
with_target (Some n) ns = placed n ns

-- a row, once its pc is executed again
abbrev pub counted : Visit → Tally → Tally
counted v t = record {
  pc = t.pc;
  executed = t.executed + 1;
  taken = t.taken + (if v.taken then 1 else 0);
  read = t.read;
  changed = t.changed || v.changed;
  targets = with_target v.target t.targets;
}

-- the rows after a step: that of its pc counts it
abbrev pub visited : Visit → List Tally → List Tally
visited v rows = if is_some (row_at rows v.pc) then updated v.pc (counted v) rows else rows ++ counted v (fresh v.pc) ∷ []

-- a row whose bytes were read
abbrev pub as_read : Tally → Tally
as_read t = record { pc = t.pc; executed = t.executed; taken = t.taken; read = true; changed = t.changed; targets = t.targets }

-- the row of the store whose mark was loaded
abbrev pub marked : ℕ → List Tally → List Tally
marked zero rows = rows
marked (suc pc) rows = updated pc as_read rows

-- the rows of the stores whose bytes were loaded
abbrev pub read_back : (ℕ → ℕ) → List ℕ → List Tally → List Tally
read_back writers [] rows = rows
read_back writers (a ∷ others) rows = read_back writers others (marked (writers a) rows)

-- ---- the tally

-- the rows so far; and of each byte the pc of the store that wrote it last, and 1, or 0 where none did or a call did
pub record Kept : Type 0 where
  pub rows : List Tally
  pub writers : ℕ → ℕ

-- nothing was executed yet
abbrev pub nothing_kept : Kept
nothing_kept = record { rows = []; writers = λ _. 0 }

-- the four bytes of the word are loaded too
abbrev pub rows_after : Visit → Kept → List Tally
rows_after v k = visited v (read_back k.writers (bytes_in v.loads) (read_back k.writers (places 4 v.pc) k.rows))

-- whose store put the byte at an address, after a step
abbrev pub writers_after : Visit → (ℕ → ℕ) → ℕ → ℕ
writers_after v writers a = if among (bytes_in v.puts) a then v.claim else writers a

-- what is kept after a step
abbrev pub after_visit : Visit → Kept → Kept
after_visit v k = record { rows = rows_after v k; writers = writers_after v k.writers }

module _ (prints : ℕ → Bool) (start : State) where
  abbrev pub visit_at : ℕ → Visit
  visit_at k = visit prints (program start (pc_at start k)) (state_at start k) (pc_at start (suc k))

  unfoldable pub kept : ℕ → Kept
  kept zero = nothing_kept
  kept (suc k) = after_visit (visit_at k) (kept k)

  -- the profile of the first n steps
  abbrev pub profile_of : ℕ → Profiled
  profile_of n = record { steps = n; ended = is_over (state_at start n); rows = (kept n).rows }
