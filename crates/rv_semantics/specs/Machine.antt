-- The machine: what a word does to a state, and which cells it reads and writes.
use Rattle.std.specs.Prelude.{ℕ, Bool, true, false, not, ◌||◌, is_some}
use Rattle.rv_word.specs.declared.inst.Inst.{Inst}
use Rattle.rv_word.specs.Meaning.{meaning}
use Rattle.cells.specs.Cells.{Arch, value, from_cells}
use Rattle.cells.specs.Bytes.{byte_cells, word_of}
use Rattle.cells.specs.Machine.{Machine}
use Rattle.cells.specs.Seen.{among, puts_of, given_values}
use Rattle.rv_semantics.specs.declared.Flow.{Flow}
use Rattle.rv_semantics.specs.declared.Flow.TheVariants.{Next}
use Rattle.rv_semantics.specs.Effect.{Effect, effect_at}
use Rattle.rv_semantics.specs.Prints.{nowhere, task_effect, task_cells, task_output}

-- whether a run simply goes on
abbrev pub is_next : Flow → Bool
is_next (Next t) = true
is_next _ = false

-- the pc afterwards, where the instruction goes on
abbrev pub pc_after : ℕ → Flow → ℕ
pc_after pc (Next t) = t
pc_after pc _ = pc

-- the state once the effect's cells were put
unfoldable pub moved : Effect → Arch → Arch
moved e s = record (from_cells (given_values (puts_of e.puts) (value s))) { pc = pc_after s.pc e.flow }

-- where the run goes on after this word, or why the word alone doesn't say
abbrev pub flow_of : ℕ → Arch → Flow
flow_of w s = (effect_at (meaning w) s.pc (value s)).flow

-- this instruction, done where the pc is. A task may print where the pc passes
abbrev pub doing : (ℕ → Bool) → Inst → Machine
doing prints i = record {
  stops = λ s. not (is_next (task_effect prints i s.pc (value s)).flow);
  move = λ s. moved (task_effect prints i s.pc (value s)) s;
  says = λ s. task_output prints i s.pc (value s);
  reads = λ s x. among (task_cells prints i s.pc (value s)) x;
  writes = λ s x. is_some (puts_of (task_effect prints i s.pc (value s)).puts x);
}

-- this word, done where the pc is
abbrev pub exec_in : (ℕ → Bool) → ℕ → Machine
exec_in prints w = doing prints (meaning w)

-- each call stops it
abbrev pub exec : ℕ → Machine
exec = exec_in nowhere

-- the word at the pc
abbrev pub word_at : Arch → ℕ
word_at s = word_of s.mem s.pc

-- the machine that fetches the word at the pc, reading its four bytes, and does what that word does
abbrev pub fetching : (ℕ → Machine) → Machine
fetching does = record {
  stops = λ s. (does (word_at s)).stops s;
  move = λ s. (does (word_at s)).move s;
  says = λ s. (does (word_at s)).says s;
  reads = λ s x. among (byte_cells 4 s.pc) x || (does (word_at s)).reads s x;
  writes = λ s x. (does (word_at s)).writes s x;
}

-- the machine of tasks that may print where the pc passes
abbrev pub machine_in : (ℕ → Bool) → Machine
machine_in prints = fetching (exec_in prints)

-- each call stops it
abbrev pub machine : Machine
machine = machine_in nowhere
