-- What a run comes to once it is begun.
use Rattle.std.specs.Prelude.{◌≡◌, ℕ, List, take, Option, Some, None}
use Rattle.outside.specs.Answers.{Gains, Rose}
use Rattle.cells.specs.declared.End.{End}
use Rattle.cells.specs.Run.{State, iterate}
use Rattle.rv_semantics.specs.Calls.{step}
use Rattle.answers.specs.declared.answer.Answer.{Answer}
use Rattle.answers.specs.declared.answer.Answer.TheVariants.{SinkFault, Memory, Ran, Budget}
use Rattle.speculative_runs.specs.Told.{Puts, PutFails, Got, GotPart}

-- the state of a run after a number of steps, where a state that has ended stays
unfoldable pub state_after : ℕ → State → State
state_after budget s = iterate step s budget

-- the answer that tells where a run stands that goes on no further
abbrev pub stopped_at : ℕ → Option End → Answer
stopped_at pc None = Budget
stopped_at pc (Some end) = Ran pc end

-- the answer of a run that has come to a state: its end, or the budget
abbrev pub stands : State → Answer
stands s = stopped_at s.arch.pc s.env.over

-- a put of these bytes that stops a run: it failed, and a part was put; or there was no memory, and nothing was
abbrev pub Stops : Option (List ℕ) → Option (List ℕ) → ℕ → ℕ → List ℕ → Answer → Type 0
Stops told left before now bytes SinkFault = Rose before now × ((n : ℕ) × Gains told left (take n bytes))
Stops told left before now bytes Memory = left ≡ told
Stops told left before now bytes _ = ⊥

-- a run was cut off: a put failed, or there was no memory, and a part of this output was put
abbrev pub CutOff : Puts → List ℕ → Answer → Type 0
CutOff out bytes SinkFault = PutFails out × GotPart out bytes
CutOff out bytes Memory = GotPart out bytes
CutOff out bytes _ = ⊥

-- the run went through its steps and all of its output was put; or it was cut off
abbrev pub Driven : State → ℕ → Puts → Answer → Type 0
Driven s budget out (Ran pc end) = Got out (state_after budget s).env.output × (Ran pc end ≡ stands (state_after budget s))
Driven s budget out Budget = Got out (state_after budget s).env.output × (Budget ≡ stands (state_after budget s))
Driven s budget out a = CutOff out (state_after budget s).env.output a
