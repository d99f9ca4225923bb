-- The ways out of a run, and one turn of it.
use Rattle.std.proofs.Common.{◌≡◌, ℕ, ◌+◌, ◌≤◌, ◌<◌, List, length, take, drop, sym, ap, subst, ◌∙◌, arith, Option, None, Some}
use Rattle.std.proofs.lemmas.List.{length-append}
use Rattle.outside.specs.Answers.{Gains}
use Rattle.cells.specs.Run.{State, iterate}
use Rattle.rv_semantics.specs.Calls.{step}
use Rattle.answers.specs.declared.answer.Answer.{Answer}
use Rattle.answers.specs.declared.answer.Answer.TheVariants.{Usage, Absent, StoreFault, SinkFault, Memory, TooLong, Refused, Done, Ran, Budget, Broken}
use Rattle.report.proofs.Gained.{part_before}
use Rattle.speculative_runs.specs.Driven.{Driven, Stops, state_after, stopped_at, stands}
use Rattle.speculative_runs.specs.Told.{Puts, Got}
use Rattle.cells.specs.declared.End.{End}
use Rattle.speculative_runs.proofs.Runs.{step_more, all_more, one_more}
use Rattle.speculative_runs.proofs.Parts.{part_within, whole_piece}

-- where the run stands after its steps is told so
pub stood : (s : State) (budget : ℕ) (out : Puts) (a : Answer) (pc : ℕ) (o : Option End) → a ≡ stopped_at pc o → stopped_at pc o ≡ stands (state_after budget s)
    → Got out (state_after budget s).env.output → Driven s budget out a
stood s budget out a pc None e is got = subst (λ (x : Answer). Driven s budget out x) (sym e) (got, is)
stood s budget out a pc (Some end) e is got = subst (λ (x : Answer). Driven s budget out x) (sym e) (got, is)

-- s began the run, t stands at position k of it, and t's output was put. The names are those of the loop
module _ (s t : State) (k budget : ℕ) (is : t ≡ iterate step s k) (within : k ≤ budget) (told mid : Option (List ℕ)) (g : Gains told mid t.env.output) where
  -- no more is put
  pub no_more : (n : ℕ) × Gains told mid (take n (state_after budget s).env.output)
  no_more = let rest = all_more s t k budget is within in part_before told mid t.env.output rest.0 (state_after budget s).env.output rest.1 g

  module _ (u : State) (m put : ℕ) (next : u ≡ step t) (one : m ≡ k + 1) (room : k < budget) (p : put ≡ length t.env.output) where
    pub room_to_put : put ≤ length u.env.output
    room_to_put =
        let more = step_more t u next in
        let long : length u.env.output ≡ length t.env.output + length more.0 = ap (λ (bs : List ℕ). length bs) more.1 ∙ length-append t.env.output more.0 in
        omega (arith, long, p)

    -- the output of the step was put
    pub put_too : (left : Option (List ℕ)) → Gains mid left (drop put u.env.output) → Gains told left u.env.output
    put_too left h = let more = step_more t u next in whole_piece told mid left t.env.output u.env.output more.0 put more.1 p g h

    -- the put of the step's output stopped the run
    pub stopped_there : (left : Option (List ℕ)) (before mid_faults now : ℕ) (a : Answer) → before ≤ mid_faults → Stops mid left mid_faults now (drop put u.env.output) a
        → Driven s budget (record { told = told; left = left; before = before; now = now }) a
    stopped_there left before mid_faults now SinkFault l (rose, part) =
        let more = step_more t u next in
        let rest = all_more s u m budget (one_more s t u k m is next one) (omega (arith, one, room)) in
        (omega (arith, l, rose), part_within told mid left t.env.output u.env.output more.0 put more.1 p g (state_after budget s).env.output rest.0 rest.1 part)
    stopped_there left before mid_faults now Memory l same = subst (λ d. (n : ℕ) × Gains told d (take n (state_after budget s).env.output)) (sym same) no_more
    stopped_there left before mid_faults now Usage l h = absurd h
    stopped_there left before mid_faults now Broken l h = absurd h
    stopped_there left before mid_faults now (Absent x) l h = absurd h
    stopped_there left before mid_faults now (StoreFault x) l h = absurd h
    stopped_there left before mid_faults now (TooLong x) l h = absurd h
    stopped_there left before mid_faults now (Refused e) l h = absurd h
    stopped_there left before mid_faults now Done l h = absurd h
    stopped_there left before mid_faults now (Ran pc end) l h = absurd h
    stopped_there left before mid_faults now Budget l h = absurd h
