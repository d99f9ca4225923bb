-- A machine that is given events, turn by turn: what was put, and where it is cut off.
use Rattle.std.proofs.Common.{◌≡◌, ℕ, ◌+◌, ◌<◌, ◌≤◌, true, false, List, [], ◌++◌, length, drop, sym, ap, subst, ◌∙◌, arith, inl, inr, Option}
use Rattle.std.proofs.Transfers.{drop-appended}
use Rattle.std.proofs.lemmas.List.{length-append, append-nil}
use Rattle.std.proofs.lemmas.Bool.{cases_lt}
use Rattle.outside.specs.Answers.{Gains}
use Rattle.cells.specs.Run.{State}
use Rattle.speculation.specs.declared.Effect.{Effect}
use Rattle.speculation.specs.declared.Effect.TheVariants.{Idle}
use Rattle.speculation.specs.declared.Event.{Event}
use Rattle.speculation.specs.World.{World}
use Rattle.speculation.specs.Engine.{Model}
use Rattle.speculation_laws.specs.Told.{Tells}
use Rattle.speculation_schedules.specs.Schedule.{has_come}
use Rattle.report.proofs.Gained.{part_before}
use Rattle.answers.specs.declared.answer.Answer.{Answer}
use Rattle.answers.specs.declared.answer.Answer.TheVariants.{Usage, Absent, StoreFault, SinkFault, Memory, TooLong, Refused, Done, Ran, Budget, Broken}
use Rattle.speculative_runs.specs.Driven.{Stops, CutOff}
use Rattle.speculative_runs.specs.Speculated.{IsStop}
use Rattle.speculative_runs.proofs.Parts.{part_within, whole_piece}
use Rattle.speculative_runs.proofs.Stops.{IsCourse, stop_comes, outputs_grow}

-- behind all of a list there is nothing
pub nothing_behind : (n : ℕ) (bs : List ℕ) → n ≡ length bs → drop n bs ≡ []
nothing_behind n bs all = ap (λ k. drop k bs) all ∙ drop-appended bs bs [] (sym (append-nil bs))

-- where all was put before an idle event, all is put behind it
pub all_put : (w : World) (m m' n : Model) (e : Event) (f : Effect) (put : ℕ) → Tells w m e f m' → m ≡ n → put ≡ length n.committed.env.output → f ≡ Idle
    → put ≡ length m'.committed.env.output
all_put w m m' n e f put told here all idle =
    let same : Tells w m e Idle m' = subst (λ (x : Effect). Tells w m e x m') idle told in
    all ∙ ap (λ (x : Model). length x.committed.env.output) (sym here) ∙ sym (ap (λ (x : Model). length x.committed.env.output) same)

-- the names are those of the loop: so many events were given, and what was output after these was put
module _ {start : State} {w : World} {models : ℕ → Model} {far most : ℕ} (course : IsCourse start w models far most) where
  abbrev output : ℕ → List ℕ
  output k = (models k).committed.env.output

  module _ (given : ℕ) (not_yet : (i : ℕ) → i < given → has_come far (models i) ≡ false) (told mid : Option (List ℕ)) (g : Gains told mid (output given)) where
    -- it stopped here
    pub stopped_here : has_come far (models given) ≡ true → IsStop w models far given
    stopped_here there = course.stops given (record { there = there; first = not_yet })

    -- there was no memory for an event, or for the put of its output
    pub no_memory : (before now : ℕ) → (k : ℕ) × IsStop w models far k × CutOff (record { told = told; left = mid; before = before; now = now }) (output k) Memory
    no_memory before now =
        let stop = stop_comes course given not_yet in
        let more = outputs_grow course given stop.0 stop.2 in
        (stop.0, course.stops stop.0 stop.1, part_before told mid (output given) more.0 (output stop.0) more.1 g)

    module _ (n put : ℕ) (one : n ≡ given + 1) (p : put ≡ length (output given)) (goes : has_come far (models given) ≡ false) where
      pub not_yet_too : (i : ℕ) → i < n → has_come far (models i) ≡ false
      not_yet_too i l = elim (cases_lt i given) [
        | inl below ↦ not_yet i below
        | inr above ↦ let same : given ≡ i = omega (arith, l, above, one) in subst (λ k. has_come far (models k) ≡ false) same goes
      ]

      more : (bs : List ℕ) × (output n ≡ output given ++ bs)
      more = outputs_grow course given n (omega (arith, one))

      pub room_to_put : put ≤ length (output n)
      room_to_put =
          let long : length (output n) ≡ length (output given) + length more.0 = ap (λ (bs : List ℕ). length bs) more.1 ∙ length-append (output given) more.0 in
          omega (arith, long, p)

      -- the output of the event was put
      pub put_too : (left : Option (List ℕ)) → Gains mid left (drop put (output n)) → Gains told left (output n)
      put_too left h = whole_piece told mid left (output given) (output n) more.0 put more.1 p g h

      -- the put of its output stopped the run
      pub stopped_there : (left : Option (List ℕ)) (before mid_faults now : ℕ) (a : Answer) → before ≤ mid_faults → Stops mid left mid_faults now (drop put (output n)) a
          → (k : ℕ) × IsStop w models far k × CutOff (record { told = told; left = left; before = before; now = now }) (output k) a
      stopped_there left before mid_faults now SinkFault l (rose, part) =
          let stop = stop_comes course n not_yet_too in
          let rest = outputs_grow course n stop.0 stop.2 in (
            stop.0,
            course.stops stop.0 stop.1,
            (omega (arith, l, rose), part_within told mid left (output given) (output n) more.0 put more.1 p g (output stop.0) rest.0 rest.1 part),
          )
      stopped_there left before mid_faults now Memory l same =
          subst (λ d. (k : ℕ) × IsStop w models far k × CutOff (record { told = told; left = d; before = before; now = now }) (output k) Memory) (sym same) (no_memory before now)
      stopped_there left before mid_faults now Usage l h = absurd h
      stopped_there left before mid_faults now Broken l h = absurd h
      stopped_there left before mid_faults now (Absent x) l h = absurd h
      stopped_there left before mid_faults now (StoreFault x) l h = absurd h
      stopped_there left before mid_faults now (TooLong x) l h = absurd h
      stopped_there left before mid_faults now (Refused e) l h = absurd h
      stopped_there left before mid_faults now Done l h = absurd h
      stopped_there left before mid_faults now (Ran pc end) l h = absurd h
      stopped_there left before mid_faults now Budget l h = absurd h
