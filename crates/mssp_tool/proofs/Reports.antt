-- A report that was written, or not.
use Rattle.std.proofs.Common.{◌≡◌, ◌≢◌, ℕ, ◌≤◌, arith, inl, inr, Bool, true, false, cond, List, Option, Some, None, refl, sym, ap, ◌∙◌}
use Rattle.std.specs.FinMap as finite
use Rattle.std.specs.Bool.{Decides}
use Rattle.std.specs.Ordering.{nat_cmp, eq_by_cmp}
use Rattle.std.specs.Cmp.Lexicographic.{slice_cmp, texts_ties, bytes_decides, nat_list_cmp_total}
use Rattle.std.proofs.Common.{subst}
use Rattle.outside.specs.Answers.{OthersStay}
use Rattle.outside.specs.Files.{Files}
use Rattle.cells.specs.Run.{State}
use Rattle.command_line.specs.Command.{RunCommand}
use Rattle.dist_image.specs.Image.{Distilled}
use Rattle.image_semantics.specs.World.{world}
use Rattle.elf_reader.specs.Executable.{Executable}
use Rattle.elf_reader.specs.Accepted.{program_of}
use Rattle.adaptive_runs.specs.Adaptive.{model_at}
use Rattle.memory.specs.declared.Memory.{Ghosts}
use Rattle.engine.specs.declared.engine.Engine.{Engine}
use Rattle.engine.specs.Whole.{start_of as engine_start}
use Rattle.adapt.specs.Made.{Adapting}
use Rattle.adaptive_driver.specs.Adapted.{plan_of, AreOfOneRun}
use Rattle.speculation.specs.Engine.{Model}
use Rattle.speculation_schedules.specs.Schedule.{after}
use Rattle.answers.specs.declared.answer.Answer.{Answer}
use Rattle.answers.specs.declared.answer.Answer.TheVariants.{Usage, Absent, StoreFault, SinkFault, Memory, TooLong, Refused, Done, Ran, Budget, Broken}
use Rattle.speculative_runs.specs.Told.{Reads, Puts, OnlyChanges, Written}
use Rattle.speculative_runs.specs.Speculated.{schedule_of, events_of, Stopped, Speculated}
use Rattle.mssp_tool.specs.Run.{Begins, AreRunFiles, Reported, RunFrom, RunCause, start_from, world_from, models_from}

-- ---- the files that stay

untied : (other name : List ℕ) → other ≢ name → (b : Bool) → eq_by_cmp (slice_cmp nat_cmp) other name ≡ b → b ≡ false
untied other name apart false e = refl
untied other name apart true e =
    let decides : Decides (eq_by_cmp (slice_cmp nat_cmp) other name) (other ≡ name) = subst (λ t. Decides t (other ≡ name)) (texts_ties other name) (bytes_decides other name) in
    absurd (apart (decides.0 e))

-- a file that is written leaves the others
pub others_stay : (told left : Option Files) (name bytes : List ℕ) → Written told left name bytes → OthersStay told left name
others_stay None left name bytes e = e
others_stay (Some files) left name bytes e = (
  finite.insert files name bytes,
  e,
  λ other apart. finite.get-insert nat_list_cmp_total files name bytes other
      ∙ ap (λ t. cond t (Some bytes) (finite.get files other)) (untied other name apart (eq_by_cmp (slice_cmp nat_cmp) other name) refl),
)

-- no file changed
pub same_stay : (told left : Option Files) (name : List ℕ) → left ≡ told → OthersStay told left name
same_stay None left name e = e
same_stay (Some files) left name e = (files, e, λ other apart. refl)

pub unchanged : (told left : Option Files) (name : Option (List ℕ)) → left ≡ told → OnlyChanges told left name
unchanged told left None e = e
unchanged told left (Some name) e = same_stay told left name e

-- however it stopped, no file but the report has changed
pub stopped_changes : (m : Model) (name : List ℕ) (store : Reads) (left : Option Files) (out : Puts) (a : Answer) → Stopped m name store left out a → OthersStay store.told left name
stopped_changes m name store left out (Ran pc end) (got, wrote, is) = others_stay store.told left name _ wrote
stopped_changes m name store left out Budget (got, wrote, is) = others_stay store.told left name _ wrote
stopped_changes m name store left out (StoreFault s) (got, (same, fails, others)) = others
stopped_changes m name store left out SinkFault h = same_stay store.told left name h.1
stopped_changes m name store left out Memory h = same_stay store.told left name h.1
stopped_changes m name store left out Usage h = same_stay store.told left name h.1
stopped_changes m name store left out Broken h = same_stay store.told left name h.1
stopped_changes m name store left out (Absent s) h = same_stay store.told left name h.1
stopped_changes m name store left out (TooLong s) h = same_stay store.told left name h.1
stopped_changes m name store left out (Refused e) h = same_stay store.told left name h.1
stopped_changes m name store left out Done h = same_stay store.told left name h.1

-- ---- a run behind what it read

-- a count that rose in a part of a call rose in the call
within_call : (m : Model) (name : List ℕ) (told left : Option Files) (before mid now : ℕ) (last : Option (List ℕ)) (out : Puts) (a : Answer) → before ≤ mid
    → Stopped m name (record { told = told; before = mid; now = now; failed = last }) left out a → Stopped m name (record { told = told; before = before; now = now; failed = last }) left out a
within_call m name told left before mid now last out (StoreFault s) l (got, (same, rose, others)) = (got, (same, (omega (arith, l, rose.0), rose.1), others))
within_call m name told left before mid now last out (Ran pc end) l h = h
within_call m name told left before mid now last out Budget l h = h
within_call m name told left before mid now last out SinkFault l h = h
within_call m name told left before mid now last out Memory l h = h
within_call m name told left before mid now last out Usage l h = h
within_call m name told left before mid now last out Broken l h = h
within_call m name told left before mid now last out (Absent s) l h = h
within_call m name told left before mid now last out (TooLong s) l h = h
within_call m name told left before mid now last out (Refused e) l h = h
within_call m name told left before mid now last out Done l h = h

-- the machine runs in the world of its engine
pub engine_runs : (r : RunCommand) (name : List ℕ) (program : Executable) (s t : State) (im jm : Distilled) (slaves : ℕ) (store : Reads) (left : Option Files) (out : Puts) (a : Answer)
    → s ≡ t → im ≡ jm → slaves ≡ r.slaves → r.adapt ≡ None
    → Speculated (world s im slaves) (after (world s im slaves) (events_of (schedule_of r.image) slaves)) r.budget name store left out a → Reported program t jm r name store left out a
engine_runs r name program s t im jm slaves store left out a same_start same_image same_slaves steady h =
    inr (subst (λ (o : Option ℕ). Speculated (world t jm r.slaves) (models_from o r program t jm) r.budget name store left out a) (sym steady)
    (subst (λ (x : State × Distilled × ℕ). Speculated (world x.0 x.1 x.2) (after (world x.0 x.1 x.2) (events_of (schedule_of r.image) x.2)) r.budget name store left out a) (λ i. (same_start i, same_image i, same_slaves i)) h))

-- and where it adapts
pub adapter_runs : (r : RunCommand) (name : List ℕ) (program : Executable) (s t : State) (im jm : Distilled) (slaves every : ℕ) (store : Reads) (left : Option Files) (out : Puts) (a : Answer)
    → s ≡ t → im ≡ jm → slaves ≡ r.slaves → r.adapt ≡ Some every
    → Speculated (world s im slaves) (model_at (plan_of program t.env.input slaves every im)) r.budget name store left out a → Reported program t jm r name store left out a
adapter_runs r name program s t im jm slaves every store left out a same_start same_image same_slaves adapts h =
    inr (subst (λ (o : Option ℕ). Speculated (world t jm r.slaves) (models_from o r program t jm) r.budget name store left out a) (sym adapts)
    (subst (λ (x : State × Distilled × ℕ). Speculated (world x.0 x.1 x.2) (model_at (plan_of program t.env.input x.2 every x.1)) r.budget name store left out a) (λ i. (same_start i, same_image i, same_slaves i)) h))

-- an adapter of the run of a program, whose machine is at its start
pub of_one_run : {M : Type 0} {d : Ghosts M} (at : M → ℕ → ℕ) (e : Engine M d) (a : Adapting) (program : Executable) (s : State) (every : ℕ)
    → a ≡ record { program = program; input = s.env.input; every = every; due = every; asked = 0 } → engine_start at e ≡ s → Begins program s → AreOfOneRun at e a
of_one_run at e a program s every is start begins = subst (λ (x : Adapting). AreOfOneRun at e x) (sym is) (record { start = start ∙ begins; asked = omega arith })

module _ (r : RunCommand) (name : List ℕ) (jm : Distilled) (told told' left : Option Files) (before mid now : ℕ) (last : Option (List ℕ)) (out : Puts) (a : Answer) (named : r.report ≡ Some name)
    (same_files : told' ≡ told) (l : before ≤ mid) where
  -- the store is as it was told at first
  first_told : (e : Executable) (t : State) → Speculated (world t jm r.slaves) (models_from r.adapt r e t jm) r.budget name (record { told = told'; before = mid; now = now; failed = last }) left out a
      → Speculated (world t jm r.slaves) (models_from r.adapt r e t jm) r.budget name (record { told = told; before = before; now = now; failed = last }) left out a
  first_told e t h =
      let here : Speculated (world t jm r.slaves) (models_from r.adapt r e t jm) r.budget name (record { told = told; before = mid; now = now; failed = last }) left out a =
      subst (λ (d : Option Files). Speculated (world t jm r.slaves) (models_from r.adapt r e t jm) r.budget name (record { told = d; before = mid; now = now; failed = last }) left out a) same_files h in
      (here.0, here.1, within_call (models_from r.adapt r e t jm here.0) name told left before mid now last out a l here.2)

  pub reported_cause : {s : State} {e : Executable} (p i : List ℕ) → s ≡ start_from p i → e ≡ program_of p → AreRunFiles told r p jm i → Reported e s jm r name (record { told = told'; before = mid; now = now; failed = last }) left out a
      → RunCause (record { told = told; before = before; now = now; failed = last }) left r out a
  reported_cause p i is same fs (inl (m, nothing, stays)) = inl (inr (inr (inr m)), nothing, stays ∙ same_files)
  reported_cause {s} {e} p i is same fs (inr h) =
      inr (
        p,
        i,
        jm,
        fs,
        subst (λ (o : Option (List ℕ)). RunFrom o r (world_from p i jm r.slaves) (models_from r.adapt r (program_of p) (start_from p i) jm) (record { told = told; before = before; now = now; failed = last }) left out a) (sym named)
            (subst (λ (x : State × Executable). Speculated (world x.0 jm r.slaves) (models_from r.adapt r x.1 x.0 jm) r.budget name (record { told = told; before = before; now = now; failed = last }) left out a) (λ k. (is k, same k)) (first_told e s h)),
      )

  pub reported_changes : (s : State) (e : Executable) → Reported e s jm r name (record { told = told'; before = mid; now = now; failed = last }) left out a → OnlyChanges told left r.report
  reported_changes s e (inl (m, nothing, stays)) = unchanged told left r.report (stays ∙ same_files)
  reported_changes s e (inr h) =
      let here = first_told e s h in
      subst (λ (o : Option (List ℕ)). OnlyChanges told left o) (sym named)
      (stopped_changes (models_from r.adapt r e s jm here.0) name (record { told = told; before = before; now = now; failed = last }) left out a here.2)
