-- A run that completed stands where the sequential run stands, and has put what that puts.
use Rattle.std.proofs.Common.{◌≡◌, ℕ, ◌+◌, ◌<◌, ◌≤◌, Bool, true, false, List, Option, Some, None, inl, inr, ⊎_elim, refl, sym, ap, subst, ◌∙◌, arith, true≢false}
use Rattle.std.specs.Prelude.{nat_le}
use Rattle.std.proofs.lemmas.Bool.{or_cases, leb-true}
use Rattle.outside.specs.Files.{Files}
use Rattle.cells.specs.declared.End.{End}
use Rattle.cells.specs.Run.{State, is_over, is_end, iterate}
use Rattle.rv_semantics.specs.Calls.{step}
use Rattle.speculation.specs.Engine.{Model}
use Rattle.dist_image.specs.Image.{Distilled}
use Rattle.image_semantics.specs.World.{world}
use Rattle.speculation_schedules.specs.Laws.{StopsAt}
use Rattle.command_line.specs.Command.{RunCommand}
use Rattle.elf_reader.specs.Accepted.{program_of}
use Rattle.answers.specs.declared.answer.Answer.{Answer}
use Rattle.answers.specs.declared.answer.Answer.TheVariants.{Usage, Absent, StoreFault, SinkFault, Memory, TooLong, Refused, Done, Ran, Budget, Broken}
use Rattle.speculative_runs.specs.Told.{Reads, Puts, Got}
use Rattle.speculative_runs.specs.Driven.{state_after, stopped_at, stands}
use Rattle.speculative_runs.specs.Speculated.{IsStop}
use Rattle.mssp_tool.specs.Run.{Unready, AreRunFiles, RunFrom, RunCause, Completes, RunsAsAlone, start_from, world_from, models_from}

-- a run that goes on is told by its budget
goes_on : (pc : ℕ) (o : Option End) → is_end o ≡ false → stopped_at pc o ≡ Budget
goes_on pc None h = refl
goes_on pc (Some e) h = absurd (true≢false h)

-- and one that is told by its end has ended
has_ended : (pc at : ℕ) (o : Option End) (end : End) → Ran pc end ≡ stopped_at at o → is_end o ≡ true
has_ended pc at None end e = absurd (cc)
has_ended pc at (Some x) end e = refl

still_goes : (at : ℕ) (o : Option End) → Budget ≡ stopped_at at o → is_end o ≡ false
still_goes at None e = refl
still_goes at (Some x) e = absurd (cc)

module _ (start : State) (image : Distilled) (slaves : ℕ) (models : ℕ → Model) (budget k : ℕ) where
  abbrev there : State
  there = (models k).committed

  -- where it has ended it stands there after all steps
  all_steps : StopsAt (world start image slaves) models budget k → is_over there ≡ true → there ≡ state_after budget start
  unfolding state_after
  all_steps s over = s.ended over

  goes_past : StopsAt (world start image slaves) models budget k → is_over there ≡ false → is_over (state_after budget start) ≡ false
  unfolding state_after
  goes_past s going = s.went_on going

  pub stands_so : StopsAt (world start image slaves) models budget k → stands there ≡ stands (state_after budget start)
  stands_so s = stands_if_over (is_over there) refl
    where
      stands_if_over : (b : Bool) → is_over there ≡ b → stands there ≡ stands (state_after budget start)
      stands_if_over true over = ap stands (all_steps s over)
      stands_if_over false going = goes_on there.arch.pc there.env.over going ∙ sym (goes_on (state_after budget start).arch.pc (state_after budget start).env.over (goes_past s going))

  module _ (name : List ℕ) (store : Reads) (left : Option Files) (out : Puts) (stop : IsStop (world start image slaves) models budget k) where
    -- exactly its output
    exactly : (pc : ℕ) (end : End) → Ran pc end ≡ stands there → Got out there.env.output → Got out (state_after budget start).env.output
    exactly pc end is got = subst (λ (s : State). Got out s.env.output) (all_steps stop.sequential (has_ended pc there.arch.pc there.env.over end is)) got

    past : Budget ≡ stands there → Got out there.env.output → (q : ℕ) × (budget ≤ q) × (q < budget + 16384) × Got out (iterate step start q).env.output
    past is got =
        let m = models k in
        let far : budget ≤ m.position = ⊎_elim (λ (x : is_over m.committed ≡ true). absurd (true≢false (sym x ∙ still_goes there.arch.pc there.env.over is))) (λ (x : nat_le budget m.position ≡ true). leb-true budget m.position x)
        (or_cases (is_over m.committed) (nat_le budget m.position) stop.first.there) in
        (m.position, far, stop.near, subst (λ (s : State). Got out s.env.output) stop.sequential.is_seq got)

module _ (store : Reads) (left : Option Files) (r : RunCommand) (out : Puts) where
  pub unready_ran : (pc : ℕ) (end : End) → Unready store r (Ran pc end) → ⊥
  unready_ran pc end (inl (inl h)) = h
  unready_ran pc end (inl (inr (p, e, h, refused, is))) = cc
  unready_ran pc end (inr (inl (p, h, (name, named, inl x)))) = x
  unready_ran pc end (inr (inl (p, h, (name, named, inr (bytes, e, read, refused, is))))) = cc
  unready_ran pc end (inr (inr (inl (p, im, h, hi, (name, named, x))))) = x
  unready_ran pc end (inr (inr (inr is))) = cc

  pub unready_budget : Unready store r Budget → ⊥
  unready_budget (inl (inl h)) = h
  unready_budget (inl (inr (p, e, h, refused, is))) = cc
  unready_budget (inr (inl (p, h, (name, named, inl x)))) = x
  unready_budget (inr (inl (p, h, (name, named, inr (bytes, e, read, refused, is))))) = cc
  unready_budget (inr (inr (inl (p, im, h, hi, (name, named, x))))) = x
  unready_budget (inr (inr (inr is))) = cc

  module _ (p i : List ℕ) (im : Distilled) (fs : AreRunFiles store.told r p im i) where
    abbrev start : State
    start = start_from p i

    ran_exactly : (pc : ℕ) (end : End) → Ran pc end ≡ stands (state_after r.budget start) → Got out (state_after r.budget start).env.output → RunsAsAlone store.told r out (Ran pc end)
    ran_exactly pc end is got =
        record { p = p; i = i; program = fs.program; input = fs.input; stands_there = is; ended = λ pc' end' e. got; went_on = λ e. absurd (cc) }

    used_up : Budget ≡ stands (state_after r.budget start) → (q : ℕ) × (r.budget ≤ q) × (q < r.budget + 16384) × Got out (iterate step start q).env.output → RunsAsAlone store.told r out Budget
    used_up is got = record { p = p; i = i; program = fs.program; input = fs.input; stands_there = is; ended = λ pc end e. absurd (cc); went_on = λ e. got }

    after_steps : Got out (state_after r.budget start).env.output → (q : ℕ) × (r.budget ≤ q) × (q < r.budget + 16384) × Got out (iterate step start q).env.output
    unfolding state_after
    after_steps got = (r.budget, omega arith, omega arith, got)

    runs : (report : Option (List ℕ)) (models : ℕ → Model) (a : Answer) → RunFrom report r (world_from p i im r.slaves) models store left out a → Completes a → RunsAsAlone store.told r out a
    runs None models (Ran pc end) ((got, is), same) done = ran_exactly pc end is got
    runs None models Budget ((got, is), same) done = used_up is (after_steps got)
    runs (Some name) models (Ran pc end) (k, stop, (got, wrote, is)) done =
        ran_exactly pc end (is ∙ stands_so start im r.slaves models r.budget k stop.sequential) (exactly start im r.slaves models r.budget k name store left out stop pc end is got)
    runs (Some name) models Budget (k, stop, (got, wrote, is)) done =
        used_up (is ∙ stands_so start im r.slaves models r.budget k stop.sequential) (past start im r.slaves models r.budget k name store left out stop is got)
    runs report models Usage h done = absurd done
    runs report models Broken h done = absurd done
    runs report models (Absent s) h done = absurd done
    runs report models (StoreFault s) h done = absurd done
    runs report models SinkFault h done = absurd done
    runs report models Memory h done = absurd done
    runs report models (TooLong s) h done = absurd done
    runs report models (Refused e) h done = absurd done
    runs report models Done h done = absurd done

  pub runs_as_alone : (a : Answer) → RunCause store left r out a → Completes a → RunsAsAlone store.told r out a
  runs_as_alone (Ran pc end) (inl h) done = absurd (unready_ran pc end h.0)
  runs_as_alone Budget (inl h) done = absurd (unready_budget h.0)
  runs_as_alone Usage (inl h) done = absurd done
  runs_as_alone Broken (inl h) done = absurd done
  runs_as_alone (Absent s) (inl h) done = absurd done
  runs_as_alone (StoreFault s) (inl h) done = absurd done
  runs_as_alone SinkFault (inl h) done = absurd done
  runs_as_alone Memory (inl h) done = absurd done
  runs_as_alone (TooLong s) (inl h) done = absurd done
  runs_as_alone (Refused e) (inl h) done = absurd done
  runs_as_alone Done (inl h) done = absurd done
  runs_as_alone a (inr (p, i, im, fs, h)) done = runs p i im fs r.report (models_from r.adapt r (program_of p) (start_from p i) im) a h done
