-- Where the store tells and nothing fails, an answer with its cause is the one that the files determine, or want of memory.
use Rattle.std.proofs.Common.{◌≡◌, ℕ, ◌≤◌, ◌<◌, ◌⊎◌, inl, inr, List, length, Option, Some, None, refl, sym, ap, subst, ◌∙◌, arith}
use Rattle.std.specs.Prelude.{nat_lt, nat_eq, cond, Bool, true, false, ◌≢◌, [], ◌∷◌}
use Rattle.std.specs.FinMap as finite
use Rattle.std.proofs.lemmas.Bool.{cond-true, cond-false}
use Rattle.std.proofs.lemmas.Bool.Decides.{nat_tests}
use Rattle.outside.specs.Files.{Files}
use Rattle.command_line.specs.Command.{Command, Run, Show, Replay, Profile, Values, Distill, Check, Certify, Trial, RunCommand, ReplayCommand, WalkCommand, DistillCommand, TrialCommand}
use Rattle.dist_image.specs.Image.{Distilled}
use Rattle.dist_image.specs.Reading.{image_from}
use Rattle.elf_reader.specs.Refusal.{refusal}
use Rattle.speculation.specs.declared.Event.{Event}
use Rattle.event_list.specs.Reading.{list_in, written_out}
use Rattle.load_values.specs.Reading.{values_from}
use Rattle.profile_data.specs.Profile.{Profiled}
use Rattle.profile_laws.specs.Profiles.{with_mark, steps}
use Rattle.profile_laws.specs.Tally.{kept}
use Rattle.report.specs.Show.{image_text}
use Rattle.answers.specs.declared.answer.Source.{Source}
use Rattle.answers.specs.declared.answer.Source.TheVariants as source
use Rattle.answers.specs.declared.answer.Refusal.TheVariants as refused
use Rattle.answers.specs.declared.answer.Answer.{Answer}
use Rattle.answers.specs.declared.answer.Answer.TheVariants.{Usage, Absent, StoreFault, SinkFault, Memory, TooLong, Refused, Done, Ran, Budget, Broken}
use Rattle.speculative_runs.specs.Told.{Reads, Puts, Fails, PutFails, Delivered, Spoken}
use Rattle.mssp_tool.specs.Files.{IsReadFrom, NotRead, of_file, IsProgramOf, NoProgram, unless_refused, of_program, HasImage, NoImage, of_reading, of_image, IsNamedImage, NoNamedImage, of_named_image, HasEvents, NoEvents, of_events, IsInput, NoInput, of_input, Saved, HasProfile, NoProfile, of_profile, program_limit, image_limit, events_limit, profile_limit, input_limit, HasValues, NoValues, of_values, AreNamedValues, NoNamedValues, of_named_values, values_limit}
use Rattle.speculative_runs.specs.Driven.{CutOff, Driven, state_after, stands}
use Rattle.mssp_tool.specs.Run.{Unready, AreRunFiles, RunFrom, RunCause, start_from, world_from, models_from, run_answer}
use Rattle.speculative_runs.specs.Speculated.{IsStop, Stopped}
use Rattle.speculation.specs.Engine.{Model}
use Rattle.mssp_tool.proofs.Exact.{stands_so}
use Rattle.mssp_tool.specs.Show.{ShowCause, show_answer}
use Rattle.speculative_runs.specs.Replayed.{replay_bytes}
use Rattle.mssp_tool.specs.Replay.{Wanting, ReplayCause, replay_answer}
use Rattle.mssp_tool.specs.Profile.{Unprofiled, IsProfileFrom, Profiles, ProfileCause, is_wide, profile_answer}
use Rattle.profile_data.specs.Reading.{profile_from}
use Rattle.distill_rules.specs.Analysed.{analysed}
use Rattle.certify.specs.declared.fit.Fit.{Fit}
use Rattle.report.specs.Verdict.{verdict_line}
use Rattle.mssp_tool.specs.Check.{Unchecked, verdict_answer, CheckCause, is_met, check_answer}
use Rattle.mssp_tool.specs.Certify.{Uncertified, fit_line, fit_answer, CertifyCause, certify_answer, IsCertified}
use Rattle.mssp_tool.proofs.Checks.{verdict_tested}
use Rattle.mssp_tool.specs.Values.{Finds, ValuesCause, loads_too_many, values_answer}
use Rattle.mssp_tool.specs.Distill.{Undistilled, Distills, DistillCause, distill_answer}
use Rattle.elf_reader.specs.Accepted.{program_of}
use Rattle.mssp_tool.proofs.Profiles.{wide_tested, narrow_tested, its_rows}
use Rattle.profile_data.specs.Profile.{Tally}
use Rattle.profile_laws.specs.Profiles.{IsWide}
use Rattle.trial_report.specs.Trial.{budget, start_made, IsProfileMade}
use Rattle.mssp_tool.specs.Trial.{TrialCause, trial_answer}
use Rattle.mssp_tool.specs.Top.{Cause, IsAnswerOf}

-- a told file within its limit leads on
found : (file : Option (List ℕ)) (bytes : List ℕ) (limit : ℕ) (s : Source) (k : List ℕ → Answer) → file ≡ Some bytes → length bytes ≤ limit → of_file file limit s k ≡ k bytes
found file bytes limit s k e l = ap (λ f. of_file f limit s k) e ∙ cond-false (nat_lt limit (length bytes)) (TooLong s) (k bytes) (grind (arith, nat_tests))

longer : (file : Option (List ℕ)) (bytes : List ℕ) (limit : ℕ) (s : Source) (k : List ℕ → Answer) → file ≡ Some bytes → limit < length bytes → of_file file limit s k ≡ TooLong s
longer file bytes limit s k e l = ap (λ f. of_file f limit s k) e ∙ cond-true (nat_lt limit (length bytes)) (TooLong s) (k bytes) (grind (arith, nat_tests))

-- a list that isn't empty has a length
some_tested : (xs : List ℕ) → xs ≢ [] → nat_eq (length xs) 0 ≡ false
some_tested [] h = absurd (h refl)
some_tested (x ∷ xs) h = grind (arith, nat_tests)

-- loads at more than 524,288 addresses
wide_loads_tested : (n : ℕ) → 524_288 < n → nat_lt 524_288 n ≡ true
wide_loads_tested n h = grind (arith, nat_tests)

few_loads_tested : (n : ℕ) → (524_288 < n → ⊥) → nat_lt 524_288 n ≡ false
few_loads_tested n h = let few : n ≤ 524_288 = grind (arith, nat_tests, h) in grind (arith, nat_tests)

-- it is this answer, or want of memory
abbrev Is : Answer → Answer → Type 0
Is a answer = (a ≡ answer) ⊎ (a ≡ Memory)

is_also : (a b c : Answer) → b ≡ c → Is a b → Is a c
is_also a b c e (inl h) = inl (h ∙ e)
is_also a b c e (inr m) = inr m

module _ (store : Reads) (out : Puts) (files : Files) (told : store.told ≡ Some files) (reads : Fails store → ⊥) (puts : PutFails out → ⊥) where
  same_files : (fs : Files) → store.told ≡ Some fs → fs ≡ files
  same_files fs e = let t = told in cc

  -- ---- a file that is read leads on, and one that is not read leads no further

  read : (name bytes : List ℕ) (limit : ℕ) (s : Source) (k : List ℕ → Answer) → IsReadFrom store.told name limit bytes → of_file (finite.get files name) limit s k ≡ k bytes
  read name bytes limit s k h = let f = h files told in found (finite.get files name) bytes limit s k f.0 f.1

  not_read : (name : List ℕ) (limit : ℕ) (s : Source) (k : List ℕ → Answer) (a : Answer) → NotRead store name limit s a → Is a (of_file (finite.get files name) limit s k)
  not_read name limit s k (Absent t) (same, inl (fs, e, none)) =
      let here : finite.get files name ≡ None = ap (λ m. finite.get m name) (sym (same_files fs e)) ∙ none in
      inl (ap Absent same ∙ sym (ap (λ f. of_file f limit s k) here))
  not_read name limit s k (Absent t) (same, inr r) = absurd (reads r.0)
  not_read name limit s k (TooLong t) (same, inl (fs, bytes, e, some, l)) =
      let here : finite.get files name ≡ Some bytes = ap (λ m. finite.get m name) (sym (same_files fs e)) ∙ some in
      inl (ap TooLong same ∙ sym (longer (finite.get files name) bytes limit s k here l))
  not_read name limit s k (TooLong t) (same, inr r) = absurd (reads r.0)
  not_read name limit s k (StoreFault t) (same, r) = absurd (reads r.0)
  not_read name limit s k Memory h = inr refl
  not_read name limit s k Usage h = absurd h
  not_read name limit s k Broken h = absurd h
  not_read name limit s k SinkFault h = absurd h
  not_read name limit s k (Refused e) h = absurd h
  not_read name limit s k Done h = absurd h
  not_read name limit s k (Ran pc end) h = absurd h
  not_read name limit s k Budget h = absurd h

  program : (name p : List ℕ) (k : List ℕ → Answer) → IsProgramOf store.told name p → of_program files name k ≡ k p
  program name p k h = read name p program_limit source.Program (λ q. unless_refused (refusal q) (k q)) h.read ∙ ap (λ o. unless_refused o (k p)) h.accepted

  no_program : (name : List ℕ) (k : List ℕ → Answer) (a : Answer) → NoProgram store name a → Is a (of_program files name k)
  no_program name k a (inl h) = not_read name program_limit source.Program (λ q. unless_refused (refusal q) (k q)) a h
  no_program name k a (inr (p, e, h, refused, is)) =
      inl (is ∙ sym (read name p program_limit source.Program (λ q. unless_refused (refusal q) (k q)) h ∙ ap (λ o. unless_refused o (k p)) refused))

  image : (name : List ℕ) (i : Distilled) (k : Distilled → Answer) → HasImage store.told name i → of_image files name k ≡ k i
  image name i k (bytes, h) = read name bytes image_limit source.Image (λ b. of_reading (image_from b) refused.Image k) h.read ∙ ap (λ r. of_reading r refused.Image k) h.accepted

  no_image : (name : List ℕ) (k : Distilled → Answer) (a : Answer) → NoImage store name a → Is a (of_image files name k)
  no_image name k a (inl h) = not_read name image_limit source.Image (λ b. of_reading (image_from b) refused.Image k) a h
  no_image name k a (inr (bytes, e, h, fault, is)) =
      inl (is ∙ sym (read name bytes image_limit source.Image (λ b. of_reading (image_from b) refused.Image k) h ∙ ap (λ r. of_reading r refused.Image k) fault))

  named_image : (named : Option (List ℕ)) (i : Distilled) (k : Distilled → Answer) → IsNamedImage store.told named i → of_named_image files named k ≡ k i
  named_image None i k e = ap k (sym e)
  named_image (Some name) i k h = image name i k h

  no_named_image : (named : Option (List ℕ)) (k : Distilled → Answer) (a : Answer) → NoNamedImage store named a → Is a (of_named_image files named k)
  no_named_image named k a (name, is, h) = is_also a (of_named_image files (Some name) k) (of_named_image files named k) (ap (λ n. of_named_image files n k) (sym is)) (no_image name k a h)

  events : (name : List ℕ) (list : List (ℕ × Event)) (k : List (ℕ × Event) → Answer) → HasEvents store.told name list → of_events files name k ≡ k list
  events name list k (bytes, h) = read name bytes events_limit source.Events (λ b. of_reading (list_in b) refused.Events k) h.read ∙ ap (λ r. of_reading r refused.Events k) h.accepted

  no_events : (name : List ℕ) (k : List (ℕ × Event) → Answer) (a : Answer) → NoEvents store name a → Is a (of_events files name k)
  no_events name k a (inl h) = not_read name events_limit source.Events (λ b. of_reading (list_in b) refused.Events k) a h
  no_events name k a (inr (bytes, e, h, fault, is)) =
      inl (is ∙ sym (read name bytes events_limit source.Events (λ b. of_reading (list_in b) refused.Events k) h ∙ ap (λ r. of_reading r refused.Events k) fault))

  profile : (name : List ℕ) (f : Profiled) (k : Profiled → Answer) → HasProfile store.told name f → of_profile files name k ≡ k f
  profile name f k (bytes, h) = read name bytes profile_limit source.Profile (λ b. of_reading (profile_from b) refused.Profile k) h.read ∙ ap (λ r. of_reading r refused.Profile k) h.accepted

  no_profile : (name : List ℕ) (k : Profiled → Answer) (a : Answer) → NoProfile store name a → Is a (of_profile files name k)
  no_profile name k a (inl h) = not_read name profile_limit source.Profile (λ b. of_reading (profile_from b) refused.Profile k) a h
  no_profile name k a (inr (bytes, e, h, fault, is)) =
      inl (is ∙ sym (read name bytes profile_limit source.Profile (λ b. of_reading (profile_from b) refused.Profile k) h ∙ ap (λ r. of_reading r refused.Profile k) fault))

  values : (name : List ℕ) (rows : List (ℕ × ℕ)) (k : List (ℕ × ℕ) → Answer) → HasValues store.told name rows → of_values files name k ≡ k rows
  values name rows k (bytes, h) = read name bytes values_limit source.Values (λ b. of_reading (values_from b) refused.Values k) h.read ∙ ap (λ r. of_reading r refused.Values k) h.accepted

  no_values : (name : List ℕ) (k : List (ℕ × ℕ) → Answer) (a : Answer) → NoValues store name a → Is a (of_values files name k)
  no_values name k a (inl h) = not_read name values_limit source.Values (λ b. of_reading (values_from b) refused.Values k) a h
  no_values name k a (inr (bytes, e, h, fault, is)) =
      inl (is ∙ sym (read name bytes values_limit source.Values (λ b. of_reading (values_from b) refused.Values k) h ∙ ap (λ r. of_reading r refused.Values k) fault))

  named_values : (named : Option (List ℕ)) (rows : List (ℕ × ℕ)) (k : List (ℕ × ℕ) → Answer) → AreNamedValues store.told named rows → of_named_values files named k ≡ k rows
  named_values None rows k e = ap k (sym e)
  named_values (Some name) rows k h = values name rows k h

  no_named_values : (named : Option (List ℕ)) (k : List (ℕ × ℕ) → Answer) (a : Answer) → NoNamedValues store named a → Is a (of_named_values files named k)
  no_named_values named k a (name, is, h) = is_also a (of_named_values files (Some name) k) (of_named_values files named k) (ap (λ n. of_named_values files n k) (sym is)) (no_values name k a h)

  input : (named : Option (List ℕ)) (i : List ℕ) (k : List ℕ → Answer) → IsInput store.told named i → of_input files named k ≡ k i
  input None i k e = ap k (sym e)
  input (Some name) i k h = read name i input_limit source.Input k h

  no_input : (named : Option (List ℕ)) (k : List ℕ → Answer) (a : Answer) → NoInput store named a → Is a (of_input files named k)
  no_input named k a (name, is, h) = is_also a (of_input files (Some name) k) (of_input files named k) (ap (λ n. of_input files n k) (sym is)) (not_read name input_limit source.Input k a h)

  -- ---- a text that is put

  delivered : (text : List ℕ) (a : Answer) → Delivered out text a → Is a Done
  delivered text Done got = inl refl
  delivered text SinkFault (rose, part) = absurd (puts rose)
  delivered text Memory part = inr refl
  delivered text Usage h = absurd h
  delivered text Broken h = absurd h
  delivered text (Absent s) h = absurd h
  delivered text (StoreFault s) h = absurd h
  delivered text (TooLong s) h = absurd h
  delivered text (Refused r) h = absurd h
  delivered text (Ran pc end) h = absurd h
  delivered text Budget h = absurd h

  -- ---- `run`

  module _ (r : RunCommand) where
    abbrev after_input : List ℕ → List ℕ → Answer
    after_input p i = stands (state_after r.budget (start_from p i))

    abbrev after_run_image : List ℕ → Answer
    after_run_image p = of_input files r.input (after_input p)

    abbrev after_program : List ℕ → Answer
    after_program p = of_named_image files r.image (λ _. after_run_image p)

    unready : (a : Answer) → Unready store r a → Is a (run_answer files r)
    unready a (inl h) = no_program r.program after_program a h
    unready a (inr (inl (p, h, n))) = is_also a (after_program p) (run_answer files r) (sym (program r.program p after_program h)) (no_named_image r.image (λ _. after_run_image p) a n)
    unready a (inr (inr (inl (p, im, h, hi, n)))) =
        is_also a (after_run_image p) (run_answer files r) (sym (program r.program p after_program h ∙ named_image r.image im (λ _. after_run_image p) hi)) (no_input r.input (after_input p) a n)
    unready a (inr (inr (inr m))) = inr m

    module _ (p i : List ℕ) (im : Distilled) (fs : AreRunFiles store.told r p im i) where
      -- the answer tells where the run stands after its steps
      told_so : (a : Answer) → a ≡ stands (state_after r.budget (start_from p i)) → Is a (run_answer files r)
      told_so a is =
          inl (is ∙ sym (program r.program p after_program fs.program ∙ named_image r.image im (λ _. after_run_image p) fs.has_image ∙ input r.input i (after_input p) fs.input))

      cut_off : (text : List ℕ) (a : Answer) → CutOff out text a → Is a (run_answer files r)
      cut_off text SinkFault (rose, part) = absurd (puts rose)
      cut_off text Memory part = inr refl
      cut_off text Usage x = absurd x
      cut_off text Broken x = absurd x
      cut_off text (Absent s) x = absurd x
      cut_off text (StoreFault s) x = absurd x
      cut_off text (TooLong s) x = absurd x
      cut_off text (Refused e) x = absurd x
      cut_off text Done x = absurd x
      cut_off text (Ran pc end) x = absurd x
      cut_off text Budget x = absurd x

      driven : (a : Answer) → Driven (start_from p i) r.budget out a → Is a (run_answer files r)
      driven (Ran pc end) (got, is) = told_so (Ran pc end) is
      driven Budget (got, is) = told_so Budget is
      driven SinkFault x = cut_off (state_after r.budget (start_from p i)).env.output SinkFault x
      driven Memory x = cut_off (state_after r.budget (start_from p i)).env.output Memory x
      driven Usage x = absurd x
      driven Broken x = absurd x
      driven (Absent s) x = absurd x
      driven (StoreFault s) x = absurd x
      driven (TooLong s) x = absurd x
      driven (Refused e) x = absurd x
      driven Done x = absurd x

      stopped : (models : ℕ → Model) (left : Option Files) (name : List ℕ) (k : ℕ) (a : Answer)
          → IsStop (world_from p i im r.slaves) models r.budget k
          → Stopped (models k) name store left out a → Is a (run_answer files r)
      stopped models left name k (Ran pc end) stop (got, wrote, is) = told_so (Ran pc end) (is ∙ stands_so (start_from p i) im r.slaves models r.budget k stop.sequential)
      stopped models left name k Budget stop (got, wrote, is) = told_so Budget (is ∙ stands_so (start_from p i) im r.slaves models r.budget k stop.sequential)
      stopped models left name k (StoreFault s) stop (got, (same, fails, others)) = absurd (reads fails.0)
      stopped models left name k SinkFault stop x = cut_off (models k).committed.env.output SinkFault x.0
      stopped models left name k Memory stop x = cut_off (models k).committed.env.output Memory x.0
      stopped models left name k Usage stop x = absurd x.0
      stopped models left name k Broken stop x = absurd x.0
      stopped models left name k (Absent s) stop x = absurd x.0
      stopped models left name k (TooLong s) stop x = absurd x.0
      stopped models left name k (Refused e) stop x = absurd x.0
      stopped models left name k Done stop x = absurd x.0

      run_from : (models : ℕ → Model) (left : Option Files) (report : Option (List ℕ)) (a : Answer) → RunFrom report r (world_from p i im r.slaves) models store left out a → Is a (run_answer files r)
      run_from models left None a (d, same) = driven a d
      run_from models left (Some name) a (k, stop, s) = stopped models left name k a stop s

    run_complete : (left : Option Files) (a : Answer) → RunCause store left r out a → Is a (run_answer files r)
    run_complete left a (inl h) = unready a h.0
    run_complete left a (inr (p, i, im, fs, d)) = run_from p i im fs (models_from r.adapt r (program_of p) (start_from p i) im) left r.report a d

  -- ---- `show`

  show_complete : (name : List ℕ) (a : Answer) → ShowCause store name out a → Is a (show_answer files name)
  show_complete name a (inl (h, nothing)) = no_image name (λ _. Done) a h
  show_complete name a (inr (i, h, d)) = is_also a Done (show_answer files name) (sym (image name i (λ _. Done) h)) (delivered (image_text i) a d)

  -- ---- `replay`

  module _ (r : ReplayCommand) where
    abbrev after_events : Answer
    after_events = of_input files r.input (λ _. Done)

    abbrev after_image : Answer
    after_image = of_events files r.events (λ _. after_events)

    abbrev after_replayed_program : Answer
    after_replayed_program = of_image files r.image (λ _. after_image)

    wanting : (a : Answer) → Wanting store r a → Is a (replay_answer files r)
    wanting a (inl h) = no_program r.program (λ _. after_replayed_program) a h
    wanting a (inr (inl (p, h, n))) = is_also a after_replayed_program (replay_answer files r) (sym (program r.program p (λ _. after_replayed_program) h)) (no_image r.image (λ _. after_image) a n)
    wanting a (inr (inr (inl (p, i, h, hi, n)))) =
        is_also a after_image (replay_answer files r) (sym (program r.program p (λ _. after_replayed_program) h ∙ image r.image i (λ _. after_image) hi)) (no_events r.events (λ _. after_events) a n)
    wanting a (inr (inr (inr (inl (p, i, list, h, hi, he, n))))) =
        is_also a after_events (replay_answer files r)
        (sym (program r.program p (λ _. after_replayed_program) h ∙ image r.image i (λ _. after_image) hi ∙ events r.events list (λ _. after_events) he)) (no_input r.input (λ _. Done) a n)
    wanting a (inr (inr (inr (inr m)))) = inr m

    replay_complete : (a : Answer) → ReplayCause store r out a → Is a (replay_answer files r)
    replay_complete a (inl (h, nothing)) = wanting a h
    replay_complete a (inr (p, i, im, list, fs, d, run)) =
        is_also a Done (replay_answer files r)
        (sym (program r.program p (λ _. after_replayed_program) fs.program ∙ image r.image im (λ _. after_image) fs.has_image ∙ events r.events list (λ _. after_events) fs.events
        ∙ input r.input i (λ _. Done) fs.input))
        (delivered (replay_bytes (world_from p i im r.slaves) (written_out list)) a d)

  -- ---- a file that is written

  saved : (left : Option Files) (name bytes : List ℕ) (a : Answer) → Saved store left name bytes a → Is a Done
  saved left name bytes Done h = inl refl
  saved left name bytes (StoreFault s) (same, fails, others) = absurd (reads fails.0)
  saved left name bytes Memory h = inr refl
  saved left name bytes Usage h = absurd h
  saved left name bytes Broken h = absurd h
  saved left name bytes (Absent s) h = absurd h
  saved left name bytes SinkFault h = absurd h
  saved left name bytes (TooLong s) h = absurd h
  saved left name bytes (Refused r) h = absurd h
  saved left name bytes (Ran pc end) h = absurd h
  saved left name bytes Budget h = absurd h

  -- ---- `profile`

  module _ (w : WalkCommand) (calls : Bool) where
    abbrev after_profiled_input : List ℕ → List ℕ → Answer
    after_profiled_input p i = cond (is_wide (kept (with_mark calls) (start_from p i) (steps (start_from p i) w.budget)).rows) (Refused refused.Wide) Done

    abbrev after_profiled_program : List ℕ → Answer
    after_profiled_program p = of_input files w.input (after_profiled_input p)

    unprofiled : (a : Answer) → Unprofiled store w a → Is a (profile_answer files w calls)
    unprofiled a (inl h) = no_program w.program after_profiled_program a h
    unprofiled a (inr (inl (p, h, n))) = is_also a (after_profiled_program p) (profile_answer files w calls) (sym (program w.program p after_profiled_program h)) (no_input w.input (after_profiled_input p) a n)
    unprofiled a (inr (inr m)) = inr m

    profiled : (left : Option Files) (p i : List ℕ) (f : Profiled) (a : Answer) → IsProfileFrom calls p i w.budget f → Profiles f store left w.other a → Is a (after_profiled_input p i)
    profiled left p i f a is (inl (wide, refusal_is, same)) =
        inl (refusal_is ∙ sym (cond-true (is_wide (kept (with_mark calls) (start_from p i) (steps (start_from p i) w.budget)).rows) (Refused refused.Wide) Done
        (ap is_wide (sym (its_rows (with_mark calls) (start_from p i) (steps (start_from p i) w.budget) f is)) ∙ wide_tested f.rows wide)))
    profiled left p i f a is (inr (narrow, s)) =
        is_also a Done (after_profiled_input p i)
        (sym (cond-false (is_wide (kept (with_mark calls) (start_from p i) (steps (start_from p i) w.budget)).rows) (Refused refused.Wide) Done
        (ap is_wide (sym (its_rows (with_mark calls) (start_from p i) (steps (start_from p i) w.budget) f is)) ∙ narrow_tested f.rows narrow)))
        (saved left w.other _ a s)

    profile_complete : (left : Option Files) (a : Answer) → ProfileCause store left w calls a → Is a (profile_answer files w calls)
    profile_complete left a (inl (h, same)) = unprofiled a h
    profile_complete left a (inr (p, i, f, hp, hi, is, s)) =
        is_also a (after_profiled_input p i) (profile_answer files w calls) (sym (program w.program p after_profiled_program hp ∙ input w.input i (after_profiled_input p) hi)) (profiled left p i f a is s)

  -- ---- `values`

  module _ (w : WalkCommand) where
    abbrev after_found_input : List ℕ → List ℕ → Answer
    after_found_input p i = cond (loads_too_many p i w.budget) (Refused refused.WideLoads) Done

    abbrev after_found_program : List ℕ → Answer
    after_found_program p = of_input files w.input (after_found_input p)

    unfound : (a : Answer) → Unprofiled store w a → Is a (values_answer files w)
    unfound a (inl h) = no_program w.program after_found_program a h
    unfound a (inr (inl (p, h, n))) = is_also a (after_found_program p) (values_answer files w) (sym (program w.program p after_found_program h)) (no_input w.input (after_found_input p) a n)
    unfound a (inr (inr m)) = inr m

    finds : (left : Option Files) (p i : List ℕ) (a : Answer) → Finds p i w store left a → Is a (after_found_input p i)
    finds left p i a (inl (wide, refusal_is, same)) = inl (refusal_is ∙ sym (cond-true (loads_too_many p i w.budget) (Refused refused.WideLoads) Done (wide_loads_tested _ wide)))
    finds left p i a (inr (rows, narrow, is, s)) =
        is_also a Done (after_found_input p i) (sym (cond-false (loads_too_many p i w.budget) (Refused refused.WideLoads) Done (few_loads_tested _ narrow))) (saved left w.other _ a s)

    values_complete : (left : Option Files) (a : Answer) → ValuesCause store left w a → Is a (values_answer files w)
    values_complete left a (inl (h, same)) = unfound a h
    values_complete left a (inr (p, i, hp, hi, s)) =
        is_also a (after_found_input p i) (values_answer files w) (sym (program w.program p after_found_program hp ∙ input w.input i (after_found_input p) hi)) (finds left p i a s)

  -- ---- `distill`

  module _ (d : DistillCommand) where
    abbrev after_named : Profiled → Answer
    after_named f = cond (nat_eq (length (analysed f.rows)) 0) (Refused refused.Empty) Done

    abbrev after_profile : Profiled → Answer
    after_profile f = of_named_values files d.values (λ _. after_named f)

    abbrev after_distilled_program : List ℕ → Answer
    after_distilled_program p = of_profile files d.profile after_profile

    undistilled : (a : Answer) → Undistilled store d a → Is a (distill_answer files d)
    undistilled a (inl h) = no_program d.program after_distilled_program a h
    undistilled a (inr (inl (p, h, n))) = is_also a (after_distilled_program p) (distill_answer files d) (sym (program d.program p after_distilled_program h)) (no_profile d.profile after_profile a n)
    undistilled a (inr (inr (inl (p, f, h, hf, n)))) =
        is_also a (after_profile f) (distill_answer files d) (sym (program d.program p after_distilled_program h ∙ profile d.profile f after_profile hf)) (no_named_values d.values (λ _. after_named f) a n)
    undistilled a (inr (inr (inr m))) = inr m

    distilled : (left : Option Files) (p : List ℕ) (f : Profiled) (same : List (ℕ × ℕ)) (a : Answer) → Distills d (program_of p) f same store left a → Is a (after_named f)
    distilled left p f same a (inl (none, refusal_is, stays)) =
        inl (refusal_is ∙ sym (cond-true (nat_eq (length (analysed f.rows)) 0) (Refused refused.Empty) Done (ap (λ (pcs : List ℕ). nat_eq (length pcs) 0) none)))
    distilled left p f same a (inr (some, s)) =
        is_also a Done (after_named f) (sym (cond-false (nat_eq (length (analysed f.rows)) 0) (Refused refused.Empty) Done (some_tested (analysed f.rows) some))) (saved left d.output _ a s)

    distill_complete : (left : Option Files) (a : Answer) → DistillCause store left d a → Is a (distill_answer files d)
    distill_complete left a (inl (h, same)) = undistilled a h
    distill_complete left a (inr (p, f, same, hp, hf, hs, s)) =
        is_also a (after_named f) (distill_answer files d)
        (sym (program d.program p after_distilled_program hp ∙ profile d.profile f after_profile hf ∙ named_values d.values same (λ _. after_named f) hs)) (distilled left p f same a s)

  -- ---- `check`

  spoken : (line : List ℕ) (end a : Answer) → Spoken out line end a → Is a end
  spoken line end SinkFault (rose, part) = absurd (puts rose)
  spoken line end Memory part = inr refl
  spoken line end Usage h = inl h.1
  spoken line end (Absent s) h = inl h.1
  spoken line end (StoreFault s) h = inl h.1
  spoken line end (TooLong s) h = inl h.1
  spoken line end (Refused r) h = inl h.1
  spoken line end Done h = inl h.1
  spoken line end (Ran pc e) h = inl h.1
  spoken line end Budget h = inl h.1
  spoken line end Broken h = inl h.1

  module _ (w : WalkCommand) where
    abbrev after_checked_input : List ℕ → Distilled → List ℕ → Answer
    after_checked_input p im i = cond (is_met (start_from p i) im (steps (start_from p i) w.budget)) Done Broken

    abbrev after_checked_image : List ℕ → Distilled → Answer
    after_checked_image p im = of_input files w.input (after_checked_input p im)

    abbrev after_checked_program : List ℕ → Answer
    after_checked_program p = of_image files w.other (after_checked_image p)

    unchecked : (a : Answer) → Unchecked store w a → Is a (check_answer files w)
    unchecked a (inl h) = no_program w.program after_checked_program a h
    unchecked a (inr (inl (p, h, n))) = is_also a (after_checked_program p) (check_answer files w) (sym (program w.program p after_checked_program h)) (no_image w.other (after_checked_image p) a n)
    unchecked a (inr (inr (inl (p, im, h, hi, n)))) =
        is_also a (after_checked_image p im) (check_answer files w) (sym (program w.program p after_checked_program h ∙ image w.other im (after_checked_image p) hi)) (no_input w.input (after_checked_input p im) a n)
    unchecked a (inr (inr (inr m))) = inr m

    check_complete : (a : Answer) → CheckCause store w out a → Is a (check_answer files w)
    check_complete a (inl (h, nothing)) = unchecked a h
    check_complete a (inr (p, i, im, v, fs, is, j)) =
        is_also a (verdict_answer v) (check_answer files w)
        (sym (program w.program p after_checked_program fs.program ∙ image w.other im (after_checked_image p) fs.has_image ∙ input w.input i (after_checked_input p im) fs.input
        ∙ verdict_tested (start_from p i) im fs.has_image.1.is_image w.budget v is))
        (spoken (verdict_line im v) (verdict_answer v) a j)

  -- ---- `certify`

  -- an answer that is the same whatever plays no part, or want of memory
  either : (f : Fit → Answer) (a : Answer) → ((fit : Fit) → Is a (f fit)) → ((fit : Fit) → a ≡ f fit) ⊎ (a ≡ Memory)
  either f a h = at_each_fit a (λ fit. h fit)
    where
      sure : (b c : Answer) → (b ≡ Memory → ⊥) → Is b c → b ≡ c
      sure b c other (inl e) = e
      sure b c other (inr m) = absurd (other m)

      at_each_fit : (b : Answer) → ((fit : Fit) → Is b (f fit)) → ((fit : Fit) → b ≡ f fit) ⊎ (b ≡ Memory)
      at_each_fit Memory g = inr refl
      at_each_fit Usage g = inl (λ fit. sure Usage (f fit) (λ e. cc) (g fit))
      at_each_fit (Absent s) g = inl (λ fit. sure (Absent s) (f fit) (λ e. cc) (g fit))
      at_each_fit (StoreFault s) g = inl (λ fit. sure (StoreFault s) (f fit) (λ e. cc) (g fit))
      at_each_fit SinkFault g = inl (λ fit. sure SinkFault (f fit) (λ e. cc) (g fit))
      at_each_fit (TooLong s) g = inl (λ fit. sure (TooLong s) (f fit) (λ e. cc) (g fit))
      at_each_fit (Refused r) g = inl (λ fit. sure (Refused r) (f fit) (λ e. cc) (g fit))
      at_each_fit Done g = inl (λ fit. sure Done (f fit) (λ e. cc) (g fit))
      at_each_fit (Ran pc end) g = inl (λ fit. sure (Ran pc end) (f fit) (λ e. cc) (g fit))
      at_each_fit Budget g = inl (λ fit. sure Budget (f fit) (λ e. cc) (g fit))
      at_each_fit Broken g = inl (λ fit. sure Broken (f fit) (λ e. cc) (g fit))

  module _ (named_program named_image : List ℕ) where
    abbrev after_certified_image : Fit → Distilled → Answer
    after_certified_image fit im = fit_answer fit

    abbrev after_certified_program : Fit → List ℕ → Answer
    after_certified_program fit p = of_image files named_image (after_certified_image fit)

    uncertified : (a : Answer) → Uncertified store named_program named_image a → (fit : Fit) → Is a (certify_answer files named_program named_image fit)
    uncertified a (inl h) fit = no_program named_program (after_certified_program fit) a h
    uncertified a (inr (p, h, n)) fit =
        is_also a (after_certified_program fit p) (certify_answer files named_program named_image fit) (sym (program named_program p (after_certified_program fit) h))
        (no_image named_image (after_certified_image fit) a n)

    certify_complete : (a : Answer) → CertifyCause store named_program named_image out a → IsCertified files named_program named_image a ⊎ (a ≡ Memory)
    certify_complete a (inl (h, nothing)) = certified_at (either (certify_answer files named_program named_image) a (uncertified a h))
      where
        certified_at : ((fit : Fit) → a ≡ certify_answer files named_program named_image fit) ⊎ (a ≡ Memory) → IsCertified files named_program named_image a ⊎ (a ≡ Memory)
        certified_at (inl e) = inl (inl e)
        certified_at (inr m) = inr m
    certify_complete a (inr (p, im, fit, hp, hi, is, s)) = spoken_at (spoken (fit_line fit) (fit_answer fit) a s)
      where
        spoken_at : Is a (fit_answer fit) → IsCertified files named_program named_image a ⊎ (a ≡ Memory)
        spoken_at (inl e) = inl (inr (p, im, fit, subst (λ (d : Option Files). IsProgramOf d named_program p) told hp, subst (λ (d : Option Files). HasImage d named_image im) told hi, is, e))
        spoken_at (inr m) = inr m

  -- ---- `trial`

  module _ (t : TrialCommand) where
    abbrev made_rows : List Tally
    made_rows = (kept (with_mark false) (start_made t.seed t.size) (steps (start_made t.seed t.size) budget)).rows

    abbrev after_made : Answer
    after_made = cond (nat_eq (length (analysed made_rows)) 0) (Refused refused.Empty) Done

    made_so : (f : Profiled) → IsProfileMade t.seed t.size f → f.rows ≡ made_rows
    made_so f is = its_rows (with_mark false) (start_made t.seed t.size) (steps (start_made t.seed t.size) budget) f is

    narrow_made : (f : Profiled) → IsProfileMade t.seed t.size f → (IsWide f.rows → ⊥) → trial_answer t ≡ after_made
    narrow_made f is narrow = cond-false (is_wide made_rows) (Refused refused.Wide) after_made (ap is_wide (sym (made_so f is)) ∙ narrow_tested f.rows narrow)

    trial_complete : (a : Answer) → TrialCause t out a → Is a (trial_answer t)
    trial_complete a (inl (is, nothing)) = inr is
    trial_complete a (inr (inl (f, is, wide, refusal_is, nothing))) =
        inl (refusal_is ∙ sym (cond-true (is_wide made_rows) (Refused refused.Wide) after_made (ap is_wide (sym (made_so f is)) ∙ wide_tested f.rows wide)))
    trial_complete a (inr (inr (inl (f, is, narrow, none, refusal_is, nothing)))) =
        inl (refusal_is ∙ sym (narrow_made f is narrow ∙ cond-true (nat_eq (length (analysed made_rows)) 0) (Refused refused.Empty) Done
        (ap (λ (pcs : List ℕ). nat_eq (length pcs) 0) (ap analysed (sym (made_so f is)) ∙ none))))
    trial_complete a (inr (inr (inr (f, text, h, d)))) =
        let some : nat_eq (length (analysed made_rows)) 0 ≡ false = ap (λ rows. nat_eq (length (analysed rows)) 0) (sym (made_so f h.profile)) ∙ some_tested (analysed f.rows) h.some in
        is_also a Done (trial_answer t) (sym (narrow_made f h.profile h.narrow ∙ cond-false (nat_eq (length (analysed made_rows)) 0) (Refused refused.Empty) Done some)) (delivered text a d)

  pub complete : (left : Option Files) (command : Option Command) (a : Answer) → Cause store left command out a → IsAnswerOf files command a ⊎ (a ≡ Memory)
  complete left None a h = inl h.0
  complete left (Some (Run r)) a h = run_complete r left a h
  complete left (Some (Show name)) a h = show_complete name a h.0
  complete left (Some (Replay r)) a h = replay_complete r a h.0
  complete left (Some (Profile w calls)) a h = profile_complete w calls left a h.0
  complete left (Some (Values w)) a h = values_complete w left a h.0
  complete left (Some (Distill d)) a h = distill_complete d left a h.0
  complete left (Some (Check w)) a h = check_complete w a h.0
  complete left (Some (Certify program image)) a h = certify_complete program image a h.0
  complete left (Some (Trial t)) a h = trial_complete t a h.0
