-- The verdict on the run of the files that were read, and the test that tells it.
use Rattle.std.proofs.Common.{◌≡◌, inr, ℕ, zero, suc, ◌+◌, ◌<◌, ◌≤◌, ◌-◌, Bool, true, false, cond, ◌&&◌, List, [], ◌∷◌, Option, Some, refl, sym, ap, ◌∙◌, subst, ⊎_elim, true≢false, arith}
use Rattle.std.specs.Prelude.{slice_get, is_some, nat_eq}
use Rattle.std.proofs.lemmas.Bool.{cases_Bool, cases_eq, or_cases, or_left, or_right, and_parts, and_from}
use Rattle.std.proofs.lemmas.Bool.Decides.{nat_tests}
use Rattle.std.proofs.lemmas.Option.{slice_get_within}
use Rattle.cells.specs.Run.{State, is_over, printed}
use Rattle.rv_semantics.specs.Machine.{machine}
use Rattle.rv_semantics.specs.Calls.{call}
use Rattle.command_line.specs.Command.{WalkCommand}
use Rattle.dist_image.specs.Image.{Premise, Cut, Targets, Dead, Code, Within, Span, Same, Distilled, IsImage}
use Rattle.elf_reader.specs.Executable.{Executable}
use Rattle.seq_machine.specs.Parts.{start_of}
use Rattle.fitting.specs.Fails.{state_at, Fails, Meets}
use Rattle.profile_laws.specs.Profiles.{count_below, steps}
use Rattle.profile_laws.proofs.Steps.{steps_are_taken}
use Rattle.assumption_laws.specs.Looks.{look_at, fails_by, first_from, first_failing, span_fails}
use Rattle.assumption_laws.proofs.Tests.{looks_tell}
use Rattle.assumption_laws.proofs.Spans.{span_is_told}
use Rattle.assume_list.specs.declared.verdict.Verdict.{Verdict}
use Rattle.assume_list.specs.declared.verdict.Verdict.TheVariants as verdict
use Rattle.assume_list.specs.Passes.{is_span}
use Rattle.assume_list.specs.Verdicts.{IsLesser, IsVerdict}
use Rattle.report.specs.Verdict.{verdict_line, IsOfList}
use Rattle.answers.specs.declared.answer.Answer.{Answer}
use Rattle.answers.specs.declared.answer.Answer.TheVariants.{Done, Broken}
use Rattle.speculative_runs.specs.Told.{Reads, Puts, Got}
use Rattle.mssp_tool.specs.Check.{HasCheckFiles, verdict_answer, Judged, CheckCause, fails_at, is_met}

-- ---- what is put

-- a verdict tells only of assumptions that are listed
pub of_list : (start : State) (image : Distilled) (budget : ℕ) (v : Verdict) → IsVerdict start image budget v → IsOfList image.assumptions v
of_list start image budget (verdict.Met n) h = tt
of_list start image budget (verdict.Broken i k) h = slice_get_within image.assumptions k h.1.fails.0 h.1.fails.1

pub judged_put : (image : Distilled) (v : Verdict) (out : Puts) (a : Answer) → Got out (verdict_line image v) → a ≡ verdict_answer v → Judged image v out a
judged_put image v out a got e = subst (Judged image v out) (sym e) (judged_by v got)
  where
    judged_by : (x : Verdict) → Got out (verdict_line image x) → Judged image x out (verdict_answer x)
    judged_by (verdict.Met n) g = (g, refl)
    judged_by (verdict.Broken i k) g = (g, refl)

pub checked_cause : (w : WalkCommand) (store : Reads) (out : Puts) (program : Executable) (image : Distilled) (i : List ℕ) (v : Verdict) (a : Answer) → HasCheckFiles store.told w program image i
    → IsVerdict (start_of program i) image w.budget v → Judged image v out a → CheckCause store w out a
checked_cause w store out program image i v a (p, files, is) h j =
    inr (p, i, image, v, files, subst (λ (x : Executable). IsVerdict (start_of x i) image w.budget v) is h, j)

-- ---- the entries of a list that pass a test

some_is : {A : Type 0} (a b : A) → ◌≡◌ {A = Option A} (Some a) (Some b) → a ≡ b
some_is a b e = cc

found_first : (test : Premise → Bool) (n : ℕ) (xs : List Premise) → is_some (first_from test n xs) ≡ true → (j : ℕ) × (x : Premise) × (slice_get xs j ≡ Some x) × (test x ≡ true)
found_first test n [] e = absurd (true≢false (sym e))
found_first test n (y ∷ xs) e = found_if_first (test y) refl e (found_first test (suc n) xs)
  where
    found_if_first : (b : Bool) → test y ≡ b → is_some (cond b (Some n) (first_from test (suc n) xs)) ≡ true
        → (is_some (first_from test (suc n) xs) ≡ true → (j : ℕ) × (x : Premise) × (slice_get xs j ≡ Some x) × (test x ≡ true))
        → (j : ℕ) × (x : Premise) × (slice_get (y ∷ xs) j ≡ Some x) × (test x ≡ true)
    found_if_first true t e rest = (0, y, refl, t)
    found_if_first false t e rest = let r = rest e in (suc r.0, r.1, r.2, r.3)

has_first : (test : Premise → Bool) (n : ℕ) (xs : List Premise) (j : ℕ) (x : Premise) → slice_get xs j ≡ Some x → test x ≡ true → is_some (first_from test n xs) ≡ true
has_first test n [] j x at t = absurd (cc)
has_first test n (y ∷ xs) zero x at t = ap (λ b. is_some (cond b (Some n) (first_from test (suc n) xs))) (ap test (some_is y x at) ∙ t)
has_first test n (y ∷ xs) (suc j) x at t = has_if_first (test y) (has_first test (suc n) xs j x at t)
  where
    has_if_first : (b : Bool) → is_some (first_from test (suc n) xs) ≡ true → is_some (cond b (Some n) (first_from test (suc n) xs)) ≡ true
    has_if_first true h = refl
    has_if_first false h = h

span_only : (x : Premise) → is_span x ≡ true → x ≡ Span
span_only (Cut at taken) h = absurd (true≢false (sym h))
span_only (Targets at to) h = absurd (true≢false (sym h))
span_only (Dead at) h = absurd (true≢false (sym h))
span_only Code h = absurd (true≢false (sym h))
span_only Within h = absurd (true≢false (sym h))
span_only Span h = refl
span_only (Same at value) h = absurd (true≢false (sym h))

-- ---- how many numbers pass

none_counted : (test : ℕ → Bool) (n : ℕ) → ((i : ℕ) → i < n → test i ≡ false) → count_below test n ≡ 0
unfolding count_below
none_counted test zero h = refl
none_counted test (suc n) h =
    let before = none_counted test n (λ i l. h i (omega (arith, l))) in
    let here : ◌≡◌ {A = ℕ} (cond (test n) 1 0) 0 = ap (λ b. cond b 1 0) (h n (omega arith)) in
    omega (arith, before, here)

some_counted : (test : ℕ → Bool) (n i : ℕ) → i < n → test i ≡ true → 1 ≤ count_below test n
unfolding count_below
some_counted test zero i l e = absurd (omega (arith, l))
some_counted test (suc n) i l e = ⊎_elim
    (λ (same : i ≡ n). let here : ◌≡◌ {A = ℕ} (cond (test n) 1 0) 1 = ap (λ b. cond b 1 0) (ap test (sym same) ∙ e) in omega (arith, here))
    (λ (other : i ≡ n → ⊥). let before = some_counted test n i (omega (arith, l, other)) e in omega (arith, before))
    (cases_eq i n)

module _ (start : State) where
  -- ---- the positions of a run

  over_next : (k : ℕ) → is_over (state_at start k) ≡ true → is_over (state_at start (suc k)) ≡ true
  over_next k h =
      let s = state_at start k in
      ap (λ b. is_over (cond b s (cond (machine.stops s.arch) (call s) (record { arch = machine.move s.arch; env = printed s.env (machine.says s.arch) })))) h ∙ h

  over_later : (k d : ℕ) → is_over (state_at start k) ≡ true → is_over (state_at start (k + d)) ≡ true
  over_later k zero h = let e : k ≡ k + 0 = omega arith in subst (λ n. is_over (state_at start n) ≡ true) e h
  over_later k (suc d) h = let e : suc (k + d) ≡ k + suc d = omega arith in subst (λ n. is_over (state_at start n) ≡ true) e (over_next (k + d) (over_later k d h))

  -- where it goes on it went on before
  went_on : (i j : ℕ) → j ≤ i → is_over (state_at start i) ≡ false → is_over (state_at start j) ≡ false
  went_on i j l going = ⊎_elim
      (λ (over : is_over (state_at start j) ≡ true).
      let e : j + (i - j) ≡ i = omega (arith, l) in
      absurd (true≢false (sym (subst (λ n. is_over (state_at start n) ≡ true) e (over_later j (i - j) over)) ∙ going)))
      (λ (goes : is_over (state_at start j) ≡ false). goes)
      (cases_Bool (is_over (state_at start j)))

  all_steps : (budget n : ℕ) → IsLesser start budget n → steps start budget ≡ n
  all_steps budget n h =
      let taken = steps_are_taken in
      let low = taken.at_least start budget n h.within h.going in
      let most = taken.at_most start budget in ⊎_elim
      (λ (e : n ≡ budget). let r = most in omega (arith, low, r, e))
      (λ (over : is_over (state_at start n) ≡ true). let r = taken.ended start budget n h.within over in omega (arith, low, r))
      h.stops

  is_step : (budget i : ℕ) → i < budget → is_over (state_at start i) ≡ false → i < steps start budget
  is_step budget i l going =
      let taken = steps_are_taken in
      let r = taken.at_least start budget (suc i) (omega (arith, l)) (λ j k. went_on i j (omega (arith, k)) going) in
      omega (arith, r)

  module _ (image : Distilled) (valid : IsImage image) where
    -- ---- one position

    no_span : (i : ℕ) (x : Premise) → fails_by (look_at start image i) x ≡ true → x ≡ Span → ⊥
    no_span i x f is = absurd (true≢false (sym (ap (fails_by (look_at start image i)) (sym is) ∙ f)))

    by_look : (i k : ℕ) (x : Premise) → slice_get image.assumptions k ≡ Some x → (x ≡ Span → ⊥) → Fails start image x i → fails_at start image i ≡ true
    by_look i k x at kind f =
        or_left (is_some (first_failing start image i)) (is_some (first_from is_span 0 image.assumptions) && span_fails start image i)
        (has_first (fails_by (look_at start image i)) 0 image.assumptions k x at ((looks_tell start image i x kind).0 f))

    failing : (i k : ℕ) (x : Premise) → is_over (state_at start i) ≡ false → slice_get image.assumptions k ≡ Some x → Fails start image x i → fails_at start image i ≡ true
    failing i k (Cut at taken) going here f = by_look i k (Cut at taken) here (λ e. cc) f
    failing i k (Targets at to) going here f = by_look i k (Targets at to) here (λ e. cc) f
    failing i k (Dead at) going here f = by_look i k (Dead at) here (λ e. cc) f
    failing i k Code going here f = by_look i k Code here (λ e. cc) f
    failing i k Within going here f = by_look i k Within here (λ e. cc) f
    failing i k (Same at value) going here f = by_look i k (Same at value) here (λ e. cc) f
    failing i k Span going here f =
        or_right (is_some (first_failing start image i)) (is_some (first_from is_span 0 image.assumptions) && span_fails start image i)
        (and_from (is_some (first_from is_span 0 image.assumptions)) (span_fails start image i) (has_first is_span 0 image.assumptions k Span here refl) ((span_is_told start image valid i going).0 f))

    holding : (n i : ℕ) → i < n → is_over (state_at start i) ≡ false → Meets start image n → fails_at start image i ≡ false
    holding n i l going met = ⊎_elim
        (λ (fails : fails_at start image i ≡ true). absurd (⊎_elim
        (λ (e : is_some (first_failing start image i) ≡ true).
        let r = found_first (fails_by (look_at start image i)) 0 image.assumptions e in
        met i l going r.0 r.1 r.2 ((looks_tell start image i r.1 (no_span i r.1 r.3)).1 r.3))
        (λ (e : (is_some (first_from is_span 0 image.assumptions) && span_fails start image i) ≡ true).
        let parts = and_parts (is_some (first_from is_span 0 image.assumptions)) (span_fails start image i) e in
        let r = found_first is_span 0 image.assumptions parts.0 in
        met i l going r.0 Span (r.2 ∙ ap Some (span_only r.1 r.3)) ((span_is_told start image valid i going).1 parts.1))
        (or_cases (is_some (first_failing start image i)) (is_some (first_from is_span 0 image.assumptions) && span_fails start image i) fails)))
        (λ (holds : fails_at start image i ≡ false). holds)
        (cases_Bool (fails_at start image i))

    -- ---- all positions

    -- the test tells the verdict
    pub verdict_tested : (budget : ℕ) (v : Verdict) → IsVerdict start image budget v → cond (is_met start image (steps start budget)) Done Broken ≡ verdict_answer v
    verdict_tested budget (verdict.Met n) (lesser, met) =
        let all = all_steps budget n lesser in
        let none : count_below (fails_at start image) (steps start budget) ≡ 0 = ap (count_below (fails_at start image)) all ∙ none_counted (fails_at start image) n (λ i l. holding n i l (lesser.going i l) met) in
        ap (λ m. cond (nat_eq m 0) Done Broken) none
    verdict_tested budget (verdict.Broken i k) (below, broken) =
        let some = some_counted (fails_at start image) (steps start budget) i (is_step budget i below broken.going) (failing i k broken.fails.0 broken.going broken.fails.1 broken.fails.2) in
        let not_none : is_met start image (steps start budget) ≡ false = grind (arith, nat_tests, some) in
        ap (λ b. cond b Done Broken) not_none
