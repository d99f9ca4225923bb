-- From one position of a run to the next.
use Rattle.std.proofs.Common.{◌≡◌, ℕ, suc, ◌+◌, ◌-◌, ◌<◌, ◌≤◌, ◌^◌, Bool, true, false, All, not, ◌⊎◌, ⊎_elim, sym, ap, ◌∙◌, subst, arith}
use Rattle.std.proofs.lemmas.Bool.{cases_eq}
use Rattle.cells.specs.Cells.{IsPc}
use Rattle.cells.specs.Bytes.{number}
use Rattle.cells.specs.Run.{State, is_over}
use Rattle.rv_semantics.specs.Calls.{step}
use Rattle.memory.specs.declared.Memory.{Ghosts}
use Rattle.seq_machine.specs.declared.machine.Machine.{Machine}
use Rattle.seq_machine.specs.States.{state_of}
use Rattle.fitting.specs.Fails.{state_at, pc_at, fetched_at, arch_at}
use Rattle.profile_laws.specs.Profiles.{steps, pcs, is_at, is_counted, IsWide}
use Rattle.profile_laws.specs.Tally.{Kept, visit, kept, nothing_kept, after_visit}
use Rattle.profile_laws.proofs.Kept.{row, rows_map}
use Rattle.profile_laws.proofs.Found.{count_at_most}
use Rattle.profile_laws.proofs.Fields.{executed_is, taken_is, targets_rise}
use Rattle.profile_laws.proofs.Valid.{count_both, wide_stays}
use Rattle.profile_laws.proofs.Law.{each_row}
use Rattle.profile_laws.proofs.Steps.{at_least, ended}
use Rattle.profiler.specs.declared.tally.Tally.{Tally as CodeTally}
use Rattle.profiler.specs.Rows.{HasRoom}
use Rattle.profiler.specs.Tally.{kept_of, IsTally}
use Rattle.profiler.specs.Counted.{IsCounted}

has_room : (prints : ℕ → Bool) (start : State) (k : ℕ) → k < 2 ^ 64 - 1 → All HasRoom (kept prints start k).rows
has_room prints start k small = subst (All HasRoom) (sym (rows_map prints start k)) (each_row HasRoom (row prints start k) (pcs start k) (λ p there. each p))
  where
    each : (p : ℕ) → HasRoom (row prints start k p)
    each p =
        let a = executed_is prints start p k in
        let b = taken_is prints start p k in
        let c = count_at_most (λ i. is_at start p i) k in
        let d = count_both (λ i. is_at start p i) (λ i. is_counted prints (fetched_at start i) (arch_at start i)) k in
        record { executed = omega arith; taken = omega arith; targets_rise = targets_rise prints start p k }

module _ {M : Type 0} {d : Ghosts M} (at : M → ℕ → ℕ) (prints : ℕ → Bool) (start : State) where
  pub counted_at_start : (m : Machine M d) (t : CodeTally M) → state_of at m ≡ start → m.position ≡ 0 → kept_of at t ≡ nothing_kept → IsTally at t → IsPc m.arch.pc → IsCounted at prints start 0 m t
  unfolding kept
  counted_at_start m t is begins none tallied pc = record {
    position = begins;
    state = is;
    rows = none;
    tallied = tallied;
    going = λ i lt. absurd (omega arith);
    pcs = λ i le. subst (λ n. IsPc (pc_at start n)) (let e : 0 ≡ i = omega arith in e) (subst IsPc (ap (λ (s : State). s.arch.pc) is) pc);
  }

  module _ (k : ℕ) (m : Machine M d) (t : CodeTally M) (counted : IsCounted at prints start k m t) (program : ℕ → ℕ) (words : program ≡ start.arch.mem) where
    pub room : k < 2 ^ 64 - 1 → All HasRoom (kept_of at t).rows
    room small = subst (All HasRoom) (sym (ap (λ (x : Kept). x.rows) counted.rows)) (has_room prints start k small)

    -- what is kept after the step
    abbrev pub next_kept : State → Kept → Kept
    next_kept s x = after_visit (visit prints (number 4 s.arch.pc program) s (step s).arch.pc) x

    pub kept_next : next_kept (state_of at m) (kept_of at t) ≡ kept prints start (suc k)
    unfolding kept
    kept_next =
        ap (λ s. next_kept s (kept_of at t)) counted.state
        ∙ ap (next_kept (state_at start k)) counted.rows
        ∙ ap (λ f. after_visit (visit prints (number 4 (pc_at start k) f) (state_at start k) (pc_at start (suc k))) (kept prints start k)) words

    over_is : is_over (state_of at m) ≡ is_over (state_at start k)
    over_is = ap is_over counted.state

    going_on : is_over (state_of at m) ≡ false → (i : ℕ) → i < suc k → is_over (state_at start i) ≡ false
    going_on going i lt = ⊎_elim
        (λ (e : i ≡ k). subst (λ n. is_over (state_at start n) ≡ false) (sym e) (sym over_is ∙ going))
        (λ (ne : i ≡ k → ⊥). counted.going i (omega arith))
        (cases_eq i k)

    pub counted_next : (n : Machine M d) (u : CodeTally M) → is_over (state_of at m) ≡ false → state_of at n ≡ step (state_of at m) → n.position ≡ m.position + 1
        → kept_of at u ≡ next_kept (state_of at m) (kept_of at t) → IsTally at u → IsPc n.arch.pc → IsCounted at prints start n.position n u
    counted_next n u going is position rows tallied pc =
        let was = counted.position in
        let next : suc k ≡ n.position = omega arith in
        let state : state_of at n ≡ state_at start (suc k) = is ∙ ap step counted.state in
        let here : IsPc (pc_at start (suc k)) = subst IsPc (ap (λ (s : State). s.arch.pc) state) pc in
        subst (λ j. IsCounted at prints start j n u) next (record {
          position = sym next;
          state = state;
          rows = rows ∙ kept_next;
          tallied = tallied;
          going = going_on going;
          pcs = λ i le. ⊎_elim
              (λ (e : i ≡ suc k). subst (λ j. IsPc (pc_at start j)) (sym e) here)
              (λ (ne : i ≡ suc k → ⊥). counted.pcs i (omega arith))
              (cases_eq i (suc k));
        })

    -- nothing has changed
    pub counted_stays : (n : Machine M d) (u : CodeTally M) → state_of at n ≡ state_of at m → n.position ≡ m.position → kept_of at u ≡ kept_of at t → IsTally at u → IsCounted at prints start n.position n u
    counted_stays n u is position rows tallied =
        let same : k ≡ n.position = sym (position ∙ counted.position) in
        subst (λ j. IsCounted at prints start j n u) same (record {
          position = sym same;
          state = is ∙ counted.state;
          rows = rows ∙ counted.rows;
          tallied = tallied;
          going = counted.going;
          pcs = counted.pcs;
        })

    -- too wide after the step, so too wide at the end
    pub wide_at_end : (budget : ℕ) → k < budget → is_over (state_of at m) ≡ false
        → IsWide (kept prints start (k + 1)).rows → IsWide (kept prints start (steps start budget)).rows
    wide_at_end budget lt going wide =
        wide_stays prints start (suc k) (steps start budget) (at_least start budget (suc k) (omega arith) (going_on going)) (subst (λ j. IsWide (kept prints start j).rows) (let e : k + 1 ≡ suc k = omega arith in e) wide)

    -- the run stops here
    pub counted_all : (budget : ℕ) → k ≤ budget → ((budget ≤ k) ⊎ (is_over (state_of at m) ≡ true)) → IsCounted at prints start (steps start budget) m t
    counted_all budget le stop =
        let low = at_least start budget k le counted.going in
        let high = count_at_most (λ i. not (is_over (state_at start i))) budget in
        let most : steps start budget ≤ k = ⊎_elim (λ (h : budget ≤ k). omega arith) (λ (h : is_over (state_of at m) ≡ true). ended start budget k le (sym over_is ∙ h)) stop in
        subst (λ j. IsCounted at prints start j m t) (let e : k ≡ steps start budget = omega arith in e) counted
