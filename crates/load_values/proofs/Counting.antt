-- From one position of a run to the next.
use Rattle.std.proofs.Common.{◌≡◌, ℕ, suc, ◌+◌, ◌<◌, ◌≤◌, Bool, true, false, not, cond, OnOk, Result, Ok, Err, None, ◌⊎◌, ⊎_elim, refl, sym, ap, ◌∙◌, subst, arith}
use Rattle.std.specs.Prelude.{nat_eq}
use Rattle.std.specs.Ordering.{nat_cmp}
use Rattle.std.specs.BTreeMap.{get}
use Rattle.std.proofs.lemmas.Bool.{eqb-true, eqb-false, cases_eq}
use Rattle.cells.specs.Cells.{IsPc}
use Rattle.cells.specs.Bytes.{word_of}
use Rattle.cells.specs.Run.{State, is_over}
use Rattle.rv_semantics.specs.Calls.{step}
use Rattle.memory.specs.declared.Memory.{Ghosts}
use Rattle.seq_machine.specs.declared.machine.Machine.{Machine}
use Rattle.seq_machine.specs.States.{state_of, arch_at as arch_in}
use Rattle.fitting.specs.Fails.{state_at, pc_at, arch_at}
use Rattle.profile_laws.specs.Profiles.{steps}
use Rattle.profile_laws.proofs.Found.{count_at_most}
use Rattle.profile_laws.proofs.Steps.{at_least, ended}
use Rattle.load_values.specs.declared.loads.Loads.{Loads}
use Rattle.load_values.specs.declared.sight.Sight.{Sight}
use Rattle.load_values.specs.Found.{loading, IsWide}
use Rattle.load_values.specs.Sights.{sight_of, sight_at, known_after, known_at, newly}
use Rattle.load_values.specs.Counted.{AreFew, IsCounted}
use Rattle.load_values.proofs.Loading.{loading_next, wide_stays}

pub on_any : {T E : Type 0} {P : Type 0} (r : Result T E) → P → OnOk r P
on_any (Ok x) p = p
on_any (Err e) p = tt

module _ {M : Type 0} {d : Ghosts M} (at : M → ℕ → ℕ) (start : State) where
  pub counted_at_start : (m : Machine M d) (l : Loads) → state_of at m ≡ start → m.position ≡ 0 → ((q : ℕ) → get nat_cmp l.found q ≡ None) → l.count ≡ 0 → AreFew l → IsPc m.arch.pc → IsCounted at start 0 m l
  unfolding known_at loading
  counted_at_start m l is begins none empty few pc = record {
    position = begins;
    state = is;
    found = none;
    count = empty;
    few = few;
    going = λ i lt. absurd (omega arith);
    pcs = λ i le. subst (λ n. IsPc (pc_at start n)) (let e : 0 ≡ i = omega arith in e) (subst IsPc (ap (λ (s : State). s.arch.pc) is) pc);
  }

  module _ (k : ℕ) (m : Machine M d) (l : Loads) (counted : IsCounted at start k m l) (program : ℕ → ℕ) (words : program ≡ start.arch.mem) where
    -- what the position tells
    abbrev told : Sight
    told = sight_of (word_of (at m.arch.mem) m.arch.pc) (word_of program m.arch.pc) (arch_in at m.arch)

    told_is : told ≡ sight_at start k
    told_is =
        ap (λ (s : State). sight_of (word_of s.arch.mem s.arch.pc) (word_of program s.arch.pc) s.arch) counted.state
        ∙ ap (λ (f : ℕ → ℕ). sight_of (word_of (arch_at start k).mem (pc_at start k)) (word_of f (pc_at start k)) (arch_at start k)) words

    pc_is : m.arch.pc ≡ pc_at start k
    pc_is = ap (λ (s : State). s.arch.pc) counted.state

    known_is : get nat_cmp l.found m.arch.pc ≡ known_at start (pc_at start k) k
    known_is = counted.found m.arch.pc ∙ ap (λ (q : ℕ). known_at start q k) pc_is

    newly_is : newly told (get nat_cmp l.found m.arch.pc) ≡ newly (sight_at start k) (known_at start (pc_at start k) k)
    newly_is = ap (λ (s : Sight). newly s (get nat_cmp l.found m.arch.pc)) told_is ∙ ap (newly (sight_at start k)) known_is

    over_is : is_over (state_of at m) ≡ is_over (state_at start k)
    over_is = ap is_over counted.state

    going_on : is_over (state_of at m) ≡ false → (i : ℕ) → i < suc k → is_over (state_at start i) ≡ false
    going_on going i lt = ⊎_elim
        (λ (e : i ≡ k). subst (λ n. is_over (state_at start n) ≡ false) (sym e) (sym over_is ∙ going))
        (λ (ne : i ≡ k → ⊥). counted.going i (omega arith))
        (cases_eq i k)

    found_next : (u : Loads) → get nat_cmp u.found m.arch.pc ≡ known_after told (get nat_cmp l.found m.arch.pc) → ((q : ℕ) → (q ≡ m.arch.pc → ⊥) → get nat_cmp u.found q ≡ get nat_cmp l.found q)
        → (q : ℕ) → get nat_cmp u.found q ≡ known_at start q (suc k)
    unfolding known_at
    found_next u here elsewhere q = if_same_pc (nat_eq (pc_at start k) q) refl
      where
        if_same_pc : (b : Bool) → nat_eq (pc_at start k) q ≡ b → get nat_cmp u.found q ≡ cond b (known_after (sight_at start k) (known_at start q k)) (known_at start q k)
        if_same_pc true e =
            let same : m.arch.pc ≡ q = pc_is ∙ eqb-true (pc_at start k) q e in
            ap (get nat_cmp u.found) (sym same) ∙ here ∙ ap (λ (s : Sight). known_after s (get nat_cmp l.found m.arch.pc)) told_is
            ∙ ap (known_after (sight_at start k)) (counted.found m.arch.pc ∙ ap (λ (x : ℕ). known_at start x k) same)
        if_same_pc false e = elsewhere q (λ h. eqb-false (pc_at start k) q e (sym (h ∙ pc_is))) ∙ counted.found q

    pub counted_next : (n : Machine M d) (u : Loads) → is_over (state_of at m) ≡ false → state_of at n ≡ step (state_of at m) → n.position ≡ m.position + 1
        → get nat_cmp u.found m.arch.pc ≡ known_after told (get nat_cmp l.found m.arch.pc) → ((q : ℕ) → (q ≡ m.arch.pc → ⊥) → get nat_cmp u.found q ≡ get nat_cmp l.found q)
        → u.count ≡ l.count + newly told (get nat_cmp l.found m.arch.pc) → AreFew u → IsPc n.arch.pc → IsCounted at start n.position n u
    counted_next n u going is position here elsewhere count few pc =
        let was = counted.position in
        let next : suc k ≡ n.position = omega arith in
        let state : state_of at n ≡ state_at start (suc k) = is ∙ ap step counted.state in
        let now : IsPc (pc_at start (suc k)) = subst IsPc (ap (λ (s : State). s.arch.pc) state) pc in
        let before = counted.count in
        let more = newly_is in
        let longer = loading_next start k in
        subst (λ j. IsCounted at start j n u) next (record {
          position = sym next;
          state = state;
          found = found_next u here elsewhere;
          count = omega (arith, before, more, longer, count);
          few = few;
          going = going_on going;
          pcs = λ i le. ⊎_elim
              (λ (e : i ≡ suc k). subst (λ j. IsPc (pc_at start j)) (sym e) now)
              (λ (ne : i ≡ suc k → ⊥). counted.pcs i (omega arith))
              (cases_eq i (suc k));
        })

    -- too wide after the step, so too wide at the end
    pub wide_at_end : (budget : ℕ) → k < budget → is_over (state_of at m) ≡ false → 524_288 < l.count + newly told (get nat_cmp l.found m.arch.pc) → IsWide start (steps start budget)
    wide_at_end budget lt going wide =
        let before = counted.count in
        let more = newly_is in
        let longer = loading_next start k in
        wide_stays start (suc k) (steps start budget) (at_least start budget (suc k) (omega arith) (going_on going)) (omega (arith, before, more, longer, wide))

    -- the run stops here
    pub counted_all : (budget : ℕ) → k ≤ budget → ((budget ≤ k) ⊎ (is_over (state_of at m) ≡ true)) → IsCounted at start (steps start budget) m l
    counted_all budget le stop =
        let low = at_least start budget k le counted.going in
        let high = count_at_most (λ i. not (is_over (state_at start i))) budget in
        let most : steps start budget ≤ k = ⊎_elim (λ (h : budget ≤ k). omega arith) (λ (h : is_over (state_of at m) ≡ true). ended start budget k le (sym over_is ∙ h)) stop in
        subst (λ j. IsCounted at start j m l) (let e : k ≡ steps start budget = omega arith in e) counted
