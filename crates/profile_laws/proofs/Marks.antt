-- A byte is marked with the pc of the store that wrote it last.
use Rattle.std.proofs.Common.{◌≡◌, ℕ, zero, suc, ◌+◌, ◌<◌, Bool, true, false, cond, refl, sym, ap, ◌∙◌, subst, ⊎_elim, true≢false, arith}
use Rattle.rv_semantics.specs.Effect.{is_store}
use Rattle.std.proofs.lemmas.Bool.{eqb-true, eq-eqb, cases_eq}
use Rattle.cells.specs.declared.Cell.TheVariants.{Byte}
use Rattle.cells.specs.Run.{State}
use Rattle.rv_semantics.specs.Calls.{writes}
use Rattle.fitting.specs.Claims.{among}
use Rattle.fitting.specs.Fails.{state_at, pc_at, fetched_at, IsLatestWriter}
use Rattle.profile_laws.specs.Tally.{bytes_in, kept, visit_at}
use Rattle.profile_laws.proofs.Listed.{is_mark}
use Rattle.profile_laws.proofs.Kept.{writers_at}
use Rattle.profile_laws.proofs.Bytes.{writes_are_puts}

module _ (prints : ℕ → Bool) (start : State) where
  -- the latest writer of byte a before position k is a store at p
  pub record IsStored (k a p i : ℕ) : Type 0 where
    pub latest : IsLatestWriter start k a i
    pub there : pc_at start i ≡ p
    pub store : is_store (fetched_at start i) ≡ true

  abbrev puts_at : ℕ → ℕ → Bool
  puts_at k a = among (bytes_in (visit_at prints start k).puts) a

  wrote : (k a : ℕ) → writes (state_at start k) (Byte a) ≡ puts_at k a
  wrote k a = writes_are_puts (state_at start k) a

  plus : (n : ℕ) → n + 1 ≡ suc n
  plus n = omega arith

  pub mark_means : (k a p : ℕ) → is_mark (writers_at prints start k a) p ≡ true → (i : ℕ) × IsStored k a p i
  unfolding kept
  mark_means zero a p h = absurd (true≢false (sym h))
  mark_means (suc k) a p h = stored_if_put (puts_at k a) refl (is_store (fetched_at start k)) refl (mark_means k a p) h
    where
      stored_if_put : (b : Bool) → puts_at k a ≡ b → (c : Bool) → is_store (fetched_at start k) ≡ c
          → (is_mark (writers_at prints start k a) p ≡ true → (i : ℕ) × IsStored k a p i)
          → is_mark (cond b (cond c (pc_at start k + 1) 0) (writers_at prints start k a)) p ≡ true → (i : ℕ) × IsStored (suc k) a p i
      stored_if_put true e true s before h = (
        k,
        record {
          latest = record { before = omega arith; wrote = wrote k a ∙ e; last = λ j low high. absurd (omega arith) };
          there = eqb-true (pc_at start k) p (ap (λ w. is_mark w p) (sym (plus (pc_at start k))) ∙ h);
          store = s;
        },
      )
      stored_if_put true e false s before h = absurd (true≢false (sym h))
      stored_if_put false e c s before h =
          let w = before h in (
            w.0,
            record {
              latest = record { before = (let l = w.1.latest.before in omega arith); wrote = w.1.latest.wrote; last = λ j low high. later w.0 w.1.latest.last j low high };
              there = w.1.there;
              store = w.1.store;
            },
          )
        where
          later : (i : ℕ) → ((j : ℕ) → i < j → j < k → writes (state_at start j) (Byte a) ≡ false) → (j : ℕ) → i < j → j < suc k → writes (state_at start j) (Byte a) ≡ false
          later i last j low high = ⊎_elim
              (λ (e2 : j ≡ k). subst (λ n. writes (state_at start n) (Byte a) ≡ false) (sym e2) (wrote k a ∙ e))
              (λ (ne : j ≡ k → ⊥). last j low (omega arith))
              (cases_eq j k)

  pub mark_from : (k a p i : ℕ) → IsStored k a p i → is_mark (writers_at prints start k a) p ≡ true
  unfolding kept
  mark_from zero a p i h = absurd (let l = h.latest.before in omega arith)
  mark_from (suc k) a p i h = ⊎_elim here (λ ne. earlier ne (mark_from k a p i)) (cases_eq i k)
    where
      here : i ≡ k → is_mark (cond (puts_at k a) (cond (is_store (fetched_at start k)) (pc_at start k + 1) 0) (writers_at prints start k a)) p ≡ true
      here e =
          let put : puts_at k a ≡ true = sym (wrote k a) ∙ subst (λ n. writes (state_at start n) (Byte a) ≡ true) e h.latest.wrote in
          let store : is_store (fetched_at start k) ≡ true = subst (λ n. is_store (fetched_at start n) ≡ true) e h.store in
          let there : pc_at start k ≡ p = subst (λ n. pc_at start n ≡ p) e h.there in
          ap (λ b. is_mark (cond b (cond (is_store (fetched_at start k)) (pc_at start k + 1) 0) (writers_at prints start k a)) p) put
          ∙ ap (λ b. is_mark (cond b (pc_at start k + 1) 0) p) store
          ∙ ap (λ w. is_mark w p) (plus (pc_at start k))
          ∙ eq-eqb (pc_at start k) p there

      earlier : (i ≡ k → ⊥) → (IsStored k a p i → is_mark (writers_at prints start k a) p ≡ true)
          → is_mark (cond (puts_at k a) (cond (is_store (fetched_at start k)) (pc_at start k + 1) 0) (writers_at prints start k a)) p ≡ true
      earlier ne before =
          let l = h.latest.before in
          let low : i < k = omega arith in
          let put : puts_at k a ≡ false = sym (wrote k a) ∙ h.latest.last k low (omega arith) in
          ap (λ b. is_mark (cond b (cond (is_store (fetched_at start k)) (pc_at start k + 1) 0) (writers_at prints start k a)) p) put
          ∙ before (record {
            latest = record { before = low; wrote = h.latest.wrote; last = λ j after high. h.latest.last j after (omega arith) };
            there = h.there;
            store = h.store;
          })
