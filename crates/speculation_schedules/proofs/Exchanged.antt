-- Events in worlds that give way to one another: what stands after each.
use Rattle.std.proofs.Common.{◌≡◌, ℕ, ◌+◌, ◌-◌, ◌<◌, ◌≤◌, zero, suc, Bool, true, false, cond, [], ◌∷◌, sym, ap, ◌∙◌, subst, arith, inl, inr, ⊎_elim, ◌⊎◌, true≢false}
use Rattle.std.specs.Prelude.{nat_le}
use Rattle.std.proofs.lemmas.Bool.{or_cases, or_right, or_left, leb-true, le-leb, cases_lt}
use Rattle.cells.specs.Run.{is_over}
use Rattle.speculation.specs.declared.Effect.TheVariants.{Idle}
use Rattle.speculation.specs.declared.Event.{Event}
use Rattle.speculation.specs.declared.Mode.TheVariants.{Serial}
use Rattle.speculation.specs.World.{World}
use Rattle.speculation.specs.Engine.{Model, counted, going_on, happens}
use Rattle.speculation.specs.Kept.{Holds}
use Rattle.speculation.proofs.Keeps.{happens_keeps, fresh_holds, other_world}
use Rattle.speculation_laws.proofs.Answers.{run_rises}
use Rattle.speculation_schedules.specs.Schedule.{has_come}
use Rattle.speculation_schedules.specs.Exchanges.{after_each, AreExchanged}

-- an ended machine stays as it is
idle_over : (w : World) (m : Model) (e : Event) → is_over m.committed ≡ true → (happens w m e).1.committed ≡ m.committed
unfolding happens
idle_over w m e over = ap (λ (b : Bool). (counted e m.counts (cond b (Idle, m) (going_on w m e))).1.committed) over

module _ (w : ℕ → World) (event : ℕ → Event) (ok : AreExchanged w event) where
  holds_next : (k : ℕ) → Holds (w k) (after_each w event k) → Holds (w (suc k)) (after_each w event (suc k))
  unfolding after_each
  holds_next k h =
      let kept : Holds (w k) (after_each w event (suc k)) = happens_keeps (w k) (ok.known k) (after_each w event k) (event k) h in
      ⊎_elim
      (λ (e : w (suc k) ≡ w k). subst (λ (v : World). Holds v (after_each w event (suc k))) (sym e) kept)
      (λ (s : (debt : Bool) × ((after_each w event (suc k)).mode ≡ Serial debt)). other_world (w k) (w (suc k)) (ok.run k) (after_each w event (suc k)) kept s.0 s.1)
      (ok.serial k)

  pub holds : (k : ℕ) → Holds (w k) (after_each w event k)
  unfolding after_each
  holds zero = fresh_holds (w 0)
  holds (suc k) = holds_next k (holds k)

  pub rises : (k : ℕ) → (after_each w event k).position ≤ (after_each w event (suc k)).position
  unfolding after_each
  rises k = run_rises (w k) (ok.known k) (event k ∷ []) (after_each w event k) (holds k)

  come_next : (far k : ℕ) → has_come far (after_each w event k) ≡ true → has_come far (after_each w event (suc k)) ≡ true
  unfolding after_each
  come_next far k h = still_come (or_cases (is_over (after_each w event k).committed) (nat_le far (after_each w event k).position) h)
    where
      still_come : (is_over (after_each w event k).committed ≡ true) ⊎ (nat_le far (after_each w event k).position ≡ true) → has_come far (after_each w event (suc k)) ≡ true
      still_come (inl over) = or_left _ _ (ap is_over (idle_over (w k) (after_each w event k) (event k) over) ∙ over)
      still_come (inr there) = or_right _ _ (le-leb far (after_each w event (suc k)).position (omega (arith, leb-true far (after_each w event k).position there, rises k)))

  come_later : (far k d : ℕ) → has_come far (after_each w event k) ≡ true → has_come far (after_each w event (d + k)) ≡ true
  come_later far k zero h = let same : k ≡ 0 + k = omega arith in subst (λ (n : ℕ). has_come far (after_each w event n) ≡ true) same h
  come_later far k (suc d) h =
      let same : suc (d + k) ≡ suc d + k = omega arith in
      subst (λ (n : ℕ). has_come far (after_each w event n) ≡ true) same (come_next far (d + k) (come_later far k d h))

  -- what has not come far enough was given fewer events than what has
  pub before : (far j k : ℕ) → has_come far (after_each w event j) ≡ false → has_come far (after_each w event k) ≡ true → j < k
  before far j k not_yet there =
      elim (cases_lt j k) [
        | inl below ↦ below
        | inr above ↦ let same : (j - k) + k ≡ j = omega (arith, above) in
            absurd (true≢false (sym (come_later far k (j - k) there) ∙ ap (λ (n : ℕ). has_come far (after_each w event n)) same ∙ not_yet))
      ]
