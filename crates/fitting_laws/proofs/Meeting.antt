-- A run that meets the list of an image that fits has what the laws against squashes ask of it.
use Rattle.std.proofs.Common.{◌≡◌, ℕ, ◌+◌, ◌<◌, ◌≤◌, zero, suc, Bool, true, false, ◌&&◌, cond, List, [], ◌∷◌, Option, Some, None, refl, sym, ap, ◌∙◌, subst, arith, inl, inr, ⊎_elim, ◌⊎◌, true≢false, eqb-true, eq-eqb}
use Rattle.std.specs.Prelude.{nat_eq}
use Rattle.std.proofs.lemmas.Bool.{and_parts, or_left, eqb-false, not-false}
use Rattle.rv_word.specs.Meaning.{meaning}
use Rattle.cells.specs.declared.Cell.TheVariants.{Reg, Byte}
use Rattle.cells.specs.Cells.{value}
use Rattle.cells.specs.Run.{State, is_over}
use Rattle.squash_laws.specs.Fits as seen
use Rattle.rv_semantics.specs.Effect.{Effect, next, after, effect_at, is_store}
use Rattle.rv_semantics.specs.Prints.{is_call, asks, is_task_call, task_effect}
use Rattle.rv_semantics.proofs.Tasks.{is_call_is, own_effect, moves}
use Rattle.rv_semantics.specs.Machine.{word_at, is_next, pc_after, moved}
use Rattle.rv_semantics.specs.Calls.{writes}
use Rattle.dist_image.specs.Image.{Premise, Cut, Targets, Dead, Code, Within, Span, Same, Distilled, prints_at}
use Rattle.image_semantics.specs.World.{task_machine, count_of}
use Rattle.fitting.specs.Claims.{among, claims, leads, same_at}
use Rattle.fitting.specs.Fits.{Fits, IsListed, IsAimed, is_analysed}
use Rattle.fitting.specs.Fails.{state_at, arch_at, pc_at, fetched_at, program, Fails, Meets, IsLatestWriter, IsArrival, IsStop, IsSpanned, IsRegisterJump, arrivals_after, loads_as}
use Rattle.fitting_laws.specs.Setting.{holds_as, setting}
use Rattle.fitting_laws.proofs.Found.{at_note, cut_listed, targets_listed, dead_listed, same_listed}
use Rattle.fitting_laws.proofs.Goes.{goes_on}

module _ (start : State) (image : Distilled) (slaves : ℕ) (fits : Fits (program start) image) (n : ℕ) (meets : Meets start image n) where
  -- no listed assumption fails
  fails : (x : Premise) → IsListed image.assumptions x → (i : ℕ) → i < n → is_over (state_at start i) ≡ false → Fails start image x i → ⊥
  fails x listed i l going f = meets i l going listed.0 x listed.1 f

  code : (i : ℕ) → i < n → is_over (state_at start i) ≡ false → is_analysed image (pc_at start i) ≡ true → word_at (arch_at start i) ≡ program start (pc_at start i)
  code i l going has = word_of_program (nat_eq (word_at (arch_at start i)) (program start (pc_at start i))) refl
    where
      word_of_program : (b : Bool) → nat_eq (word_at (arch_at start i)) (program start (pc_at start i)) ≡ b → word_at (arch_at start i) ≡ program start (pc_at start i)
      word_of_program true e = eqb-true (word_at (arch_at start i)) (program start (pc_at start i)) e
      word_of_program false e = absurd (fails Code fits.listed.0 i l going (has, eqb-false (word_at (arch_at start i)) (program start (pc_at start i)) e))

  within : (i : ℕ) → i < n → is_over (state_at start i) ≡ false → is_analysed image (pc_at start i) ≡ true → (task_machine image).stops (arch_at start i) ≡ false → is_analysed image (pc_at start (suc i)) ≡ true
  within i l going has quiet = still_analysed (is_analysed image (pc_at start (suc i))) refl
    where
      still_analysed : (b : Bool) → is_analysed image (pc_at start (suc i)) ≡ b → b ≡ true
      still_analysed true e = refl
      still_analysed false e = absurd (fails Within fits.listed.1 i l going (has, quiet, e))

  -- where the run goes on
  abbrev prints : ℕ → Bool
  prints = prints_at image

  next_at : (i : ℕ) → is_over (state_at start i) ≡ false → (task_machine image).stops (arch_at start i) ≡ false
      → pc_at start (suc i) ≡ pc_after (pc_at start i) (task_effect prints (fetched_at start i) (pc_at start i) (value (arch_at start i))).flow
  unfolding moved
  next_at i going quiet = ap (λ (s : State). s.arch.pc) (moves prints (state_at start i) going quiet)

  follows : (i : ℕ) → i < n → is_over (state_at start i) ≡ false → is_analysed image (pc_at start i) ≡ true → (task_machine image).stops (arch_at start i) ≡ false
      → among (leads (claims image) (pc_at start i) (meaning (program start (pc_at start i)))) (pc_at start (suc i)) ≡ true
  follows i l going has quiet =
      ap (λ c. among (leads (claims image) (pc_at start i) (meaning c)) (pc_at start (suc i))) (sym (code i l going has))
      ∙ leads_if_asked (asks prints (fetched_at start i) (pc_at start i)) refl
    where
      -- a call that the task does leads to the next pc
      called : (b : Bool) → is_call (fetched_at start i) ≡ true → prints (pc_at start i) ≡ true
          → is_next (cond b (next (pc_at start i) ((Reg 10, value (arch_at start i) (Reg 12)) ∷ [])) (effect_at (fetched_at start i) (pc_at start i) (value (arch_at start i)))).flow ≡ true
          → among (leads (claims image) (pc_at start i) (fetched_at start i)) (pc_after (pc_at start i) (cond b (next (pc_at start i) ((Reg 10, value (arch_at start i) (Reg 12)) ∷ [])) (effect_at (fetched_at start i) (pc_at start i) (value (arch_at start i)))).flow) ≡ true
      called false call listed h = absurd (true≢false (sym h ∙ ap (λ j. is_next (effect_at j (pc_at start i) (value (arch_at start i))).flow) (is_call_is (fetched_at start i) call)))
      called true call listed h =
          ap (λ j. among (leads (claims image) (pc_at start i) j) (after (pc_at start i))) (is_call_is (fetched_at start i) call)
          ∙ ap (λ b. among (cond b (after (pc_at start i) ∷ []) []) (after (pc_at start i))) listed
          ∙ or_left (nat_eq (after (pc_at start i)) (after (pc_at start i))) false (eq-eqb (after (pc_at start i)) (after (pc_at start i)) refl)

      goes : is_next (task_effect prints (fetched_at start i) (pc_at start i) (value (arch_at start i))).flow ≡ true
      goes = not-false (is_next (task_effect prints (fetched_at start i) (pc_at start i) (value (arch_at start i))).flow) quiet

      aimed : (pc : ℕ) → is_analysed image pc ≡ true → IsAimed (claims image) pc (meaning (program start pc))
      aimed pc has = at_note image (λ pc. IsAimed (claims image) pc (meaning (program start pc))) (λ k x at own. fits.aimed k x at) pc has

      targeted : (to : List ℕ) → (claims image).targets (pc_at start i) ≡ Some to → IsRegisterJump (fetched_at start i) → (b : Bool) → among to (pc_at start (suc i)) ≡ b → b ≡ true
      targeted to e jumps true f = refl
      targeted to e jumps false f = absurd (fails (Targets (pc_at start i) to) (targets_listed image (pc_at start i) to e) i l going (refl, quiet, jumps, f))

      leads_if_asked : (b : Bool) → asks prints (fetched_at start i) (pc_at start i) ≡ b → among (leads (claims image) (pc_at start i) (fetched_at start i)) (pc_at start (suc i)) ≡ true
      leads_if_asked true e =
          let both = and_parts (prints (pc_at start i)) (is_call (fetched_at start i)) e in
          ap (among (leads (claims image) (pc_at start i) (fetched_at start i))) (next_at i going quiet)
          ∙ called (is_task_call prints (fetched_at start i) (pc_at start i) (value (arch_at start i))) both.1 both.0 goes
      leads_if_asked false e =
          let own = own_effect prints (fetched_at start i) (pc_at start i) (value (arch_at start i)) e in
          let at : pc_at start (suc i) ≡ pc_after (pc_at start i) (effect_at (fetched_at start i) (pc_at start i) (value (arch_at start i))).flow =
          next_at i going quiet ∙ ap (λ (f : Effect). pc_after (pc_at start i) f.flow) own in
          ap (among (leads (claims image) (pc_at start i) (fetched_at start i))) at
          ∙ goes_on (claims image) (arch_at start i) (fetched_at start i)
          (sym (ap (λ (f : Effect). is_next f.flow) own) ∙ goes)
          (λ taken e went. fails (Cut (pc_at start i) taken) (cut_listed image (pc_at start i) taken e) i l going (refl, quiet, went))
          (λ to e jumps. sym (ap (among to) at) ∙ targeted to e jumps (among to (pc_at start (suc i))) refl)
          (subst (λ c. IsAimed (claims image) (pc_at start i) (meaning c)) (sym (code i l going has)) (aimed (pc_at start i) has))

  -- a stale byte has a latest writer, a store that the list calls dead
  Wrote : ℕ → ℕ → Type 0
  Wrote i a = (k : ℕ) × IsLatestWriter start i a k × (((claims image).dead (pc_at start k) && is_store (fetched_at start k)) ≡ true)

  stale_from : (i a : ℕ) → seen.stale (setting start image slaves n) i a ≡ true → Wrote i a
  unfolding Wrote
  stale_from zero a e = absurd (true≢false (sym e))
  stale_from (suc i) a e = wrote_if_writes (writes (state_at start i) (Byte a)) refl (stale_from i a) e
    where
      below : (h i : ℕ) → h < suc i → (h ≡ i) ⊎ (h < i)
      below h i l = grind arith

      wrote_if_writes : (b : Bool) → writes (state_at start i) (Byte a) ≡ b → (seen.stale (setting start image slaves n) i a ≡ true → Wrote i a)
          → cond b ((claims image).dead (pc_at start i) && is_store (fetched_at start i)) (seen.stale (setting start image slaves n) i a) ≡ true → Wrote (suc i) a
      wrote_if_writes true f rest e = (i, record { before = omega arith; wrote = f; last = λ h u v. absurd (omega (arith, u, v)) }, e)
      wrote_if_writes false f rest e =
          let r = rest e in (
            r.0,
            record {
              before = let b = r.1.before in omega (arith, b);
              wrote = r.1.wrote;
              last = λ h u v. ⊎_elim (λ (s : h ≡ i). ap (λ k. writes (state_at start k) (Byte a)) s ∙ f) (λ (s : h < i). r.1.last h u s) (below h i v);
            },
            r.2,
          )

  fresh : (i a : ℕ) → i < n → is_over (state_at start i) ≡ false → (task_machine image).reads (arch_at start i) (Byte a) ≡ true → seen.stale (setting start image slaves n) i a ≡ false
  unfolding Wrote
  fresh i a l going reads = not_stale (seen.stale (setting start image slaves n) i a) refl
    where
      not_stale : (b : Bool) → seen.stale (setting start image slaves n) i a ≡ b → b ≡ false
      not_stale false e = refl
      not_stale true e =
          let r = stale_from i a e in
          let parts = and_parts ((claims image).dead (pc_at start r.0)) (is_store (fetched_at start r.0)) r.2 in
          absurd (fails (Dead (pc_at start r.0)) (dead_listed image (pc_at start r.0) parts.0) i l going (a, r.0, reads, r.1, refl, parts.1))

  span : (i c : ℕ) → i < n → is_over (state_at start i) ≡ false → count_of image (pc_at start i) ≡ Some c
      → (((t : ℕ) × (t ≤ image.limit) × (c ≤ arrivals_after start image i t)) ⊎ ((t : ℕ) × (t < image.limit) × ((task_machine image).stops (arch_at start (i + t)) ≡ true)) → ⊥) → ⊥
  span i c l going anchor neither =
      fails Span fits.listed.2 i l going (
        c,
        anchor,
        λ (either : IsSpanned start image i c).
            neither (⊎_elim
            (λ (y : (t : ℕ) × IsArrival start image i c t). inl (y.0, y.1.near, let number = y.1.number in omega (arith, number)))
            (λ (y : (t : ℕ) × IsStop start image i t). inr (y.0, y.1.near, y.1.stops))
            either),
      )

  holds : (i : ℕ) → i < n → is_over (state_at start i) ≡ false → holds_as (same_at image (pc_at start i)) (fetched_at start i) (arch_at start i) ≡ true
  holds i l going = holds_if_claimed (same_at image (pc_at start i)) refl
    where
      loads : (v : ℕ) → same_at image (pc_at start i) ≡ Some v → (b : Bool) → loads_as v (fetched_at start i) (arch_at start i) ≡ b → b ≡ true
      loads v e true f = refl
      loads v e false f = absurd (fails (Same (pc_at start i) v) (same_listed image (pc_at start i) v e) i l going (refl, f))

      holds_if_claimed : (o : Option ℕ) → same_at image (pc_at start i) ≡ o → holds_as o (fetched_at start i) (arch_at start i) ≡ true
      holds_if_claimed None e = refl
      holds_if_claimed (Some v) e = loads v e (loads_as v (fetched_at start i) (arch_at start i)) refl

  pub meets_shown : seen.Meets (setting start image slaves n)
  meets_shown = record { code = code; within = within; follows = follows; fresh = fresh; holds = holds; span = span }
