-- The targets of the assumptions that were read are no more than the format allows.
use Rattle.std.proofs.Common.{◌≡◌, ℕ, ◌+◌, ◌*◌, ◌^◌, ◌≤◌, ◌==◌, Bool, true, false, cond, not, ltb, List, length, Ok, Err, ap, subst, ◌∙◌, arith}
use Rattle.std.proofs.lemmas.Bool.{ltb-false}
use Rattle.dist_image.specs.declared.error.ImageErr.TheVariants.{Short, Kind, Range, Order, TooMany}
use Rattle.dist_image.specs.declared.error.Table.TheVariants as table
use Rattle.dist_image.specs.declared.entry.Head.{Head}
use Rattle.dist_image.specs.Image.{Premise, Cut, Targets, Dead, Code, Within, Span, Same, targets_of}
use Rattle.word_format.specs.Reading.{◌>>=◌, is_aligned}
use Rattle.dist_image.specs.Reading.{targets_err, has_form, admit_head, next_head, next_word, targets_in, premise_from, next_premise}
use Rattle.word_format.proofs.Numbers.{bind_ok, passed, not_false, ok_is}
use Rattle.word_format.proofs.Targets.{named_length}

-- the tests that an assumption has passed
pub record IsAdmitted (version due before left : ℕ) (h : Head) : Type 0 where
  pub form : has_form version h ≡ true
  pub aligned : is_aligned h.at ≡ true
  pub order : due ≤ 2 ^ 32 * h.kind + h.at
  pub few : before + h.targets ≤ 1_048_576
  pub there : 4 * h.targets ≤ left

pub admitted : (version i due before left : ℕ) (h g : Head) → admit_head version i due before left h ≡ Ok g → (h ≡ g) × IsAdmitted version due before left h
admitted version i due before left h g e =
    let there = cond (ltb left (4 * h.targets)) (Err Short) (Ok h) in
    let few = cond (ltb 1_048_576 (before + h.targets)) (Err (TooMany table.Targets)) there in
    let order = cond (ltb (2 ^ 32 * h.kind + h.at) due) (Err (Order table.Assumptions i)) few in
    let aligned = cond (not (is_aligned h.at)) (Err (Range table.Assumptions i)) order in
    let e0 = passed (not (has_form version h)) (Kind table.Assumptions i) aligned g e in
    let e1 = passed (not (is_aligned h.at)) (Range table.Assumptions i) order g e0.1 in
    let e2 = passed (ltb (2 ^ 32 * h.kind + h.at) due) (Order table.Assumptions i) few g e1.1 in
    let e3 = passed (ltb 1_048_576 (before + h.targets)) (TooMany table.Targets) there g e2.1 in
    let e4 = passed (ltb left (4 * h.targets)) Short (Ok h) g e3.1 in
    (ok_is h g e4.1, record { form = not_false _ e0.0; aligned = not_false _ e1.0; order = ltb-false _ _ e2.0; few = ltb-false _ _ e3.0; there = ltb-false _ _ e4.0 })

-- an assumption lists the targets that were read for it, or none
few_from : (a b c d e f : Bool) (at value : ℕ) (taken : Bool) (to : List ℕ) →
    length (targets_of (cond a (Cut at taken) (cond b (Targets at to) (cond c (Dead at) (cond d Code (cond e Within (cond f Span (Same at value)))))))) ≤ length to
few_from true b c d e f at value taken to = omega arith
few_from false true c d e f at value taken to = omega arith
few_from false false true d e f at value taken to = omega arith
few_from false false false true e f at value taken to = omega arith
few_from false false false false true f at value taken to = omega arith
few_from false false false false false true at value taken to = omega arith
few_from false false false false false false at value taken to = omega arith

-- with the targets of an assumption, no more are listed than may be
pub few_targets : (version i : ℕ) (seen : ℕ × ℕ) (bytes : List ℕ) (x : Premise × List ℕ) → next_premise version i seen bytes ≡ Ok x → seen.1 + length (targets_of x.0) ≤ 1_048_576
unfolding next_premise next_head
few_targets version i seen bytes x e =
    let h = bind_ok (next_head version i seen.0 seen.1 bytes) (λ h. targets_in i h.0.targets h.1 >>= λ to. Ok (premise_from h.0 to.0, to.1)) x e in
    let to = bind_ok (targets_in i h.0.0.targets h.0.1) (λ to. Ok (premise_from h.0.0 to.0, to.1)) x h.2 in
    let kind = bind_ok (next_word bytes) _ h.0 h.1 in
    let at = bind_ok (next_word kind.0.1) _ h.0 kind.2 in
    let value = bind_ok (next_word at.0.1) _ h.0 at.2 in
    let targets = bind_ok (next_word value.0.1) _ h.0 value.2 in
    let g = bind_ok (admit_head version i seen.0 seen.1 (length targets.0.1) (record { kind = kind.0.0; at = at.0.0; value = value.0.0; targets = targets.0.0 })) _ h.0 targets.2 in
    let ad = admitted version i seen.0 seen.1 (length targets.0.1) (record { kind = kind.0.0; at = at.0.0; value = value.0.0; targets = targets.0.0 }) g.0 g.1 in
    let same : g.0 ≡ h.0.0 = ap (λ (p : Head × List ℕ). p.0) (ok_is (g.0, targets.0.1) h.0 g.2) in
    let few : seen.1 + h.0.0.targets ≤ 1_048_576 = subst (λ (k : Head). seen.1 + k.targets ≤ 1_048_576) (ad.0 ∙ same) ad.1.few in
    let count : length to.0.0 ≡ h.0.0.targets = named_length (targets_err i) h.0.0.targets h.0.1 to.0 to.1 in
    let fewer = few_from (h.0.0.kind == 0) (h.0.0.kind == 1) (h.0.0.kind == 2) (h.0.0.kind == 3) (h.0.0.kind == 4) (h.0.0.kind == 5) h.0.0.at h.0.0.value (h.0.0.value == 1) to.0.0 in
    let is : premise_from h.0.0 to.0.0 ≡ x.0 = ap (λ (p : Premise × List ℕ). p.0) (ok_is (premise_from h.0.0 to.0.0, to.0.1) x to.2) in
    subst (λ (p : Premise). seen.1 + length (targets_of p) ≤ 1_048_576) is (omega (arith, few, count, fewer))
