-- An assumption that is read is the assumption that was written, and what was written is read again.
use Rattle.std.proofs.Common.{◌≡◌, ℕ, zero, suc, ◌+◌, ◌*◌, ◌%◌, ◌^◌, ◌<◌, ◌≤◌, ◌==◌, Bool, true, false, cond, not, ◌&&◌, ltb, leb, List, [], ◌∷◌, ◌++◌, length, All, Result, Ok, refl, sym, ap, subst, ◌∙◌, arith}
use Rattle.cells.specs.Cells.{IsPc}
use Rattle.std.specs.List.Sorted.{IsStrictlyIncreasing}
use Rattle.std.proofs.lemmas.Bool.{eqb-true, eq-eqb, le-ltb}
use Rattle.std.proofs.lemmas.Bool.Decides.{nat_tests}
use Rattle.std.proofs.lemmas.List.{nil_from_length, length-append}
use Rattle.dist_image.specs.declared.error.ImageErr.{ImageErr}
use Rattle.dist_image.specs.declared.entry.Head.{Head}
use Rattle.dist_image.specs.Image.{Premise, Cut, Targets, Dead, Code, Within, Span, Same, kind_of, place_of, loads_of, targets_of, key_of, IsPremise, IsKnownAtFirst}
use Rattle.word_format.specs.Bytes.{words}
use Rattle.dist_image.specs.Bytes.{value_of, premise_words}
use Rattle.word_format.specs.Reading.{◌>>=◌, is_aligned}
use Rattle.dist_image.specs.Reading.{targets_err, next_word, targets_in, has_form, admit_head, next_head, premise_from, next_premise}
use Rattle.word_format.proofs.Numbers.{IsBytes, bind_ok, both, ok_is, Takes, Takes-then}
use Rattle.dist_image.proofs.Entries.{four_take, step4}
use Rattle.dist_image.proofs.Counted.{IsAdmitted, admitted}
use Rattle.word_format.proofs.Sizes.{length-words}
use Rattle.word_format.proofs.Targets.{Rise, named_take, named_again}

-- ---- the four numbers

-- an assumption that a version knows
abbrev pub IsKnown : ℕ → Premise → Type 0
IsKnown version p = version ≡ 1 → IsKnownAtFirst p

-- an assumption is what its numbers and targets say
pub record IsOf (version : ℕ) (h : Head) (to : List ℕ) (p : Premise) : Type 0 where
  pub kind : kind_of p ≡ h.kind
  pub place : place_of p ≡ h.at
  pub value : value_of p ≡ h.value
  pub targets : targets_of p ≡ to
  pub known : IsKnown version p

abbrev head : ℕ → ℕ → ℕ → ℕ → Head
head kind at value targets = record { kind = kind; at = at; value = value; targets = targets }

cut_value : (v k : ℕ) → (leb v 1 && k == 0) ≡ true → (cond (v == 1) 1 0 ≡ v) × (k ≡ 0)
cut_value zero k e = (refl, eqb-true _ _ e)
cut_value (suc zero) k e = (refl, eqb-true _ _ e)
cut_value (suc (suc v)) k e = absurd (grind (arith, nat_tests))

zeros : (a b : ℕ) → (a == 0 && b == 0) ≡ true → (0 ≡ a) × (b ≡ 0)
zeros a b e = (grind (arith, nat_tests), grind (arith, nat_tests))

all_zeros : (a b c : ℕ) → (true && a == 0 && b == 0 && c == 0) ≡ true → (0 ≡ a) × (0 ≡ b) × (c ≡ 0)
all_zeros a b c e = (grind (arith, nat_tests), grind (arith, nat_tests), grind (arith, nat_tests))

not_first : (version : ℕ) → not (version == 1) ≡ true → version ≡ 1 → ⊥
not_first version e one = let first : version == 1 ≡ true = eq-eqb _ _ one in absurd (grind (arith, first, e))

of_head : (version kind at value targets : ℕ) (to : List ℕ) → kind ≤ 6 → has_form version (head kind at value targets) ≡ true → length to ≡ targets → IsOf version (head kind at value targets) to (premise_from (head kind at value targets) to)
of_head version zero at value targets to small form count =
    let f = cut_value value targets form in
    record { kind = refl; place = refl; value = f.0; targets = sym (nil_from_length to (count ∙ f.1)); known = λ _. tt }
of_head version (suc zero) at value targets to small form count = record { kind = refl; place = refl; value = sym (eqb-true _ _ form); targets = refl; known = λ _. tt }
of_head version (suc (suc zero)) at value targets to small form count =
    let f = zeros value targets form in
    record { kind = refl; place = refl; value = f.0; targets = sym (nil_from_length to (count ∙ f.1)); known = λ _. tt }
of_head version (suc (suc (suc zero))) at value targets to small form count =
    let f = all_zeros at value targets form in
    record { kind = refl; place = f.0; value = f.1; targets = sym (nil_from_length to (count ∙ f.2)); known = λ _. tt }
of_head version (suc (suc (suc (suc zero)))) at value targets to small form count =
    let f = all_zeros at value targets form in
    record { kind = refl; place = f.0; value = f.1; targets = sym (nil_from_length to (count ∙ f.2)); known = λ _. tt }
of_head version (suc (suc (suc (suc (suc zero))))) at value targets to small form count =
    let f = all_zeros at value targets form in
    record { kind = refl; place = f.0; value = f.1; targets = sym (nil_from_length to (count ∙ f.2)); known = λ _. tt }
of_head version (suc (suc (suc (suc (suc (suc zero)))))) at value targets to small form count =
    let f = both (not (version == 1)) (targets == 0) form in
    record { kind = refl; place = refl; value = refl; targets = sym (nil_from_length to (count ∙ eqb-true _ _ f.1)); known = not_first version f.0 }
of_head version (suc (suc (suc (suc (suc (suc (suc kind))))))) at value targets to small form count = absurd (omega arith)

small_kind : (version : ℕ) (h : Head) → has_form version h ≡ true → h.kind ≤ 6
small_kind version h form = grind (arith, nat_tests)

-- ---- an assumption

-- beside the key that is due and the number of targets so far
pub record FitsPremise (version : ℕ) (seen : ℕ × ℕ) (p : Premise) : Type 0 where
  pub order : seen.0 ≤ key_of p
  pub fits : IsPremise p
  pub known : IsKnown version p
  pub few : seen.1 + length (targets_of p) ≤ 1_048_576

-- the value of a load is the third number
loads_small : (p : Premise) → loads_of p ≤ value_of p
loads_small (Cut at taken) = omega arith
loads_small (Targets at to) = omega arith
loads_small (Dead at) = omega arith
loads_small Code = omega arith
loads_small Within = omega arith
loads_small Span = omega arith
loads_small (Same at value) = omega arith

of_all : (version due before left : ℕ) (h : Head) (to : List ℕ) (p : Premise) → IsAdmitted version due before left h → h.at < 2 ^ 32 → h.value < 2 ^ 32 → length to ≡ h.targets → Rise to → IsOf version h to p →
    (premise_words p ≡ h.kind ∷ h.at ∷ h.value ∷ h.targets ∷ to) × FitsPremise version (due, before) p
of_all version due before left h to p ad wide wide_value count fit is =
    let many : length (targets_of p) ≡ h.targets = ap length is.targets ∙ count in
    let key : key_of p ≡ 2 ^ 32 * h.kind + h.at = omega (arith, is.kind, is.place) in (
      cc (is.kind, is.place, is.value, many, is.targets),
      record {
        order = omega (arith, key, ad.order);
        fits = ((subst (λ (n : ℕ). n % 4 ≡ 0) (sym is.place) (eqb-true _ _ ad.aligned), omega (arith, is.place)), omega (arith, loads_small p, is.value), subst (All IsPc) (sym is.targets) fit.0, subst IsStrictlyIncreasing (sym is.targets) fit.1);
        known = is.known;
        few = omega (arith, many, ad.few);
      },
    )

pub premise_takes : (version i : ℕ) (seen : ℕ × ℕ) (bytes : List ℕ) (x : Premise × List ℕ) → IsBytes bytes → next_premise version i seen bytes ≡ Ok x → Takes bytes (words (premise_words x.0)) x.1 × FitsPremise version seen x.0
unfolding next_premise next_head
premise_takes version i seen bytes x fits e =
    let h = bind_ok (next_head version i seen.0 seen.1 bytes) (λ h. targets_in i h.0.targets h.1 >>= λ to. Ok (premise_from h.0 to.0, to.1)) x e in
    let to = bind_ok (targets_in i h.0.0.targets h.0.1) (λ to. Ok (premise_from h.0.0 to.0, to.1)) x h.2 in
    let kind = bind_ok (next_word bytes) _ h.0 h.1 in
    let at = bind_ok (next_word kind.0.1) _ h.0 kind.2 in
    let value = bind_ok (next_word at.0.1) _ h.0 at.2 in
    let targets = bind_ok (next_word value.0.1) _ h.0 value.2 in
    let made : Head = head kind.0.0 at.0.0 value.0.0 targets.0.0 in
    let g = bind_ok (admit_head version i seen.0 seen.1 (length targets.0.1) made) _ h.0 targets.2 in
    let ad = admitted version i seen.0 seen.1 (length targets.0.1) made g.0 g.1 in
    let four = four_take bytes kind.0 at.0 value.0 targets.0 fits kind.1 at.1 value.1 targets.1 in
    let same : (made, targets.0.1) ≡ h.0 = ap (λ (k : Head). (k, targets.0.1)) ad.0 ∙ ok_is (g.0, targets.0.1) h.0 g.2 in
    let read : targets_in i made.targets targets.0.1 ≡ Ok to.0 = subst (λ (y : Head × List ℕ). targets_in i y.0.targets y.1 ≡ Ok to.0) (sym same) to.1 in
    let t = named_take (targets_err i) made.targets targets.0.1 to.0 four.0.rest_fits read in
    let of = of_head version kind.0.0 at.0.0 value.0.0 targets.0.0 to.0.0 (small_kind version made ad.1.form) ad.1.form t.1 in
    let p : Premise = premise_from made to.0.0 in
    let all = of_all version seen.0 seen.1 (length targets.0.1) made to.0.0 p ad.1 four.2 four.3 t.1 t.2 of in
    let text = Takes-then bytes (words (kind.0.0 ∷ at.0.0 ∷ value.0.0 ∷ targets.0.0 ∷ [])) targets.0.1 (words to.0.0) to.0.1 four.0 t.0 in
    let parts : Takes bytes (words (premise_words p)) to.0.1 = subst (λ (ws : List ℕ). Takes bytes (words ws) to.0.1) (sym all.0) text in
    let is : (p, to.0.1) ≡ x = ap (λ (y : Head × List ℕ). (premise_from y.0 to.0.0, to.0.1)) same ∙ ok_is (premise_from h.0.0 to.0.0, to.0.1) x to.2 in
    subst (λ (y : Premise × List ℕ). Takes bytes (words (premise_words y.0)) y.1 × FitsPremise version seen y.0) is (parts, all.1)

-- the numbers of an assumption
abbrev head_of : Premise → Head
head_of p = head (kind_of p) (place_of p) (value_of p) (length (targets_of p))

-- only a load of one value is not known to the first version
same_again : (version at value : ℕ) → IsKnown version (Same at value) → not (version == 1) ≡ true
same_again version at value known = tested (version == 1) refl
  where
    tested : (first : Bool) → version == 1 ≡ first → not first ≡ true
    tested true is = absurd (known (eqb-true _ _ is))
    tested false is = refl

form_again : (version : ℕ) (p : Premise) → IsKnown version p → has_form version (head_of p) ≡ true
form_again version (Cut at true) known = refl
form_again version (Cut at false) known = refl
form_again version (Targets at to) known = refl
form_again version (Dead at) known = refl
form_again version Code known = refl
form_again version Within known = refl
form_again version Span known = refl
form_again version (Same at value) known = let new = same_again version at value known in rw new refl

premise_of_head : (p : Premise) → premise_from (head_of p) (targets_of p) ≡ p
premise_of_head (Cut at true) = refl
premise_of_head (Cut at false) = refl
premise_of_head (Targets at to) = refl
premise_of_head (Dead at) = refl
premise_of_head Code = refl
premise_of_head Within = refl
premise_of_head Span = refl
premise_of_head (Same at value) = refl

wide_numbers : (p : Premise) → loads_of p < 2 ^ 32 → (kind_of p < 2 ^ 32) × (value_of p < 2 ^ 32)
wide_numbers (Cut at true) wide = (omega arith, omega arith)
wide_numbers (Cut at false) wide = (omega arith, omega arith)
wide_numbers (Targets at to) wide = (omega arith, omega arith)
wide_numbers (Dead at) wide = (omega arith, omega arith)
wide_numbers Code wide = (omega arith, omega arith)
wide_numbers Within wide = (omega arith, omega arith)
wide_numbers Span wide = (omega arith, omega arith)
wide_numbers (Same at value) wide = (omega arith, wide)

pub premise_again : (version i : ℕ) (seen : ℕ × ℕ) (p : Premise) (rest : List ℕ) → FitsPremise version seen p → next_premise version i seen (words (premise_words p) ++ rest) ≡ Ok (p, rest)
unfolding next_premise next_head
premise_again version i seen p rest fits =
    let h : Head = head_of p in
    let to : List ℕ = targets_of p in
    let left : List ℕ = words to ++ rest in
    let wide = wide_numbers p fits.fits.1 in
    let there : ltb (length left) (4 * length to) ≡ false = le-ltb _ _ (omega (arith, length-append (words to) rest, length-words to)) in
    let few : ltb 1_048_576 (seen.1 + length to) ≡ false = le-ltb _ _ fits.few in
    let order : ltb (2 ^ 32 * h.kind + h.at) seen.0 ≡ false = le-ltb _ _ fits.order in
    let aligned : is_aligned h.at ≡ true = eq-eqb _ _ fits.fits.0.0 in
    let form : has_form version h ≡ true = form_again version p fits.known in
    let ad : admit_head version i seen.0 seen.1 (length left) h ≡ Ok h = rw (form, aligned, order, few, there) refl in
    let read : next_head version i seen.0 seen.1 (words (h.kind ∷ h.at ∷ h.value ∷ h.targets ∷ []) ++ left) ≡ Ok (h, left) =
    step4 h.kind h.at h.value h.targets left (λ kind at value targets. admit_head version i seen.0 seen.1 (length targets.1) (head kind.0 at.0 value.0 targets.0) >>= λ h. Ok (h, targets.1)) wide.0 fits.fits.0.1 wide.1 (omega (arith, fits.few))
    ∙ ap (λ (r : Result Head ImageErr). r >>= λ h. Ok (h, left)) ad in
    let second : targets_in i h.targets left ≡ Ok (to, rest) = named_again (targets_err i) to rest (fits.fits.2, fits.fits.3) in
    ap (λ (r : Result (Head × List ℕ) ImageErr). r >>= λ h. targets_in i h.0.targets h.1 >>= λ to. Ok (premise_from h.0 to.0, to.1)) read
    ∙ ap (λ (r : Result (List ℕ × List ℕ) ImageErr). r >>= λ to. Ok (premise_from h to.0, to.1)) second
    ∙ ap (λ (q : Premise). Ok (q, rest)) (premise_of_head p)
