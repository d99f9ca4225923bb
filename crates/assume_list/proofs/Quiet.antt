-- Where nothing that is seen of a position can fail, nothing does.
use Rattle.std.proofs.Common.{◌≡◌, ℕ, zero, suc, ◌+◌, ◌*◌, Bool, true, false, not, ◌||◌, ◌&&◌, cond, List, [], ◌∷◌, length, Option, Some, None, refl, sym, ap, ◌∙◌, ⊎_elim, true≢false, arith}
use Rattle.std.specs.Prelude.{nat_eq, slice_get, is_none}
use Rattle.std.specs.List.{list_any}
use Rattle.std.proofs.lemmas.Bool.{ne_eqb, cases_eq, or_left, or_right}
use Rattle.dist_image.specs.Image.{Premise, Cut, Targets, Dead, Code, Within, Span, Same, key_of}
use Rattle.fitting.specs.Claims.{among}
use Rattle.assumption_laws.specs.Looks.{Look, is_side, is_other, fails_by, first_from}
use Rattle.assume_list.specs.Sights.{is_code, is_within, is_same}

-- ---- lists

pub listed_any : (test : Premise → Bool) (xs : List Premise) (k : ℕ) (x : Premise) → slice_get xs k ≡ Some x → test x ≡ true → list_any test xs ≡ true
listed_any test [] k x e h = absurd (cc)
listed_any test (y ∷ ys) zero x e h = or_left (test y) _ (ap test (same y x e) ∙ h)
  where
    same : (y x : Premise) → ◌≡◌ {A = Option Premise} (Some y) (Some x) → y ≡ x
    same y x e = cc
listed_any test (y ∷ ys) (suc k) x e h = or_right (test y) _ (listed_any test ys k x e h)

pub none_first : (f : Premise → Bool) (n : ℕ) (xs : List Premise) → ((k : ℕ) (x : Premise) → slice_get xs k ≡ Some x → f x ≡ false) → None ≡ first_from f n xs
none_first f n [] e = refl
none_first f n (x ∷ xs) e = none_first f (suc n) xs (λ k y at. e (suc k) y at) ∙ ap (λ b. cond b (Some n) (first_from f (suc n) xs)) (sym (e 0 x refl))

-- ---- each kind

no_side : (taken : Bool) (o : Option Bool) → is_none o ≡ true → is_side taken o ≡ false
no_side taken (Some b) h = absurd (true≢false (sym h))
no_side true None h = refl
no_side false None h = refl

and_not : (a b : Bool) → (a && (not true && b)) ≡ false
and_not true b = refl
and_not false b = refl

and_none : (a b c : Bool) → c ≡ false → (a && (b && c)) ≡ false
and_none true true c h = h
and_none true false c h = refl
and_none false b c h = refl

-- a cut fails nowhere where the instruction stops, or is no branch
pub cut_stops : (v : Look) (at : ℕ) (taken : Bool) → v.stops ≡ true → fails_by v (Cut at taken) ≡ false
cut_stops v at taken h = ap (λ b. nat_eq v.pc at && (not b && is_side taken v.side)) h ∙ and_not (nat_eq v.pc at) (is_side taken v.side)

pub cut_no_branch : (v : Look) (at : ℕ) (taken : Bool) → is_none v.side ≡ true → fails_by v (Cut at taken) ≡ false
cut_no_branch v at taken h = and_none (nat_eq v.pc at) (not v.stops) (is_side taken v.side) (no_side taken v.side h)

-- nor elsewhere than at its pc
elsewhere : (pc at : ℕ) (b : Bool) → (pc ≡ at → ⊥) → (nat_eq pc at && b) ≡ false
elsewhere pc at b h = ap (λ t. t && b) (ne_eqb pc at h)

pub cut_by_key : (v : Look) (at : ℕ) (taken : Bool) (r : Bool) → r ≡ false → (key_of (Cut at taken) ≡ v.pc → r ≡ fails_by v (Cut at taken)) → fails_by v (Cut at taken) ≡ false
cut_by_key v at taken r h told = ⊎_elim
    (λ (e : v.pc ≡ at). sym (told (omega (arith, e))) ∙ h)
    (λ (ne : v.pc ≡ at → ⊥). elsewhere v.pc at (not v.stops && is_side taken v.side) ne)
    (cases_eq v.pc at)

pub targets_stop : (v : Look) (at : ℕ) (to : List ℕ) → v.stops ≡ true → fails_by v (Targets at to) ≡ false
targets_stop v at to h = ap (λ b. nat_eq v.pc at && (not b && (v.jumps && not (among to v.next)))) h ∙ and_not (nat_eq v.pc at) (v.jumps && not (among to v.next))

pub targets_no_jump : (v : Look) (at : ℕ) (to : List ℕ) → v.jumps ≡ false → fails_by v (Targets at to) ≡ false
targets_no_jump v at to h = and_none (nat_eq v.pc at) (not v.stops) (v.jumps && not (among to v.next)) (ap (λ b. b && not (among to v.next)) h)

pub targets_by_key : (v : Look) (at : ℕ) (to : List ℕ) (r : Bool) → r ≡ false → (key_of (Targets at to) ≡ 4294967296 + v.pc → r ≡ fails_by v (Targets at to)) → fails_by v (Targets at to) ≡ false
targets_by_key v at to r h told = ⊎_elim
    (λ (e : v.pc ≡ at). sym (told (omega (arith, e))) ∙ h)
    (λ (ne : v.pc ≡ at → ⊥). elsewhere v.pc at (not v.stops && (v.jumps && not (among to v.next))) ne)
    (cases_eq v.pc at)

-- the value of a load fails nowhere where none is loaded
no_other : (value : ℕ) (o : Option ℕ) → is_none o ≡ true → is_other value o ≡ false
no_other value (Some n) h = absurd (true≢false (sym h))
no_other value None h = refl

and_no : (a b : Bool) → b ≡ false → (a && b) ≡ false
and_no true b h = h
and_no false b h = refl

pub same_no_load : (v : Look) (at value : ℕ) → is_none v.load ≡ true → fails_by v (Same at value) ≡ false
same_no_load v at value h = and_no (nat_eq v.pc at) (is_other value v.load) (no_other value v.load h)

pub same_by_key : (v : Look) (at value : ℕ) (r : Bool) → r ≡ false → (key_of (Same at value) ≡ 6 * 4294967296 + v.pc → r ≡ fails_by v (Same at value)) → fails_by v (Same at value) ≡ false
same_by_key v at value r h told = ⊎_elim
    (λ (e : v.pc ≡ at). sym (told (omega (arith, e))) ∙ h)
    (λ (ne : v.pc ≡ at → ⊥). elsewhere v.pc at (is_other value v.load) ne)
    (cases_eq v.pc at)

-- nor where no value is listed
pub same_unlisted : (v : Look) (xs : List Premise) (k at value : ℕ) → list_any is_same xs ≡ false → slice_get xs k ≡ Some (Same at value) → fails_by v (Same at value) ≡ false
same_unlisted v xs k at value none e = absurd (true≢false (sym (listed_any is_same xs k (Same at value) e refl) ∙ none))

-- ---- none fails

none_among : (ms : List ℕ) (at : ℕ) → length ms ≡ 0 → among ms at ≡ false
none_among [] at h = refl
none_among (m ∷ ms) at h = absurd (omega (arith, h))

whole : (a b code c d within : Bool) → (a && ((b && code) || (c && (d && within)))) ≡ false → ((code ≡ true) → (a && b) ≡ false) × ((within ≡ true) → (a && (c && d)) ≡ false)
whole false b code c d within h = (λ _. refl, λ _. refl)
whole true false code c d within h = (λ _. refl, λ w. other c d within w h)
  where
    other : (c d within : Bool) → within ≡ true → (c && (d && within)) ≡ false → (c && d) ≡ false
    other true true within w h = absurd (true≢false (sym w ∙ h))
    other true false within w h = refl
    other false d within w h = refl
whole true true true c d within h = absurd (true≢false h)
whole true true false c d within h = (λ e. absurd (true≢false (sym e)), λ w. other c d within w h)
  where
    other : (c d within : Bool) → within ≡ true → (c && (d && within)) ≡ false → (c && d) ≡ false
    other true true within w h = absurd (true≢false (sym w ∙ h))
    other true false within w h = refl
    other false d within w h = refl

pub quiet : (v : Look) (xs : List Premise) (code within : Bool) → length v.marks ≡ 0 → code ≡ list_any is_code xs → within ≡ list_any is_within xs
    → (v.analysed && ((v.changed && code) || (not v.stops && (not v.stays && within)))) ≡ false
    → ((k at : ℕ) (taken : Bool) → slice_get xs k ≡ Some (Cut at taken) → fails_by v (Cut at taken) ≡ false)
    → ((k at : ℕ) (to : List ℕ) → slice_get xs k ≡ Some (Targets at to) → fails_by v (Targets at to) ≡ false)
    → ((k at value : ℕ) → slice_get xs k ≡ Some (Same at value) → fails_by v (Same at value) ≡ false)
    → (k : ℕ) (x : Premise) → slice_get xs k ≡ Some x → fails_by v x ≡ false
quiet v xs code within none code_is within_is h cuts targets values k (Cut at taken) e = cuts k at taken e
quiet v xs code within none code_is within_is h cuts targets values k (Targets at to) e = targets k at to e
quiet v xs code within none code_is within_is h cuts targets values k (Dead at) e = none_among v.marks (at + 1) none
quiet v xs code within none code_is within_is h cuts targets values k Code e = (whole v.analysed v.changed code (not v.stops) (not v.stays) within h).0 (code_is ∙ listed_any is_code xs k Code e refl)
quiet v xs code within none code_is within_is h cuts targets values k Within e = (whole v.analysed v.changed code (not v.stops) (not v.stays) within h).1 (within_is ∙ listed_any is_within xs k Within e refl)
quiet v xs code within none code_is within_is h cuts targets values k Span e = refl
quiet v xs code within none code_is within_is h cuts targets values k (Same at value) e = values k at value e
