-- Which assumptions of each kind are listed.
use Rattle.std.proofs.Common.{◌≡◌, ℕ, zero, suc, Bool, true, false, List, [], ◌∷◌, map, cond, filter_map, filter, refl, sym, ap, ◌∙◌, subst, Option, Some, None, ⊎_elim, true≢false, ◌↔◌}
use Rattle.std.specs.Prelude.{nat_eq, slice_get}
use Rattle.std.specs.List.{cons_option}
use Rattle.std.specs.Option.{option_map}
use Rattle.std.proofs.lemmas.Bool.{cases_Bool, or_cases, eqb-true}
use Rattle.dist_image.specs.Image.{Premise, Cut, Targets, Dead, Code, Within, Span, Same}
use Rattle.profile_data.specs.Profile.{Tally}
use Rattle.fitting.specs.Claims.{among, as_cut, as_targets, as_dead, as_same}
use Rattle.fitting.specs.Fits.{IsListed}
use Rattle.distill_rules.specs.Analysed.{analysed}
use Rattle.distill_rules.specs.Cuts.{Cuts, cuts, cut_at, is_dead}
use Rattle.distill_fits.proofs.Claimed.{cut_only, targets_only, dead_is}
use Rattle.distill_fits.proofs.Looked.{pairs}
use Rattle.distill_fits.proofs.Listing.{targets_of, whole, cuts_listed, targets_listed, dead_listed, same_listed}
use Rattle.distill_fits.proofs.Sites.{plot_at}
use Rattle.distill_fits.proofs.Valued.{value_of}
use Rattle.distill_rules.specs.declared.Mask.{Mask}
use Rattle.layout_rules.specs.declared.SlotPlan.{SlotPlan}
use Rattle.layout_rules.specs.Images.{with_same}
use Rattle.std.specs.Map.{lookup}
use Rattle.distill_fits.proofs.Lists.{among_at}

-- x is an entry of the list
abbrev pub IsIn : {A : Type 0} → List A → A → Type 0
IsIn xs x = (k : ℕ) × (slice_get xs k ≡ Some x)

same_some : {A : Type 0} (x y : A) → ◌≡◌ {A = Option A} (Some x) (Some y) → x ≡ y
same_some x y e = cc

in_more : {A : Type 0} (o : Option A) (xs : List A) (x : A) → IsIn xs x → IsIn (cons_option o xs) x
in_more None xs x h = h
in_more (Some y) xs x h = (suc h.0, h.1)

-- ---- what is picked of a list

module _ {A B : Type 0} (pick : A → Option B) where
  pub in_picked : (xs : List A) (k : ℕ) (x : A) (y : B) → slice_get xs k ≡ Some x → pick x ≡ Some y → IsIn (filter_map pick xs) y
  in_picked [] k x y e p = absurd (cc)
  in_picked (z ∷ zs) zero x y e p =
      subst (λ o. IsIn (cons_option o (filter_map pick zs)) y) (sym (ap pick (same_some z x e) ∙ p)) (0, refl)
  in_picked (z ∷ zs) (suc k) x y e p = in_more (pick z) (filter_map pick zs) y (in_picked zs k x y e p)

  pub from_picked : (xs : List A) (k : ℕ) (y : B) → slice_get (filter_map pick xs) k ≡ Some y → (x : A) × IsIn xs x × (pick x ≡ Some y)
  from_picked [] k y e = absurd (cc)
  from_picked (z ∷ zs) k y e = if_picked (pick z) refl k e (λ k e. let x = from_picked zs k y e in (x.0, (suc x.1.0, x.1.1), x.2))
    where
      if_picked : (o : Option B) → pick z ≡ o → (k : ℕ) → slice_get (cons_option o (filter_map pick zs)) k ≡ Some y
          → ((k : ℕ) → slice_get (filter_map pick zs) k ≡ Some y → (x : A) × IsIn (z ∷ zs) x × (pick x ≡ Some y)) → (x : A) × IsIn (z ∷ zs) x × (pick x ≡ Some y)
      if_picked None p k e more = more k e
      if_picked (Some w) p zero e more = (z, (0, refl), p ∙ e)
      if_picked (Some w) p (suc k) e more = more k e

pub in_among : (qs : List ℕ) (q : ℕ) → among qs q ≡ true → IsIn qs q
in_among [] q h = absurd (true≢false (sym h))
in_among (n ∷ ns) q h =
    ⊎_elim
    (λ (e : nat_eq n q ≡ true). (0, ap (λ m. Some m) (eqb-true n q e)))
    (λ (e : among ns q ≡ true). let x = in_among ns q e in (suc x.0, x.1))
    (or_cases (nat_eq n q) (among ns q) h)

-- ---- a function's values at pcs

paired : {A : Type 0} (f : ℕ → Option A) (pcs : List ℕ) (q : ℕ) (v : A) → IsIn (pairs f pcs) (q, v) → f q ≡ Some v
paired {A} f pcs q v h =
    let x = from_picked (λ pc. option_map (λ v. (pc, v)) (f pc)) pcs h.0 (q, v) h.1 in from_pair x.0 (f x.0) refl x.2
  where
    from_pair : (pc : ℕ) (o : Option A) → f pc ≡ o → option_map {U = ℕ × A} (λ (v : A). (pc, v)) o ≡ Some (q, v) → f q ≡ Some v
    from_pair pc None p e = absurd (cc)
    from_pair pc (Some w) p e = let is = same_some (pc, w) (q, v) e in (λ i. f (sym is i).0) ∙ p ∙ (λ i. Some (is i).1)

in_pairs : {A : Type 0} (f : ℕ → Option A) (pcs : List ℕ) → ((q : ℕ) → among pcs q ≡ false → f q ≡ None) → (q : ℕ) (v : A) → f q ≡ Some v → IsIn (pairs f pcs) (q, v)
in_pairs {A} f pcs only q v e =
    ⊎_elim
    (λ (h : among pcs q ≡ true). let x = in_among pcs q h in in_picked (λ pc. option_map (λ v. (pc, v)) (f pc)) pcs x.0 q (q, v) x.1 (ap (option_map (λ v. (q, v))) e))
    (λ (h : among pcs q ≡ false). let none : ◌≡◌ {A = Option A} (Some v) None = sym e ∙ only q h in absurd (cc))
    (cases_Bool (among pcs q))

-- ---- the kinds

is_cut : (pc : ℕ) (taken : Bool) (p : Premise) → as_cut p ≡ Some (pc, taken) → p ≡ Cut pc taken
is_cut pc taken (Cut at t) e = let h = same_some (at, t) (pc, taken) e in λ i. Cut (h i).0 (h i).1
is_cut pc taken (Targets at to) e = absurd (cc)
is_cut pc taken (Dead at) e = absurd (cc)
is_cut pc taken Code e = absurd (cc)
is_cut pc taken Within e = absurd (cc)
is_cut pc taken Span e = absurd (cc)
is_cut pc taken (Same at v) e = absurd (cc)

is_targets : (pc : ℕ) (to : List ℕ) (p : Premise) → as_targets p ≡ Some (pc, to) → p ≡ Targets pc to
is_targets pc to (Cut at t) e = absurd (cc)
is_targets pc to (Targets at t) e = let h = same_some (at, t) (pc, to) e in λ i. Targets (h i).0 (h i).1
is_targets pc to (Dead at) e = absurd (cc)
is_targets pc to Code e = absurd (cc)
is_targets pc to Within e = absurd (cc)
is_targets pc to Span e = absurd (cc)
is_targets pc to (Same at v) e = absurd (cc)

is_dead_one : (pc : ℕ) (p : Premise) → as_dead p ≡ Some pc → p ≡ Dead pc
is_dead_one pc (Cut at t) e = absurd (cc)
is_dead_one pc (Targets at t) e = absurd (cc)
is_dead_one pc (Dead at) e = ap Dead (same_some at pc e)
is_dead_one pc Code e = absurd (cc)
is_dead_one pc Within e = absurd (cc)
is_dead_one pc Span e = absurd (cc)
is_dead_one pc (Same at v) e = absurd (cc)

is_same : (pc v : ℕ) (p : Premise) → as_same p ≡ Some (pc, v) → p ≡ Same pc v
is_same pc v (Same at x) e = let h = same_some (at, x) (pc, v) e in λ i. Same (h i).0 (h i).1
is_same pc v (Cut at t) e = absurd (cc)
is_same pc v (Targets at to) e = absurd (cc)
is_same pc v (Dead at) e = absurd (cc)
is_same pc v Code e = absurd (cc)
is_same pc v Within e = absurd (cc)
is_same pc v Span e = absurd (cc)

-- an assumption of a kind is listed where what is picked by that kind has its claim
picks : {B : Type 0} (pick : Premise → Option B) (p : Premise) (y : B) → pick p ≡ Some y → ((x : Premise) → pick x ≡ Some y → x ≡ p)
    → (ps : List Premise) (ys : List B) → filter_map pick ps ≡ ys → IsListed ps p ↔ IsIn ys y
picks pick p y here one ps ys all = (
  λ h. subst (λ ys. IsIn ys y) all (in_picked pick ps h.0 p y h.1 here),
  λ h.
      let there : IsIn (filter_map pick ps) y = subst (λ ys. IsIn ys y) (sym all) h in
      let x = from_picked pick ps there.0 y there.1 in
      (x.1.0, x.1.1 ∙ ap (λ z. Some z) (one x.0 x.2)),
)

module _ (word : ℕ → ℕ) (rows : List Tally) (rare : ℕ) (same : List (ℕ × ℕ)) where
  abbrev c : Cuts
  c = with_same same (cuts word rows rare)

  module _ (ps : List SlotPlan) where
    abbrev list : List Premise
    list = whole word rows c ps

    pub cut_listed : (pc : ℕ) (taken : Bool) → IsListed list (Cut pc taken) ↔ (cut_at word rows rare pc ≡ Some taken)
    cut_listed pc taken =
        let x = picks as_cut (Cut pc taken) (pc, taken) refl (is_cut pc taken) list (pairs (cut_at word rows rare) (analysed rows)) (cuts_listed word rows c ps) in
        (λ h. paired (cut_at word rows rare) (analysed rows) pc taken (x.0 h), λ h. x.1 (in_pairs (cut_at word rows rare) (analysed rows) (cut_only word rows rare) pc taken h))

    pub targets_listed_at : (pc : ℕ) (to : List ℕ) → IsListed list (Targets pc to) ↔ (targets_of word rows pc ≡ Some to)
    targets_listed_at pc to =
        let x = picks as_targets (Targets pc to) (pc, to) refl (is_targets pc to) list (pairs (targets_of word rows) (analysed rows)) (targets_listed word rows c ps) in
        (λ h. paired (targets_of word rows) (analysed rows) pc to (x.0 h), λ h. x.1 (in_pairs (targets_of word rows) (analysed rows) (targets_only word rows) pc to h))

    pub dead_listed_at : (pc : ℕ) → IsListed list (Dead pc) ↔ (is_dead word rows pc ≡ true)
    dead_listed_at pc =
        let x = picks as_dead (Dead pc) pc refl (is_dead_one pc) list (filter (is_dead word rows) (analysed rows)) (dead_listed word rows c ps) in
        let same = dead_is word rows rare pc in (
          λ h. let y = x.0 h in sym same ∙ among_at (filter (is_dead word rows) (analysed rows)) y.0 pc y.1,
          λ h. x.1 (in_among (filter (is_dead word rows) (analysed rows)) pc (same ∙ h)),
        )

  -- a value that is listed is that of its pc
  pub same_listed_at : (begun : List ℕ) (t : List Mask) (pc v : ℕ) → IsListed (whole word rows c (map (plot_at word rows c begun t) (analysed rows))) (Same pc v)
      → lookup (nat_eq pc) same ≡ Some v
  same_listed_at begun t pc v h =
      let ps = map (plot_at word rows c begun t) (analysed rows) in
      let x = picks as_same (Same pc v) (pc, v) refl (is_same pc v) (list ps) (pairs (value_of word rows c begun t) (analysed rows)) (same_listed word rows c begun t) in
      if_kept (plot_at word rows c begun t pc).kept (lookup (nat_eq pc) same) (paired (value_of word rows c begun t) (analysed rows) pc v (x.0 h))
    where
      if_kept : (b : Bool) (o : Option ℕ) → cond b o None ≡ Some v → o ≡ Some v
      if_kept true o e = e
      if_kept false o e = absurd (cc)
