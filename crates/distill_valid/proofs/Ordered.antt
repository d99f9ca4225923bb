-- The assumptions rise by their kinds and places.
use Rattle.std.proofs.Common.{◌≡◌, ℕ, ◌+◌, ◌*◌, ◌<◌, ◌≤◌, List, [], ◌∷◌, ◌++◌, map, filter_map, refl, arith, Option, Some, None}
use Rattle.std.specs.List.{cons_option, AllByRecursion}
use Rattle.dist_image.specs.Image.{Premise, key_of}
use Rattle.word_format.proofs.Rising.{Rises}

pub rises_sooner : (j k : ℕ) (xs : List ℕ) → j ≤ k → Rises k xs → Rises j xs
rises_sooner j k [] l r = tt
rises_sooner j k (x ∷ xs) l r = (omega (arith, l, r.0), r.1)

abbrev pub AllBelow : ℕ → List ℕ → Type 0
AllBelow n xs = AllByRecursion (λ x. x < n) xs

-- one list behind another, where all of the first are below the number that is due in the second
pub rises_append : (j k : ℕ) (xs ys : List ℕ) → j ≤ k → Rises j xs → AllBelow k xs → Rises k ys → Rises j (xs ++ ys)
rises_append j k [] ys l r b s = rises_sooner j k ys l s
rises_append j k (x ∷ xs) ys l r b s = (r.0, rises_append (x + 1) k xs ys (omega (arith, b.0)) r.1 b.1 s)

below_append : (n : ℕ) (xs ys : List ℕ) → AllBelow n xs → AllBelow n ys → AllBelow n (xs ++ ys)
below_append n [] ys a b = b
below_append n (x ∷ xs) ys a b = (a.0, below_append n xs ys a.1 b)

pub below_more : (m n : ℕ) (xs : List ℕ) → m ≤ n → AllBelow m xs → AllBelow n xs
below_more m n [] l a = tt
below_more m n (x ∷ xs) l a = (omega (arith, l, a.0), below_more m n xs l a.1)

-- ---- one kind, picked of pcs that rise

module _ (pick : ℕ → Option Premise) (base : ℕ) (keyed : (pc : ℕ) (p : Premise) → pick pc ≡ Some p → key_of p ≡ base + pc) where
  pub kind_rises : (due : ℕ) (pcs : List ℕ) → Rises due pcs → Rises (base + due) (map key_of (filter_map pick pcs))
  kind_rises due [] r = tt
  kind_rises due (pc ∷ pcs) r = rises_if_picked (pick pc) refl (kind_rises (pc + 1) pcs r.1)
    where
      rises_if_picked : (o : Option Premise) → pick pc ≡ o → Rises (base + (pc + 1)) (map key_of (filter_map pick pcs)) → Rises (base + due) (map key_of (cons_option o (filter_map pick pcs)))
      rises_if_picked None e more = rises_sooner (base + due) (base + (pc + 1)) (map key_of (filter_map pick pcs)) (omega (arith, r.0)) more
      rises_if_picked (Some p) e more =
          let key = keyed pc p e in
          (omega (arith, key, r.0), rises_sooner (key_of p + 1) (base + (pc + 1)) (map key_of (filter_map pick pcs)) (omega (arith, key)) more)

  pub kind_below : (top : ℕ) (pcs : List ℕ) → AllBelow top pcs → AllBelow (base + top) (map key_of (filter_map pick pcs))
  kind_below top [] b = tt
  kind_below top (pc ∷ pcs) b = below_if_picked (pick pc) refl (kind_below top pcs b.1)
    where
      below_if_picked : (o : Option Premise) → pick pc ≡ o → AllBelow (base + top) (map key_of (filter_map pick pcs)) → AllBelow (base + top) (map key_of (cons_option o (filter_map pick pcs)))
      below_if_picked None e more = more
      below_if_picked (Some p) e more = let key = keyed pc p e in (omega (arith, key, b.0), more)

-- four kinds, one behind the other, the last behind what is of no kind
pub all_rise : (top : ℕ) (xs ys zs ws vs : List ℕ) → Rises 0 xs → AllBelow top xs → Rises top ys → AllBelow (2 * top) ys → Rises (2 * top) zs → AllBelow (3 * top) zs
    → Rises (3 * top) ws → AllBelow (6 * top) ws → Rises (6 * top) vs → Rises 0 (xs ++ ys ++ zs ++ ws ++ vs)
all_rise top xs ys zs ws vs r a s b u c v d w =
    let two = rises_append 0 top xs ys (omega arith) r a s in
    let two_below = below_append (2 * top) xs ys (below_more top (2 * top) xs (omega arith) a) b in
    let three = rises_append 0 (2 * top) (xs ++ ys) zs (omega arith) two two_below u in
    let three_below = below_append (3 * top) (xs ++ ys) zs (below_more (2 * top) (3 * top) (xs ++ ys) (omega arith) two_below) c in
    let four = rises_append 0 (3 * top) (xs ++ ys ++ zs) ws (omega arith) three three_below v in
    let four_below = below_append (6 * top) (xs ++ ys ++ zs) ws (below_more (3 * top) (6 * top) (xs ++ ys ++ zs) (omega arith) three_below) d in
    rises_append 0 (6 * top) (xs ++ ys ++ zs ++ ws) vs (omega arith) four four_below w
