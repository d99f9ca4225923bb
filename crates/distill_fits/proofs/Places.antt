-- Where the slots of an instruction stand.
use Rattle.std.proofs.Common.{◌≡◌, ℕ, ◌+◌, ◌-◌, ◌<◌, ◌≤◌, zero, suc, Bool, true, false, cond, List, [], ◌∷◌, ◌++◌, length, refl, sym, ap, ◌∙◌, subst, arith, ⊎_elim, Some}
use Rattle.std.specs.List.{flat_map, slice_get}
use Rattle.std.proofs.lemmas.Bool.{cases_lt}
use Rattle.std.proofs.lemmas.List.{length-append}
use Rattle.dist_image.specs.declared.image.Slot.{Slot}
use Rattle.dist_image.specs.declared.image.Slot.TheVariants.{Exec, Go, Fork}
use Rattle.layout_rules.specs.declared.SlotPlan.{SlotPlan}
use Rattle.layout_rules.specs.Layout.{body, fork, lays, Laid, laid, slots_of}

pub get_left : {X : Type 0} (xs ys : List X) (j : ℕ) → j < length xs → slice_get (xs ++ ys) j ≡ slice_get xs j
get_left [] ys j l = absurd (omega arith)
get_left (x ∷ xs) ys zero l = refl
get_left (x ∷ xs) ys (suc j) l = get_left xs ys j (omega arith)

pub get_right : {X : Type 0} (xs ys : List X) (j k : ℕ) → k ≡ length xs + j → slice_get (xs ++ ys) k ≡ slice_get ys j
get_right [] ys j k e = ap (slice_get ys) (omega arith)
get_right (x ∷ xs) ys j zero e = absurd (omega arith)
get_right (x ∷ xs) ys j (suc k) e = get_right xs ys j k (omega arith)

some_same : {X : Type 0} (x y : X) → Some x ≡ Some y → x ≡ y
some_same x y e = cc

module _ (known : ℕ → Bool) where
  -- the instructions before begin no later, and the slots of this one stand from its number on
  pub begins : (ps : List SlotPlan) (s n i : ℕ) (l : Laid) → slice_get (laid known s n ps) i ≡ Some l → s ≤ l.slot
  begins [] s n i l e = cc
  begins (p ∷ ps) s n zero l e = let here : s ≡ l.slot = ap (λ (x : Laid). x.slot) (some_same _ l e) in omega (arith, here)
  begins (p ∷ ps) s n (suc i) l e =
      let rest = begins ps (s + length (lays known p n)) (n + length (fork p n)) i l e in omega (arith, rest)

  pub stands : (ps : List SlotPlan) (s n i : ℕ) (l : Laid) → slice_get (laid known s n ps) i ≡ Some l
      → (j k : ℕ) → j < length (slots_of known l) → k + s ≡ l.slot + j
      → slice_get (flat_map (slots_of known) (laid known s n ps)) k ≡ slice_get (slots_of known l) j
  stands [] s n i l e j k m a = cc
  stands (p ∷ ps) s n zero l e j k m a =
      let same = some_same _ l e in
      let P : Laid → Type 0 = λ x. j < length (slots_of known x) → k + s ≡ x.slot + j
      → slice_get (lays known p n ++ flat_map (slots_of known) (laid known (s + length (lays known p n)) (n + length (fork p n)) ps)) k ≡ slice_get (slots_of known x) j in
      subst P same (λ m a. let at : k ≡ j = omega (arith, a) in subst (λ k. slice_get (lays known p n ++ flat_map (slots_of known) (laid known (s + length (lays known p n)) (n + length (fork p n)) ps)) k ≡ slice_get (lays known p n) j) (sym at) (get_left (lays known p n) _ j m)) m a
  stands (p ∷ ps) s n (suc i) l e j k m a =
      let more = s + length (lays known p n) in
      let from = begins ps more (n + length (fork p n)) i l e in
      let rest = stands ps more (n + length (fork p n)) i l e j (k - length (lays known p n)) m (omega (arith, from, a)) in
      get_right (lays known p n) _ (k - length (lays known p n)) k (omega (arith, from, a)) ∙ rest

  -- the next one begins where this one ends
  pub goes_on : (ps : List SlotPlan) (s n i : ℕ) (l m : Laid) → slice_get (laid known s n ps) i ≡ Some l → slice_get (laid known s n ps) (suc i) ≡ Some m
      → m.slot ≡ l.slot + length (slots_of known l)
  goes_on [] s n i l m e f = cc
  goes_on (p ∷ []) s n i l m e f = cc
  goes_on (p ∷ q ∷ ps) s n zero l m e f =
      let a = ap (λ (x : Laid). x.slot + length (slots_of known x)) (some_same _ l e) in
      let b = ap (λ (x : Laid). x.slot) (some_same _ m f) in
      sym b ∙ a
  goes_on (p ∷ q ∷ ps) s n (suc i) l m e f = goes_on (q ∷ ps) (s + length (lays known p n)) (n + length (fork p n)) i l m e f

  -- the instructions are those of the list, in its order
  pub plot_at : (ps : List SlotPlan) (s n i : ℕ) (l : Laid) → slice_get (laid known s n ps) i ≡ Some l → slice_get ps i ≡ Some l.plot
  plot_at [] s n i l e = cc
  plot_at (p ∷ ps) s n zero l e = ap (λ (x : Laid). Some x.plot) (some_same _ l e)
  plot_at (p ∷ ps) s n (suc i) l e = plot_at ps (s + length (lays known p n)) (n + length (fork p n)) i l e

  pub laid_at : (ps : List SlotPlan) (s n i : ℕ) (p : SlotPlan) → slice_get ps i ≡ Some p → (l : Laid) × (slice_get (laid known s n ps) i ≡ Some l) × (l.plot ≡ p)
  laid_at [] s n i p e = cc
  laid_at (q ∷ ps) s n zero p e = (_, refl, some_same q p e)
  laid_at (q ∷ ps) s n (suc i) p e = laid_at ps (s + length (lays known q n)) (n + length (fork q n)) i p e

  -- where the body is one slot, it stands behind the Fork
  pub body_at : (ps : List SlotPlan) (i : ℕ) (l : Laid) (x : Slot) → slice_get (laid known 0 0 ps) i ≡ Some l → body known l.plot ≡ x ∷ []
      → slice_get (flat_map (slots_of known) (laid known 0 0 ps)) (l.slot + length (fork l.plot l.number)) ≡ Some x
  body_at ps i l x e b =
      let front = length (fork l.plot l.number) in
      let long : length (slots_of known l) ≡ front + length (body known l.plot) = length-append (fork l.plot l.number) (body known l.plot) in
      let one : length (body known l.plot) ≡ 1 = ap length b in
      stands ps 0 0 i l e front (l.slot + front) (omega (arith, long, one)) (omega arith)
      ∙ get_right (fork l.plot l.number) (body known l.plot) 0 front (omega arith)
      ∙ ap (λ xs. slice_get xs 0) b

  -- where the body is nothing, the next one begins behind the Fork
  pub next_at : (ps : List SlotPlan) (i : ℕ) (l m : Laid) → slice_get (laid known 0 0 ps) i ≡ Some l → slice_get (laid known 0 0 ps) (suc i) ≡ Some m
      → body known l.plot ≡ [] → m.slot ≡ l.slot + length (fork l.plot l.number)
  next_at ps i l m e f b =
      let long : length (slots_of known l) ≡ length (fork l.plot l.number) + length (body known l.plot) = length-append (fork l.plot l.number) (body known l.plot) in
      let none : length (body known l.plot) ≡ 0 = ap length b in
      let at = goes_on ps 0 0 i l m e f in
      omega (arith, long, none, at)

  piece : (a b c : Bool) (n pc word on k o w : ℕ)
      → slice_get ((cond a (Fork n ∷ []) []) ++ (cond b (Exec pc word ∷ []) (cond c [] (Go on ∷ [])))) k ≡ Some (Exec o w) → (b ≡ true) × (pc ≡ o)
  piece true true c n pc word on zero o w e = cc
  piece true true c n pc word on (suc zero) o w e = (refl, cc)
  piece true true c n pc word on (suc (suc k)) o w e = cc
  piece true false true n pc word on zero o w e = cc
  piece true false true n pc word on (suc k) o w e = cc
  piece true false false n pc word on zero o w e = cc
  piece true false false n pc word on (suc zero) o w e = cc
  piece true false false n pc word on (suc (suc k)) o w e = cc
  piece false true c n pc word on zero o w e = (refl, cc)
  piece false true c n pc word on (suc k) o w e = cc
  piece false false true n pc word on k o w e = cc
  piece false false false n pc word on zero o w e = cc
  piece false false false n pc word on (suc k) o w e = cc

  -- an Exec slot is the body of a kept instruction
  pub exec_at : (ps : List SlotPlan) (s n k o w : ℕ) → slice_get (flat_map (slots_of known) (laid known s n ps)) k ≡ Some (Exec o w)
      → (i : ℕ) × (p : SlotPlan) × (slice_get ps i ≡ Some p) × (p.kept ≡ true) × (p.pc ≡ o)
  exec_at [] s n k o w e = cc
  exec_at (p ∷ ps) s n k o w e =
      let mine = lays known p n in
      let others = flat_map (slots_of known) (laid known (s + length mine) (n + length (fork p n)) ps) in
      ⊎_elim
      (λ (h : k < length mine).
      let x = piece p.is_anchor p.kept _ n p.pc p.word p.on k o w (sym (get_left mine others k h) ∙ e) in
      (0, p, refl, x.0, x.1))
      (λ (h : length mine ≤ k).
      let x = exec_at ps (s + length mine) (n + length (fork p n)) (k - length mine) o w (sym (get_right mine others (k - length mine) k (omega (arith, h))) ∙ e) in
      (suc x.0, x.1, x.2, x.3, x.4))
      (cases_lt k (length mine))
