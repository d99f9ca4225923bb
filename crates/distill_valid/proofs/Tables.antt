-- The sizes of the tables, and what holds of each of their entries.
use Rattle.std.proofs.Common.{◌≡◌, ℕ, ◌+◌, ◌*◌, ◌<◌, ◌≤◌, ◌^◌, suc, Bool, true, false, cond, List, [], ◌∷◌, ◌++◌, length, All, refl, ap, arith, Some, length-append, flat_map}
use Rattle.cells.specs.Cells.{IsPc}
use Rattle.std.specs.List.{slice_get, AllByRecursion}
use Rattle.std.specs.List.Sorted.{IsStrictlyIncreasing}
use Rattle.std.proofs.lemmas.List.Elements.{All-from_recursion, All-append, All-nil, All-cons}
use Rattle.dist_image.specs.declared.image.Slot.{Slot}
use Rattle.dist_image.specs.declared.image.Slot.TheVariants.{Exec, Go, Fork}
use Rattle.dist_image.specs.declared.image.Anchor.{Anchor}
use Rattle.dist_image.specs.Image.{IsSlot}
use Rattle.word_format.proofs.Rising.{increasing_from_rises}
use Rattle.word_format.proofs.Rising as due
use Rattle.distill_rules.proofs.Ascending.{IsBelow, Rises}
use Rattle.layout_rules.specs.declared.SlotPlan.{SlotPlan}
use Rattle.layout_rules.specs.Layout.{body, fork, lays, Laid, laid, slots_of, anchors_of, runs_on}
use Rattle.distill_fits.proofs.Anchors.{as_many}

-- ---- from an entry at each place

pub each_at : {X : Type 0} (P : X → Type 0) (xs : List X) → ((i : ℕ) (x : X) → slice_get xs i ≡ Some x → P x) → AllByRecursion P xs
each_at P [] h = tt
each_at P (x ∷ xs) h = (h 0 x refl, each_at P xs (λ i. h (suc i)))

pub all_at : {X : Type 0} (P : X → Type 0) (xs : List X) → ((i : ℕ) (x : X) → slice_get xs i ≡ Some x → P x) → All P xs
all_at P xs h = All-from_recursion P xs (each_at P xs h)

-- ---- a list that rises, in the words of the image's definition

rest_rises : (n : ℕ) (ns : List ℕ) → IsBelow n ns → Rises ns → due.Rises (n + 1) ns
rest_rises n [] b r = tt
rest_rises n (m ∷ ms) b r = (omega (arith, b.0), rest_rises m ms r.0 r.1)

pub from_due : (ns : List ℕ) → Rises ns → due.Rises 0 ns
from_due [] r = tt
from_due (n ∷ ns) r = (omega arith, rest_rises n ns r.0 r.1)

pub increasing : (ns : List ℕ) → Rises ns → IsStrictlyIncreasing ns
increasing ns r = increasing_from_rises ns 0 (from_due ns r)

-- ---- sizes

body_most : (a b : Bool) (x y : Slot) → length (cond a (x ∷ []) (cond b [] (y ∷ []))) ≤ 1
body_most true b x y = omega arith
body_most false true x y = omega arith
body_most false false x y = omega arith

fork_most : {X : Type 0} (a : Bool) (x : X) → length (cond a (x ∷ []) []) ≤ 1
fork_most true x = omega arith
fork_most false x = omega arith

-- what an instruction lays is in its range
pub record IsFit (p : SlotPlan) : Type 0 where
  pub pc : IsPc p.pc
  pub word : p.word < 2 ^ 32
  pub on : IsPc p.on

module _ (known : ℕ → Bool) (count : ℕ) where
  pub laid_length : (ps : List SlotPlan) (s n : ℕ) → length (laid known s n ps) ≡ length ps
  laid_length [] s n = refl
  laid_length (p ∷ ps) s n = ap suc (laid_length ps (s + length (lays known p n)) (n + length (fork p n)))

  lays_most : (p : SlotPlan) (n : ℕ) → length (lays known p n) ≤ 2
  lays_most p n =
      let a = length-append (fork p n) (body known p) in
      let b = fork_most p.is_anchor (Fork n) in
      let c = body_most p.kept (runs_on known p) (Exec p.pc p.word) (Go p.on) in
      omega (arith, a, b, c)

  pub slots_most : (ls : List Laid) → length (flat_map (slots_of known) ls) ≤ 2 * length ls
  slots_most [] = omega arith
  slots_most (l ∷ ls) =
      let a = length-append (slots_of known l) (flat_map (slots_of known) ls) in
      let b = lays_most l.plot l.number in
      let rest = slots_most ls in
      omega (arith, a, b, rest)

  pub anchors_most : (ls : List Laid) → length (flat_map (anchors_of count) ls) ≤ length ls
  anchors_most [] = omega arith
  anchors_most (l ∷ ls) =
      let x : Anchor = record { pc = l.plot.pc; slot = l.slot; count = count } in
      let a = length-append (anchors_of count l) (flat_map (anchors_of count) ls) in
      let b = fork_most l.plot.is_anchor x in
      let rest = anchors_most ls in
      omega (arith, a, b, rest)

  -- ---- slots

  fork_ok : (N : ℕ) (a : Bool) (n : ℕ) → (a ≡ true → n < N) → All (IsSlot N) (cond a (Fork n ∷ []) [])
  fork_ok N true n h = All-cons (IsSlot N) (Fork n) [] (h refl) (All-nil (IsSlot N))
  fork_ok N false n h = All-nil (IsSlot N)

  body_ok : (N : ℕ) (p : SlotPlan) → IsFit p → (a b : Bool) → All (IsSlot N) (cond a (Exec p.pc p.word ∷ []) (cond b [] (Go p.on ∷ [])))
  body_ok N p fit true b = All-cons (IsSlot N) (Exec p.pc p.word) [] (fit.pc, fit.word) (All-nil (IsSlot N))
  body_ok N p fit false true = All-nil (IsSlot N)
  body_ok N p fit false false = All-cons (IsSlot N) (Go p.on) [] fit.on (All-nil (IsSlot N))

  one_fork : (a : Bool) (n : ℕ) → a ≡ true → length (cond a (Fork n ∷ []) []) ≡ 1
  one_fork true n h = refl
  one_fork false n h = cc

  pub slots_ok : (N : ℕ) (ps : List SlotPlan) (s n : ℕ) → n + length (flat_map (anchors_of count) (laid known s n ps)) ≤ N → AllByRecursion IsFit ps
      → All (IsSlot N) (flat_map (slots_of known) (laid known s n ps))
  slots_ok N [] s n few fits = All-nil (IsSlot N)
  slots_ok N (p ∷ ps) s n few fits =
      let x : Anchor = record { pc = p.pc; slot = s; count = count } in
      let rest = laid known (s + length (lays known p n)) (n + length (fork p n)) ps in
      let mine = anchors_of count (record { plot = p; slot = s; number = n }) in
      let many : length mine ≡ length (fork p n) = as_many known count p.is_anchor (Fork n) x in
      let all = length-append mine (flat_map (anchors_of count) rest) in
      let front = fork_ok N p.is_anchor n (λ h. let one = one_fork p.is_anchor n h in omega (arith, few, all, many, one)) in
      All-append (IsSlot N) (fork p n ++ body known p) (flat_map (slots_of known) rest)
      (All-append (IsSlot N) (fork p n) (body known p) front (body_ok N p fits.0 p.kept (runs_on known p)))
      (slots_ok N ps (s + length (lays known p n)) (n + length (fork p n)) (omega (arith, few, all, many)) fits.1)

  -- ---- anchors

  pub anchors_ok : (P : Anchor → Type 0) (ls : List Laid)
      → ((i : ℕ) (l : Laid) → slice_get ls i ≡ Some l → P (record { pc = l.plot.pc; slot = l.slot; count = count })) → All P (flat_map (anchors_of count) ls)
  anchors_ok P [] h = All-nil P
  anchors_ok P (l ∷ ls) h =
      All-append P (anchors_of count l) (flat_map (anchors_of count) ls) (own l.plot.is_anchor _ (h 0 l refl)) (anchors_ok P ls (λ i. h (suc i)))
    where
      own : (a : Bool) (x : Anchor) → P x → All P (cond a (x ∷ []) [])
      own true x h = All-cons P x [] h (All-nil P)
      own false x h = All-nil P
