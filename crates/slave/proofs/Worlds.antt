-- A task of an image's world: which pcs are anchors', and that the start and the slaves play no part.
use Rattle.std.proofs.Common.{◌≡◌, ℕ, ◌+◌, ◌<◌, zero, suc, Bool, true, false, cond, Option, Some, None, List, [], ◌∷◌, refl, sym, ap, ◌∙◌, subst, arith}
use Rattle.std.specs.Prelude.{is_some, slice_get, nat_eq}
use Rattle.std.specs.Option.{option_map}
use Rattle.std.specs.Int.{from_bool}
use Rattle.cells.specs.Cells.{Arch}
use Rattle.cells.specs.Run.{State}
use Rattle.cells.specs.Task.{moves}
use Rattle.speculation.specs.declared.Ending.{Ending}
use Rattle.speculation.specs.declared.Ending.TheVariants.{Reached, Met, Full}
use Rattle.speculation.specs.World.{arrivals}
use Rattle.speculation.specs.Task.{Task, IsTask, EndFits}
use Rattle.dist_image.specs.declared.image.Anchor.{Anchor}
use Rattle.dist_image.specs.Image.{Distilled, anchor_at, anchor_from}
use Rattle.image_semantics.specs.World.{world, task_machine, count_of, entry}

-- an anchor's number is one of the table
abbrev IsIn : ℕ → List Anchor → Option ℕ → Type 0
IsIn from xs None = Unit {0}
IsIn from xs (Some k) = (j : ℕ) × (k ≡ from + j) × (is_some (slice_get xs j) ≡ true)

later_in : (from : ℕ) (x : Anchor) (xs : List Anchor) (o : Option ℕ) → IsIn (from + 1) xs o → IsIn from (x ∷ xs) o
later_in from x xs None h = tt
later_in from x xs (Some k) (j, e, h) = (suc j, omega (arith, e), h)

anchor_in : (from pc : ℕ) (xs : List Anchor) → IsIn from xs (anchor_from from xs pc)
anchor_in from pc [] = tt
anchor_in from pc (x ∷ xs) = is_in_if_there (nat_eq x.pc pc) (later_in from x xs (anchor_from (from + 1) xs pc) (anchor_in (from + 1) pc xs))
  where
    is_in_if_there : (b : Bool) → IsIn from (x ∷ xs) (anchor_from (from + 1) xs pc) → IsIn from (x ∷ xs) (cond b (Some from) (anchor_from (from + 1) xs pc))
    is_in_if_there true later = (0, omega arith, refl)
    is_in_if_there false later = later

entry_in : (xs : List Anchor) (o : Option ℕ) → IsIn 0 xs o → is_some o ≡ is_some (option_map (λ (a : Anchor). a.count) (entry xs o))
entry_in xs None h = refl
entry_in xs (Some k) (j, e, h) = let same : k ≡ j = omega (arith, e) in sym (counted (slice_get xs k) (ap (λ (n : ℕ). is_some (slice_get xs n)) same ∙ h))
  where
    counted : (o : Option Anchor) → is_some o ≡ true → is_some (option_map (λ (a : Anchor). a.count) o) ≡ true
    counted None h = h
    counted (Some a) h = refl

-- the image has an anchor at a pc where its world has one
pub anchored : (image : Distilled) (pc : ℕ) → is_some (anchor_at image pc) ≡ is_some (count_of image pc)
anchored image pc = entry_in image.anchors (anchor_at image pc) (anchor_in 0 pc image.anchors)

pub one_more : (start : State) (image : Distilled) (slaves : ℕ) (c : Arch) (t : ℕ)
    → arrivals (world start image slaves) c (suc t) ≡ from_bool (is_some (anchor_at image (moves (task_machine image) c (suc t)).pc)) + arrivals (world start image slaves) c t
one_more start image slaves c t =
    ap (λ b. cond b 1 0 + arrivals (world start image slaves) c t) (sym (anchored image (moves (task_machine image) c (suc t)).pc))
    ∙ ap (λ (n : ℕ). n + arrivals (world start image slaves) c t) (as_number (is_some (anchor_at image (moves (task_machine image) c (suc t)).pc)))
  where
    as_number : (b : Bool) → cond b 1 0 ≡ from_bool b
    as_number true = refl
    as_number false = refl

module _ (start : State) (image : Distilled) (m n : ℕ) where
  arrivals_same : (c : Arch) (t : ℕ) → arrivals (world start image m) c t ≡ arrivals (world start image n) c t
  arrivals_same c zero = refl
  arrivals_same c (suc t) = ap (λ (a : ℕ). cond (is_some (count_of image (moves (task_machine image) c (suc t)).pc)) 1 0 + a) (arrivals_same c t)

  fewer : (c : Arch) (t count : ℕ) → arrivals (world start image m) c t < count → arrivals (world start image n) c t < count
  fewer c t count l = subst (λ (a : ℕ). a < count) (arrivals_same c t) l

  ends_same : (t : Task) (o : Option Ending) → EndFits (world start image m) t o → EndFits (world start image n) t o
  ends_same t None (l, a) = (l, fewer t.base t.steps t.count a)
  ends_same t (Some Met) (l, a, stops) = (l, fewer t.base t.steps t.count a, stops)
  ends_same t (Some Reached) (a, l) = (sym (arrivals_same t.base t.steps) ∙ a, l)
  ends_same t (Some Full) (e, a) = (e, fewer t.base t.steps t.count a)

  pub task_same : (t : Task) → IsTask (world start image m) t → IsTask (world start image n) t
  task_same t h = record { quiet = h.quiet; within = h.within; counted = λ i l. fewer t.base i t.count (h.counted i l); ended = ends_same t t.ending h.ended }
