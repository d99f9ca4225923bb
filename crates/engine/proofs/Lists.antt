-- Lists of tasks: the slave's event, and that all are tasks of an image.
use Rattle.std.proofs.Common.{◌≡◌, ℕ, ◌<◌, suc, zero, Bool, true, false, cond, not, ◌&&◌, List, [], ◌∷◌, ◌++◌, length, get_or, Option, Some, None, refl, sym, ap, ◌∙◌, subst, arith}
use Rattle.std.specs.Prelude.{map, is_some, nat_lt}
use Rattle.std.specs.List.{position, position_or_len}
use Rattle.std.proofs.lemmas.Bool.{ltb-false}
use Rattle.std.proofs.lemmas.List.{length-map, map-append, get_or-map}
use Rattle.std.proofs.lemmas.List.Sums.{fails_before_first}
use Rattle.std.proofs.Math.ListN.{set}
use Rattle.speculation.specs.declared.Effect.TheVariants.{Idle}
use Rattle.speculation.specs.declared.Ending.{Ending}
use Rattle.speculation.specs.World.{World}
use Rattle.speculation.specs.Task.{Task, advance, is_run_by}
use Rattle.speculation.specs.Engine.{told_task, slave_told, slave_tasks}
use Rattle.dist_image.specs.Image.{Distilled}
use Rattle.slave.specs.Task.{Shown, IsTaskOf}
use Rattle.engine.specs.Shown.{AreTasksOf, younger}

-- no task runs on the slave
pub none_goes : {X : Type 0} (g : X → Task) (w : World) (j : ℕ) (xs : List X) (none : (k : ℕ) (d : X) → k < length xs → is_run_by w.slaves j (g (get_or xs k d)) ≡ false)
    → (slave_told w j (map g xs) ≡ Idle) × (slave_tasks w j (map g xs) ≡ map g xs)
none_goes g w j [] none = (refl, refl)
none_goes g w j (x ∷ xs) none =
    let here : is_run_by w.slaves j (g x) ≡ false = none 0 x (omega arith) in
    let later = none_goes g w j xs (λ k d l. none (suc k) d (omega (arith, l))) in (
      ap (λ b. cond b (told_task (advance w (g x)).ending) (slave_told w j (map g xs))) here ∙ later.0,
      ap (λ b. cond b (advance w (g x) ∷ map g xs) (g x ∷ slave_tasks w j (map g xs))) here ∙ ap (λ l. g x ∷ l) later.1,
    )

-- the first that runs on the slave goes on
pub first_goes : {X : Type 0} (g : X → Task) (w : World) (j : ℕ) (xs : List X) (i : ℕ) (d : X) → i < length xs
    → is_run_by w.slaves j (g (get_or xs i d)) ≡ true → ((k : ℕ) → k < i → is_run_by w.slaves j (g (get_or xs k d)) ≡ false)
    → (slave_told w j (map g xs) ≡ told_task (advance w (g (get_or xs i d))).ending) × (slave_tasks w j (map g xs) ≡ set (map g xs) i (advance w (g (get_or xs i d))))
first_goes g w j [] i d l runs before = absurd (omega (arith, l))
first_goes g w j (x ∷ xs) zero d l runs before = (
  ap (λ b. cond b (told_task (advance w (g x)).ending) (slave_told w j (map g xs))) runs,
  ap (λ b. cond b (advance w (g x) ∷ map g xs) (g x ∷ slave_tasks w j (map g xs))) runs,
)
first_goes g w j (x ∷ xs) (suc i) d l runs before =
    let here : is_run_by w.slaves j (g x) ≡ false = before 0 (omega arith) in
    let later = first_goes g w j xs i d (omega (arith, l)) runs (λ k b. before (suc k) (omega (arith, b))) in (
      ap (λ b. cond b (told_task (advance w (g x)).ending) (slave_told w j (map g xs))) here ∙ later.0,
      ap (λ b. cond b (advance w (g x) ∷ map g xs) (g x ∷ slave_tasks w j (map g xs))) here ∙ ap (λ t. g x ∷ t) later.1,
    )

-- where no element passes, none before the end does
pub none_passes : {X : Type 0} (p : X → Bool) (xs : List X) → position p xs ≡ None → (k : ℕ) (d : X) → k < length xs → p (get_or xs k d) ≡ false
none_passes p xs e k d l = none_if_within (nat_lt (position_or_len p xs) (length xs)) refl e
  where
    none_if_within : (b : Bool) → nat_lt (position_or_len p xs) (length xs) ≡ b → cond b (Some (position_or_len p xs)) None ≡ None → p (get_or xs k d) ≡ false
    none_if_within true is h = absurd (cc)
    none_if_within false is h = let far = ltb-false (position_or_len p xs) (length xs) is in fails_before_first p xs k d (omega (arith, l, far))

-- where no task was found, none passes in the list of what they show
pub none_is : {X : Type 0} (f : X → Shown) (p : Shown → Bool) (xs : List X) → None ≡ position (λ t. p (f t)) xs → (k : ℕ) (d : Shown) → k < length (map f xs) → p (get_or (map f xs) k d) ≡ false
none_is f p [] found k d l = absurd (omega (arith, l))
none_is f p (x ∷ xs) found k d l =
    let h : k < length (x ∷ xs) = subst (λ n. k < n) (length-map (x ∷ xs) f) l in
    ap p (get_or-map f (x ∷ xs) k x d h) ∙ none_passes (λ t. p (f t)) (x ∷ xs) (sym found) k x h

-- what passes is still running
pub running : (b : Bool) (o : Option Ending) → (b && not (is_some o)) ≡ true → is_some o ≡ false
running true None e = refl
running true (Some x) e = absurd (cc)
running false o e = absurd (cc)

pub none_of : (o : Option Ending) → is_some o ≡ false → o ≡ None
none_of None e = refl
none_of (Some x) e = absurd (cc)

-- a list that was empty, with one element pushed
pub one_pushed : {X Y : Type 0} (f : X → Y) (xs ys : List X) (x : X) (y : Y) → length xs ≡ 0 → ys ≡ xs ++ x ∷ [] → f x ≡ y → map f ys ≡ y ∷ []
one_pushed f [] ys x y none is shows = ap (map f) is ∙ ap (λ z. z ∷ []) shows
one_pushed f (z ∷ xs) ys x y none is shows = absurd (omega (arith, none))

-- a list, with one element pushed
pub more_pushed : {X Y : Type 0} (f : X → Y) (xs ys : List X) (x : X) (y : Y) → ys ≡ xs ++ x ∷ [] → f x ≡ y → map f ys ≡ map f xs ++ y ∷ []
more_pushed f xs ys x y is shows = ap (map f) is ∙ map-append f xs (x ∷ []) ∙ ap (λ z. map f xs ++ z ∷ []) shows

-- a list by its first element
pub first_of : {X : Type 0} (f : X → Shown) (xs : List X) (x : X) → 0 < length xs → x ≡ get_or xs 0 x → map f xs ≡ f x ∷ younger (map f xs)
first_of f [] x some is = absurd (omega (arith, some))
first_of f (y ∷ ys) x some is = ap (λ z. f z ∷ map f ys) (sym is)

module _ (image : Distilled) where
  pub task_at : (ks : List Shown) (i : ℕ) (d : Shown) → AreTasksOf image ks → i < length ks → IsTaskOf image (get_or ks i d)
  task_at [] i d h l = absurd (omega (arith, l))
  task_at (k ∷ ks) zero d h l = h.0
  task_at (k ∷ ks) (suc i) d h l = task_at ks i d h.1 (omega (arith, l))

  pub tasks_set : (ks : List Shown) (i : ℕ) (y : Shown) → AreTasksOf image ks → IsTaskOf image y → AreTasksOf image (set ks i y)
  tasks_set [] i y h one = h
  tasks_set (k ∷ ks) zero y h one = (one, h.1)
  tasks_set (k ∷ ks) (suc i) y h one = (h.0, tasks_set ks i y h.1 one)

  pub tasks_append : (ks : List Shown) (y : Shown) → AreTasksOf image ks → IsTaskOf image y → AreTasksOf image (ks ++ y ∷ [])
  tasks_append [] y h one = (one, tt)
  tasks_append (k ∷ ks) y h one = (h.0, tasks_append ks y h.1 one)

  pub tasks_younger : (ks : List Shown) → AreTasksOf image ks → AreTasksOf image (younger ks)
  tasks_younger [] h = tt
  tasks_younger (k ∷ ks) h = h.1
