-- What stands in the lists of a distiller.
use Rattle.std.proofs.Common.{◌≡◌, ℕ, Bool, true, false, cond, List, [], ◌∷◌, Option, Some, None, All, refl}
use Rattle.std.specs.Prelude.{filter, filter_map, IfSome}
use Rattle.std.specs.List.{cons_option}
use Rattle.std.specs.Option.{option_map}
use Rattle.std.proofs.lemmas.List.Elements.{All-nil, All-cons, All-map}
use Rattle.profile_data.specs.Profile.{Tally}
use Rattle.distill_rules.specs.Analysed.{analysed}
use Rattle.distill_rules.specs.Cuts.{cut_at, is_dead}
use Rattle.distill_rules.specs.Flow.{Site, site}
use Rattle.distill_exact.specs.Laws.{ListsFollow}

-- what is given of each number has P where what is given has it
pub All-filter_map : {X Y : Type 0} (P : Y → Type 0) (h : X → Option Y) → ((x : X) → IfSome (h x) P) → (xs : List X) → All P (filter_map h xs)
All-filter_map P h each [] = All-nil P
All-filter_map {X} {Y} P h each (x ∷ xs) = if_picked (h x) (each x) (All-filter_map P h each xs)
  where
    if_picked : (o : Option Y) → IfSome o P → All P (filter_map h xs) → All P (cons_option o (filter_map h xs))
    if_picked None here later = later
    if_picked (Some y) here later = All-cons P y (filter_map h xs) here later

-- the elements that are left pass
passing : {X : Type 0} (test : X → Bool) (xs : List X) → All (λ x. test x ≡ true) (filter test xs)
passing test [] = All-nil (λ x. test x ≡ true)
passing {X} test (x ∷ xs) = if_passing (test x) refl (passing test xs)
  where
    if_passing : (b : Bool) → test x ≡ b → All (λ x. test x ≡ true) (filter test xs) → All (λ x. test x ≡ true) (cond b (x ∷ filter test xs) (filter test xs))
    if_passing true e later = All-cons (λ x. test x ≡ true) x (filter test xs) e later
    if_passing false e later = later

all_of : {X : Type 0} (P : X → Type 0) → ((x : X) → P x) → (xs : List X) → All P xs
all_of P each [] = All-nil P
all_of P each (x ∷ xs) = All-cons P x xs (each x) (all_of P each xs)

module _ (word : ℕ → ℕ) (rows : List Tally) where
  has_side : (rare pc : ℕ) → IfSome (option_map (λ taken. (pc, taken)) (cut_at word rows rare pc)) (λ (e : ℕ × Bool). cut_at word rows rare e.0 ≡ Some e.1)
  has_side rare pc = if_cut (cut_at word rows rare pc) refl
    where
      if_cut : (o : Option Bool) → cut_at word rows rare pc ≡ o → IfSome (option_map (λ taken. (pc, taken)) o) (λ (e : ℕ × Bool). cut_at word rows rare e.0 ≡ Some e.1)
      if_cut None e = tt
      if_cut (Some side) e = e

  pub lists_follow : ListsFollow word rows
  lists_follow = record {
    cut = λ rare. All-filter_map (λ (e : ℕ × Bool). cut_at word rows rare e.0 ≡ Some e.1) (λ pc. option_map (λ taken. (pc, taken)) (cut_at word rows rare pc)) (has_side rare) (analysed rows);
    dead = λ rare. passing (is_dead word rows) (analysed rows);
    words = λ c. All-map (λ (s : Site). s.word ≡ word s.pc) (site word rows c) (analysed rows) (all_of (λ pc. (site word rows c pc).word ≡ word pc) (λ pc. refl) (analysed rows));
  }
