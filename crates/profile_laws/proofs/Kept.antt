-- The tally's rows are those of the pcs in order, and each of them is kept by itself.
use Rattle.std.proofs.Common.{◌≡◌, ℕ, zero, suc, ◌+◌, Bool, true, false, ◌||◌, cond, List, [], ◌∷◌, map, refl, sym, ap, ◌∙◌, arith}
use Rattle.rv_semantics.specs.Effect.{is_store}
use Rattle.std.specs.Prelude.{nat_eq}
use Rattle.std.proofs.lemmas.Bool.{or_parts, or_from, cond-false}
use Rattle.cells.specs.Run.{State}
use Rattle.profile_data.specs.Profile.{Tally}
use Rattle.fitting.specs.Claims.{among}
use Rattle.fitting.specs.Fails.{pc_at, fetched_at}
use Rattle.profile_laws.specs.Profiles.{pcs}
use Rattle.profile_laws.specs.Tally.{places, bytes_in, fresh, counted, visited, read_back, kept, visit_at}
use Rattle.profile_laws.proofs.Listed.{AreApart, apart_with_new, among_with_new, at_one, visited_map, is_mark, flagged, any_mark, read_back_map}

-- where no byte is marked with a pc, none of a list is
no_marks : (writers : ℕ → ℕ) (p : ℕ) → ((a : ℕ) → is_mark (writers a) p ≡ false) → (ms : List ℕ) → any_mark writers ms p ≡ false
no_marks writers p none [] = refl
no_marks writers p none (a ∷ ms) = or_from _ _ (none a) (no_marks writers p none ms)

module _ (prints : ℕ → Bool) (start : State) where
  abbrev pub writers_at : ℕ → ℕ → ℕ
  writers_at k = (kept prints start k).writers

  -- whether position k loads a byte of a store at this pc
  abbrev pub is_back : ℕ → ℕ → Bool
  is_back p k =
      any_mark (writers_at k) (bytes_in (visit_at prints start k).loads) p || any_mark (writers_at k) (places 4 (pc_at start k)) p

  -- the row of one pc after k positions
  unfoldable pub row : ℕ → ℕ → Tally
  row zero p = fresh p
  row (suc k) p = at_one (pc_at start k) (counted (visit_at prints start k)) (λ q. flagged (is_back q k) (row k q)) p

  pub row_pc : (k p : ℕ) → (row k p).pc ≡ p
  unfolding row
  row_pc zero p = refl
  row_pc (suc k) p = pc_if_visited (nat_eq (pc_at start k) p) (row_pc k p)
    where
      t : Tally
      t = flagged (is_back p k) (row k p)

      pc_if_visited : (b : Bool) → t.pc ≡ p → (cond b (counted (visit_at prints start k) t) t).pc ≡ p
      pc_if_visited true e = e
      pc_if_visited false e = e

  pub pcs_apart : (k : ℕ) → AreApart (pcs start k)
  unfolding pcs
  pcs_apart zero = tt
  pcs_apart (suc k) = apart_with_new (pcs start k) (pc_at start k) (pcs_apart k)

  -- a pc that was not executed has a fresh row, and no byte is marked with it
  pub unseen : (k p : ℕ) → among (pcs start k) p ≡ false → (row k p ≡ fresh p) × ((a : ℕ) → is_mark (writers_at k a) p ≡ false)
  unfolding row pcs kept
  unseen zero p none = (refl, λ a. refl)
  unseen (suc k) p none =
      let parts = or_parts (among (pcs start k) p) (nat_eq (pc_at start k) p) (sym (among_with_new (pcs start k) (pc_at start k) p) ∙ none) in
      let before = unseen k p parts.0 in
      let back : is_back p k ≡ false = or_from _ _ (no_marks (writers_at k) p before.1 (bytes_in (visit_at prints start k).loads)) (no_marks (writers_at k) p before.1 (places 4 (pc_at start k))) in (
        cond-false (nat_eq (pc_at start k) p) _ _ parts.1 ∙ ap (λ b. flagged b (row k p)) back ∙ ap (flagged false) before.0,
        λ a. still_no_mark (among (bytes_in (visit_at prints start k).puts) a) (is_store (fetched_at start k)) a parts.1 (before.1 a),
      )
    where
      still_no_mark : (b c : Bool) (a : ℕ) → nat_eq (pc_at start k) p ≡ false → is_mark (writers_at k a) p ≡ false → is_mark (cond b (cond c (pc_at start k + 1) 0) (writers_at k a)) p ≡ false
      still_no_mark true true a other none = ap (λ w. is_mark w p) (plus (pc_at start k)) ∙ other
        where
          plus : (n : ℕ) → n + 1 ≡ suc n
          plus n = omega arith
      still_no_mark true false a other none = refl
      still_no_mark false c a other none = none

  pub rows_map : (k : ℕ) → (kept prints start k).rows ≡ map (row k) (pcs start k)
  unfolding row pcs kept
  rows_map zero = refl
  rows_map (suc k) =
      let v = visit_at prints start k in
      let ps = pcs start k in
      let w = writers_at k in
      let front = places 4 (pc_at start k) in
      let back = bytes_in v.loads in
      let f : ℕ → Tally = λ p. flagged (any_mark w back p) (flagged (any_mark w front p) (row k p)) in
      let g : ℕ → Tally = λ p. flagged (is_back p k) (row k p) in
      let read : read_back w back (read_back w front (kept prints start k).rows) ≡ map f ps =
      ap (λ rows. read_back w back (read_back w front rows)) (rows_map k)
      ∙ ap (read_back w back) (read_back_map w front (row k) (row_pc k) ps (pcs_apart k))
      ∙ read_back_map w back (λ p. flagged (any_mark w front p) (row k p)) (row_pc k) ps (pcs_apart k) in
      let same : f ≡ g = λ i p. let t = row k p in
      record { pc = t.pc; executed = t.executed; taken = t.taken; read = assoc (any_mark w back p) (any_mark w front p) t.read i; changed = t.changed; targets = t.targets } in
      ap (visited v) (read ∙ ap (λ (h : ℕ → Tally). map h ps) same)
      ∙ visited_map g (row_pc k) v ps (pcs_apart k) (λ none.
      let u = unseen k (pc_at start k) none in
      ap (λ b. flagged b (row k (pc_at start k))) (or_from _ _ (no_marks w (pc_at start k) u.1 back) (no_marks w (pc_at start k) u.1 front)) ∙ ap (flagged false) u.0)
    where
      assoc : (a b c : Bool) → (a || (b || c)) ≡ ((a || b) || c)
      assoc true b c = refl
      assoc false b c = refl
