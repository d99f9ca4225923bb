-- Rows by their program counters: in a map, and in its list of rows.
use Rattle.std.proofs.Common.{◌≡◌, ℕ, nat_eq, ◌==◌, Bool, cond, List, [], ◌∷◌, ◌++◌, map, is_some, false, Option, Some, None, refl, sym, ap, ◌∙◌, arith}
use Rattle.std.proofs.lemmas.Bool.Decides.{nat_tests}
use Rattle.std.proofs.lemmas.List.{map_push}
use Rattle.std.specs.Map.{lookup, keys_of, values_of}
use Rattle.indexmap.specs.IndexMap.{IndexMap, get, keys, values, insert_entry}
use Rattle.indexmap.proofs.CallerLemmas.{insert_entry-new}
use Rattle.profile_data.specs.Profile.{Tally, pc_of, row_at}
use Rattle.profile_data.specs.Keyed.{IsKeyed}

heads : (a b : ℕ) (xs ys : List ℕ) → a ∷ xs ≡ b ∷ ys → (a ≡ b) × (xs ≡ ys)
heads a b xs ys e = (cc, cc)

eqb_swap : (a b : ℕ) → (a == b) ≡ (b == a)
eqb_swap a b = grind (arith, nat_tests)

in_entries : (pc : ℕ) (es : List (ℕ × Tally)) → keys_of es ≡ map pc_of (values_of es) → lookup (nat_eq pc) es ≡ row_at (values_of es) pc
in_entries pc [] keyed = refl
in_entries pc (e ∷ es) keyed =
    let h = heads e.0 (e.1).pc (keys_of es) (map pc_of (values_of es)) keyed in
    let test : (pc == e.0) ≡ ((e.1).pc == pc) = ap (λ (k : ℕ). pc == k) h.0 ∙ eqb_swap pc (e.1).pc in
    ap (λ (b : Bool). cond b (Some e.1) (lookup (nat_eq pc) es)) test ∙ ap (λ (o : Option Tally). cond ((e.1).pc == pc) (Some e.1) o) (in_entries pc es h.1)

-- what a map has at a program counter is the row that has it
pub get_keyed : {S : Type 0} (m : IndexMap ℕ Tally S) (pc : ℕ) → IsKeyed m → get nat_eq m pc ≡ row_at (values m) pc
get_keyed m pc keyed = in_entries pc m.entries keyed

-- a program counter that no row has goes last
pub inserted : {S : Type 0} (m n : IndexMap ℕ Tally S) (k : ℕ) (t : Tally) → IsKeyed m → k ≡ t.pc → is_some (row_at (values m) t.pc) ≡ false → n.entries ≡ insert_entry nat_eq m.entries k t → (values n ≡ values m ++ t ∷ []) × IsKeyed n
inserted m n k t keyed is new added =
    let none : get nat_eq m k ≡ None = get_keyed m k keyed ∙ absent (row_at (values m) k) (ap (λ (q : ℕ). is_some (row_at (values m) q)) is ∙ new) in
    let pushed : n.entries ≡ m.entries ++ (k, t) ∷ [] = added ∙ insert_entry-new nat_eq m k t none in
    let rows : values n ≡ values m ++ t ∷ [] = ap values_of pushed ∙ map_push (λ (e : ℕ × Tally). e.1) m.entries (k, t) in
    let pcs : keys n ≡ keys m ++ k ∷ [] = ap keys_of pushed ∙ map_push (λ (e : ℕ × Tally). e.0) m.entries (k, t) in
    (rows, pcs ∙ ap (λ (ks : List ℕ). ks ++ k ∷ []) keyed ∙ ap (λ (q : ℕ). map pc_of (values m) ++ q ∷ []) is ∙ sym (map_push pc_of (values m) t) ∙ ap (map pc_of) (sym rows))
  where
    absent : (o : Option Tally) → is_some o ≡ false → o ≡ None
    absent None e = refl
    absent (Some x) e = absurd cc
