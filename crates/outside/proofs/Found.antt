-- The file of a name in a list of files, where the first of that name stands, and after that one is replaced.
use Rattle.std.proofs.Common.{◌≡◌, ℕ, zero, suc, ◌<◌, ◌≤◌, Bool, true, false, cond, List, [], ◌∷◌, ◌++◌, map, length, get_or, set, Option, Some, None, refl, sym, ap, subst, ◌∙◌, arith, string_bytes}
use Rattle.std.proofs.lemmas.Bool.Decides.{nat_tests}
use Rattle.std.proofs.lemmas.List.{map-append}
use Rattle.std.proofs.lemmas.List.Quantifiers.{position-Some}
use Rattle.std.proofs.lemmas.List.Sums.{fails_before_first}
use Rattle.std.specs.Bool.{Decides}
use Rattle.std.specs.List.{position, position_or_len}
use Rattle.std.specs.Ordering.{nat_cmp, eq_by_cmp}
use Rattle.std.specs.Cmp.Lexicographic.{slice_cmp, texts_ties, bytes_decides, nat_list_cmp_total}
use Rattle.std.specs.FinMap as finite
use Rattle.std.specs.FinMap.{find}
use Rattle.outside.specs.Files.{Entry, Files, entry_of, files_of, is_named}

-- the first of that name among these
abbrev found : List ℕ → List Entry → Option (List ℕ)
found name es = find (slice_cmp nat_cmp) name (map entry_of es)

get-files_of : (es : List Entry) (name : List ℕ) → finite.get (files_of es) name ≡ found name es
get-files_of es name = finite.get-from_entries nat_list_cmp_total (map entry_of es) name

abbrev ties : List ℕ → List ℕ → Bool
ties = eq_by_cmp (slice_cmp nat_cmp)

ties_decides : (a b : List ℕ) → Decides (ties a b) (a ≡ b)
ties_decides a b = subst (λ t. Decides t (a ≡ b)) (texts_ties a b) (bytes_decides a b)

false_where : (t : Bool) → ¬ (t ≡ true) → t ≡ false
false_where t never = elim t as (λ b. ¬ (b ≡ true) → b ≡ false) [ true ↦ λ h. absurd (h refl) | false ↦ λ h. refl ] never

-- the first is this file
tied_first : (name : List ℕ) (x : Entry) → is_named name x ≡ true → ties name (string_bytes x.0) ≡ true
tied_first name x is = (ties_decides name (string_bytes x.0)).1 (sym ((bytes_decides (string_bytes x.0) name).0 is))

untied_first : (name : List ℕ) (x : Entry) → is_named name x ≡ false → ties name (string_bytes x.0) ≡ false
untied_first name x other = false_where _ (λ is. let named : is_named name x ≡ true = (bytes_decides (string_bytes x.0) name).1 (sym ((ties_decides name (string_bytes x.0)).0 is)) in cc)

found_none : (name : List ℕ) (es : List Entry) → ((k : ℕ) (d : Entry) → k < length es → is_named name (get_or es k d) ≡ false) → found name es ≡ None
found_none name [] none = refl
found_none name (x ∷ xs) none =
    ap (λ t. cond t (Some x.1.items) (found name xs)) (untied_first name x (none 0 x (omega arith)))
    ∙ found_none name xs (λ k d lt. none (suc k) d (omega arith))

found_here : (name : List ℕ) (es : List Entry) (i : ℕ) (d : Entry) → i < length es → is_named name (get_or es i d) ≡ true → ((k : ℕ) → k < i → is_named name (get_or es k d) ≡ false) → found name es ≡ Some (get_or es i d).1.items
found_here name [] i d lt same none = absurd (omega arith)
found_here name (x ∷ xs) zero d lt same none = ap (λ t. cond t (Some x.1.items) (found name xs)) (tied_first name x same)
found_here name (x ∷ xs) (suc i) d lt same none =
    ap (λ t. cond t (Some x.1.items) (found name xs)) (untied_first name x (none 0 (omega arith)))
    ∙ found_here name xs i d (omega arith) same (λ k below. none (suc k) (omega arith))

shadowed : {A : Type 0} (b : Bool) (x y z : A) → cond b x z ≡ cond b x (cond b y z)
shadowed true x y z = refl
shadowed false x y z = refl

reordered : {A : Type 0} (a b : Bool) (x y z : A) → (a ≡ true → b ≡ true → ⊥) → cond a x (cond b y z) ≡ cond b y (cond a x z)
reordered true true x y z apart = absurd (apart refl refl)
reordered true false x y z apart = refl
reordered false b x y z apart = refl

-- where the first file of a name is replaced by another of that name
found-set : (name other : List ℕ) (es : List Entry) (i : ℕ) (e : Entry) → i < length es → is_named name (get_or es i e) ≡ true → ((k : ℕ) → k < i → is_named name (get_or es k e) ≡ false) → string_bytes e.0 ≡ name → found other (set es i e) ≡ cond (ties other name) (Some e.1.items) (found other es)
found-set name other [] i e lt same none new = absurd (omega arith)
found-set name other (x ∷ xs) zero e lt same none new =
    ap (λ n. cond (ties other n) (Some e.1.items) (found other xs)) new ∙ shadowed (ties other name) (Some e.1.items) (Some x.1.items) (found other xs)
    ∙ ap (λ n. cond (ties other name) (Some e.1.items) (cond (ties other n) (Some x.1.items) (found other xs))) (sym ((bytes_decides (string_bytes x.0) name).0 same))
found-set name other (x ∷ xs) (suc i) e lt same none new =
    let unlike : ties other (string_bytes x.0) ≡ true → ties other name ≡ true → ⊥ =
    λ p q. let e : name ≡ string_bytes x.0 = sym ((ties_decides other name).0 q) ∙ (ties_decides other (string_bytes x.0)).0 p in
    let tied : ties name (string_bytes x.0) ≡ true = (ties_decides name (string_bytes x.0)).1 e in
    let untied : ties name (string_bytes x.0) ≡ false = untied_first name x (none 0 (omega arith)) in cc in
    ap (cond (ties other (string_bytes x.0)) (Some x.1.items)) (found-set name other xs i e (omega arith) same (λ k below. none (suc k) (omega arith)) new)
    ∙ reordered (ties other (string_bytes x.0)) (ties other name) (Some x.1.items) (Some e.1.items) (found other xs) unlike

-- no file passes a test that has no first place
all_fail : (p : Entry → Bool) (es : List Entry) → position p es ≡ None → (k : ℕ) (d : Entry) → k < length es → p (get_or es k d) ≡ false
all_fail p es none k d lt =
    let last : length es ≤ position_or_len p es = grind (arith, nat_tests) in
    fails_before_first p es k d (omega arith)

pub get_nowhere : (name : List ℕ) (es : List Entry) → position (is_named name) es ≡ None → finite.get (files_of es) name ≡ None
get_nowhere name es none = get-files_of es name ∙ found_none name es (all_fail (is_named name) es none)

pub get_at : (name : List ℕ) (es : List Entry) (place : ℕ) (e : Entry) → position (is_named name) es ≡ Some place → e ≡ get_or es place e → finite.get (files_of es) name ≡ Some e.1.items
get_at name es place e at is =
    let first = position-Some (is_named name) es place e at in
    get-files_of es name ∙ found_here name es place e first.0 first.1 first.2 ∙ ap (λ x. Some x.1.items) (sym is)

pub name_at : (name : List ℕ) (es : List Entry) (place : ℕ) (e : Entry) → position (is_named name) es ≡ Some place → e ≡ get_or es place e → string_bytes e.0 ≡ name
name_at name es place e at is = ap (λ x. string_bytes x.0) is ∙ (bytes_decides (string_bytes (get_or es place e).0) name).0 (position-Some (is_named name) es place e at).1

same_files : (a b : Files) → ((other : List ℕ) → finite.get a other ≡ finite.get b other) → a ≡ b
same_files = finite.same_map nat_list_cmp_total (finite.slice_cmp-IsAntisymmetric finite.nat_cmp-IsAntisymmetric)

pub files_of-set : (name : List ℕ) (es : List Entry) (place : ℕ) (e : Entry) → position (is_named name) es ≡ Some place → string_bytes e.0 ≡ name → files_of (set es place e) ≡ finite.insert (files_of es) name e.1.items
files_of-set name es place e at new =
    let first = position-Some (is_named name) es place e at in
    same_files _ _ (λ other. get-files_of (set es place e) other ∙ found-set name other es place e first.0 first.1 first.2 new
    ∙ ap (cond (ties other name) (Some e.1.items)) (sym (get-files_of es other)) ∙ sym (finite.get-insert nat_list_cmp_total (files_of es) name e.1.items other))

pub files_of-push : (name : List ℕ) (es : List Entry) (e : Entry) → position (is_named name) es ≡ None → string_bytes e.0 ≡ name → files_of (es ++ e ∷ []) ≡ finite.insert (files_of es) name e.1.items
files_of-push name es e none new =
    let absent : found (string_bytes e.0) es ≡ None = rw new (found_none name es (all_fail (is_named name) es none)) in
    ap (finite.from_entries) (map-append entry_of es (e ∷ []))
    ∙ finite.from_entries_push nat_list_cmp_total (finite.slice_cmp-IsAntisymmetric finite.nat_cmp-IsAntisymmetric) (map entry_of es) (string_bytes e.0) e.1.items absent
    ∙ ap (λ n. finite.insert (files_of es) n e.1.items) new
