-- What is kept of leaves beside a memory stays right where other leaves change.
use Rattle.std.proofs.Common.{◌≡◌, ℕ, ◌==◌, if◌then◌else◌, cond, true, false, Option, None, Some, is_some, slice_index, ⊎_elim, sym, ap, ◌∙◌}
use Rattle.std.proofs.lemmas.Bool.{cases_eq, ne_eqb, eq-eqb}
use Rattle.tree_node.specs.declared.node.Node.{Node}
use Rattle.page_leaves.specs.Paths.{leaf_bytes}
use Rattle.page_leaves.proofs.Trees.{Leaves}

-- the byte at a place of what may be a leaf
abbrev at_byte : Option Node → ℕ → ℕ
at_byte o i = slice_index (leaf_bytes o) i

-- leaves that are kept (code) hold what the memory (l) holds
abbrev Keeps : Leaves → Leaves → Type 0
Keeps code l = (n i : ℕ) → is_some (code n) ≡ true → at_byte (code n) i ≡ at_byte (l n) i

-- a leaf changes, and is no longer kept
pub kept_by : (code code' l l' : Leaves) (number : ℕ) → Keeps code l → ((n : ℕ) → code' n ≡ (if n == number then None else code n)) → ((n : ℕ) → (n ≡ number → ⊥) → l' n ≡ l n) → Keeps code' l'
kept_by code code' l l' number kept forgot others n i some = ⊎_elim
    (λ e. absurd (let f : is_some (code' n) ≡ false = ap is_some (forgot n ∙ ap (λ b. cond b None (code n)) (eq-eqb n number e)) in let g : true ≡ false = sym some ∙ f in cc))
    (λ ne. let own : code' n ≡ code n = forgot n ∙ ap (λ b. cond b None (code n)) (ne_eqb n number ne) in
    ap (λ o. at_byte o i) own ∙ kept n i (ap is_some (sym own) ∙ some) ∙ ap (λ o. at_byte o i) (sym (others n ne)))
    (cases_eq n number)

-- a leaf changes that wasn't kept
pub kept_without : (code l l' : Leaves) (number : ℕ) → Keeps code l → is_some (code number) ≡ false → ((n : ℕ) → (n ≡ number → ⊥) → l' n ≡ l n) → Keeps code l'
kept_without code l l' number kept none others n i some = ⊎_elim
    (λ e. absurd (let g : true ≡ false = sym some ∙ ap (λ k. is_some (code k)) e ∙ none in cc))
    (λ ne. kept n i some ∙ ap (λ o. at_byte o i) (sym (others n ne)))
    (cases_eq n number)

-- one more leaf of the memory is kept, and those at its place (p) no longer
pub kept_more : (p : ℕ → ℕ) (code code' l : Leaves) (number : ℕ) (leaf : Node) → Keeps code l → l number ≡ Some leaf → code' number ≡ Some leaf
    → ((n : ℕ) → p n ≡ p number → (n ≡ number → ⊥) → code' n ≡ None) → ((n : ℕ) → (p n ≡ p number → ⊥) → code' n ≡ code n) → Keeps code' l
kept_more p code code' l number leaf kept there here away others n i some = ⊎_elim
    (λ e. ap (λ o. at_byte o i) (ap code' e ∙ here ∙ sym there ∙ ap l (sym e)))
    (λ ne. ⊎_elim
    (λ same. absurd (let g : true ≡ false = sym some ∙ ap is_some (away n same ne) in cc))
    (λ apart. ap (λ o. at_byte o i) (others n apart) ∙ kept n i (ap is_some (sym (others n apart)) ∙ some))
    (cases_eq (p n) (p number)))
    (cases_eq n number)

-- two leaves change, and are no longer kept
pub kept_both : (code mid code' l l' : Leaves) (first second : ℕ) → Keeps code l → ((n : ℕ) → mid n ≡ (if n == first then None else code n)) → ((n : ℕ) → code' n ≡ (if n == second then None else mid n))
    → ((n : ℕ) → (n ≡ first → ⊥) → (n ≡ second → ⊥) → l' n ≡ l n) → Keeps code' l'
kept_both code mid code' l l' first second kept one two others =
    kept_by mid code' m l' second (kept_by code mid l m first kept one to_first) two (λ n ne. sym (ap (λ b. cond b (l n) (l' n)) (ne_eqb n second ne)))
  where
    m : Leaves
    m n = if n == second then l n else l' n

    to_first : (n : ℕ) → (n ≡ first → ⊥) → m n ≡ l n
    to_first n ne = ⊎_elim (λ e. ap (λ b. cond b (l n) (l' n)) (eq-eqb n second e)) (λ apart. ap (λ b. cond b (l n) (l' n)) (ne_eqb n second apart) ∙ others n ne apart) (cases_eq n second)

-- two leaves change that weren't kept
pub kept_without_both : (code l l' : Leaves) (first second : ℕ) → Keeps code l → is_some (code first) ≡ false → is_some (code second) ≡ false → ((n : ℕ) → (n ≡ first → ⊥) → (n ≡ second → ⊥) → l' n ≡ l n) → Keeps code l'
kept_without_both code l l' first second kept one two others n i some = ⊎_elim
    (λ e. absurd (let g : true ≡ false = sym some ∙ ap (λ k. is_some (code k)) e ∙ one in cc))
    (λ ne. ⊎_elim
    (λ e. absurd (let g : true ≡ false = sym some ∙ ap (λ k. is_some (code k)) e ∙ two in cc))
    (λ apart. kept n i some ∙ ap (λ o. at_byte o i) (sym (others n ne apart)))
    (cases_eq n second))
    (cases_eq n first)
