-- The leaves in front of a tree and those in it, and what a put does to the bytes.
use Rattle.std.proofs.Common.{◌≡◌, ℕ, ◌+◌, ◌-◌, ◌*◌, ◌/◌, ◌%◌, ◌^◌, ◌<◌, ◌≤◌, ◌==◌, if◌then◌else◌, cond, List, ◌++◌, length, take, drop, true, false, Option, None, Some, is_some, slice_index, get_or, ◌⊎◌, inl, inr, ⊎_elim, refl, sym, ap, ◌∙◌, subst, arith}
use mathlib.Core.Path.{fun_ext}
use Rattle.std.proofs.lemmas.List.{get_or_append_left, get_or-append_right, get_or-take, get_or-drop, length-take-le}
use Rattle.std.proofs.lemmas.Bool.{cases_eq, cases_lt, ne_eqb, eq-eqb}
use Rattle.cells.specs.Bytes.{after_puts, number}
use Rattle.tree_node.specs.declared.node.Node.{Node}
use Rattle.tree_node.specs.Nodes.{bytes_of, overwritten}
use Rattle.page_leaves.specs.Paths.{leaf_bytes, IsWritten, IsAlike}
use Rattle.page_leaves.specs.Trees.{or_else, leaves_of}
use Rattle.memory.proofs.Puts.{puts_outside, puts_inside}

-- leaves by number, in front (f) and in the tree (t)
abbrev pub Leaves : Type 0
Leaves = ℕ → Option Node

pub or_else_some : (o p : Option Node) → is_some o ≡ true → or_else o p ≡ o
or_else_some None p e = cc
or_else_some (Some x) p e = refl

pub or_else_same : (o p : Option Node) → or_else o o ≡ o
or_else_same None p = refl
or_else_same (Some x) p = refl

-- the tree has what stands in front of it at this number
pub settled_at : (f t t' : Leaves) (number : ℕ) (leaf : Node) → f number ≡ Some leaf → ((n : ℕ) → t' n ≡ (if n == number then Some leaf else t n))
    → (n : ℕ) → or_else (f n) (t' n) ≡ or_else (f n) (t n)
settled_at f t t' number leaf there is n = ⊎_elim
    (λ e. let own : f n ≡ Some leaf = ap f e ∙ there in ap (λ o. or_else o (t' n)) own ∙ sym (ap (λ o. or_else o (t n)) own))
    (λ ne. ap (or_else (f n)) (is n ∙ ap (λ b. cond b (Some leaf) (t n)) (ne_eqb n number ne)))
    (cases_eq n number)

pub settled_here : (f t' : Leaves) (t : Leaves) (number : ℕ) (leaf : Node) → f number ≡ Some leaf → ((n : ℕ) → t' n ≡ (if n == number then Some leaf else t n)) → t' number ≡ or_else (f number) (t' number)
settled_here f t' t number leaf there is = is number ∙ ap (λ b. cond b (Some leaf) (t number)) (eq-eqb number number refl) ∙ sym (ap (λ o. or_else o (t' number)) there)

-- a place in front is made free, once the tree has what stood there
pub freed : (f f' t : Leaves) (number other : ℕ) → ((n : ℕ) → n % 16 ≡ number % 16 → (n ≡ other → ⊥) → f n ≡ None) → t other ≡ or_else (f other) (t other)
    → ((n : ℕ) → n % 16 ≡ number % 16 → f' n ≡ None) → ((n : ℕ) → (n % 16 ≡ number % 16 → ⊥) → f' n ≡ f n) → (n : ℕ) → or_else (f' n) (t n) ≡ or_else (f n) (t n)
freed f f' t number other alone settled free others n = ⊎_elim
    (λ same. ap (λ o. or_else o (t n)) (free n same) ∙ ⊎_elim
    (λ e. ap t e ∙ settled ∙ ap (λ k. or_else (f k) (t k)) (sym e))
    (λ ne. sym (ap (λ o. or_else o (t n)) (alone n same ne)))
    (cases_eq n other))
    (λ apart. ap (λ o. or_else o (t n)) (others n apart))
    (cases_eq (n % 16) (number % 16))

pub free_all : (f : Leaves) (number : ℕ) → f number ≡ None → ((n : ℕ) → n % 16 ≡ number % 16 → (n ≡ number → ⊥) → f n ≡ None) → (n : ℕ) → n % 16 ≡ number % 16 → f n ≡ None
free_all f number here away n same = ⊎_elim (λ e. ap f e ∙ here) (λ ne. away n same ne) (cases_eq n number)

-- a leaf is taken from the tree to the front
pub brought : (f f' t t' : Leaves) (number : ℕ) (leaf : Option Node) → ((n : ℕ) → n % 16 ≡ number % 16 → f n ≡ None) → leaf ≡ t number
    → ((n : ℕ) → (n ≡ number → ⊥) → t' n ≡ t n) → (t' number ≡ None) ⊎ (t' number ≡ t number) → f' number ≡ leaf → ((n : ℕ) → n % 16 ≡ number % 16 → (n ≡ number → ⊥) → f' n ≡ None)
    → ((n : ℕ) → (n % 16 ≡ number % 16 → ⊥) → f' n ≡ f n) → (n : ℕ) → or_else (f' n) (t' n) ≡ or_else (f n) (t n)
brought f f' t t' number leaf free own others here is away apart n = ⊎_elim same (λ ne. ⊎_elim
    (λ e. ap (λ o. or_else o (t' n)) (away n e ne) ∙ others n ne ∙ sym (ap (λ o. or_else o (t n)) (free n e)))
    (λ e. ap (λ o. or_else o (t' n)) (apart n e) ∙ ap (or_else (f n)) (others n ne))
    (cases_eq (n % 16) (number % 16)))
    (cases_eq n number)
  where
    first : (o p : Option Node) → (p ≡ None) ⊎ (p ≡ o) → or_else o p ≡ o
    first None p h = ⊎_elim (λ e. e) (λ e. e) h
    first (Some x) p h = refl

    same : n ≡ number → or_else (f' n) (t' n) ≡ or_else (f n) (t n)
    same e =
        ap (λ k. or_else (f' k) (t' k)) e
        ∙ ap (λ o. or_else o (t' number)) (is ∙ own)
        ∙ first (t number) (t' number) here
        ∙ sym (ap (λ o. or_else o (t number)) (free number refl))
        ∙ ap (λ k. or_else (f k) (t k)) (sym e)

-- a leaf is taken from the tree to the front, past those that stand aside (s)
pub fetched : (f f' s t t' : Leaves) (number : ℕ) (leaf : Option Node) → s number ≡ None → ((n : ℕ) → n % 16 ≡ number % 16 → f n ≡ None) → leaf ≡ t number
    → ((n : ℕ) → (n ≡ number → ⊥) → t' n ≡ t n) → (t' number ≡ None) ⊎ (t' number ≡ t number) → f' number ≡ leaf → ((n : ℕ) → n % 16 ≡ number % 16 → (n ≡ number → ⊥) → f' n ≡ None)
    → ((n : ℕ) → (n % 16 ≡ number % 16 → ⊥) → f' n ≡ f n) → (n : ℕ) → or_else (f' n) (or_else (s n) (t' n)) ≡ or_else (f n) (or_else (s n) (t n))
fetched f f' s t t' number leaf none free own others here is away apart =
    let at : (u : Leaves) → or_else (s number) (u number) ≡ u number = λ u. ap (λ o. or_else o (u number)) none in
    brought f f' (λ n. or_else (s n) (t n)) (λ n. or_else (s n) (t' n)) number leaf free (own ∙ sym (at t)) (λ n ne. ap (or_else (s n)) (others n ne))
    (⊎_elim (λ e. inl (at t' ∙ e)) (λ e. inr (at t' ∙ e ∙ sym (at t))) here) is away apart

pub stayed_behind : (f s t t' : Leaves) (number : ℕ) → ((n : ℕ) → (n ≡ number → ⊥) → t' n ≡ t n) → t' number ≡ t number → (n : ℕ) → or_else (f n) (or_else (s n) (t' n)) ≡ or_else (f n) (or_else (s n) (t n))
stayed_behind f s t t' number others here n = ap (λ o. or_else (f n) (or_else (s n) o)) (⊎_elim (λ e. ap t' e ∙ here ∙ ap t (sym e)) (others n) (cases_eq n number))

-- of two of which one is none the order is free
either_first : (o p q : Option Node) → (o ≡ None) ⊎ (p ≡ None) → or_else p (or_else o q) ≡ or_else o (or_else p q)
either_first None None q h = refl
either_first None (Some y) q h = refl
either_first (Some x) None q h = refl
either_first (Some x) (Some y) q h = absurd (⊎_elim (λ e. let k : true ≡ false = ap is_some e in cc) (λ e. let k : true ≡ false = ap is_some e in cc) h)

-- what stands in front and what stands aside change places
pub turned : (f f' s s' t : Leaves) (number : ℕ) → ((n : ℕ) → n % 16 ≡ number % 16 → (f n ≡ None) ⊎ (s n ≡ None)) → ((n : ℕ) → n % 16 ≡ number % 16 → f' n ≡ s n) → ((n : ℕ) → n % 16 ≡ number % 16 → s' n ≡ f n)
    → ((n : ℕ) → (n % 16 ≡ number % 16 → ⊥) → f' n ≡ f n) → ((n : ℕ) → (n % 16 ≡ number % 16 → ⊥) → s' n ≡ s n) → (n : ℕ) → or_else (f' n) (or_else (s' n) (t n)) ≡ or_else (f n) (or_else (s n) (t n))
turned f f' s s' t number one here there away beside n = ⊎_elim
    (λ e. ap (λ o. or_else o (or_else (s' n) (t n))) (here n e) ∙ ap (λ o. or_else (s n) (or_else o (t n))) (there n e) ∙ either_first (f n) (s n) (t n) (one n e))
    (λ ne. ap (λ o. or_else o (or_else (s' n) (t n))) (away n ne) ∙ ap (λ o. or_else (f n) (or_else o (t n))) (beside n ne))
    (cases_eq (n % 16) (number % 16))

-- the byte at an address
abbrev pub byte_of : Leaves → ℕ → ℕ
byte_of l a = slice_index (leaf_bytes (l (a / 256))) (a % 256)

pub same_bytes : (l l' : Leaves) → ((n : ℕ) → l' n ≡ l n) → byte_of l' ≡ byte_of l
same_bytes l l' is = fun_ext (λ a. ap (λ o. slice_index (leaf_bytes o) (a % 256)) (is (a / 256)))

-- a list with bytes written over: below them, at them, above them
over_below : (xs bytes : List ℕ) (from i : ℕ) → from + length bytes ≤ length xs → i < from → get_or (overwritten xs from bytes) i 0 ≡ get_or xs i 0
over_below xs bytes from i fits below =
    get_or_append_left (take from xs) (bytes ++ drop (from + length bytes) xs) 0 i (let n : length (take from xs) ≡ from = length-take-le from xs (omega arith) in omega arith)
    ∙ get_or-take from xs i 0 below

over_at : (xs bytes : List ℕ) (from i : ℕ) → from + length bytes ≤ length xs → from ≤ i → i < from + length bytes → get_or (overwritten xs from bytes) i 0 ≡ get_or bytes (i - from) 0
over_at xs bytes from i fits low high =
    get_or-append_right (take from xs) (bytes ++ drop (from + length bytes) xs) from i 0 (length-take-le from xs (omega arith)) low
    ∙ get_or_append_left bytes (drop (from + length bytes) xs) 0 (i - from) (omega arith)

over_above : (xs bytes : List ℕ) (from i : ℕ) → from + length bytes ≤ length xs → from + length bytes ≤ i → get_or (overwritten xs from bytes) i 0 ≡ get_or xs i 0
over_above xs bytes from i fits above =
    get_or-append_right (take from xs) (bytes ++ drop (from + length bytes) xs) from i 0 (length-take-le from xs (omega arith)) (omega arith)
    ∙ get_or-append_right bytes (drop (from + length bytes) xs) (length bytes) (i - from) 0 refl (omega arith)
    ∙ get_or-drop (from + length bytes) xs (i - from - length bytes) 0
    ∙ (let e : from + length bytes + (i - from - length bytes) ≡ i = omega arith in ap (λ k. get_or xs k 0) e)

-- bytes written into the leaf of a, whose bytes were xs
pub written : (l l' : Leaves) (a : ℕ) (xs bytes : List ℕ) → a < 2 ^ 32 → a % 256 + length bytes ≤ 256 → length xs ≡ 256
    → ((i : ℕ) → slice_index xs i ≡ slice_index (leaf_bytes (l (a / 256))) i)
    → ((i : ℕ) → slice_index (leaf_bytes (l' (a / 256))) i ≡ slice_index (overwritten xs (a % 256) bytes) i)
    → ((n : ℕ) → (n ≡ a / 256 → ⊥) → leaf_bytes (l' n) ≡ leaf_bytes (l n))
    → byte_of l' ≡ after_puts (byte_of l) a bytes
written l l' a xs bytes within fits whole before now others = fun_ext (λ b. ⊎_elim (same b) (other b) (cases_eq (b / 256) (a / 256)))
  where
    other : (b : ℕ) → (b / 256 ≡ a / 256 → ⊥) → byte_of l' b ≡ after_puts (byte_of l) a bytes b
    other b ne =
        ap (λ us. slice_index us (b % 256)) (others (b / 256) ne)
        ∙ sym (puts_outside (byte_of l) a b bytes (omega arith) (⊎_elim (λ l. inl l) (λ l. inr (omega arith)) (cases_lt b a)))

    at : (b : ℕ) → b / 256 ≡ a / 256 → byte_of l' b ≡ get_or (overwritten xs (a % 256) bytes) (b % 256) 0
    at b e = ap (λ n. slice_index (leaf_bytes (l' n)) (b % 256)) e ∙ now (b % 256)

    was : (b : ℕ) → b / 256 ≡ a / 256 → byte_of l b ≡ get_or xs (b % 256) 0
    was b e = ap (λ n. slice_index (leaf_bytes (l n)) (b % 256)) e ∙ sym (before (b % 256))

    same : (b : ℕ) → b / 256 ≡ a / 256 → byte_of l' b ≡ after_puts (byte_of l) a bytes b
    same b e =
        at b e
        ∙ ⊎_elim
        (λ lt. over_below xs bytes (a % 256) (b % 256) (omega arith) (omega arith) ∙ sym (was b e) ∙ sym (puts_outside (byte_of l) a b bytes (omega arith) (inl lt)))
        (λ low. ⊎_elim
        (λ high. over_at xs bytes (a % 256) (b % 256) (omega arith) (omega arith) (omega arith)
        ∙ (let k : b % 256 - a % 256 ≡ b - a = omega arith in ap (λ k. get_or bytes k 0) k)
        ∙ sym (puts_inside (byte_of l) a b bytes (omega arith) low high))
        (λ high. over_above xs bytes (a % 256) (b % 256) (omega arith) (omega arith) ∙ sym (was b e) ∙ sym (puts_outside (byte_of l) a b bytes (omega arith) (inr high)))
        (cases_lt b (a + length bytes)))
        (cases_lt b a)

-- bytes written in front
module _ (f f' t : Leaves) (a : ℕ) (bytes : List ℕ) (within : a < 2 ^ 32) (fits : a % 256 + length bytes ≤ 256) where
  pub written_in_front : length (leaf_bytes (f (a / 256))) ≡ 256 → is_some (f' (a / 256)) ≡ true → is_some (f' (a / 256)) ≡ is_some (f (a / 256))
      → leaf_bytes (f' (a / 256)) ≡ overwritten (leaf_bytes (f (a / 256))) (a % 256) bytes → ((n : ℕ) → (n ≡ a / 256 → ⊥) → f' n ≡ f n)
      → byte_of (λ n. or_else (f' n) (t n)) ≡ after_puts (byte_of (λ n. or_else (f n) (t n))) a bytes
  written_in_front whole there stays is others = written (λ n. or_else (f n) (t n)) (λ n. or_else (f' n) (t n)) a (leaf_bytes (f (a / 256))) bytes within fits whole
      (λ i. sym (ap (λ o. slice_index (leaf_bytes o) i) (or_else_some (f (a / 256)) (t (a / 256)) (sym stays ∙ there))))
      (λ i. ap (λ o. slice_index (leaf_bytes o) i) (or_else_some (f' (a / 256)) (t (a / 256)) there) ∙ ap (λ us. slice_index us i) is)
      (λ n ne. ap (λ o. leaf_bytes (or_else o (t n))) (others n ne))

  -- a leaf made anew
  pub renewed_in_front : (leaf : Node) (xs image : List ℕ) → length xs ≡ 256 → ((i : ℕ) → slice_index xs i ≡ slice_index (leaf_bytes (or_else (f (a / 256)) (t (a / 256)))) i)
      → image ≡ overwritten xs (a % 256) bytes → ((i : ℕ) → slice_index (bytes_of leaf) i ≡ slice_index image i)
      → ((n : ℕ) → n % 16 ≡ a / 256 % 16 → (n ≡ a / 256 → ⊥) → f n ≡ None)
      → f' (a / 256) ≡ Some leaf → ((n : ℕ) → n % 16 ≡ a / 256 % 16 → (n ≡ a / 256 → ⊥) → f' n ≡ None) → ((n : ℕ) → (n % 16 ≡ a / 256 % 16 → ⊥) → f' n ≡ f n)
      → byte_of (λ n. or_else (f' n) (t n)) ≡ after_puts (byte_of (λ n. or_else (f n) (t n))) a bytes
  renewed_in_front leaf xs image whole before over made alone here away others = written (λ n. or_else (f n) (t n)) (λ n. or_else (f' n) (t n)) a xs bytes within fits whole before
      (λ i. ap (λ o. slice_index (leaf_bytes (or_else o (t (a / 256)))) i) here ∙ made i ∙ ap (λ us. slice_index us i) over)
      (λ n ne. ap (λ o. leaf_bytes (or_else o (t n))) (⊎_elim (λ e. away n e ne ∙ sym (alone n e ne)) (λ apart. others n apart) (cases_eq (n % 16) (a / 256 % 16))))

alike : (o p q : Option Node) → is_some p ≡ is_some o → leaf_bytes p ≡ leaf_bytes o → leaf_bytes (or_else p q) ≡ leaf_bytes (or_else o q)
alike None None q e is = refl
alike None (Some x) q e is = absurd (let k : true ≡ false = e in cc)
alike (Some x) None q e is = absurd (let k : false ≡ true = e in cc)
alike (Some x) (Some y) q e is = is

pub refused_in_front : (f f' t : Leaves) (number : ℕ) → is_some (f' number) ≡ is_some (f number) → leaf_bytes (f' number) ≡ leaf_bytes (f number) → ((n : ℕ) → (n ≡ number → ⊥) → f' n ≡ f n)
    → byte_of (λ n. or_else (f' n) (t n)) ≡ byte_of (λ n. or_else (f n) (t n))
refused_in_front f f' t number stays is others = fun_ext (λ a. ap (λ us. slice_index us (a % 256)) (⊎_elim
    (λ e. subst (λ k. leaf_bytes (or_else (f' k) (t k)) ≡ leaf_bytes (or_else (f k) (t k))) (sym e) (alike (f number) (f' number) (t number) stays is))
    (λ ne. ap (λ o. leaf_bytes (or_else o (t (a / 256)))) (others (a / 256) ne))
    (cases_eq (a / 256) number)))

pub alike_in_front : (f f' t : Leaves) (first second : ℕ) → IsAlike (f first) (f' first) → IsAlike (f second) (f' second) → ((n : ℕ) → (n ≡ first → ⊥) → (n ≡ second → ⊥) → f' n ≡ f n)
    → byte_of (λ n. or_else (f' n) (t n)) ≡ byte_of (λ n. or_else (f n) (t n))
alike_in_front f f' t first second one two others = fun_ext (λ a. ap (λ us. slice_index us (a % 256)) (same (a / 256)))
  where
    at : (m n : ℕ) → n ≡ m → IsAlike (f m) (f' m) → leaf_bytes (or_else (f' n) (t n)) ≡ leaf_bytes (or_else (f n) (t n))
    at m n e is = subst (λ k. leaf_bytes (or_else (f' k) (t k)) ≡ leaf_bytes (or_else (f k) (t k))) (sym e) (alike (f m) (f' m) (t m) is.0 is.1)

    same : (n : ℕ) → leaf_bytes (or_else (f' n) (t n)) ≡ leaf_bytes (or_else (f n) (t n))
    same n = ⊎_elim (λ e. at first n e one) (λ ne. ⊎_elim (λ e. at second n e two) (λ apart. ap (λ o. leaf_bytes (or_else o (t n))) (others n ne apart)) (cases_eq n second)) (cases_eq n first)

-- bytes written to the end of a leaf and on into the next one
pub written_both : (f f' t : Leaves) (a next : ℕ) (here later : List ℕ) → a < 2 ^ 32 → a % 256 + length here ≡ 256 → next ≡ (a + length here) % 2 ^ 32 → length later ≤ 256
    → IsWritten (f (a / 256)) (f' (a / 256)) (a % 256) here → IsWritten (f (next / 256)) (f' (next / 256)) 0 later → ((n : ℕ) → (n ≡ a / 256 → ⊥) → (n ≡ next / 256 → ⊥) → f' n ≡ f n)
    → byte_of (λ n. or_else (f' n) (t n)) ≡ after_puts (after_puts (byte_of (λ n. or_else (f n) (t n))) a here) next later
written_both f f' t a next here later within border follows short one two others =
    written_in_front m f' t next later (omega arith) (omega arith)
    (ap (λ o. length (leaf_bytes o)) second ∙ two.2) two.1 (two.1 ∙ sym two.0 ∙ ap is_some (sym second))
    (two.3 ∙ ap (λ o. overwritten (leaf_bytes o) 0 later) (sym second) ∙ (let z : 0 ≡ next % 256 = omega arith in ap (λ k. overwritten (leaf_bytes (m (next / 256))) k later) z))
    (λ n ne. ⊎_elim (λ e. sym (ap (λ b. cond b (f' n) (f n)) (eq-eqb n (a / 256) e))) (λ apart. others n apart ne ∙ sym (ap (λ b. cond b (f' n) (f n)) (ne_eqb n (a / 256) apart))) (cases_eq n (a / 256)))
    ∙ ap (λ bytes. after_puts bytes next later)
    (written_in_front f m t a here within (omega arith) one.2 (ap is_some first ∙ one.1) (ap is_some first ∙ one.1 ∙ sym one.0) (ap leaf_bytes first ∙ one.3)
    (λ n ne. ap (λ b. cond b (f' n) (f n)) (ne_eqb n (a / 256) ne)))
  where
    -- with the first of them written
    m : Leaves
    m n = if n == a / 256 then f' n else f n

    first : m (a / 256) ≡ f' (a / 256)
    first = ap (λ b. cond b (f' (a / 256)) (f (a / 256))) (eq-eqb (a / 256) (a / 256) refl)

    second : m (next / 256) ≡ f (next / 256)
    second = ap (λ b. cond b (f' (next / 256)) (f (next / 256))) (ne_eqb (next / 256) (a / 256) (λ e. omega arith))

-- numbers that bytes spell
pub two_spelt : (m : ℕ → ℕ) (a r b c : ℕ) → a < 2 ^ 32 → r ≡ b + 2 ^ 8 * c → b ≡ m a → c ≡ m ((a + 1) % 2 ^ 32) → r ≡ number 2 a m
two_spelt m a r b c within is first second =
    is
    ∙ ap (λ k. k + 2 ^ 8 * c) (first ∙ ap m (let e : a ≡ a % 2 ^ 32 = omega arith in e))
    ∙ ap (λ k. m (a % 2 ^ 32) + 2 ^ 8 * k) second
    ∙ (let e : m (a % 2 ^ 32) + 2 ^ 8 * m ((a + 1) % 2 ^ 32) ≡ m (a % 2 ^ 32) + 2 ^ 8 * (m ((a + 1) % 2 ^ 32) + 2 ^ 8 * 0) = omega arith in e)

pub four_spelt : (m : ℕ → ℕ) (a r b c d f : ℕ) → a < 2 ^ 32 → r ≡ b + 2 ^ 8 * (c + 2 ^ 8 * (d + 2 ^ 8 * f)) → b ≡ m a → c ≡ m ((a + 1) % 2 ^ 32) → d ≡ m ((a + 2) % 2 ^ 32) → f ≡ m ((a + 3) % 2 ^ 32) → r ≡ number 4 a m
four_spelt m a r b c d f within is first second third fourth =
    let e1 : b ≡ m (a % 2 ^ 32) = first ∙ ap m (let e : a ≡ a % 2 ^ 32 = omega arith in e) in
    let e3 : d ≡ m ((a + 1 + 1) % 2 ^ 32) = third ∙ ap m (let e : (a + 2) % 2 ^ 32 ≡ (a + 1 + 1) % 2 ^ 32 = omega arith in e) in
    let e4 : f ≡ m ((a + 1 + 1 + 1) % 2 ^ 32) = fourth ∙ ap m (let e : (a + 3) % 2 ^ 32 ≡ (a + 1 + 1 + 1) % 2 ^ 32 = omega arith in e) in
    omega (arith, is, e1, second, e3, e4)

-- how many leaves are left after those that the first bytes lie in
pub fewer : (before now after at next here rest left : ℕ) → next ≡ (at + here) % 2 ^ 32 → rest ≡ here + left → (here ≡ rest) ⊎ (at % 256 + here ≡ 256) → here ≤ rest → (rest ≡ 0 → ⊥) → at % 256 + here ≤ 256
    → after ≤ now + 5 → now + 5 * leaves_of at rest ≤ before → after + 5 * leaves_of next left ≤ before
fewer before now after at next here rest left is sum either le some fits more bound = ⊎_elim last (λ ne. later ne) (cases_eq left 0)
  where
    first : leaves_of at rest ≡ (at % 256 + rest - 1) / 256 + 1
    first = ap (λ b. cond b 0 ((at % 256 + rest - 1) / 256 + 1)) (ne_eqb rest 0 some)

    last : left ≡ 0 → after + 5 * leaves_of next left ≤ before
    last e = let none : leaves_of next left ≡ 0 = ap (λ b. cond b 0 ((next % 256 + left - 1) / 256 + 1)) (eq-eqb left 0 e) in omega (arith, none, first)

    later : (left ≡ 0 → ⊥) → after + 5 * leaves_of next left ≤ before
    later ne =
        let some' : leaves_of next left ≡ (next % 256 + left - 1) / 256 + 1 = ap (λ b. cond b 0 ((next % 256 + left - 1) / 256 + 1)) (ne_eqb left 0 ne) in
        let whole : at % 256 + here ≡ 256 = ⊎_elim (λ e. absurd (omega arith)) (λ e. e) either in
        omega (arith, first, some', whole)

-- a word of one leaf
pub word_kept : (l : Leaves) (a : ℕ) (leaf : Option Node) → a < 2 ^ 32 → a % 4 ≡ 0 → ((i : ℕ) → slice_index (leaf_bytes leaf) i ≡ slice_index (leaf_bytes (l (a / 256))) i) → number 4 (a % 256) (λ i. slice_index (leaf_bytes leaf) i) ≡ number 4 a (byte_of l)
word_kept l a leaf within even is =
    let m : ℕ → ℕ = λ i. slice_index (leaf_bytes leaf) i in
    let at : (k : ℕ) → k < 4 → m ((a % 256 + k) % 2 ^ 32) ≡ byte_of l ((a + k) % 2 ^ 32) = λ k lt.
    (let e : (a % 256 + k) % 2 ^ 32 ≡ (a + k) % 2 ^ 32 % 256 = omega arith in ap m e)
    ∙ is ((a + k) % 2 ^ 32 % 256)
    ∙ (let e : a / 256 ≡ (a + k) % 2 ^ 32 / 256 = omega arith in ap (λ n. slice_index (leaf_bytes (l n)) ((a + k) % 2 ^ 32 % 256)) e) in
    let e0 : m (a % 256 % 2 ^ 32) ≡ byte_of l (a % 2 ^ 32) = (let z : a % 256 % 2 ^ 32 ≡ (a % 256 + 0) % 2 ^ 32 = omega arith in ap m z) ∙ at 0 (omega arith) ∙ (let z : (a + 0) % 2 ^ 32 ≡ a % 2 ^ 32 = omega arith in ap (byte_of l) z) in
    let e1 : m ((a % 256 + 1) % 2 ^ 32) ≡ byte_of l ((a + 1) % 2 ^ 32) = at 1 (omega arith) in
    let e2 : m ((a % 256 + 1 + 1) % 2 ^ 32) ≡ byte_of l ((a + 1 + 1) % 2 ^ 32) = (let z : (a % 256 + 1 + 1) % 2 ^ 32 ≡ (a % 256 + 2) % 2 ^ 32 = omega arith in ap m z) ∙ at 2 (omega arith) ∙ (let z : (a + 2) % 2 ^ 32 ≡ (a + 1 + 1) % 2 ^ 32 = omega arith in ap (byte_of l) z) in
    let e3 : m ((a % 256 + 1 + 1 + 1) % 2 ^ 32) ≡ byte_of l ((a + 1 + 1 + 1) % 2 ^ 32) = (let z : (a % 256 + 1 + 1 + 1) % 2 ^ 32 ≡ (a % 256 + 3) % 2 ^ 32 = omega arith in ap m z) ∙ at 3 (omega arith) ∙ (let z : (a + 3) % 2 ^ 32 ≡ (a + 1 + 1 + 1) % 2 ^ 32 = omega arith in ap (byte_of l) z) in
    ap (λ k. k + 2 ^ 8 * number 3 (a % 256 + 1) m) e0
    ∙ ap (λ k. byte_of l (a % 2 ^ 32) + 2 ^ 8 * (k + 2 ^ 8 * number 2 (a % 256 + 1 + 1) m)) e1
    ∙ ap (λ k. byte_of l (a % 2 ^ 32) + 2 ^ 8 * (byte_of l ((a + 1) % 2 ^ 32) + 2 ^ 8 * (k + 2 ^ 8 * number 1 (a % 256 + 1 + 1 + 1) m))) e2
    ∙ ap (λ k. byte_of l (a % 2 ^ 32) + 2 ^ 8 * (byte_of l ((a + 1) % 2 ^ 32) + 2 ^ 8 * (byte_of l ((a + 1 + 1) % 2 ^ 32) + 2 ^ 8 * (k + 2 ^ 8 * 0)))) e3

-- the leaves of other numbers stay where one is made anew
pub renewed_others : (f f' t : Leaves) (number : ℕ) → ((n : ℕ) → n % 16 ≡ number % 16 → (n ≡ number → ⊥) → f n ≡ None) → ((n : ℕ) → n % 16 ≡ number % 16 → (n ≡ number → ⊥) → f' n ≡ None)
    → ((n : ℕ) → (n % 16 ≡ number % 16 → ⊥) → f' n ≡ f n) → (n : ℕ) → (n ≡ number → ⊥) → or_else (f' n) (t n) ≡ or_else (f n) (t n)
renewed_others f f' t number alone away others n ne = ap (λ o. or_else o (t n)) (⊎_elim (λ e. away n e ne ∙ sym (alone n e ne)) (λ apart. others n apart) (cases_eq (n % 16) (number % 16)))
