-- What a short write looks at and prints, one byte after another.
use Rattle.std.proofs.Common.{◌≡◌, ℕ, ◌<◌, ◌≤◌, ◌+◌, ◌-◌, ◌%◌, ◌^◌, suc, true, ◌&&◌, List, [], ◌∷◌, ◌++◌, ap, ◌∙◌, append_assoc, arith}
use Rattle.std.specs.Prelude.{Result, Ok, Err, OnErr, nat_eq, nat_le}
use Rattle.std.proofs.lemmas.Bool.{and_parts, leb-true}
use Rattle.cells.specs.declared.Cell.{Cell}
use Rattle.cells.specs.declared.Cell.TheVariants.{Reg, Byte}
use Rattle.cells.specs.Bytes.{byte_cells, bytes_from}
use Rattle.cells.specs.Seen.{Seen, look, read_cells, put_cell}
use Rattle.rv_semantics.specs.Values.{bytes_of}
use Rattle.rv_semantics.specs.Effect.{is_output}
use Rattle.rv_semantics.specs.Prints.{is_short_write}
use Rattle.layers.specs.Layered.{after_write, written_bytes}

-- of n bytes from a on, the one at i is looked at
pub one_shown : (n a i to : ℕ) (s s' : Seen) → i < n → to ≡ (a + i) % 2 ^ 32 → s' ≡ look (Byte to) s
    → read_cells (byte_cells (n - (i + 1)) (a + (i + 1))) s' ≡ read_cells (byte_cells (n - i) (a + i)) s
one_shown n a i to s s' l e h =
    let next : a + (i + 1) ≡ a + i + 1 = omega arith in
    let left : suc (n - (i + 1)) ≡ n - i = omega arith in
    (λ j. read_cells (byte_cells (n - (i + 1)) (next j)) (h j))
    ∙ ap (λ k. read_cells (byte_cells (n - (i + 1)) (a + i + 1)) (look (Byte k) s)) e
    ∙ ap (λ m. read_cells (byte_cells m (a + i)) s) left

-- and printed
pub one_printed : (n a i to v : ℕ) (xs ys : List ℕ) (m : ℕ → ℕ) → i < n → to ≡ (a + i) % 2 ^ 32 → v ≡ m to → ys ≡ xs ++ v ∷ []
    → ys ++ bytes_from (n - (i + 1)) (a + (i + 1)) m ≡ xs ++ bytes_from (n - i) (a + i) m
one_printed n a i to v xs ys m l e is h =
    let next : a + (i + 1) ≡ a + i + 1 = omega arith in
    let left : suc (n - (i + 1)) ≡ n - i = omega arith in
    (λ j. h j ++ bytes_from (n - (i + 1)) (next j) m)
    ∙ append_assoc xs (v ∷ []) (bytes_from (n - (i + 1)) (a + i + 1) m)
    ∙ ap (λ b. xs ++ b ∷ bytes_from (n - (i + 1)) (a + i + 1) m) (is ∙ ap m e)
    ∙ ap (λ k. xs ++ bytes_from k (a + i) m) left

-- it is of at most 256 bytes
pub few_bytes : (v : Cell → ℕ) → is_short_write v ≡ true → v (Reg 12) ≤ 256
few_bytes v e = leb-true (v (Reg 12)) 256 (and_parts (nat_eq (v (Reg 17)) 64 && is_output (v (Reg 10))) (nat_le (v (Reg 12)) 256) e).1

pub few_counted : (s s1 s2 : Seen) (count : ℕ) → is_short_write s.value ≡ true → s1 ≡ s → s2 ≡ look (Reg 11) s1 → count ≡ s2.value (Reg 12) → count ≤ 256
few_counted s s1 s2 count short e1 e2 is =
    let same : count ≡ s.value (Reg 12) = is ∙ ap (λ (t : Seen). t.value (Reg 12)) e2 ∙ ap (λ (t : Seen). t.value (Reg 12)) e1 in
    let few = few_bytes s.value short in
    omega (arith, same, few)

-- a short write, part by part: the two registers that tell where the bytes are and how many, the bytes, and x10
pub all_written : (s s1 s2 s3 s4 : Seen) (from count : ℕ) → from ≡ s.value (Reg 11) → s1 ≡ look (Reg 11) s → count ≡ s1.value (Reg 12) → s2 ≡ look (Reg 12) s1
    → s3 ≡ read_cells (byte_cells count from) s2 → s4 ≡ put_cell (Reg 10) count s3 → s4 ≡ after_write s
all_written s s1 s2 s3 s4 from count is_from e1 is_count e2 e3 e4 =
    let counted : count ≡ s.value (Reg 12) = is_count ∙ ap (λ (t : Seen). t.value (Reg 12)) e1 in
    e4
    ∙ ap (put_cell (Reg 10) count) (e3 ∙ ap (read_cells (byte_cells count from)) (e2 ∙ ap (look (Reg 12)) e1))
    ∙ (λ j. put_cell (Reg 10) (counted j) (read_cells (byte_cells (counted j) (is_from j)) (look (Reg 12) (look (Reg 11) s))))

pub all_printed : (s s1 s2 : Seen) (from count : ℕ) (xs ys : List ℕ) → from ≡ s.value (Reg 11) → s1 ≡ look (Reg 11) s → count ≡ s1.value (Reg 12) → s2 ≡ look (Reg 12) s1
    → ys ≡ xs ++ bytes_from count from (bytes_of s2.value) → ys ≡ xs ++ written_bytes s
all_printed s s1 s2 from count xs ys is_from e1 is_count e2 h =
    let same : s2.value ≡ s.value = ap (λ (t : Seen). t.value) e2 ∙ ap (λ (t : Seen). t.value) e1 in
    let counted : count ≡ s.value (Reg 12) = is_count ∙ ap (λ (t : Seen). t.value (Reg 12)) e1 in
    h ∙ (λ j. xs ++ bytes_from (counted j) (is_from j) (bytes_of (same j)))

-- the registers of a call, one after another
pub four_values : (s s1 s2 s3 : Seen) (a b c d : ℕ) → a ≡ s.value (Reg 10) → s1 ≡ look (Reg 10) s → b ≡ s1.value (Reg 11) → s2 ≡ look (Reg 11) s1 → c ≡ s2.value (Reg 12) → s3 ≡ look (Reg 12) s2
    → d ≡ s3.value (Reg 17) → a ∷ b ∷ c ∷ d ∷ [] ≡ s.value (Reg 10) ∷ s.value (Reg 11) ∷ s.value (Reg 12) ∷ s.value (Reg 17) ∷ []
four_values s s1 s2 s3 a b c d ia e1 ib e2 ic e3 id =
    let k1 : s1.value ≡ s.value = ap (λ (t : Seen). t.value) e1 in
    let k2 : s2.value ≡ s.value = ap (λ (t : Seen). t.value) e2 ∙ k1 in
    let k3 : s3.value ≡ s.value = ap (λ (t : Seen). t.value) e3 ∙ k2 in
    λ j. ia j ∷ (ib ∙ ap (λ (f : Cell → ℕ). f (Reg 11)) k1) j ∷ (ic ∙ ap (λ (f : Cell → ℕ). f (Reg 12)) k2) j ∷ (id ∙ ap (λ (f : Cell → ℕ). f (Reg 17)) k3) j ∷ []

pub on_err : {T E P : Type 0} (r : Result T E) → P → OnErr r P
on_err (Ok x) p = tt
on_err (Err e) p = p
