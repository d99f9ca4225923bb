-- The header and a row: what is read is what was written, and what was written is read again.
use Rattle.std.proofs.Common.{◌≡◌, ℕ, ◌%◌, ◌≤◌, ◌==◌, true, false, not, ltb, List, [], ◌∷◌, ◌++◌, length, Result, Ok, refl, ap, subst, ◌∙◌, arith}
use Rattle.std.proofs.lemmas.Bool.{ltb-false, eqb-true, le-ltb, eq-eqb}
use Rattle.std.proofs.lemmas.List.{length-append}
use Rattle.load_values.specs.declared.error.ValuesErr.{ValuesErr}
use Rattle.load_values.specs.declared.error.ValuesErr.TheVariants.{Short, Magic, Version, TooMany, Range, Order}
use Rattle.load_values.specs.Values.{IsRow}
use Rattle.word_format.specs.Bytes.{words}
use Rattle.load_values.specs.Bytes.{row_bytes}
use Rattle.word_format.specs.Reading.{◌>>=◌, is_aligned}
use Rattle.load_values.specs.Reading.{next_word, admit_header, next_header, has_word, is_row, admit_row, next_row}
use Rattle.word_format.proofs.Numbers.{IsBytes, bind_ok, passed, not_false, both, ok_is, Takes, Takes-then, word_takes, word_step}

-- ---- the header

header_admitted : (magic version rows count : ℕ) → admit_header magic version rows ≡ Ok count → (magic ≡ 0x5650_534D) × (version ≡ 1) × (rows ≤ 524_288) × (rows ≡ count)
header_admitted magic version rows count e =
    let e0 = passed (not (magic == 0x5650_534D)) Magic _ count e in
    let e1 = passed (not (version == 1)) Version _ count e0.1 in
    let e2 = passed (ltb 524_288 rows) TooMany (Ok rows) count e1.1 in
    (eqb-true _ _ (not_false _ e0.0), eqb-true _ _ (not_false _ e1.0), ltb-false _ _ e2.0, ok_is rows count e2.1)

pub header_takes : (bytes : List ℕ) (x : ℕ × List ℕ) → IsBytes bytes → next_header bytes ≡ Ok x → Takes bytes (words (0x5650_534D ∷ 1 ∷ x.0 ∷ [])) x.1 × (x.0 ≤ 524_288)
unfolding next_header
header_takes bytes x fits whole =
    let e = passed (ltb (length bytes) 12) Short _ x whole in
    let m = bind_ok (next_word bytes) _ x e.1 in
    let v = bind_ok (next_word m.0.1) _ x m.2 in
    let r = bind_ok (next_word v.0.1) _ x v.2 in
    let g = bind_ok (admit_header m.0.0 v.0.0 r.0.0) _ x r.2 in
    let ad = header_admitted m.0.0 v.0.0 r.0.0 g.0 g.1 in
    let a = word_takes Short bytes m.0 fits m.1 in
    let b = word_takes Short m.0.1 v.0 a.0.rest_fits v.1 in
    let c = word_takes Short v.0.1 r.0 b.0.rest_fits r.1 in
    let parts : Takes bytes (words (m.0.0 ∷ v.0.0 ∷ r.0.0 ∷ [])) r.0.1 = Takes-then _ _ _ _ _ a.0 (Takes-then _ _ _ _ _ b.0 c.0) in
    let named : Takes bytes (words (0x5650_534D ∷ 1 ∷ r.0.0 ∷ [])) r.0.1 = subst (λ (w : ℕ × ℕ). Takes bytes (words (w.0 ∷ w.1 ∷ r.0.0 ∷ [])) r.0.1) {x = (m.0.0, v.0.0)} {y = (0x5650_534D, 1)} (cc (ad.0, ad.1)) parts in
    subst (λ (y : ℕ × List ℕ). Takes bytes (words (0x5650_534D ∷ 1 ∷ y.0 ∷ [])) y.1 × (y.0 ≤ 524_288)) (ap (λ (n : ℕ). (n, r.0.1)) ad.3 ∙ ok_is (g.0, r.0.1) x g.2) (named, ad.2)

pub header_again : (rows : ℕ) (rest : List ℕ) → rows ≤ 524_288 → next_header (words (0x5650_534D ∷ 1 ∷ rows ∷ []) ++ rest) ≡ Ok (rows, rest)
unfolding next_header
header_again rows rest few =
    let long : ltb (length (words (0x5650_534D ∷ 1 ∷ rows ∷ []) ++ rest)) 12 ≡ false = le-ltb _ _ (omega (arith, length-append (words (0x5650_534D ∷ 1 ∷ rows ∷ [])) rest)) in
    let t : ltb 524_288 rows ≡ false = le-ltb _ _ few in
    let ad : admit_header 0x5650_534D 1 rows ≡ Ok rows = rw t refl in
    let c : List ℕ = words (rows ∷ []) ++ rest in
    let b : List ℕ = words (1 ∷ rows ∷ []) ++ rest in
    rw long (
    word_step Short {A = ℕ × List ℕ} 0x5650_534D b (λ magic. next_word magic.1 >>= λ version. next_word version.1 >>= λ rows. admit_header magic.0 version.0 rows.0 >>= λ count. Ok (count, rows.1)) (omega arith)
    ∙ word_step Short {A = ℕ × List ℕ} 1 c (λ version. next_word version.1 >>= λ rows. admit_header 0x5650_534D version.0 rows.0 >>= λ count. Ok (count, rows.1)) (omega arith)
    ∙ word_step Short {A = ℕ × List ℕ} rows rest (λ rows. admit_header 0x5650_534D 1 rows.0 >>= λ count. Ok (count, rows.1)) (omega (arith, few))
    ∙ ap (λ (r : Result ℕ ValuesErr). r >>= λ count. Ok (count, rest)) ad)

-- ---- rows

-- a row fits where this address is due
abbrev pub FitsRow : ℕ → ℕ × ℕ → Type 0
FitsRow due e = (due ≤ e.0) × IsRow e

row_admitted : (i due pc value : ℕ) (e : ℕ × ℕ) → admit_row i due pc value ≡ Ok e → (pc % 4 ≡ 0) × (has_word value ≡ true) × (due ≤ pc) × ((pc, value) ≡ e)
row_admitted i due pc value e whole =
    let e0 = passed (not (is_row pc value)) (Range i) _ e whole in
    let e1 = passed (ltb pc due) (Order i) (Ok (pc, value)) e e0.1 in
    let b = both (is_aligned pc) (has_word value) (not_false _ e0.0) in
    (eqb-true _ _ b.0, b.1, ltb-false _ _ e1.0, ok_is (pc, value) e e1.1)

pub row_takes : (i due : ℕ) (bytes : List ℕ) (x : (ℕ × ℕ) × List ℕ) → IsBytes bytes → next_row i due bytes ≡ Ok x → Takes bytes (row_bytes x.0) x.1 × FitsRow due x.0
unfolding next_row
row_takes i due bytes x fits whole =
    let p = bind_ok (next_word bytes) _ x whole in
    let v = bind_ok (next_word p.0.1) _ x p.2 in
    let r = bind_ok (admit_row i due p.0.0 v.0.0) _ x v.2 in
    let ad = row_admitted i due p.0.0 v.0.0 r.0 r.1 in
    let a = word_takes Short bytes p.0 fits p.1 in
    let b = word_takes Short p.0.1 v.0 a.0.rest_fits v.1 in
    let parts : Takes bytes (row_bytes (p.0.0, v.0.0)) v.0.1 = Takes-then _ _ _ _ _ a.0 b.0 in
    let is : IsRow (p.0.0, v.0.0) = record { pc = (ad.0, a.1); word = ad.1; small = b.1 } in
    subst (λ (y : (ℕ × ℕ) × List ℕ). Takes bytes (row_bytes y.0) y.1 × FitsRow due y.0) (ap (λ (e : ℕ × ℕ). (e, v.0.1)) ad.3 ∙ ok_is (r.0, v.0.1) x r.2) (parts, (ad.2, is))

pub row_again : (i due : ℕ) (e : ℕ × ℕ) (rest : List ℕ) → FitsRow due e → next_row i due (row_bytes e ++ rest) ≡ Ok (e, rest)
unfolding next_row
row_again i due e rest fits =
    let t0 : (e.0 % 4 == 0) ≡ true = eq-eqb _ _ fits.1.pc.0 in
    let t1 : has_word e.1 ≡ true = fits.1.word in
    let t2 : ltb e.0 due ≡ false = le-ltb _ _ fits.0 in
    let ad : admit_row i due e.0 e.1 ≡ Ok e = rw (t0, t1, t2) refl in
    word_step Short {A = (ℕ × ℕ) × List ℕ} e.0 (words (e.1 ∷ []) ++ rest) (λ pc. next_word pc.1 >>= λ value. admit_row i due pc.0 value.0 >>= λ row. Ok (row, value.1)) fits.1.pc.1
    ∙ word_step Short {A = (ℕ × ℕ) × List ℕ} e.1 rest (λ value. admit_row i due e.0 value.0 >>= λ row. Ok (row, value.1)) fits.1.small
    ∙ ap (λ (r : Result (ℕ × ℕ) ValuesErr). r >>= λ row. Ok (row, rest)) ad
