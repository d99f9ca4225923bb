-- The list that is read is the list that was written, and what was written is read again.
use Rattle.std.proofs.Common.{◌≡◌, ◌≢◌, ℕ, ◌+◌, ◌==◌, inl, inr, Bool, true, false, cond, List, [], ◌∷◌, ◌++◌, length, map, All, IfOk, IfErr, Result, Ok, Err, refl, sym, ap, subst, ◌∙◌, arith}
use Rattle.std.specs.Prelude.{MatchResult}
use Rattle.std.specs.List.{flat_map}
use Rattle.std.specs.List.Sorted.{IsStrictlyIncreasing}
use Rattle.std.proofs.lemmas.Bool.{eqb-true}
use Rattle.std.proofs.lemmas.List.{append-nil, nil_from_length}
use Rattle.std.proofs.lemmas.List.Elements.{All-from_recursion, recursion_from_All}
use Rattle.load_values.specs.declared.error.ValuesErr.{ValuesErr}
use Rattle.load_values.specs.declared.error.ValuesErr.TheVariants.{Long, Memory}
use Rattle.load_values.specs.Values.{IsRow, AreValues, pc_of}
use Rattle.word_format.specs.Bytes.{words}
use Rattle.load_values.specs.Bytes.{header_bytes, row_bytes, bytes_of}
use Rattle.load_values.specs.Reading.{Gives, next_header, next_row, rows_in, values_from}
use Rattle.word_format.proofs.Numbers.{IsBytes, bind_ok, ok_is, Takes, Takes-then, entries_take, entries_again}
use Rattle.word_format.proofs.Rising.{Rises-split, Rises-join, increasing_from_rises, rises_from_increasing}
use Rattle.load_values.proofs.Entries.{FitsRow, header_takes, header_again, row_takes, row_again}

abbrev see_row : ℕ → ℕ × ℕ → ℕ
see_row due e = e.0 + 1

rows_take : (count : ℕ) (bytes : List ℕ) (x : List (ℕ × ℕ) × List ℕ) → IsBytes bytes → rows_in count bytes ≡ Ok x
    → Takes bytes (flat_map row_bytes x.0) x.1 × (length x.0 ≡ count) × All IsRow x.0 × IsStrictlyIncreasing (map pc_of x.0)
rows_take count bytes x fits e =
    let t = entries_take {S = ℕ} next_row see_row row_bytes FitsRow row_takes count 0 0 bytes x fits e in
    let parts = Rises-split pc_of IsRow 0 x.0 t.2 in
    (t.0, t.1, All-from_recursion IsRow x.0 parts.0, increasing_from_rises (map pc_of x.0) 0 parts.1)

rows_again : (rows : List (ℕ × ℕ)) (rest : List ℕ) → AreValues rows → rows_in (length rows) (flat_map row_bytes rows ++ rest) ≡ Ok (rows, rest)
rows_again rows rest are =
    let rises = rises_from_increasing (map pc_of rows) 0 (λ _. omega arith) are.rise in
    entries_again {S = ℕ} next_row see_row row_bytes FitsRow row_again rows 0 0 rest (Rises-join pc_of IsRow 0 rows (recursion_from_All IsRow rows are.rows) rises)

-- a test that decides between an answer and an error
whether : {A : Type 0} (b : Bool) (x y : A) → cond b (Ok x) (Err Long) ≡ Ok y → (b ≡ true) × (x ≡ y)
whether true x y e = (refl, ok_is x y e)
whether false x y e = absurd cc

values_take : (bytes : List ℕ) (rows : List (ℕ × ℕ)) → IsBytes bytes → values_from bytes ≡ Ok rows → AreValues rows × (bytes ≡ bytes_of rows)
unfolding values_from
values_take bytes rows fits whole =
    let h = bind_ok (next_header bytes) _ rows whole in
    let r = bind_ok (rows_in h.0.0 h.0.1) _ rows h.2 in
    let e = whether (length r.0.1 == 0) r.0.0 rows r.2 in
    let a = header_takes bytes h.0 fits h.1 in
    let b = rows_take h.0.0 h.0.1 r.0 a.0.rest_fits r.1 in
    let nothing : r.0.1 ≡ [] = nil_from_length r.0.1 (eqb-true _ _ e.0) in
    let all = Takes-then bytes (words (0x5650_534D ∷ 1 ∷ h.0.0 ∷ [])) h.0.1 (flat_map row_bytes r.0.0) r.0.1 a.0 b.0 in
    let text : ℕ → List ℕ = λ n. words (0x5650_534D ∷ 1 ∷ n ∷ []) ++ flat_map row_bytes r.0.0 in
    let exact : bytes ≡ text h.0.0 = all.parts ∙ ap (λ (t : List ℕ). text h.0.0 ++ t) nothing ∙ append-nil (text h.0.0) in
    let is : AreValues r.0.0 = record { few = omega (arith, b.1, a.1); rows = b.2; rise = b.3 } in
    subst (λ (rs : List (ℕ × ℕ)). AreValues rs × (bytes ≡ bytes_of rs)) e.1 (is, exact ∙ ap text (sym b.1))

pub values_again : (rows : List (ℕ × ℕ)) → AreValues rows → values_from (bytes_of rows) ≡ Ok rows
unfolding values_from
values_again rows are =
    let text : List ℕ = flat_map row_bytes rows in
    let rh : next_header (header_bytes rows ++ text) ≡ Ok (length rows, text) = header_again (length rows) text are.few in
    let rr : rows_in (length rows) text ≡ Ok (rows, []) = ap (rows_in (length rows)) (sym (append-nil text)) ∙ rows_again rows [] are in
    rw (rh, rr) refl

-- ---- what a call says

abbrev Read : Type 0
Read = Result (List (ℕ × ℕ)) ValuesErr

pub is_found : {V : Type 0} (view : V → List (ℕ × ℕ)) (bytes : List ℕ) (r : Result V ValuesErr) → IsBytes bytes → Gives view r (values_from bytes) → IfOk r (λ v. AreValues (view v) × (bytes ≡ bytes_of (view v)))
is_found view bytes (Ok v) fits given = values_take bytes (view v) fits given
is_found view bytes (Err e) fits given = tt

pub is_only : {V : Type 0} (view : V → List (ℕ × ℕ)) (bytes : List ℕ) (r : Result V ValuesErr) → Gives view r (values_from bytes) →
    (rows : List (ℕ × ℕ)) → AreValues rows → bytes ≡ bytes_of rows → MatchResult r (λ v. view v ≡ rows) (λ e. e ≡ Memory)
is_only {V} view bytes r given rows are same = settled r (subst (λ (read : Read). Gives view r read) (ap values_from same ∙ values_again rows are) given)
  where
    settled : (r : Result V ValuesErr) → Gives view r (Ok rows) → MatchResult r (λ v. view v ≡ rows) (λ e. e ≡ Memory)
    settled (Ok v) h = sym (ok_is rows (view v) h)
    settled (Err e) (inl memory) = memory
    settled (Err e) (inr other) = absurd cc

pub is_read : {V : Type 0} (view : V → List (ℕ × ℕ)) (r : Result V ValuesErr) (read : Read) → Gives view r read → IfOk r (λ v. read ≡ Ok (view v))
is_read view (Ok v) read h = h
is_read view (Err e) read h = tt

pub is_refused : {V : Type 0} (view : V → List (ℕ × ℕ)) (r : Result V ValuesErr) (read : Read) → Gives view r read → IfErr r (λ e. e ≢ Memory → read ≡ Err e)
is_refused view (Ok v) read h = tt
is_refused view (Err e) read (inl memory) = λ no. absurd (no memory)
is_refused view (Err e) read (inr is) = λ _. is
