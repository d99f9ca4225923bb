-- Addresses that rise, one after the other: what is read is what was written, and what was written is read again.
use Rattle.std.proofs.Common.{◌≡◌, ℕ, ◌+◌, ◌≤◌, true, false, cond, not, ltb, List, ◌++◌, length, map, All, Result, Ok, Err, refl, sym, ap, subst, ◌∙◌, arith}
use Rattle.std.specs.List.Sorted.{IsStrictlyIncreasing}
use Rattle.std.specs.Int.{w32, to_le_bytes}
use Rattle.std.proofs.lemmas.Bool.{ltb-false, eqb-true, eq-eqb, le-ltb}
use Rattle.std.proofs.lemmas.List.Elements.{All-from_recursion, recursion_from_All}
use Rattle.cells.specs.Cells.{IsPc}
use Rattle.word_format.specs.declared.error.AddressErr.{AddressErr}
use Rattle.word_format.specs.declared.error.AddressErr.TheVariants.{Short, Range, Order}
use Rattle.word_format.specs.Bytes.{words}
use Rattle.word_format.specs.Reading.{◌>>=◌, with_error, word_or, is_aligned, admit_address, next_address, addresses_in}
use Rattle.word_format.proofs.Numbers.{IsBytes, bind_ok, passed, not_false, ok_is, same_read, Takes, word_takes, word_step, entries_length, entries_take, entries_again}
use Rattle.word_format.proofs.Rising.{Rises-split, Rises-join, increasing_from_rises, rises_from_increasing, map-same}

abbrev FitsAddress : ℕ → ℕ → Type 0
FitsAddress due a = (due ≤ a) × IsPc a

address_takes : (i due : ℕ) (bytes : List ℕ) (x : ℕ × List ℕ) → IsBytes bytes → next_address i due bytes ≡ Ok x → Takes bytes (to_le_bytes w32 x.0) x.1 × FitsAddress due x.0
unfolding next_address
address_takes i due bytes x fits e =
    let w = bind_ok (word_or Short bytes) _ x e in
    let a = bind_ok (admit_address i due w.0.0) _ x w.2 in
    let t = word_takes Short bytes w.0 fits w.1 in
    let order = cond (ltb w.0.0 due) (Err (Order i)) (Ok w.0.0) in
    let e0 = passed (not (is_aligned w.0.0)) (Range i) order a.0 a.1 in
    let e1 = passed (ltb w.0.0 due) (Order i) (Ok w.0.0) a.0 e0.1 in
    let whole : Takes bytes (to_le_bytes w32 w.0.0) w.0.1 × FitsAddress due w.0.0 = (t.0, (ltb-false _ _ e1.0, (eqb-true _ _ (not_false _ e0.0), t.1))) in
    subst (λ (y : ℕ × List ℕ). Takes bytes (to_le_bytes w32 y.0) y.1 × FitsAddress due y.0) (ap (λ (z : ℕ). (z, w.0.1)) (ok_is {E = AddressErr} w.0.0 a.0 e1.1) ∙ ok_is {E = AddressErr} (a.0, w.0.1) x a.2) whole

address_again : (i due a : ℕ) (rest : List ℕ) → FitsAddress due a → next_address i due (to_le_bytes w32 a ++ rest) ≡ Ok (a, rest)
unfolding next_address
address_again i due a rest fits =
    let t0 : is_aligned a ≡ true = eq-eqb _ _ fits.1.0 in
    let t1 : ltb a due ≡ false = le-ltb _ _ fits.0 in
    let ad : admit_address i due a ≡ Ok a = rw (t0, t1) refl in
    word_step Short a rest (λ word. admit_address i due word.0 >>= λ to. Ok (to, word.1)) fits.1.1 ∙ ap (λ (r : Result ℕ AddressErr). r >>= λ to. Ok (to, rest)) ad

-- addresses that rise
abbrev pub Rise : List ℕ → Type 0
Rise addresses = All IsPc addresses × IsStrictlyIncreasing addresses

abbrev see_address : ℕ → ℕ → ℕ
see_address due a = a + 1

addresses_take : (count : ℕ) (bytes : List ℕ) (x : List ℕ × List ℕ) → IsBytes bytes → addresses_in count bytes ≡ Ok x → Takes bytes (words x.0) x.1 × (length x.0 ≡ count) × Rise x.0
addresses_take count bytes x fits e =
    let t = entries_take next_address see_address (to_le_bytes w32) FitsAddress address_takes count 0 0 bytes x fits e in
    let parts = Rises-split (λ a. a) IsPc 0 x.0 t.2 in
    (t.0, t.1, (All-from_recursion IsPc x.0 parts.0, subst IsStrictlyIncreasing (map-same x.0) (increasing_from_rises (map (λ a. a) x.0) 0 parts.1)))

addresses_again : (addresses rest : List ℕ) → Rise addresses → addresses_in (length addresses) (words addresses ++ rest) ≡ Ok (addresses, rest)
addresses_again addresses rest fits =
    let rises = rises_from_increasing (map (λ a. a) addresses) 0 (λ _. omega arith) (subst IsStrictlyIncreasing (sym (map-same addresses)) fits.1) in
    entries_again next_address see_address (to_le_bytes w32) FitsAddress address_again addresses 0 0 rest (Rises-join (λ a. a) IsPc 0 addresses (recursion_from_All IsPc addresses fits.0) rises)

-- where each error of a list of addresses has another of its own
module _ {E : Type 0} (error : AddressErr → E) where
  pub named_length : (count : ℕ) (bytes : List ℕ) (x : List ℕ × List ℕ) → with_error error (addresses_in count bytes) ≡ Ok x → length x.0 ≡ count
  named_length count bytes x e = entries_length next_address see_address count 0 0 bytes x (same_read error (addresses_in count bytes) x e)

  pub named_take : (count : ℕ) (bytes : List ℕ) (x : List ℕ × List ℕ) → IsBytes bytes → with_error error (addresses_in count bytes) ≡ Ok x → Takes bytes (words x.0) x.1 × (length x.0 ≡ count) × Rise x.0
  named_take count bytes x fits e = addresses_take count bytes x fits (same_read error (addresses_in count bytes) x e)

  pub named_again : (addresses rest : List ℕ) → Rise addresses → with_error error (addresses_in (length addresses) (words addresses ++ rest)) ≡ Ok (addresses, rest)
  named_again addresses rest fits = ap (with_error error) (addresses_again addresses rest fits)
