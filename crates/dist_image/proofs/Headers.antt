-- A header that is read is the header that was written, and what was written is read again.
use Rattle.std.proofs.Common.{◌≡◌, ℕ, ◌^◌, ◌<◌, ◌≤◌, ◌==◌, ◌⊎◌, inl, inr, Bool, true, false, cond, not, ◌&&◌, ◌||◌, ltb, leb, List, [], ◌∷◌, ◌++◌, length, Result, Ok, refl, sym, ap, subst, ◌∙◌, arith}
use Rattle.std.proofs.lemmas.Bool.{ltb-false, eqb-true, eq-eqb, leb-true, le-ltb, le-leb}
use Rattle.dist_image.specs.declared.error.ImageErr.{ImageErr}
use Rattle.dist_image.specs.declared.error.ImageErr.TheVariants.{Short, Magic, Version, Limit, TooMany}
use Rattle.dist_image.specs.declared.error.Table.TheVariants as table
use Rattle.dist_image.specs.declared.header.Header.{Header}
use Rattle.dist_image.specs.Image.{most_steps}
use Rattle.word_format.specs.Bytes.{words}
use Rattle.word_format.specs.Reading.{◌>>=◌}
use Rattle.dist_image.specs.Reading.{next_word, admit_version, next_version, next_write_count, admit_header, next_header}
use Rattle.word_format.proofs.Numbers.{IsBytes, bind_ok, passed, not_false, both, ok_is, Takes, Takes-then, word_takes, word_again, word_step}
use Rattle.dist_image.proofs.Entries.{four_take, step4, with_rest}

abbrev magic_number : ℕ
magic_number = 0x5053_534D

-- ---- the version

abbrev pub IsVersion : ℕ → Type 0
IsVersion v = (v ≡ 1) ⊎ (v ≡ 2)

is_version : (v : ℕ) → (v == 1 || v == 2) ≡ true → IsVersion v
is_version v e = tested (v == 1) refl e
  where
    tested : (first : Bool) → v == 1 ≡ first → (first || v == 2) ≡ true → IsVersion v
    tested true is e = inl (eqb-true _ _ is)
    tested false is e = inr (eqb-true _ _ e)

version_takes : (bytes : List ℕ) (x : ℕ × List ℕ) → IsBytes bytes → next_version bytes ≡ Ok x → Takes bytes (words (magic_number ∷ x.0 ∷ [])) x.1 × IsVersion x.0
unfolding next_version
version_takes bytes x fits e =
    let m = bind_ok (next_word bytes) _ x e in
    let v = bind_ok (next_word m.0.1) _ x m.2 in
    let k = bind_ok (admit_version m.0.0 v.0.0) _ x v.2 in
    let tm = word_takes Short bytes m.0 fits m.1 in
    let tv = word_takes Short m.0.1 v.0 tm.0.rest_fits v.1 in
    let e0 = passed (not (m.0.0 == magic_number)) Magic _ k.0 k.1 in
    let e1 = passed (not (v.0.0 == 1 || v.0.0 == 2)) Version (Ok v.0.0) k.0 e0.1 in
    let is_magic : m.0.0 ≡ magic_number = eqb-true _ _ (not_false _ e0.0) in
    let parts : Takes bytes (words (m.0.0 ∷ v.0.0 ∷ [])) v.0.1 = Takes-then _ _ _ _ _ tm.0 tv.0 in
    let named : Takes bytes (words (magic_number ∷ v.0.0 ∷ [])) v.0.1 = subst (λ (n : ℕ). Takes bytes (words (n ∷ v.0.0 ∷ [])) v.0.1) is_magic parts in
    subst (λ (y : ℕ × List ℕ). Takes bytes (words (magic_number ∷ y.0 ∷ [])) y.1 × IsVersion y.0) (ap (λ (n : ℕ). (n, v.0.1)) (ok_is v.0.0 k.0 e1.1) ∙ ok_is (k.0, v.0.1) x k.2) (named, is_version v.0.0 (not_false _ e1.0))

abbrev find_version : ℕ × List ℕ → ℕ × List ℕ → Result (ℕ × List ℕ) ImageErr
find_version magic version = admit_version magic.0 version.0 >>= with_rest version.1

version_again : (v : ℕ) (rest : List ℕ) → IsVersion v → next_version (words (magic_number ∷ v ∷ []) ++ rest) ≡ Ok (v, rest)
unfolding next_version
version_again v rest (inl one) =
    rw one (word_step Short magic_number (words (1 ∷ []) ++ rest) (λ m. next_word m.1 >>= find_version m) (omega arith) ∙ word_step Short 1 rest (find_version (magic_number, words (1 ∷ []) ++ rest)) (omega arith))
version_again v rest (inr two) =
    rw two (word_step Short magic_number (words (2 ∷ []) ++ rest) (λ m. next_word m.1 >>= find_version m) (omega arith) ∙ word_step Short 2 rest (find_version (magic_number, words (2 ∷ []) ++ rest)) (omega arith))

-- ---- the number of writes

-- the number of writes as a header of this version has it
abbrev pub counted : ℕ → ℕ → List ℕ
counted version writes = cond (version == 1) [] (writes ∷ [])

count_takes : (version : ℕ) (bytes : List ℕ) (x : ℕ × List ℕ) → IsBytes bytes → next_write_count version bytes ≡ Ok x → Takes bytes (words (counted version x.0)) x.1 × (version ≡ 1 → x.0 ≡ 0)
count_takes version bytes x fits e = tested (version == 1) refl e
  where
    tested : (first : Bool) → version == 1 ≡ first → cond first (Ok (0, bytes)) (next_word bytes) ≡ Ok x → Takes bytes (words (cond first [] (x.0 ∷ []))) x.1 × (version ≡ 1 → x.0 ≡ 0)
    tested true is e =
        let same : (0, bytes) ≡ x = ok_is (0, bytes) x e in
        subst (λ (y : ℕ × List ℕ). Takes bytes (words []) y.1 × (version ≡ 1 → y.0 ≡ 0)) same (record { parts = refl; rest_fits = fits }, λ _. refl)
    tested false is e = ((word_takes Short bytes x fits e).0, λ one. absurd (grind (arith, eq-eqb version 1 one, is)))

count_again : (version writes : ℕ) (rest : List ℕ) → writes < 2 ^ 32 → (version ≡ 1 → writes ≡ 0) → next_write_count version (words (counted version writes) ++ rest) ≡ Ok (writes, rest)
count_again version writes rest few plain = tested (version == 1) refl
  where
    tested : (first : Bool) → version == 1 ≡ first → cond first (Ok (0, words (cond first [] (writes ∷ [])) ++ rest)) (next_word (words (cond first [] (writes ∷ [])) ++ rest)) ≡ Ok (writes, rest)
    tested true is = ap (λ (n : ℕ). Ok (n, rest)) (sym (plain (eqb-true _ _ is)))
    tested false is = word_again Short writes rest few

-- ---- the header

pub record HeaderFits (h : Header) : Type 0 where
  pub version : IsVersion h.version
  pub plain : h.version ≡ 1 → h.writes ≡ 0
  pub limit : (16 ≤ h.limit) × (h.limit ≤ most_steps h.version)
  pub slots : h.slots ≤ 1_048_576
  pub anchors : h.anchors ≤ 524_288
  pub notes : h.notes ≤ 524_288
  pub assumptions : h.assumptions ≤ 1_048_576
  pub writes : h.writes ≤ 524_288

header_admitted : (h g : Header) → IsVersion h.version → (h.version ≡ 1 → h.writes ≡ 0) → admit_header h ≡ Ok g → HeaderFits h × (h ≡ g)
header_admitted h g version plain e =
    let e2 = passed (not (leb 16 h.limit && leb h.limit (most_steps h.version))) Limit _ g e in
    let e3 = passed (ltb 1_048_576 h.slots) (TooMany table.Slots) _ g e2.1 in
    let e4 = passed (ltb 524_288 h.anchors) (TooMany table.Anchors) _ g e3.1 in
    let e5 = passed (ltb 524_288 h.notes) (TooMany table.Notes) _ g e4.1 in
    let e6 = passed (ltb 1_048_576 h.assumptions) (TooMany table.Assumptions) _ g e5.1 in
    let e7 = passed (ltb 524_288 h.writes) (TooMany table.Writes) (Ok h) g e6.1 in
    let b = both (leb 16 h.limit) (leb h.limit (most_steps h.version)) (not_false _ e2.0) in (
      record { version = version; plain = plain; limit = (leb-true _ _ b.0, leb-true _ _ b.1); slots = ltb-false _ _ e3.0; anchors = ltb-false _ _ e4.0; notes = ltb-false _ _ e5.0; assumptions = ltb-false _ _ e6.0; writes = ltb-false _ _ e7.0 },
      ok_is h g e7.1,
    )

-- the numbers of a header
abbrev pub numbers : Header → List ℕ
numbers h = magic_number ∷ h.version ∷ h.limit ∷ h.slots ∷ h.anchors ∷ h.notes ∷ h.assumptions ∷ counted h.version h.writes

pub header_takes : (bytes : List ℕ) (x : Header × List ℕ) → IsBytes bytes → next_header bytes ≡ Ok x → Takes bytes (words (numbers x.0)) x.1 × HeaderFits x.0
unfolding next_header
header_takes bytes x fits whole =
    let e = passed (ltb (length bytes) 28) Short _ x whole in
    let v = bind_ok (next_version bytes) _ x e.1 in
    let l = bind_ok (next_word v.0.1) _ x v.2 in
    let s = bind_ok (next_word l.0.1) _ x l.2 in
    let a = bind_ok (next_word s.0.1) _ x s.2 in
    let n = bind_ok (next_word a.0.1) _ x a.2 in
    let p = bind_ok (next_word n.0.1) _ x n.2 in
    let w = bind_ok (next_write_count v.0.0 p.0.1) _ x p.2 in
    let made : Header = record { version = v.0.0; limit = l.0.0; slots = s.0.0; anchors = a.0.0; notes = n.0.0; assumptions = p.0.0; writes = w.0.0 } in
    let g = bind_ok (admit_header made) _ x w.2 in
    let tv = version_takes bytes v.0 fits v.1 in
    let front = four_take v.0.1 l.0 s.0 a.0 n.0 tv.0.rest_fits l.1 s.1 a.1 n.1 in
    let tp = word_takes Short n.0.1 p.0 front.0.rest_fits p.1 in
    let tw = count_takes v.0.0 p.0.1 w.0 tp.0.rest_fits w.1 in
    let parts : Takes bytes (words (numbers made)) w.0.1 = Takes-then _ _ _ _ _ tv.0 (Takes-then _ _ _ _ _ front.0 (Takes-then _ _ _ _ _ tp.0 tw.0)) in
    let ad = header_admitted made g.0 tv.1 tw.1 g.1 in
    subst (λ (y : Header × List ℕ). Takes bytes (words (numbers y.0)) y.1 × HeaderFits y.0) (ap (λ (z : Header). (z, w.0.1)) ad.1 ∙ ok_is (g.0, w.0.1) x g.2) (parts, ad.0)

admitted_again : (h : Header) → HeaderFits h → admit_header h ≡ Ok h
admitted_again h fits =
    let t0 : leb 16 h.limit ≡ true = le-leb _ _ fits.limit.0 in
    let t1 : leb h.limit (most_steps h.version) ≡ true = le-leb _ _ fits.limit.1 in
    let t2 : ltb 1_048_576 h.slots ≡ false = le-ltb _ _ fits.slots in
    let t3 : ltb 524_288 h.anchors ≡ false = le-ltb _ _ fits.anchors in
    let t4 : ltb 524_288 h.notes ≡ false = le-ltb _ _ fits.notes in
    let t5 : ltb 1_048_576 h.assumptions ≡ false = le-ltb _ _ fits.assumptions in
    let t6 : ltb 524_288 h.writes ≡ false = le-ltb _ _ fits.writes in
    rw (t0, t1, t2, t3, t4, t5, t6) refl

most_steps_small : (version : ℕ) → most_steps version ≤ 16_384
most_steps_small version = tested (version == 1)
  where
    tested : (first : Bool) → cond first 16_384 4_096 ≤ 16_384
    tested true = omega arith
    tested false = omega arith

pub header_again : (h : Header) (rest : List ℕ) → HeaderFits h → next_header (words (numbers h) ++ rest) ≡ Ok (h, rest)
unfolding next_header
header_again h rest fits =
    let back : List ℕ = words (counted h.version h.writes) ++ rest in
    let middle : List ℕ = words (h.assumptions ∷ []) ++ back in
    let front : List ℕ = words (h.limit ∷ h.slots ∷ h.anchors ∷ h.notes ∷ []) ++ middle in
    let long : ltb (length (words (magic_number ∷ h.version ∷ []) ++ front)) 28 ≡ false = le-ltb _ _ (omega arith) in
    let last : ℕ → ℕ → ℕ → ℕ → ℕ → ℕ × List ℕ → Result (Header × List ℕ) ImageErr =
    λ limit slots anchors notes assumptions writes. admit_header (record { version = h.version; limit = limit; slots = slots; anchors = anchors; notes = notes; assumptions = assumptions; writes = writes.0 }) >>= with_rest writes.1 in
    let counting : ℕ → ℕ → ℕ → ℕ → ℕ × List ℕ → Result (Header × List ℕ) ImageErr = λ limit slots anchors notes assumptions. next_write_count h.version assumptions.1 >>= last limit slots anchors notes assumptions.0 in
    rw (long, version_again h.version front fits.version) (
    step4 {A = Header × List ℕ} h.limit h.slots h.anchors h.notes middle (λ limit slots anchors notes. next_word notes.1 >>= counting limit.0 slots.0 anchors.0 notes.0)
    (omega (arith, fits.limit, most_steps_small h.version)) (omega (arith, fits.slots)) (omega (arith, fits.anchors)) (omega (arith, fits.notes))
    ∙ word_step Short h.assumptions back (counting h.limit h.slots h.anchors h.notes) (omega (arith, fits.assumptions))
    ∙ ap (λ (r : Result (ℕ × List ℕ) ImageErr). r >>= last h.limit h.slots h.anchors h.notes h.assumptions) (count_again h.version h.writes rest (omega (arith, fits.writes)) fits.plain)
    ∙ ap (λ (r : Result Header ImageErr). r >>= with_rest rest) (admitted_again h fits))
