-- The two laws of the format: what is read is a profile with these bytes, and the bytes of a profile are read as that profile.
use Rattle.std.proofs.Common.{◌≡◌, ℕ, zero, suc, ◌^◌, ◌<◌, ◌≤◌, ◌==◌, nat_eq, ◌⊎◌, inl, inr, Bool, true, false, cond, not, ltb, List, [], ◌∷◌, ◌++◌, length, map, is_some, Some, Result, Ok, Err, refl, sym, ap, subst, ◌∙◌, append_assoc, arith}
use Rattle.std.specs.Cmp.{nat_eq_equiv}
use Rattle.std.specs.List.{AllByRecursion, IsDistinct, flat_map, list_any, sum_by}
use Rattle.std.proofs.lemmas.Bool.{ltb-false, eqb-true, eq-eqb, le-ltb}
use Rattle.std.proofs.lemmas.Bool.Decides.{nat_tests}
use Rattle.std.proofs.lemmas.List.{append-nil, nil_from_length, length-append, map_push}
use Rattle.std.proofs.lemmas.List.Elements.{All-from_recursion, recursion_from_All}
use Rattle.std.proofs.lemmas.List.Sums.{sum_by-append, sum_by-cons, sum_by_push}
use Rattle.std.proofs.lemmas.Map.Keys.{IsDistinct-from_apart, IsDistinct-head, IsDistinct-tail, IsDistinct-push}
use Rattle.profile_data.specs.declared.error.ProfileErr.{ProfileErr}
use Rattle.profile_data.specs.declared.error.ProfileErr.TheVariants.{Short, Magic, Version, Mark, TooMany, Sum, Long, Memory}
use Rattle.profile_data.specs.declared.header.Header.{Header}
use Rattle.profile_data.specs.Profile.{Tally, Profiled, pc_of, executed_of, row_at, target_count, IsTally, IsProfile}
use Rattle.profile_data.specs.Bytes.{four, eight, mark, header_bytes, row_bytes, bytes_of}
use Rattle.word_format.specs.Reading.{◌>>=◌}
use Rattle.profile_data.specs.Reading.{next_word, next_long, admit_header, next_header, next_row, rows_in, profile_from}
use Rattle.word_format.proofs.Numbers.{IsBytes, bind_ok, passed, not_false, ok_is, Takes, Takes-then, word_takes, long_takes, word_step, long_step, AllFrom, entries_take, entries_again}
use Rattle.profile_data.proofs.Rows.{FitsRow, row_takes, row_again}

-- ---- the header

header_admitted : (magic version : ℕ) (h g : Header) → admit_header magic version h ≡ Ok g → (magic ≡ 0x4650_534D) × (version ≡ 1) × (h.ended ≤ 1) × (h.rows ≤ 524_288) × (h ≡ g)
header_admitted magic version h g e =
    let e0 = passed (not (magic == 0x4650_534D)) Magic _ g e in
    let e1 = passed (not (version == 1)) Version _ g e0.1 in
    let e2 = passed (ltb 1 h.ended) Mark _ g e1.1 in
    let e3 = passed (ltb 524_288 h.rows) TooMany _ g e2.1 in
    (eqb-true _ _ (not_false _ e0.0), eqb-true _ _ (not_false _ e1.0), ltb-false _ _ e2.0, ltb-false _ _ e3.0, ok_is h g e3.1)

-- the bytes of these numbers
abbrev text_of : ℕ → ℕ → Header → List ℕ
text_of magic version h = four magic ++ (four version ++ (eight h.steps ++ (four h.ended ++ four h.rows)))

header_takes : (bytes : List ℕ) (x : Header × List ℕ) → IsBytes bytes → next_header bytes ≡ Ok x → Takes bytes (text_of 0x4650_534D 1 x.0) x.1 × (x.0.steps < 2 ^ 64) × (x.0.ended ≤ 1) × (x.0.rows ≤ 524_288)
unfolding next_header
header_takes bytes x fits whole =
    let e = passed (ltb (length bytes) 24) Short _ x whole in
    let m = bind_ok (next_word bytes) _ x e.1 in
    let v = bind_ok (next_word m.0.1) _ x m.2 in
    let s = bind_ok (next_long v.0.1) _ x v.2 in
    let d = bind_ok (next_word s.0.1) _ x s.2 in
    let r = bind_ok (next_word d.0.1) _ x d.2 in
    let made : Header = record { steps = s.0.0; ended = d.0.0; rows = r.0.0 } in
    let g = bind_ok (admit_header m.0.0 v.0.0 made) _ x r.2 in
    let ad = header_admitted m.0.0 v.0.0 made g.0 g.1 in
    let a = word_takes Short bytes m.0 fits m.1 in
    let b = word_takes Short m.0.1 v.0 a.0.rest_fits v.1 in
    let c = long_takes Short v.0.1 s.0 b.0.rest_fits s.1 in
    let k = word_takes Short s.0.1 d.0 c.0.rest_fits d.1 in
    let l = word_takes Short d.0.1 r.0 k.0.rest_fits r.1 in
    let parts : Takes bytes (text_of m.0.0 v.0.0 made) r.0.1 = Takes-then _ _ _ _ _ a.0 (Takes-then _ _ _ _ _ b.0 (Takes-then _ _ _ _ _ c.0 (Takes-then _ _ _ _ _ k.0 l.0))) in
    let named : Takes bytes (text_of 0x4650_534D 1 made) r.0.1 = subst (λ (w : ℕ × ℕ). Takes bytes (text_of w.0 w.1 made) r.0.1) {x = (m.0.0, v.0.0)} {y = (0x4650_534D, 1)} (cc (ad.0, ad.1)) parts in
    subst (λ (y : Header × List ℕ). Takes bytes (text_of 0x4650_534D 1 y.0) y.1 × (y.0.steps < 2 ^ 64) × (y.0.ended ≤ 1) × (y.0.rows ≤ 524_288)) (ap (λ (z : Header). (z, r.0.1)) ad.4 ∙ ok_is (g.0, r.0.1) x g.2) (named, c.1, ad.2, ad.3)

header_again : (h : Header) (rest : List ℕ) → h.steps < 2 ^ 64 → h.ended ≤ 1 → h.rows ≤ 524_288 → next_header (text_of 0x4650_534D 1 h ++ rest) ≡ Ok (h, rest)
unfolding next_header
header_again h rest small mark few =
    let long : ltb (length (text_of 0x4650_534D 1 h ++ rest)) 24 ≡ false = le-ltb _ _ (omega (arith, length-append (text_of 0x4650_534D 1 h) rest)) in
    let t0 : ltb 1 h.ended ≡ false = le-ltb _ _ mark in
    let t1 : ltb 524_288 h.rows ≡ false = le-ltb _ _ few in
    let ad : admit_header 0x4650_534D 1 h ≡ Ok h = rw (t0, t1) refl in
    let made : ℕ → ℕ → ℕ → Header = λ steps ended rows. record { steps = steps; ended = ended; rows = rows } in
    let d : List ℕ = four h.rows ++ rest in
    let c : List ℕ = four h.ended ++ d in
    let b : List ℕ = eight h.steps ++ c in
    let a : List ℕ = four 1 ++ b in
    rw long (
    word_step Short {A = Header × List ℕ} 0x4650_534D a (λ magic. next_word magic.1 >>= λ version. next_long version.1 >>= λ steps. next_word steps.1 >>= λ ended. next_word ended.1 >>= λ rows. admit_header magic.0 version.0 (made steps.0 ended.0 rows.0) >>= λ g. Ok (g, rows.1)) (omega arith)
    ∙ word_step Short {A = Header × List ℕ} 1 b (λ version. next_long version.1 >>= λ steps. next_word steps.1 >>= λ ended. next_word ended.1 >>= λ rows. admit_header 0x4650_534D version.0 (made steps.0 ended.0 rows.0) >>= λ g. Ok (g, rows.1)) (omega arith)
    ∙ long_step Short {A = Header × List ℕ} h.steps c (λ steps. next_word steps.1 >>= λ ended. next_word ended.1 >>= λ rows. admit_header 0x4650_534D 1 (made steps.0 ended.0 rows.0) >>= λ g. Ok (g, rows.1)) small
    ∙ word_step Short {A = Header × List ℕ} h.ended d (λ ended. next_word ended.1 >>= λ rows. admit_header 0x4650_534D 1 (made h.steps ended.0 rows.0) >>= λ g. Ok (g, rows.1)) (omega (arith, mark))
    ∙ word_step Short {A = Header × List ℕ} h.rows rest (λ rows. admit_header 0x4650_534D 1 (made h.steps h.ended rows.0) >>= λ g. Ok (g, rows.1)) (omega (arith, few))
    ∙ ap (λ (r : Result Header ProfileErr). r >>= λ g. Ok (g, rest)) ad)

mark_from : (n : ℕ) → n ≤ 1 → mark (n == 1) ≡ n
mark_from zero le = refl
mark_from (suc zero) le = refl
mark_from (suc (suc n)) le = absurd (omega arith)

mark_again : (b : Bool) → (mark b == 1 ≡ b) × (mark b ≤ 1)
mark_again true = (refl, omega arith)
mark_again false = (refl, omega arith)

-- ---- the rows

abbrev push : List Tally → Tally → List Tally
push before t = before ++ t ∷ []

abbrev AllRows : List Tally → List Tally → Type 0
AllRows before ts = AllFrom next_row push row_bytes FitsRow before ts

-- no row has a program counter exactly where it is not among those of the rows
is_there : (before : List Tally) (pc : ℕ) → list_any (nat_eq pc) (map pc_of before) ≡ is_some (row_at before pc)
is_there [] pc = refl
is_there (b ∷ bs) pc = grind (arith, nat_tests, is_there bs pc)

at_middle : (P : ℕ → Type 0) (xs : List Tally) (t : Tally) (ts : List Tally) → AllByRecursion P (map pc_of (xs ++ t ∷ ts)) → P t.pc
at_middle P [] t ts h = h.0
at_middle P (x ∷ xs) t ts h = at_middle P xs t ts h.1

is_new : (before : List Tally) (t : Tally) (ts : List Tally) → IsDistinct nat_eq (map pc_of (before ++ t ∷ ts)) → is_some (row_at before t.pc) ≡ false
is_new [] t ts distinct = refl
is_new (b ∷ bs) t ts distinct =
    let apart : (b.pc == t.pc) ≡ false = at_middle (λ pc. (b.pc == pc) ≡ false) bs t ts (IsDistinct-head nat_eq b.pc (map pc_of (bs ++ t ∷ ts)) distinct) in
    let later = is_new bs t ts (IsDistinct-tail nat_eq b.pc (map pc_of (bs ++ t ∷ ts)) distinct) in
    ap (λ (c : Bool). is_some (cond c (Some b) (row_at bs t.pc))) apart ∙ later

-- what holds of all rows, where some stand before them
record AreRows (before ts : List Tally) : Type 0 where
  rows : AllByRecursion IsTally ts
  distinct : IsDistinct nat_eq (map pc_of (before ++ ts))
  few : target_count (before ++ ts) ≤ 1_048_576

gather : (before ts : List Tally) → IsDistinct nat_eq (map pc_of before) → target_count before ≤ 1_048_576 → AllRows before ts → AreRows before ts
gather before [] distinct few h = let all : before ++ [] ≡ before = append-nil before in record { rows = tt; distinct = subst (λ (ts : List Tally). IsDistinct nat_eq (map pc_of ts)) (sym all) distinct; few = subst (λ (ts : List Tally). target_count ts ≤ 1_048_576) (sym all) few }
gather before (t ∷ ts) distinct few h =
    let new : list_any (nat_eq t.pc) (map pc_of before) ≡ false = is_there before t.pc ∙ h.0.new in
    let more : IsDistinct nat_eq (map pc_of (push before t)) = subst (IsDistinct nat_eq) (sym (map_push pc_of before t)) (IsDistinct-push nat_eq_equiv (map pc_of before) t.pc distinct new) in
    let rest = gather (push before t) ts more (omega (arith, sum_by_push (λ (r : Tally). length r.targets) before t, h.0.few)) h.1 in
    let all : push before t ++ ts ≡ before ++ t ∷ ts = append_assoc before (t ∷ []) ts in
    record { rows = (h.0.fits, rest.rows); distinct = subst (λ (rs : List Tally). IsDistinct nat_eq (map pc_of rs)) all rest.distinct; few = subst (λ (rs : List Tally). target_count rs ≤ 1_048_576) all rest.few }

spread : (before ts : List Tally) → AreRows before ts → sum_by executed_of ts < 2 ^ 64 → AllRows before ts
spread before [] are small = tt
spread before (t ∷ ts) are small =
    let all : push before t ++ ts ≡ before ++ t ∷ ts = append_assoc before (t ∷ []) ts in
    let count = sum_by-append (λ (r : Tally). length r.targets) before (t ∷ ts) in
    let first = sum_by-cons (λ (r : Tally). length r.targets) t ts in
    let sum = sum_by-cons executed_of t ts in
    let later : AreRows (push before t) ts = record { rows = are.rows.1; distinct = subst (λ (rs : List Tally). IsDistinct nat_eq (map pc_of rs)) (sym all) are.distinct; few = subst (λ (rs : List Tally). target_count rs ≤ 1_048_576) (sym all) are.few } in
    (record { fits = are.rows.0; small = omega (arith, sum, small); new = is_new before t ts are.distinct; few = omega (arith, count, first, are.few) }, spread (push before t) ts later (omega (arith, sum, small)))

-- ---- the whole

profile_takes : (bytes : List ℕ) (profile : Profiled) → IsBytes bytes → profile_from bytes ≡ Ok profile → IsProfile profile × (bytes ≡ bytes_of profile)
unfolding profile_from
profile_takes bytes profile fits e =
    let h = bind_ok (next_header bytes) _ profile e in
    let r = bind_ok (rows_in h.0.0.rows h.0.1) _ profile h.2 in
    let made : Profiled = record { steps = h.0.0.steps; ended = h.0.0.ended == 1; rows = r.0.0 } in
    let e0 = passed (not (sum_by executed_of r.0.0 == h.0.0.steps)) Sum _ profile r.2 in
    let e1 = passed (not (length r.0.1 == 0)) Long (Ok made) profile e0.1 in
    let th = header_takes bytes h.0 fits h.1 in
    let tr = entries_take next_row push row_bytes FitsRow row_takes h.0.0.rows 0 [] h.0.1 r.0 th.0.rest_fits r.1 in
    let count = tr.1 in
    let are = gather [] r.0.0 (IsDistinct-from_apart nat_eq [] (λ i j d lt within. absurd (omega arith))) (omega arith) tr.2 in
    let nothing : r.0.1 ≡ [] = nil_from_length r.0.1 (eqb-true _ _ (not_false _ e1.0)) in
    let all = Takes-then bytes (text_of 0x4650_534D 1 h.0.0) h.0.1 (flat_map row_bytes r.0.0) r.0.1 th.0 tr.0 in
    let exact : bytes ≡ text_of 0x4650_534D 1 h.0.0 ++ flat_map row_bytes r.0.0 = all.parts ∙ ap (λ (t : List ℕ). (text_of 0x4650_534D 1 h.0.0 ++ flat_map row_bytes r.0.0) ++ t) nothing ∙ append-nil _ in
    let named : text_of 0x4650_534D 1 h.0.0 ≡ header_bytes made = ap (λ (n : ℕ × ℕ). four 0x4650_534D ++ (four 1 ++ (eight h.0.0.steps ++ (four n.0 ++ four n.1)))) {x = (h.0.0.ended, h.0.0.rows)} {y = (mark (h.0.0.ended == 1), length r.0.0)} (cc (mark_from h.0.0.ended th.2, count)) in
    let is : IsProfile made = record {
      steps = th.1;
      few_rows = omega (arith, count, th.3);
      few_targets = are.few;
      rows = All-from_recursion IsTally r.0.0 are.rows;
      distinct = are.distinct;
      sum = eqb-true _ _ (not_false _ e0.0);
    } in
    subst (λ (p : Profiled). IsProfile p × (bytes ≡ bytes_of p)) (ok_is made profile e1.1) (is, exact ∙ ap (λ (t : List ℕ). t ++ flat_map row_bytes r.0.0) named)

profile_again : (profile : Profiled) → IsProfile profile → profile_from (bytes_of profile) ≡ Ok profile
unfolding profile_from
profile_again profile is =
    let h : Header = record { steps = profile.steps; ended = mark profile.ended; rows = length profile.rows } in
    let m = mark_again profile.ended in
    let text : List ℕ = flat_map row_bytes profile.rows in
    let rh : next_header (header_bytes profile ++ text) ≡ Ok (h, text) = header_again h text is.steps m.1 is.few_rows in
    let all = spread [] profile.rows (record { rows = recursion_from_All IsTally profile.rows is.rows; distinct = is.distinct; few = is.few_targets }) (omega (arith, is.sum, is.steps)) in
    let rr : rows_in (length profile.rows) text ≡ Ok (profile.rows, []) = ap (rows_in (length profile.rows)) (sym (append-nil text)) ∙ entries_again next_row push row_bytes FitsRow row_again profile.rows 0 [] [] all in
    let sum : (sum_by executed_of profile.rows == profile.steps) ≡ true = eq-eqb _ _ is.sum in
    let mark : (mark profile.ended == 1) ≡ profile.ended = m.0 in
    rw (rh, rr, sum, mark) refl

-- ---- what a call says

pub is_found : (bytes : List ℕ) (profile read : Profiled) → IsBytes bytes → profile_from bytes ≡ Ok read → profile ≡ read → IsProfile profile × (bytes ≡ bytes_of profile)
is_found bytes profile read fits given is = subst (λ (p : Profiled). IsProfile p × (bytes ≡ bytes_of p)) (sym is) (profile_takes bytes read fits given)

pub is_only : (bytes : List ℕ) (read : Profiled) → profile_from bytes ≡ Ok read → (profile : Profiled) → IsProfile profile → bytes ≡ bytes_of profile → read ≡ profile
is_only bytes read given profile is same = ok_is read profile (sym given ∙ ap profile_from same ∙ profile_again profile is)

pub is_memory : (bytes : List ℕ) (e : ProfileErr) → (e ≡ Memory) ⊎ (profile_from bytes ≡ Err e) → (profile : Profiled) → IsProfile profile → bytes ≡ bytes_of profile → e ≡ Memory
is_memory bytes e (inl memory) profile is same = memory
is_memory bytes e (inr refused) profile is same = let no : Ok profile ≡ Err e = sym (profile_again profile is) ∙ ap profile_from (sym same) ∙ refused in absurd cc

-- what is written is read as the profile
pub is_back : (old header all : List ℕ) (profile : Profiled) (rows : List Tally) → IsProfile profile → old ≡ [] → header ≡ old ++ header_bytes profile → rows ≡ profile.rows → all ≡ header ++ flat_map row_bytes rows → profile_from all ≡ Ok profile
is_back old header all profile rows is empty front same whole =
    let text : all ≡ bytes_of profile = whole ∙ ap (λ (x : List ℕ). x ++ flat_map row_bytes rows) (front ∙ ap (λ (x : List ℕ). x ++ header_bytes profile) empty) ∙ ap (λ (ts : List Tally). header_bytes profile ++ flat_map row_bytes ts) same in
    ap profile_from text ∙ profile_again profile is
