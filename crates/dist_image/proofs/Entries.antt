-- An entry that is read is the entry that was written, and what was written is read again.
use Rattle.std.proofs.Common.{◌≡◌, ℕ, ◌^◌, ◌<◌, ◌≤◌, Bool, true, false, cond, not, ◌&&◌, ltb, leb, List, [], ◌∷◌, ◌++◌, Option, Some, None, Result, Ok, Err, refl, sym, ap, subst, ◌∙◌, arith}
use Rattle.std.proofs.lemmas.Bool.{ltb-false, ltb-true, leb-true, eqb-true, lt-ltb, le-ltb, le-leb, eq-eqb}
use Rattle.std.proofs.lemmas.Bool.Decides.{nat_tests}
use Rattle.dist_image.specs.declared.error.ImageErr.{ImageErr}
use Rattle.dist_image.specs.declared.error.ImageErr.TheVariants.{Short, Range, Order}
use Rattle.dist_image.specs.declared.error.Table.TheVariants as table
use Rattle.dist_image.specs.declared.image.Slot.{Slot}
use Rattle.dist_image.specs.declared.image.Slot.TheVariants.{Exec, Go, Fork}
use Rattle.dist_image.specs.declared.image.Anchor.{Anchor}
use Rattle.dist_image.specs.declared.image.Note.{Note}
use Rattle.dist_image.specs.Image.{IsSlot, IsAnchor, IsNote}
use Rattle.word_format.specs.Bytes.{words}
use Rattle.dist_image.specs.Bytes.{slot_words, anchor_words, note_words}
use Rattle.word_format.specs.Reading.{◌>>=◌, is_aligned}
use Rattle.dist_image.specs.Reading.{next_word, is_mask, slot_from, is_slot, admit_slot, next_slot, admit_anchor, next_anchor, admit_note, next_note}
use Rattle.word_format.proofs.Numbers.{IsBytes, bind_ok, passed, not_false, both, ok_is, Takes, Takes-then, word_takes, word_step}

-- ---- three and four numbers

pub three_take : (bytes : List ℕ) (a b c : ℕ × List ℕ) → IsBytes bytes → next_word bytes ≡ Ok a → next_word a.1 ≡ Ok b → next_word b.1 ≡ Ok c →
    Takes bytes (words (a.0 ∷ b.0 ∷ c.0 ∷ [])) c.1 × (a.0 < 2 ^ 32) × (b.0 < 2 ^ 32) × (c.0 < 2 ^ 32)
three_take bytes a b c fits is_a is_b is_c =
    let x = word_takes Short bytes a fits is_a in
    let y = word_takes Short a.1 b x.0.rest_fits is_b in
    let z = word_takes Short b.1 c y.0.rest_fits is_c in
    (Takes-then _ _ _ _ _ x.0 (Takes-then _ _ _ _ _ y.0 z.0), x.1, y.1, z.1)

pub four_take : (bytes : List ℕ) (a b c d : ℕ × List ℕ) → IsBytes bytes → next_word bytes ≡ Ok a → next_word a.1 ≡ Ok b → next_word b.1 ≡ Ok c → next_word c.1 ≡ Ok d →
    Takes bytes (words (a.0 ∷ b.0 ∷ c.0 ∷ d.0 ∷ [])) d.1 × (a.0 < 2 ^ 32) × (b.0 < 2 ^ 32) × (c.0 < 2 ^ 32) × (d.0 < 2 ^ 32)
four_take bytes a b c d fits is_a is_b is_c is_d =
    let x = word_takes Short bytes a fits is_a in
    let y = three_take a.1 b c d x.0.rest_fits is_b is_c is_d in
    (Takes-then _ _ _ _ _ x.0 y.0, x.1, y.1, y.2, y.3)

-- an entry with the bytes after it
abbrev pub with_rest : {A : Type 0} → List ℕ → A → Result (A × List ℕ) ImageErr
with_rest rest x = Ok (x, rest)

-- reading numbers that were written, and going on
pub step3 : {A : Type 0} (a b c : ℕ) (rest : List ℕ) (f : ℕ × List ℕ → ℕ × List ℕ → ℕ × List ℕ → Result A ImageErr) → a < 2 ^ 32 → b < 2 ^ 32 → c < 2 ^ 32 →
    (next_word (words (a ∷ b ∷ c ∷ []) ++ rest) >>= λ x. next_word x.1 >>= λ y. next_word y.1 >>= λ z. f x y z) ≡ f (a, words (b ∷ c ∷ []) ++ rest) (b, words (c ∷ []) ++ rest) (c, rest)
step3 a b c rest f la lb lc =
    let x : ℕ × List ℕ = (a, words (b ∷ c ∷ []) ++ rest) in
    let y : ℕ × List ℕ = (b, words (c ∷ []) ++ rest) in
    word_step Short a (words (b ∷ c ∷ []) ++ rest) (λ x. next_word x.1 >>= λ y. next_word y.1 >>= λ z. f x y z) la
    ∙ word_step Short b (words (c ∷ []) ++ rest) (λ y. next_word y.1 >>= λ z. f x y z) lb
    ∙ word_step Short c rest (λ z. f x y z) lc

pub step4 : {A : Type 0} (a b c d : ℕ) (rest : List ℕ) (f : ℕ × List ℕ → ℕ × List ℕ → ℕ × List ℕ → ℕ × List ℕ → Result A ImageErr) → a < 2 ^ 32 → b < 2 ^ 32 → c < 2 ^ 32 → d < 2 ^ 32 →
    (next_word (words (a ∷ b ∷ c ∷ d ∷ []) ++ rest) >>= λ x. next_word x.1 >>= λ y. next_word y.1 >>= λ z. next_word z.1 >>= λ v. f x y z v)
    ≡ f (a, words (b ∷ c ∷ d ∷ []) ++ rest) (b, words (c ∷ d ∷ []) ++ rest) (c, words (d ∷ []) ++ rest) (d, rest)
step4 a b c d rest f la lb lc ld =
    let x : ℕ × List ℕ = (a, words (b ∷ c ∷ d ∷ []) ++ rest) in
    word_step Short a (words (b ∷ c ∷ d ∷ []) ++ rest) (λ x. next_word x.1 >>= λ y. next_word y.1 >>= λ z. next_word z.1 >>= λ v. f x y z v) la
    ∙ step3 b c d rest (λ y z v. f x y z v) lb lc ld

-- ---- slots

admit_some : (anchors i : ℕ) (o : Option Slot) (s : Slot) → admit_slot anchors i o ≡ Ok s → (o ≡ Some s) × (is_slot anchors s ≡ true)
admit_some anchors i None s e = absurd cc
admit_some anchors i (Some t) s e = tested (is_slot anchors t) refl e
  where
    tested : (b : Bool) → is_slot anchors t ≡ b → cond b (Ok t) (Err (Range table.Slots i)) ≡ Ok s → (Some t ≡ Some s) × (is_slot anchors s ≡ true)
    tested true is e = let same : t ≡ s = ok_is t s e in (ap (λ (u : Slot). Some u) same, subst (λ (u : Slot). is_slot anchors u ≡ true) same is)
    tested false is e = absurd cc

slot_spelled : (kind a b : ℕ) (s : Slot) → slot_from kind a b ≡ Some s → slot_words s ≡ kind ∷ a ∷ b ∷ []
slot_spelled kind a b (Exec origin word) e = grind (arith, nat_tests)
slot_spelled kind a b (Go target) e = grind (arith, nat_tests)
slot_spelled kind a b (Fork anchor) e = grind (arith, nat_tests)

second : (a b c d e f : ℕ) → a ∷ b ∷ c ∷ [] ≡ d ∷ e ∷ f ∷ [] → (b ≡ e) × (c ≡ f)
second a b c d e f h = (cc, cc)

slot_fits : (anchors kind a b : ℕ) (s : Slot) → a < 2 ^ 32 → b < 2 ^ 32 → slot_words s ≡ kind ∷ a ∷ b ∷ [] → is_slot anchors s ≡ true → IsSlot anchors s
slot_fits anchors kind a b (Exec origin word) la lb e t = let p = second _ _ _ _ _ _ e in ((eqb-true _ _ t, omega (arith, p.0)), omega (arith, p.1))
slot_fits anchors kind a b (Go target) la lb e t = let p = second _ _ _ _ _ _ e in (eqb-true _ _ t, omega (arith, p.0))
slot_fits anchors kind a b (Fork anchor) la lb e t = ltb-true _ _ t

pub slot_takes : (anchors i : ℕ) (bytes : List ℕ) (x : Slot × List ℕ) → IsBytes bytes → next_slot anchors i bytes ≡ Ok x → Takes bytes (words (slot_words x.0)) x.1 × IsSlot anchors x.0
unfolding next_slot
slot_takes anchors i bytes x fits e =
    let k = bind_ok (next_word bytes) _ x e in
    let a = bind_ok (next_word k.0.1) _ x k.2 in
    let b = bind_ok (next_word a.0.1) _ x a.2 in
    let s = bind_ok (admit_slot anchors i (slot_from k.0.0 a.0.0 b.0.0)) _ x b.2 in
    let t = three_take bytes k.0 a.0 b.0 fits k.1 a.1 b.1 in
    let ad = admit_some anchors i (slot_from k.0.0 a.0.0 b.0.0) s.0 s.1 in
    let spelled = slot_spelled k.0.0 a.0.0 b.0.0 s.0 ad.0 in
    let parts : Takes bytes (words (slot_words s.0)) b.0.1 = subst (λ (ws : List ℕ). Takes bytes (words ws) b.0.1) (sym spelled) t.0 in
    subst (λ (y : Slot × List ℕ). Takes bytes (words (slot_words y.0)) y.1 × IsSlot anchors y.0) (ok_is (s.0, b.0.1) x s.2) (parts, slot_fits anchors k.0.0 a.0.0 b.0.0 s.0 t.2 t.3 spelled ad.1)

admit_again : (anchors i : ℕ) (s : Slot) → IsSlot anchors s → admit_slot anchors i (Some s) ≡ Ok s
admit_again anchors i (Exec origin word) fits = let t : is_aligned origin ≡ true = eq-eqb _ _ fits.0.0 in rw t refl
admit_again anchors i (Go target) fits = let t : is_aligned target ≡ true = eq-eqb _ _ fits.0 in rw t refl
admit_again anchors i (Fork anchor) fits = let t : ltb anchor anchors ≡ true = lt-ltb _ _ fits in rw t refl

abbrev admit_next : ℕ → ℕ → ℕ × List ℕ → ℕ × List ℕ → ℕ × List ℕ → Result (Slot × List ℕ) ImageErr
admit_next anchors i kind a b = admit_slot anchors i (slot_from kind.0 a.0 b.0) >>= λ s. Ok (s, b.1)

admits : (anchors i : ℕ) (s : Slot) (rest : List ℕ) → IsSlot anchors s → (admit_slot anchors i (Some s) >>= with_rest rest) ≡ Ok (s, rest)
admits anchors i s rest fits = ap (λ (r : Result Slot ImageErr). r >>= with_rest rest) (admit_again anchors i s fits)

pub slot_again : (anchors i : ℕ) (s : Slot) (rest : List ℕ) → anchors < 2 ^ 32 → IsSlot anchors s → next_slot anchors i (words (slot_words s) ++ rest) ≡ Ok (s, rest)
unfolding next_slot
slot_again anchors i (Exec origin word) rest few fits = step3 0 origin word rest (admit_next anchors i) (omega arith) fits.0.1 fits.1 ∙ admits anchors i (Exec origin word) rest fits
slot_again anchors i (Go target) rest few fits = step3 1 target 0 rest (admit_next anchors i) (omega arith) fits.1 (omega arith) ∙ admits anchors i (Go target) rest fits
slot_again anchors i (Fork anchor) rest few fits = step3 2 anchor 0 rest (admit_next anchors i) (omega arith) (omega arith) (omega arith) ∙ admits anchors i (Fork anchor) rest fits

-- ---- anchors

pub anchor_takes : (slots i due : ℕ) (bytes : List ℕ) (x : Anchor × List ℕ) → IsBytes bytes → next_anchor slots i due bytes ≡ Ok x →
    Takes bytes (words (anchor_words x.0)) x.1 × ((due ≤ x.0.pc) × IsAnchor slots x.0)
unfolding next_anchor
anchor_takes slots i due bytes x fits e =
    let p = bind_ok (next_word bytes) _ x e in
    let s = bind_ok (next_word p.0.1) _ x p.2 in
    let n = bind_ok (next_word s.0.1) _ x s.2 in
    let made : Anchor = record { pc = p.0.0; slot = s.0.0; count = n.0.0 } in
    let a = bind_ok (admit_anchor slots i due made) _ x n.2 in
    let t = three_take bytes p.0 s.0 n.0 fits p.1 s.1 n.1 in
    let order = cond (ltb p.0.0 due) (Err (Order table.Anchors i)) (Ok made) in
    let range = is_aligned p.0.0 && ltb s.0.0 slots && leb 1 n.0.0 && leb n.0.0 64 in
    let e0 = passed (not range) (Range table.Anchors i) order a.0 a.1 in
    let e1 = passed (ltb p.0.0 due) (Order table.Anchors i) (Ok made) a.0 e0.1 in
    let b0 = both (is_aligned p.0.0 && ltb s.0.0 slots && leb 1 n.0.0) (leb n.0.0 64) (not_false _ e0.0) in
    let b1 = both (is_aligned p.0.0 && ltb s.0.0 slots) (leb 1 n.0.0) b0.0 in
    let b2 = both (is_aligned p.0.0) (ltb s.0.0 slots) b1.0 in
    let whole : Takes bytes (words (anchor_words made)) n.0.1 × ((due ≤ made.pc) × IsAnchor slots made) = (t.0, (ltb-false _ _ e1.0, ((eqb-true _ _ b2.0, t.1), ltb-true _ _ b2.1, leb-true _ _ b1.1, leb-true _ _ b0.1))) in
    subst (λ (y : Anchor × List ℕ). Takes bytes (words (anchor_words y.0)) y.1 × ((due ≤ y.0.pc) × IsAnchor slots y.0)) (ap (λ (z : Anchor). (z, n.0.1)) (ok_is made a.0 e1.1) ∙ ok_is (a.0, n.0.1) x a.2) whole

pub anchor_again : (slots i due : ℕ) (a : Anchor) (rest : List ℕ) → slots < 2 ^ 32 → (due ≤ a.pc) × IsAnchor slots a → next_anchor slots i due (words (anchor_words a) ++ rest) ≡ Ok (a, rest)
unfolding next_anchor
anchor_again slots i due a rest few fits =
    let t0 : is_aligned a.pc ≡ true = eq-eqb _ _ fits.1.0.0 in
    let t1 : ltb a.slot slots ≡ true = lt-ltb _ _ fits.1.1 in
    let t2 : leb 1 a.count ≡ true = le-leb _ _ fits.1.2 in
    let t3 : leb a.count 64 ≡ true = le-leb _ _ fits.1.3 in
    let t4 : ltb a.pc due ≡ false = le-ltb _ _ fits.0 in
    let ad : admit_anchor slots i due a ≡ Ok a = rw (t0, t1, t2, t3, t4) refl in
    step3 a.pc a.slot a.count rest (λ pc slot count. admit_anchor slots i due (record { pc = pc.0; slot = slot.0; count = count.0 }) >>= λ b. Ok (b, count.1)) fits.1.0.1 (omega (arith, fits.1.1)) (omega (arith, fits.1.3)) ∙ ap (λ (r : Result Anchor ImageErr). r >>= λ b. Ok (b, rest)) ad

-- ---- notes

pub note_takes : (slots i due : ℕ) (bytes : List ℕ) (x : Note × List ℕ) → IsBytes bytes → next_note slots i due bytes ≡ Ok x →
    Takes bytes (words (note_words x.0)) x.1 × ((due ≤ x.0.pc) × IsNote slots x.0)
unfolding next_note
note_takes slots i due bytes x fits e =
    let p = bind_ok (next_word bytes) _ x e in
    let s = bind_ok (next_word p.0.1) _ x p.2 in
    let l = bind_ok (next_word s.0.1) _ x s.2 in
    let n = bind_ok (next_word l.0.1) _ x l.2 in
    let made : Note = record { pc = p.0.0; slot = s.0.0; live = l.0.0; need = n.0.0 } in
    let a = bind_ok (admit_note slots i due made) _ x n.2 in
    let t = four_take bytes p.0 s.0 l.0 n.0 fits p.1 s.1 l.1 n.1 in
    let order = cond (ltb p.0.0 due) (Err (Order table.Notes i)) (Ok made) in
    let range = is_aligned p.0.0 && ltb s.0.0 slots && is_mask l.0.0 && is_mask n.0.0 in
    let e0 = passed (not range) (Range table.Notes i) order a.0 a.1 in
    let e1 = passed (ltb p.0.0 due) (Order table.Notes i) (Ok made) a.0 e0.1 in
    let b0 = both (is_aligned p.0.0 && ltb s.0.0 slots && is_mask l.0.0) (is_mask n.0.0) (not_false _ e0.0) in
    let b1 = both (is_aligned p.0.0 && ltb s.0.0 slots) (is_mask l.0.0) b0.0 in
    let b2 = both (is_aligned p.0.0) (ltb s.0.0 slots) b1.0 in
    let whole : Takes bytes (words (note_words made)) n.0.1 × ((due ≤ made.pc) × IsNote slots made) = (t.0, (ltb-false _ _ e1.0, ((eqb-true _ _ b2.0, t.1), ltb-true _ _ b2.1, (eqb-true _ _ b1.1, t.3), (eqb-true _ _ b0.1, t.4)))) in
    subst (λ (y : Note × List ℕ). Takes bytes (words (note_words y.0)) y.1 × ((due ≤ y.0.pc) × IsNote slots y.0)) (ap (λ (z : Note). (z, n.0.1)) (ok_is made a.0 e1.1) ∙ ok_is (a.0, n.0.1) x a.2) whole

pub note_again : (slots i due : ℕ) (n : Note) (rest : List ℕ) → slots < 2 ^ 32 → (due ≤ n.pc) × IsNote slots n → next_note slots i due (words (note_words n) ++ rest) ≡ Ok (n, rest)
unfolding next_note
note_again slots i due n rest few fits =
    let t0 : is_aligned n.pc ≡ true = eq-eqb _ _ fits.1.0.0 in
    let t1 : ltb n.slot slots ≡ true = lt-ltb _ _ fits.1.1 in
    let t2 : is_mask n.live ≡ true = eq-eqb _ _ fits.1.2.0 in
    let t3 : is_mask n.need ≡ true = eq-eqb _ _ fits.1.3.0 in
    let t4 : ltb n.pc due ≡ false = le-ltb _ _ fits.0 in
    let ad : admit_note slots i due n ≡ Ok n = rw (t0, t1, t2, t3, t4) refl in
    step4 n.pc n.slot n.live n.need rest (λ pc slot live need. admit_note slots i due (record { pc = pc.0; slot = slot.0; live = live.0; need = need.0 }) >>= λ b. Ok (b, need.1)) fits.1.0.1 (omega (arith, fits.1.1)) fits.1.2.1 fits.1.3.1 ∙ ap (λ (r : Result Note ImageErr). r >>= λ b. Ok (b, rest)) ad
