-- A line that is read is the line that is spelled, and what is spelled is read.
use Rattle.std.proofs.Common.{◌≡◌, ℕ, ◌+◌, ◌<◌, Bool, true, false, cond, ◌&&◌, eqb, List, [], ◌∷◌, ◌++◌, length, take, drop, drop-cons, add-one, get_or, Option, Some, None, refl, sym, ap, ◌∙◌, subst, arith}
use Rattle.std.proofs.lemmas.Bool.{eqb-true}
use Rattle.std.proofs.lemmas.Bool.Decides.{nat_tests}
use Rattle.std.proofs.lemmas.Fmt.{decimal_nonempty}
use Rattle.std.specs.Fmt.{decimal}
use Rattle.std.specs.Str.{all_ascii_digits}
use Rattle.std.proofs.lemmas.List.{take-append-drop, length-drop}
use Rattle.std.proofs.Math.Seq.{take-append_seam, drop-append-add}
use Rattle.std.specs.Cmp.Lexicographic.{same_text}
use Rattle.std.specs.Option.{option_map, option_and_then}
use Rattle.std.specs.List.{before_first, after_first, position_or_len}
use Rattle.std.specs.Char.{is_ascii_digit}
use Rattle.std.proofs.lemmas.List.Sums.{passes_at_first}
use Rattle.std.specs.Prelude.{codes}
use Rattle.speculation.specs.declared.Event.{Event}
use Rattle.speculation.specs.declared.Event.TheVariants.{Master, Slave, Commit, Serial, Restart}
use Rattle.event_list.specs.declared.form.Form.TheVariants.{NoEvent, Repeated, Unknown}
use Rattle.event_list.specs.Form.{same, slave_of, event_of, repeated, form_from, form_of}
use Rattle.event_list.specs.Reading.{IsEvent, IsRepeated}
use Rattle.event_list.specs.Spelling.{text_of, spelling, is_silent}
use Rattle.decimal_words.specs.Number.{number_within}
use Rattle.decimal_words.proofs.Numerals.{decimal_digits, number_takes, number_again}

both : (a b : Bool) → a && b ≡ true → (a ≡ true) × (b ≡ true)
both true true e = (refl, refl)
both true false e = absurd cc
both false b e = absurd cc

-- ---- events

abbrev Takes : List ℕ → Event → Type 0
Takes text e = (text ≡ text_of e) × IsEvent e

-- a text that is one word, or that is read otherwise
by_word : (text : List ℕ) (x e : Event) {other : Option Event} → IsEvent x → cond (same text (text_of x)) (Some x) other ≡ Some e → (other ≡ Some e → Takes text e) → Takes text e
by_word text x e {other = other} known is others = tested (same text (text_of x)) refl is
  where
    tested : (b : Bool) → same text (text_of x) ≡ b → cond b (Some x) other ≡ Some e → Takes text e
    tested true same_word is = let eq : x ≡ e = cc in subst (λ (y : Event). Takes text y) eq (same_text text (text_of x) (sym same_word), known)
    tested false same_word is = others is

slave_parts : (b : Bool) (number : Option ℕ) (e : Event) → cond b (option_map Slave number) None ≡ Some e → (n : ℕ) × (b ≡ true) × (number ≡ Some n) × (Slave n ≡ e)
slave_parts true (Some n) e is = (n, refl, refl, cc)
slave_parts true None e is = absurd cc
slave_parts false number e is = absurd cc

slave_takes : (text : List ℕ) (e : Event) → slave_of text ≡ Some e → (text ≡ text_of e) × IsEvent e
slave_takes text e is =
    let p = slave_parts (same (take 6 text) (codes "slave ")) (number_within 0 63 (drop 6 text)) e is in
    let number = number_takes 0 63 (drop 6 text) p.0 (omega arith) p.2 in
    let front : take 6 text ≡ codes "slave " = same_text (take 6 text) (codes "slave ") (sym p.1) in
    let whole : text ≡ codes "slave " ++ decimal p.0 = sym (take-append-drop 6 text) ∙ ap (λ (xs : List ℕ). xs ++ drop 6 text) front ∙ ap (λ (xs : List ℕ). codes "slave " ++ xs) number.0 in
    subst (λ (y : Event). (text ≡ text_of y) × IsEvent y) p.3 (whole, number.2)

pub event_takes : (text : List ℕ) (e : Event) → event_of text ≡ Some e → (text ≡ text_of e) × IsEvent e
event_takes text e is =
    by_word text Master e tt is (λ is. by_word text Commit e tt is (λ is. by_word text Serial e tt is (λ is. by_word text Restart e tt is (slave_takes text e))))

pub event_again : (e : Event) → IsEvent e → event_of (text_of e) ≡ Some e
event_again Master known = refl
event_again Commit known = refl
event_again Serial known = refl
event_again Restart known = refl
event_again (Slave n) known = rw (number_again 0 63 n (omega arith) (omega arith) known) refl

text_some : (e : Event) → 0 < length (text_of e)
text_some Master = omega arith
text_some Commit = omega arith
text_some Serial = omega arith
text_some Restart = omega arith
text_some (Slave n) = omega arith

-- ---- lines

pair_parts : (count : Option ℕ) (event : Option Event) (x : ℕ × Event) → option_and_then (λ n. option_map (λ e. (n, e)) event) count ≡ Some x → (count ≡ Some x.0) × (event ≡ Some x.1)
pair_parts None event x is = absurd cc
pair_parts (Some n) None x is = absurd cc
pair_parts (Some n) (Some e) x is = let eq : (n, e) ≡ x = cc in (ap (λ (y : ℕ × Event). Some y.0) eq, ap (λ (y : ℕ × Event). Some y.1) eq)

-- a text is what stands before its first space, the space, and what stands after it
around_space : (line : List ℕ) → 0 < length (after_first (λ b. eqb b 32) line) → line ≡ before_first (λ b. eqb b 32) line ++ 32 ∷ after_first (λ b. eqb b 32) line
around_space line some =
    let place = position_or_len (λ b. eqb b 32) line in
    let lt : place < length line = omega (arith, length-drop (place + 1) line) in
    let at : get_or line place 0 ≡ 32 = eqb-true _ _ (passes_at_first (λ b. eqb b 32) line 0 lt) in
    let next : drop place line ≡ get_or line place 0 ∷ drop (place + 1) line = rw add-one (drop-cons line place 0 lt) in
    sym (take-append-drop place line) ∙ ap (λ (xs : List ℕ). take place line ++ xs) (next ∙ ap (λ (b : ℕ). b ∷ drop (place + 1) line) at)

pub repeated_takes : (line : List ℕ) (x : ℕ × Event) → repeated line ≡ Some x → (line ≡ spelling x) × IsRepeated x
repeated_takes line x is =
    let p = pair_parts (number_within 1 100_000_000 (before_first (λ b. eqb b 32) line)) (event_of (after_first (λ b. eqb b 32) line)) x is in
    let count = number_takes 1 100_000_000 (before_first (λ b. eqb b 32) line) x.0 (omega arith) p.0 in
    let event = event_takes (after_first (λ b. eqb b 32) line) x.1 p.1 in
    let some : 0 < length (after_first (λ b. eqb b 32) line) = omega (arith, text_some x.1, ap length event.0) in
    let whole : line ≡ spelling x = around_space line some ∙ ap (λ (xs : List ℕ). xs ++ 32 ∷ after_first (λ b. eqb b 32) line) count.0 ∙ ap (λ (xs : List ℕ). decimal x.0 ++ 32 ∷ xs) event.0 in
    (whole, record { least = count.1; most = count.2; event = event.1 })

-- no digit is a space
after_digits : (digits rest : List ℕ) → all_ascii_digits digits ≡ true → position_or_len (λ b. eqb b 32) (digits ++ 32 ∷ rest) ≡ length digits
after_digits [] rest are = refl
after_digits (c ∷ digits) rest are =
    let p = both (is_ascii_digit c) (all_ascii_digits digits) are in
    let other : eqb c 32 ≡ false = grind (arith, nat_tests, p.0) in
    rw other (omega (arith, after_digits digits rest p.1))

pub repeated_again : (x : ℕ × Event) → IsRepeated x → repeated (spelling x) ≡ Some x
repeated_again x known =
    let place : position_or_len (λ b. eqb b 32) (spelling x) ≡ length (decimal x.0) = after_digits (decimal x.0) (text_of x.1) (decimal_digits x.0 (omega arith)) in
    let count : before_first (λ b. eqb b 32) (spelling x) ≡ decimal x.0 = ap (λ (n : ℕ). take n (spelling x)) place ∙ take-append_seam (decimal x.0) (32 ∷ text_of x.1) in
    let event : after_first (λ b. eqb b 32) (spelling x) ≡ text_of x.1 = ap (λ (n : ℕ). drop (n + 1) (spelling x)) place ∙ drop-append-add (decimal x.0) (32 ∷ text_of x.1) 1 in
    rw (count, event, number_again 1 100_000_000 x.0 (omega arith) known.least known.most, event_again x.1 known.event) refl

-- a line that begins with a digit is not empty and no comment
digits_are_not_silent : (digits rest : List ℕ) → all_ascii_digits digits ≡ true → 0 < length digits → is_silent (digits ++ rest) ≡ false
digits_are_not_silent [] rest are some = absurd (omega arith)
digits_are_not_silent (c ∷ digits) rest are some = let p = both (is_ascii_digit c) (all_ascii_digits digits) are in grind (arith, nat_tests, p.0)

spelling_is_not_silent : (x : ℕ × Event) → IsRepeated x → is_silent (spelling x) ≡ false
spelling_is_not_silent x known = digits_are_not_silent (decimal x.0) (32 ∷ text_of x.1) (decimal_digits x.0 (omega arith)) (decimal_nonempty x.0 (omega arith))

pub silent_says : (line : List ℕ) → is_silent line ≡ true → form_of line ≡ NoEvent
silent_says [] is = refl
silent_says (c ∷ line) is = rw is refl

other_says : (line : List ℕ) → is_silent line ≡ false → form_of line ≡ form_from (repeated line)
other_says [] is = absurd cc
other_says (c ∷ line) is = rw is refl

-- what a line can say
pub data Says (line : List ℕ) : Type 0 where
  Nothing : is_silent line ≡ true → form_of line ≡ NoEvent → Says line
  Something : (x : ℕ × Event) → is_silent line ≡ false → form_of line ≡ Repeated x.0 x.1 → line ≡ spelling x → IsRepeated x → Says line
  Wrong : is_silent line ≡ false → form_of line ≡ Unknown → Says line

pub says : (line : List ℕ) → Says line
says line = tested (is_silent line) refl
  where
    read : (o : Option (ℕ × Event)) → is_silent line ≡ false → repeated line ≡ o → Says line
    read (Some x) other is = let t = repeated_takes line x is in Something x other (other_says line other ∙ ap form_from is) t.0 t.1
    read None other is = Wrong other (other_says line other ∙ ap form_from is)

    tested : (b : Bool) → is_silent line ≡ b → Says line
    tested true is = Nothing is (silent_says line is)
    tested false is = read (repeated line) is refl

pub spelling_says : (x : ℕ × Event) → IsRepeated x → (is_silent (spelling x) ≡ false) × (form_of (spelling x) ≡ Repeated x.0 x.1)
spelling_says x known = let other = spelling_is_not_silent x known in (other, other_says (spelling x) other ∙ ap form_from (repeated_again x known))
