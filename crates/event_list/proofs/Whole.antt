-- A list that is read is the list that is spelled, and what is spelled is read.
use Rattle.std.proofs.Common.{◌≡◌, ℕ, ◌+◌, ◌≤◌, Bool, true, false, cond, not, ltb, List, [], ◌∷◌, length, map, filter, replicate, Option, Some, None, Result, Ok, Err, IfOk, IfErr, MatchResult, ◌≢◌, refl, sym, ap, ◌∙◌, subst, arith}
use Rattle.std.proofs.lemmas.Bool.{le-ltb, ltb-false}
use Rattle.std.proofs.lemmas.List.{length-append, length-replicate}
use Rattle.std.proofs.lemmas.List.Elements.{recursion_from_All, All-from_recursion}
use Rattle.std.specs.List.{filter_map, AllByRecursion}
use Rattle.std.specs.Option.{option_or}
use Rattle.speculation.specs.declared.Event.{Event}
use Rattle.event_list.specs.declared.error.EventErr.{EventErr}
use Rattle.event_list.specs.declared.error.EventErr.TheVariants.{Line, TooMany, Memory}
use Rattle.event_list.specs.declared.form.Form.{Form}
use Rattle.event_list.specs.declared.form.Form.TheVariants.{NoEvent, Repeated, Unknown}
use Rattle.event_list.specs.Form.{form_of}
use Rattle.event_list.specs.Lines.{lines}
use Rattle.event_list.specs.Reading.{forms_in, given, count_of, refusal_at, first_refusal, unless_refused, list_in, written_out, IsRepeated, AreEvents}
use Rattle.event_list.specs.Spelling.{spelling, is_silent, event_lines}
use Rattle.event_list.proofs.SoFar.{refusal_after, first_is_after}
use Rattle.event_list.proofs.Spelled.{Says, Nothing, Something, Wrong, says, silent_says, spelling_says}

abbrev is_event_line : List ℕ → Bool
is_event_line line = not (is_silent line)

length-written_out : (x : ℕ × Event) (list : List (ℕ × Event)) → length (written_out (x ∷ list)) ≡ x.0 + length (written_out list)
length-written_out x list = omega (arith, length-append (replicate x.0 x.1) (written_out list), length-replicate x.0 x.1)

-- the lines that have to give an event spell this list, which goes on after so many events
record AreRead (texts : List (List ℕ)) (sum : ℕ) (list : List (ℕ × Event)) : Type 0 where
  spelled : filter is_event_line texts ≡ map spelling list
  each : AllByRecursion IsRepeated list
  few : sum + length (written_out list) ≤ 100_000_000

past_none : (first later : Option EventErr) → option_or first later ≡ None → (first ≡ None) × (later ≡ None)
past_none None later is = (refl, is)
past_none (Some e) later is = absurd cc

not_many : (b : Bool) (e : EventErr) → cond b (Some e) None ≡ None → b ≡ false
not_many true e is = absurd cc
not_many false e is = refl

after_line : (number sum : ℕ) (line : Form) (more : List Form) → refusal_after number sum (line ∷ more) ≡ None →
    (refusal_at (number + 1) (sum + count_of line) line ≡ None) × (refusal_after (number + 1) (sum + count_of line) more ≡ None)
after_line number sum line more none = past_none _ _ none

-- ---- what is not refused is spelled

abbrev Taken : List (List ℕ) → ℕ → Type 0
Taken texts number = (sum : ℕ) → sum ≤ 100_000_000 → refusal_after number sum (map form_of texts) ≡ None → AreRead texts sum (filter_map given (map form_of texts))

takes_line : (line : List ℕ) (texts : List (List ℕ)) (number : ℕ) → Says line → Taken texts (number + 1) → Taken (line ∷ texts) number
takes_line line texts number (Nothing silent is) others sum few none =
    let p = after_line number sum NoEvent (map form_of texts) (subst (λ (form : Form). refusal_after number sum (form ∷ map form_of texts) ≡ None) is none) in
    let rest = others (sum + 0) (omega arith) p.1 in
    record {
      spelled = rw (silent, is) rest.spelled;
      each = rw is rest.each;
      few = rw is (omega (arith, rest.few));
    }
takes_line line texts number (Something x other is spelled known) others sum few none =
    let p = after_line number sum (Repeated x.0 x.1) (map form_of texts) (subst (λ (form : Form). refusal_after number sum (form ∷ map form_of texts) ≡ None) is none) in
    let few : sum + x.0 ≤ 100_000_000 = ltb-false _ _ (not_many _ _ p.0) in
    let rest = others (sum + x.0) few p.1 in
    record {
      spelled = rw (other, is, rest.spelled) (ap (λ (text : List ℕ). text ∷ map spelling (filter_map given (map form_of texts))) spelled);
      each = rw is (known, rest.each);
      few = rw is (omega (arith, rest.few, length-written_out x (filter_map given (map form_of texts))));
    }
takes_line line texts number (Wrong other is) others sum few none =
    let p = after_line number sum Unknown (map form_of texts) (subst (λ (form : Form). refusal_after number sum (form ∷ map form_of texts) ≡ None) is none) in
    absurd (let never : Some (Line (number + 1)) ≡ None = p.0 in cc)

takes : (texts : List (List ℕ)) (number : ℕ) → Taken texts number
takes [] number = λ sum few none. record { spelled = refl; each = tt; few = omega arith }
takes (line ∷ texts) number = takes_line line texts number (says line) (takes texts (number + 1))

-- ---- what is spelled is not refused

abbrev Given : List (List ℕ) → ℕ → Type 0
Given texts number = (sum : ℕ) (list : List (ℕ × Event)) → AreRead texts sum list → (refusal_after number sum (map form_of texts) ≡ None) × (filter_map given (map form_of texts) ≡ list)

gives_none : (number sum : ℕ) (list : List (ℕ × Event)) → AreRead [] sum list → (refusal_after number sum [] ≡ None) × (filter_map given [] ≡ list)
gives_none number sum [] are = (refl, refl)
gives_none number sum (x ∷ list) are = absurd (let e : [] ≡ spelling x ∷ map spelling list = are.spelled in cc)

gives_silent : (line : List ℕ) (texts : List (List ℕ)) (number : ℕ) → is_silent line ≡ true → Given texts (number + 1) → Given (line ∷ texts) number
gives_silent line texts number silent others sum list are =
    let is = silent_says line silent in
    let same : sum + 0 ≡ sum = omega arith in
    let none : ltb 100_000_000 sum ≡ false = le-ltb _ _ (omega (arith, are.few)) in
    let spelled : filter is_event_line texts ≡ map spelling list = rw silent at are.spelled in
    let rest = others sum list (record { spelled = spelled; each = are.each; few = are.few }) in
    (rw (is, same, none) rest.0, rw is rest.1)

gives_event : (line : List ℕ) (texts : List (List ℕ)) (number : ℕ) → is_silent line ≡ false → Given texts (number + 1) → Given (line ∷ texts) number
gives_event line texts number other others sum [] are = absurd (let e : line ∷ filter is_event_line texts ≡ [] = rw other at are.spelled in cc)
gives_event line texts number other others sum (x ∷ list) are =
    let e : line ∷ filter is_event_line texts ≡ spelling x ∷ map spelling list = rw other at are.spelled in
    let spelled : line ≡ spelling x = cc in
    let is : form_of line ≡ Repeated x.0 x.1 = ap form_of spelled ∙ (spelling_says x are.each.0).1 in
    let few : sum + (x.0 + length (written_out list)) ≤ 100_000_000 = omega (arith, are.few, length-written_out x list) in
    let none : ltb 100_000_000 (sum + x.0) ≡ false = le-ltb _ _ (omega arith) in
    let rest = others (sum + x.0) list (record { spelled = cc; each = are.each.1; few = omega arith }) in
    (rw (is, none) rest.0, rw is (ap (λ (more : List (ℕ × Event)). x ∷ more) rest.1))

gives : (texts : List (List ℕ)) (number : ℕ) → Given texts number
gives [] number = gives_none number
gives (line ∷ texts) number = tested (is_silent line) refl (gives texts (number + 1))
  where
    tested : (b : Bool) → is_silent line ≡ b → Given texts (number + 1) → Given (line ∷ texts) number
    tested true silent others = gives_silent line texts number silent others
    tested false other others = gives_event line texts number other others

-- ---- the whole

unless_ok : (refusal : Option EventErr) (found list : List (ℕ × Event)) → unless_refused refusal found ≡ Ok list → (refusal ≡ None) × (found ≡ list)
unless_ok None found list is = (refl, cc)
unless_ok (Some e) found list is = absurd cc

first_is : (file : List ℕ) → first_refusal [] (forms_in file) ≡ refusal_after 0 0 (forms_in file)
first_is file = first_is_after [] (forms_in file)

-- what is read is a list of events, and the file spells it
found_list : (file : List ℕ) (list : List (ℕ × Event)) → list_in file ≡ Ok list → AreEvents list × (event_lines file ≡ map spelling list)
found_list file list is =
    let p = unless_ok (first_refusal [] (forms_in file)) (filter_map given (forms_in file)) list is in
    let read : AreRead (lines file) 0 (filter_map given (forms_in file)) = takes (lines file) 0 0 (omega arith) (sym (first_is file) ∙ p.0) in
    let known : AreRead (lines file) 0 list = subst (λ (found : List (ℕ × Event)). AreRead (lines file) 0 found) p.1 read in
    (record { each = All-from_recursion IsRepeated list known.each; few = omega (arith, known.few) }, known.spelled)

-- a file that spells a list of events is read as that list
only_list : (file : List ℕ) (list : List (ℕ × Event)) → AreEvents list → event_lines file ≡ map spelling list → list_in file ≡ Ok list
only_list file list are spelled =
    let known : AreRead (lines file) 0 list = record { spelled = spelled; each = recursion_from_All IsRepeated list are.each; few = omega (arith, are.few) } in
    let p = gives (lines file) 0 0 list known in
    let none : first_refusal [] (forms_in file) ≡ None = first_is file ∙ p.0 in
    rw (none, p.1) refl

ok_is : (file : List ℕ) (list other : List (ℕ × Event)) → list_in file ≡ Ok list → list_in file ≡ Ok other → list ≡ other
ok_is file list other is also = let both : Ok list ≡ Ok other = sym is ∙ also in cc

no_error : (file : List ℕ) (list : List (ℕ × Event)) (e : EventErr) → list_in file ≡ Ok list → list_in file ≡ Err e → ⊥
no_error file list e is also = let both : Ok list ≡ Err e = sym is ∙ also in cc

memory_alone : (file : List ℕ) (list : List (ℕ × Event)) (e : EventErr) → list_in file ≡ Ok list → (e ≢ Memory → list_in file ≡ Err e) → e ≡ Memory
memory_alone file list (Line n) is other = absurd (no_error file list (Line n) is (other (λ memory. cc)))
memory_alone file list (TooMany n) is other = absurd (no_error file list (TooMany n) is (other (λ memory. cc)))
memory_alone file list Memory is other = refl

module _ {V : Type 0} (items : V → List (ℕ × Event)) (file : List ℕ) where
  pub is_found : (r : Result V EventErr) → IfOk r (λ v. list_in file ≡ Ok (items v)) → IfOk r (λ v. AreEvents (items v) × (event_lines file ≡ map spelling (items v)))
  is_found (Ok v) is = found_list file (items v) is
  is_found (Err e) is = tt

  pub is_only : (r : Result V EventErr) → IfOk r (λ v. list_in file ≡ Ok (items v)) → IfErr r (λ e. e ≢ Memory → list_in file ≡ Err e) →
      (list : List (ℕ × Event)) → AreEvents list → event_lines file ≡ map spelling list → MatchResult r (λ v. items v ≡ list) (λ e. e ≡ Memory)
  is_only (Ok v) is other list are spelled = ok_is file (items v) list is (only_list file list are spelled)
  is_only (Err e) is other list are spelled = memory_alone file list e (only_list file list are spelled) other
