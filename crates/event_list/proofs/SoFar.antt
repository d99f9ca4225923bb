-- What is known of a file after some of its lines.
use Rattle.std.proofs.Common.{◌≡◌, ℕ, ◌+◌, ◌<◌, ◌≤◌, true, false, ltb, List, [], ◌∷◌, ◌++◌, length, Option, Some, None, Ok, Err, refl, sym, ap, ◌∙◌, append_assoc, arith}
use Rattle.std.proofs.lemmas.Bool.{lt-ltb, le-ltb}
use Rattle.std.proofs.lemmas.List.{append-nil, length-append}
use Rattle.std.proofs.lemmas.List.Sums.{sum_by-append}
use Rattle.std.specs.List.{sum_by, filter_map}
use Rattle.std.specs.Option.{option_or}
use Rattle.speculation.specs.declared.Event.{Event}
use Rattle.event_list.specs.declared.error.EventErr.{EventErr}
use Rattle.event_list.specs.declared.error.EventErr.TheVariants.{Line, TooMany}
use Rattle.event_list.specs.declared.form.Form.{Form}
use Rattle.event_list.specs.declared.form.Form.TheVariants.{NoEvent, Repeated, Unknown}
use Rattle.event_list.specs.Form.{form_of}
use Rattle.event_list.specs.Lines.{lines}
use Rattle.event_list.specs.Reading.{forms_in, given, count_of, refusal_at, first_refusal, list_in}

-- the first refusal after so many lines that give so many events
abbrev pub refusal_after : ℕ → ℕ → List Form → Option EventErr
refusal_after number sum [] = None
refusal_after number sum (line ∷ more) = option_or (refusal_at (number + 1) (sum + count_of line) line) (refusal_after (number + 1) (sum + count_of line) more)

-- the lines before play no other part
pub first_is_after : (before more : List Form) → first_refusal before more ≡ refusal_after (length before) (sum_by count_of before) more
unfolding first_refusal
first_is_after before [] = refl
first_is_after before (line ∷ more) =
    let number : length (before ++ line ∷ []) ≡ length before + 1 = length-append before (line ∷ []) in
    let sum : sum_by count_of (before ++ line ∷ []) ≡ sum_by count_of before + count_of line = omega (arith, sum_by-append count_of before (line ∷ [])) in
    rw (first_is_after (before ++ line ∷ []) more, number, sum) refl

-- the events of the lines so far are these, the rest is still to be read, and no line so far is refused
pub record SoFar (file rest : List ℕ) (events : List (ℕ × Event)) (number sum : ℕ) : Type 0 where
  pub refusal : refusal_after number sum (forms_in rest) ≡ first_refusal [] (forms_in file)
  pub events_are : events ++ filter_map given (forms_in rest) ≡ filter_map given (forms_in file)
  pub few : sum ≤ 100_000_000

pub begins : (file : List ℕ) → SoFar file file [] 0 0
begins file = record {
  refusal = sym (first_is_after [] (forms_in file));
  events_are = refl;
  few = omega arith;
}

-- no line is left
pub ends : (file rest : List ℕ) (events : List (ℕ × Event)) (number sum : ℕ) → SoFar file rest events number sum → length rest ≡ 0 → list_in file ≡ Ok events
unfolding lines
ends file [] events number sum is none = rw (← is.refusal, ← is.events_are) (ap (λ (x : List (ℕ × Event)). Ok x) (append-nil events))
ends file (b ∷ rest) events number sum is none = absurd (omega arith)

module _ (file rest line after : List ℕ) (events : List (ℕ × Event)) (number sum : ℕ) (is : SoFar file rest events number sum) (next : lines rest ≡ line ∷ lines after) where
  forms_are : (form : Form) → form_of line ≡ form → forms_in rest ≡ form ∷ forms_in after
  forms_are form says = rw (next, says) refl

  -- a line that gives nothing
  pub skips : form_of line ≡ NoEvent → SoFar file after events (number + 1) sum
  skips silent =
      let e = forms_are NoEvent silent in
      let none : ltb 100_000_000 sum ≡ false = le-ltb _ _ is.few in
      let same : sum + 0 ≡ sum = omega arith in
      let one : refusal_after number sum (forms_in rest) ≡ refusal_after (number + 1) sum (forms_in after) = rw (e, same, none) refl in
      let rest_given : filter_map given (forms_in rest) ≡ filter_map given (forms_in after) = rw e refl in
      record {
        refusal = sym one ∙ is.refusal;
        events_are = rw (← rest_given) is.events_are;
        few = is.few;
      }

  -- a line that gives an event
  pub adds : (count : ℕ) (event : Event) → form_of line ≡ Repeated count event → sum + count ≤ 100_000_000 → SoFar file after (events ++ (count, event) ∷ []) (number + 1) (sum + count)
  adds count event gives few =
      let e = forms_are (Repeated count event) gives in
      let none : ltb 100_000_000 (sum + count) ≡ false = le-ltb _ _ few in
      let one : refusal_after number sum (forms_in rest) ≡ refusal_after (number + 1) (sum + count) (forms_in after) = rw (e, none) refl in
      let rest_given : filter_map given (forms_in rest) ≡ (count, event) ∷ filter_map given (forms_in after) = rw e refl in
      record {
        refusal = sym one ∙ is.refusal;
        events_are = append_assoc events ((count, event) ∷ []) (filter_map given (forms_in after)) ∙ ap (λ (more : List (ℕ × Event)). events ++ more) (sym rest_given) ∙ is.events_are;
        few = few;
      }

  refused_by : (e : EventErr) → refusal_after number sum (forms_in rest) ≡ Some e → list_in file ≡ Err e
  refused_by e refused = let first : first_refusal [] (forms_in file) ≡ Some e = sym is.refusal ∙ refused in rw first refl

  -- a line that has none of the forms
  pub stops : form_of line ≡ Unknown → list_in file ≡ Err (Line (number + 1))
  stops unknown = refused_by (Line (number + 1)) (rw (forms_are Unknown unknown) refl)

  -- a line that gives too many
  pub overflows : (count : ℕ) (event : Event) → form_of line ≡ Repeated count event → 100_000_000 < sum + count → list_in file ≡ Err (TooMany (number + 1))
  overflows count event gives many =
      let large : ltb 100_000_000 (sum + count) ≡ true = lt-ltb _ _ many in
      refused_by (TooMany (number + 1)) (rw (forms_are (Repeated count event) gives, large) refl)
