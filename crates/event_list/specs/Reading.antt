-- The list that a file holds, or its first refusal.
use Rattle.std.specs.Prelude.{ℕ, ◌≤◌, nat_lt, if◌then◌else◌, List, [], ◌∷◌, ◌++◌, length, map, replicate, All, Option, Some, None, Result, Ok, Err}
use Rattle.std.specs.List.{sum_by, filter_map, flat_map}
use Rattle.std.specs.Option.{option_or}
use Rattle.speculation.specs.declared.Event.{Event}
use Rattle.speculation.specs.declared.Event.TheVariants as event
use Rattle.event_list.specs.declared.error.EventErr.{EventErr}
use Rattle.event_list.specs.declared.error.EventErr.TheVariants.{Line, TooMany}
use Rattle.event_list.specs.declared.form.Form.{Form}
use Rattle.event_list.specs.declared.form.Form.TheVariants.{Repeated, Unknown}
use Rattle.event_list.specs.Form.{form_of}
use Rattle.event_list.specs.Lines.{lines}

-- what the lines of a file say
abbrev pub forms_in : List ℕ → List Form
forms_in file = map form_of (lines file)

-- the event that a line gives, with its count
abbrev pub given : Form → Option (ℕ × Event)
given (Repeated count event) = Some (count, event)
given _ = None

-- how many events a line gives, repeats counted
abbrev pub count_of : Form → ℕ
count_of (Repeated count event) = count
count_of _ = 0

-- why a line is refused, if it is, by its number and how many events the lines up to it give
abbrev pub refusal_at : ℕ → ℕ → Form → Option EventErr
refusal_at number sum Unknown = Some (Line number)
refusal_at number sum _ = if nat_lt 100_000_000 sum then Some (TooMany number) else None

-- The first refusal of lines that stand after those before. A line's number is how many lines there are up to it.
unfoldable pub first_refusal : List Form → List Form → Option EventErr
first_refusal before [] = None
first_refusal before (line ∷ more) =
    let up_to = before ++ line ∷ [] in
    option_or (refusal_at (length up_to) (sum_by count_of up_to) line) (first_refusal up_to more)

-- a list, unless there is a refusal
abbrev pub unless_refused : Option EventErr → List (ℕ × Event) → Result (List (ℕ × Event)) EventErr
unless_refused (Some e) list = Err e
unless_refused None list = Ok list

-- the events of all lines in order, each with its count, or the first refusal
abbrev pub list_in : List ℕ → Result (List (ℕ × Event)) EventErr
list_in file = unless_refused (first_refusal [] (forms_in file)) (filter_map given (forms_in file))

-- a list with its repeats written out
abbrev pub written_out : List (ℕ × Event) → List Event
written_out list = flat_map (λ x. replicate x.0 x.1) list

-- the events that a file can name: slaves have numbers up to 63
abbrev pub IsEvent : Event → Type 0
IsEvent (event.Slave number) = number ≤ 63
IsEvent _ = Unit {0}

-- an event, 1 to 100,000,000 times
pub record IsRepeated (x : ℕ × Event) : Type 0 where
  pub least : 1 ≤ x.0
  pub most : x.0 ≤ 100_000_000
  pub event : IsEvent x.1

-- a list that a file can hold
pub record AreEvents (list : List (ℕ × Event)) : Type 0 where
  pub each : All IsRepeated list
  pub few : length (written_out list) ≤ 100_000_000
