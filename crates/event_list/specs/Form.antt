-- What a line says.
use Rattle.std.specs.Prelude.{ℕ, ◌==◌, nat_eq, Bool, if◌then◌else◌, List, [], ◌∷◌, take, drop, codes, Option, Some, None, option_and_then}
use Rattle.std.specs.Cmp.Lexicographic.{pointwise}
use Rattle.std.specs.List.{before_first, after_first}
use Rattle.std.specs.Option.{option_map}
use Rattle.speculation.specs.declared.Event.{Event}
use Rattle.speculation.specs.declared.Event.TheVariants.{Master, Slave, Commit, Serial, Restart}
use Rattle.event_list.specs.declared.form.Form.{Form}
use Rattle.event_list.specs.declared.form.Form.TheVariants.{NoEvent, Repeated, Unknown}
use Rattle.decimal_words.specs.Number.{number_within}

-- whether two texts are the same
abbrev pub same : List ℕ → List ℕ → Bool
same a b = pointwise nat_eq a b

-- the event of a slave: `slave`, one space and its number
abbrev pub slave_of : List ℕ → Option Event
slave_of text = if same (take 6 text) (codes "slave ") then option_map Slave (number_within 0 63 (drop 6 text)) else None

-- the event that a text names
abbrev pub event_of : List ℕ → Option Event
event_of text =
    if same text (codes "master") then Some Master
    else if same text (codes "commit") then Some Commit
    else if same text (codes "serial") then Some Serial
    else if same text (codes "restart") then Some Restart
    else slave_of text

-- the count before the first space (byte 32) of a line, and the event after it
abbrev pub repeated : List ℕ → Option (ℕ × Event)
repeated line =
    option_and_then (λ count. option_map (λ event. (count, event)) (event_of (after_first (λ b. b == 32) line)))
    (number_within 1 100_000_000 (before_first (λ b. b == 32) line))

-- a count and an event, or neither
abbrev pub form_from : Option (ℕ × Event) → Form
form_from (Some given) = Repeated given.0 given.1
form_from None = Unknown

-- A line that is empty or begins with `#` (byte 35) has no event.
abbrev pub form_of : List ℕ → Form
form_of [] = NoEvent
form_of (first ∷ more) = if first == 35 then NoEvent else form_from (repeated (first ∷ more))
