-- Lists of events as they are spelled: the other way to say what a file holds.
use Rattle.std.specs.Prelude.{ℕ, ◌==◌, not, Bool, true, List, [], ◌∷◌, ◌++◌, filter, codes}
use Rattle.std.specs.Fmt.{decimal}
use Rattle.speculation.specs.declared.Event.{Event}
use Rattle.speculation.specs.declared.Event.TheVariants.{Master, Slave, Commit, Serial, Restart}
use Rattle.event_list.specs.Lines.{lines}

-- the text of an event
abbrev pub text_of : Event → List ℕ
text_of Master = codes "master"
text_of Commit = codes "commit"
text_of Serial = codes "serial"
text_of Restart = codes "restart"
text_of (Slave number) = codes "slave " ++ decimal number

-- the line that gives an event so many times: the count, one space (byte 32) and the event
abbrev pub spelling : ℕ × Event → List ℕ
spelling x = decimal x.0 ++ 32 ∷ text_of x.1

-- whether a line is empty or begins with `#` (byte 35)
abbrev pub is_silent : List ℕ → Bool
is_silent [] = true
is_silent (first ∷ more) = first == 35

-- the lines of a file that have to give an event
abbrev pub event_lines : List ℕ → List (List ℕ)
event_lines file = filter (λ line. not (is_silent line)) (lines file)
