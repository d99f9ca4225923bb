-- The status and the line of each answer.
use Rattle.std.specs.Prelude.{ℕ, ◌%◌, List, [], ◌∷◌, ◌++◌, codes, decimal, Option, Some, unwrap_or}
use Rattle.cells.specs.declared.End.{End}
use Rattle.cells.specs.declared.End.TheVariants.{Exit}
use Rattle.command_line.specs.Command.{Command, Run, Show, Replay, Profile, Values, Distill, Check, Certify, Trial}
use Rattle.dist_image.specs.declared.error.ImageErr.{ImageErr}
use Rattle.dist_image.specs.declared.error.ImageErr.TheVariants as image
use Rattle.dist_image.specs.declared.error.Table.{Table}
use Rattle.dist_image.specs.declared.error.Table.TheVariants.{Slots, Anchors, Notes, Assumptions, Targets, Writes}
use Rattle.elf_reader.specs.declared.error.ElfErr.{ElfErr}
use Rattle.elf_reader.specs.declared.error.ElfErr.TheVariants as elf
use Rattle.event_list.specs.declared.error.EventErr.{EventErr}
use Rattle.event_list.specs.declared.error.EventErr.TheVariants as events
use Rattle.load_values.specs.declared.error.ValuesErr.{ValuesErr}
use Rattle.load_values.specs.declared.error.ValuesErr.TheVariants as values
use Rattle.profile_data.specs.declared.error.ProfileErr.{ProfileErr}
use Rattle.profile_data.specs.declared.error.ProfileErr.TheVariants as profile
use Rattle.report.specs.Text.{hex_word, line, end_words}
use Rattle.answers.specs.declared.answer.Source.{Source}
use Rattle.answers.specs.declared.answer.Source.TheVariants as source
use Rattle.answers.specs.declared.answer.Refusal.{Refusal}
use Rattle.answers.specs.declared.answer.Refusal.TheVariants as refusal
use Rattle.answers.specs.declared.answer.Answer.{Answer}
use Rattle.answers.specs.declared.answer.Answer.TheVariants.{Usage, Absent, StoreFault, SinkFault, Memory, TooLong, Refused, Done, Ran, Budget, Broken}

-- how a run ended: by an exit, or otherwise
abbrev pub end_status : End → ℕ
end_status (Exit code) = code % 256
end_status _ = 121

-- the status of a refused file
abbrev pub refusal_status : Refusal → ℕ
refusal_status (refusal.Program e) = 116
refusal_status (refusal.Image e) = 117
refusal_status (refusal.Events e) = 119
refusal_status (refusal.Profile e) = 118
refusal_status refusal.Wide = 118
refusal_status refusal.Empty = 118
refusal_status (refusal.Values e) = 123
refusal_status refusal.WideLoads = 123

-- the status of an answer
abbrev pub status_of : Answer → ℕ
status_of Usage = 110
status_of (Absent s) = 111
status_of (StoreFault s) = 112
status_of SinkFault = 113
status_of Memory = 114
status_of (TooLong s) = 115
status_of (Refused r) = refusal_status r
status_of Done = 0
status_of (Ran pc end) = end_status end
status_of Budget = 120
status_of Broken = 1

-- the name that a command has for a file, or nothing where it has none; a trial has no files, and goes by its own name
abbrev pub name_of : Option Command → Source → List ℕ
name_of (Some (Run r)) source.Program = r.program
name_of (Some (Run r)) source.Image = unwrap_or r.image []
name_of (Some (Run r)) source.Input = unwrap_or r.input []
name_of (Some (Run r)) source.Report = unwrap_or r.report []
name_of (Some (Show image)) source.Image = image
name_of (Some (Replay r)) source.Program = r.program
name_of (Some (Replay r)) source.Image = r.image
name_of (Some (Replay r)) source.Events = r.events
name_of (Some (Replay r)) source.Input = unwrap_or r.input []
name_of (Some (Profile w calls)) source.Program = w.program
name_of (Some (Profile w calls)) source.Input = unwrap_or w.input []
name_of (Some (Profile w calls)) source.Output = w.other
name_of (Some (Values w)) source.Program = w.program
name_of (Some (Values w)) source.Input = unwrap_or w.input []
name_of (Some (Values w)) source.Output = w.other
name_of (Some (Distill d)) source.Program = d.program
name_of (Some (Distill d)) source.Profile = d.profile
name_of (Some (Distill d)) source.Values = unwrap_or d.values []
name_of (Some (Distill d)) source.Output = d.output
name_of (Some (Check w)) source.Program = w.program
name_of (Some (Check w)) source.Image = w.other
name_of (Some (Check w)) source.Input = unwrap_or w.input []
name_of (Some (Certify program image)) source.Program = program
name_of (Some (Certify program image)) source.Image = image
name_of (Some (Trial t)) source.Program = codes "trial"
name_of (Some (Trial t)) source.Profile = codes "trial"
name_of _ _ = []

-- what a program is refused for
abbrev pub elf_words : ElfErr → List (List ℕ)
elf_words elf.Short = codes "short" ∷ []
elf_words elf.Magic = codes "magic" ∷ []
elf_words elf.Class = codes "class" ∷ []
elf_words elf.Endian = codes "endian" ∷ []
elf_words elf.Version = codes "version" ∷ []
elf_words elf.Kind = codes "kind" ∷ []
elf_words elf.Machine = codes "machine" ∷ []
elf_words elf.Flags = codes "flags" ∷ []
elf_words elf.Entry = codes "entry" ∷ []
elf_words elf.Table = codes "table" ∷ []
elf_words elf.TooMany = codes "too many" ∷ []
elf_words elf.Interp = codes "interp" ∷ []
elf_words (elf.Outside i) = codes "outside" ∷ decimal i ∷ []
elf_words (elf.Larger i) = codes "larger" ∷ decimal i ∷ []
elf_words (elf.Wraps i) = codes "wraps" ∷ decimal i ∷ []
elf_words elf.Memory = codes "memory" ∷ []

-- the word for a table of an image
abbrev pub table_word : Table → List ℕ
table_word Slots = codes "slots"
table_word Anchors = codes "anchors"
table_word Notes = codes "notes"
table_word Assumptions = codes "assumptions"
table_word Targets = codes "targets"
table_word Writes = codes "writes"

-- what an image is refused for
abbrev pub image_words : ImageErr → List (List ℕ)
image_words image.Short = codes "short" ∷ []
image_words image.Magic = codes "magic" ∷ []
image_words image.Version = codes "version" ∷ []
image_words image.Limit = codes "limit" ∷ []
image_words (image.TooMany t) = codes "too many" ∷ table_word t ∷ []
image_words (image.Kind t i) = codes "kind" ∷ table_word t ∷ decimal i ∷ []
image_words (image.Range t i) = codes "range" ∷ table_word t ∷ decimal i ∷ []
image_words (image.Order t i) = codes "order" ∷ table_word t ∷ decimal i ∷ []
image_words image.Long = codes "long" ∷ []
image_words image.Memory = codes "memory" ∷ []

-- what a list of events is refused for
abbrev pub event_words : EventErr → List (List ℕ)
event_words (events.Line number) = codes "line" ∷ decimal number ∷ []
event_words (events.TooMany number) = codes "too many" ∷ decimal number ∷ []
event_words events.Memory = codes "memory" ∷ []

-- what a profile is refused for
abbrev pub profile_words : ProfileErr → List (List ℕ)
profile_words profile.Short = codes "short" ∷ []
profile_words profile.Magic = codes "magic" ∷ []
profile_words profile.Version = codes "version" ∷ []
profile_words profile.Mark = codes "mark" ∷ []
profile_words profile.TooMany = codes "too many" ∷ []
profile_words (profile.Kind i) = codes "kind" ∷ decimal i ∷ []
profile_words (profile.Range i) = codes "range" ∷ decimal i ∷ []
profile_words (profile.Twice i) = codes "twice" ∷ decimal i ∷ []
profile_words (profile.Order i) = codes "order" ∷ decimal i ∷ []
profile_words profile.Sum = codes "sum" ∷ []
profile_words profile.Long = codes "long" ∷ []
profile_words profile.Memory = codes "memory" ∷ []

-- what a list of values is refused for
abbrev pub values_words : ValuesErr → List (List ℕ)
values_words values.Short = codes "short" ∷ []
values_words values.Magic = codes "magic" ∷ []
values_words values.Version = codes "version" ∷ []
values_words values.TooMany = codes "too many" ∷ []
values_words (values.Range i) = codes "range" ∷ decimal i ∷ []
values_words (values.Order i) = codes "order" ∷ decimal i ∷ []
values_words values.Long = codes "long" ∷ []
values_words values.Memory = codes "memory" ∷ []

-- what kind of file is refused, its name, and what it is refused for; a run whose profile or values are too wide goes by the name of its program
abbrev pub refusal_words : (Source → List ℕ) → Refusal → List (List ℕ)
refusal_words name (refusal.Program e) = codes "program" ∷ (name source.Program ++ codes ":") ∷ elf_words e
refusal_words name (refusal.Image e) = codes "image" ∷ (name source.Image ++ codes ":") ∷ image_words e
refusal_words name (refusal.Events e) = codes "events" ∷ (name source.Events ++ codes ":") ∷ event_words e
refusal_words name (refusal.Profile e) = codes "profile" ∷ (name source.Profile ++ codes ":") ∷ profile_words e
refusal_words name refusal.Wide = codes "profile" ∷ (name source.Program ++ codes ":") ∷ codes "wide" ∷ []
refusal_words name refusal.Empty = codes "profile" ∷ (name source.Profile ++ codes ":") ∷ codes "empty" ∷ []
refusal_words name (refusal.Values e) = codes "values" ∷ (name source.Values ++ codes ":") ∷ values_words e
refusal_words name refusal.WideLoads = codes "values" ∷ (name source.Program ++ codes ":") ∷ codes "wide" ∷ []

-- a line on standard error: the program's name, then these words
abbrev pub fault_line : List (List ℕ) → List ℕ
fault_line words = line (codes "mssp:") words

-- the line of a run that ended by a trap, at this pc
abbrev pub trap_line : ℕ → End → List ℕ
trap_line pc end = fault_line (codes "trap" ∷ hex_word pc ∷ end_words end)

-- the line for how a run ended; an exit has none
abbrev pub end_line : ℕ → End → List ℕ
end_line pc (Exit code) = []
end_line pc end = trap_line pc end

-- the line that tells an answer, by the names of the command's files; what is done has none, and neither has a check
abbrev pub line_of : (Source → List ℕ) → Answer → List ℕ
line_of name Usage = fault_line (codes "usage" ∷ [])
line_of name (Absent s) = fault_line (codes "absent" ∷ name s ∷ [])
line_of name (StoreFault s) = fault_line (codes "store fault" ∷ name s ∷ [])
line_of name SinkFault = fault_line (codes "sink fault" ∷ [])
line_of name Memory = fault_line (codes "memory" ∷ [])
line_of name (TooLong s) = fault_line (codes "too long" ∷ name s ∷ [])
line_of name (Refused r) = fault_line (refusal_words name r)
line_of name Done = []
line_of name Broken = []
line_of name (Ran pc end) = end_line pc end
line_of name Budget = fault_line (codes "budget" ∷ [])
