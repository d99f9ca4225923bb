-- The files that commands read and write, as the store tells them, and what a command comes to where it lacks one or one is not written.
use Rattle.std.specs.Prelude.{◌≡◌, ℕ, ◌≤◌, ◌⊎◌, nat_lt, if◌then◌else◌, List, [], length, Option, Some, None, Result, Ok, Err}
use Rattle.std.specs.FinMap as finite
use Rattle.outside.specs.Answers.{Lacks, HasLonger}
use Rattle.outside.specs.Files.{Files}
use Rattle.dist_image.specs.declared.error.ImageErr.{ImageErr}
use Rattle.dist_image.specs.Image.{Distilled, IsImage, nothing_known}
use Rattle.dist_image.specs.Reading.{image_from}
use Rattle.elf_reader.specs.declared.error.ElfErr.{ElfErr}
use Rattle.elf_reader.specs.Executable.{Executable}
use Rattle.elf_reader.specs.Refusal.{refusal}
use Rattle.elf_reader.specs.Accepted.{program_of}
use Rattle.speculation.specs.declared.Event.{Event}
use Rattle.event_list.specs.declared.error.EventErr.{EventErr}
use Rattle.event_list.specs.Reading.{list_in}
use Rattle.load_values.specs.declared.error.ValuesErr.{ValuesErr}
use Rattle.load_values.specs.Values.{AreValues}
use Rattle.load_values.specs.Reading.{values_from}
use Rattle.profile_data.specs.declared.error.ProfileErr.{ProfileErr}
use Rattle.profile_data.specs.Profile.{Profiled, IsProfile}
use Rattle.profile_data.specs.Reading.{profile_from}
use Rattle.answers.specs.declared.answer.Source.{Source}
use Rattle.answers.specs.declared.answer.Source.TheVariants as source
use Rattle.answers.specs.declared.answer.Refusal.{Refusal}
use Rattle.answers.specs.declared.answer.Refusal.TheVariants as refused
use Rattle.answers.specs.declared.answer.Answer.{Answer}
use Rattle.answers.specs.declared.answer.Answer.TheVariants.{Absent, StoreFault, Memory, TooLong, Refused, Done}
use Rattle.speculative_runs.specs.Told.{Reads, FailsAt, Written, NotWritten}

-- the most bytes of a program
abbrev pub program_limit : ℕ
program_limit = 16777216

-- the most bytes of an image
abbrev pub image_limit : ℕ
image_limit = 67108864

-- the most bytes of a list of events
abbrev pub events_limit : ℕ
events_limit = 67108864

-- the most bytes of a profile
abbrev pub profile_limit : ℕ
profile_limit = 33554432

abbrev pub values_limit : ℕ
values_limit = 8388608

-- the most bytes of an input
abbrev pub input_limit : ℕ
input_limit = 67108864

-- where the store tells, this is the file, and within its limit
abbrev pub IsReadFrom : Option Files → List ℕ → ℕ → List ℕ → Type 0
IsReadFrom told name limit bytes = (files : Files) → told ≡ Some files → (finite.get files name ≡ Some bytes) × (length bytes ≤ limit)

-- why a file was not read
abbrev pub NotRead : Reads → List ℕ → ℕ → Source → Answer → Type 0
NotRead store name limit s (Absent t) = (t ≡ s) × (Lacks store.told name ⊎ FailsAt store name)
NotRead store name limit s (TooLong t) = (t ≡ s) × (HasLonger store.told name limit ⊎ FailsAt store name)
NotRead store name limit s (StoreFault t) = (t ≡ s) × FailsAt store name
NotRead store name limit s Memory = Unit {0}
NotRead store name limit s _ = ⊥

-- a file was not read; or it was, and is refused for this
abbrev pub NotAccepted : {E : Type 0} → Reads → List ℕ → ℕ → Source → (List ℕ → E → Type 0) → (E → Refusal) → Answer → Type 0
NotAccepted {E} store name limit s IsRefused refuse a =
    NotRead store name limit s a
    ⊎ ((bytes : List ℕ) × (e : E) × IsReadFrom store.told name limit bytes × IsRefused bytes e × (a ≡ Refused (refuse e)))

-- what was read of a file leads on, or its refusal
abbrev pub of_reading : {A E : Type 0} → Result A E → (E → Refusal) → (A → Answer) → Answer
of_reading (Ok x) refuse k = k x
of_reading (Err e) refuse k = Refused (refuse e)

-- a told file within its limit leads on; else what its want comes to
abbrev pub of_file : Option (List ℕ) → ℕ → Source → (List ℕ → Answer) → Answer
of_file None limit s k = Absent s
of_file (Some bytes) limit s k = if nat_lt limit (length bytes) then TooLong s else k bytes

-- ---- the program

-- the store tells these bytes as the program of that name, and they are accepted
pub record IsProgramOf (told : Option Files) (name p : List ℕ) : Type 0 where
  pub read : IsReadFrom told name program_limit p
  pub accepted : refusal p ≡ None

-- the file of this name is this program
abbrev pub HasProgram : Option Files → List ℕ → Executable → Type 0
HasProgram told name program = (p : List ℕ) × IsProgramOf told name p × (program ≡ program_of p)

-- the program is not read, or refused
abbrev pub NoProgram : Reads → List ℕ → Answer → Type 0
NoProgram store name a = NotAccepted store name program_limit source.Program (λ p (e : ElfErr). refusal p ≡ Some e) refused.Program a

-- the answer, unless the program is refused
abbrev pub unless_refused : Option ElfErr → Answer → Answer
unless_refused None a = a
unless_refused (Some e) a = Refused (refused.Program e)

-- the answer by what the program's file holds
abbrev pub of_program : Files → List ℕ → (List ℕ → Answer) → Answer
of_program files name k = of_file (finite.get files name) program_limit source.Program (λ p. unless_refused (refusal p) (k p))

-- ---- the image

-- the store tells these bytes as the image of that name, and they are this one
pub record IsImageOf (told : Option Files) (name bytes : List ℕ) (image : Distilled) : Type 0 where
  pub read : IsReadFrom told name image_limit bytes
  pub accepted : image_from bytes ≡ Ok image
  pub is_image : IsImage image

-- the file of this name is this image
abbrev pub HasImage : Option Files → List ℕ → Distilled → Type 0
HasImage told name image = (bytes : List ℕ) × IsImageOf told name bytes image

-- the image is not read, or refused
abbrev pub NoImage : Reads → List ℕ → Answer → Type 0
NoImage store name a = NotAccepted store name image_limit source.Image (λ bytes (e : ImageErr). image_from bytes ≡ Err e) refused.Image a

-- the answer by what the image's file holds
abbrev pub of_image : Files → List ℕ → (Distilled → Answer) → Answer
of_image files name k = of_file (finite.get files name) image_limit source.Image (λ bytes. of_reading (image_from bytes) refused.Image k)

-- the image that is named, or the empty one where none is
abbrev pub IsNamedImage : Option Files → Option (List ℕ) → Distilled → Type 0
IsNamedImage told None image = image ≡ nothing_known
IsNamedImage told (Some name) image = HasImage told name image

-- an image is named, and not read, or refused
abbrev pub NoNamedImage : Reads → Option (List ℕ) → Answer → Type 0
NoNamedImage store named a = (name : List ℕ) × (named ≡ Some name) × NoImage store name a

-- the same where an image is named, else beside one that assumes nothing
abbrev pub of_named_image : Files → Option (List ℕ) → (Distilled → Answer) → Answer
of_named_image files None k = k nothing_known
of_named_image files (Some name) k = of_image files name k

-- ---- the list of events

-- the store tells these bytes as the list of that name, and they are this one
pub record IsListOf (told : Option Files) (name bytes : List ℕ) (list : List (ℕ × Event)) : Type 0 where
  pub read : IsReadFrom told name events_limit bytes
  pub accepted : list_in bytes ≡ Ok list

-- the file of this name is this list of events
abbrev pub HasEvents : Option Files → List ℕ → List (ℕ × Event) → Type 0
HasEvents told name list = (bytes : List ℕ) × IsListOf told name bytes list

-- the list is not read, or refused
abbrev pub NoEvents : Reads → List ℕ → Answer → Type 0
NoEvents store name a = NotAccepted store name events_limit source.Events (λ bytes (e : EventErr). list_in bytes ≡ Err e) refused.Events a

-- the answer by what the list's file holds
abbrev pub of_events : Files → List ℕ → (List (ℕ × Event) → Answer) → Answer
of_events files name k = of_file (finite.get files name) events_limit source.Events (λ bytes. of_reading (list_in bytes) refused.Events k)

-- ---- the profile

-- the store tells these bytes as the profile of that name, and they are this one
pub record IsProfileFile (told : Option Files) (name bytes : List ℕ) (f : Profiled) : Type 0 where
  pub read : IsReadFrom told name profile_limit bytes
  pub accepted : profile_from bytes ≡ Ok f
  pub is_profile : IsProfile f

-- the file of this name is this profile
abbrev pub HasProfile : Option Files → List ℕ → Profiled → Type 0
HasProfile told name f = (bytes : List ℕ) × IsProfileFile told name bytes f

-- the profile is not read, or refused
abbrev pub NoProfile : Reads → List ℕ → Answer → Type 0
NoProfile store name a = NotAccepted store name profile_limit source.Profile (λ bytes (e : ProfileErr). profile_from bytes ≡ Err e) refused.Profile a

-- the answer by what the profile's file holds
abbrev pub of_profile : Files → List ℕ → (Profiled → Answer) → Answer
of_profile files name k = of_file (finite.get files name) profile_limit source.Profile (λ bytes. of_reading (profile_from bytes) refused.Profile k)

-- ---- the values of loads

-- the store tells these bytes as the values of that name, and they are these
pub record IsValuesFile (told : Option Files) (name bytes : List ℕ) (rows : List (ℕ × ℕ)) : Type 0 where
  pub read : IsReadFrom told name values_limit bytes
  pub accepted : values_from bytes ≡ Ok rows
  pub are_values : AreValues rows

abbrev pub HasValues : Option Files → List ℕ → List (ℕ × ℕ) → Type 0
HasValues told name rows = (bytes : List ℕ) × IsValuesFile told name bytes rows

-- the values are not read, or refused
abbrev pub NoValues : Reads → List ℕ → Answer → Type 0
NoValues store name a = NotAccepted store name values_limit source.Values (λ bytes (e : ValuesErr). values_from bytes ≡ Err e) refused.Values a

abbrev pub of_values : Files → List ℕ → (List (ℕ × ℕ) → Answer) → Answer
of_values files name k = of_file (finite.get files name) values_limit source.Values (λ bytes. of_reading (values_from bytes) refused.Values k)

-- the values that are named, or none where no file is
abbrev pub AreNamedValues : Option Files → Option (List ℕ) → List (ℕ × ℕ) → Type 0
AreNamedValues told None rows = rows ≡ []
AreNamedValues told (Some name) rows = HasValues told name rows

-- values are named, and not read, or refused
abbrev pub NoNamedValues : Reads → Option (List ℕ) → Answer → Type 0
NoNamedValues store named a = (name : List ℕ) × (named ≡ Some name) × NoValues store name a

abbrev pub of_named_values : Files → Option (List ℕ) → (List (ℕ × ℕ) → Answer) → Answer
of_named_values files None k = k []
of_named_values files (Some name) k = of_values files name k

-- ---- the input, which is empty where none is named

-- the input: that of the file where one is named, else nothing
abbrev pub IsInput : Option Files → Option (List ℕ) → List ℕ → Type 0
IsInput told None i = i ≡ []
IsInput told (Some name) i = IsReadFrom told name input_limit i

-- an input is named, and not read
abbrev pub NoInput : Reads → Option (List ℕ) → Answer → Type 0
NoInput store named a = (name : List ℕ) × (named ≡ Some name) × NotRead store name input_limit source.Input a

-- the answer by what the input is
abbrev pub of_input : Files → Option (List ℕ) → (List ℕ → Answer) → Answer
of_input files None k = k []
of_input files (Some name) k = of_file (finite.get files name) input_limit source.Input k

-- ---- the file that a command writes

-- the command's bytes were written, and it is done; or they were not
abbrev pub Saved : Reads → Option Files → List ℕ → List ℕ → Answer → Type 0
Saved store left name bytes Done = Written store.told left name bytes
Saved store left name bytes a = NotWritten source.Output store left name a
