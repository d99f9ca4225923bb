-- What the trial of a number tells: a program is made, profiled and distilled, its run is checked, and a machine that speculates is given drawn events.
use Rattle.std.specs.Prelude.{◌≡◌, ◌≢◌, ℕ, ◌+◌, ◌^◌, ◌<◌, ◌≤◌, ◌⊎◌, true, false, List, [], ◌∷◌, ◌++◌, length, codes, decimal}
use Rattle.cells.specs.Run.{State, is_over}
use Rattle.speculation.specs.declared.Event.{Event}
use Rattle.speculation.specs.World.{World}
use Rattle.speculation.specs.Engine.{Model}
use Rattle.speculation_schedules.specs.Schedule.{after}
use Rattle.event_list.specs.Draws.{drawn}
use Rattle.elf_reader.specs.Executable.{Executable}
use Rattle.elf_reader.specs.Accepted.{program_of}
use Rattle.seq_machine.specs.Parts.{start_of}
use Rattle.dist_image.specs.Image.{Distilled}
use Rattle.image_semantics.specs.World.{world}
use Rattle.profile_data.specs.Profile.{Profiled}
use Rattle.profile_laws.specs.Profiles.{with_mark, steps, IsProfileOf, IsWide}
use Rattle.assume_list.specs.declared.verdict.Verdict.{Verdict}
use Rattle.assume_list.specs.Verdicts.{IsVerdict}
use Rattle.distill_rules.specs.Analysed.{analysed}
use Rattle.layout_rules.specs.declared.Options.{Options}
use Rattle.layout_rules.specs.Images.{distilled}
use Rattle.cuts.specs.Words.{word_in}
use Rattle.report.specs.Text.{line}
use Rattle.report.specs.Verdict.{verdict_line}
use Rattle.report.specs.Events.{summary_text}
use Rattle.trial.specs.Made.{words}
use Rattle.trial.specs.File.{file_of}

-- how many steps of the program's run are profiled and checked, and how many events are given at most
abbrev pub budget : ℕ
budget = 10 ^ 9

-- the most events of a trial
abbrev pub most_events : ℕ
most_events = 50_000_000

-- the options with which a trial distils
abbrev pub options : Options
options = record { rare = 0; hot = 2; goal = 200; limit = 1024 }

-- the image of a program, by a profile of it
abbrev pub image_of : Executable → Profiled → Distilled
image_of p f = distilled (word_in p) p.entry f [] options

-- the machine is given events until the run has ended, or all have been given
pub record IsTrialStop (w : World) (event : ℕ → Event) (k : ℕ) : Type 0 where
  pub few : k ≤ most_events
  pub there : (is_over (after w event k).committed ≡ true) ⊎ (k ≡ most_events)
  pub first : (j : ℕ) → j < k → is_over (after w event j).committed ≡ false

-- the lines of the program, its profile and its image, and that of the check of its run
abbrev pub front_text : ℕ → ℕ → Distilled → Verdict → List ℕ
front_text words steps image v =
    line (codes "words") (decimal words ∷ [])
    ++ (line (codes "steps") (decimal steps ∷ [])
    ++ (line (codes "analysed") (decimal (length image.notes) ∷ [])
    ++ (line (codes "slots") (decimal (length image.slots) ∷ [])
    ++ (line (codes "anchors") (decimal (length image.anchors) ∷ [])
    ++ (codes "check " ++ verdict_line image v)))))

-- and those of the machine after k events
abbrev pub text_of : ℕ → ℕ → Distilled → Verdict → ℕ → Model → List ℕ
text_of words steps image v k last = front_text words steps image v ++ (line (codes "events") (decimal k ∷ []) ++ summary_text last)

-- of a program and its image: the verdict on its run, and a machine with four slaves that is given the events of a number
abbrev pub Tells : ℕ → Executable → ℕ → ℕ → Distilled → List ℕ → Type 0
Tells number p words steps image text =
    let w = world (start_of p []) image 4 in
    (v : Verdict) × (k : ℕ) × IsVerdict (start_of p []) image budget v × IsTrialStop w (drawn number 4) k
    × (text ≡ text_of words steps image v k (after w (drawn number 4) k))

-- the profile of a program's run, in which no call is counted
abbrev pub IsRunProfile : Executable → Profiled → Type 0
IsRunProfile p f = IsProfileOf (with_mark false) (start_of p []) (steps (start_of p []) budget) f

-- ---- the trial of a number and a size

-- the program of a trial
abbrev pub program_made : ℕ → ℕ → Executable
program_made seed size = program_of (file_of (words seed size))

-- where it begins
abbrev pub start_made : ℕ → ℕ → State
start_made seed size = start_of (program_made seed size) []

-- its program's run has this profile, in which no call is counted
abbrev pub IsProfileMade : ℕ → ℕ → Profiled → Type 0
IsProfileMade seed size f = IsProfileOf (with_mark false) (start_made seed size) (steps (start_made seed size) budget) f

-- There is one, not too wide, of which an image can be made. The events are drawn from the next number, since the program is drawn from this one.
pub record IsTrial (seed size : ℕ) (f : Profiled) (text : List ℕ) : Type 0 where
  pub profile : IsProfileMade seed size f
  pub narrow : IsWide f.rows → ⊥
  pub some : analysed f.rows ≢ []
  pub tells : Tells (seed + 1) (program_made seed size) (length (words seed size)) f.steps (image_of (program_made seed size) f) text
