-- What `trial` comes to, and why.
use Rattle.std.specs.Prelude.{◌≡◌, ℕ, ◌⊎◌, false, ◌==◌, if◌then◌else◌, List, [], length}
use Rattle.command_line.specs.Command.{TrialCommand}
use Rattle.profile_data.specs.Profile.{Tally, Profiled}
use Rattle.profile_laws.specs.Profiles.{with_mark, steps, IsWide}
use Rattle.profile_laws.specs.Tally.{kept}
use Rattle.distill_rules.specs.Analysed.{analysed}
use Rattle.trial_report.specs.Trial.{budget, start_made, IsProfileMade, IsTrial}
use Rattle.answers.specs.declared.answer.Refusal.TheVariants.{Wide, Empty}
use Rattle.answers.specs.declared.answer.Answer.{Answer}
use Rattle.answers.specs.declared.answer.Answer.TheVariants.{Memory, Refused, Done}
use Rattle.speculative_runs.specs.Told.{Puts, GotNothing, Delivered}
use Rattle.mssp_tool.specs.Profile.{is_wide}

-- the profile of the program's run is too wide, or has nothing that an image could be made of, and nothing was put
abbrev pub TooWide : TrialCommand → Puts → Answer → Type 0
TooWide t out a = (f : Profiled) × IsProfileMade t.seed t.size f × IsWide f.rows × (a ≡ Refused Wide) × GotNothing out

-- nothing was put for a trial that is refused
abbrev pub HasNothing : TrialCommand → Puts → Answer → Type 0
HasNothing t out a = (f : Profiled) × IsProfileMade t.seed t.size f × (IsWide f.rows → ⊥) × (analysed f.rows ≡ []) × (a ≡ Refused Empty) × GotNothing out

-- there was no memory, and nothing was put; or the profile gives no image; or the lines of the trial were put, or a part of them
abbrev pub TrialCause : TrialCommand → Puts → Answer → Type 0
TrialCause t out a =
    ((a ≡ Memory) × GotNothing out)
    ⊎ TooWide t out a
    ⊎ HasNothing t out a
    ⊎ ((f : Profiled) × (text : List ℕ) × IsTrial t.seed t.size f text × Delivered out text a)

-- the answer that the numbers determine
abbrev pub answer_by : List Tally → Answer
answer_by rows = if is_wide rows then Refused Wide else if length (analysed rows) == 0 then Refused Empty else Done

-- the answer of a trial
abbrev pub trial_answer : TrialCommand → Answer
trial_answer t = answer_by (kept (with_mark false) (start_made t.seed t.size) (steps (start_made t.seed t.size) budget)).rows
