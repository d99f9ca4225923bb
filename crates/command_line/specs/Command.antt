-- What the words of the command line ask for. A word is its bytes.
use Rattle.std.specs.Prelude.{ℕ, ◌^◌, Bool, ◌&&◌, ◌||◌, ◌==◌, if◌then◌else◌, List, [], ◌∷◌, ◌++◌, codes, option_map, option_and_then, option_copied, is_some, is_none, Option, Some, None}
use Rattle.command_line.specs.declared.commands.Command.{Command as ReadCommand}
use Rattle.command_line.specs.declared.commands.Command.TheVariants.{Run as ReadRun, Show as ReadShow, Replay as ReadReplay, Profile as ReadProfile, Values as ReadValues, Distill as ReadDistill, Check as ReadCheck, Certify as ReadCertify, Trial as ReadTrial}
use Rattle.command_line.specs.declared.commands.Run.{Run as ReadRunCommand}
use Rattle.command_line.specs.declared.commands.Replay.{Replay as ReadReplayCommand}
use Rattle.command_line.specs.declared.commands.RunOptions.{RunOptions as ReadWalkCommand}
use Rattle.command_line.specs.declared.commands.Distill.{Distill as ReadDistillCommand}
use Rattle.command_line.specs.declared.commands.Trial.{Trial as ReadTrialCommand}
use Rattle.command_line.specs.declared.options.Kind.{Kind}
use Rattle.command_line.specs.declared.options.Kind.TheVariants.{File, Number}
use Rattle.decimal_words.specs.Number.{number_within}
use Rattle.command_line.specs.Options.{same, is_name, value_of, number_or, number_if_given, are_options}

-- `run PROG`: the name of the program, the names of the image, of the input and of the report, if there are such, the number of slaves and the number of steps,
-- and after how many steps the image is made anew, if it is
pub record RunCommand : Type 0 where
  pub program : List ℕ
  pub image : Option (List ℕ)
  pub input : Option (List ℕ)
  pub report : Option (List ℕ)
  pub slaves : ℕ
  pub budget : ℕ
  pub adapt : Option ℕ

-- `replay PROG IMAGE EVENTS`: the names of the program, of the image, of the list of events and of the input, if there is one, and the number of slaves
pub record ReplayCommand : Type 0 where
  pub program : List ℕ
  pub image : List ℕ
  pub events : List ℕ
  pub input : Option (List ℕ)
  pub slaves : ℕ

-- `profile PROG OUT`, `values PROG OUT` and `check PROG IMAGE`: the names of the program, of the other file and of the input, if there is one, and the number of steps
pub record WalkCommand : Type 0 where
  pub program : List ℕ
  pub other : List ℕ
  pub input : Option (List ℕ)
  pub budget : ℕ

-- `distill PROG PROFILE OUT`: the names of the program, of the profile, of the values of loads, if there are such, and of the image that is written, and
-- the numbers that say how it is made
pub record DistillCommand : Type 0 where
  pub program : List ℕ
  pub profile : List ℕ
  pub output : List ℕ
  pub values : Option (List ℕ)
  pub rare : ℕ
  pub hot : ℕ
  pub goal : ℕ
  pub limit : ℕ

-- `trial SEED SIZE`: the number that a program is drawn from, and how many blocks it has
pub record TrialCommand : Type 0 where
  pub seed : ℕ
  pub size : ℕ

-- a command; `show IMAGE` has the name of the image, `profile` whether short writes are counted, and `certify PROG IMAGE` the names of the program
-- and of the image
pub data Command : Type 0 where
  Run : RunCommand → Command
  Show : (image : List ℕ) → Command
  Replay : ReplayCommand → Command
  Profile : WalkCommand → (calls : Bool) → Command
  Values : WalkCommand → Command
  Distill : DistillCommand → Command
  Check : WalkCommand → Command
  Certify : (program image : List ℕ) → Command
  Trial : TrialCommand → Command

-- the options of `run`
abbrev pub run_options : List (List ℕ × Kind)
run_options =
    (codes "--image", File) ∷ (codes "--input", File) ∷ (codes "--report", File) ∷ (codes "--slaves", Number 1 64) ∷ (codes "--budget", Number 1 (10 ^ 12))
    ∷ (codes "--adapt", Number 1 (10 ^ 9)) ∷ []

-- a run with options; an image asks for a report, and so do images that are made anew
abbrev pub run_with : List ℕ → List (List ℕ) → Option RunCommand
run_with program options =
    if (is_some (value_of (codes "--image") options) || is_some (value_of (codes "--adapt") options)) && is_none (value_of (codes "--report") options)
    then None
    else Some (record {
      program = program;
      image = value_of (codes "--image") options;
      input = value_of (codes "--input") options;
      report = value_of (codes "--report") options;
      slaves = number_or 4 (codes "--slaves") options;
      budget = number_or (10 ^ 9) (codes "--budget") options;
      adapt = number_if_given (codes "--adapt") options;
    })

-- what the words after `run` ask for: a name, and then options
abbrev pub run_of : List (List ℕ) → Option RunCommand
run_of [] = None
run_of (program ∷ options) = if is_name program && are_options run_options options then run_with program options else None

-- what the words after `show` ask for: a name, and no options
abbrev pub show_of : List (List ℕ) → Option Command
show_of [] = None
show_of (image ∷ options) = if is_name image && are_options [] options then Some (Show image) else None

-- the options of `replay`
abbrev pub replay_options : List (List ℕ × Kind)
replay_options = (codes "--input", File) ∷ (codes "--slaves", Number 1 64) ∷ []

-- what the words after `replay` ask for: three names, and then options
abbrev pub replay_of : List (List ℕ) → Option ReplayCommand
replay_of [] = None
replay_of (program ∷ []) = None
replay_of (program ∷ image ∷ []) = None
replay_of (program ∷ image ∷ events ∷ options) =
    if is_name program && is_name image && is_name events && are_options replay_options options
    then Some (record {
      program = program;
      image = image;
      events = events;
      input = value_of (codes "--input") options;
      slaves = number_or 4 (codes "--slaves") options;
    })
    else None

-- the options of `check` and of `values`, and those of `profile`
abbrev pub check_options : List (List ℕ × Kind)
check_options = (codes "--input", File) ∷ (codes "--budget", Number 1 (10 ^ 12)) ∷ []

-- the options of `profile`: those of `check`, and `--calls`
abbrev pub profile_options : List (List ℕ × Kind)
profile_options = check_options ++ (codes "--calls", Number 0 1) ∷ []

-- a walk with options
abbrev pub walk_with : List ℕ → List ℕ → List (List ℕ) → WalkCommand
walk_with program other options = record {
  program = program;
  other = other;
  input = value_of (codes "--input") options;
  budget = number_or (10 ^ 9) (codes "--budget") options;
}

-- what the words after `check` or `values` ask for: two names, and then options
abbrev pub check_of : List (List ℕ) → Option WalkCommand
check_of [] = None
check_of (program ∷ []) = None
check_of (program ∷ other ∷ options) =
    if is_name program && is_name other && are_options check_options options then Some (walk_with program other options) else None

-- and after `profile`
abbrev pub profile_of : List (List ℕ) → Option Command
profile_of [] = None
profile_of (program ∷ []) = None
profile_of (program ∷ other ∷ options) =
    if is_name program && is_name other && are_options profile_options options
    then Some (Profile (walk_with program other options) (number_or 0 (codes "--calls") options == 1))
    else None

-- the options of `distill`
abbrev pub distill_options : List (List ℕ × Kind)
distill_options =
    (codes "--values", File)
    ∷ (codes "--rare", Number 0 100)
    ∷ (codes "--hot", Number 1 (10 ^ 12))
    ∷ (codes "--goal", Number 1 65536)
    ∷ (codes "--limit", Number 16 16384)
    ∷ []

-- a distillation with options
abbrev pub distill_with : List ℕ → List ℕ → List ℕ → List (List ℕ) → DistillCommand
distill_with program profile output options = record {
  program = program;
  profile = profile;
  output = output;
  values = value_of (codes "--values") options;
  rare = number_or 10 (codes "--rare") options;
  hot = number_or 2 (codes "--hot") options;
  goal = number_or 200 (codes "--goal") options;
  limit = number_or 4096 (codes "--limit") options;
}

-- what the words after `distill` ask for: three names, and then options
abbrev pub distill_of : List (List ℕ) → Option DistillCommand
distill_of [] = None
distill_of (program ∷ []) = None
distill_of (program ∷ profile ∷ []) = None
distill_of (program ∷ profile ∷ output ∷ options) =
    if is_name program && is_name profile && is_name output && are_options distill_options options
    then Some (distill_with program profile output options)
    else None

-- what the words after `certify` ask for: two names, and no options
abbrev pub certify_of : List (List ℕ) → Option Command
certify_of [] = None
certify_of (program ∷ []) = None
certify_of (program ∷ image ∷ options) = if is_name program && is_name image && are_options [] options then Some (Certify program image) else None

-- what the words after `trial` ask for: two numbers
abbrev pub trial_of : List (List ℕ) → Option TrialCommand
trial_of (seed ∷ size ∷ []) =
    option_and_then (λ n. option_map (λ m. record { seed = n; size = m }) (number_within 1 10_000 size)) (number_within 0 (10 ^ 12) seed)
trial_of _ = None

-- the command that the words are, or None where they are none
abbrev pub command_of : List (List ℕ) → Option Command
command_of [] = None
command_of (command ∷ words) =
    if same command (codes "run") then option_map Run (run_of words)
    else if same command (codes "show") then show_of words
    else if same command (codes "replay") then option_map Replay (replay_of words)
    else if same command (codes "profile") then profile_of words
    else if same command (codes "values") then option_map Values (check_of words)
    else if same command (codes "distill") then option_map Distill (distill_of words)
    else if same command (codes "check") then option_map Check (check_of words)
    else if same command (codes "certify") then certify_of words
    else if same command (codes "trial") then option_map Trial (trial_of words)
    else None

-- a command that was read, as lists of bytes and numbers
abbrev pub shown_run : ReadRunCommand → RunCommand
shown_run run = record {
  program = run.program.now;
  image = option_copied run.image;
  input = option_copied run.input;
  report = option_copied run.report;
  slaves = run.slaves;
  budget = run.budget;
  adapt = run.adapt;
}

-- what a `replay` that was read means
abbrev pub shown_replay : ReadReplayCommand → ReplayCommand
shown_replay replay = record {
  program = replay.program.now;
  image = replay.image.now;
  events = replay.events.now;
  input = option_copied replay.input;
  slaves = replay.slaves;
}

-- what a command over one program and one other file means
abbrev pub shown_walk : ReadWalkCommand → WalkCommand
shown_walk walk = record {
  program = walk.program.now;
  other = walk.other.now;
  input = option_copied walk.input;
  budget = walk.budget;
}

-- what a `distill` that was read means
abbrev pub shown_distill : ReadDistillCommand → DistillCommand
shown_distill distill = record {
  program = distill.program.now;
  profile = distill.profile.now;
  output = distill.output.now;
  values = option_copied distill.values;
  rare = distill.rare;
  hot = distill.hot;
  goal = distill.goal;
  limit = distill.limit;
}

-- what a `trial` that was read means
abbrev pub shown_trial : ReadTrialCommand → TrialCommand
shown_trial trial = record { seed = trial.seed; size = trial.size }

-- what a command that was read means
abbrev pub shown : ReadCommand → Command
shown (ReadRun run) = Run (shown_run run)
shown (ReadShow image) = Show image.now
shown (ReadReplay replay) = Replay (shown_replay replay)
shown (ReadProfile walk calls) = Profile (shown_walk walk) calls
shown (ReadValues walk) = Values (shown_walk walk)
shown (ReadDistill distill) = Distill (shown_distill distill)
shown (ReadCheck walk) = Check (shown_walk walk)
shown (ReadCertify program image) = Certify program.now image.now
shown (ReadTrial trial) = Trial (shown_trial trial)
