-- What a recorder stands for.
use Rattle.std.specs.Prelude.{ℕ, ◌+◌, Bool, List}
use Rattle.cells.specs.Run.{State}
use Rattle.elf_reader.specs.Executable.{Executable}
use Rattle.seq_machine.specs.Parts.{start_of}
use Rattle.fitting.specs.Fails.{state_at}
use Rattle.profile_data.specs.Profile.{Profiled}
use Rattle.profile_laws.specs.Profiles.{with_mark, IsProfileOf, IsWide}
use Rattle.profile_laws.specs.Tally.{kept}

-- a program and its input, how many steps of its run were recorded, and whether short writes are counted
pub record Recorded : Type 0 where
  pub program : Executable
  pub input : List ℕ
  pub position : ℕ
  pub calls : Bool

-- the state of the run after the steps that were recorded
abbrev pub state_reached : Recorded → State
state_reached r = state_at (start_of r.program r.input) r.position

-- a profile is that of the steps that were recorded
abbrev pub IsRecordedProfile : Recorded → Profiled → Type 0
IsRecordedProfile r f = IsProfileOf (with_mark r.calls) (start_of r.program r.input) r.position f

-- with one step more, the profile would be too wide
abbrev pub IsNextWide : Recorded → Type 0
IsNextWide r = IsWide (kept (with_mark r.calls) (start_of r.program r.input) (r.position + 1)).rows
