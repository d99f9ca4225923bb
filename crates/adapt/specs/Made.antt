-- The images that are made of a run while it goes on.
use Rattle.std.specs.Prelude.{ℕ, ◌+◌, ◌^◌, ◌||◌, ◌==◌, Bool, true, nat_le, if◌then◌else◌, List, [], length, Option, Some, None}
use Rattle.cells.specs.Run.{State}
use Rattle.elf_reader.specs.Executable.{Executable}
use Rattle.seq_machine.specs.Parts.{start_of}
use Rattle.dist_image.specs.Image.{Distilled}
use Rattle.profile_data.specs.Profile.{Profiled}
use Rattle.profile_laws.specs.Profiles.{with_mark}
use Rattle.profile_laws.specs.Tally.{profile_of}
use Rattle.profiler.specs.Widths.{is_wide}
use Rattle.distill_rules.specs.Analysed.{analysed}
use Rattle.layout_rules.specs.declared.Options.{Options}
use Rattle.layout_rules.specs.Images.{distilled}
use Rattle.cuts.specs.Words.{word_in}

-- what a distiller is asked for, where nothing else is said
abbrev pub default_options : Options
default_options = record { rare = 10; hot = 2; goal = 200; limit = 4_096 }

-- there is no such profile, as it would have too many rows, targets or steps; or nothing in it is analysed
abbrev pub gives_none : Profiled → Bool
gives_none f = is_wide f.rows || (length (analysed f.rows) == 0) || nat_le (2 ^ 64) f.steps

-- the image of a program by a profile, if it gives one
abbrev pub image_by : Executable → Profiled → Option Distilled
image_by program f = if gives_none f then None else Some (distilled (word_in program) program.entry f [] default_options)

-- the image of a program by the first so many steps of its run from a start, if they give one. Short writes are counted
unfoldable pub made : Executable → State → ℕ → Option Distilled
made program start position = image_by program (profile_of (with_mark true) start position)

-- What an adapter stands for: a program, the input of its run, and after how many steps an image is due again; the position from
-- which on one is due, and the latest position that it was asked for
pub record Adapting : Type 0 where
  pub program : Executable
  pub input : List ℕ
  pub every : ℕ
  pub due : ℕ
  pub asked : ℕ

-- what it answers at a position, and what it stands for then
abbrev pub answer_at : Adapting → ℕ → Option Distilled
answer_at a position = if nat_le a.due position then made a.program (start_of a.program a.input) position else None

abbrev pub after : Adapting → ℕ → Adapting
after a position = if nat_le a.due position then record a { due = position + a.every; asked = position } else a
