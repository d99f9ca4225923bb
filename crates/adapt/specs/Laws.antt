-- What every image is that is made of a run.
use Rattle.std.specs.Prelude.{◌≡◌, ℕ, ◌≤◌, List, Some}
use Rattle.elf_reader.specs.Executable.{Executable}
use Rattle.seq_machine.specs.Parts.{start_of}
use Rattle.dist_image.specs.Image.{Distilled, IsImage}
use Rattle.fitting.specs.Fits.{Fits}
use Rattle.cuts.specs.Words.{word_in}
use Rattle.adapt.specs.Made.{made}

-- it is valid and fits the program, and no task takes more than 4,096 steps
pub record IsMade (program : Executable) (image : Distilled) : Type 0 where
  pub valid : IsImage image
  pub fits : Fits (word_in program) image
  pub limit : image.limit ≤ 4_096

-- each image that is made of a run of the program, whatever the input and the position
abbrev pub AreMade : Executable → Type 0
AreMade program = (input : List ℕ) (position : ℕ) (image : Distilled) → made program (start_of program input) position ≡ Some image → IsMade program image
