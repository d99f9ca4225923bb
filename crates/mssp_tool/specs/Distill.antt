-- What `distill` comes to, and why.
use Rattle.std.specs.Prelude.{◌≡◌, ◌≢◌, ℕ, ◌⊎◌, ◌==◌, if◌then◌else◌, List, [], length, Option}
use Rattle.outside.specs.Files.{Files}
use Rattle.command_line.specs.Command.{DistillCommand}
use Rattle.dist_image.specs.Image.{Distilled}
use Rattle.dist_image.specs.Bytes.{bytes_of}
use Rattle.elf_reader.specs.Executable.{Executable}
use Rattle.elf_reader.specs.Accepted.{program_of}
use Rattle.profile_data.specs.Profile.{Profiled}
use Rattle.distill_rules.specs.Analysed.{analysed}
use Rattle.layout_rules.specs.declared.Options.{Options}
use Rattle.layout_rules.specs.Images.{distilled}
use Rattle.cuts.specs.Words.{word_in}
use Rattle.distiller.specs.Given.{loads}
use Rattle.answers.specs.declared.answer.Refusal.TheVariants.{Empty}
use Rattle.answers.specs.declared.answer.Answer.{Answer}
use Rattle.answers.specs.declared.answer.Answer.TheVariants.{Memory, Refused, Done}
use Rattle.speculative_runs.specs.Told.{Reads}
use Rattle.mssp_tool.specs.Files.{IsProgramOf, NoProgram, of_program, HasProfile, NoProfile, of_profile, Saved, AreNamedValues, NoNamedValues, of_named_values}

-- it comes to no image: the first file that is wanting or refused, or want of memory
abbrev pub Undistilled : Reads → DistillCommand → Answer → Type 0
Undistilled store d a =
    NoProgram store d.program a
    ⊎ ((p : List ℕ) × IsProgramOf store.told d.program p × NoProfile store d.profile a)
    ⊎ ((p : List ℕ) × (f : Profiled) × IsProgramOf store.told d.program p × HasProfile store.told d.profile f × NoNamedValues store d.values a)
    ⊎ (a ≡ Memory)

-- what the distiller is asked for
abbrev pub options_of : DistillCommand → Options
options_of d = record { rare = d.rare; hot = d.hot; goal = d.goal; limit = d.limit }

-- the image of a program and a profile, where these loads load one value each
abbrev pub image_of : DistillCommand → Executable → Profiled → List (ℕ × ℕ) → Distilled
image_of d program f same = distilled (word_in program) program.entry f (loads (word_in program) f.rows same) (options_of d)

-- the profile has nothing that an image could be made of, and no file has changed; or it has, and the image's bytes were written, or not
abbrev pub Distills : DistillCommand → Executable → Profiled → List (ℕ × ℕ) → Reads → Option Files → Answer → Type 0
Distills d program f same store left a =
    ((analysed f.rows ≡ []) × (a ≡ Refused Empty) × (left ≡ store.told)) ⊎ ((analysed f.rows ≢ []) × Saved store left d.output (bytes_of (image_of d program f same)) a)

-- it came to no image, and no file has changed; or its files are these, and their image this one
abbrev pub DistillCause : Reads → Option Files → DistillCommand → Answer → Type 0
DistillCause store left d a =
    (Undistilled store d a × (left ≡ store.told))
    ⊎ ((p : List ℕ) × (f : Profiled) × (same : List (ℕ × ℕ)) × IsProgramOf store.told d.program p × HasProfile store.told d.profile f
    × AreNamedValues store.told d.values same × Distills d (program_of p) f same store left a)

-- the answer that told files determine
abbrev pub distill_answer : Files → DistillCommand → Answer
distill_answer files d =
    of_program files d.program (λ _. of_profile files d.profile (λ f. of_named_values files d.values (λ _. if length (analysed f.rows) == 0 then Refused Empty else Done)))
