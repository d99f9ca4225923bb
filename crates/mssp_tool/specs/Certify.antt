-- What `certify` comes to, and why.
use Rattle.std.specs.Prelude.{◌≡◌, ℕ, ◌⊎◌, List, [], ◌∷◌, codes, decimal, Some}
use Rattle.outside.specs.Files.{Files}
use Rattle.dist_image.specs.Image.{Distilled}
use Rattle.elf_reader.specs.Accepted.{program_of}
use Rattle.cuts.specs.Words.{word_in}
use Rattle.certify.specs.declared.fit.Fit.{Fit}
use Rattle.certify.specs.declared.fit.Fit.TheVariants.{Yes, No}
use Rattle.certify.specs.Answers.{IsAnswer}
use Rattle.report.specs.Text.{hex_word, line}
use Rattle.answers.specs.declared.answer.Answer.{Answer}
use Rattle.answers.specs.declared.answer.Answer.TheVariants.{Done, Broken}
use Rattle.speculative_runs.specs.Told.{Reads, Puts, GotNothing, Spoken}
use Rattle.mssp_tool.specs.Files.{IsProgramOf, NoProgram, of_program, HasImage, NoImage, of_image}

-- the first file that is wanting or refused
abbrev pub Uncertified : Reads → (program image : List ℕ) → Answer → Type 0
Uncertified store program image a = NoProgram store program a ⊎ ((p : List ℕ) × IsProgramOf store.told program p × NoImage store image a)

-- the line that tells whether an image fits, or where it breaks which rule first
abbrev pub fit_line : Fit → List ℕ
fit_line Yes = line (codes "fits") []
fit_line (No pc rule) = line (codes "unfit") (hex_word pc ∷ codes "rule" ∷ decimal rule ∷ [])

-- the answer of `certify`, by what the rules say
abbrev pub fit_answer : Fit → Answer
fit_answer Yes = Done
fit_answer (No pc rule) = Broken

-- the line was put, and the answer tells it; or a part of the line, where the sink failed or there was no memory
abbrev pub Certified : Fit → Puts → Answer → Type 0
Certified fit out a = Spoken out (fit_line fit) (fit_answer fit) a

-- of these bytes and this image, whether the image fits
pub record IsFit (program : List ℕ) (image : Distilled) (fit : Fit) : Type 0 where
  pub answers : IsAnswer (word_in (program_of program)) image fit

-- a file is wanting or refused, and nothing was put; or the files are these, and this is whether the image fits
abbrev pub CertifyCause : Reads → (program image : List ℕ) → Puts → Answer → Type 0
CertifyCause store program image out a =
    (Uncertified store program image a × GotNothing out)
    ⊎ ((p : List ℕ) × (im : Distilled) × (fit : Fit) × IsProgramOf store.told program p × HasImage store.told image im × IsFit p im fit × Certified fit out a)

-- the answer of told files, where this is whether the image fits
abbrev pub certify_answer : Files → (program image : List ℕ) → Fit → Answer
certify_answer files program image fit = of_program files program (λ p. of_image files image (λ im. fit_answer fit))

-- a file is wanting or refused, whatever fits; or the files are accepted, and the answer tells whether the image fits
abbrev pub IsCertified : Files → (program image : List ℕ) → Answer → Type 0
IsCertified files program image a =
    ((fit : Fit) → a ≡ certify_answer files program image fit)
    ⊎ ((p : List ℕ) × (im : Distilled) × (fit : Fit) × IsProgramOf (Some files) program p × HasImage (Some files) image im × IsFit p im fit × (a ≡ fit_answer fit))
