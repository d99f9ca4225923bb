-- What `show` comes to, and why.
use Rattle.std.specs.Prelude.{ℕ, ◌⊎◌, List}
use Rattle.outside.specs.Files.{Files}
use Rattle.dist_image.specs.Image.{Distilled}
use Rattle.report.specs.Show.{image_text}
use Rattle.answers.specs.declared.answer.Answer.{Answer}
use Rattle.answers.specs.declared.answer.Answer.TheVariants.{Done}
use Rattle.speculative_runs.specs.Told.{Reads, Puts, GotNothing, Delivered}
use Rattle.mssp_tool.specs.Files.{HasImage, NoImage, of_image}

-- the image is wanting, and nothing was put; or it is this one, and its text was put or a part of it
abbrev pub ShowCause : Reads → List ℕ → Puts → Answer → Type 0
ShowCause store name out a =
    (NoImage store name a × GotNothing out)
    ⊎ ((image : Distilled) × HasImage store.told name image × Delivered out (image_text image) a)

-- the answer that told files determine
abbrev pub show_answer : Files → List ℕ → Answer
show_answer files name = of_image files name (λ _. Done)
