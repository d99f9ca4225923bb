-- The line of a verdict on a run.
use Rattle.std.specs.Prelude.{ℕ, ◌<◌, List, [], ◌∷◌, length, codes, decimal, slice_get, Option, Some, None}
use Rattle.dist_image.specs.Image.{Premise, Distilled}
use Rattle.assume_list.specs.declared.verdict.Verdict.{Verdict}
use Rattle.assume_list.specs.declared.verdict.Verdict.TheVariants.{Met, Broken}
use Rattle.report.specs.Text.{line}
use Rattle.report.specs.Show.{kind_word, place_words}

-- an assumption by its kind, and the program counter that it speaks of, if there is one
abbrev pub short_words : Option Premise → List (List ℕ)
short_words None = []
short_words (Some p) = kind_word p ∷ place_words p

-- a position at which an assumption fails
abbrev pub broken_line : ℕ → Option Premise → List ℕ
broken_line position p = line (codes "broken") (decimal position ∷ short_words p)

-- the line of a verdict
abbrev pub verdict_line : Distilled → Verdict → List ℕ
verdict_line image (Met n) = line (codes "met") (decimal n ∷ [])
verdict_line image (Broken position which) = broken_line position (slice_get image.assumptions which)

-- a verdict tells only of assumptions that are listed
abbrev pub IsOfList : List Premise → Verdict → Type 0
IsOfList ps (Met n) = Unit {0}
IsOfList ps (Broken position which) = which < length ps
