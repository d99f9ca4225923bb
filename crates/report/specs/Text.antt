-- Numbers, words and lines of the product's texts.
use Rattle.std.specs.Prelude.{ℕ, ◌/◌, ◌%◌, ◌^◌, List, [], ◌∷◌, ◌++◌, codes, decimal, false, map}
use Rattle.std.specs.Fmt.{digit_glyph}
use Rattle.std.specs.List.{flat_map}
use Rattle.cells.specs.declared.End.{End}
use Rattle.cells.specs.declared.End.TheVariants.{Exit, Break, Illegal, Misfetch}
use Rattle.report.specs.declared.text.Word.{Word}
use Rattle.report.specs.declared.text.Word.TheVariants.{Text, Label, Number, Hex, Register}

-- the eight lower case hexadecimal digits of a number of 32 bits, the highest first
abbrev pub hex_word : ℕ → List ℕ
hex_word n = map (λ place. digit_glyph false (n / 16 ^ place % 16)) (7 ∷ 6 ∷ 5 ∷ 4 ∷ 3 ∷ 2 ∷ 1 ∷ 0 ∷ [])

-- words, each behind a space
abbrev pub spaced : List (List ℕ) → List ℕ
spaced words = flat_map (λ word. codes " " ++ word) words

-- a line: its first word, the others, each behind a space, and a line feed
abbrev pub line : List ℕ → List (List ℕ) → List ℕ
line first more = first ++ spaced more ++ codes "\n"

-- a word as the code has it
abbrev pub word_text : Word → List ℕ
word_text (Text text) = text.now
word_text (Label text) = text.now ++ codes ":"
word_text (Number n) = decimal n
word_text (Hex n) = hex_word n
word_text (Register n) = codes "x" ++ decimal n

-- the words for the end of a run
abbrev pub end_words : End → List (List ℕ)
end_words (Exit code) = codes "exit" ∷ decimal code ∷ []
end_words Break = codes "break" ∷ []
end_words (Illegal word) = codes "illegal" ∷ hex_word word ∷ []
end_words (Misfetch target) = codes "misfetch" ∷ hex_word target ∷ []
