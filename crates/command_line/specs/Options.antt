-- Options of a command: pairs of words, an option and its value.
use Rattle.std.specs.Prelude.{ℕ, ◌-◌, ◌^◌, ◌==◌, nat_eq, not, ◌&&◌, Bool, true, false, if◌then◌else◌, List, [], ◌∷◌, length, is_some, is_none, Option, Some, None, unwrap_or, option_and_then, IfSome, IsSome}
use Rattle.std.specs.Cmp.Lexicographic.{pointwise}
use Rattle.std.specs.List.{list_any}
use Rattle.command_line.specs.declared.options.Kind.{Kind}
use Rattle.command_line.specs.declared.options.Kind.TheVariants.{File, Number}
use Rattle.command_line.specs.declared.options.Rule.{Rule}
use Rattle.decimal_words.specs.Number.{number_of, number_within}

-- whether two words are the same
abbrev pub same : List ℕ → List ℕ → Bool
same a b = pointwise nat_eq a b

-- any word that isn't empty is a name
abbrev pub is_name : List ℕ → Bool
is_name word = not (length word == 0)

-- whether a word is a value of this kind
abbrev pub is_value : Kind → List ℕ → Bool
is_value File word = is_name word
is_value (Number least most) word = is_some (number_within least most word)

-- whether a line of a table, an option and the kind of its values, is for this option and this value
abbrev pub is_line_for : List ℕ → List ℕ → List ℕ × Kind → Bool
is_line_for option value line = same line.0 option && is_value line.1 value

-- whether a table has this option and takes this value for it
unfoldable pub takes : List (List ℕ × Kind) → List ℕ → List ℕ → Bool
takes table option value = list_any (is_line_for option value) table

-- the value of an option, if it is given
abbrev pub value_of : List ℕ → List (List ℕ) → Option (List ℕ)
value_of option [] = None
value_of option (word ∷ []) = None
value_of option (other ∷ value ∷ words) = if same other option then Some value else value_of option words

-- the number that an option is given, or a default
unfoldable pub number_or : ℕ → List ℕ → List (List ℕ) → ℕ
number_or default option words = unwrap_or (option_and_then number_of (value_of option words)) default

-- the number that an option is given, if it is given one
unfoldable pub number_if_given : List ℕ → List (List ℕ) → Option ℕ
number_if_given option words = option_and_then number_of (value_of option words)

-- an option is given a number of 64 bits, if it is given
abbrev pub IsNumberIfGiven : List ℕ → List (List ℕ) → Type 0
IsNumberIfGiven option words = IfSome (value_of option words) (λ value. IsSome (number_within 0 (2 ^ 64 - 1) value))

-- whether an option and its value may stand before words: a table takes them, and the words don't give the option again
unfoldable pub may_precede : List (List ℕ × Kind) → List ℕ → List ℕ → List (List ℕ) → Bool
may_precede table option value words = takes table option value && is_none (value_of option words)

-- whether words are pairs of an option and a value that a table takes, each option at most once
abbrev pub are_options : List (List ℕ × Kind) → List (List ℕ) → Bool
are_options table [] = true
are_options table (word ∷ []) = false
are_options table (option ∷ value ∷ words) = may_precede table option value words && are_options table words

-- a rule of a table, its option as bytes
abbrev pub shown_rule : Rule → List ℕ × Kind
shown_rule rule = (rule.option.now, rule.value)
