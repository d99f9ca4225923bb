-- Options, one after the other.
use Rattle.std.proofs.Common.{ℕ, ◌≡◌, ◌<◌, ◌≤◌, ◌-◌, ◌^◌, ◌==◌, ◌&&◌, ◌||◌, ap, sym, subst, refl, arith, Bool, true, false, if◌then◌else◌, List, [], ◌∷◌, length, map, Option, Some, None, unwrap_or, option_and_then, IfSome, IsSome, is_some, is_none, codes, lit<}
use Rattle.std.specs.List.{list_any}
use Rattle.std.specs.Cmp.Lexicographic.{same_text}
use Rattle.std.proofs.lemmas.Bool.Decides.{nat_tests}
use Rattle.command_line.specs.declared.options.Kind.{Kind}
use Rattle.decimal_words.specs.Number.{number_of, within, number_within}
use Rattle.command_line.specs.Options.{same, takes, value_of, number_or, number_if_given, may_precede, are_options, IsNumberIfGiven}
use Rattle.command_line.specs.Command.{run_options, replay_options, check_options, profile_options, distill_options}

pub list_any-map : {A B : Type 0} (test : B → Bool) (f : A → B) (xs : List A) → list_any test (map f xs) ≡ list_any (λ x. test (f x)) xs
list_any-map test f [] = refl
list_any-map test f (x ∷ xs) = ap (λ b. test (f x) || b) (list_any-map test f xs)

-- one word gives no option a value
pub value_of-short : {A : Type 0} (option : List ℕ) (bytes : A → List ℕ) (words : List A) → length words < 2 → value_of option (map bytes words) ≡ None
value_of-short option bytes [] h = refl
value_of-short option bytes (word ∷ []) h = refl
value_of-short option bytes (word ∷ value ∷ words) h = grind arith

-- fewer than two words are options just where there are none
pub are_options-short : {A : Type 0} (table : List (List ℕ × Kind)) (bytes : A → List ℕ) (words : List A) → length words < 2
    → are_options table (map bytes words) ≡ (length words == 0)
are_options-short table bytes [] h = refl
are_options-short table bytes (word ∷ []) h = refl
are_options-short table bytes (option ∷ value ∷ words) h = grind arith

both : (a b : Bool) → (a && b) ≡ true → (a ≡ true) × (b ≡ true)
both true b h = (refl, h)
both false b h = (h, cc)

-- the value that one option gives, or that the words after it give
given-next : (table : List (List ℕ × Kind)) (option other value : List ℕ) (words : List (List ℕ)) (b : Bool) → same other option ≡ b → takes table other value ≡ true
    → IfSome (value_of option words) (λ v. takes table option v ≡ true)
    → IfSome (if b then Some value else value_of option words) (λ v. takes table option v ≡ true)
given-next table option other value words true e here later = subst (λ (o : List ℕ). takes table o value ≡ true) (same_text other option (sym e)) here
given-next table option other value words false e here later = later

-- what options give is what their table takes
pub takes-given : (table : List (List ℕ × Kind)) (option : List ℕ) (words : List (List ℕ)) → are_options table words ≡ true
    → IfSome (value_of option words) (λ v. takes table option v ≡ true)
unfolding may_precede
takes-given table option [] h = tt
takes-given table option (word ∷ []) h = tt
takes-given table option (other ∷ value ∷ words) h =
    let parts = both (takes table other value && is_none (value_of other words)) (are_options table words) h in
    given-next table option other value words (same other option) refl (both (takes table other value) (is_none (value_of other words)) parts.0).0
    (takes-given table option words parts.1)

-- a number within a range of 64 bits
number_within-wider : (least most : ℕ) → most < 2 ^ 64 → (n : Option ℕ) → is_some (option_and_then (within least most) n) ≡ true
    → is_some (option_and_then (within 0 (2 ^ 64 - 1)) n) ≡ true
number_within-wider least most small None h = h
number_within-wider least most small (Some n) h = grind (arith, nat_tests)

-- options give a number of 64 bits where their table takes just the numbers of such a range
pub number-given : (table : List (List ℕ × Kind)) (option : List ℕ) (least most : ℕ) → most < 2 ^ 64
    → ((v : List ℕ) → takes table option v ≡ true → is_some (number_within least most v) ≡ true)
    → (words : List (List ℕ)) → are_options table words ≡ true → IsNumberIfGiven option words
number-given table option least most small numbers words h = if_given (value_of option words) (takes-given table option words h)
  where
    if_given : (o : Option (List ℕ)) → IfSome o (λ v. takes table option v ≡ true) → IfSome o (λ v. IsSome (number_within 0 (2 ^ 64 - 1) v))
    if_given None given = given
    if_given (Some v) given = number_within-wider least most small (number_of v) (numbers v given)

-- `--budget` of `run` is a number of 64 bits
pub budget-given : (words : List (List ℕ)) → are_options run_options words ≡ true → IsNumberIfGiven (codes "--budget") words
unfolding takes
budget-given words h = number-given run_options (codes "--budget") 1 (10 ^ 12) (lit< tt) (λ v e. grind (arith, e)) words h

-- a number that options give is within such a range, as its default is
pub number-between : (table : List (List ℕ × Kind)) (option : List ℕ) (least most default : ℕ) → least ≤ default → default ≤ most
    → ((v : List ℕ) → takes table option v ≡ true → is_some (number_within least most v) ≡ true)
    → (words : List (List ℕ)) → are_options table words ≡ true → (least ≤ number_or default option words) × (number_or default option words ≤ most)
unfolding number_or
number-between table option least most default low high numbers words h = if_given (value_of option words) (takes-given table option words h)
  where
    between : (n : Option ℕ) → is_some (option_and_then (within least most) n) ≡ true → (least ≤ unwrap_or n default) × (unwrap_or n default ≤ most)
    between None e = (low, high)
    between (Some n) e = (grind (arith, nat_tests), grind (arith, nat_tests))

    if_given : (o : Option (List ℕ)) → IfSome o (λ v. takes table option v ≡ true)
        → (least ≤ unwrap_or (option_and_then number_of o) default) × (unwrap_or (option_and_then number_of o) default ≤ most)
    if_given None given = (low, high)
    if_given (Some v) given = between (number_of v) (numbers v given)

-- so is a number that is given without a default
pub number-if-between : (table : List (List ℕ × Kind)) (option : List ℕ) (least most : ℕ)
    → ((v : List ℕ) → takes table option v ≡ true → is_some (number_within least most v) ≡ true)
    → (words : List (List ℕ)) → are_options table words ≡ true → IfSome (number_if_given option words) (λ n. (least ≤ n) × (n ≤ most))
unfolding number_if_given
number-if-between table option least most numbers words h = bounded_if_given (value_of option words) (takes-given table option words h)
  where
    between : (n : Option ℕ) → is_some (option_and_then (within least most) n) ≡ true → IfSome n (λ m. (least ≤ m) × (m ≤ most))
    between None e = tt
    between (Some n) e = (grind (arith, nat_tests), grind (arith, nat_tests))

    bounded_if_given : (o : Option (List ℕ)) → IfSome o (λ v. takes table option v ≡ true) → IfSome (option_and_then number_of o) (λ n. (least ≤ n) × (n ≤ most))
    bounded_if_given None given = tt
    bounded_if_given (Some v) given = between (number_of v) (numbers v given)

-- `--adapt` is a number from 1 to 10^9
pub adapt-between : (words : List (List ℕ)) → are_options run_options words ≡ true → IfSome (number_if_given (codes "--adapt") words) (λ n. (1 ≤ n) × (n ≤ 10 ^ 9))
unfolding takes
adapt-between words h = number-if-between run_options (codes "--adapt") 1 (10 ^ 9) (λ v e. grind (arith, e)) words h

pub adapt-given : (words : List (List ℕ)) → are_options run_options words ≡ true → IsNumberIfGiven (codes "--adapt") words
unfolding takes
adapt-given words h = number-given run_options (codes "--adapt") 1 (10 ^ 9) (lit< tt) (λ v e. grind (arith, e)) words h

-- from 1 to 10^12
pub budget-between : (words : List (List ℕ)) → are_options run_options words ≡ true → (1 ≤ number_or (10 ^ 9) (codes "--budget") words) × (number_or (10 ^ 9) (codes "--budget") words ≤ 10 ^ 12)
unfolding takes
budget-between words h = number-between run_options (codes "--budget") 1 (10 ^ 12) (10 ^ 9) (omega arith) (omega arith) (λ v e. grind (arith, e)) words h

-- `--slaves` of `run` is a number from 1 to 64
pub run-slaves-between : (words : List (List ℕ)) → are_options run_options words ≡ true → (1 ≤ number_or 4 (codes "--slaves") words) × (number_or 4 (codes "--slaves") words ≤ 64)
unfolding takes
run-slaves-between words h = number-between run_options (codes "--slaves") 1 64 4 (omega arith) (omega arith) (λ v e. grind (arith, e)) words h

pub run-slaves-given : (words : List (List ℕ)) → are_options run_options words ≡ true → IsNumberIfGiven (codes "--slaves") words
unfolding takes
run-slaves-given words h = number-given run_options (codes "--slaves") 1 64 (lit< tt) (λ v e. grind (arith, e)) words h

-- `--slaves` of `replay` is a number from 1 to 64
pub slaves-between : (words : List (List ℕ)) → are_options replay_options words ≡ true → (1 ≤ number_or 4 (codes "--slaves") words) × (number_or 4 (codes "--slaves") words ≤ 64)
unfolding takes
slaves-between words h = number-between replay_options (codes "--slaves") 1 64 4 (omega arith) (omega arith) (λ v e. grind (arith, e)) words h

pub slaves-given : (words : List (List ℕ)) → are_options replay_options words ≡ true → IsNumberIfGiven (codes "--slaves") words
unfolding takes
slaves-given words h = number-given replay_options (codes "--slaves") 1 64 (lit< tt) (λ v e. grind (arith, e)) words h

-- `--budget` of `check` and of `profile` is a number from 1 to 10^12
pub check-budget-between : (words : List (List ℕ)) → are_options check_options words ≡ true → (1 ≤ number_or (10 ^ 9) (codes "--budget") words) × (number_or (10 ^ 9) (codes "--budget") words ≤ 10 ^ 12)
unfolding takes
check-budget-between words h = number-between check_options (codes "--budget") 1 (10 ^ 12) (10 ^ 9) (omega arith) (omega arith) (λ v e. grind (arith, e)) words h

pub check-budget-given : (words : List (List ℕ)) → are_options check_options words ≡ true → IsNumberIfGiven (codes "--budget") words
unfolding takes
check-budget-given words h = number-given check_options (codes "--budget") 1 (10 ^ 12) (lit< tt) (λ v e. grind (arith, e)) words h

pub profile-budget-between : (words : List (List ℕ)) → are_options profile_options words ≡ true → (1 ≤ number_or (10 ^ 9) (codes "--budget") words) × (number_or (10 ^ 9) (codes "--budget") words ≤ 10 ^ 12)
unfolding takes
profile-budget-between words h = number-between profile_options (codes "--budget") 1 (10 ^ 12) (10 ^ 9) (omega arith) (omega arith) (λ v e. grind (arith, e)) words h

pub profile-budget-given : (words : List (List ℕ)) → are_options profile_options words ≡ true → IsNumberIfGiven (codes "--budget") words
unfolding takes
profile-budget-given words h = number-given profile_options (codes "--budget") 1 (10 ^ 12) (lit< tt) (λ v e. grind (arith, e)) words h

-- `--calls` is 0 or 1
pub calls-given : (words : List (List ℕ)) → are_options profile_options words ≡ true → IsNumberIfGiven (codes "--calls") words
unfolding takes
calls-given words h = number-given profile_options (codes "--calls") 0 1 (lit< tt) (λ v e. grind (arith, e)) words h

-- `--rare` is a number from 0 to 100
pub rare-between : (words : List (List ℕ)) → are_options distill_options words ≡ true → (0 ≤ number_or 10 (codes "--rare") words) × (number_or 10 (codes "--rare") words ≤ 100)
unfolding takes
rare-between words h = number-between distill_options (codes "--rare") 0 100 10 (omega arith) (omega arith) (λ v e. grind (arith, e)) words h

pub rare-given : (words : List (List ℕ)) → are_options distill_options words ≡ true → IsNumberIfGiven (codes "--rare") words
unfolding takes
rare-given words h = number-given distill_options (codes "--rare") 0 100 (lit< tt) (λ v e. grind (arith, e)) words h

-- `--hot` is a number from 1 to 10^12
pub hot-between : (words : List (List ℕ)) → are_options distill_options words ≡ true → (1 ≤ number_or 2 (codes "--hot") words) × (number_or 2 (codes "--hot") words ≤ 10 ^ 12)
unfolding takes
hot-between words h = number-between distill_options (codes "--hot") 1 (10 ^ 12) 2 (omega arith) (omega arith) (λ v e. grind (arith, e)) words h

pub hot-given : (words : List (List ℕ)) → are_options distill_options words ≡ true → IsNumberIfGiven (codes "--hot") words
unfolding takes
hot-given words h = number-given distill_options (codes "--hot") 1 (10 ^ 12) (lit< tt) (λ v e. grind (arith, e)) words h

-- `--goal` is a number from 1 to 65536
pub goal-between : (words : List (List ℕ)) → are_options distill_options words ≡ true → (1 ≤ number_or 200 (codes "--goal") words) × (number_or 200 (codes "--goal") words ≤ 65536)
unfolding takes
goal-between words h = number-between distill_options (codes "--goal") 1 65536 200 (omega arith) (omega arith) (λ v e. grind (arith, e)) words h

pub goal-given : (words : List (List ℕ)) → are_options distill_options words ≡ true → IsNumberIfGiven (codes "--goal") words
unfolding takes
goal-given words h = number-given distill_options (codes "--goal") 1 65536 (lit< tt) (λ v e. grind (arith, e)) words h

-- `--limit` is a number from 16 to 16384
pub limit-between : (words : List (List ℕ)) → are_options distill_options words ≡ true → (16 ≤ number_or 4096 (codes "--limit") words) × (number_or 4096 (codes "--limit") words ≤ 16384)
unfolding takes
limit-between words h = number-between distill_options (codes "--limit") 16 16384 4096 (omega arith) (omega arith) (λ v e. grind (arith, e)) words h

pub limit-given : (words : List (List ℕ)) → are_options distill_options words ≡ true → IsNumberIfGiven (codes "--limit") words
unfolding takes
limit-given words h = number-given distill_options (codes "--limit") 16 16384 (lit< tt) (λ v e. grind (arith, e)) words h
