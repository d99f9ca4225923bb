-- What a sink got, piece by piece, and as a part of all that it will get.
use Rattle.std.proofs.Common.{◌≡◌, ℕ, ◌+◌, ◌≤◌, List, [], ◌++◌, length, take, min, refl, sym, ap, subst, ◌∙◌, append_assoc, arith, Option, Some, None}
use Rattle.std.proofs.lemmas.List.{append-nil, take-append-le, take_min}
use Rattle.std.proofs.Math.Seq.{take-append_seam, take-append-add}
use Rattle.outside.specs.Answers.{Gains}

pub gains-none : (told : Option (List ℕ)) (bytes : List ℕ) → bytes ≡ [] → Gains told told bytes
gains-none None bytes e = refl
gains-none (Some had) bytes e = ap Some (sym (append-nil had) ∙ ap (λ b. had ++ b) (sym e))

pub gains-append : (told mid left : Option (List ℕ)) (xs ys : List ℕ) → Gains told mid xs → Gains mid left ys → Gains told left (xs ++ ys)
gains-append None mid left xs ys g h = subst (λ m. Gains m left ys) g h
gains-append (Some had) mid left xs ys g h = subst (λ m. Gains m left ys) g h ∙ ap Some (append_assoc had xs ys)

-- a front of a front
pub take_front : (n : ℕ) (xs ys : List ℕ) → take (min n (length xs)) (xs ++ ys) ≡ take n xs
take_front n xs ys = let short : min n (length xs) ≤ length xs = omega arith in take-append-le (min n (length xs)) xs ys short ∙ take_min n xs

-- what was put before is a part of all
pub part_before : (told left : Option (List ℕ)) (old rest all : List ℕ) → all ≡ old ++ rest → Gains told left old → (n : ℕ) × Gains told left (take n all)
part_before told left old rest all e g = (length old, subst (λ bs. Gains told left bs) (sym (take-append_seam old rest) ∙ ap (take (length old)) (sym e)) g)

-- a part of the first bytes is a part of all
pub part_first : (told left : Option (List ℕ)) (xs rest all : List ℕ) → all ≡ xs ++ rest → (n : ℕ) × Gains told left (take n xs) → (m : ℕ) × Gains told left (take m all)
part_first told left xs rest all e (n, g) =
    (min n (length xs), subst (λ bs. Gains told left bs) (sym (take_front n xs rest) ∙ ap (take (min n (length xs))) (sym e)) g)

-- and so is a part of the bytes behind those that were put
pub part_behind : (told mid left : Option (List ℕ)) (old more all : List ℕ) → all ≡ old ++ more → Gains told mid old → (n : ℕ) × Gains mid left (take n more)
    → (m : ℕ) × Gains told left (take m all)
part_behind told mid left old more all e g (n, h) =
    (length old + n, subst (λ bs. Gains told left bs) (sym (take-append-add old more n) ∙ ap (take (length old + n)) (sym e)) (gains-append told mid left old (take n more) g h))
