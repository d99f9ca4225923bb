-- Lines, one after the other.
use Rattle.std.proofs.Common.{◌≡◌, ℕ, ◌-◌, ◌*◌, ◌/◌, List, ◌++◌, length, ◌∙◌, subst, append_assoc, arith}
use Rattle.elf_reader.specs.Executable.{Executable}
use Rattle.dist_image.specs.Image.{Distilled}
use Rattle.trial_report.specs.Trial.{Tells}
use Rattle.trial.specs.File.{front, loads, file_of}
use Rattle.trial.proofs.Sizes.{length-bytes}

pub seven : (o a b c d e f v : List ℕ) → (((((((o ++ a) ++ b) ++ c) ++ d) ++ e) ++ f) ++ v) ≡ o ++ (a ++ (b ++ (c ++ (d ++ (e ++ (f ++ v))))))
seven o a b c d e f v =
    append_assoc (((((o ++ a) ++ b) ++ c) ++ d) ++ e) f v
    ∙ append_assoc ((((o ++ a) ++ b) ++ c) ++ d) e (f ++ v)
    ∙ append_assoc (((o ++ a) ++ b) ++ c) d (e ++ (f ++ v))
    ∙ append_assoc ((o ++ a) ++ b) c (d ++ (e ++ (f ++ v)))
    ∙ append_assoc (o ++ a) b (c ++ (d ++ (e ++ (f ++ v))))
    ∙ append_assoc o a (b ++ (c ++ (d ++ (e ++ (f ++ v)))))

-- behind the headers a file has four bytes for each word
pub words_counted : (ws : List ℕ) (n : ℕ) → n ≡ length (file_of ws) → (n - 84) / 4 ≡ length ws
words_counted ws n e = omega (arith, e, length-bytes ((front ++ loads (4 * length ws)) ++ ws))

-- the same, said of equal things
pub tells_of : (number : ℕ) (p q : Executable) (m n s t : ℕ) (i j : Distilled) (text : List ℕ) → p ≡ q → m ≡ n → s ≡ t → i ≡ j → Tells number p m s i text → Tells number q n t j text
tells_of number p q m n s t i j text a b c d h =
    subst (λ (x : Distilled). Tells number q n t x text) d (subst (λ x. Tells number q n x i text) c (subst (λ x. Tells number q x s i text) b (subst (λ (x : Executable). Tells number x m s i text) a h)))
