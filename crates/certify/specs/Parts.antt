-- What an answer says that looks at some of the rules alone, or at one note alone.
use Rattle.std.specs.Prelude.{◌≡◌, ℕ, ◌<◌, Bool, true, nat_eq, nat_le, ◌||◌, Option, Some, None}
use Rattle.dist_image.specs.declared.image.Note.{Note}
use Rattle.dist_image.specs.Image.{Distilled}
use Rattle.certify.specs.declared.fit.Fit.{Fit}
use Rattle.certify.specs.declared.fit.Fit.TheVariants.{Yes, No}
use Rattle.certify.specs.Answers.{Keeps, NoteKeeps}

-- the rule on what is listed, that on anchors, and those on notes
abbrev pub on_list : ℕ → Bool
on_list rule = nat_eq rule 1

-- whether a rule speaks of an anchor
abbrev pub on_anchors : ℕ → Bool
on_anchors rule = nat_eq rule 2

-- whether a rule speaks of a note
abbrev pub on_notes : ℕ → Bool
on_notes rule = nat_le 3 rule

module _ (word : ℕ → ℕ) (image : Distilled) where
  -- a rule is broken at a pc, and of those that pass none of a lesser number there, and none at a lesser pc
  pub record IsFirstOf (asked : ℕ → Bool) (pc rule : ℕ) : Type 0 where
    pub broken : Keeps word image rule pc → ⊥
    pub least : (r : ℕ) → r < rule → asked r ≡ true → Keeps word image r pc
    pub before : (q r : ℕ) → q < pc → asked r ≡ true → Keeps word image r q

  abbrev pub IsAnswerOf : (ℕ → Bool) → Fit → Type 0
  IsAnswerOf asked Yes = (rule pc : ℕ) → asked rule ≡ true → Keeps word image rule pc
  IsAnswerOf asked (No pc rule) = IsFirstOf asked pc rule

  -- the least rule that a note breaks, if it breaks one
  abbrev pub IsLeast : Note → Option ℕ → Type 0
  IsLeast x None = (rule : ℕ) → NoteKeeps word image rule x
  IsLeast x (Some rule) = (NoteKeeps word image rule x → ⊥) × ((r : ℕ) → r < rule → NoteKeeps word image r x)

-- where two answers look at some of the rules each, a third one is what both of them say together
abbrev pub IsAnswerOfBoth : Fit → Fit → Fit → Type 0
IsAnswerOfBoth a b both =
    (word : ℕ → ℕ) (image : Distilled) (s t : ℕ → Bool) → IsAnswerOf word image s a → IsAnswerOf word image t b
    → IsAnswerOf word image (λ rule. s rule || t rule) both
