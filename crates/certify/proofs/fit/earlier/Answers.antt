-- By the order of the two.
use Rattle.std.proofs.Common.{◌≡◌, ℕ, Bool, ◌||◌, sym, subst, arith}
use Rattle.dist_image.specs.Image.{Distilled}
use Rattle.certify.specs.declared.fit.Fit.{Fit}
use Rattle.certify.specs.Parts.{IsAnswerOf}
use Rattle.certify.proofs.Earlier.{first_less, first_same, second_less, second_same}
use Rattle.certify.proofs.fit.earlier.Goals as goal

abbrev Leads : Fit → Fit → Fit → Type 0
Leads a b earlier = (word : ℕ → ℕ) (image : Distilled) (s t : ℕ → Bool) → IsAnswerOf word image s a → IsAnswerOf word image t b → IsAnswerOf word image (λ rule. s rule || t rule) earlier

first : (a x b y : Fit) → a ≡ x → b ≡ y → Leads x y x → Leads a b a
first a x b y e f h = subst (λ a. Leads a b a) (sym e) (subst (λ b. Leads x b x) (sym f) h)

second : (a x b y : Fit) → a ≡ x → b ≡ y → Leads x y y → Leads a b b
second a x b y e f h = subst (λ b. Leads a b b) (sym f) (subst (λ a. Leads a y y) (sym e) h)

pub returns-then-p-q : goal.returns-then-p-q
returns-then-p-q c = first c.args.a _ c.args.b _ c.in-No-No.is-0 c.in-No-No.is-1 (λ word image s t. first_less word image s t _ _ _ _ (omega arith))

pub returns-then-q-p : goal.returns-then-q-p
returns-then-q-p c = second c.args.a _ c.args.b _ c.in-No-No.is-0 c.in-No-No.is-1 (λ word image s t. second_less word image s t _ _ _ _ (omega arith))

pub returns-then-r-s : goal.returns-then-r-s
returns-then-r-s c = first c.args.a _ c.args.b _ c.in-No-No.is-0 c.in-No-No.is-1 (λ word image s t. first_same word image s t _ _ _ _ (omega arith) (omega arith))

pub returns-else-r-s : goal.returns-else-r-s
returns-else-r-s c = second c.args.a _ c.args.b _ c.in-No-No.is-0 c.in-No-No.is-1 (λ word image s t. second_same word image s t _ _ _ _ (omega arith) (omega arith))
