-- What a command comes to, from what its reads answered.
use Rattle.std.proofs.Common.{◌≡◌, ℕ, ◌≤◌, inl, inr, List, Option, Err, subst, arith}
use Rattle.outside.specs.Answers.{Rose, Lacks, HasLonger}
use Rattle.outside.specs.Files.{Files}
use Rattle.dist_image.specs.Image.{Distilled}
use Rattle.dist_image.specs.declared.error.ImageErr.{ImageErr}
use Rattle.dist_image.specs.Reading.{image_from}
use Rattle.load_values.specs.declared.error.ValuesErr.{ValuesErr}
use Rattle.load_values.specs.Reading.{values_from}
use Rattle.answers.specs.declared.answer.Refusal.TheVariants as refused
use Rattle.answers.specs.declared.answer.Source.{Source}
use Rattle.answers.specs.declared.answer.Refusal.{Refusal}
use Rattle.answers.specs.declared.answer.Answer.{Answer}
use Rattle.answers.specs.declared.answer.Answer.TheVariants.{Usage, Absent, StoreFault, SinkFault, Memory, TooLong, Refused, Done, Ran, Budget, Broken}
use Rattle.mssp_tool.specs.Files.{NotRead, NotAccepted, IsReadFrom, IsNamedImage, NoNamedImage, AreNamedValues, NoNamedValues, NoInput, IsInput, image_limit, values_limit, input_limit}
use Rattle.answers.specs.declared.answer.Source.TheVariants as source

-- a count that rose in a part of a call rose in the call
rose_within : (before mid now : ℕ) → before ≤ mid → Rose mid now → Rose before now
rose_within before mid now l r = omega (arith, l, r)

-- what a later read of the call answered
pub not_read_within : (told told' : Option Files) (before mid now : ℕ) (last : Option (List ℕ)) (name : List ℕ) (limit : ℕ) (s : Source) (a : Answer) → told' ≡ told → before ≤ mid
    → NotRead (record { told = told'; before = mid; now = now; failed = last }) name limit s a → NotRead (record { told = told; before = before; now = now; failed = last }) name limit s a
not_read_within told told' before mid now last name limit s (Absent t) e l (same, inl x) = (same, inl (subst (λ d. Lacks d name) e x))
not_read_within told told' before mid now last name limit s (Absent t) e l (same, inr x) = (same, inr (rose_within before mid now l x.0, x.1))
not_read_within told told' before mid now last name limit s (TooLong t) e l (same, inl x) = (same, inl (subst (λ d. HasLonger d name limit) e x))
not_read_within told told' before mid now last name limit s (TooLong t) e l (same, inr x) = (same, inr (rose_within before mid now l x.0, x.1))
not_read_within told told' before mid now last name limit s (StoreFault t) e l (same, x) = (same, (rose_within before mid now l x.0, x.1))
not_read_within told told' before mid now last name limit s Memory e l x = tt
not_read_within told told' before mid now last name limit s Usage e l x = absurd x
not_read_within told told' before mid now last name limit s Broken e l x = absurd x
not_read_within told told' before mid now last name limit s SinkFault e l x = absurd x
not_read_within told told' before mid now last name limit s (Refused r) e l x = absurd x
not_read_within told told' before mid now last name limit s Done e l x = absurd x
not_read_within told told' before mid now last name limit s (Ran pc end) e l x = absurd x
not_read_within told told' before mid now last name limit s Budget e l x = absurd x

pub no_input_within : (told told' : Option Files) (before mid now : ℕ) (last : Option (List ℕ)) (named : Option (List ℕ)) (a : Answer) → told' ≡ told → before ≤ mid
    → NoInput (record { told = told'; before = mid; now = now; failed = last }) named a → NoInput (record { told = told; before = before; now = now; failed = last }) named a
no_input_within told told' before mid now last named a e l (name, is, h) = (name, is, not_read_within told told' before mid now last name input_limit source.Input a e l h)

pub is_input : (told told' : Option Files) (name : Option (List ℕ)) (i : List ℕ) → told' ≡ told → IsInput told' name i → IsInput told name i
is_input told told' name i e h = subst (λ d. IsInput d name i) e h

pub is_named_image : (told told' : Option Files) (name : Option (List ℕ)) (i : Distilled) → told' ≡ told → IsNamedImage told' name i → IsNamedImage told name i
is_named_image told told' name i e h = subst (λ d. IsNamedImage d name i) e h

pub not_accepted_within : {E : Type 0} (told told' : Option Files) (before mid now : ℕ) (last : Option (List ℕ)) (name : List ℕ) (limit : ℕ) (s : Source) (IsRefused : List ℕ → E → Type 0) (refuse : E → Refusal) (a : Answer)
    → told' ≡ told → before ≤ mid
    → NotAccepted (record { told = told'; before = mid; now = now; failed = last }) name limit s IsRefused refuse a → NotAccepted (record { told = told; before = before; now = now; failed = last }) name limit s IsRefused refuse a
not_accepted_within told told' before mid now last name limit s IsRefused refuse a e l (inl h) = inl (not_read_within told told' before mid now last name limit s a e l h)
not_accepted_within told told' before mid now last name limit s IsRefused refuse a e l (inr (bytes, why, h, refused, is)) =
    inr (bytes, why, subst (λ d. IsReadFrom d name limit bytes) e h, refused, is)

pub no_named_image_within : (told told' : Option Files) (before mid now : ℕ) (last : Option (List ℕ)) (named : Option (List ℕ)) (a : Answer) → told' ≡ told → before ≤ mid
    → NoNamedImage (record { told = told'; before = mid; now = now; failed = last }) named a → NoNamedImage (record { told = told; before = before; now = now; failed = last }) named a
no_named_image_within told told' before mid now last named a e l (name, is, h) =
    (name, is, not_accepted_within told told' before mid now last name image_limit source.Image (λ bytes (x : ImageErr). image_from bytes ≡ Err x) refused.Image a e l h)

pub no_named_values_within : (told told' : Option Files) (before mid now : ℕ) (last : Option (List ℕ)) (named : Option (List ℕ)) (a : Answer) → told' ≡ told → before ≤ mid
    → NoNamedValues (record { told = told'; before = mid; now = now; failed = last }) named a → NoNamedValues (record { told = told; before = before; now = now; failed = last }) named a
no_named_values_within told told' before mid now last named a e l (name, is, h) =
    (name, is, not_accepted_within told told' before mid now last name values_limit source.Values (λ bytes (x : ValuesErr). values_from bytes ≡ Err x) refused.Values a e l h)

pub are_named_values : (told told' : Option Files) (name : Option (List ℕ)) (rows : List (ℕ × ℕ)) → told' ≡ told → AreNamedValues told' name rows → AreNamedValues told name rows
are_named_values told told' name rows e h = subst (λ d. AreNamedValues d name rows) e h
