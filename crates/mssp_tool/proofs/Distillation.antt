-- The image of the program and the profile that were read.
use Rattle.std.proofs.Common.{◌≡◌, ◌≢◌, ℕ, ◌≤◌, inl, inr, [], List, Option, refl, subst}
use Rattle.outside.specs.Files.{Files}
use Rattle.command_line.specs.Command.{DistillCommand}
use Rattle.dist_image.specs.Bytes.{bytes_of}
use Rattle.elf_reader.specs.Executable.{Executable}
use Rattle.profile_data.specs.Profile.{Profiled}
use Rattle.distill_rules.specs.Analysed.{analysed}
use Rattle.answers.specs.declared.answer.Refusal.TheVariants.{Empty}
use Rattle.answers.specs.declared.answer.Answer.{Answer}
use Rattle.answers.specs.declared.answer.Answer.TheVariants.{Refused}
use Rattle.mssp_tool.specs.Files.{HasProgram, HasProfile, AreNamedValues, Saved}
use Rattle.mssp_tool.specs.Distill.{image_of, DistillCause}
use Rattle.mssp_tool.proofs.Saves.{saved_within}

module _ (d : DistillCommand) (told : Option Files) (program : Executable) (f : Profiled) (same : List (ℕ × ℕ)) (has : HasProgram told d.program program) (has_profile : HasProfile told d.profile f)
    (has_values : AreNamedValues told d.values same) where
  pub distilled_cause : (told' left : Option Files) (before mid now : ℕ) (last : Option (List ℕ)) (a : Answer) → told' ≡ told → before ≤ mid → analysed f.rows ≢ []
      → Saved (record { told = told'; before = mid; now = now; failed = last }) left d.output (bytes_of (image_of d program f same)) a → DistillCause (record { told = told; before = before; now = now; failed = last }) left d a
  distilled_cause told' left before mid now last a stays l some s =
      let here = saved_within told told' left before mid now last d.output (bytes_of (image_of d program f same)) a stays l s in
      inr (
        has.0,
        f,
        same,
        has.1,
        has_profile,
        has_values,
        inr (some, subst (λ (x : Executable). Saved (record { told = told; before = before; now = now; failed = last }) left d.output (bytes_of (image_of d x f same)) a) has.2 here),
      )

  pub empty_cause : (left : Option Files) (before now : ℕ) (last : Option (List ℕ)) → left ≡ told → analysed f.rows ≡ [] → DistillCause (record { told = told; before = before; now = now; failed = last }) left d (Refused Empty)
  empty_cause left before now last stays none = inr (has.0, f, same, has.1, has_profile, has_values, inl (none, refl, stays))
