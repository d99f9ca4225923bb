-- The profile of the run of the files that were read.
use Rattle.std.proofs.Common.{◌≡◌, ℕ, ◌≤◌, arith, inl, inr, Bool, true, false, List, length, Option, refl, subst}
use Rattle.std.proofs.lemmas.Bool.Decides.{nat_tests}
use Rattle.outside.specs.Files.{Files}
use Rattle.cells.specs.Run.{State}
use Rattle.command_line.specs.Command.{WalkCommand}
use Rattle.elf_reader.specs.Executable.{Executable}
use Rattle.elf_reader.specs.Accepted.{program_of}
use Rattle.seq_machine.specs.Parts.{start_of}
use Rattle.profile_data.specs.Profile.{Tally, Profiled, target_count}
use Rattle.profile_data.specs.Bytes.{bytes_of}
use Rattle.profile_laws.specs.Profiles.{with_mark, steps, IsProfileOf, IsWide}
use Rattle.profile_laws.specs.Tally.{kept, profile_of}
use Rattle.profile_laws.proofs.Law.{tally_is_profile}
use Rattle.profile_laws.proofs.One.{profile_is_one}
use Rattle.answers.specs.declared.answer.Refusal.TheVariants.{Wide}
use Rattle.answers.specs.declared.answer.Answer.{Answer}
use Rattle.answers.specs.declared.answer.Answer.TheVariants.{Refused}
use Rattle.mssp_tool.specs.Files.{Saved}
use Rattle.mssp_tool.specs.Profile.{HasRun, ProfileCause, is_wide}
use Rattle.mssp_tool.proofs.Saves.{saved_within}

-- the test tells it
pub wide_tested : (rows : List Tally) → IsWide rows → is_wide rows ≡ true
wide_tested rows (inl h) = grind (arith, nat_tests)
wide_tested rows (inr h) = grind (arith, nat_tests)

pub narrow_tested : (rows : List Tally) → (IsWide rows → ⊥) → is_wide rows ≡ false
narrow_tested rows h =
    let few_rows : length rows ≤ 524288 = grind (arith, nat_tests, h) in
    let few_targets : target_count rows ≤ 1048576 = grind (arith, nat_tests, h) in
    grind (arith, nat_tests)

-- a run has one profile, whose rows are those of the tally
pub its_rows : (prints : ℕ → Bool) (start : State) (n : ℕ) (f : Profiled) → IsProfileOf prints start n f → f.rows ≡ (kept prints start n).rows
its_rows prints start n f h = λ k. (profile_is_one prints start n f (profile_of prints start n) h (tally_is_profile prints start n) k).rows

module _ (w : WalkCommand) (calls : Bool) (told : Option Files) (program : Executable) (i : List ℕ) (has : HasRun told w program i) where
  abbrev begin : State
  begin = start_of program i

  -- it is that of the files
  of_files : (f : Profiled) → IsProfileOf (with_mark calls) begin (steps begin w.budget) f → IsProfileOf (with_mark calls) (start_of (program_of has.0.0) i) (steps (start_of (program_of has.0.0) i) w.budget) f
  of_files f h = subst (λ (x : Executable). IsProfileOf (with_mark calls) (start_of x i) (steps (start_of x i) w.budget) f) has.0.2 h

  pub written_cause : (told' left : Option Files) (before mid now : ℕ) (last : Option (List ℕ)) (f : Profiled) (a : Answer) → told' ≡ told → before ≤ mid → IsProfileOf (with_mark calls) begin (steps begin w.budget) f → (IsWide f.rows → ⊥)
      → Saved (record { told = told'; before = mid; now = now; failed = last }) left w.other (bytes_of f) a → ProfileCause (record { told = told; before = before; now = now; failed = last }) left w calls a
  written_cause told' left before mid now last f a same l h narrow s =
      inr (has.0.0, i, f, has.0.1, has.1, of_files f h, inr (narrow, saved_within told told' left before mid now last w.other (bytes_of f) a same l s))

  pub wide_cause : (left : Option Files) (before now : ℕ) (last : Option (List ℕ)) → left ≡ told → ((f : Profiled) → IsProfileOf (with_mark calls) begin (steps begin w.budget) f → IsWide f.rows)
      → ProfileCause (record { told = told; before = before; now = now; failed = last }) left w calls (Refused Wide)
  wide_cause left before now last same h =
      let f = profile_of (with_mark calls) begin (steps begin w.budget) in
      let is = tally_is_profile (with_mark calls) begin (steps begin w.budget) in
      inr (has.0.0, i, f, has.0.1, has.1, of_files f is, inl (h f is, refl, same))
