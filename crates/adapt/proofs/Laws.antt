-- Every image that is made is valid.
use Rattle.std.proofs.Common.{◌≡◌, ℕ, ◌<◌, ◌≤◌, ◌^◌, ◌||◌, ◌==◌, min, Bool, true, false, cond, List, [], length, Some, None, refl, subst, arith}
use Rattle.std.specs.Prelude.{nat_le}
use Rattle.std.proofs.lemmas.Bool.{leb-false, or_parts, both_ways}
use Rattle.std.proofs.lemmas.Option.{same_Some}
use Rattle.std.proofs.lemmas.List.Elements.{All-nil}
use Rattle.elf_reader.specs.Executable.{Executable, IsProgram}
use Rattle.seq_machine.specs.Parts.{start_of}
use Rattle.dist_image.specs.Image.{Distilled}
use Rattle.profile_data.specs.Profile.{Profiled, IsProfile}
use Rattle.profile_laws.specs.Profiles.{with_mark}
use Rattle.profile_laws.specs.Tally.{profile_of}
use Rattle.profile_laws.proofs.Valid.{tally_is_valid}
use Rattle.profiler.specs.Widths.{is_wide}
use Rattle.distill_rules.specs.Analysed.{analysed}
use Rattle.layout_rules.specs.Images.{distilled, limit_of}
use Rattle.cuts.specs.Words.{word_in}
use Rattle.distill_fits.specs.Laws.{AreWords, IsLoadOf}
use Rattle.distill_fits.proofs.Laws.{distilled_fits}
use Rattle.distill_valid.proofs.Laws.{distilled_is_image}
use Rattle.adapt.specs.Made.{default_options, gives_none, made}
use Rattle.adapt.specs.Laws.{IsMade, AreMade}
use Rattle.adapt.proofs.Made.{wide_tested}
use Rattle.adapt.proofs.Aligned.{run_pc}

limit_small : (version : ℕ) → limit_of version 4_096 ≤ 4_096
limit_small version = limit_within (version == 1)
  where
    limit_within : (b : Bool) → cond b 4_096 (min 4_096 4_096) ≤ 4_096
    limit_within true = omega arith
    limit_within false = omega arith

pub distilled_small : (word : ℕ → ℕ) (entry : ℕ) (f : Profiled) → (distilled word entry f [] default_options).limit ≤ 4_096
unfolding distilled
distilled_small word entry f = limit_small _

module _ (program : Executable) (words : AreWords (word_in program)) where
  pub is_made : (f : Profiled) → IsProfile f → IsMade program (distilled (word_in program) program.entry f [] default_options)
  is_made f valid = record {
    valid = distilled_is_image (word_in program) program.entry f [] default_options words valid (All-nil (IsLoadOf (word_in program))) (omega arith) (omega arith);
    fits = distilled_fits (word_in program) program.entry f [] default_options words valid (All-nil (IsLoadOf (word_in program)));
    limit = distilled_small (word_in program) program.entry f;
  }

  module _ (is : IsProgram program) (small : program.entry < 2 ^ 32) (input : List ℕ) (n : ℕ) where
    abbrev f : Profiled
    f = profile_of (with_mark true) (start_of program input) n

    abbrev D : Distilled
    D = distilled (word_in program) program.entry f [] default_options

    f_valid : gives_none f ≡ false → IsProfile f
    f_valid none =
        let a = or_parts (is_wide f.rows || (length (analysed f.rows) == 0)) (nat_le (2 ^ 64) n) none in
        let b = or_parts (is_wide f.rows) (length (analysed f.rows) == 0) a.0 in
        tally_is_valid (with_mark true) (start_of program input) n (leb-false (2 ^ 64) n a.1)
        (λ i le. run_pc (start_of program input) (is.aligned, small) i)
        (λ wide. both_ways (is_wide f.rows) b.0 (wide_tested f.rows wide))

    by_test : (b : Bool) (image : Distilled) → gives_none f ≡ b → cond b None (Some D) ≡ Some image → IsMade program image
    by_test true image none is = absurd cc
    by_test false image none is = subst (IsMade program) (same_Some D image is) (is_made f (f_valid none))

    one_made : (image : Distilled) → made program (start_of program input) n ≡ Some image → IsMade program image
    unfolding made
    one_made image e = by_test (gives_none f) image refl e

  pub are_made : IsProgram program → program.entry < 2 ^ 32 → AreMade program
  are_made is small input n image e = one_made is small input n image e
