-- The trial's own program, profile and image.
use Rattle.std.proofs.Common.{◌+◌, false, [], ap, ◌∙◌, subst}
use Rattle.elf_reader.specs.Executable.{Executable}
use Rattle.seq_machine.specs.Parts.{start_of}
use Rattle.profile_data.specs.Profile.{Profiled}
use Rattle.profile_laws.specs.Profiles.{with_mark, steps, IsProfileOf}
use Rattle.trial_report.specs.Trial.{budget, image_of}
use Rattle.trial_report.proofs.Lines.{tells_of}
use Rattle.trial_report.proofs.trial_text.Goals as goal

pub returns-clause-done : goal.returns-clause-done
returns-clause-done c =
    let f : Profiled = c.in_ok-profile.profile in
    let program = c.in_ok-made.ensures.program in
    let image = c.in_ok-image.ensures.exact ∙ ap (λ (p : Executable). image_of p f) program in (
      f,
      record {
        profile = subst (λ (p : Executable). IsProfileOf (with_mark false) (start_of p []) (steps (start_of p []) budget) f) program c.in_ok-profile.ensures.profile;
        narrow = c.in_ok-profile.ensures.narrow;
        some = c.in_ok-image.ensures.some;
        tells = tells_of (c.args.seed + 1) _ _ _ _ _ _ _ _ _ program c.in_ok-made.ensures.words c.steps-steps.ensures.steps image c.in_ok-tell.ensures;
      },
    )
