-- By its words and its entry.
use Rattle.std.proofs.Common.{◌<◌, ◌^◌, subst, rules}
use Rattle.elf_reader.specs.Executable.{Executable}
use Rattle.adapt.proofs.Laws.{are_made}
use Rattle.adapt.proofs.images.made_is_image.Goals as goal

pub returns : goal.returns
returns c =
    let small : c.p.inside.entry < 2 ^ 32 = search rules in
    are_made c.args.p.now c.has_words.ensures c.requires (subst (λ (p : Executable). p.entry < 2 ^ 32) c.p.view_is small)
