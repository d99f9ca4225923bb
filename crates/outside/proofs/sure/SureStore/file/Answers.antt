use Rattle.std.proofs.Common.{◌≡◌, ap, sym, ◌∙◌, Some, None}
use Rattle.std.specs.FinMap as finite
use Rattle.std.specs.List.{position}
use Rattle.outside.specs.Files.{is_named}
use Rattle.outside.proofs.Found.{get_at, get_nowhere}
use Rattle.outside.proofs.sure.SureStore.file.Goals as goal

pub returns-in-Some : goal.returns-in-Some
returns-in-Some c =
    let files = c.self.inside.files.items in
    let at : position (is_named c.args.name.now) files ≡ Some c.in-Some.place = cc in
    ap Some c.as_slice.ensures.value ∙ sym (get_at c.args.name.now files c.in-Some.place c.index.result.now at c.index.ensures) ∙ ap (λ m. finite.get m c.args.name.now) c.self.view_is

pub returns-in-None : goal.returns-in-None
returns-in-None c =
    let files = c.self.inside.files.items in
    let none : ◌≡◌ {A = _} (position (is_named c.args.name.now) files) None = cc in
    sym (get_nowhere c.args.name.now files none) ∙ ap (λ m. finite.get m c.args.name.now) c.self.view_is
