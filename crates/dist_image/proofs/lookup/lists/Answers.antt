-- Whether one is found.
use Rattle.std.proofs.Common.{◌≡◌, Option, Some, None, refl, ap, ◌∙◌}
use Rattle.std.specs.Prelude.{is_some}
use Rattle.std.specs.Option.{option_map}
use Rattle.dist_image.proofs.lookup.lists.Goals as goal

same_some : {A B : Type 0} (f : A → B) (o : Option A) → is_some o ≡ is_some (option_map f o)
same_some f None = refl
same_some f (Some x) = refl

pub returns : goal.returns
returns c = c.is_some.ensures ∙ same_some _ c.keyed.result ∙ same_some _ _ ∙ ap is_some c.keyed.ensures
