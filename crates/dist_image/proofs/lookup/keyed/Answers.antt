-- The search is by the keys, which rise.
use Rattle.std.proofs.Common.{rules, map, ap, ◌∙◌, Some}
use Rattle.std.proofs.lemmas.List.Sorted.{answers_always}
use Rattle.dist_image.specs.declared.image.Assumption.{Assumption}
use Rattle.dist_image.specs.Image.{Distilled, premise, key_of}
use Rattle.dist_image.proofs.KeySearch.{key_found, key_absent}
use Rattle.dist_image.proofs.lookup.keyed.Goals as goal

pub returns-in-Ok : goal.returns-in-Ok
returns-in-Ok c =
    let same = ap (map premise) c.as_slice-all.ensures.value ∙ ap (λ (i : Distilled). i.assumptions) c.i.view_is in
    ap (λ x. Some (premise x)) c.index-all-place.is
    ∙ key_found c.args.key c.as_slice-all.result.now c.args.i.now.assumptions same c.requires.assumptions_rise c.in-Ok.place c.index-all-place.result c.in-Ok.ensures.bound
    (c.in-Ok.ensures.position (λ (a : Assumption). key_of (premise a)) (answers_always _ _ _ (λ f a r g called. search rules)))

pub returns-in-Err : goal.returns-in-Err
returns-in-Err c =
    let same = ap (map premise) c.as_slice-all.ensures.value ∙ ap (λ (i : Distilled). i.assumptions) c.i.view_is in
    key_absent c.args.key c.as_slice-all.result.now c.args.i.now.assumptions same c.requires.assumptions_rise c.in-Err.field-0 c.in-Err.ensures.bound
    (c.in-Err.ensures.position (λ (a : Assumption). key_of (premise a)) (answers_always _ _ _ (λ f a r g called. search rules)))
