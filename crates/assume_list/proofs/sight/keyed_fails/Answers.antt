-- What is found under the key is the one that is listed there.
use Rattle.std.proofs.Common.{◌≡◌, sym, ap, ◌∙◌, Option, Some, None}
use Rattle.dist_image.specs.Image.{Premise, premise, keyed}
use Rattle.dist_image.proofs.KeySearch.{listed_is_keyed, keyed_is_premise}
use Rattle.assumption_laws.specs.Looks.{fails_by}
use Rattle.assume_list.specs.Sights.{seen}
use Rattle.assume_list.proofs.sight.keyed_fails.Goals as goal

same_one : (x y : Premise) → ◌≡◌ {A = Option Premise} (Some x) (Some y) → x ≡ y
same_one x y e = cc

none_is_some : (y : Premise) → ◌≡◌ {A = Option Premise} None (Some y) → ⊥
none_is_some y e = cc

pub returns-in-Some : goal.returns-in-Some
returns-in-Some c = λ k x at is.
    let ps = c.args.image.now.assumptions in
    let listed = ap (λ n. keyed n ps) (sym is) ∙ listed_is_keyed ps c.requires.assumptions_rise k x at in
    c.fails.ensures ∙ ap (λ p. fails_by (seen c.args.sight.now c.args.marks.now) p) (same_one (premise c.in-Some.x.now) x (c.in-Some.ensures ∙ listed))

pub returns-in-None : goal.returns-in-None
returns-in-None c = λ k x at is.
    let ps = c.args.image.now.assumptions in
    absurd (none_is_some x (c.in-None.ensures ∙ ap (λ n. keyed n ps) (sym is) ∙ listed_is_keyed ps c.requires.assumptions_rise k x at))

pub fails-requires : goal.fails-requires
fails-requires c = keyed_is_premise c.args.key c.args.image.now.assumptions c.requires.assumptions (premise c.in-Some.x.now) (sym c.in-Some.ensures)
