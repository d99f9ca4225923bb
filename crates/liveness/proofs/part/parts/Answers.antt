-- One more part is fit too.
use Rattle.std.proofs.Common.{◌≡◌, [], ◌∷◌, ◌++◌, ◌<◌, ◌+◌, length, get_or, List, is_some, map, sym, ap, ◌∙◌, subst}
use Rattle.std.specs.Prelude.{take, nat_eq}
use Rattle.std.specs.Map.{lookup}
use Rattle.fitting.specs.Claims.{among}
use Rattle.std.proofs.lemmas.List.{map_push, take_more}
use Rattle.distill_rules.specs.Flow.{Site, Graph}
use Rattle.distill_rules.specs.Points.{point_by, point}
use Rattle.distill_rules.specs.Rounds.{Point}
use Rattle.distill_rules.specs.Solution.{AreFit}
use Rattle.liveness.proofs.Fit.{fit_more}
use Rattle.liveness.proofs.part.parts.Goals as goal

pub loop-spot-preserved : goal.loop-spot-preserved
loop-spot-preserved c =
    let s : Site = c.spot-item.result in
    let spots = c.args.g.now.spots in
    let i = c.loop-spot.spot-index in
    let cuts = c.args.c.now in
    let anchors = c.args.anchors.now in
    let f : Site → Point = point cuts anchors in
    let one = c.in_ok-part_of.ensures.part
    ∙ (λ i. point_by (λ pc. c.is_write.ensures i) (c.side.ensures i) (c.is_dead.ensures i) ((c.is_some.ensures ∙ ap is_some c.value.ensures) i) (c.is_among.ensures i) s)
    ∙ ap
    (λ (t : Site). point_by (λ pc. among cuts.writes t.pc) (lookup (nat_eq t.pc) cuts.cut) (among cuts.dead t.pc) (is_some (lookup (nat_eq t.pc) cuts.same)) (among anchors t.pc) s)
    c.spot.view_is in
    let same : c.deref-spot-items.result.now ≡ spots = c.deref-spot-items.ensures.value ∙ ap (λ (g : Graph). g.spots) c.g.view_is in
    let inside = subst (λ (xs : List Site). i < length xs) same c.loop-spot-test.true in
    let item : get_or spots i s ≡ s = sym (c.spot-item.is ∙ ap (λ xs. get_or xs i s) same) in
    let more : take (i + 1) spots ≡ take i spots ++ s ∷ [] = take_more spots i s inside ∙ ap (λ x. take i spots ++ x ∷ []) item in
    record {
      parts = c.in_ok-push.ensures.items ∙ (λ j. c.loop-spot.invariant.parts j ++ one j ∷ []) ∙ sym (ap (map f) more ∙ map_push f (take i spots) s);
      fit = subst AreFit (sym c.in_ok-push.ensures.items) (fit_more c.loop-spot.parts.items _ c.loop-spot.invariant.fit c.in_ok-part_of.ensures.fit);
    }
