-- Each part is that of the definition, and their lengths agree.
use Rattle.std.proofs.Common.{◌≡◌, ap, sym, subst, ◌∙◌, arith, length}
use Rattle.distill_rules.specs.Flow.{Graph, graph}
use Rattle.distill_rules.specs.Cuts.{Cuts}
use Rattle.distill_rules.specs.Points.{points}
use Rattle.distill_rules.specs.Rounds.{solved}
use Rattle.cuts.specs.Words.{word_in}
use Rattle.layout_rules.specs.Places.{Places, places}
use Rattle.layout_rules.specs.Images.{laid_out, distilled, cuts_of, graph_of, places_of, masks_of}
use Rattle.dist_image.specs.Image.{Distilled, IsImage}
use Rattle.seq_machine.specs.Parts.{start_of}
use Rattle.fitting.specs.Fits.{Fits}
use Rattle.fitting.specs.Fails.{IsLoaded}
use Rattle.distill_exact.specs.Images.{ListHolds}
use Rattle.distiller.specs.Given.{loads}
use Rattle.distiller.proofs.Loads.{are_loads, all_loads}
use Rattle.distill_fits.proofs.Laws.{distilled_fits}
use Rattle.distill_valid.proofs.Laws.{distilled_is_image}
use Rattle.distill_exact.proofs.Images.{exactly}
use Rattle.distiller.proofs.Lengths.{few_spots, as_many_masks}
use Rattle.distiller.proofs.distill_same.Goals as goal
use Rattle.distiller.proofs.distill_same.Goals.{After-drop-c-inside-5}

pub prove-unreachable-requires : goal.prove-unreachable-requires
prove-unreachable-requires c =
    let few = few_spots (word_in c.args.p.now) c.args.f.now.rows c.in_ok-c.c c.in_ok-g.g c.in_ok-g.ensures.graph in
    let long : length c.g.inside.spots.items ≡ length c.in_ok-g.g.spots = ap (λ (g : Graph). length g.spots) c.g.view_is in
    omega (arith, few, long, c.g.inside.spots.ok.0, c.len.ensures, c.len-rows.ensures.len)

pub lay_out-requires-clause-masks : goal.lay_out-requires-clause-masks
lay_out-requires-clause-masks c = ap length (c.deref-2.ensures.value ∙ c.in_ok-m.ensures.solved) ∙ as_many_masks c.in_ok-c.c c.deref.result.now c.in_ok-g.g

-- the image is the distilled one
is_distilled : (c : After-drop-c-inside-5)
    → c.in_ok-lay_out.field-0 ≡ distilled (word_in c.args.p.now) c.args.p.now.entry c.args.f.now (loads (word_in c.args.p.now) c.args.f.now.rows c.args.same.now) c.args.o.now
unfolding distilled
is_distilled c =
    let word = word_in c.args.p.now in
    let entry = c.args.p.now.entry in
    let f = c.args.f.now in
    let o = c.args.o.now in
    let same = loads word f.rows c.args.same.now in
    let cut : c.in_ok-c.c ≡ cuts_of word entry f same o = c.in_ok-c.ensures.cuts in
    let sites : c.in_ok-g.g ≡ graph_of word entry f same o = c.in_ok-g.ensures.graph ∙ ap (graph word f.rows) cut in
    let begun : c.in_ok-a.a ≡ places_of word entry f same o = c.in_ok-a.ensures.places ∙ ap (λ (c : Cuts). places word entry f c o.hot o.goal) cut in
    let pcs = c.deref.ensures.value ∙ ap (λ (a : Places). a.pcs) (c.a.view_is ∙ begun) in
    let masks : c.deref-2.result.now ≡ masks_of word entry f same o = c.deref-2.ensures.value ∙ c.in_ok-m.ensures.solved ∙ (λ i. solved (points (cut i) (pcs i) (sites i))) in
    c.in_ok-lay_out.ensures {u = tt} ∙ (λ i. laid_out (sites i) (masks i) (cut i) f.rows (begun i) o.limit)

pub returns-clause-exact : goal.returns-clause-exact
returns-clause-exact c = is_distilled c

pub returns-clause-image : goal.returns-clause-image
returns-clause-image c =
    let word = word_in c.args.p.now in
    let f = c.args.f.now in
    let same = c.args.same.now in
    let limit = c.requires.range.limit in
    subst IsImage (sym (is_distilled c))
    (distilled_is_image word c.args.p.now.entry f (loads word f.rows same) c.args.o.now c.has_words.ensures c.len-rows.ensures.valid
    (are_loads word f.rows same c.requires.given.words) limit.0 limit.1)

pub returns-clause-fits : goal.returns-clause-fits
returns-clause-fits c =
    let word = word_in c.args.p.now in
    let f = c.args.f.now in
    let same = c.args.same.now in
    subst (Fits word) (sym (is_distilled c))
    (distilled_fits word c.args.p.now.entry f (loads word f.rows same) c.args.o.now c.has_words.ensures c.len-rows.ensures.valid
    (are_loads word f.rows same c.requires.given.words))

pub returns-clause-holds : goal.returns-clause-holds
returns-clause-holds c calls input n is given rare =
    let word = word_in c.args.p.now in
    let f = c.args.f.now in
    let same = c.args.same.now in
    let start = start_of c.args.p.now input in
    subst (λ (image : Distilled). ListHolds start image f.rows n) (sym (is_distilled c))
    (exactly calls start n c.args.p.now.entry f (loads word f.rows same) c.args.o.now c.has_words.ensures is
    (all_loads word f.rows (IsLoaded start n) same given) rare)
