-- One line after the other.
use Rattle.std.proofs.Common.{◌≡◌, List, ℕ, [], ◌∷◌, ◌++◌, length, codes, decimal, ap, ◌∙◌, arith}
use Rattle.std.proofs.lemmas.Result.{on_ok_weaker}
use Rattle.dist_image.specs.Image.{Distilled}
use Rattle.report.specs.Text.{line}
use Rattle.report.specs.Verdict.{verdict_line}
use Rattle.trial_report.proofs.Lines.{seven}
use Rattle.trial_report.proofs.running.push_front.Goals as goal

pub returns : goal.returns
returns c =
    let image = c.args.image.now in
    let notes : c.len.result ≡ length image.notes = omega (arith, c.len.ensures, c.image.inside.notes.ok.0, ap (λ (i : Distilled). length i.notes) c.image.view_is) in
    let slots : c.len-2.result ≡ length image.slots = omega (arith, c.len-2.ensures, c.image.inside.slots.ok.0, ap (λ (i : Distilled). length i.slots) c.image.view_is) in
    let anchors : c.len-3.result ≡ length image.anchors = omega (arith, c.len-3.ensures, c.image.inside.anchors.ok.0, ap (λ (i : Distilled). length i.anchors) c.image.view_is) in
    let e1 = c.in_ok-push_line.ensures in
    let e2 = c.in_ok-push_line-2.ensures ∙ ap (λ (ws : List ℕ). ws ++ line (codes "steps") (decimal c.args.steps ∷ [])) e1 in
    let e3 = c.in_ok-push_line-3.ensures ∙ (λ i. e2 i ++ line (codes "analysed") (decimal (notes i) ∷ [])) in
    let e4 = c.in_ok-push_line-4.ensures ∙ (λ i. e3 i ++ line (codes "slots") (decimal (slots i) ∷ [])) in
    let e5 = c.in_ok-push_line-5.ensures ∙ (λ i. e4 i ++ line (codes "anchors") (decimal (anchors i) ∷ [])) in
    let e6 = c.in_ok-extend_from_slice.ensures.items ∙ ap (λ (ws : List ℕ). ws ++ codes "check ") e5 in
    let whole = seven c.args.out.now.items
    (line (codes "words") (decimal c.args.words ∷ []))
    (line (codes "steps") (decimal c.args.steps ∷ []))
    (line (codes "analysed") (decimal (length image.notes) ∷ []))
    (line (codes "slots") (decimal (length image.slots) ∷ []))
    (line (codes "anchors") (decimal (length image.anchors) ∷ []))
    (codes "check ")
    (verdict_line image c.args.verdict) in
    on_ok_weaker c.push_verdict.result (λ e. e ∙ ap (λ (ws : List ℕ). ws ++ verdict_line image c.args.verdict) e6 ∙ whole) c.push_verdict.ensures
