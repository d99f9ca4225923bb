-- The head, the slots and the anchors, one after the other.
use Rattle.std.proofs.Common.{◌≡◌, ◌++◌, List, ℕ, ap, ◌∙◌, rules}
use Rattle.dist_image.specs.declared.image.Slot.{Slot}
use Rattle.dist_image.specs.declared.image.Anchor.{Anchor}
use Rattle.dist_image.specs.Image.{Distilled}
use Rattle.report.specs.Show.{head_text, slot_line, anchor_line, lines_from}
use Rattle.report.proofs.Texts.{stopped, behind, same_text}
use Rattle.report.proofs.show.put_places.Goals as goal

abbrev head : Distilled → List ℕ
head i = head_text i.version i.limit

abbrev slots : Distilled → List ℕ
slots i = lines_from slot_line 0 i.slots

abbrev anchors : Distilled → List ℕ
anchors i = lines_from anchor_line 0 i.anchors

slots_are : (i : Distilled) {view : Distilled} {xs : List Slot} → view ≡ i → xs ≡ view.slots → lines_from slot_line 0 xs ≡ slots i
slots_are i v e = ap (lines_from slot_line 0) (e ∙ ap (λ (d : Distilled). d.slots) v)

anchors_are : (i : Distilled) {view : Distilled} {xs : List Anchor} → view ≡ i → xs ≡ view.anchors → lines_from anchor_line 0 xs ≡ anchors i
anchors_are i v e = ap (lines_from anchor_line 0) (e ∙ ap (λ (d : Distilled). d.anchors) v)

pub returns-in_err-put_head : goal.returns-in_err-put_head
returns-in_err-put_head g c =
    let i = c.args.i.now in
    stopped (head i) (slots i ++ anchors i) c.from_residual.result c.in_err-put_head.field-0.0 c.put_head.ensures c.in_err-put_head.was (search rules) (search rules)

pub returns-in_err-put_lines : goal.returns-in_err-put_lines
returns-in_err-put_lines g c =
    let i = c.args.i.now in
    let q = c.from_residual-in_err-put_lines.result in
    behind (head i) (slots i ++ anchors i) q c.in_ok-put_head.field-0 c.put_head.ensures c.in_ok-put_head.was (search rules)
    (stopped (slots i) (anchors i) q c.in_err-put_lines.field-0.0 c.put_lines.ensures c.in_err-put_lines.was (search rules) (slots_are i c.i.view_is c.deref.ensures.value))

pub returns : goal.returns
returns g c =
    let i = c.args.i.now in
    let q = c.put_lines-2.result in
    behind (head i) (slots i ++ anchors i) q c.in_ok-put_head.field-0 c.put_head.ensures c.in_ok-put_head.was (search rules)
    (behind (slots i) (anchors i) q c.in_ok-put_lines.field-0 c.put_lines.ensures c.in_ok-put_lines.was (slots_are i c.i.view_is c.deref.ensures.value)
    (same_text (anchors i) c.put_lines-2.ensures (anchors_are i c.i.view_is c.deref-2.ensures.value)))
