-- The notes, the assumptions and the writes, one after the other.
use Rattle.std.proofs.Common.{◌≡◌, ◌++◌, List, ℕ, refl, ap, ◌∙◌, rules, map}
use Rattle.std.specs.List.{flat_map}
use Rattle.dist_image.specs.declared.image.Note.{Note}
use Rattle.dist_image.specs.declared.image.Assumption.{Assumption}
use Rattle.dist_image.specs.Image.{Distilled, premise}
use Rattle.report.specs.Show.{note_line, premise_line, write_line, lines_from}
use Rattle.report.proofs.Texts.{stopped, behind, same_text, lines_from-unnumbered, flat_map-map}
use Rattle.report.proofs.show.put_facts.Goals as goal

abbrev notes : Distilled → List ℕ
notes i = flat_map note_line i.notes

abbrev assumptions : Distilled → List ℕ
assumptions i = flat_map premise_line i.assumptions

abbrev writes : Distilled → List ℕ
writes i = flat_map write_line i.writes

notes_are : (i : Distilled) {view : Distilled} {xs : List Note} → view ≡ i → xs ≡ view.notes → lines_from (λ _ n. note_line n) 0 xs ≡ notes i
notes_are i {xs = xs} v e = lines_from-unnumbered note_line 0 xs ∙ ap (flat_map note_line) (e ∙ ap (λ (d : Distilled). d.notes) v)

assumptions_are : (i : Distilled) {view : Distilled} {xs all : List Assumption} → view ≡ i → xs ≡ all → map premise all ≡ view.assumptions
    → lines_from (λ _ a. premise_line (premise a)) 0 xs ≡ assumptions i
assumptions_are i {xs = xs} v e a =
    lines_from-unnumbered (λ x. premise_line (premise x)) 0 xs ∙ flat_map-map premise_line premise xs
    ∙ ap (flat_map premise_line) (ap (map premise) e ∙ a ∙ ap (λ (d : Distilled). d.assumptions) v)

writes_are : (i : Distilled) {view : Distilled} {xs : List ℕ} → view ≡ i → xs ≡ view.writes → lines_from (λ _ pc. write_line pc) 0 xs ≡ writes i
writes_are i {xs = xs} v e = lines_from-unnumbered write_line 0 xs ∙ ap (flat_map write_line) (e ∙ ap (λ (d : Distilled). d.writes) v)

pub returns-in_err-put_lines : goal.returns-in_err-put_lines
returns-in_err-put_lines g c =
    let i = c.args.i.now in
    stopped (notes i) (assumptions i ++ writes i) c.from_residual.result c.in_err-put_lines.field-0.0 c.put_lines.ensures c.in_err-put_lines.was (search rules) (notes_are i c.i.view_is c.deref.ensures.value)

pub returns-in_err-put_lines-2 : goal.returns-in_err-put_lines-2
returns-in_err-put_lines-2 g c =
    let i = c.args.i.now in
    let q = c.from_residual-in_err-put_lines-2.result in
    behind (notes i) (assumptions i ++ writes i) q c.in_ok-put_lines.field-0 c.put_lines.ensures c.in_ok-put_lines.was (notes_are i c.i.view_is c.deref.ensures.value)
    (stopped (assumptions i) (writes i) q c.in_err-put_lines-2.field-0.0 c.put_lines-2.ensures c.in_err-put_lines-2.was (search rules) (assumptions_are i c.i.view_is c.deref-2.ensures.value refl))

pub returns : goal.returns
returns g c =
    let i = c.args.i.now in
    let q = c.put_lines-3.result in
    behind (notes i) (assumptions i ++ writes i) q c.in_ok-put_lines.field-0 c.put_lines.ensures c.in_ok-put_lines.was (notes_are i c.i.view_is c.deref.ensures.value)
    (behind (assumptions i) (writes i) q c.in_ok-put_lines-2.field-0 c.put_lines-2.ensures c.in_ok-put_lines-2.was (assumptions_are i c.i.view_is c.deref-2.ensures.value refl)
    (same_text (writes i) c.put_lines-3.ensures (writes_are i c.i.view_is c.deref-3.ensures.value)))
