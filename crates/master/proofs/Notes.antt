-- The note that lies at a place is the one of its address, since the addresses of notes rise.
use Rattle.std.proofs.Common.{◌≡◌, ℕ, ◌<◌, List, length, get_or, Some, sym, ap, ◌∙◌, arith}
use Rattle.std.specs.Ordering.{nat_cmp}
use Rattle.std.proofs.lemmas.Bool.Decides.{nat_tests}
use Rattle.std.proofs.lemmas.List.{get_or_default}
use Rattle.dist_image.specs.declared.image.Note.{Note}
use Rattle.dist_image.specs.Image.{Distilled, IsImage, slot_of}
use Rattle.dist_image.proofs.Search.{slot_found, no_note}
use Rattle.std.specs.declared.cmp.Ordering.TheVariants.{Equal}

equal : (n : ℕ) → nat_cmp n n ≡ Equal
equal n = grind (arith, nat_tests)

pub slot_there : (image : Distilled) (notes : List Note) (i pc : ℕ) (note : Note) → IsImage image → notes ≡ image.notes → i < length notes → note ≡ get_or notes i note → note.pc ≡ pc → slot_of image pc ≡ Some note.slot
slot_there image notes i pc note is same within at found =
    let here : (d : Note) → get_or notes i d ≡ note = λ d. get_or_default notes i d note within ∙ sym at in
    sym (slot_found image pc notes is same i within
    (λ d. ap (λ (n : Note). nat_cmp n.pc pc) (here d) ∙ ap (λ k. nat_cmp k pc) found ∙ equal pc))
    ∙ ap (λ (n : Note). Some n.slot) (here no_note)
