-- What a search for a note finds.
use Rattle.std.proofs.Common.{◌≡◌, ℕ, ◌<◌, ◌≤◌, ◌==◌, List, length, get_or, map, Ok, Err, Some, None, sym, ap, subst, ◌∙◌}
use Rattle.std.specs.List.{find}
use Rattle.std.specs.List.Sorted.{IsStrictlyIncreasing, IsBinarySearchResult}
use Rattle.std.specs.Ordering.{nat_cmp}
use Rattle.dist_image.specs.declared.image.Note.{Note}
use Rattle.dist_image.specs.Image.{Distilled, IsImage, note_at}
use Rattle.dist_image.proofs.Search.{found, none_found, no_note}

module _ (image : Distilled) (pc : ℕ) (notes : List Note) (is_image : IsImage image) (same : notes ≡ image.notes) where
  notes_rise : IsStrictlyIncreasing (map (λ (n : Note). n.pc) notes)
  notes_rise = subst (λ (ns : List Note). IsStrictlyIncreasing (map (λ (n : Note). n.pc) ns)) (sym same) is_image.notes_rise

  pub note_found : (i : ℕ) → i < length notes → IsBinarySearchResult (λ (n : Note). nat_cmp n.pc pc) notes (Ok i) → Some (get_or notes i no_note) ≡ note_at image pc
  note_found i l h = found (λ (n : Note). n.pc) no_note pc notes notes_rise i l h ∙ ap (find (λ (n : Note). n.pc == pc)) same

  pub note_absent : (i : ℕ) → i ≤ length notes → IsBinarySearchResult (λ (n : Note). nat_cmp n.pc pc) notes (Err i) → None ≡ note_at image pc
  note_absent i l h = none_found (λ (n : Note). n.pc) no_note pc notes notes_rise i l h ∙ ap (find (λ (n : Note). n.pc == pc)) same
