-- What is kept of what an image says of addresses.
use Rattle.std.specs.Prelude.{ℕ, ◌≡◌, ◌≤◌, not, nat_eq, Some, length, All}
use Rattle.dist_image.specs.Image.{Distilled, prints_at}
use Rattle.image_semantics.specs.World.{count_of}
use Rattle.fitting.specs.Fits.{is_analysed}
use Rattle.assume_list.specs.declared.pcs.Said.{Said}
use Rattle.assume_list.specs.declared.pcs.Pcs.{Pcs}
use Rattle.assume_list.specs.Marks.{dead_in}

-- what was found of a pc is what the image has of it
pub record Tells (image : Distilled) (s : Said) : Type 0 where
  pub noted : s.noted ≡ is_analysed image s.pc
  pub count : s.count ≡ count_of image s.pc
  pub some : (n : ℕ) → s.count ≡ Some n → 1 ≤ n
  pub prints : s.prints ≡ prints_at image s.pc
  pub dead : s.dead ≡ not (nat_eq (dead_in image.assumptions s.pc) 0)

-- each answer that is kept is so, and there is one for each place
abbrev pub AreKnown : Pcs → Distilled → Type 0
AreKnown pcs image = All (Tells image) pcs.said.items × (length pcs.said.items ≡ 4_096)
