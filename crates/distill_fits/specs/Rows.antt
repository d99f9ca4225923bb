-- A worked row: an image that does not fit, of rows that are no valid profile.
use Rattle.std.specs.Prelude.{◌≡◌, true, false, None, List, [], ◌∷◌}
use Rattle.rv_semantics.specs.Programs.{frame}
use Rattle.rv_semantics.specs.Start.{Loaded, program_word}
use Rattle.dist_image.specs.Image.{Distilled}
use Rattle.profile_data.specs.Profile.{Tally}
use Rattle.fitting.specs.Claims.{claims}
use Rattle.fitting.specs.Fits.{Fits, is_analysed}
use Rattle.distill_rules.specs.Rows.{row}
use Rattle.layout_rules.specs.Rows.{options, ended, image_of}

-- a jump by a register alone
abbrev pub returning : Loaded
returning = frame (0x00008067 ∷ [])

-- two rows of one pc: another word was executed there by the first, and none by the second
abbrev pub twice : List Tally
twice = record (row 0x00010000 1 0 false) { changed = true } ∷ row 0x00010000 1 0 false ∷ []

abbrev pub twice_image : Distilled
twice_image = image_of returning (ended 2 twice) (options 0 1 1 16)

-- the pc is analysed by the second row, and the first, which is looked up, claims no targets
pub record TwiceRows : Type 0 where
  pub analysed : is_analysed twice_image 0x00010000 ≡ true
  pub not_aimed : (claims twice_image).targets 0x00010000 ≡ None
  pub no_fit : Fits (program_word returning) twice_image → ⊥
