-- Worked rows: how many arrivals a task spans, where tasks may begin, and the images of small programs.
use Rattle.std.specs.Prelude.{◌≡◌, ℕ, true, false, List, [], ◌∷◌, Some, None}
use Rattle.rv_word.specs.Meaning.{meaning}
use Rattle.rv_semantics.specs.Programs.{frame, hello}
use Rattle.rv_semantics.specs.Start.{Loaded, program_word}
use Rattle.dist_image.specs.declared.image.Slot.TheVariants.{Exec, Fork}
use Rattle.dist_image.specs.Image.{Cut, Code, Within, Span, Distilled, nothing_known}
use Rattle.profile_data.specs.Profile.{Tally, Profiled}
use Rattle.fitting.specs.Rows.{anchor, note, never_true, never_image, store_for_write, store_image, always_taken, taken_image, hello_image, one_value, value_image}
use Rattle.distill_rules.specs.Rows.{row, never_rows, never_cuts, store_rows, hello_rows}
use Rattle.layout_rules.specs.declared.Options.{Options}
use Rattle.layout_rules.specs.Places.{count_by, aim_by, begun}
use Rattle.layout_rules.specs.Images.{distilled}

-- counts of worked profiles
pub record CountRows : Type 0 where
  pub worked : count_by 8 45 11 ≡ 2
  pub greatest : count_by 65_536 1 1 ≡ 64
  pub least : count_by 1 1_000 1 ≡ 1
  pub one_arrival_a_step : count_by 200 10 10 ≡ 64
  pub no_arrival : count_by 200 0 0 ≡ 64

-- where branches and jumps aim
pub record AimRows : Type 0 where
  -- branches to their own pc, and ahead
  pub to_itself : aim_by None 0x00010000 (meaning 0x00000063) ≡ Some 0x00010000
  pub fallen_side_cut : aim_by (Some false) 0x00010000 (meaning 0x00000063) ≡ Some 0x00010000
  pub taken_side_cut : aim_by (Some true) 0x00010000 (meaning 0x00000063) ≡ None
  pub ahead : aim_by None 0x00010008 (meaning 0x00031863) ≡ None
  -- jumps back, ahead, and ahead with a link
  pub back : aim_by None 0x00010010 (meaning 0xFF5FF06F) ≡ Some 0x00010004
  pub jump_ahead : aim_by None 0x00010014 (meaning 0x0080006F) ≡ None
  pub linked : aim_by None 0x00010014 (meaning 0x008000EF) ≡ Some 0x0001001c
  pub jump_to_itself : aim_by None 0x00010000 (meaning 0x0000006F) ≡ Some 0x00010000
  -- a jump back past the address 0 goes to a greater address
  pub around : aim_by None 0x00000004 (meaning 0xFF5FF06F) ≡ None
  pub no_jump : aim_by None 0x00010000 (meaning 0x00000073) ≡ None

-- the first word of the loop is executed ten times
pub record HotRows : Type 0 where
  pub exactly : begun (program_word never_true) never_rows never_cuts 0x00010000 10 ≡ 0x00010000 ∷ 0x00010004 ∷ []
  pub too_seldom : begun (program_word never_true) never_rows never_cuts 0x00010000 11 ≡ 0x00010000 ∷ []

-- options of `distill`
abbrev pub options : ℕ → ℕ → ℕ → ℕ → Options
options rare hot goal limit = record { rare = rare; hot = hot; goal = goal; limit = limit }

-- a profile of a run that has ended
abbrev pub ended : ℕ → List Tally → Profiled
ended steps rows = record { steps = steps; ended = true; rows = rows }

-- the image that is distilled without given values
abbrev pub image_of : Loaded → Profiled → Options → Distilled
image_of p f o = distilled (program_word p) 0x00010000 f [] o

-- a comparison that never holds, in a loop
abbrev pub NeverRows : Type 0
NeverRows = image_of never_true (ended 45 never_rows) (options 0 2 8 64) ≡ never_image

-- a store of a byte that nothing loads, and a write
abbrev pub StoreRows : Type 0
StoreRows =
    image_of store_for_write (ended 10 store_rows) (options 10 2 200 4096)
    ≡ record store_image { limit = 4096; anchors = anchor 0x00010000 0 40 ∷ anchor 0x0001001c 2 40 ∷ [] }

-- ---- a byte of input decides whether the loop is left early

-- a program whose input decides a branch
abbrev pub input_decides : Loaded
input_decides = frame (
    0x00000513 ∷ 0x000205B7 ∷ 0x00100613 ∷ 0x03F00893 ∷ 0x00000073 ∷ 0x00058303 ∷ 0x00A00293 ∷ 0x00031A63 ∷ 0xFFF28293 ∷ 0xFE029CE3
    ∷ 0x00000513 ∷ 0x0080006F ∷ 0x00500513 ∷ 0x05D00893 ∷ 0x00000073 ∷ [])

-- of its run without input
abbrev pub input_rows : List Tally
input_rows =
    row 0x00010000 1 0 false ∷ row 0x00010004 1 0 false ∷ row 0x00010008 1 0 false ∷ row 0x0001000c 1 0 false ∷ row 0x00010010 1 0 false
    ∷ row 0x00010014 1 0 false ∷ row 0x00010018 1 0 false ∷ row 0x0001001c 10 0 false ∷ row 0x00010020 10 0 false ∷ row 0x00010024 10 9 false
    ∷ row 0x00010028 1 0 false ∷ row 0x0001002c 1 0 false ∷ row 0x00010034 1 0 false ∷ row 0x00010038 1 0 false ∷ []

-- its image
abbrev pub input_image : Distilled
input_image = image_of input_decides (ended 41 input_rows) (options 0 2 6 64)

-- its slots, notes and assumptions
pub record InputRows : Type 0 where
  pub slots : input_image.slots
      ≡ Fork 0 ∷ Exec 0x00010010 0x00000073
      ∷ Fork 1 ∷ Exec 0x00010014 0x00058303 ∷ Exec 0x00010018 0x00A00293
      ∷ Fork 2 ∷ Exec 0x00010020 0xFFF28293 ∷ Exec 0x00010024 0xFE029CE3 ∷ Exec 0x0001002c 0x0080006F ∷ Exec 0x00010038 0x00000073 ∷ []
  pub anchors : input_image.anchors ≡ anchor 0x00010000 0 2 ∷ anchor 0x00010014 2 2 ∷ anchor 0x0001001c 5 2 ∷ []
  pub assumptions : input_image.assumptions ≡ Cut 0x0001001c true ∷ Code ∷ Within ∷ Span ∷ []

-- ---- a loop whose branch never falls through is passed by a Go; and profiles in which nothing is analysed

-- images of the shortest loops
pub record BareRows : Type 0 where
  pub looped : image_of always_taken (ended 10 (row 0x00010000 5 0 false ∷ row 0x00010004 5 5 false ∷ [])) (options 0 2 2 16) ≡ taken_image
  pub no_rows : image_of always_taken (ended 0 []) (options 0 2 2 16) ≡ record nothing_known { assumptions = Code ∷ Within ∷ Span ∷ [] }
  pub all_changed : image_of always_taken (ended 1 (record (row 0x00010000 1 0 false) { changed = true } ∷ [])) (options 0 2 2 16)
      ≡ record nothing_known { assumptions = Code ∷ Within ∷ Span ∷ [] }

-- ---- programs that print, by profiles in which each execution of the call was a short write

-- options whose limit is the one that is named
abbrev pub printing : ℕ → Options
printing limit = options 10 2 200 limit

-- the store whose byte the write shows is kept
abbrev pub shown_rows : List Tally
shown_rows =
    row 0x00010004 1 0 false ∷ row 0x00010000 1 0 false ∷ row 0x00010008 1 0 true ∷ row 0x0001000c 1 0 false ∷ row 0x00010010 1 0 false
    ∷ row 0x00010014 1 0 false ∷ row 0x00010018 1 1 false ∷ row 0x0001001c 1 0 false ∷ row 0x00010024 1 0 false ∷ row 0x00010020 1 0 false ∷ []

-- an image with a call that a task does
abbrev pub shown_image : Distilled
shown_image = record {
  version = 2;
  limit = 4096;
  slots =
      Fork 0 ∷ Exec 0x00010000 0x000205B7 ∷ Exec 0x00010004 0x04100293 ∷ Exec 0x00010008 0x00558023 ∷ Exec 0x0001000c 0x00100513
      ∷ Exec 0x00010010 0x00100613 ∷ Exec 0x00010014 0x04000893 ∷ Exec 0x00010018 0x00000073 ∷ Fork 1 ∷ Exec 0x00010024 0x00000073 ∷ [];
  anchors = anchor 0x00010000 0 40 ∷ anchor 0x0001001c 8 40 ∷ [];
  notes =
      note 0x00010000 0 0x000 0x000
      ∷ note 0x00010004 2 0x800 0x800
      ∷ note 0x00010008 3 0x820 0x820
      ∷ note 0x0001000c 4 0x800 0x800
      ∷ note 0x00010010 5 0xc00 0xc00
      ∷ note 0x00010014 6 0x1c00 0x1c00
      ∷ note 0x00010018 7 0x21c00 0x21c00
      ∷ note 0x0001001c 8 0x000 0x000
      ∷ note 0x00010020 9 0x000 0x000
      ∷ note 0x00010024 9 0x000 0x000
      ∷ [];
  assumptions = Code ∷ Within ∷ Span ∷ [];
  writes = 0x00010018 ∷ [];
}

-- images of programs that print
pub record PrintRows : Type 0 where
  pub printed : image_of hello (ended 9 hello_rows) (printing 4096) ≡ hello_image
  -- the longest task of the second version
  pub at_most : image_of hello (ended 9 hello_rows) (printing 16384) ≡ hello_image
  pub shown : image_of store_for_write (ended 10 shown_rows) (printing 4096) ≡ shown_image

-- ---- loads of one value

-- the image that is distilled with given values
abbrev pub image_with : Loaded → Profiled → List (ℕ × ℕ) → Options → Distilled
image_with p f same o = distilled (program_word p) 0x00010000 f same o

-- a profile of the program whose load gives one value
abbrev pub value_rows : List Tally
value_rows =
    row 0x00010000 1 0 false ∷ row 0x00010004 1 0 false ∷ row 0x00010008 10 0 false ∷ row 0x0001000c 10 0 false ∷ row 0x00010010 10 0 false
    ∷ row 0x00010014 10 9 false ∷ row 0x00010018 1 0 false ∷ row 0x0001001c 1 0 false ∷ row 0x00010020 1 0 false ∷ []

-- a load of what nobody needs, and a call
abbrev pub unneeded_load : Loaded
unneeded_load = frame (0x00002283 ∷ 0x00000073 ∷ [])

-- images with a set load
pub record ValueRows : Type 0 where
  pub set : image_with one_value (ended 45 value_rows) ((0x00010008, 0) ∷ []) (printing 4096) ≡ value_image
  -- it is passed, and its value is not listed
  pub unneeded : image_with unneeded_load (ended 2 (row 0x00010000 1 0 false ∷ row 0x00010004 1 0 false ∷ [])) ((0x00010000, 0) ∷ []) (options 0 2 2 16384)
      ≡ record {
        version = 1;
        limit = 16384;
        slots = Fork 0 ∷ Exec 0x00010004 0x00000073 ∷ [];
        anchors = anchor 0x00010000 0 1 ∷ [];
        notes = note 0x00010000 0 0 0 ∷ note 0x00010004 1 0 0 ∷ [];
        assumptions = Code ∷ Within ∷ Span ∷ [];
        writes = [];
      }
