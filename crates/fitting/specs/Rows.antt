-- Worked rows: an image that fits its program and images that do not, and positions at which each assumption fails.
use Rattle.std.specs.Prelude.{ℕ, true, false, [], ◌∷◌}
use Rattle.cells.specs.Run.{State}
use Rattle.rv_semantics.specs.Start.{Loaded, start}
use Rattle.rv_semantics.specs.Programs.{frame, hello, exit_7, misfetch, ten_turns}
use Rattle.dist_image.specs.declared.image.Slot.TheVariants.{Exec, Go, Fork}
use Rattle.dist_image.specs.declared.image.Anchor.{Anchor}
use Rattle.dist_image.specs.declared.image.Note.{Note}
use Rattle.dist_image.specs.Image.{Cut, Targets, Dead, Code, Within, Span, Same, Distilled, nothing_known}
use Rattle.fitting.specs.Fits.{Fits}
use Rattle.fitting.specs.Fails.{program, Fails}

-- an anchor, by pc, slot and count
abbrev pub anchor : ℕ → ℕ → ℕ → Anchor
anchor pc slot count = record { pc = pc; slot = slot; count = count }

-- a note, by pc, slot and masks
abbrev pub note : ℕ → ℕ → ℕ → ℕ → Note
note pc slot live need = record { pc = pc; slot = slot; live = live; need = need }

-- ---- an image that fits

-- a loop of ten turns with a comparison in it that never holds
abbrev pub never_true : Loaded
never_true = frame (0x00A00293 ∷ 0x0002A313 ∷ 0x00031863 ∷ 0xFFF28293 ∷ 0xFE029AE3 ∷ 0x0080006F ∷ 0x00100073 ∷ 0x00000513 ∷ 0x05D00893 ∷ 0x00000073 ∷ [])

-- the comparison and its branch are passed over, and so are the words at the end that set what only the call reads
abbrev pub never_image : Distilled
never_image = record {
  version = 1;
  limit = 64;
  slots =
      Fork 0 ∷ Exec 0x00010000 0x00a00293 ∷ Fork 1 ∷ Exec 0x0001000c 0xfff28293 ∷ Exec 0x00010010 0xfe029ae3
      ∷ Exec 0x00010014 0x0080006f ∷ Exec 0x00010024 0x00000073 ∷ [];
  anchors = anchor 0x00010000 0 2 ∷ anchor 0x00010004 2 2 ∷ [];
  notes =
      note 0x00010000 0 0x00 0x00
      ∷ note 0x00010004 2 0x20 0x20
      ∷ note 0x00010008 3 0x60 0x20
      ∷ note 0x0001000c 3 0x20 0x20
      ∷ note 0x00010010 4 0x20 0x20
      ∷ note 0x00010014 5 0x00 0x00
      ∷ note 0x0001001c 6 0x00 0x00
      ∷ note 0x00010020 6 0x00 0x00
      ∷ note 0x00010024 6 0x00 0x00
      ∷ [];
  assumptions = Cut 0x00010008 true ∷ Code ∷ Within ∷ Span ∷ [];
  writes = [];
}

-- without its Cut the branch may not be passed over
abbrev pub uncut_image : Distilled
uncut_image = record never_image { assumptions = Code ∷ Within ∷ Span ∷ [] }

-- the word that counts down is kept, and reads a register that its note does not need
abbrev pub unneeded_image : Distilled
unneeded_image = record never_image {
  notes =
      note 0x00010000 0 0x00 0x00
      ∷ note 0x00010004 2 0x20 0x20
      ∷ note 0x00010008 3 0x60 0x20
      ∷ note 0x0001000c 3 0x20 0x00
      ∷ note 0x00010010 4 0x20 0x20
      ∷ note 0x00010014 5 0x00 0x00
      ∷ note 0x0001001c 6 0x00 0x00
      ∷ note 0x00010020 6 0x00 0x00
      ∷ note 0x00010024 6 0x00 0x00
      ∷ [];
}

-- the anchor's slot is not that of the note at its pc
abbrev pub misplaced_image : Distilled
misplaced_image = record never_image { anchors = anchor 0x00010000 0 2 ∷ anchor 0x00010004 1 2 ∷ [] }

-- the same without Span
abbrev pub unspanned_image : Distilled
unspanned_image = record never_image { assumptions = Cut 0x00010008 true ∷ Code ∷ Within ∷ [] }

-- a store of a byte that nothing loads, and a write
abbrev pub store_for_write : Loaded
store_for_write = frame (0x000205B7 ∷ 0x04100293 ∷ 0x00558023 ∷ 0x00100513 ∷ 0x00100613 ∷ 0x04000893 ∷ 0x00000073 ∷ 0x00000513 ∷ 0x05D00893 ∷ 0x00000073 ∷ [])

-- the store is dead, and all words but the two calls are passed over
abbrev pub store_image : Distilled
store_image = record {
  version = 1;
  limit = 1024;
  slots = Fork 0 ∷ Exec 0x00010018 0x00000073 ∷ Fork 1 ∷ Exec 0x00010024 0x00000073 ∷ [];
  anchors = anchor 0x00010000 0 1 ∷ anchor 0x0001001c 2 1 ∷ [];
  notes =
      note 0x00010000 0 0x000 0x000
      ∷ note 0x00010004 1 0x800 0x000
      ∷ note 0x00010008 1 0x820 0x000
      ∷ note 0x0001000c 1 0x000 0x000
      ∷ note 0x00010010 1 0x000 0x000
      ∷ note 0x00010014 1 0x000 0x000
      ∷ note 0x00010018 1 0x000 0x000
      ∷ note 0x0001001c 2 0x000 0x000
      ∷ note 0x00010020 3 0x000 0x000
      ∷ note 0x00010024 3 0x000 0x000
      ∷ [];
  assumptions = Dead 0x00010008 ∷ Code ∷ Within ∷ Span ∷ [];
  writes = [];
}

-- the image of the dead store, which doesn't list it
abbrev pub undead_image : Distilled
undead_image = record store_image { assumptions = Code ∷ Within ∷ Span ∷ [] }

-- a jump to 0x00010008 by a register
abbrev pub jump_ahead : Loaded
jump_ahead = frame (0x00000297 ∷ 0x008280E7 ∷ 0x00000073 ∷ [])

-- an image of the program that jumps by a register
abbrev pub jump_image : Distilled
jump_image = record {
  version = 1;
  limit = 16;
  slots = Fork 0 ∷ Exec 0x00010000 0x00000297 ∷ Exec 0x00010004 0x008280E7 ∷ Exec 0x00010008 0x00000073 ∷ [];
  anchors = anchor 0x00010000 0 1 ∷ [];
  notes = note 0x00010000 0 0x00 0x00 ∷ note 0x00010004 2 0x20 0x20 ∷ note 0x00010008 3 0x00 0x00 ∷ [];
  assumptions = Targets 0x00010004 (0x00010008 ∷ []) ∷ Code ∷ Within ∷ Span ∷ [];
  writes = [];
}

-- the same without its Targets
abbrev pub unaimed_image : Distilled
unaimed_image = record jump_image { assumptions = Code ∷ Within ∷ Span ∷ [] }

-- a loop without end, whose branch is always taken
abbrev pub always_taken : Loaded
always_taken = frame (0x00128293 ∷ 0xFE000EE3 ∷ [])

-- the branch is passed over by a Go
abbrev pub taken_image : Distilled
taken_image = record {
  version = 1;
  limit = 16;
  slots = Fork 0 ∷ Exec 0x00010000 0x00128293 ∷ Go 0x00010000 ∷ [];
  anchors = anchor 0x00010000 0 1 ∷ [];
  notes = note 0x00010000 0 0x20 0x20 ∷ note 0x00010004 2 0x20 0x20 ∷ [];
  assumptions = Cut 0x00010004 false ∷ Code ∷ Within ∷ Span ∷ [];
  writes = [];
}

-- its other side is cut, so the Go leads where it does not go on
abbrev pub fallen_image : Distilled
fallen_image = record taken_image { assumptions = Cut 0x00010004 true ∷ Code ∷ Within ∷ Span ∷ [] }

-- behind the loop's word a register is live that is not live before it
abbrev pub unlive_image : Distilled
unlive_image = record taken_image { notes = note 0x00010000 0 0x20 0x20 ∷ note 0x00010004 2 0x40 0x20 ∷ [] }

-- the anchor's note needs less than is live
abbrev pub anchor_image : Distilled
anchor_image = record taken_image { notes = note 0x00010000 0 0x60 0x20 ∷ note 0x00010004 2 0x60 0x20 ∷ [] }

-- the word that is passed needs no longer what is needed behind it
abbrev pub dropped_image : Distilled
dropped_image = record taken_image { notes = note 0x00010000 0 0x20 0x20 ∷ note 0x00010004 2 0x20 0x00 ∷ [] }

-- and the word that is kept lacks a register that is needed behind it
abbrev pub lacking_image : Distilled
lacking_image = record taken_image { notes = note 0x00010000 0 0x20 0x20 ∷ note 0x00010004 2 0x20 0x60 ∷ [] }

-- a branch to the next pc, and one to a pc that is no multiple of 4
abbrev pub branch_next : Loaded
branch_next = frame (0x00000263 ∷ [])

-- a branch to an address that is no multiple of 4
abbrev pub branch_aside : Loaded
branch_aside = frame (0x00000363 ∷ [])

-- it is passed over
abbrev pub branch_image : Distilled
branch_image = record {
  version = 1;
  limit = 16;
  slots = Fork 0 ∷ Go 0x00010004 ∷ [];
  anchors = anchor 0x00010000 0 1 ∷ [];
  notes = note 0x00010000 0 0 0 ∷ [];
  assumptions = Cut 0x00010000 true ∷ Code ∷ Within ∷ Span ∷ [];
  writes = [];
}

-- a program that prints: the call at 0x00010014 is a step of a task
abbrev pub hello_image : Distilled
hello_image = record {
  version = 2;
  limit = 4096;
  slots =
      Fork 0 ∷ Exec 0x00010000 0x00100513 ∷ Exec 0x00010004 0x00000597 ∷ Exec 0x00010008 0x02058593 ∷ Exec 0x0001000c 0x00300613
      ∷ Exec 0x00010010 0x04000893 ∷ Exec 0x00010014 0x00000073 ∷ Fork 1 ∷ Exec 0x00010020 0x00000073 ∷ [];
  anchors = anchor 0x00010000 0 50 ∷ anchor 0x00010018 7 50 ∷ [];
  notes =
      note 0x00010000 0 0x00 0x00
      ∷ note 0x00010004 2 0x400 0x400
      ∷ note 0x00010008 3 0xc00 0xc00
      ∷ note 0x0001000c 4 0xc00 0xc00
      ∷ note 0x00010010 5 0x1c00 0x1c00
      ∷ note 0x00010014 6 0x21c00 0x21c00
      ∷ note 0x00010018 7 0x00 0x00
      ∷ note 0x0001001c 8 0x00 0x00
      ∷ note 0x00010020 8 0x00 0x00
      ∷ [];
  assumptions = Code ∷ Within ∷ Span ∷ [];
  writes = 0x00010014 ∷ [];
}

-- the number of its bytes is not live at the call
abbrev pub unlisted_image : Distilled
unlisted_image = record hello_image {
  notes =
      note 0x00010000 0 0x00 0x00
      ∷ note 0x00010004 2 0x400 0x400
      ∷ note 0x00010008 3 0xc00 0xc00
      ∷ note 0x0001000c 4 0xc00 0xc00
      ∷ note 0x00010010 5 0xc00 0xc00
      ∷ note 0x00010014 6 0x20c00 0x20c00
      ∷ note 0x00010018 7 0x00 0x00
      ∷ note 0x0001001c 8 0x00 0x00
      ∷ note 0x00010020 8 0x00 0x00
      ∷ [];
}

-- a loop of five turns that loads one word, which is 0 and stays so, and adds it up
abbrev pub one_value : Loaded
one_value = frame (0x000203B7 ∷ 0x00A00293 ∷ 0x0003A303 ∷ 0x00640433 ∷ 0xFFF28293 ∷ 0xFE029AE3 ∷ 0x00000513 ∷ 0x05D00893 ∷ 0x00000073 ∷ [])

-- in the load's place its register is set to 0
abbrev pub value_image : Distilled
value_image = record {
  version = 2;
  limit = 4096;
  slots =
      Fork 0 ∷ Exec 0x00010000 0x000203B7 ∷ Exec 0x00010004 0x00A00293 ∷ Fork 1 ∷ Exec 0x00010008 0x00000313 ∷ Exec 0x0001000c 0x00640433
      ∷ Exec 0x00010010 0xFFF28293 ∷ Exec 0x00010014 0xFE029AE3 ∷ Exec 0x00010020 0x00000073 ∷ [];
  anchors = anchor 0x00010000 0 50 ∷ anchor 0x00010008 3 50 ∷ [];
  notes =
      note 0x00010000 0 0x100 0x100
      ∷ note 0x00010004 2 0x180 0x180
      ∷ note 0x00010008 3 0x1a0 0x1a0
      ∷ note 0x0001000c 5 0x1e0 0x1e0
      ∷ note 0x00010010 6 0x1a0 0x1a0
      ∷ note 0x00010014 7 0x1a0 0x1a0
      ∷ note 0x00010018 8 0x00 0x00
      ∷ note 0x0001001c 8 0x00 0x00
      ∷ note 0x00010020 8 0x00 0x00
      ∷ [];
  assumptions = Code ∷ Within ∷ Span ∷ Same 0x00010008 0 ∷ [];
  writes = [];
}

-- the value that is claimed is another
abbrev pub misset_image : Distilled
misset_image = record value_image { assumptions = Code ∷ Within ∷ Span ∷ Same 0x00010008 1 ∷ [] }

-- it doesn't hold
abbrev pub Never : Type 0 → Type 0
Never P = P → ⊥

-- an image fits a program
abbrev pub FitsIn : Loaded → Distilled → Type 0
FitsIn p image = Fits (program (start p [])) image

-- images that fit, and images that break one rule each
pub record FittingRows : Type 0 where
  pub cut : FitsIn never_true never_image
  pub uncut : Never (FitsIn never_true uncut_image)
  pub unneeded : Never (FitsIn never_true unneeded_image)
  pub misplaced : Never (FitsIn never_true misplaced_image)
  pub unspanned : Never (FitsIn never_true unspanned_image)
  pub stored : FitsIn store_for_write store_image
  pub undead : Never (FitsIn store_for_write undead_image)
  pub jumped : FitsIn jump_ahead jump_image
  pub unaimed : Never (FitsIn jump_ahead unaimed_image)
  pub taken : FitsIn always_taken taken_image
  pub fallen : Never (FitsIn always_taken fallen_image)
  pub unlive : Never (FitsIn always_taken unlive_image)
  pub unneeding : Never (FitsIn always_taken anchor_image)
  pub dropped : Never (FitsIn always_taken dropped_image)
  pub lacking : Never (FitsIn always_taken lacking_image)
  pub next : Never (FitsIn branch_next branch_image)
  pub aside : Never (FitsIn branch_aside branch_image)
  pub printed : FitsIn hello hello_image
  pub unprinted : Never (FitsIn hello unlisted_image)
  pub constant : FitsIn one_value value_image
  pub misset : Never (FitsIn one_value misset_image)

-- ---- failing assumptions

-- the start of ten turns of a loop
abbrev pub turns : State
turns = start ten_turns []

-- a store, and a load of what it put
abbrev pub stored : State
stored = start (frame (0x00000297 ∷ 0x0452A023 ∷ 0x0402A303 ∷ [])) []

-- the same with a store of the byte at the address 0x00010040 between, and a load of the byte behind it
abbrev pub stored_twice : State
stored_twice = start (frame (0x00000297 ∷ 0x0452A023 ∷ 0x04528023 ∷ 0x0412C303 ∷ [])) []

-- the start of the program that jumps by a register
abbrev pub jumping : State
jumping = start jump_ahead []

-- and a load of that byte
abbrev pub stored_over : State
stored_over = start (frame (0x00000297 ∷ 0x0452A023 ∷ 0x04528023 ∷ 0x0402C303 ∷ [])) []

-- a store of a byte, a call that reads a byte of input to the same place, and a load of it
abbrev pub read_over : State
read_over = start (frame (0x00000597 ∷ 0x04058593 ∷ 0x00058023 ∷ 0x00100613 ∷ 0x03F00893 ∷ 0x00000073 ∷ 0x0005C303 ∷ [])) (97 ∷ [])

-- the word at 0x00010010 is replaced by the one at 0x0001001c
abbrev pub rewriting : State
rewriting = start (frame (0x00000297 ∷ 0x01C2A303 ∷ 0x0062A823 ∷ 0x05D00893 ∷ 0x00700513 ∷ 0x00000073 ∷ 0x00000000 ∷ 0x00900513 ∷ [])) []

-- the start of the program that exits with 7
abbrev pub exiting : State
exiting = start exit_7 []

-- images with this note, and with this anchor and task limit
abbrev pub noting : ℕ → Distilled
noting pc = record nothing_known { notes = note pc 0 0 0 ∷ [] }

-- an image with one anchor and nothing else
abbrev pub anchored : ℕ → ℕ → ℕ → Distilled
anchored limit pc count = record nothing_known { limit = limit; anchors = anchor pc 0 count ∷ [] }

-- the branch at the end of a turn is taken
pub record CutRows : Type 0 where
  pub taken : Fails turns nothing_known (Cut 0x00010008 true) 2
  pub fallen : Never (Fails turns nothing_known (Cut 0x00010008 false) 2)
  pub elsewhere : Never (Fails turns nothing_known (Cut 0x00010004 true) 2)
  pub no_branch : Never (Fails turns nothing_known (Cut 0x00010004 false) 1)
  -- a branch to a pc that is no multiple of 4 ends the run
  pub ends : Never (Fails (start branch_aside []) nothing_known (Cut 0x00010000 true) 0)

-- where Targets fails, and where it doesn't
pub record TargetRows : Type 0 where
  pub missing : Fails jumping nothing_known (Targets 0x00010004 (0x00010000 ∷ 0x0001000c ∷ [])) 1
  pub listed : Never (Fails jumping nothing_known (Targets 0x00010004 (0x00010000 ∷ 0x00010008 ∷ [])) 1)
  pub no_jump : Never (Fails jumping nothing_known (Targets 0x00010000 []) 0)
  pub ends : Never (Fails (start misfetch []) nothing_known (Targets 0x00010008 []) 2)

-- where Dead fails, and where it doesn't
pub record DeadRows : Type 0 where
  pub loaded : Fails stored nothing_known (Dead 0x00010004) 2
  -- another byte of the word that the first store put is its own still
  pub neighbour : Fails stored_twice nothing_known (Dead 0x00010004) 3
  pub fetched : Fails rewriting nothing_known (Dead 0x00010008) 4
  pub covered : Never (Fails stored_over nothing_known (Dead 0x00010004) 3)
  -- a call may be the latest writer, and is no store
  pub read : Never (Fails read_over nothing_known (Dead 0x00010008) 6)
  pub call : Never (Fails read_over nothing_known (Dead 0x00010014) 6)

-- where Code fails, and where it doesn't
pub record CodeRows : Type 0 where
  pub replaced : Fails rewriting (noting 0x00010010) Code 4
  pub unnoted : Never (Fails rewriting (noting 0x00010014) Code 4)
  pub same : Never (Fails rewriting (noting 0x0001000c) Code 3)

-- where Within fails, and where it doesn't
pub record WithinRows : Type 0 where
  pub left : Fails turns (noting 0x00010004) Within 1
  pub unnoted : Never (Fails turns (noting 0x00010004) Within 2)
  pub call : Never (Fails exiting (noting 0x00010008) Within 2)

-- an arrival is in time at the task limit, a stop only before it
pub record SpanRows : Type 0 where
  pub in_time : Never (Fails turns (anchored 2 0x00010004 1) Span 1)
  pub late : Fails turns (anchored 1 0x00010004 1) Span 1
  pub stopped_here : Never (Fails exiting (anchored 1 0x00010008 1) Span 2)
  pub stopped : Never (Fails exiting (anchored 3 0x00010000 1) Span 0)
  pub stopped_late : Fails exiting (anchored 2 0x00010000 1) Span 0

-- ---- loads of one value

-- the start of a program whose load gives one value
abbrev pub loading : State
loading = start one_value []

-- a byte is loaded for register 0: the lowest of the word at 0x00010000
abbrev pub loading_byte : State
loading_byte = start (frame (0x00000297 ∷ 0x00028003 ∷ [])) []

-- where Same fails, and where it doesn't
pub record SameRows : Type 0 where
  pub other : Fails loading nothing_known (Same 0x00010008 1) 2
  pub same : Never (Fails loading nothing_known (Same 0x00010008 0) 2)
  pub elsewhere : Never (Fails loading nothing_known (Same 0x0001000c 1) 2)
  pub no_load : Never (Fails loading nothing_known (Same 0x0001000c 1) 3)
  -- the value is the one that a register is given, here 0xFFFFFF97 for the byte 0x97
  pub extended : Never (Fails loading_byte nothing_known (Same 0x00010004 0xFFFFFF97) 1)
  pub unextended : Fails loading_byte nothing_known (Same 0x00010004 0x97) 1

-- ---- calls that a task does

-- a store of a byte, and a call that shows it
abbrev pub showing : State
showing = start store_for_write []

-- the start of the program that greets
abbrev pub greeting : State
greeting = start hello []

-- the same with 257 bytes: one more than a task shows
abbrev pub greeting_at_length : State
greeting_at_length = start (frame (0x00100513 ∷ 0x00000597 ∷ 0x02058593 ∷ 0x10100613 ∷ 0x04000893 ∷ 0x00000073 ∷ [])) []

-- tasks of the image may print at this pc
abbrev pub listing : ℕ → Distilled → Distilled
listing pc image = record image { writes = pc ∷ [] }

-- where a task does a call, what it shows is read there, and the call is a step that does not stop it
pub record PrintRows : Type 0 where
  pub shown : Fails showing (listing 0x00010018 nothing_known) (Dead 0x00010008) 6
  pub unshown : Never (Fails showing nothing_known (Dead 0x00010008) 6)
  pub left : Fails greeting (listing 0x00010014 (noting 0x00010014)) Within 5
  pub stopped : Never (Fails greeting (noting 0x00010014) Within 5)
  pub too_long : Never (Fails greeting_at_length (listing 0x00010014 (noting 0x00010014)) Within 5)
  pub far : Fails greeting (listing 0x00010014 (anchored 3 0x00010014 1)) Span 5
  pub near : Never (Fails greeting (anchored 3 0x00010014 1) Span 5)
