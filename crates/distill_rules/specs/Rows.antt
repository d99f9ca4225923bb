-- Worked rows: what is cut, where instructions lead, and which masks come of it.
use Rattle.std.specs.Prelude.{◌≡◌, ℕ, Bool, true, false, List, [], ◌∷◌, Some, None}
use Rattle.rv_word.specs.Meaning.{meaning}
use Rattle.rv_semantics.specs.Programs.{frame, hello}
use Rattle.rv_semantics.specs.Start.{Loaded, program_word}
use Rattle.profile_data.specs.Profile.{Tally}
use Rattle.fitting.specs.Rows.{never_true, store_for_write, jump_ahead}
use Rattle.distill_rules.specs.declared.Mask.{Mask}
use Rattle.distill_rules.specs.Cuts.{Cuts, rare_side, cut_by, is_dead_by, is_write_by, cuts}
use Rattle.distill_rules.specs.Flow.{Site, graph}
use Rattle.distill_rules.specs.Points.{points}
use Rattle.distill_rules.specs.Rounds.{solved}

-- a row that was not changed, and has no targets
abbrev pub row : ℕ → ℕ → ℕ → Bool → Tally
row pc executed taken read = record { pc = pc; executed = executed; taken = taken; read = read; changed = false; targets = [] }

-- an instruction of a graph, by pc, word and where it leads
abbrev pub site : ℕ → ℕ → List ℕ → Site
site pc word next = record { pc = pc; word = word; next = next }

-- an entry of a table
abbrev pub mask : ℕ → ℕ → ℕ → Bool → Mask
mask pc live need kept = record { pc = pc; live = live; need = need; kept = kept }

-- the greatest count of 64 bits
abbrev pub greatest : ℕ
greatest = 0xFFFF_FFFF_FFFF_FFFF

-- exact numbers: a thousand times a side may pass 64 bits
pub record SideRows : Type 0 where
  pub never : rare_side 0 10 0 ≡ Some true
  pub always : rare_side 0 10 10 ≡ Some false
  pub once : rare_side 0 10 1 ≡ None
  pub at_the_bound : rare_side 100 10 1 ≡ Some true
  pub past_the_bound : rare_side 100 19 2 ≡ None
  pub fallen_at_the_bound : rare_side 100 10 9 ≡ Some false
  pub equal : rare_side 100 2 1 ≡ None
  pub great : rare_side 100 greatest 0x1999_9999_9999_9999 ≡ Some true
  pub past_great : rare_side 100 greatest 0x1999_9999_9999_999A ≡ None
  pub wraps_to_nothing : rare_side 0 greatest 0x2000_0000_0000_0000 ≡ None

-- branches at 0x00010008 whose conditions never held, stores, and calls
pub record RuleRows : Type 0 where
  pub ahead : cut_by 0 0x00010008 (meaning 0x00031863) (Some (row 0x00010008 10 0 false)) ≡ Some true
  pub to_itself : cut_by 0 0x00010008 (meaning 0x00031063) (Some (row 0x00010008 10 0 false)) ≡ Some true
  pub to_the_next : cut_by 0 0x00010008 (meaning 0x00031263) (Some (row 0x00010008 10 0 false)) ≡ None
  pub aside : cut_by 0 0x00010008 (meaning 0x00031363) (Some (row 0x00010008 10 0 false)) ≡ None
  pub no_branch : cut_by 0 0x00010008 (meaning 0x0080006F) (Some (row 0x00010008 10 0 false)) ≡ None
  pub unread : is_dead_by (meaning 0x00558023) (Some (row 0x00010008 1 0 false)) ≡ true
  pub read : is_dead_by (meaning 0x00558023) (Some (row 0x00010008 1 0 true)) ≡ false
  pub no_store : is_dead_by (meaning 0x00031863) (Some (row 0x00010008 10 0 false)) ≡ false
  pub each_short : is_write_by (meaning 0x00000073) (Some (row 0x00010008 3 3 false)) ≡ true
  pub one_not_short : is_write_by (meaning 0x00000073) (Some (row 0x00010008 3 2 false)) ≡ false
  pub no_call : is_write_by (meaning 0x00031863) (Some (row 0x00010008 3 3 false)) ≡ false

-- ---- a loop of ten turns with a comparison in it that never holds

-- a profile of the program whose branch is never taken
abbrev pub never_rows : List Tally
never_rows =
    row 0x00010000 1 0 false ∷ row 0x00010004 10 0 false ∷ row 0x00010008 10 0 false ∷ row 0x0001000c 10 0 false ∷ row 0x00010010 10 9 false
    ∷ row 0x00010014 1 0 false ∷ row 0x0001001c 1 0 false ∷ row 0x00010020 1 0 false ∷ row 0x00010024 1 0 false ∷ []

-- what is cut of it
abbrev pub never_cuts : Cuts
never_cuts = record { cut = (0x00010008, true) ∷ []; dead = []; writes = []; same = [] }

-- what is cut, where instructions lead, and what is live and needed there
pub record NeverRows : Type 0 where
  pub cut : cuts (program_word never_true) never_rows 0 ≡ never_cuts
  pub leads : (graph (program_word never_true) never_rows never_cuts).spots
      ≡ site 0x00010000 0x00A00293 (0x00010004 ∷ [])
      ∷ site 0x00010004 0x0002A313 (0x00010008 ∷ [])
      ∷ site 0x00010008 0x00031863 (0x0001000c ∷ [])
      ∷ site 0x0001000c 0xFFF28293 (0x00010010 ∷ [])
      ∷ site 0x00010010 0xFE029AE3 (0x00010014 ∷ 0x00010004 ∷ [])
      ∷ site 0x00010014 0x0080006F (0x0001001c ∷ [])
      ∷ site 0x0001001c 0x00000513 (0x00010020 ∷ [])
      ∷ site 0x00010020 0x05D00893 (0x00010024 ∷ [])
      ∷ site 0x00010024 0x00000073 []
      ∷ []
  pub masks : solved (points never_cuts (0x00010000 ∷ 0x00010004 ∷ []) (graph (program_word never_true) never_rows never_cuts))
      ≡ mask 0x00010000 0x00 0x00 true
      ∷ mask 0x00010004 0x20 0x20 false
      ∷ mask 0x00010008 0x60 0x20 false
      ∷ mask 0x0001000c 0x20 0x20 true
      ∷ mask 0x00010010 0x20 0x20 true
      ∷ mask 0x00010014 0x00 0x00 true
      ∷ mask 0x0001001c 0x00 0x00 false
      ∷ mask 0x00010020 0x00 0x00 false
      ∷ mask 0x00010024 0x00 0x00 true
      ∷ []

-- ---- a store of a byte that nothing loads, and a write of it: the rows out of their order

-- a profile of the program whose store a call alone reads
abbrev pub store_rows : List Tally
store_rows =
    row 0x00010004 1 0 false ∷ row 0x00010000 1 0 false ∷ row 0x00010008 1 0 false ∷ row 0x0001000c 1 0 false ∷ row 0x00010010 1 0 false
    ∷ row 0x00010014 1 0 false ∷ row 0x00010018 1 0 false ∷ row 0x0001001c 1 0 false ∷ row 0x00010024 1 0 false ∷ row 0x00010020 1 0 false ∷ []

-- what is cut of it: a dead store
abbrev pub store_cuts : Cuts
store_cuts = record { cut = []; dead = 0x00010008 ∷ []; writes = []; same = [] }

-- what is cut, and what is live and needed there
pub record StoreRows : Type 0 where
  pub cut : cuts (program_word store_for_write) store_rows 10 ≡ store_cuts
  pub masks : solved (points store_cuts (0x00010000 ∷ 0x0001001c ∷ []) (graph (program_word store_for_write) store_rows store_cuts))
      ≡ mask 0x00010000 0x000 0x000 false
      ∷ mask 0x00010004 0x800 0x000 false
      ∷ mask 0x00010008 0x820 0x000 false
      ∷ mask 0x0001000c 0x000 0x000 false
      ∷ mask 0x00010010 0x000 0x000 false
      ∷ mask 0x00010014 0x000 0x000 false
      ∷ mask 0x00010018 0x000 0x000 true
      ∷ mask 0x0001001c 0x000 0x000 false
      ∷ mask 0x00010020 0x000 0x000 false
      ∷ mask 0x00010024 0x000 0x000 true
      ∷ []

-- ---- a jump by a register goes where the profile says, as far as that is analysed. A changed row is not

-- a profile of the program that jumps by a register, with a target outside
abbrev pub jump_rows : List Tally
jump_rows =
    row 0x00010000 2 0 false
    ∷ record { pc = 0x00010004; executed = 2; taken = 0; read = false; changed = false; targets = 0x00010000 ∷ 0x00010008 ∷ 0x00020000 ∷ [] }
    ∷ record { pc = 0x00010008; executed = 1; taken = 0; read = false; changed = true; targets = [] }
    ∷ []

-- where a jump by a register leads: to its analysed targets
pub record JumpRows : Type 0 where
  pub leads : (graph (program_word jump_ahead) jump_rows (record { cut = []; dead = []; writes = []; same = [] })).spots
      ≡ site 0x00010000 0x00000297 (0x00010004 ∷ []) ∷ site 0x00010004 0x008280E7 (0x00010000 ∷ []) ∷ []
  pub masks : solved (points (record { cut = []; dead = []; writes = []; same = [] }) [] (graph (program_word jump_ahead) jump_rows (record { cut = []; dead = []; writes = []; same = [] })))
      ≡ mask 0x00010000 0x00 0x00 true ∷ mask 0x00010004 0x20 0x20 true ∷ []

-- ---- a profile of no run: a branch to itself that never fell through, a jump aside, and an address outside the program.
-- Targets count at a jump by a register alone

-- a branch to its own pc and a jump to no analysed one
abbrev pub strange : Loaded
strange = frame (0x00000063 ∷ 0x0020006F ∷ [])

-- a profile of it that no run gives
abbrev pub strange_rows : List Tally
strange_rows =
    row 0x00020000 1 1 true
    ∷ record { pc = 0x00010004; executed = 1; taken = 1; read = true; changed = false; targets = 0x00010000 ∷ [] }
    ∷ row 0x00010000 greatest greatest false
    ∷ []

-- what is cut of it
abbrev pub strange_cuts : Cuts
strange_cuts = record { cut = (0x00010000, false) ∷ []; dead = []; writes = []; same = [] }

-- where it leads, cut and uncut
pub record StrangeRows : Type 0 where
  pub cut : cuts (program_word strange) strange_rows 0 ≡ strange_cuts
  pub uncut_leads : (graph (program_word strange) strange_rows (record { cut = []; dead = []; writes = []; same = [] })).spots
      ≡ site 0x00010000 0x00000063 (0x00010004 ∷ 0x00010000 ∷ []) ∷ site 0x00010004 0x0020006F [] ∷ site 0x00020000 0x00000000 [] ∷ []
  pub leads : (graph (program_word strange) strange_rows strange_cuts).spots
      ≡ site 0x00010000 0x00000063 (0x00010000 ∷ []) ∷ site 0x00010004 0x0020006F [] ∷ site 0x00020000 0x00000000 [] ∷ []
  pub masks : solved (points strange_cuts (0x00010000 ∷ []) (graph (program_word strange) strange_rows strange_cuts))
      ≡ mask 0x00010000 0 0 false ∷ mask 0x00010004 0 0 true ∷ mask 0x00020000 0 0 true ∷ []

-- ---- a program that prints, where each execution of its call was a short write

-- a profile of the program that greets, with its call counted
abbrev pub hello_rows : List Tally
hello_rows =
    row 0x00010000 1 0 false ∷ row 0x00010004 1 0 false ∷ row 0x00010008 1 0 false ∷ row 0x0001000c 1 0 false ∷ row 0x00010010 1 0 false
    ∷ row 0x00010014 1 1 false ∷ row 0x00010018 1 0 false ∷ row 0x0001001c 1 0 false ∷ row 0x00010020 1 0 false ∷ []

-- what is cut of it: the write is a task's
abbrev pub hello_cuts : Cuts
hello_cuts = record { cut = []; dead = []; writes = 0x00010014 ∷ []; same = [] }

-- what is cut, and what is live and needed around a call that a task does
pub record HelloRows : Type 0 where
  pub cut : cuts (program_word hello) hello_rows 10 ≡ hello_cuts
  pub masks : solved (points hello_cuts (0x00010000 ∷ 0x00010018 ∷ []) (graph (program_word hello) hello_rows hello_cuts))
      ≡ mask 0x00010000 0x00 0x00 true
      ∷ mask 0x00010004 0x400 0x400 true
      ∷ mask 0x00010008 0xc00 0xc00 true
      ∷ mask 0x0001000c 0xc00 0xc00 true
      ∷ mask 0x00010010 0x1c00 0x1c00 true
      ∷ mask 0x00010014 0x21c00 0x21c00 true
      ∷ mask 0x00010018 0x00 0x00 false
      ∷ mask 0x0001001c 0x00 0x00 false
      ∷ mask 0x00010020 0x00 0x00 true
      ∷ []

-- ---- a FENCE does nothing, so it is not kept

-- a FENCE before a call
abbrev pub fencing : Loaded
fencing = frame (0x0FF0000F ∷ 0x00000073 ∷ [])

-- a FENCE is not kept
pub record FenceRows : Type 0 where
  pub masks : solved (points (record { cut = []; dead = []; writes = []; same = [] }) (0x00010000 ∷ [])
      (graph (program_word fencing) (row 0x00010000 1 0 false ∷ row 0x00010004 1 0 false ∷ []) (record { cut = []; dead = []; writes = []; same = [] })))
      ≡ mask 0x00010000 0 0 false ∷ mask 0x00010004 0 0 true ∷ []
