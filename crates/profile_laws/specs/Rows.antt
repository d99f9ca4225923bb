-- Worked rows: the profiles of small programs.
use Rattle.std.specs.Prelude.{◌≡◌, ℕ, true, false, [], ◌∷◌}
use Rattle.rv_semantics.specs.Programs.{frame}
use Rattle.rv_semantics.specs.Start.{start}
use Rattle.profile_data.specs.Profile.{Tally}
use Rattle.fitting.specs.Rows.{never_true, rewriting, store_for_write}
use Rattle.profile_laws.specs.Profiles.{with_mark}
use Rattle.profile_laws.specs.Tally.{profile_of}

-- a row without targets
abbrev pub row : ℕ → ℕ → ℕ → Tally
row pc executed taken = record { pc = pc; executed = executed; taken = taken; read = false; changed = false; targets = [] }

-- a loop of ten turns with a comparison that never holds
pub record NeverTrueRow : Type 0 where
  pub whole : profile_of (with_mark false) (start never_true []) 45 ≡ record {
    steps = 45;
    ended = true;
    rows =
        row 0x00010000 1 0 ∷ row 0x00010004 10 0 ∷ row 0x00010008 10 0 ∷ row 0x0001000c 10 0 ∷ row 0x00010010 10 9
        ∷ row 0x00010014 1 0 ∷ row 0x0001001c 1 0 ∷ row 0x00010020 1 0 ∷ row 0x00010024 1 0 ∷ [];
  }

-- a program that replaces one of its own words: what was stored is fetched
pub record RewritingRow : Type 0 where
  pub whole : profile_of (with_mark false) rewriting 6 ≡ record {
    steps = 6;
    ended = true;
    rows =
        row 0x00010000 1 0 ∷ row 0x00010004 1 0 ∷ record (row 0x00010008 1 0) { read = true } ∷ row 0x0001000c 1 0
        ∷ record (row 0x00010010 1 0) { changed = true } ∷ row 0x00010014 1 0 ∷ [];
  }

-- a store that a write alone shows: with the mark it is read, and the write is counted as taken
pub record ShowingRows : Type 0 where
  pub unmarked : profile_of (with_mark false) (start store_for_write []) 10 ≡ record {
    steps = 10;
    ended = true;
    rows =
        row 0x00010000 1 0 ∷ row 0x00010004 1 0 ∷ row 0x00010008 1 0 ∷ row 0x0001000c 1 0 ∷ row 0x00010010 1 0 ∷ row 0x00010014 1 0 ∷ row 0x00010018 1 0
        ∷ row 0x0001001c 1 0 ∷ row 0x00010020 1 0 ∷ row 0x00010024 1 0 ∷ [];
  }
  pub marked : profile_of (with_mark true) (start store_for_write []) 10 ≡ record {
    steps = 10;
    ended = true;
    rows =
        row 0x00010000 1 0 ∷ row 0x00010004 1 0 ∷ record (row 0x00010008 1 0) { read = true } ∷ row 0x0001000c 1 0 ∷ row 0x00010010 1 0 ∷ row 0x00010014 1 0
        ∷ row 0x00010018 1 1 ∷ row 0x0001001c 1 0 ∷ row 0x00010020 1 0 ∷ row 0x00010024 1 0 ∷ [];
  }

-- a branch that is taken to a pc that is no multiple of 4 ends the run, and counts as taken. A jump by a register to such a pc has no target
pub record AsideRow : Type 0 where
  pub branch : profile_of (with_mark false) (start (frame (0x00000163 ∷ [])) []) 1 ≡ record { steps = 1; ended = true; rows = row 0x00010000 1 1 ∷ [] }
  pub jump : profile_of (with_mark false) (start (frame (0x00200067 ∷ [])) []) 1 ≡ record { steps = 1; ended = true; rows = row 0x00010000 1 0 ∷ [] }
