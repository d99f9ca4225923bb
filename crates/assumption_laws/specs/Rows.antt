-- Worked rows: what the tests tell at positions of small programs.
use Rattle.std.specs.Prelude.{◌≡◌, true, false, List, [], ◌∷◌, Some, None}
use Rattle.dist_image.specs.Image.{Premise, Cut, Targets, Dead, Code, Within, Span, Same, Distilled, nothing_known}
use Rattle.fitting.specs.Rows.{turns, stored, stored_over, jumping, rewriting, exiting, anchored, noting}
use Rattle.assumption_laws.specs.Looks.{first_failing, span_fails}
use Rattle.assumption_laws.specs.Waits.{overdue}

-- an image that lists these and has nothing else
abbrev pub listing : List Premise → Distilled
listing xs = record nothing_known { assumptions = xs }

-- the first failing assumption of worked lists, at worked positions
pub record LookRows : Type 0 where
  -- the branch at the end of a turn is taken
  pub cut : first_failing turns (listing (Cut 0x00010004 true ∷ Cut 0x00010008 true ∷ [])) 2 ≡ Some 1
  pub not_cut : first_failing turns (listing (Cut 0x00010008 false ∷ [])) 2 ≡ None
  pub missing : first_failing jumping (listing (Targets 0x00010004 (0x00010000 ∷ []) ∷ [])) 1 ≡ Some 0
  pub listed : first_failing jumping (listing (Targets 0x00010004 (0x00010008 ∷ []) ∷ [])) 1 ≡ None
  pub loaded : first_failing stored (listing (Dead 0x00010004 ∷ [])) 2 ≡ Some 0
  pub covered : first_failing stored_over (listing (Dead 0x00010004 ∷ [])) 3 ≡ None
  pub replaced : first_failing rewriting (record (noting 0x00010010) { assumptions = Dead 0x00010008 ∷ Code ∷ [] }) 4 ≡ Some 0
  pub changed : first_failing rewriting (record (noting 0x00010010) { assumptions = Code ∷ Within ∷ [] }) 4 ≡ Some 0
  -- the load loads the word's byte 0x00010000, the address that was stored
  pub same : first_failing stored (listing (Span ∷ Same 0x00010008 0x00010000 ∷ [])) 2 ≡ None
  pub other : first_failing stored (listing (Span ∷ Same 0x00010008 0 ∷ [])) 2 ≡ Some 1
  pub left : first_failing turns (record (noting 0x00010004) { assumptions = Code ∷ Within ∷ Span ∷ [] }) 1 ≡ Some 1

-- an arrival is in time at the task limit, a stop only before it
pub record LateRows : Type 0 where
  pub in_time : span_fails turns (anchored 2 0x00010004 1) 1 ≡ false
  pub late : span_fails turns (anchored 1 0x00010004 1) 1 ≡ true
  pub stopped_here : span_fails exiting (anchored 1 0x00010008 1) 2 ≡ false
  pub stopped : span_fails exiting (anchored 3 0x00010000 1) 0 ≡ false
  pub stopped_late : span_fails exiting (anchored 2 0x00010000 1) 0 ≡ true
  pub due : overdue turns (anchored 1 0x00010004 1) 9 2 ≡ true
  pub due_in_time : overdue turns (anchored 2 0x00010004 1) 9 3 ≡ false
