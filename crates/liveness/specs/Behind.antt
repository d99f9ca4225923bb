-- What is joined behind the instructions, and how a mask that grew is joined to it.
use Rattle.std.specs.Prelude.{◌≡◌, ℕ, ◌<◌, Bool, true, false, List, [], ◌∷◌, ◌++◌, ◌⊎◌, length, set, slice_index_or, bit_or}
use Rattle.fitting.specs.Claims.{among}
use Rattle.distill_rules.specs.declared.Mask.{Mask}
use Rattle.distill_rules.specs.Rounds.{Point, live_at, need_at, joined, step}
use Rattle.liveness.specs.declared.behind.Behind.{Behind}
use Rattle.liveness.specs.Waiting.{point_at, mask_at, ArePlaces}

-- what is live and what is needed at the instructions to which one leads
abbrev pub behind_in : List Mask → Point → Behind
behind_in t p = record { live = joined (live_at t) p.next; need = joined (need_at t) p.next }

-- nothing is live or needed
abbrev pub none_behind : Behind
none_behind = record { live = 0; need = 0 }

-- what is joined behind instruction i
abbrev pub behind_at : List Behind → ℕ → Behind
behind_at b i = slice_index_or b i none_behind

-- the same with one more mask
abbrev pub with_mask : Behind → Mask → Behind
with_mask e m = record { live = bit_or e.live m.live; need = bit_or e.need m.need }

-- the same, with one more mask behind instruction i
abbrev pub with_mask_at : List Behind → ℕ → Mask → List Behind
with_mask_at b i m = set b i (with_mask (behind_at b i) m)

-- a look gives at least the registers that an instruction has
pub record HasAll (m n : Mask) : Type 0 where
  pub live : bit_or n.live m.live ≡ m.live
  pub need : bit_or n.need m.need ≡ m.need

-- what is joined is what the table has behind each instruction
abbrev pub Grows : List Point → List Mask → Type 0
Grows ps t = (i : ℕ) → i < length ps → HasAll (step t (point_at ps i)) (mask_at t i)

-- a place waits for the next round unless nothing changes
abbrev pub IsJoined : ℕ → List Behind → List Behind → List ℕ → List ℕ → Type 0
IsJoined i b b' next next' = ((b' ≡ b) × (next' ≡ next)) ⊎ (next' ≡ next ++ i ∷ [])

-- A mask is joined to what is behind these places. Who does not wait for the next round didn't before, and nothing changed behind it.
pub record IsSpread (m : Mask) (to : List ℕ) (b b' : List Behind) (next next' : List ℕ) : Type 0 where
  pub count : length b' ≡ length b
  pub joins : (x : ℕ) → x < length b → among to x ≡ true → behind_at b' x ≡ with_mask (behind_at b x) m
  pub leaves : (x : ℕ) → x < length b → among to x ≡ false → behind_at b' x ≡ behind_at b x
  pub places : ArePlaces (length b) next → ArePlaces (length b) next'
  pub waits : (x : ℕ) → among next' x ≡ false → (among next x ≡ false) × (behind_at b' x ≡ behind_at b x)

-- an anchor waits itself
abbrev pub with_itself : Bool → ℕ → List ℕ → List ℕ
with_itself true i next = next ++ i ∷ []
with_itself false i next = next

-- masks that changed are joined to what is behind their sources
abbrev pub HasNext : ℕ → Bool → Mask → Mask → List ℕ → List Behind → List Behind → List ℕ → List ℕ → Type 0
HasNext i is_anchor old new sources b b' next next' =
    ((old ≡ new) × (b' ≡ b) × (next' ≡ next)) ⊎ IsSpread new sources b b' (with_itself is_anchor i next) next'
