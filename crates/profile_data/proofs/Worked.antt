-- Worked profiles and files, by computing.
use Rattle.std.proofs.Common.{◌≡◌, ℕ, true, false, [], ◌∷◌, ◌++◌, Ok, Err, refl}
use Rattle.profile_data.specs.declared.error.ProfileErr.TheVariants.{Twice, Sum, Long}
use Rattle.profile_data.specs.Profile.{Tally, Profiled}
use Rattle.profile_data.specs.Bytes.{bytes_of}
use Rattle.word_format.specs.Bytes.{words}
use Rattle.word_format.specs.Reading.{entries, next_address}
use Rattle.profile_data.specs.Reading.{next_header, next_head, next_row, profile_from}

-- a row that was neither read nor changed, and has no targets
abbrev plain : ℕ → ℕ → ℕ → Tally
plain pc executed taken = record { pc = pc; executed = executed; taken = taken; read = false; changed = false; targets = [] }

-- a loop of ten turns with a comparison that is never true
abbrev never_true : Profiled
never_true = record { steps = 45; ended = true; rows = plain 0x10000 1 0 ∷ plain 0x10004 10 0 ∷ plain 0x10008 10 0 ∷ plain 0x1000C 10 0 ∷ plain 0x10010 10 9 ∷ plain 0x10014 1 0 ∷ plain 0x1001C 1 0 ∷ plain 0x10020 1 0 ∷ plain 0x10024 1 0 ∷ [] }

-- a store that is read, and an indirect jump that was changed
abbrev two_targets : Profiled
two_targets = record { steps = 3; ended = false; rows = record { pc = 8; executed = 1; taken = 0; read = true; changed = false; targets = [] } ∷ record { pc = 4; executed = 2; taken = 0; read = false; changed = true; targets = 0 ∷ 0xFFFFFFFC ∷ [] } ∷ [] }

two_targets_spelled : bytes_of two_targets ≡ words (0x4650_534D ∷ 1 ∷ 3 ∷ 0 ∷ 0 ∷ 2 ∷ 8 ∷ 1 ∷ 1 ∷ 0 ∷ 0 ∷ 0 ∷ 0 ∷ 4 ∷ 2 ∷ 2 ∷ 0 ∷ 0 ∷ 0 ∷ 2 ∷ 0 ∷ 0xFFFFFFFC ∷ [])
two_targets_spelled = refl

two_targets_read : profile_from (bytes_of two_targets) ≡ Ok two_targets
unfolding profile_from next_header entries next_row next_head next_address
two_targets_read = refl

never_true_read : profile_from (bytes_of never_true) ≡ Ok never_true
unfolding profile_from next_header entries next_row next_head next_address
never_true_read = refl

abbrev nothing : Profiled
nothing = record { steps = 0; ended = false; rows = [] }

nothing_read : profile_from (bytes_of nothing) ≡ Ok nothing
unfolding profile_from next_header entries
nothing_read = refl

long : profile_from (bytes_of nothing ++ 0 ∷ []) ≡ Err Long
unfolding profile_from next_header entries
long = refl

-- a row that no step executed, and a byte after it
sum_before_long : profile_from (bytes_of (record { steps = 0; ended = false; rows = plain 4 1 0 ∷ [] }) ++ 0 ∷ []) ≡ Err Sum
unfolding profile_from next_header entries next_row next_head next_address
sum_before_long = refl

-- sums do not wrap
wide_sum : profile_from (bytes_of (record { steps = 0; ended = false; rows = plain 4 0xFFFF_FFFF_FFFF_FFFF 0 ∷ plain 8 1 0 ∷ [] })) ≡ Err Sum
unfolding profile_from next_header entries next_row next_head next_address
wide_sum = refl

twice : profile_from (bytes_of (record { steps = 2; ended = false; rows = plain 4 1 0 ∷ plain 4 1 0 ∷ [] })) ≡ Err (Twice 1)
unfolding profile_from next_header entries next_row next_head next_address
twice = refl
