-- Whether rows are too wide for a profile, as a test.
use Rattle.std.specs.Prelude.{nat_lt, ◌||◌, Bool, List, length}
use Rattle.profile_data.specs.Profile.{Tally, target_count}

-- more rows, or more targets in all, than a profile can hold
abbrev pub is_wide : List Tally → Bool
is_wide rows = nat_lt 524_288 (length rows) || nat_lt 1_048_576 (target_count rows)
