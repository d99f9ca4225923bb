-- The byte at an address, in pages of 4,096 bytes that a directory finds. What no page holds is 0.
use Rattle.std.specs.Prelude.{ℕ, ◌≡◌, ◌+◌, ◌<◌, ◌/◌, ◌%◌, ◌==◌, if◌then◌else◌, List, [], ◌++◌, length, take, drop, Option, Some, None, slice_index, slice_get, vec_len, option_map}
use Rattle.memory.specs.declared.directory.Table.{Table}
use Rattle.memory.specs.declared.directory.Directory.{Directory}
use Rattle.memory.specs.declared.page.Page.{Page}

-- the place that a table gives for a page number with these two digits
abbrev pub entry : Option Table → ℕ → ℕ → ℕ
entry None upper lower = 0
entry (Some table) upper lower = if table.upper == upper then slice_index table.places lower else 0

-- the place that a directory gives for a page
abbrev pub place_in : Directory → ℕ → ℕ
place_in d n = entry (slice_get d.tables.items (slice_index d.top (n / 1024))) (n / 1024) (n % 1024)

-- the table of an upper digit is the one at this index
abbrev pub IsTableOf : Directory → ℕ → ℕ → Type 0
IsTableOf d upper at = (slice_index d.top upper ≡ at) × (at < vec_len d.tables) × (option_map (λ t. t.upper) (slice_get d.tables.items at) ≡ Some upper)

-- the place of a page is this one, and the others are the same as before
abbrev pub IsSet : Directory → Directory → ℕ → ℕ → Type 0
IsSet before after number place = (n : ℕ) → place_in after n ≡ (if n == number then place else place_in before n)

-- the number of the page at a place
abbrev pub number_at : List Page → ℕ → Option ℕ
number_at pages place = option_map (λ page. page.number) (slice_get pages place)

-- the bytes of page n, if it is this one
abbrev pub bytes_if : Option Page → ℕ → List ℕ
bytes_if None n = []
bytes_if (Some page) n = if page.number == n then page.bytes else []

-- the bytes of page n, if it lies at this place
abbrev pub bytes_at : List Page → ℕ → ℕ → List ℕ
bytes_at pages place n = bytes_if (slice_get pages place) n

-- a list with these bytes in place of as many from an index on
abbrev pub overwritten : List ℕ → ℕ → List ℕ → List ℕ
overwritten xs from bytes = take from xs ++ (bytes ++ drop (from + length bytes) xs)

-- page n, at this place, has the bytes of before, but these from an index on
abbrev pub IsWritten : List Page → List Page → ℕ → ℕ → ℕ → List ℕ → Type 0
IsWritten before after place n from bytes = bytes_at after place n ≡ overwritten (bytes_at before place n) from bytes

-- at each place the bytes of each page are the same as before, but those of one page at one place
abbrev pub AreOthersSame : List Page → List Page → ℕ → ℕ → Type 0
AreOthersSame before after place number = (p n : ℕ) → (p ≡ place → n ≡ number → ⊥) → bytes_at after p n ≡ bytes_at before p n

-- the byte at an address, where these are the places of the pages
abbrev pub byte_in : (ℕ → ℕ) → List Page → ℕ → ℕ
byte_in place pages a = slice_index (bytes_at pages (place (a / 4096)) (a / 4096)) (a % 4096)

-- page n lies where its place says
abbrev pub IsMade : (ℕ → ℕ) → List Page → ℕ → Type 0
IsMade place pages n = number_at pages (place n) ≡ Some n
