-- The bytes that a plain memory holds, and the pages that it has.
use Rattle.std.specs.Prelude.{ℕ}
use Rattle.memory.specs.declared.plain.PlainMemory.{PlainMemory}
use Rattle.memory.specs.Pages.{place_in, byte_in, IsMade}

-- the byte that a plain memory has at an address
abbrev pub held : PlainMemory → ℕ → ℕ
held m = byte_in (place_in m.directory) m.pages.items

-- page n is made
abbrev pub HasPage : PlainMemory → ℕ → Type 0
HasPage m n = IsMade (place_in m.directory) m.pages.items n
