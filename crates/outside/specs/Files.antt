-- Files by name, and the files that a list of names with their bytes stands for.
use Rattle.std.specs.Prelude.{ℕ, Bool, true, not, ◌&&◌, IsTrue, List, [], ◌∷◌, map, string_bytes, String, Vec}
use Rattle.std.specs.declared.alloc.Global.{Global}
use Rattle.std.specs.Cmp.Lexicographic.{slice_cmp}
use Rattle.std.specs.FinMap as finite
use Rattle.std.specs.Coded.{Coded, coded_list, coded_ℕ}
use Rattle.std.specs.List.{list_any}
use Rattle.std.specs.Ordering.{nat_cmp}
use Rattle.std.specs.Str.{bytes_eq}

-- files by the bytes of their names
abbrev pub Files : Type 0
Files = finite.FinMap (slice_cmp nat_cmp) (List ℕ)

-- how a map is told from another
abbrev pub files_code : Coded Files
files_code = finite.code (coded_list coded_ℕ) (coded_list coded_ℕ)

-- a name with its bytes, as the code holds them
abbrev pub Entry : Type 0
Entry = String Global × Vec ℕ Global

-- a file's name and bytes
abbrev pub entry_of : Entry → List ℕ × List ℕ
entry_of e = (string_bytes e.0, e.1.items)

-- the file of a name is the first of that name
abbrev pub files_of : List Entry → Files
files_of es = finite.from_entries (map entry_of es)

-- no name is among the names after it
abbrev pub are_distinct : List (List ℕ) → Bool
are_distinct [] = true
are_distinct (name ∷ names) = not (list_any (bytes_eq name) names) && are_distinct names

-- no two files have one name
abbrev pub HasDistinctNames : List Entry → Type 0
HasDistinctNames es = IsTrue (are_distinct (map (λ e. string_bytes e.0) es))

-- whether an entry has this name
abbrev pub is_named : List ℕ → Entry → Bool
is_named name e = bytes_eq (string_bytes e.0) name
