-- The parts of program headers.
use Rattle.std.proofs.Common.{◌≡◌, ℕ, Bool, true, false, cond, List, [], ◌∷◌, ◌++◌, map, filter, sym, ap, ◌∙◌, append_assoc}
use Rattle.elf_reader.specs.declared.header.ProgramHeader.{ProgramHeader}
use Rattle.elf_reader.specs.Executable.{Segment}
use Rattle.elf_reader.specs.Refusal.{is_load}
use Rattle.elf_reader.specs.Accepted.{segment, segments}

-- a header that asks for a part
pub segments-load : (file : List ℕ) (entry : ProgramHeader) (entries : List ProgramHeader) → is_load entry ≡ true →
    segments file (entry ∷ entries) ≡ segment file entry ∷ segments file entries
segments-load file entry entries is =
    ap (λ (b : Bool). map (segment file) (cond b (entry ∷ filter is_load entries) (filter is_load entries))) is

-- a header that asks for none
pub segments-other : (file : List ℕ) (entry : ProgramHeader) (entries : List ProgramHeader) → is_load entry ≡ false →
    segments file (entry ∷ entries) ≡ segments file entries
segments-other file entry entries is =
    ap (λ (b : Bool). map (segment file) (cond b (entry ∷ filter is_load entries) (filter is_load entries))) is

-- the parts so far, with the next one
pub segments-push : (file : List ℕ) (entry : ProgramHeader) (entries : List ProgramHeader) (parts all : List Segment) → is_load entry ≡ true →
    parts ++ segments file (entry ∷ entries) ≡ all → (parts ++ segment file entry ∷ []) ++ segments file entries ≡ all
segments-push file entry entries parts all is h =
    append_assoc parts (segment file entry ∷ []) (segments file entries) ∙ ap (λ (more : List Segment). parts ++ more) (sym (segments-load file entry entries is)) ∙ h

-- the parts so far, where there is no next one
pub segments-skip : (file : List ℕ) (entry : ProgramHeader) (entries : List ProgramHeader) (parts all : List Segment) → is_load entry ≡ false →
    parts ++ segments file (entry ∷ entries) ≡ all → parts ++ segments file entries ≡ all
segments-skip file entry entries parts all is h =
    ap (λ (more : List Segment). parts ++ more) (sym (segments-other file entry entries is)) ∙ h
