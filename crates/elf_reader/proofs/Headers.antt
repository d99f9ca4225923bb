-- The program headers from a number on.
use Rattle.std.proofs.Common.{◌≡◌, ℕ, zero, suc, ◌+◌, ◌-◌, ◌<◌, List, ◌∷◌, length, drop, refl, sym, ap, arith, ◌∙◌}
use Rattle.elf_reader.specs.declared.header.FileHeader.{FileHeader}
use Rattle.elf_reader.specs.declared.header.ProgramHeader.{ProgramHeader}
use Rattle.elf_reader.specs.Header.{headers_from, header_place, program_header}

-- the first of those that are left, and the others
pub headers_from-next : (file : List ℕ) (header : FileHeader) (entry : ProgramHeader) (i n : ℕ) → i < n → entry ≡ program_header (drop (header_place header i) file) →
    headers_from file header i (n - i) ≡ entry ∷ headers_from file header (i + 1) (n - (i + 1))
headers_from-next file header entry i n h is =
    let more : n - i ≡ suc (n - (i + 1)) = omega arith in
    ap (headers_from file header i) more ∙ ap (λ (e : ProgramHeader). e ∷ headers_from file header (i + 1) (n - (i + 1))) (sym is)

-- as many as were asked for
pub length-headers_from : (file : List ℕ) (header : FileHeader) (i n : ℕ) → length (headers_from file header i n) ≡ n
length-headers_from file header i zero = refl
length-headers_from file header i (suc n) = let rest = length-headers_from file header (i + 1) n in omega (arith, rest)
