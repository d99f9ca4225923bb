-- The file of up to a million words is accepted.
use Rattle.std.proofs.Common.{◌≡◌, ℕ, ◌+◌, ◌*◌, ◌≤◌, ◌<◌, ◌^◌, nat_lt, nat_eq, true, false, List, [], ◌∷◌, ◌++◌, length, drop, None, refl, ◌∙◌, arith}
use Rattle.std.specs.Prelude.{slice_index}
use Rattle.std.specs.List.{starts_with, list_any}
use Rattle.std.specs.Int.{w32, to_le_bytes}
use Rattle.std.proofs.lemmas.Nat.{from_le_bytes-to_le_bytes_4}
use Rattle.std.proofs.lemmas.Bool.{le-ltb}
use Rattle.byteorder.specs.Endian.{little_number}
use Rattle.elf_reader.specs.Header.{file_header, program_header, program_headers}
use Rattle.elf_reader.specs.declared.error.ElfErr.TheVariants.{Interp}
use Rattle.elf_reader.specs.Refusal.{first_that_stands, refusal, identification_rows, header_rows, fault_rows, is_interpreter, faults_from, faults}
use Rattle.trial.specs.Made.{words}
use Rattle.trial.specs.File.{bytes_of, front, loads, file_of, MadeIsAccepted}
use Rattle.trial.proofs.Sizes.{words_few, length-bytes}

size_is : (n : ℕ) (rest : List ℕ) → n < 2 ^ 32 → little_number 4 (to_le_bytes w32 n ++ rest) ≡ n
size_is n rest h = omega (arith, from_le_bytes-to_le_bytes_4 n h)

by_fields : (file : List ℕ) (n : ℕ) → length file ≡ 84 + n → n ≤ 4_000_000
    → starts_with nat_eq file (0x7F ∷ 0x45 ∷ 0x4C ∷ 0x46 ∷ []) ≡ true → slice_index file 4 ≡ 1 → slice_index file 5 ≡ 1 → slice_index file 6 ≡ 1
    → file_header file ≡ record { e_type = 2; e_machine = 243; e_entry = 0x10000; e_phoff = 52; e_flags = 0; e_phentsize = 32; e_phnum = 1 }
    → program_header (drop 52 file) ≡ record { p_type = 1; p_offset = 84; p_vaddr = 0x10000; p_filesz = n; p_memsz = n }
    → refusal file ≡ None
unfolding refusal identification_rows header_rows fault_rows
by_fields file n long few magic class endian version header loaded =
    let short : nat_lt (length file) 52 ≡ false = le-ltb _ _ (omega (arith, long)) in
    let table : nat_lt (length file) 84 ≡ false = le-ltb _ _ (omega (arith, long)) in
    let outside : nat_lt (length file) (84 + n) ≡ false = le-ltb _ _ (omega (arith, long)) in
    let larger : nat_lt n n ≡ false = le-ltb _ _ (omega arith) in
    let wraps : nat_lt 0xFFFFF000 (0x10000 + n) ≡ false = le-ltb _ _ (omega (arith, few)) in
    (λ i. first_that_stands (identification_rows file ++ header_rows file (header i) ++ (list_any is_interpreter (program_headers file (header i)), Interp) ∷ faults file (header i)))
    ∙ (λ i. first_that_stands (identification_rows file ++ header_rows file (header 1) ++ (list_any is_interpreter (loaded i ∷ []), Interp) ∷ faults_from file 0 (loaded i ∷ [])))
    ∙ rw (short, magic, class, endian, version, table, outside, larger, wraps) refl

pub accepted : (ws : List ℕ) → length ws ≤ 1_000_000 → refusal (file_of ws) ≡ None
accepted ws few =
    let n = 4 * length ws in
    let size = size_is n (to_le_bytes w32 n ++ (bytes_of (5 ∷ 4 ∷ []) ++ bytes_of ws)) (omega (arith, few)) in
    let long : length (file_of ws) ≡ 84 + n = omega (arith, length-bytes ((front ++ loads n) ++ ws)) in
    by_fields (file_of ws) n long (omega (arith, few)) refl refl refl refl refl
    (λ i. record { p_type = 1; p_offset = 84; p_vaddr = 0x10000; p_filesz = size i; p_memsz = size i })

pub all_accepted : MadeIsAccepted
all_accepted seed size few = accepted (words seed size) (omega (arith, words_few seed size, few))
