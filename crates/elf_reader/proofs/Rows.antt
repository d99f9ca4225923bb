-- The first refusal among rows of the table, and what the parts of the table say of the whole.
use Rattle.std.proofs.Common.{◌≡◌, ℕ, ◌+◌, ◌-◌, ◌%◌, ◌<◌, ◌≤◌, ◌==◌, ◌&&◌, ◌||◌, not, nat_lt, length, arith, drop, Bool, true, false, cond, List, [], ◌∷◌, ◌++◌, Option, Some, None, refl, sym, ap, subst, ◌∙◌}
use Rattle.std.specs.List.{list_any}
use Rattle.elf_reader.specs.declared.error.ElfErr.{ElfErr}
use Rattle.elf_reader.specs.declared.error.ElfErr.TheVariants.{Kind, Machine, Flags, Entry, Table, TooMany, Interp}
use Rattle.elf_reader.specs.declared.header.FileHeader.{FileHeader}
use Rattle.elf_reader.specs.declared.header.ProgramHeader.{ProgramHeader}
use Rattle.elf_reader.specs.Header.{file_header, program_header, header_place, headers_from, program_headers}
use Rattle.elf_reader.specs.Refusal.{first_that_stands, identification_rows, header_rows, is_interpreter, fault_rows, faults_from, faults, refusal, lacks_table, HasTable}
use Rattle.elf_reader.proofs.Headers.{headers_from-next}

-- where no refusal stands in front, the first is among the others
pub first-append-none : (xs ys : List (Bool × ElfErr)) → None ≡ first_that_stands xs → first_that_stands (xs ++ ys) ≡ first_that_stands ys
first-append-none [] ys h = refl
first-append-none (x ∷ xs) ys h =
    (elim x.0 as (λ b. None ≡ cond b (Some x.1) (first_that_stands xs) → cond b (Some x.1) (first_that_stands (xs ++ ys)) ≡ first_that_stands ys) [
      | true ↦ λ e. cc
      | false ↦ λ e. first-append-none xs ys e
    ]) h

-- a refusal that stands in front is the first
pub first-append-some : (xs ys : List (Bool × ElfErr)) (e : ElfErr) → Some e ≡ first_that_stands xs → Some e ≡ first_that_stands (xs ++ ys)
first-append-some [] ys e h = cc
first-append-some (x ∷ xs) ys e h =
    (elim x.0 as (λ b. Some e ≡ cond b (Some x.1) (first_that_stands xs) → Some e ≡ cond b (Some x.1) (first_that_stands (xs ++ ys))) [
      | true ↦ λ p. p
      | false ↦ λ p. first-append-some xs ys e p
    ]) h

-- where none stands among all, none stands in front, and none among the others
pub none-append : (xs ys : List (Bool × ElfErr)) → None ≡ first_that_stands (xs ++ ys) → (None ≡ first_that_stands xs) × (None ≡ first_that_stands ys)
none-append [] ys h = (refl, h)
none-append (x ∷ xs) ys h =
    (elim x.0 as (λ b. None ≡ cond b (Some x.1) (first_that_stands (xs ++ ys)) → (None ≡ cond b (Some x.1) (first_that_stands xs)) × (None ≡ first_that_stands ys)) [
      | true ↦ λ e. cc
      | false ↦ λ e. none-append xs ys e
    ]) h

-- the rows past the file's header
abbrev pub table_rows : List ℕ → FileHeader → List (Bool × ElfErr)
table_rows file header =
    (list_any is_interpreter (program_headers file header), Interp) ∷ faults file header

-- the refusal of a file that had this header
abbrev refusal_with : List ℕ → FileHeader → Option ElfErr
refusal_with file header = first_that_stands (identification_rows file ++ header_rows file header ++ table_rows file header)

-- a refusal by the first bytes
pub refused_by_identification : (file : List ℕ) (e : ElfErr) → Some e ≡ first_that_stands (identification_rows file) → Some e ≡ refusal file
unfolding refusal
refused_by_identification file e h =
    let header = file_header file in
    let front = first-append-some (identification_rows file) (header_rows file header) e h in
    first-append-some (identification_rows file ++ header_rows file header) (table_rows file header) e front

-- a refusal by the rest of the file's header
pub refused_by_header : (file : List ℕ) (header : FileHeader) (e : ElfErr) → header ≡ file_header file →
    None ≡ first_that_stands (identification_rows file) → Some e ≡ first_that_stands (header_rows file header) → Some e ≡ refusal file
unfolding refusal
refused_by_header file header e is id h =
    let front = h ∙ sym (first-append-none (identification_rows file) (header_rows file header) id) in
    let whole : Some e ≡ refusal_with file header = first-append-some (identification_rows file ++ header_rows file header) (table_rows file header) e front in
    subst (λ (r : FileHeader). Some e ≡ refusal_with file r) is whole

-- where neither refuses, the program headers decide
pub refusal-past_header : (file : List ℕ) (header : FileHeader) → header ≡ file_header file → None ≡ first_that_stands (identification_rows file) →
    None ≡ first_that_stands (header_rows file header) → refusal file ≡ first_that_stands (table_rows file header)
unfolding refusal
refusal-past_header file header is id h =
    let front = h ∙ sym (first-append-none (identification_rows file) (header_rows file header) id) in
    let whole : refusal_with file header ≡ first_that_stands (table_rows file header) = first-append-none (identification_rows file ++ header_rows file header) (table_rows file header) front in
    subst (λ (r : FileHeader). refusal_with file r ≡ first_that_stands (table_rows file header)) is whole

-- no refusal stands among these rows
pub record PassesAll (file : List ℕ) (header : FileHeader) : Type 0 where
  pub identification : None ≡ first_that_stands (identification_rows file)
  pub rest : None ≡ first_that_stands (header_rows file header)
  pub loads : None ≡ first_that_stands (faults file header)

-- where no row at all stands
pub passes_all : (file : List ℕ) (header : FileHeader) → header ≡ file_header file → None ≡ refusal file → PassesAll file header
unfolding refusal
passes_all file header is h =
    let all = subst (λ (r : FileHeader). None ≡ refusal_with file r) (sym is) h in
    let parts = none-append (identification_rows file ++ header_rows file header) (table_rows file header) all in
    let front = none-append (identification_rows file) (header_rows file header) parts.0 in
    let interpreter = (list_any is_interpreter (program_headers file header), Interp) ∷ [] in
    let loads = none-append interpreter (faults file header) parts.1 in
    record { identification = front.0; rest = front.1; loads = loads.1 }

-- the faults of the header that is next, and of the others
pub faults_from-next : (file : List ℕ) (header : FileHeader) (entry : ProgramHeader) (i n : ℕ) → i < n → entry ≡ program_header (drop (header_place header i) file) →
    faults_from file i (headers_from file header i (n - i)) ≡ fault_rows file i entry ++ faults_from file (i + 1) (headers_from file header (i + 1) (n - (i + 1)))
faults_from-next file header entry i n h is = ap (faults_from file i) (headers_from-next file header entry i n h is)

-- a row that doesn't stand, and the rows after it
pub none-cons : (stands : Bool) (e : ElfErr) (rows : List (Bool × ElfErr)) → None ≡ first_that_stands ((stands, e) ∷ rows) → (stands ≡ false) × (None ≡ first_that_stands rows)
none-cons true e rows h = cc
none-cons false e rows h = (refl, h)

-- where the row of the table doesn't stand, the table ends within the file, if there is one
table_within : (count : ℕ) (right : Bool) (size end : ℕ) → (nat_lt 0 count && (not right || nat_lt size end)) ≡ false → 0 < count → end ≤ size
table_within count true size end h some = grind arith
table_within count false size end h some = grind arith

-- what an accepted file's header has
pub record HeaderFits (file : List ℕ) (header : FileHeader) : Type 0 where
  pub aligned : header.e_entry % 4 ≡ 0
  pub table : HasTable file header
  pub few : header.e_phnum ≤ 64

-- where no row of the header stands
pub header_fits : (file : List ℕ) (header : FileHeader) → None ≡ first_that_stands (header_rows file header) → HeaderFits file header
unfolding header_rows
header_fits file header h =
    let kind = not (header.e_type == 2) in
    let machine = not (header.e_machine == 243) in
    let flags = not (header.e_flags % 16 == 0) in
    let entry = not (header.e_entry % 4 == 0) in
    let table = lacks_table file header in
    let many = nat_lt 64 header.e_phnum in
    let after_kind = none-cons kind Kind ((machine, Machine) ∷ (flags, Flags) ∷ (entry, Entry) ∷ (table, Table) ∷ (many, TooMany) ∷ []) h in
    let after_machine = none-cons machine Machine ((flags, Flags) ∷ (entry, Entry) ∷ (table, Table) ∷ (many, TooMany) ∷ []) after_kind.1 in
    let after_flags = none-cons flags Flags ((entry, Entry) ∷ (table, Table) ∷ (many, TooMany) ∷ []) after_machine.1 in
    let after_entry = none-cons entry Entry ((table, Table) ∷ (many, TooMany) ∷ []) after_flags.1 in
    let after_table = none-cons table Table ((many, TooMany) ∷ []) after_entry.1 in
    let after_many = none-cons many TooMany [] after_table.1 in
    record { aligned = grind (arith, after_entry.0); table = table_within header.e_phnum (header.e_phentsize == 32) (length file) (header_place header header.e_phnum) after_table.0; few = grind (arith, after_many.0) }
