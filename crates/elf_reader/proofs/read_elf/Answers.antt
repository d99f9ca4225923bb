-- An accepted file passes each test.
use Rattle.std.proofs.Common.{sym, ◌∙◌, subst}
use Rattle.std.proofs.lemmas.Result.{err_from_is_err_and}
use Rattle.elf_reader.specs.Executable.{IsProgram}
use Rattle.elf_reader.specs.Header.{program_headers}
use Rattle.elf_reader.proofs.Accepted.{is_program, program_is, parts_end}
use Rattle.elf_reader.proofs.Memory.{refusal-never_memory}
use Rattle.elf_reader.proofs.Small.{have_bytes}
use Rattle.elf_reader.proofs.Rows.{passes_all, header_fits}
use Rattle.elf_reader.proofs.read_elf.Goals as goal

pub returns-in_err-header-clause-memory : goal.returns-in_err-header-clause-memory
returns-in_err-header-clause-memory c =
    let p = err_from_is_err_and c.from_residual.result c.from_residual.ensures.1 in
    λ m. absurd (refusal-never_memory c.args.bytes.now (cc (m, p.1, p.2, c.in_err-header.ensures.refused)))

pub parts_of-requires : goal.parts_of-requires
parts_of-requires c =
    let passes = passes_all c.args.bytes.now c.in_ok-header.header c.in_ok-header.ensures.header c.in_ok-header.ensures.refused in
    record { table = (header_fits _ _ passes.rest).table; accepted = sym passes.loads }

pub first_break-first_break-requires : goal.first_break-first_break-requires
first_break-first_break-requires c =
    parts_end c.args.bytes.now c.in_ok-header.header c.deref.result.now c.in_ok-header.ensures.header c.in_ok-header.ensures.refused (c.deref.ensures.value ∙ c.in_ok-parts.ensures)

pub returns-clause-accepted : goal.returns-clause-accepted
returns-clause-accepted c = (
  sym c.in_ok-header.ensures.refused,
  program_is c.args.bytes.now c.in_ok-header.header _ _ c.in_ok-header.ensures.header c.in_ok-parts.ensures (rw c.deref.ensures.value at c.first_break-first_break.ensures),
)

pub returns-clause-program : goal.returns-clause-program
returns-clause-program c =
    let is = program_is c.args.bytes.now c.in_ok-header.header _ _ c.in_ok-header.ensures.header c.in_ok-parts.ensures (rw c.deref.ensures.value at c.first_break-first_break.ensures) in
    subst IsProgram (sym is) (is_program c.args.bytes.now c.in_ok-header.ensures.refused)

pub invariant_of-result : goal.invariant_of-result
invariant_of-result c = rw c.in_ok-parts.ensures (have_bytes c.args.bytes.now (program_headers c.args.bytes.now c.in_ok-header.header) c.are_bytes.ensures)
