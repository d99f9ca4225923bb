-- The masks of a word are fit.
use Rattle.std.proofs.Common.{ℕ, Bool, sym, ap, ◌∙◌, subst, arith, cond}
use Rattle.rv_word.specs.declared.inst.Inst.{Inst}
use Rattle.rv_semantics.specs.Prints.{task_reads, task_writes}
use Rattle.distill_rules.specs.Flow.{Site}
use Rattle.distill_rules.specs.Points.{fate_of}
use Rattle.distill_rules.specs.Solution.{IsFit}
use Rattle.distill_rules.proofs.Fitting.{point_fits}
use Rattle.liveness.proofs.part.part_of.Goals as goal

pub returns-clause-fit : goal.returns-clause-fit
returns-clause-fit c =
    let s : Site = record { pc = c.spot.inside.pc; word = c.spot.inside.word; next = c.in_ok-from_slice.field-0.items } in
    let known = c.args.known in
    let prints : ℕ → Bool = λ pc. known.prints in
    let means = c.decode-instruction.ensures.means in
    let read = sym (c.task_reads-reads.ensures ∙ ap (λ (i : Inst). task_reads prints i 0) means) in
    let written = sym (c.task_writes.ensures ∙ ap (λ (i : Inst). task_writes prints i 0) means) in
    let fate = sym (c.fate.ensures ∙ ap (fate_of known.cut known.dead) means) in
    subst IsFit
    (λ i. record {
      pc = s.pc;
      next = s.next;
      reads = read i;
      asks = (ap (cond known.is_set 0) read ∙ sym c.asks.ensures) i;
      writes = written i;
      fate = fate i;
      is_anchor = known.is_anchor;
    })
    (point_fits prints known.cut known.dead known.is_set known.is_anchor s (omega arith))
