-- The first that differs is the one found, and from 32 on no register is marked.
use Rattle.std.proofs.Common.{ℕ, ◌<◌, ◌≤◌, not, Some, None, cond, sym, ap, ◌∙◌, arith, get_or, ⊎_elim}
use Rattle.std.specs.Prelude.{slice_index}
use Rattle.std.proofs.lemmas.Bool.{ne_eqb, cases_lt}
use Rattle.cells.specs.Differ.{is_other}
use Rattle.cells.proofs.FirstWhere.{first_where_at, first_where_none_of}
use Rattle.layers.specs.Layered.{put_reg}
use Rattle.layers.proofs.Marks.{has-above}
use Rattle.layers.proofs.overlay.first_register.Goals as goal

pub returns-then-base-i-clause-first : goal.returns-then-base-i-clause-first
returns-then-base-i-clause-first c =
    let i = c.loop-i.i in
    let p = λ (n : ℕ). is_other (put_reg c.args.marks (slice_index c.args.base.now) n) (get_or c.args.regs.now n 0) in
    sym (first_where_at p 32 i
    (ap (λ b. is_other (cond b (Some (get_or c.args.base.now i 0)) None) (get_or c.args.regs.now i 0)) (sym c.has_register.ensures ∙ c.if-has_register.true) ∙ ap not (ne_eqb (get_or c.args.base.now i 0) (get_or c.args.regs.now i 0) c.if-base-i.true))
    (omega arith) c.loop-i.invariant)

pub returns-clause-first : goal.returns-clause-first
returns-clause-first c =
    let p = λ (n : ℕ). is_other (put_reg c.args.marks (slice_index c.args.base.now) n) (get_or c.args.regs.now n 0) in
    sym (first_where_none_of p 32 (λ j l. c.loop-i.invariant j (omega arith)))

pub returns-clause-none : goal.returns-clause-none
returns-clause-none c = λ n. ⊎_elim
    (λ (l : n < 32). c.loop-i.invariant n (omega arith))
    (λ (l : 32 ≤ n). ap (λ b. is_other (cond b (Some (get_or c.args.base.now n 0)) None) (get_or c.args.regs.now n 0)) (has-above c.args.marks 32 n c.ranges.marks.fits l))
    (cases_lt n 32)
