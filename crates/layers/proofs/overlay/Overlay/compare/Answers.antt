-- The first cell that differs, in order.
use Rattle.std.proofs.Common.{◌≡◌, ℕ, not, sym, ap, ◌∙◌, cond, Option, Some, None, get_or, unwrap_or}
use Rattle.std.proofs.lemmas.Bool.{ne_eqb, eq-eqb}
use Rattle.cells.specs.declared.Cell.TheVariants.{Pc, Reg, Byte}
use Rattle.cells.specs.declared.Differ.{Differ}
use Rattle.rv_semantics.specs.Values.{plain_value}
use Rattle.cells.proofs.Differs.{differ_pc, differ_reg, differ_byte}
use Rattle.layers.specs.Layered.{read_of, base_of, cells_of, of_marks}
use Rattle.layers.proofs.overlay.Overlay.compare.Goals as goal

pub returns-then-self-a-clause-first : goal.returns-then-self-a-clause-first
unfolding cells_of of_marks
returns-then-self-a-clause-first g c =
    let v = c.args.self.now in
    let a = c.args.a.now in
    sym (differ_pc (of_marks (read_of v) (base_of g.M.Memory.at v)) (plain_value a.pc a.regs (g.M.Memory.at a.mem)) (ap not (ne_eqb v.start a.pc c.if-self-a.true)))

pub returns-in-Some-clause-first : goal.returns-in-Some-clause-first
unfolding cells_of of_marks
returns-in-Some-clause-first g c =
    let v = c.args.self.now in
    let a = c.args.a.now in
    let r = c.in-Some.r in
    let told_at : ℕ → Option Differ = λ p. Some (record { cell = Reg c.in-Some.r; predicted = p; found = get_or a.regs c.in-Some.r 0 }) in
    sym (differ_reg (of_marks (read_of v) (base_of g.M.Memory.at v)) (plain_value a.pc a.regs (g.M.Memory.at a.mem)) r (ap not (eq-eqb v.start a.pc c.if-self-a.false)) (sym c.in-Some.ensures.first)
    ∙ ap (λ b. told_at (unwrap_or (cond b (Some (get_or v.regs c.in-Some.r 0)) None) 0)) c.in-Some.ensures.recorded)

pub returns-in-Some-first_other-clause-first : goal.returns-in-Some-first_other-clause-first
unfolding cells_of of_marks
returns-in-Some-first_other-clause-first g c =
    let v = c.args.self.now in
    let a = c.args.a.now in
    let k = c.in-Some-first_other.at in
    let predicted : g.M.Memory.at v.mem k ≡ c.from.result = sym (c.from.ensures ∙ c.get.ensures) in
    let found : g.M.Memory.at a.mem k ≡ c.from-in-Some-first_other.result = sym (c.from-in-Some-first_other.ensures ∙ c.get-in-Some-first_other.ensures) in
    let told_at : ℕ → ℕ → Option Differ = λ p f. Some (record { cell = Byte k; predicted = p; found = f }) in
    sym (differ_byte (of_marks (read_of v) (base_of g.M.Memory.at v)) (plain_value a.pc a.regs (g.M.Memory.at a.mem)) (Some k) (ap not (eq-eqb v.start a.pc c.if-self-a.false)) (sym c.in_default.ensures.first) (sym c.in-Some-first_other.ensures.first)
    ∙ ap (λ b. told_at (unwrap_or (cond b (Some (g.M.Memory.at v.mem k)) None) 0) (g.M.Memory.at a.mem k)) c.in-Some-first_other.ensures.recorded
    ∙ (λ i. told_at (predicted i) (found i)))

pub returns-in-None-clause-first : goal.returns-in-None-clause-first
unfolding cells_of of_marks
returns-in-None-clause-first g c =
    let v = c.args.self.now in
    let a = c.args.a.now in
    sym (differ_byte (of_marks (read_of v) (base_of g.M.Memory.at v)) (plain_value a.pc a.regs (g.M.Memory.at a.mem)) None (ap not (eq-eqb v.start a.pc c.if-self-a.false)) (sym c.in_default.ensures.first) (sym c.in-None.ensures.first))

pub returns-in-None-clause-none : goal.returns-in-None-clause-none
unfolding cells_of of_marks
returns-in-None-clause-none g c = elim [
  | Pc ↦ ap not (eq-eqb c.args.self.now.start c.args.a.now.pc c.if-self-a.false)
  | Reg n ↦ c.in_default.ensures.none n
  | Byte a ↦ c.in-None.ensures.none a
]
