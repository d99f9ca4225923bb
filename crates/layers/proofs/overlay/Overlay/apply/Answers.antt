-- The registers and the bytes that were put are laid over the state.
use Rattle.std.proofs.Common.{ℕ, ap, ◌∙◌, unwrap_or}
use Rattle.std.specs.Prelude.{slice_index}
use Rattle.layers.specs.Lines.{put_at}
use Rattle.layers.specs.Layered.{read_of, base_of, put_reg}
use Rattle.layers.proofs.Cells.{laid_all}
use Rattle.layers.proofs.overlay.Overlay.apply.Goals as goal

pub returns-clause-ok : goal.returns-clause-ok
returns-clause-ok g c =
    let v = c.args.self.now in
    let a = c.args.a.now in
    laid_all (base_of g.M.Memory.at v) (read_of v) (put_reg v.put_regs (slice_index v.set)) (put_at v.kept.lines) c.args.pc a.pc a.regs c.lay_registers.new.regs (g.M.Memory.at a.mem) (g.M.Memory.at c.put_into.new.mem)
    c.lay_registers.ensures (λ q. c.in_ok-put_into.ensures q ∙ ap (λ (m : ℕ → ℕ). unwrap_or (put_at v.kept.lines q) (m q)) c.in_ok-mem.ensures)
