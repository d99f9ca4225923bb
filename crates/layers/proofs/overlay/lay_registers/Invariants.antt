-- The registers done hold what was put; all others are as they were.
use Rattle.std.proofs.Common.{◌≡◌, ℕ, get_or, cond, unwrap_or, nat_lt}
use Rattle.std.specs.Prelude.{slice_index}
use Rattle.layers.specs.Layered.{put_reg}
use Rattle.layers.proofs.overlay.lay_registers.Given as goal

abbrev pub invariant-loop-i : goal.invariant-loop-i
invariant-loop-i l = (n : ℕ) → get_or l.regs n 0 ≡ cond (nat_lt n l.i) (unwrap_or (put_reg l.marks (slice_index l.set) n) (get_or l.fn.regs n 0)) (get_or l.fn.regs n 0)
