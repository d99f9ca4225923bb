-- None of the registers done differs.
use Rattle.std.proofs.Common.{◌≡◌, ◌<◌, ℕ, false, get_or}
use Rattle.std.specs.Prelude.{slice_index}
use Rattle.cells.specs.Differ.{is_other}
use Rattle.layers.specs.Layered.{put_reg}
use Rattle.layers.proofs.overlay.first_register.Given as goal

abbrev pub invariant-loop-i : goal.invariant-loop-i
invariant-loop-i l = (k : ℕ) → k < l.i → is_other (put_reg l.marks (slice_index l.base) k) (get_or l.regs k 0) ≡ false
