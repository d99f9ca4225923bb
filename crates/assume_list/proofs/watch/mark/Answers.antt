-- Bytes that have the mark already.
use Rattle.std.proofs.Common.{◌≡◌, ℕ, true, sym, ◌∙◌}
use Rattle.fitting.specs.Claims.{among}
use Rattle.profile_laws.specs.Tally.{places}
use Rattle.access_trace.specs.Shadows.{mark_at}
use Rattle.assume_list.proofs.Marks.{no_byte, put_already, said_of}
use Rattle.assume_list.proofs.watch.mark.Goals.{then-puts-eq0-via-then-puts-eq0, then-puts-eq0-via-else-puts-eq0+then-eq}
use Rattle.assume_list.proofs.watch.mark.Goals as goal

pub returns-then-puts-eq0 : goal.returns-then-puts-eq0
returns-then-puts-eq0 g c = λ claimed is a.
    put_already (among (places c.args.coming.now.puts.count c.args.coming.now.puts.from) a) (mark_at g.M.Memory.at c.args.marks.now a) c.mark_of-mark.result _ (c.mark_of-mark.ensures.mark c.args.coming.now.stores claimed is)
    (elim c.then-puts-eq0.branch [
      | then-puts-eq0-via-then-puts-eq0 w ↦ λ h. absurd (no_byte c.args.coming.now.puts.count c.args.coming.now.puts.from a w.if-puts-eq0.true h)
      | then-puts-eq0-via-else-puts-eq0+then-eq w ↦ said_of w.common.result c.mark_of-mark.result
          (λ mark. (b : ℕ) → among (places c.args.coming.now.puts.count c.args.coming.now.puts.from) b ≡ true → mark_at g.M.Memory.at c.args.marks.now b ≡ mark) w.common.ensures.marks
          (sym w.if-eq.true ∙ w.eq.ensures) a
    ])
