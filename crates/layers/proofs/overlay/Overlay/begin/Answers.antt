-- A view of which nothing is kept shows its checkpoint.
use Rattle.rv_semantics.specs.Values.{plain_value}
use Rattle.layers.specs.Lines.{is_read, put_at}
use Rattle.layers.proofs.Cells.{begin_seen}
use Rattle.layers.proofs.overlay.Overlay.begin.Goals as goal

pub returns : goal.returns
returns g c = begin_seen (plain_value c.args.pc c.args.regs (g.M.Memory.at c.args.mem)) _ (is_read c.new.result) (put_at c.new.result) c.new.ensures.reads c.new.ensures.puts
