-- What was put, what waits, and the lines that are left are all of the lines.
use Rattle.std.proofs.Common.{◌≡◌, ℕ, ◌≤◌, List, ◌++◌, drop}
use Rattle.outside.specs.Answers.{Gains}
use Rattle.report.specs.Show.{lines_from}
use Rattle.report.proofs.putting.put_lines.Given as goal

abbrev pub invariant-loop-number : goal.invariant-loop-number
invariant-loop-number g l = record {
  never_falls : g.O.Sink.faults l.fn.o ≤ g.O.Sink.faults l.o;
  told : (put : List ℕ) × Gains (g.O.Sink.told l.fn.o) (g.O.Sink.told l.o) put
      × (put ++ (l.waiting.items ++ lines_from g.T.Entry.text l.number (drop l.number l.entries)) ≡ lines_from g.T.Entry.text 0 l.entries);
}
