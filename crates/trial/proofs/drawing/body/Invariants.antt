-- Drawn so far, with what is to come.
use Rattle.std.proofs.Common.{◌≡◌, ◌-◌, ◌++◌, map}
use Rattle.rv_word.specs.Spelling.{spelling}
use Rattle.trial.specs.Made.{body}
use Rattle.trial.proofs.drawing.body.Given as goal

abbrev pub invariant-loop-i : goal.invariant-loop-i
invariant-loop-i l = record {
  value : l.fn.words.items ++ map spelling (body l.k l.fn.g).0 ≡ l.words.items ++ map spelling (body (l.k - l.i) l.g).0;
  rest : (body l.k l.fn.g).1 ≡ (body (l.k - l.i) l.g).1;
}
