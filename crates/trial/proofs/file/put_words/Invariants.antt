-- The bytes so far.
use Rattle.std.proofs.Common.{◌≡◌, ◌++◌}
use Rattle.std.specs.Prelude.{take}
use Rattle.trial.specs.File.{bytes_of}
use Rattle.trial.proofs.file.put_words.Given as goal

abbrev pub invariant-loop-number : goal.invariant-loop-number
invariant-loop-number l = l.out.items ≡ l.fn.out.items ++ bytes_of (take l.number-index l.numbers)
