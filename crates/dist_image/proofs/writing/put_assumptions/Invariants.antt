-- The assumptions so far are written.
use Rattle.std.proofs.Common.{◌≡◌, ◌++◌, take, map}
use Rattle.dist_image.specs.Image.{premise}
use Rattle.dist_image.specs.Bytes.{premise_words, table_bytes}
use Rattle.dist_image.proofs.writing.put_assumptions.Given as goal

abbrev pub invariant-loop-assumption : goal.invariant-loop-assumption
invariant-loop-assumption l = l.out.items ≡ l.fn.out.items ++ table_bytes premise_words (map premise (take l.assumption-index l.assumptions))
