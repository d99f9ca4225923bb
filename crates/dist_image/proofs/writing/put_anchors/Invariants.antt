-- The anchors so far are written.
use Rattle.std.proofs.Common.{◌≡◌, ◌++◌, take}
use Rattle.dist_image.specs.Bytes.{anchor_words, table_bytes}
use Rattle.dist_image.proofs.writing.put_anchors.Given as goal

abbrev pub invariant-loop-anchor : goal.invariant-loop-anchor
invariant-loop-anchor l = l.out.items ≡ l.fn.out.items ++ table_bytes anchor_words (take l.anchor-index l.anchors)
