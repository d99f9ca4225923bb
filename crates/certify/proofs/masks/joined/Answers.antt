-- Bit by bit.
use Rattle.fitting.specs.Fits.{live_at, need_at}
use Rattle.certify.proofs.Joined.{both}
use Rattle.certify.proofs.masks.joined.Goals as goal

pub returns : goal.returns
returns c = λ image ps qs f g. record { live = both (live_at image) ps qs _ _ f.live g.live; need = both (need_at image) ps qs _ _ f.need g.need }
