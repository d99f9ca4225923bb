-- What is too wide gives no image.
use Rattle.std.proofs.Common.{subst}
use Rattle.seq_machine.specs.Parts.{start_of}
use Rattle.profile_laws.specs.Profiles.{with_mark, IsWide}
use Rattle.profile_laws.specs.Tally.{kept}
use Rattle.adapt.proofs.Made.{wide_made}
use Rattle.adapt.proofs.making.make.Goals as goal

pub returns-then-wide-clause-image : goal.returns-then-wide-clause-image
returns-then-wide-clause-image c =
    let r = c.args.recorder.now in
    wide_made r.program (start_of r.program r.input) c.args.position (c.requires.behind.too_wide c.if-wide.true)

pub returns-in-Err-Wide-clause-image : goal.returns-in-Err-Wide-clause-image
returns-in-Err-Wide-clause-image c =
    let r = c.args.recorder.now in
    let start = start_of r.program r.input in
    wide_made r.program start c.args.position
    (subst (λ b. IsWide (kept (with_mark b) start c.args.position).rows) c.requires.behind.calls (c.in-Err-Wide.ensures.wide c.in-Err-Wide.field-0-is))
