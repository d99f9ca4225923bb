-- The input was read from the store as it was told at first.
use Rattle.std.proofs.Common.{inl, inr}
use Rattle.command_line.specs.Command.{shown_walk}
use Rattle.mssp_tool.proofs.Ready.{no_input_within}
use Rattle.mssp_tool.proofs.profile.subject_in.Goals as goal

pub returns-in-Err-clause-answer : goal.returns-in-Err-clause-answer
returns-in-Err-clause-answer g c =
    let w = shown_walk c.args.walk.now in
    let has = c.in_ok-program.ensures.answer.1 in
    let first = c.program_in.ensures in
    inr (inl (has.0, has.1, no_input_within (g.S.Store.told c.args.store.now) (g.S.Store.told c.program_in.new.store) (g.S.Store.faults c.args.store.now) (g.S.Store.faults c.program_in.new.store) (g.S.Store.faults c.input_in.new.store) (g.S.Store.failed c.input_in.new.store) w.input c.in-Err.answer first.files first.faults c.in-Err.ensures.answer))
