-- The ways out behind an accepted program: each later file was read from the store as it was told at first.
use Rattle.std.proofs.Common.{◌≡◌, ◌≤◌, ℕ, List, inl, inr, ap, sym, ◌∙◌, arith}
use Rattle.std.specs.Prelude.{is_some}
use Rattle.cells.specs.Run.{State}
use Rattle.elf_reader.specs.Executable.{Executable}
use Rattle.seq_machine.specs.Parts.{start_of}
use Rattle.mssp_tool.specs.Run.{Begins}
use Rattle.command_line.specs.Command.{shown_run}
use Rattle.mssp_tool.proofs.Ready.{no_named_image_within, is_named_image, no_input_within, is_input}
use Rattle.mssp_tool.proofs.run.prepare.Goals as goal

-- a state that is the start with an input holds that input
begins : (program : Executable) {input : List ℕ} {s : State} → s ≡ start_of program input → Begins program s
begins program is = is ∙ ap (λ (s : State). start_of program s.env.input) (sym is)

pub returns-in-Err-clause-answer : goal.returns-in-Err-clause-answer
returns-in-Err-clause-answer g c =
    let r = shown_run c.args.run.now in
    let has = c.in_ok-program.ensures.answer.1 in
    let first = c.program_in.ensures in
    inr (inl (has.0, has.1, no_named_image_within (g.S.Store.told c.args.store.now) (g.S.Store.told c.program_in.new.store) (g.S.Store.faults c.args.store.now) (g.S.Store.faults c.program_in.new.store) (g.S.Store.faults c.named_image_in.new.store) (g.S.Store.failed c.named_image_in.new.store) r.image c.in-Err.answer first.files first.faults c.in-Err.ensures.answer))

pub returns-in-Err-input_in-clause-answer : goal.returns-in-Err-input_in-clause-answer
returns-in-Err-input_in-clause-answer g c =
    let r = shown_run c.args.run.now in
    let has = c.in_ok-program.ensures.answer.1 in
    let first = c.program_in.ensures in
    let second = c.named_image_in.ensures in
    let low : g.S.Store.faults c.args.store.now ≤ g.S.Store.faults c.named_image_in.new.store = (let l = first.faults in let m = second.faults in omega (arith, l, m)) in
    inr (inr (inl (
      has.0,
      c.in-Ok.image,
      has.1,
      is_named_image (g.S.Store.told c.args.store.now) (g.S.Store.told c.program_in.new.store) r.image c.in-Ok.image first.files c.in-Ok.ensures.answer.1,
      no_input_within (g.S.Store.told c.args.store.now) (g.S.Store.told c.named_image_in.new.store) (g.S.Store.faults c.args.store.now) (g.S.Store.faults c.named_image_in.new.store) (g.S.Store.faults c.input_in.new.store) (g.S.Store.failed c.input_in.new.store) r.input c.in-Err-input_in.answer (second.files ∙ first.files) low c.in-Err-input_in.ensures.answer,
    )))

pub returns-in-Ok-load-clause-answer : goal.returns-in-Ok-load-clause-answer
returns-in-Ok-load-clause-answer g c =
    let r = shown_run c.args.run.now in
    let has = c.in_ok-program.ensures.answer.1 in
    let first = c.program_in.ensures in
    let second = c.named_image_in.ensures in
    let i = c.in-Ok-input_in.input.items in (
      (
        has.0,
        i,
        record {
          program = has.1;
          has_image = is_named_image (g.S.Store.told c.args.store.now) (g.S.Store.told c.program_in.new.store) r.image c.in-Ok.image first.files c.in-Ok.ensures.answer.1;
          input = is_input (g.S.Store.told c.args.store.now) (g.S.Store.told c.named_image_in.new.store) r.input i (second.files ∙ first.files) c.in-Ok-input_in.ensures.answer;
        },
        c.in-Ok-load.ensures.state ∙ ap (λ q. start_of q i) has.2,
        has.2,
      ),
      c.in-Ok.ensures.answer.0,
      c.in-Ok-load.ensures.position,
      ap (λ (s : State). is_some s.env.over) c.in-Ok-load.ensures.state,
      ap (λ (s : State). s.env.output) c.in-Ok-load.ensures.state,
      c.in_ok-program.ensures.answer.0,
      begins c.in_ok-program.program c.in-Ok-load.ensures.state,
    )
