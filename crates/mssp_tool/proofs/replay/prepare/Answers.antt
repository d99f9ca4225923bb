-- The ways out behind an accepted program: each later file was read from the store as it was told at first.
use Rattle.std.proofs.Common.{ap, sym, ◌≡◌, ◌≤◌, inl, inr, subst, ◌∙◌, arith, Err}
use Rattle.dist_image.specs.Reading.{image_from}
use Rattle.dist_image.specs.declared.error.ImageErr.{ImageErr}
use Rattle.event_list.specs.Reading.{list_in}
use Rattle.event_list.specs.declared.error.EventErr.{EventErr}
use Rattle.image_semantics.specs.World.{world}
use Rattle.speculation.specs.Engine.{fresh}
use Rattle.engine.specs.Whole.{model_of, world_of}
use Rattle.seq_machine.specs.Parts.{start_of}
use Rattle.command_line.specs.Command.{shown_replay}
use Rattle.answers.specs.declared.answer.Source.TheVariants as source
use Rattle.answers.specs.declared.answer.Refusal.TheVariants as refused
use Rattle.mssp_tool.specs.Files.{HasImage, HasEvents, image_limit, events_limit}
use Rattle.mssp_tool.specs.Replay.{AreFiles}
use Rattle.mssp_tool.proofs.Ready.{not_accepted_within, no_input_within, is_input}
use Rattle.mssp_tool.proofs.replay.prepare.Goals as goal

pub returns-in-Err-clause-answer : goal.returns-in-Err-clause-answer
returns-in-Err-clause-answer g c =
    let r = shown_replay c.args.replay.now in
    let has = c.in_ok-program.ensures.answer.1 in
    let first = c.program_in.ensures in
    inr (inl (has.0, has.1, not_accepted_within (g.S.Store.told c.args.store.now) (g.S.Store.told c.program_in.new.store) (g.S.Store.faults c.args.store.now) (g.S.Store.faults c.program_in.new.store) (g.S.Store.faults c.image_in.new.store) (g.S.Store.failed c.image_in.new.store) r.image image_limit source.Image (λ bytes (e : ImageErr). image_from bytes ≡ Err e) refused.Image c.in-Err.answer first.files first.faults c.in-Err.ensures.answer))

pub returns-in-Err-events_in-clause-answer : goal.returns-in-Err-events_in-clause-answer
returns-in-Err-events_in-clause-answer g c =
    let r = shown_replay c.args.replay.now in
    let has = c.in_ok-program.ensures.answer.1 in
    let first = c.program_in.ensures in
    let second = c.image_in.ensures in
    let low : g.S.Store.faults c.args.store.now ≤ g.S.Store.faults c.image_in.new.store = (let l = first.faults in let m = second.faults in omega (arith, l, m)) in
    inr (inr (inl (
      has.0,
      c.in-Ok.image,
      has.1,
      subst (λ d. HasImage d r.image c.in-Ok.image) first.files c.in-Ok.ensures.answer.1,
      not_accepted_within (g.S.Store.told c.args.store.now) (g.S.Store.told c.image_in.new.store) (g.S.Store.faults c.args.store.now) (g.S.Store.faults c.image_in.new.store) (g.S.Store.faults c.events_in.new.store) (g.S.Store.failed c.events_in.new.store) r.events events_limit source.Events (λ bytes (e : EventErr). list_in bytes ≡ Err e) refused.Events c.in-Err-events_in.answer (second.files ∙ first.files) low c.in-Err-events_in.ensures.answer,
    )))

pub returns-in-Err-input_in-clause-answer : goal.returns-in-Err-input_in-clause-answer
returns-in-Err-input_in-clause-answer g c =
    let r = shown_replay c.args.replay.now in
    let has = c.in_ok-program.ensures.answer.1 in
    let first = c.program_in.ensures in
    let second = c.image_in.ensures in
    let third = c.events_in.ensures in
    let low : g.S.Store.faults c.args.store.now ≤ g.S.Store.faults c.events_in.new.store = (let l = first.faults in let m = second.faults in let n = third.faults in omega (arith, l, m, n)) in
    inr (inr (inr (inl (
      has.0,
      c.in-Ok.image,
      c.in-Ok-events_in.list.items,
      has.1,
      subst (λ d. HasImage d r.image c.in-Ok.image) first.files c.in-Ok.ensures.answer.1,
      subst (λ d. HasEvents d r.events c.in-Ok-events_in.list.items) (second.files ∙ first.files) c.in-Ok-events_in.ensures.answer.1,
      no_input_within (g.S.Store.told c.args.store.now) (g.S.Store.told c.events_in.new.store) (g.S.Store.faults c.args.store.now) (g.S.Store.faults c.events_in.new.store) (g.S.Store.faults c.input_in.new.store) (g.S.Store.failed c.input_in.new.store) r.input c.in-Err-input_in.answer (third.files ∙ second.files ∙ first.files) low c.in-Err-input_in.ensures.answer,
    ))))

pub returns-in-Ok-new-clause-answer : goal.returns-in-Ok-new-clause-answer
returns-in-Ok-new-clause-answer g c =
    let r = shown_replay c.args.replay.now in
    let has = c.in_ok-program.ensures.answer.1 in
    let first = c.program_in.ensures in
    let second = c.image_in.ensures in
    let third = c.events_in.ensures in
    let image = c.in-Ok.image in
    let list = c.in-Ok-events_in.list.items in
    let i = c.in-Ok-input_in.input.items in
    let files : AreFiles (g.S.Store.told c.args.store.now) r has.0 image list i = record {
      program = has.1;
      has_image = subst (λ d. HasImage d r.image image) first.files c.in-Ok.ensures.answer.1;
      events = subst (λ d. HasEvents d r.events list) (second.files ∙ first.files) c.in-Ok-events_in.ensures.answer.1;
      input = is_input (g.S.Store.told c.args.store.now) (g.S.Store.told c.events_in.new.store) r.input i (third.files ∙ second.files ∙ first.files) c.in-Ok-input_in.ensures.answer;
    } in
    let start = c.in-Ok-new.ensures.start ∙ c.in-Ok-load.ensures.state ∙ ap (λ q. start_of q i) has.2 in
    let at = g.M.Memory.at in
    let same = c.new-pair.ensures.engine in (
      (has.0, i, image, files, ap (world_of at) same ∙ (λ k. world (start k) (c.in-Ok-new.ensures.image k) (c.in-Ok-new.ensures.slaves k)), c.in-Ok.ensures.answer.0),
      ap (model_of at) same ∙ (c.in-Ok-new.ensures.model ∙ ap fresh (sym (ap (world_of at) same))),
      c.in-Ok-events_in.ensures.answer.0,
    )
