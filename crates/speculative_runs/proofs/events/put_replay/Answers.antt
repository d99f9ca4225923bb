-- The parts of what is put, one after the other.
use Rattle.std.proofs.Common.{◌≡◌, ◌++◌, List, ap, ◌∙◌, rules}
use Rattle.speculation.specs.declared.Event.{Event}
use Rattle.speculation.specs.World.{World}
use Rattle.speculation.specs.Engine.{Model, run, fresh}
use Rattle.engine.specs.Whole.{model_of, world_of}
use Rattle.event_list.specs.Reading.{written_out}
use Rattle.report.specs.Events.{summary_text}
use Rattle.report.proofs.Texts.{stopped, behind, same_text}
use Rattle.speculative_runs.specs.Replayed.{lines_of}
use Rattle.speculative_runs.proofs.events.put_replay.Goals as goal

abbrev last : World → List Event → Model
last w es = run w es (fresh w)

-- the model behind the events
is_last : (w : World) (es : List Event) {m0 m : Model} → m ≡ run w es m0 → m0 ≡ fresh w → m ≡ last w es
is_last w es is start = is ∙ ap (run w es) start

pub returns-in_err-put_listed : goal.returns-in_err-put_listed
returns-in_err-put_listed g c =
    let w = world_of g.M.Memory.at c.args.pair.now.engine in
    let es = written_out c.args.list.now in
    stopped (lines_of w es (fresh w)) (summary_text (last w es) ++ (last w es).committed.env.output) c.from_residual.result c.in_err-put_listed.field-0.0 c.put_listed.ensures.put
    c.in_err-put_listed.was (search rules) (ap (lines_of w es) c.requires.fresh)

pub returns-in_err-put_summary : goal.returns-in_err-put_summary
returns-in_err-put_summary g c =
    let w = world_of g.M.Memory.at c.args.pair.now.engine in
    let es = written_out c.args.list.now in
    let q = c.from_residual-in_err-put_summary.result in
    behind (lines_of w es (fresh w)) (summary_text (last w es) ++ (last w es).committed.env.output) q c.in_ok-put_listed.field-0 c.put_listed.ensures.put c.in_ok-put_listed.was
    (ap (lines_of w es) c.requires.fresh)
    (stopped (summary_text (last w es)) (last w es).committed.env.output q c.in_err-put_summary.field-0.0 c.put_summary.ensures c.in_err-put_summary.was (search rules)
    (ap summary_text (ap (model_of g.M.Memory.at) c.engine-engine.ensures ∙ is_last w es c.in_ok-put_listed.ensures.model c.requires.fresh)))

pub returns : goal.returns
returns g c =
    let w = world_of g.M.Memory.at c.args.pair.now.engine in
    let es = written_out c.args.list.now in
    let q = c.put_output.result in
    let is = ap (model_of g.M.Memory.at) c.engine-engine.ensures ∙ is_last w es c.in_ok-put_listed.ensures.model c.requires.fresh in
    behind (lines_of w es (fresh w)) (summary_text (last w es) ++ (last w es).committed.env.output) q c.in_ok-put_listed.field-0 c.put_listed.ensures.put c.in_ok-put_listed.was
    (ap (lines_of w es) c.requires.fresh)
    (behind (summary_text (last w es)) (last w es).committed.env.output q c.in_ok-put_summary.field-0 c.put_summary.ensures c.in_ok-put_summary.was (ap summary_text is)
    (same_text (last w es).committed.env.output c.put_output.ensures (ap (λ (m : Model). m.committed.env.output) is)))
