-- What a replay comes to once its files are read.
use Rattle.std.proofs.Common.{◌≡◌, ℕ, ◌<◌, List, subst, Option, Result, Ok, Err, inr, refl}
use Rattle.outside.specs.declared.SinkErr.{SinkErr}
use Rattle.outside.specs.declared.SinkErr.TheVariants as put
use Rattle.speculation.specs.declared.Event.{Event}
use Rattle.speculation.specs.World.{World}
use Rattle.image_semantics.specs.World.{world}
use Rattle.event_list.specs.Reading.{written_out}
use Rattle.report.specs.Puts.{PutsText}
use Rattle.command_line.specs.Command.{ReplayCommand}
use Rattle.answers.specs.declared.answer.Answer.{Answer}
use Rattle.answers.specs.declared.answer.Answer.TheVariants.{SinkFault, Memory, Done}
use Rattle.speculative_runs.specs.Told.{Reads, Delivered}
use Rattle.mssp_tool.specs.Run.{start_from}
use Rattle.speculative_runs.specs.Replayed.{replay_bytes}
use Rattle.speculative_runs.proofs.Replayed.{of_the_run}
use Rattle.mssp_tool.specs.Replay.{IsReady, ReplayCause}

-- the answer that tells what a put came to
abbrev pub answer_to : Result Unit SinkErr → Answer
answer_to (Ok u) = Done
answer_to (Err put.Failed) = SinkFault
answer_to (Err put.Memory) = Memory

delivered : (told left : Option (List ℕ)) (before now : ℕ) (text : List ℕ) (r : Result Unit SinkErr) → PutsText told left before now text r
    → Delivered (record { told = told; left = left; before = before; now = now }) text (answer_to r)
delivered told left before now text (Ok u) p = p.ok
delivered told left before now text (Err put.Failed) p = (p.failed refl, p.part)
delivered told left before now text (Err put.Memory) p = p.part

-- the events were given to the engine over the files, as far as the sink took their lines
pub replayed : {told left : Option (List ℕ)} {before now : ℕ} {w : World} {es : List Event} {r : Result Unit SinkErr} (store : Reads) (command : ReplayCommand) (list : List (ℕ × Event)) (z : Result Unit SinkErr)
    → IsReady store.told command w list → 0 < command.slaves → PutsText told left before now (replay_bytes w es) r → es ≡ written_out list → r ≡ z
    → ReplayCause store command (record { told = told; left = left; before = before; now = now }) (answer_to z)
replayed {told = told} {left = left} {before = before} {now = now} {w = w} {es = es} {r = r} store command list z (p, i, image, files, is, ok) some h es_is r_is =
    let w0 = world (start_from p i) image command.slaves in
    let text : replay_bytes w es ≡ replay_bytes w0 (written_out list) = (λ k. replay_bytes (is k) (es_is k)) in
    let got : Delivered (record { told = told; left = left; before = before; now = now }) (replay_bytes w0 (written_out list)) (answer_to z) =
    subst (λ x. Delivered (record { told = told; left = left; before = before; now = now }) x (answer_to z)) text
    (subst (λ x. Delivered (record { told = told; left = left; before = before; now = now }) (replay_bytes w es) (answer_to x)) r_is (delivered told left before now (replay_bytes w es) r h)) in
    inr (p, i, image, list, files, got, of_the_run (start_from p i) image command.slaves (written_out list) ok some)
