-- The check, the machine's events and the lines of both, of one program and image.
use Rattle.std.proofs.Common.{◌≡◌, ℕ, List, [], ◌∷◌, ◌++◌, codes, decimal, ap, ◌∙◌, subst, append_assoc}
use Rattle.speculation.specs.World.{World}
use Rattle.speculation_schedules.specs.Schedule.{after}
use Rattle.event_list.specs.Draws.{drawn}
use Rattle.seq_machine.specs.Parts.{start_of}
use Rattle.image_semantics.specs.World.{world}
use Rattle.assume_list.specs.Verdicts.{IsVerdict}
use Rattle.report.specs.Text.{line}
use Rattle.report.specs.Events.{summary_text}
use Rattle.trial_report.specs.Trial.{budget, front_text, IsTrialStop}
use Rattle.trial_report.proofs.Events.{same_world}
use Rattle.trial_report.proofs.running.tell.Goals as goal

both : {a b c d : List ℕ} → a ≡ b → c ≡ d → a ++ c ≡ b ++ d
both e f = λ i. e i ++ f i

joined : (text front events last : List ℕ) → text ≡ (front ++ events) ++ last → text ≡ front ++ (events ++ last)
joined text front events last e = e ∙ append_assoc front events last

pub returns : goal.returns
returns c =
    let p = c.args.program.now in
    let image = c.args.image in
    let event = drawn c.args.number 4 in
    let v = c.in_ok-verdict.verdict in
    let k = c.in_ok-given.given in
    let begins = c.in_ok-engine.ensures.start ∙ c.in_ok-machine.ensures.state ∙ ap (start_of p) c.new-2.ensures.items in
    let runs : (w : World) → w ≡ world (start_of p []) image 4 → IsTrialStop w event k → IsTrialStop (world (start_of p []) image 4) event k = λ w e. subst (λ (x : World). IsTrialStop x event k) e in
    let same = same_world _ _ _ _ _ _ begins c.in_ok-engine.ensures.image c.in_ok-engine.ensures.slaves in
    let last = c.in_ok-given.ensures.model ∙ ap (λ (w : World). after w event k) same in
    let front = c.in_ok-push_front.ensures ∙ ap (λ (ws : List ℕ). ws ++ front_text c.args.words c.args.steps image v) c.new-out.ensures.items in
    let events = c.in_ok-push_line.ensures ∙ ap (λ (ws : List ℕ). ws ++ line (codes "events") (decimal k ∷ [])) front in
    let summary = c.in_ok-summary.ensures ∙ ap summary_text last in
    let text = c.in_ok-extend_from_slice.ensures.items ∙ both events (c.deref.ensures.value ∙ summary) in (
      v,
      k,
      subst (λ (input : List ℕ). IsVerdict (start_of p input) image budget v) c.new.ensures.items c.in_ok-verdict.ensures,
      runs _ same c.in_ok-given.ensures.stop,
      joined c.extend_from_slice.new.self.items (front_text c.args.words c.args.steps image v) (line (codes "events") (decimal k ∷ [])) (summary_text (after (world (start_of p []) image 4) event k)) text,
    )
