-- What an adapter answers, and what a stage becomes by it.
use Rattle.std.proofs.Common.{◌≡◌, ℕ, ◌+◌, ◌%◌, ◌^◌, ◌≤◌, Bool, true, false, cond, ◌&&◌, ◌==◌, Option, Some, None, refl, sym, ap, ◌∙◌, arith, true≢false}
use Rattle.std.specs.Prelude.{nat_le, not, unwrap_or, IfSome}
use Rattle.cells.specs.Run.{State, is_over, iterate}
use Rattle.rv_semantics.specs.Calls.{step}
use Rattle.elf_reader.specs.Executable.{Executable}
use Rattle.seq_machine.specs.Parts.{start_of}
use Rattle.speculation.specs.World.{seq}
use Rattle.memory.specs.declared.Memory.{Ghosts}
use Rattle.fitting.specs.Fails.{state_at}
use Rattle.speculation.specs.declared.Mode.{Mode}
use Rattle.speculation.specs.declared.Mode.TheVariants.{Serial, Speculating}
use Rattle.speculation_laws.specs.Told.{is_speculating}
use Rattle.dist_image.specs.Image.{Distilled, IsImage}
use Rattle.engine.specs.Shown.{IsSerial}
use Rattle.engine.specs.declared.engine.Engine.{Engine}
use Rattle.engine.specs.Whole.{start_of as engine_start, model_of, world_of}
use Rattle.adapt.specs.Made.{Adapting, made, answer_at, after}
use Rattle.adapt.specs.Laws.{IsMade}
use Rattle.adaptive_runs.specs.Adaptive.{Plan, Stage, may_exchange, renewed, ready}
use Rattle.adaptive_driver.specs.Adapted.{plan_of, AreOfOneRun, AreAlike}

-- an image that an adapter answered took the place of the one before
pub renewed_so : (a b : Adapting) (slaves : ℕ) (s t : Stage) (answer : Option Distilled) → s.due ≡ a.due → answer ≡ answer_at a s.model.position → b ≡ after a s.model.position
    → t.model ≡ s.model → t.image ≡ unwrap_or answer s.image → t.due ≡ b.due → (first : Distilled) → t ≡ renewed (plan_of a.program a.input slaves a.every first) s
renewed_so a b slaves s t answer due is next model image then first = renewed_if_due (nat_le a.due s.model.position) refl
  where
    made_at : Option Distilled
    made_at = made a.program (start_of a.program a.input) s.model.position

    renewed_if_due : (c : Bool) → nat_le a.due s.model.position ≡ c → t ≡ renewed (plan_of a.program a.input slaves a.every first) s
    renewed_if_due true e =
        let test : nat_le s.due s.model.position ≡ true = ap (λ n. nat_le n s.model.position) due ∙ e in
        let answered : answer ≡ made_at = is ∙ ap (λ c. cond c made_at None) e in
        let later : b.due ≡ s.model.position + a.every = ap (λ (x : Adapting). x.due) next ∙ ap (λ c. (cond c (record a { due = s.model.position + a.every; asked = s.model.position }) a).due) e in
        let new : Stage = record { model = s.model; image = unwrap_or made_at s.image; due = s.model.position + a.every } in
        let same : t ≡ new = (λ i. record { model = model i; image = (image ∙ ap (λ o. unwrap_or o s.image) answered) i; due = (then ∙ later) i }) in
        same ∙ ap (λ c. cond c new s) (sym test)
    renewed_if_due false e =
        let test : nat_le s.due s.model.position ≡ false = ap (λ n. nat_le n s.model.position) due ∙ e in
        let answered : answer ≡ None = is ∙ ap (λ c. cond c made_at None) e in
        let kept : b.due ≡ s.due = ap (λ (x : Adapting). x.due) next ∙ ap (λ c. (cond c (record a { due = s.model.position + a.every; asked = s.model.position }) a).due) e ∙ sym due in
        let new : Stage = record { model = s.model; image = unwrap_or made_at s.image; due = s.model.position + a.every } in
        let same : t ≡ s = (λ i. record { model = model i; image = (image ∙ ap (λ o. unwrap_or o s.image) answered) i; due = (then ∙ kept) i }) in
        same ∙ ap (λ c. cond c new s) (sym test)

-- an adapter that was asked is of the same run
pub asked_alike : (a b : Adapting) (position : ℕ) → b ≡ after a position → AreAlike b a
asked_alike a b position next = after_if_due (nat_le a.due position) next
  where
    after_if_due : (c : Bool) → b ≡ cond c (record a { due = position + a.every; asked = position }) a → AreAlike b a
    after_if_due true e = (ap (λ (x : Adapting). x.program) e, ap (λ (x : Adapting). x.input) e, ap (λ (x : Adapting). x.every) e)
    after_if_due false e = (ap (λ (x : Adapting). x.program) e, ap (λ (x : Adapting). x.input) e, ap (λ (x : Adapting). x.every) e)

pub asked_within : (a b : Adapting) (position : ℕ) → b ≡ after a position → a.asked ≤ position → b.asked ≤ position
asked_within a b position next l = stays_if_early (nat_le a.due position) next
  where
    stays_if_early : (c : Bool) → b ≡ cond c (record a { due = position + a.every; asked = position }) a → b.asked ≤ position
    stays_if_early true e = let same : b.asked ≡ position = ap (λ (x : Adapting). x.asked) e in omega (arith, same)
    stays_if_early false e = let same : b.asked ≡ a.asked = ap (λ (x : Adapting). x.asked) e in omega (arith, same, l)

pub serial_so : (m : Mode) → not (is_speculating m) ≡ true → IsSerial m
serial_so (Serial debt) e = tt
serial_so Speculating e = absurd cc

pub both : (a b c : Bool) → (a && b && c) ≡ true → (b ≡ true) × (c ≡ true)
both true true c e = (refl, e)
both true false c e = absurd (true≢false (sym e))
both false b c e = absurd (true≢false (sym e))

pub runs : (b : Bool) → not b ≡ true → b ≡ false
runs false e = refl
runs true e = absurd (true≢false (sym e))

-- before event k at its place of a round
pub ready_renewed : (p : Plan) (k place : ℕ) (s t : Stage) → k % (p.slaves + 7) ≡ place → ((place == 0) && not (is_speculating s.model.mode) && not (is_over s.model.committed)) ≡ true
    → t ≡ renewed p s → t ≡ ready p k s
ready_renewed p k place s t at e is =
    let test : may_exchange p k s.model ≡ true = ap (λ n. (n == 0) && not (is_speculating s.model.mode) && not (is_over s.model.committed)) at ∙ e in
    is ∙ ap (λ c. cond c (renewed p s) s) (sym test)

pub ready_still : (p : Plan) (k place : ℕ) (s : Stage) → k % (p.slaves + 7) ≡ place → ((place == 0) && not (is_speculating s.model.mode) && not (is_over s.model.committed)) ≡ false
    → s ≡ ready p k s
ready_still p k place s at e =
    let test : may_exchange p k s.model ≡ false = ap (λ n. (n == 0) && not (is_speculating s.model.mode) && not (is_over s.model.committed)) at ∙ e in
    ap (λ c. cond c (renewed p s) s) (sym test)

-- ---- what the adapter is asked for

module _ {M : Type 0} {d : Ghosts M} (at : M → ℕ → ℕ) (e f : Engine M d) (a : Adapting) (same : f ≡ e) (run : AreOfOneRun at e a) where
  -- the run goes on at the committed position
  pub runs_there : (s : State) (position : ℕ) → s ≡ (model_of at f).committed → s ≡ seq (world_of at f) position → is_over (model_of at e).committed ≡ false
      → is_over (state_at (start_of a.program a.input) position) ≡ false
  runs_there s position state_is seq_is running =
      ap (λ (x : State). is_over (iterate step x position)) (sym run.start)
      ∙ ap (λ (x : Engine M d). is_over (seq (world_of at x) position)) (sym same)
      ∙ ap is_over (sym seq_is ∙ state_is)
      ∙ ap (λ (x : Engine M d). is_over (model_of at x).committed) same
      ∙ running

  pub position_is : (position : ℕ) → position ≡ (model_of at f).position → position ≡ (model_of at e).position
  position_is position is = is ∙ ap (λ (x : Engine M d). (model_of at x).position) same

  pub asked_before : (position : ℕ) → position ≡ (model_of at f).position → a.asked ≤ position
  asked_before position is = let l = run.asked in let p = position_is position is in omega (arith, l, p)

  pub within_most : (position : ℕ) → position ≡ (model_of at f).position → (model_of at e).position ≤ 10 ^ 12 → position ≤ 10 ^ 12 + 16383
  within_most position is l = let p = position_is position is in omega (arith, l, p)

-- a machine may take what an adapter makes
pub images : (program : Executable) (o : Option Distilled) → IfSome o (IsMade program) → IfSome o IsImage
images program None h = h
images program (Some image) h = h.valid

-- behind an exchange they are of one run still
pub run_behind : {M : Type 0} {d : Ghosts M} (at : M → ℕ → ℕ) (e f : Engine M d) (a b : Adapting) → AreOfOneRun at e a → AreAlike b a → engine_start at f ≡ engine_start at e
    → (model_of at f).position ≡ (model_of at e).position → b.asked ≤ (model_of at e).position → AreOfOneRun at f b
run_behind at e f a b run alike start position asked =
    record { start = start ∙ run.start ∙ (λ i. start_of (sym alike.0 i) (sym alike.1 i)); asked = omega (arith, position, asked) }
