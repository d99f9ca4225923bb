-- The worlds of an adaptive run are of one run, and one gives way to another only where a round begins with nothing speculated on.
use Rattle.std.proofs.Common.{◌≡◌, ℕ, ◌+◌, ◌*◌, ◌%◌, ◌<◌, ◌≤◌, zero, suc, Bool, true, false, cond, ◌&&◌, Option, Some, None, refl, sym, ap, ◌∙◌, subst, arith, inl, inr, ⊎_elim, ◌⊎◌, eqb}
use Rattle.std.specs.Prelude.{nat_le, not, unwrap_or}
use Rattle.std.proofs.lemmas.Bool.{eqb-true, and_parts}
use Rattle.cells.specs.Run.{is_over, iterate}
use Rattle.rv_semantics.specs.Calls.{step}
use Rattle.speculation.specs.declared.Mode.{Mode}
use Rattle.speculation.specs.declared.Mode.TheVariants.{Serial, Speculating}
use Rattle.speculation.specs.Engine.{Model, Answer, happens}
use Rattle.speculation.specs.Kept.{Holds}
use Rattle.speculation_laws.specs.Told.{is_speculating, Tells}
use Rattle.speculation_laws.proofs.Answers.{happens_tells}
use Rattle.speculation_schedules.specs.Schedule.{in_rounds, has_come, IsFirstStop}
use Rattle.speculation_schedules.specs.Laws.{StopsAt}
use Rattle.speculation_schedules.proofs.After.{EndsByStep, ends_by_step}
use Rattle.speculation_schedules.proofs.Near.{near_event, near_stop}
use Rattle.speculation_schedules.proofs.Stops.{stops_so}
use Rattle.speculation_schedules.specs.Exchanges.{after_each, AreInRounds}
use Rattle.speculation_schedules.proofs.Exchanged as exchanged
use Rattle.speculation_schedules.proofs.Rounds.{come_in_rounds}
use Rattle.squash_laws.specs.Tracks.{ModeTracks, IsSafe}
use Rattle.squash_laws.proofs.Safe.{happens_tracks}
use Rattle.dist_image.specs.Image.{Distilled}
use Rattle.image_semantics.proofs.Known.{known, spends}
use Rattle.fitting.specs.Fits.{Fits}
use Rattle.fitting.specs.Fails.{program, Meets, Reaches}
use Rattle.fitting_laws.specs.Setting.{setting}
use Rattle.fitting_laws.specs.Laws.{TracksRun}
use Rattle.fitting_laws.proofs.Sets.{is_setting}
use Rattle.fitting_laws.proofs.Safe.{next_safe}
use Rattle.adaptive_runs.specs.Adaptive.{Plan, Stage, beside, may_exchange, renewed, ready, adapted, model_at, image_at, world_at, answer_at}
use Rattle.adaptive_runs.specs.Laws.{IsPlan, IsUpTo}

serial_mode : (m : Mode) → not (is_speculating m) ≡ true → (debt : Bool) × (m ≡ Serial debt)
serial_mode (Serial debt) e = (debt, refl)
serial_mode Speculating e = absurd cc

no_round : (n : ℕ) (a b : Bool) → (n ≡ 0 → ⊥) → (eqb n 0 && a && b) ≡ false
no_round n a b h = if_zero (eqb n 0) refl
  where
    if_zero : (c : Bool) → eqb n 0 ≡ c → (c && a && b) ≡ false
    if_zero true e = absurd (h (eqb-true n 0 e))
    if_zero false e = refl

module _ (p : Plan) where
  renewed_model : (a : Stage) → (renewed p a).model ≡ a.model
  renewed_model a = if_due (nat_le a.due a.model.position)
    where
      if_due : (b : Bool) → (cond b (record { model = a.model; image = unwrap_or (p.made a.model.position) a.image; due = a.model.position + p.every }) a).model ≡ a.model
      if_due true = refl
      if_due false = refl

  pub ready_model : (k : ℕ) (a : Stage) → (ready p k a).model ≡ a.model
  ready_model k a = if_exchanging (may_exchange p k a.model)
    where
      if_exchanging : (b : Bool) → (cond b (renewed p a) a).model ≡ a.model
      if_exchanging true = renewed_model a
      if_exchanging false = refl

  -- each event is one of its world, from the model before
  answered : (k : ℕ) → answer_at p k ≡ happens (world_at p k) (adapted p k).model (in_rounds p.slaves k)
  answered k = ap (λ (m : Model). happens (world_at p k) m (in_rounds p.slaves k)) (ready_model k (adapted p k))

  next : (k : ℕ) → (adapted p (suc k)).model ≡ (answer_at p k).1
  unfolding adapted
  next k = refl

  held : (k : ℕ) → (adapted p (suc k)).image ≡ image_at p k
  unfolding adapted
  held k = refl

  -- so the models are those of events in worlds that give way to one another
  models : (k : ℕ) → (adapted p k).model ≡ after_each (world_at p) (in_rounds p.slaves) k
  unfolding after_each adapted
  models zero = refl
  models (suc k) = next k ∙ ap (λ (a : Answer). a.1) (answered k) ∙ ap (λ (m : Model). (happens (world_at p k) m (in_rounds p.slaves k)).1) (models k)

  -- the image stays where none may be asked for
  stays : (k : ℕ) → may_exchange p (suc k) (adapted p (suc k)).model ≡ false → image_at p (suc k) ≡ image_at p k
  stays k e = ap (λ (b : Bool). (cond b (renewed p (adapted p (suc k))) (adapted p (suc k))).image) e ∙ held k

  -- and where it may be, nothing is speculated on
  serial : (k : ℕ) → may_exchange p k (adapted p k).model ≡ true → (debt : Bool) × ((adapted p k).model.mode ≡ Serial debt)
  serial k e =
      let m = (adapted p k).model in
      let quiet = not (is_speculating m.mode) in
      let parts = and_parts (eqb (k % (p.slaves + 7)) 0 && quiet) (not (is_over m.committed)) e in
      serial_mode m.mode (and_parts (eqb (k % (p.slaves + 7)) 0) quiet parts.0).1

  pub same_or_serial : (k : ℕ) → (image_at p (suc k) ≡ image_at p k) ⊎ ((debt : Bool) × ((adapted p (suc k)).model.mode ≡ Serial debt))
  same_or_serial k = if_exchanging (may_exchange p (suc k) (adapted p (suc k)).model) refl
    where
      if_exchanging : (b : Bool) → may_exchange p (suc k) (adapted p (suc k)).model ≡ b
          → (image_at p (suc k) ≡ image_at p k) ⊎ ((debt : Bool) × ((adapted p (suc k)).model.mode ≡ Serial debt))
      if_exchanging false e = inl (stays k e)
      if_exchanging true e = inr (serial (suc k) e)

  module _ (limit : ℕ) (is_plan : IsPlan p limit) where
    made_is : (o : Option Distilled) (image : Distilled) → ((x : Distilled) → o ≡ Some x → IsUpTo limit x) → IsUpTo limit image → IsUpTo limit (unwrap_or o image)
    made_is None image h kept = kept
    made_is (Some x) image h kept = h x refl

    renewed_image : (a : Stage) → IsUpTo limit a.image → IsUpTo limit (renewed p a).image
    renewed_image a h = if_due (nat_le a.due a.model.position)
      where
        if_due : (b : Bool) → IsUpTo limit (cond b (record { model = a.model; image = unwrap_or (p.made a.model.position) a.image; due = a.model.position + p.every }) a).image
        if_due true = made_is (p.made a.model.position) a.image (is_plan.made a.model.position) h
        if_due false = h

    ready_image : (k : ℕ) (a : Stage) → IsUpTo limit a.image → IsUpTo limit (ready p k a).image
    ready_image k a h = if_exchanging (may_exchange p k a.model)
      where
        if_exchanging : (b : Bool) → IsUpTo limit (cond b (renewed p a) a).image
        if_exchanging true = renewed_image a h
        if_exchanging false = h

    is_image : (k : ℕ) → IsUpTo limit (adapted p k).image
    unfolding adapted
    is_image zero = is_plan.first
    is_image (suc k) = ready_image k (adapted p k) (is_image k)

    pub is_image_at : (k : ℕ) → IsUpTo limit (image_at p k)
    is_image_at k = ready_image k (adapted p k) (is_image k)

    worlds : AreInRounds (world_at p) p.slaves limit
    worlds = record {
      exchanged = record { known = λ k. known p.start (image_at p k) p.slaves (is_image_at k).0 is_plan.some; run = λ k n. refl; serial = λ k. gives_way k (same_or_serial k) };
      spends = λ k. spends p.start (image_at p k) p.slaves;
      limits = λ k. (is_image_at k).1;
      many = λ k. refl;
      whole = λ k h. ap (beside p) (stays k (no_round (suc k % (p.slaves + 7)) (not (is_speculating (adapted p (suc k)).model.mode)) (not (is_over (adapted p (suc k)).model.committed)) h));
    }
      where
        gives_way : (k : ℕ) → (image_at p (suc k) ≡ image_at p k) ⊎ ((debt : Bool) × ((adapted p (suc k)).model.mode ≡ Serial debt))
            → (world_at p (suc k) ≡ world_at p k) ⊎ ((debt : Bool) × ((after_each (world_at p) (in_rounds p.slaves) (suc k)).mode ≡ Serial debt))
        gives_way k (inl same) = inl (ap (beside p) same)
        gives_way k (inr s) = inr (s.0, ap (λ (m : Model). m.mode) (sym (models (suc k))) ∙ s.1)

    pub holds : (k : ℕ) → Holds (world_at p k) (adapted p k).model
    holds k = subst (λ (m : Model). Holds (world_at p k) m) (sym (models k)) (exchanged.holds (world_at p) (in_rounds p.slaves) worlds.exchanged k)

    pub rises : (k : ℕ) → (adapted p k).model.position ≤ (adapted p (suc k)).model.position
    rises k =
        subst (λ (m : Model). m.position ≤ (adapted p (suc k)).model.position) (sym (models k))
        (subst (λ (m : Model). (after_each (world_at p) (in_rounds p.slaves) k).position ≤ m.position) (sym (models (suc k)))
        (exchanged.rises (world_at p) (in_rounds p.slaves) worlds.exchanged k))

    pub comes : (far k : ℕ) → has_come far (adapted p k).model ≡ false → k < (5 * limit + 7) * far * (p.slaves + 7)
    comes far k not_yet = come_in_rounds p.slaves (world_at p) limit worlds far k (ap (has_come far) (sym (models k)) ∙ not_yet)

    -- where it stops
    pub is_run : (k : ℕ) → (model_at p k).committed ≡ iterate step p.start (model_at p k).position
    is_run k = (holds k).is_seq

    one_event : (k : ℕ) → (model_at p (suc k)) ≡ (happens (world_at p k) (model_at p k) (in_rounds p.slaves k)).1
    one_event k = next k ∙ ap (λ (a : Answer). a.1) (answered k)

    ends_next : (k : ℕ) → EndsByStep (model_at p k) (model_at p (suc k))
    ends_next k = subst (EndsByStep (model_at p k)) (sym (one_event k)) (ends_by_step (world_at p k) (model_at p k) (in_rounds p.slaves k))

    near_next : (k : ℕ) → (model_at p (suc k)).position ≤ (model_at p k).position + limit
    near_next k =
        let w = world_at p k in
        let is_world = known p.start (image_at p k) p.slaves (is_image_at k).0 is_plan.some in
        let near = near_event w is_world.limit (model_at p k) (in_rounds p.slaves k) (holds k).tasks in
        let same : (model_at p (suc k)).position ≡ (happens w (model_at p k) (in_rounds p.slaves k)).1.position = ap (λ (m : Model). m.position) (one_event k) in
        let short = (is_image_at k).1 in
        omega (arith, near, same, short)

    begins : is_over p.start ≡ false → is_over (model_at p 0).committed ≡ false
    unfolding adapted
    begins runs = runs

    first_position : (model_at p 0).position ≡ 0
    unfolding adapted
    first_position = refl

    pub stops : is_over p.start ≡ false → (far k : ℕ) → 0 < far → IsFirstStop (model_at p) far k
        → StopsAt (beside p p.first) (model_at p) far k × ((model_at p k).position < far + limit)
    stops runs far k least stop =
        let is_world = known p.start p.first p.slaves is_plan.first.0 is_plan.some in (
          stops_so (beside p p.first) is_world (model_at p) (begins runs) is_run ends_next far k stop,
          near_stop (model_at p) limit first_position near_next far k least stop,
        )

    -- what the answer tells is so of the event of its world, and so of the answer
    pub tells : (k : ℕ) → Tells (world_at p k) (adapted p k).model (in_rounds p.slaves k) (answer_at p k).0 (adapted p (suc k)).model
    tells k =
        subst (λ (m : Model). Tells (world_at p k) (adapted p k).model (in_rounds p.slaves k) (answer_at p k).0 m) (sym (next k))
        (subst (λ (a : Answer). Tells (world_at p k) (adapted p k).model (in_rounds p.slaves k) a.0 a.1) (sym (answered k))
        (happens_tells (world_at p k) (adapted p k).model (in_rounds p.slaves k) (holds k).is_seq))

    -- tasks and master track the run beside the image of each event: an event keeps it, and a serial model tracks beside any
    tracks_next : (k : ℕ) → TracksRun p.start (image_at p k) p.slaves (adapted p k).model → TracksRun p.start (image_at p k) p.slaves (adapted p (suc k)).model
    tracks_next k tracks =
        subst (TracksRun p.start (image_at p k) p.slaves) (sym (next k ∙ ap (λ (a : Answer). a.1) (answered k)))
        (λ fits n meets.
        happens_tracks (setting p.start (image_at p k) p.slaves n) (is_setting p.start (image_at p k) p.slaves (is_image_at k).0 n is_plan.some fits meets)
        (adapted p k).model (in_rounds p.slaves k) (holds k) (tracks fits n meets))

    serial_tracks : (image : Distilled) (m : Model) (debt : Bool) → m.mode ≡ Serial debt → TracksRun p.start image p.slaves m
    serial_tracks image m debt e fits n meets l = subst (λ (d : Mode). ModeTracks (setting p.start image p.slaves n) d m.master m.position m.tasks) (sym e) tt

    tracks_at : (k : ℕ) → TracksRun p.start (image_at p k) p.slaves (adapted p k).model
    unfolding adapted
    tracks_at zero = serial_tracks (image_at p zero) (adapted p zero).model false refl
    tracks_at (suc k) =
        let kept = tracks_next k (tracks_at k) in
        ⊎_elim
        (λ (same : image_at p (suc k) ≡ image_at p k). subst (λ (image : Distilled). TracksRun p.start image p.slaves (adapted p (suc k)).model) (sym same) kept)
        (λ (s : (debt : Bool) × ((adapted p (suc k)).model.mode ≡ Serial debt)). serial_tracks (image_at p (suc k)) (adapted p (suc k)).model s.0 s.1)
        (same_or_serial k)

    pub safe : (k n : ℕ) → Fits (program p.start) (image_at p k) → Meets p.start (image_at p k) n
        → Reaches p.start (image_at p k) n (adapted p k).model.position → IsSafe (answer_at p k).0
    safe k n fits meets room =
        subst (λ (a : Answer). IsSafe a.0) (sym (answered k))
        (next_safe p.start (image_at p k) p.slaves n (is_image_at k).0 is_plan.some fits meets (adapted p k).model (holds k) (tracks_at k) room (in_rounds p.slaves k))
