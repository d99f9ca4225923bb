-- Rounds, event by event, and how many of them are enough.
use Rattle.std.proofs.Common.{◌≡◌, ℕ, ◌+◌, ◌*◌, ◌%◌, ◌<◌, ◌≤◌, zero, suc, Bool, true, false, List, [], ◌∷◌, length, Some, refl, sym, ap, ◌∙◌, subst, arith, inl, inr, ⊎_elim, ◌⊎◌}
use Rattle.std.specs.Prelude.{slice_get, slice_index_or}
use Rattle.std.proofs.lemmas.Bool.{or_right, or_left, le-leb}
use Rattle.std.proofs.lemmas.List.{length-append}
use Rattle.std.proofs.Math.Nat.{suc-mul, mul-le-mul_right}
use Rattle.std.proofs.lemmas.Nat.{mod-mul-add}
use Rattle.std.proofs.lemmas.Option.{get_or_from_slice_get, slice_get_within}
use Rattle.cells.specs.Run.{is_over}
use Rattle.speculation.specs.declared.Event.{Event}
use Rattle.speculation.specs.declared.Event.TheVariants.{Slave, Commit}
use Rattle.speculation.specs.declared.Mode.TheVariants.{Serial}
use Rattle.speculation.specs.World.{World, IsWorld, Spends, seq}
use Rattle.speculation.specs.Engine.{Model, happens, run, fresh}
use Rattle.speculation.specs.Rounds.{slaves_below, round}
use Rattle.speculation_laws.specs.Exchanges.{rounds_in, AreWorlds, Exchange}
use Rattle.speculation_laws.proofs.Exchanged.{exchanges_reach}
use Rattle.speculation_schedules.specs.Schedule.{in_rounds, after, has_come, enough}
use Rattle.speculation_schedules.specs.Exchanges.{after_each, AreInRounds}
use Rattle.speculation_schedules.proofs.Exchanged.{holds, before}
use Rattle.speculation_schedules.proofs.After.{always, same}

module _ (w : World) (event : ℕ → Event) where
  -- n events from place i on
  abbrev pub fed : ℕ → ℕ → Model → Model
  fed i zero m = m
  fed i (suc n) m = fed (suc i) n (happens w m (event i)).1

  fed_run : (es : List Event) (i : ℕ) (m : Model) → ((d : ℕ) (e : Event) → slice_get es d ≡ Some e → event (d + i) ≡ e) → fed i (length es) m ≡ run w es m
  fed_run [] i m h = refl
  fed_run (e ∷ es) i m h =
      let here : i ≡ 0 + i = omega arith in
      ap (λ (x : Event). fed (suc i) (length es) (happens w m x).1) (ap event here ∙ h 0 e refl)
      ∙ fed_run es (suc i) (happens w m e).1 (λ d x is. let same : d + suc i ≡ suc d + i = omega arith in ap event same ∙ h (suc d) x is)

slaves_length : (k : ℕ) → length (slaves_below k) ≡ k
slaves_length zero = refl
slaves_length (suc k) = let sum = length-append (slaves_below k) (Slave k ∷ []) in omega (arith, sum, slaves_length k)

round_length : (slaves : ℕ) → length (round slaves) ≡ slaves + 7
round_length slaves = let sum = length-append (slaves_below slaves) (Commit ∷ []) in omega (arith, sum, slaves_length slaves)

module _ (slaves : ℕ) where
  abbrev size : ℕ
  size = slaves + 7

  abbrev event : ℕ → Event
  event = in_rounds slaves

  at_place : (j d : ℕ) (e : Event) → slice_get (round slaves) d ≡ Some e → event (d + j * size) ≡ e
  at_place j d e is =
      let within : d < size = subst (λ (n : ℕ). d < n) (round_length slaves) (slice_get_within (round slaves) d e is) in
      let swap : d + j * size ≡ j * size + d = omega arith in
      ap (λ (k : ℕ). slice_index_or (round slaves) k Commit) (ap (λ (n : ℕ). n % size) swap ∙ mod-mul-add j size d within)
      ∙ get_or_from_slice_get (round slaves) d e Commit is

  one_round : (w : World) (j : ℕ) (m : Model) → fed w event (j * size) size m ≡ run w (round slaves) m
  one_round w j m =
      subst (λ (n : ℕ). fed w event (j * size) n m ≡ run w (round slaves) m) (round_length slaves)
      (fed_run w event (round slaves) (j * size) m (at_place j))

  module _ (w : ℕ → World) (limit : ℕ) (ok : AreInRounds w slaves limit) where
    -- the world of each round
    abbrev of_round : ℕ → World
    of_round j = w (j * size)

    in_one : (j d : ℕ) → d < size → w (d + j * size) ≡ of_round j
    in_one j zero l = ap w (omega arith)
    in_one j (suc d) l =
        let swap : suc d + j * size ≡ suc (d + j * size) = omega arith in
        let turn : suc d + j * size ≡ j * size + suc d = omega arith in
        let place : (j * size + suc d) % size ≡ suc d = mod-mul-add j size (suc d) l in
        let inside : suc (d + j * size) % size ≡ suc d = ap (λ n. n % size) (sym swap ∙ turn) ∙ place in
        ap w swap ∙ ok.whole (d + j * size) (λ (z : suc (d + j * size) % size ≡ 0). omega (arith, z, inside)) ∙ in_one j d (omega arith)

    same_run : (d k n : ℕ) → seq (w (d + k)) n ≡ seq (w k) n
    same_run zero k n = let z : 0 + k ≡ k = omega arith in ap (λ i. seq (w i) n) z
    same_run (suc d) k n = let z : suc d + k ≡ suc (d + k) = omega arith in ap (λ i. seq (w i) n) z ∙ ok.exchanged.run (d + k) n ∙ same_run d k n

    next_round : (j : ℕ) → suc j * size ≡ size + j * size
    next_round j = let sum = suc-mul j size in omega (arith, sum)

    worlds : AreWorlds of_round limit
    worlds = record {
      known = λ j. ok.exchanged.known (j * size);
      spends = λ j. ok.spends (j * size);
      limits = λ j. ok.limits (j * size);
      run = λ j n. ap (λ i. seq (w i) n) (next_round j) ∙ same_run size (j * size) n;
    }

    -- the events of one round are in one world
    fed_same : (j n i : ℕ) → n + i ≤ size → after_each w event (n + (i + j * size)) ≡ fed (of_round j) event (i + j * size) n (after_each w event (i + j * size))
    unfolding after_each
    fed_same j zero i l = ap (after_each w event) (omega arith)
    fed_same j (suc n) i l =
        let here : w (i + j * size) ≡ of_round j = in_one j i (omega arith) in
        let a : suc n + (i + j * size) ≡ n + (suc i + j * size) = omega arith in
        let b : suc i + j * size ≡ suc (i + j * size) = omega arith in
        ap (after_each w event) a ∙ fed_same j n (suc i) (omega arith)
        ∙ (λ k. fed (of_round j) event (b k) n (after_each w event (b k)))
        ∙ ap (λ (v : World). fed (of_round j) event (suc (i + j * size)) n (happens v (after_each w event (i + j * size)) (event (i + j * size))).1) here

    one_done : (j : ℕ) → after_each w event (suc j * size) ≡ run (of_round j) (round (of_round j).slaves) (after_each w event (j * size))
    one_done j =
        let z : size + j * size ≡ size + (0 + j * size) = omega arith in
        let o : 0 + j * size ≡ j * size = omega arith in
        ap (after_each w event) (next_round j ∙ z) ∙ fed_same j size 0 (omega arith)
        ∙ (λ k. fed (of_round j) event (o k) size (after_each w event (o k)))
        ∙ one_round (of_round j) j (after_each w event (j * size))
        ∙ ap (λ s. run (of_round j) (round s) (after_each w event (j * size))) (sym (ok.many (j * size)))

    rounds_done : (k j : ℕ) → after_each w event ((j + k) * size) ≡ rounds_in of_round j k (after_each w event (j * size))
    rounds_done zero j = let z : j + 0 ≡ j = omega arith in ap (λ i. after_each w event (i * size)) z
    rounds_done (suc k) j =
        let z : j + suc k ≡ suc j + k = omega arith in
        ap (λ i. after_each w event (i * size)) z ∙ rounds_done k (suc j) ∙ ap (rounds_in of_round (suc j) k) (one_done j)

    first : after_each w event (0 * size) ≡ fresh (w (0 * size))
    unfolding after_each
    first = let z : 0 * size ≡ 0 = omega arith in (λ i. after_each w event (z i)) ∙ (λ i. fresh (w (sym z i)))

    exchange : Exchange of_round 0 (after_each w event (0 * size))
    exchange k =
        let n = slaves + 6 + k * size in
        let end : suc k * size ≡ suc n = let a = next_round k in omega (arith, a) in
        let last : w n ≡ of_round k = in_one k (slaves + 6) (omega arith) in
        let a : 0 + suc k ≡ suc k = omega arith in
        let b : 0 + k ≡ k = omega arith in
        ⊎_elim
        (λ (e : w (suc n) ≡ w n). inl (ap of_round a ∙ ap w end ∙ e ∙ last ∙ ap of_round (sym b)))
        (λ (s : (debt : Bool) × ((after_each w event (suc n)).mode ≡ Serial debt)).
        inr (s.0, ap (λ (m : Model). m.mode) (sym (ap (after_each w event) (sym end) ∙ ap (λ i. after_each w event (i * size)) (sym a) ∙ rounds_done (suc k) 0)) ∙ s.1))
        (ok.exchanged.serial n)

    times : (a b n : ℕ) → a ≤ b → a * n ≤ b * n
    times a b n l = mul-le-mul_right n l

    pub come_in_rounds : (far k : ℕ) → has_come far (after_each w event k) ≡ false → k < (5 * limit + 7) * far * size
    come_in_rounds far k not_yet =
        let z : 0 * size ≡ 0 = omega arith in
        let start : (after_each w event (0 * size)).position ≡ 0 = ap (λ (m : Model). m.position) first in
        let r = exchanges_reach of_round limit worlds 0 (after_each w event (0 * size)) (holds w event ok.exchanged (0 * size)) exchange far in
        let o : 0 + r.0 ≡ r.0 = omega arith in
        let there : has_come far (after_each w event (r.0 * size)) ≡ true =
        ap (λ i. has_come far (after_each w event (i * size))) (sym o) ∙ ap (has_come far) (rounds_done r.0 0) ∙ come (rounds_in of_round 0 r.0 (after_each w event (0 * size))) r.2 start in
        let l = before w event ok.exchanged far k (r.0 * size) not_yet there in
        let most = times r.0 ((5 * limit + 7) * far) size r.1 in
        omega (arith, l, most)
      where
        come : (m : Model) → ((is_over m.committed ≡ true) ⊎ ((after_each w event (0 * size)).position + far ≤ m.position)) → (after_each w event (0 * size)).position ≡ 0 → has_come far m ≡ true
        come m (inl over) start = or_left _ _ over
        come m (inr l) start = or_right _ _ (le-leb far m.position (omega (arith, l, start)))

-- in one world alone
pub rounds_come : (w : World) → IsWorld w → Spends w → (far k : ℕ) → has_come far (after w (in_rounds w.slaves) k) ≡ false → k < enough w far
rounds_come w known spends far k not_yet =
    let event = in_rounds w.slaves in
    come_in_rounds w.slaves (λ k. w) w.limit
    (record { exchanged = always w known event; spends = λ k. spends; limits = λ k. omega arith; many = λ k. refl; whole = λ k inside. refl })
    far k (subst (λ (f : ℕ → Model). has_come far (f k) ≡ false) (sym (same w known event)) not_yet)
