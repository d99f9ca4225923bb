-- In rounds the position rises, whatever the worlds are that follow one another; and so in one world alone.
use Rattle.std.proofs.Common.{◌≡◌, ℕ, ◌+◌, ◌-◌, ◌*◌, ◌<◌, ◌≤◌, zero, suc, Bool, true, false, refl, sym, ap, ◌∙◌, subst, arith, inl, inr, ⊎_elim, ◌⊎◌}
use Rattle.cells.specs.Run.{is_over}
use Rattle.speculation.specs.declared.Mode.TheVariants.{Serial}
use Rattle.speculation.specs.World.{World, IsWorld, Spends, seq}
use Rattle.speculation.specs.Engine.{Model, run}
use Rattle.speculation.specs.Kept.{Holds}
use Rattle.speculation.specs.Rounds.{round, rounds}
use Rattle.speculation.proofs.Keeps.{run_keeps, other_world}
use Rattle.speculation_laws.specs.Exchanges.{rounds_in, AreWorlds, Exchange, ExchangesGain, ExchangesReach}
use Rattle.speculation_laws.proofs.Rises.{rank, rank_of, round_progress, rank_small}

-- a bound on the rounds until the position rises, which a world with no debt hands on as it is to the next
abbrev far_off : World → ℕ → Model → ℕ
far_off w limit m = rank_of w m + (limit - w.limit)

module _ (w : ℕ → World) (limit : ℕ) (worlds : AreWorlds w limit) where
  -- what holds of the worlds from one on holds from the next on
  later : (j : ℕ) (m : Model) → Exchange w j m → Exchange w (suc j) (run (w j) (round (w j).slaves) m)
  later j m x i =
      let a : j + suc (suc i) ≡ suc j + suc i = omega arith in
      let b : j + suc i ≡ suc j + i = omega arith in
      ⊎_elim
      (λ (e : w (j + suc (suc i)) ≡ w (j + suc i)). inl (ap w (sym a) ∙ e ∙ ap w b))
      (λ (s : (debt : Bool) × ((rounds_in w j (suc (suc i)) m).mode ≡ Serial debt)). inr s)
      (x (suc i))

  -- what is kept after a round is kept in the next world
  next_holds : (j : ℕ) (m : Model) → Holds (w j) m → Exchange w j m → Holds (w (suc j)) (run (w j) (round (w j).slaves) m)
  next_holds j m h x =
      let n = run (w j) (round (w j).slaves) m in
      let kept : Holds (w j) n = run_keeps (w j) (worlds.known j) (round (w j).slaves) m h in
      let a : j + 1 ≡ suc j = omega arith in
      let b : j + 0 ≡ j = omega arith in
      ⊎_elim
      (λ (e : w (j + 1) ≡ w (j + 0)). subst (λ (v : World). Holds v n) (sym (ap w (sym a) ∙ e ∙ ap w b)) kept)
      (λ (s : (debt : Bool) × (n.mode ≡ Serial debt)). other_world (w j) (w (suc j)) (worlds.run j) n kept s.0 s.1)
      (x 0)

  -- an owed step is taken in the next round
  owed : (j : ℕ) (m : Model) → Holds (w j) m → is_over (seq (w j) m.position) ≡ false → m.mode ≡ Serial true → m.position < (rounds_in w j 1 m).position
  owed j m h going serial =
      ⊎_elim
      (λ (up : m.position < (run (w j) (round (w j).slaves) m).position). up)
      (λ (less : (rank_of (w j) (run (w j) (round (w j).slaves) m) < rank_of (w j) m) × ((run (w j) (round (w j).slaves) m).position ≡ m.position)).
      let none : rank_of (w j) m ≡ 0 = ap (λ k. rank (w j) k m.master m.tasks) serial in
      let l = less.0 in
      absurd (omega (arith, l, none)))
      (round_progress (w j) (worlds.known j) (worlds.spends j) m h going)

  -- where a world has given way, with no debt, it is as far off as before
  as_far : (j : ℕ) (n : Model) → n.mode ≡ Serial false → far_off (w (suc j)) limit n ≡ far_off (w j) limit n
  as_far j n serial =
      let here : rank_of (w j) n ≡ (w j).limit + 3 = ap (λ k. rank (w j) k n.master n.tasks) serial in
      let there : rank_of (w (suc j)) n ≡ (w (suc j)).limit + 3 = ap (λ k. rank (w (suc j)) k n.master n.tasks) serial in
      let a = worlds.limits j in
      let b = worlds.limits (suc j) in
      omega (arith, here, there, a, b)

  gains : (r j : ℕ) (m : Model) → Holds (w j) m → Exchange w j m → is_over (seq (w j) m.position) ≡ false → far_off (w j) limit m ≤ r
      → (k : ℕ) × (k ≤ suc r) × (m.position < (rounds_in w j k m).position)
  gains zero j m h x going l =
      ⊎_elim
      (λ (up : m.position < (run (w j) (round (w j).slaves) m).position). (1, omega arith, up))
      (λ (less : (rank_of (w j) (run (w j) (round (w j).slaves) m) < rank_of (w j) m) × ((run (w j) (round (w j).slaves) m).position ≡ m.position)).
      absurd (let y = less.0 in omega (arith, y, l)))
      (round_progress (w j) (worlds.known j) (worlds.spends j) m h going)
  gains (suc r) j m h x going l =
      ⊎_elim
      (λ (up : m.position < n.position). (1, omega arith, up))
      (λ (less : (rank_of (w j) n < rank_of (w j) m) × (n.position ≡ m.position)).
      let still : is_over (seq (w (suc j)) n.position) ≡ false = ap is_over (worlds.run j n.position) ∙ ap (λ k. is_over (seq (w j) k)) less.1 ∙ going in
      on less.0 less.1 (next_holds j m h x) still (λ t. gains r (suc j) n (next_holds j m h x) (later j m x) still t) (x 0))
      (round_progress (w j) (worlds.known j) (worlds.spends j) m h going)
    where
      n : Model
      n = run (w j) (round (w j).slaves) m

      more : n.position ≡ m.position → (k : ℕ) × (k ≤ suc r) × (n.position < (rounds_in w (suc j) k n).position)
          → (k : ℕ) × (k ≤ suc (suc r)) × (m.position < (rounds_in w j k m).position)
      more same y = let few = y.1 in let up = y.2 in (suc y.0, omega (arith, few), omega (arith, up, same))

      served : (debt : Bool) → n.mode ≡ Serial debt → rank_of (w j) n < rank_of (w j) m → n.position ≡ m.position → Holds (w (suc j)) n → is_over (seq (w (suc j)) n.position) ≡ false
          → (far_off (w (suc j)) limit n ≤ r → (k : ℕ) × (k ≤ suc r) × (n.position < (rounds_in w (suc j) k n).position))
          → (k : ℕ) × (k ≤ suc (suc r)) × (m.position < (rounds_in w j k m).position)
      served true serial less same kept still rest = more same (1, omega arith, owed (suc j) n kept still serial)
      served false serial less same kept still rest = let far = as_far j n serial in more same (rest (omega (arith, far, less, l)))

      on : rank_of (w j) n < rank_of (w j) m → n.position ≡ m.position → Holds (w (suc j)) n → is_over (seq (w (suc j)) n.position) ≡ false
          → (far_off (w (suc j)) limit n ≤ r → (k : ℕ) × (k ≤ suc r) × (n.position < (rounds_in w (suc j) k n).position))
          → ((w (j + 1) ≡ w (j + 0)) ⊎ ((debt : Bool) × (n.mode ≡ Serial debt)))
          → (k : ℕ) × (k ≤ suc (suc r)) × (m.position < (rounds_in w j k m).position)
      on less same kept still rest (inl e) =
          let a : j + 1 ≡ suc j = omega arith in
          let b : j + 0 ≡ j = omega arith in
          let stays : w (suc j) ≡ w j = ap w (sym a) ∙ e ∙ ap w b in
          let far : far_off (w (suc j)) limit n ≡ far_off (w j) limit n = ap (λ (v : World). far_off v limit n) stays in
          more same (rest (omega (arith, far, less, l)))
      on less same kept still rest (inr s) = served s.0 s.1 less same kept still rest

  -- rounds follow rounds
  rounds_add : (a b j : ℕ) (m : Model) → rounds_in w j (a + b) m ≡ rounds_in w (j + a) b (rounds_in w j a m)
  rounds_add zero b j m =
      let x : 0 + b ≡ b = omega arith in
      let y : j ≡ j + 0 = omega arith in
      ap (λ n. rounds_in w j n m) x ∙ ap (λ i. rounds_in w i b m) y
  rounds_add (suc a) b j m =
      let n = run (w j) (round (w j).slaves) m in
      let x : suc a + b ≡ suc (a + b) = omega arith in
      let y : suc j + a ≡ j + suc a = omega arith in
      ap (λ n. rounds_in w j n m) x ∙ rounds_add a b (suc j) n ∙ ap (λ i. rounds_in w i b (rounds_in w (suc j) a n)) y

  pub holds_on : (k j : ℕ) (m : Model) → Holds (w j) m → Exchange w j m → Holds (w (j + k)) (rounds_in w j k m)
  holds_on zero j m h x = let y : j ≡ j + 0 = omega arith in subst (λ i. Holds (w i) m) y h
  holds_on (suc k) j m h x =
      let n = run (w j) (round (w j).slaves) m in
      let y : suc j + k ≡ j + suc k = omega arith in
      subst (λ i. Holds (w i) (rounds_in w (suc j) k n)) y (holds_on k (suc j) n (next_holds j m h x) (later j m x))

  exchange_on : (a j : ℕ) (m : Model) → Exchange w j m → Exchange w (j + a) (rounds_in w j a m)
  exchange_on zero j m x = let y : j ≡ j + 0 = omega arith in subst (λ i. Exchange w i m) y x
  exchange_on (suc a) j m x =
      let n = run (w j) (round (w j).slaves) m in
      let y : suc j + a ≡ j + suc a = omega arith in
      subst (λ i. Exchange w i (rounds_in w (suc j) a n)) y (exchange_on a (suc j) n (later j m x))

  gain : (j : ℕ) (m : Model) → Holds (w j) m → Exchange w j m → is_over m.committed ≡ false → (k : ℕ) × (k ≤ 5 * limit + 7) × (m.position < (rounds_in w j k m).position)
  gain j m h x going =
      let small = rank_small (w j) (worlds.known j) (worlds.spends j) m.mode m.master m.tasks in
      let few = worlds.limits j in
      let far : far_off (w j) limit m ≤ 5 * limit + 6 = omega (arith, small, few) in
      let y = gains (5 * limit + 6) j m h x (sym (ap is_over h.is_seq) ∙ going) far in
      let l = y.1 in
      (y.0, omega (arith, l), y.2)

  reach : (far j : ℕ) (m : Model) → Holds (w j) m → Exchange w j m
      → (k : ℕ) × (k ≤ (5 * limit + 7) * far) × ((is_over (rounds_in w j k m).committed ≡ true) ⊎ (m.position + far ≤ (rounds_in w j k m).position))
  reach zero j m h x = (0, omega arith, inr (omega arith))
  reach (suc far) j m h x = reach_if_over (is_over m.committed) refl (λ i n hn xn. reach far i n hn xn)
    where
      more : (c far j k : ℕ) → j ≤ c → k ≤ c * far → j + k ≤ c * suc far
      more c far j k x y = grind (arith, x, y)

      reach_if_over : (b : Bool) → is_over m.committed ≡ b
          → ((i : ℕ) (n : Model) → Holds (w i) n → Exchange w i n
          → (k : ℕ) × (k ≤ (5 * limit + 7) * far) × ((is_over (rounds_in w i k n).committed ≡ true) ⊎ (n.position + far ≤ (rounds_in w i k n).position)))
          → (k : ℕ) × (k ≤ (5 * limit + 7) * suc far) × ((is_over (rounds_in w j k m).committed ≡ true) ⊎ (m.position + suc far ≤ (rounds_in w j k m).position))
      reach_if_over true over rest = (0, omega arith, inl over)
      reach_if_over false going rest =
          let one = gain j m h x going in
          let n = rounds_in w j one.0 m in
          let all = rest (j + one.0) n (holds_on one.0 j m h x) (exchange_on one.0 j m x) in
          let up = one.2 in (
            one.0 + all.0,
            more (5 * limit + 7) far one.0 all.0 one.1 all.1,
            subst (λ (x : Model). (is_over x.committed ≡ true) ⊎ (m.position + suc far ≤ x.position)) (sym (rounds_add one.0 all.0 j m))
                (⊎_elim (λ (x : is_over (rounds_in w (j + one.0) all.0 n).committed ≡ true). inl x)
                (λ (x : n.position + far ≤ (rounds_in w (j + one.0) all.0 n).position). inr (omega (arith, up, x))) all.2),
          )

pub exchanges_gain : ExchangesGain
exchanges_gain w limit worlds j m h x going = gain w limit worlds j m h x going

pub exchanges_reach : ExchangesReach
exchanges_reach w limit worlds j m h x far = reach w limit worlds far j m h x

-- one world alone, again and again
module _ (w : World) (known : IsWorld w) (spends : Spends w) where
  always : AreWorlds (λ j. w) w.limit
  always = record { known = λ j. known; spends = λ j. spends; limits = λ j. omega arith; run = λ j k. refl }

  same_rounds : (k j : ℕ) (m : Model) → rounds_in (λ j. w) j k m ≡ rounds w k m
  same_rounds zero j m = refl
  same_rounds (suc k) j m = same_rounds k (suc j) (run w (round w.slaves) m)

  pub rises_in_rounds : (m : Model) → Holds w m → is_over m.committed ≡ false → (k : ℕ) × (k ≤ 5 * w.limit + 7) × (m.position < (rounds w k m).position)
  rises_in_rounds m h going =
      let x = gain (λ j. w) w.limit always 0 m h (λ k. inl refl) going in
      (x.0, x.1, subst (λ (n : Model). m.position < n.position) (same_rounds x.0 0 m) x.2)

  pub rounds_reach : (far : ℕ) (m : Model) → Holds w m → (k : ℕ) × (k ≤ (5 * w.limit + 7) * far) × ((is_over (rounds w k m).committed ≡ true) ⊎ (m.position + far ≤ (rounds w k m).position))
  rounds_reach far m h =
      let x = reach (λ j. w) w.limit always far 0 m h (λ k. inl refl) in
      (x.0, x.1, subst (λ (n : Model). (is_over n.committed ≡ true) ⊎ (m.position + far ≤ n.position)) (same_rounds x.0 0 m) x.2)
