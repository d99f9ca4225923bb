-- One world gives way to the other behind the first round, in which nothing was speculated on.
use Rattle.std.proofs.Common.{◌≡◌, ℕ, ◌%◌, ◌≤◌, suc, Bool, true, false, cond, refl, sym, ap, ◌∙◌, arith, inl, inr, ◌⊎◌}
use Rattle.std.specs.Prelude.{nat_lt}
use Rattle.std.proofs.lemmas.Bool.{ltb-true, ltb-false}
use Rattle.speculation.specs.declared.Mode.TheVariants.{Serial}
use Rattle.speculation.specs.World.{World, IsWorld, Spends, seq}
use Rattle.speculation.specs.Engine.{happens}
use Rattle.squash_laws.proofs.Spending.{spends as image_spends}
use Rattle.speculation_schedules.specs.Schedule.{in_rounds}
use Rattle.speculation_schedules.specs.Exchanges.{after_each, AreExchanged, AreInRounds}
use Rattle.speculation_schedules.proofs.Exchanged.{holds}
use Rattle.speculation_schedules.proofs.Rounds.{come_in_rounds}
use Rattle.speculation_example.specs.Small.{small_words}
use Rattle.speculation_example.specs.Laws.{small}
use Rattle.speculation_example.specs.Exchange.{no_image, plain, exchanged, exchanged_after, ExchangedIsSequential, ExchangedComes}
use Rattle.speculation_example.proofs.Meets.{is_known, master_spends}

plain_known : IsWorld plain
plain_known = record {
  local = is_known.local;
  moves = is_known.moves;
  over = is_known.over;
  slaves = is_known.slaves;
  limit = is_known.limit;
  counts = λ pc n e. absurd (cc);
  room = (image_spends plain small_words no_image (λ room a. refl)).1;
}

-- what holds of both holds of each
of_both : (P : World → Type 0) → P plain → P small → (k : ℕ) → P (exchanged k)
of_both P a b k = for_either (nat_lt k 9)
  where
    for_either : (b : Bool) → P (cond b plain small)
    for_either true = a
    for_either false = b

-- they differ behind the ninth event alone
same_or_ninth : (k : ℕ) → (exchanged (suc k) ≡ exchanged k) ⊎ (k ≡ 8)
same_or_ninth k = same_if_below (nat_lt (suc k) 9) (nat_lt k 9) refl refl
  where
    same_if_below : (b c : Bool) → nat_lt (suc k) 9 ≡ b → nat_lt k 9 ≡ c → (cond b plain small ≡ cond c plain small) ⊎ (k ≡ 8)
    same_if_below true true e f = inl refl
    same_if_below false false e f = inl refl
    same_if_below true false e f = absurd (let l = ltb-true (suc k) 9 e in let m = ltb-false k 9 f in omega (arith, l, m))
    same_if_below false true e f = let l = ltb-false (suc k) 9 e in let m = ltb-true k 9 f in inr (omega (arith, l, m))

serial_then : (exchanged_after 9).mode ≡ Serial false
unfolding after_each happens
serial_then = refl

pub exchange : AreExchanged exchanged (in_rounds 2)
exchange = record {
  known = of_both IsWorld plain_known is_known;
  run = λ k n. of_both (λ w. seq w n ≡ seq small n) refl refl (suc k) ∙ sym (of_both (λ w. seq w n ≡ seq small n) refl refl k);
  serial = λ k. serial_if_ninth k (same_or_ninth k);
}
  where
    serial_if_ninth : (k : ℕ) → (exchanged (suc k) ≡ exchanged k) ⊎ (k ≡ 8) → (exchanged (suc k) ≡ exchanged k) ⊎ ((debt : Bool) × ((exchanged_after (suc k)).mode ≡ Serial debt))
    serial_if_ninth k (inl e) = inl e
    serial_if_ninth k (inr e) = inr (false, ap (λ k. (exchanged_after (suc k)).mode) e ∙ serial_then)

pub in_whole_rounds : AreInRounds exchanged 2 8
in_whole_rounds = record {
  exchanged = exchange;
  spends = of_both Spends (image_spends plain small_words no_image (λ room a. refl)).0 master_spends;
  limits = of_both (λ w. w.limit ≤ 8) (omega arith) (omega arith);
  many = of_both (λ w. w.slaves ≡ 2) refl refl;
  whole = λ k inside. same_inside k inside (same_or_ninth k);
}
  where
    same_inside : (k : ℕ) → (suc k % 9 ≡ 0 → ⊥) → (exchanged (suc k) ≡ exchanged k) ⊎ (k ≡ 8) → exchanged (suc k) ≡ exchanged k
    same_inside k inside (inl e) = e
    same_inside k inside (inr e) = absurd (inside (ap (λ k. suc k % 9) e))

pub sequential : ExchangedIsSequential
sequential k = (holds exchanged (in_rounds 2) exchange k).is_seq ∙ of_both (λ w. seq w (exchanged_after k).position ≡ seq small (exchanged_after k).position) refl refl k

pub comes : ExchangedComes
comes far k not_yet = come_in_rounds 2 exchanged 8 in_whole_rounds far k not_yet
