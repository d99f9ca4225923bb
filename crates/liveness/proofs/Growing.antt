-- Each round has at least the registers of the round before.
use Rattle.std.proofs.Common.{◌≡◌, ℕ, ◌<◌, ◌^◌, suc, List, map, length, sym, ap, ◌∙◌, arith}
use Rattle.std.specs.Prelude.{bit_or}
use Rattle.std.specs.List.Sorted.{IsStrictlyIncreasing}
use Rattle.std.proofs.lemmas.Nat.{or_lt}
use Rattle.std.proofs.lemmas.Nat.Bits.{bit_at_or, same_from_bits_below}
use Rattle.distill_rules.specs.declared.Mask.{Mask}
use Rattle.distill_rules.specs.Rounds.{Point, live_of, need_of, look, step, round, rounds}
use Rattle.distill_rules.specs.Solution.{AreFit}
use Rattle.distill_rules.proofs.Below.{Below}
use Rattle.distill_rules.proofs.Rising.{rounds_under}
use Rattle.distill_rules.proofs.Settling.{rounds_small}
use Rattle.liveness.specs.Rising.{point_pc}
use Rattle.liveness.specs.Waiting.{point_at, mask_at}
use Rattle.liveness.specs.Behind.{Grows}
use Rattle.liveness.proofs.Keeping.{pcs_round}
use Rattle.liveness.proofs.Looking.{said, at_round}

or_below : (a b : ℕ) → Below a b → a < 2 ^ 32 → b < 2 ^ 32 → bit_or a b ≡ b
or_below a b h k l =
    same_from_bits_below 32 (bit_or a b) b (or_lt 32 a b k l) l (λ i m. let e = bit_at_or a b i in let x = h i m in omega (arith, e, x))

at_place : (field : Mask → ℕ) (ps : List Point) (k i : ℕ) → IsStrictlyIncreasing (map point_pc ps) → i < length ps
    → let t = rounds ps (suc k) in let q = (point_at ps i).pc in
    bit_or (look field t q) (look field (round ps t) q) ≡ look field (round ps t) q
    → bit_or (field (mask_at t i)) (field (step t (point_at ps i))) ≡ field (step t (point_at ps i))
at_place field ps k i up l h =
    let t = rounds ps (suc k) in
    let old = said field ps t up (pcs_round ps (rounds ps k)) i l in
    let new = said field ps (round ps t) up (pcs_round ps t) i l ∙ ap field (at_round ps t i l) in
    ap (λ n. bit_or n (field (step t (point_at ps i)))) (sym old) ∙ ap (bit_or (look field t (point_at ps i).pc)) (sym new) ∙ h ∙ new

pub rounds_grow : (ps : List Point) → AreFit ps → IsStrictlyIncreasing (map point_pc ps) → (k : ℕ) → Grows ps (rounds ps (suc k))
rounds_grow ps fit up k i l =
    let q = (point_at ps i).pc in
    let under = rounds_under ps fit (suc k) in
    let before = rounds_small ps fit (suc k) in
    let after = rounds_small ps fit (suc (suc k)) in
    record {
      live = at_place live_of ps k i up l (or_below _ _ (under.live q) (before.live q).1 (after.live q).1);
      need = at_place need_of ps k i up l (or_below _ _ (under.need q) (before.need q).1 (after.need q).1);
    }
