-- Rounds that follow one another, place by place.
use Rattle.std.proofs.Common.{◌≡◌, ℕ, ◌+◌, ◌*◌, ◌/◌, ◌%◌, ◌<◌, Some, sym, ap, ◌∙◌, arith}
use Rattle.std.specs.Prelude.{slice_get, slice_index_or, suc}
use Rattle.std.proofs.lemmas.Nat.{div-add-mod', mod-mul-add}
use Rattle.std.proofs.lemmas.Option.{get_or_from_slice_get}
use Rattle.speculation.specs.declared.Event.{Event}
use Rattle.speculation.specs.declared.Event.TheVariants.{Commit}
use Rattle.speculation.specs.Rounds.{round}
use Rattle.speculation_schedules.specs.Schedule.{in_rounds}

-- the event at a place of a round is that of each turn which comes to that place
pub at_turn : (slaves place : ℕ) (e : Event) → slice_get (round slaves) place ≡ Some e → (k : ℕ) → k % (slaves + 7) ≡ place → e ≡ in_rounds slaves k
at_turn slaves place e is k at = sym (ap (λ n. slice_index_or (round slaves) n Commit) at ∙ get_or_from_slice_get (round slaves) place e Commit is)

pub start : (n : ℕ) → 0 < n → 0 % n ≡ 0
start n some = let sum : 0 ≡ 0 * n + 0 = omega arith in ap (λ m. m % n) sum ∙ mod-mul-add 0 n 0 some

-- a number that is one more, modulo n
pub within : (n k place : ℕ) → k % n ≡ place → place + 1 < n → (k + 1) % n ≡ place + 1
within n k place at less =
    let parts = div-add-mod' k n in
    let sum : k + 1 ≡ k / n * n + (place + 1) = omega (arith, parts, at) in
    ap (λ m. m % n) sum ∙ mod-mul-add (k / n) n (place + 1) less

pub around : (n k place : ℕ) → k % n ≡ place → place + 1 ≡ n → (k + 1) % n ≡ 0
around n k place at last =
    let parts = div-add-mod' k n in
    let next : suc (k / n) * n ≡ k / n * n + n = omega arith in
    let sum : k + 1 ≡ suc (k / n) * n + 0 = omega (arith, parts, next, at, last) in
    ap (λ m. m % n) sum ∙ mod-mul-add (suc (k / n)) n 0 (omega (arith, last))
