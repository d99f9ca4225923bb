-- What is marked first, and what is left.
use Rattle.std.proofs.Common.{◌≡◌, ℕ, zero, suc, ◌+◌, ◌-◌, ◌%◌, ◌^◌, ◌≤◌, Bool, true, false, ◌||◌, cond, sym, ap, ◌∙◌, refl, true≢false, arith}
use Rattle.std.proofs.lemmas.Bool.{or_right, cond-true, cond-false}
use Rattle.fitting.specs.Claims.{among}
use Rattle.profile_laws.specs.Tally.{places, bytes_in}
use Rattle.access_trace.specs.Spans.{span_of}
use Rattle.access_trace.specs.Shadows.{mark_at}
use Rattle.access_trace.proofs.Places.{first_or_others}
use Rattle.access_trace.proofs.shadow.Shadow.put.Goals as goal

-- a byte that is left after the first ones was left before
rest_of : (whole left first rest : Bool) → left ≡ (first || rest) → (left ≡ true → whole ≡ true) → rest ≡ true → whole ≡ true
rest_of whole left first rest split was e = was (split ∙ or_right first rest e)

-- the bytes of the whole span, of what was left, of what was marked and of what is left then; the marks of a byte at first, before and after
module _ (whole left first rest : Bool) (split : left ≡ (first || rest)) (start before after mark : ℕ) (put : after ≡ cond first mark before) where
  not_first : left ≡ false → after ≡ before
  not_first e = put ∙ cond-false first mark before (none first rest (sym split ∙ e))
    where
      none : (x y : Bool) → (x || y) ≡ false → x ≡ false
      none true y e = absurd (true≢false e)
      none false y e = refl

  marked_then : (whole ≡ true → left ≡ false → before ≡ mark) → whole ≡ true → rest ≡ false → after ≡ mark
  marked_then was e later = if_first first refl
    where
      if_first : (b : Bool) → first ≡ b → after ≡ mark
      if_first true f = put ∙ cond-true first mark before f
      if_first false f = let out : left ≡ false = split ∙ ap (λ b. b || rest) f ∙ later in not_first out ∙ was e out

  others_then : (left ≡ true → whole ≡ true) → (whole ≡ false → before ≡ start) → whole ≡ false → after ≡ start
  others_then within was e = not_first (out left within) ∙ was e
    where
      out : (b : Bool) → (b ≡ true → whole ≡ true) → b ≡ false
      out true h = absurd (true≢false (sym (h refl) ∙ e))
      out false h = refl

-- nothing is left
none_left : (count from a : ℕ) → count ≤ 0 → among (places count from) a ≡ false
unfolding places
none_left zero from a le = refl
none_left (suc count) from a le = absurd (omega arith)

pub loop-left-preserved : goal.loop-left-preserved
loop-left-preserved g c =
    let at = g.M.Memory.at in
    let left = c.loop-left.left in
    let count = c.in_ok-count.count in
    let next : ℕ = (left.from + count) % 2 ^ 32 in
    let was = c.loop-left.invariant in
    let among_whole : ℕ → Bool = among (bytes_in (span_of c.args.span)) in
    let among_left : ℕ → Bool = among (places left.count left.from) in
    let among_first : ℕ → Bool = among (places count left.from) in
    let among_rest : ℕ → Bool = among (places (left.count - count) next) in
    let split : (a : ℕ) → among_left a ≡ (among_first a || among_rest a) = λ a. first_or_others count left.count left.from next a c.in_ok-count.ensures.count.1 refl in
    record {
      rest = λ a. rest_of (among_whole a) (among_left a) (among_first a) (among_rest a) (split a) (was.rest a);
      marked = λ a. marked_then (among_whole a) (among_left a) (among_first a) (among_rest a) (split a) (mark_at at c.args.self.now a) (mark_at at c.loop-left.self a) (mark_at at c.put_first.new.self a) c.args.mark (c.in_ok-count.ensures.ok a) (was.marked a);
      others = λ a. others_then (among_whole a) (among_left a) (among_first a) (among_rest a) (split a) (mark_at at c.args.self.now a) (mark_at at c.loop-left.self a) (mark_at at c.put_first.new.self a) c.args.mark (c.in_ok-count.ensures.ok a) (was.rest a) (was.others a);
    }

pub returns-clause-marked : goal.returns-clause-marked
returns-clause-marked g c a there = c.loop-left.invariant.marked a there (none_left c.loop-left.left.count c.loop-left.left.from a c.loop-left-test.false)
