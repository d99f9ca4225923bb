-- Byte after byte has the same mark.
use Rattle.std.proofs.Common.{◌≡◌, ◌+◌, ◌%◌, ◌^◌, ⊎_elim, true, sym, ap, ◌∙◌, subst, arith}
use Rattle.std.proofs.lemmas.Bool.{cases_eq}
use Rattle.fitting.specs.Claims.{among}
use Rattle.profile_laws.specs.Tally.{places}
use Rattle.access_trace.specs.Shadows.{own_at}
use Rattle.access_trace.proofs.Places.{behind, among_them}
use Rattle.access_trace.proofs.shadow.Shadow.common_own.Goals as goal

pub loop-i-init : goal.loop-i-init
loop-i-init g c k lt = ap (own_at g.M.Memory.at c.args.self.now) (let e : (c.args.span.from + k) % 2 ^ 32 ≡ c.args.span.from = omega arith in e) ∙ sym c.own-mark.ensures

pub loop-i-preserved : goal.loop-i-preserved
loop-i-preserved g c k lt = ⊎_elim
    (λ (e : k ≡ c.loop-i.i).
    ap (λ n. own_at g.M.Memory.at c.args.self.now ((c.args.span.from + n) % 2 ^ 32)) e ∙ sym c.own.ensures ∙ c.if-own-mark.false)
    (λ (ne : k ≡ c.loop-i.i → ⊥). c.loop-i.invariant k (omega arith))
    (cases_eq k c.loop-i.i)

pub returns-clause-marks : goal.returns-clause-marks
returns-clause-marks g c a there =
    let h = behind c.args.span.count c.args.span.from a there in
    ap (own_at g.M.Memory.at c.args.self.now) h.2 ∙ c.loop-i.invariant h.0 (omega (arith, h.1, c.loop-i-test.false))

pub returns-then-own-mark-clause-found : goal.returns-then-own-mark-clause-found
returns-then-own-mark-clause-found g c mark some alike =
    let from = c.args.span.from in
    let count = c.args.span.count in
    let first : among (places count from) from ≡ true = subst (λ b. among (places count from) b ≡ true) (let e : (from + 0) % 2 ^ 32 ≡ from = omega arith in e) (among_them 0 count from some) in
    absurd (c.if-own-mark.true (c.own.ensures ∙ alike ((from + c.loop-i.i) % 2 ^ 32) (among_them c.loop-i.i count from c.loop-i-test.true) ∙ sym (c.own-mark.ensures ∙ alike from first)))
