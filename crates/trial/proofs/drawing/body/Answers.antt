-- One instruction after the other.
use Rattle.std.proofs.Common.{◌≡◌, ◌+◌, ◌-◌, suc, ◌++◌, map, sym, ap, ◌∙◌, arith}
use Rattle.rv_word.specs.Spelling.{spelling}
use Rattle.trial.specs.Made.{body}
use Rattle.trial.proofs.Forms.{drawn_more, rest_more, drawn_all, no_rest}
use Rattle.trial.proofs.drawing.body.Goals as goal

pub loop-i-preserved : goal.loop-i-preserved
loop-i-preserved c =
    let k = c.args.k in
    let i = c.loop-i.i in
    let e : k - i ≡ suc (k - (i + 1)) = omega arith in
    record {
      value = drawn_more k i c.loop-i.g c.instruction.new.g c.instruction.result _ c.loop-i.words.items e c.loop-i.invariant.value c.instruction.ensures.value c.instruction.ensures.rest
          ∙ ap (λ xs. xs ++ map spelling (body (k - (i + 1)) c.instruction.new.g).0) (sym c.in_ok-push.ensures);
      rest = rest_more k i c.loop-i.g c.instruction.new.g _ e c.loop-i.invariant.rest c.instruction.ensures.rest;
    }

pub returns-clause-value : goal.returns-clause-value
returns-clause-value c =
    let none : c.args.k - c.loop-i.i ≡ 0 = omega arith in
    sym (c.loop-i.invariant.value ∙ ap (λ n. c.loop-i.words.items ++ map spelling (body n c.loop-i.g).0) none ∙ sym (drawn_all c.loop-i.g c.loop-i.words.items))

pub returns-clause-rest : goal.returns-clause-rest
returns-clause-rest c =
    let none : c.args.k - c.loop-i.i ≡ 0 = omega arith in
    sym (c.loop-i.invariant.rest ∙ ap (λ n. (body n c.loop-i.g).1) none ∙ no_rest c.loop-i.g)
