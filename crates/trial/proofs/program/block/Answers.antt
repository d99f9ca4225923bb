-- The words of a block, and the generator behind its draws.
use Rattle.std.proofs.Common.{◌≡◌, ℕ, ◌+◌, ◌*◌, List, [], ◌∷◌, ◌++◌, map, length, ap, ◌∙◌, arith}
use Rattle.std.proofs.lemmas.Result.{on_ok_weaker}
use Rattle.rand_pcg.specs.Lcg.{Lcg}
use Rattle.std.specs.Prelude.{pos, neg_ℤ}
use Rattle.rv_word.specs.declared.inst.Test.TheVariants.{Bne}
use Rattle.rv_word.specs.declared.inst.ImmOp.TheVariants.{Addi}
use Rattle.rv_word.specs.declared.inst.Inst.{Inst}
use Rattle.rv_word.specs.declared.inst.Inst.TheVariants.{Branch, OpImm}
use Rattle.rv_word.specs.Spelling.{spelling}
use Rattle.trial.specs.Made.{draw, body, around}
use Rattle.trial.proofs.Forms.{around_words, length-body}
use Rattle.trial.proofs.program.block.Goals as goal

pub returns-clause-value : goal.returns-clause-value
returns-clause-value c =
    let g = c.args.g.now in
    let before = c.args.words.now.items in
    let is = (body (1 + c.draw-k.result) c.draw-k.new.g).0 in
    let back = 4 * (1 + c.draw-k.result + 2) in
    let n : c.draw-turns.result ≡ (draw 49 g).0 = c.draw-turns.ensures.value in
    let k : c.draw-k.result ≡ (draw 6 (draw 49 g).1).0 = c.draw-k.ensures.value ∙ ap (λ (x : Lcg). (draw 6 x).0) c.draw-turns.ensures.rest in
    let next : c.draw-k.new.g ≡ (draw 6 (draw 49 g).1).1 = c.draw-k.ensures.rest ∙ ap (λ (x : Lcg). (draw 6 x).1) c.draw-turns.ensures.rest in
    let far : back ≡ 4 * (length is + 2) = omega (arith, length-body (1 + c.draw-k.result) c.draw-k.new.g) in
    let most : c.extend_from_slice.new.self.items ≡ ((before ++ spelling (OpImm Addi 6 0 (pos (2 + c.draw-turns.result))) ∷ []) ++ map spelling is) ++ 0x00034463 ∷ 0xFFF30313 ∷ [] =
    c.in_ok-extend_from_slice.ensures.items ∙ ap (λ (ws : List ℕ). ws ++ 0x00034463 ∷ 0xFFF30313 ∷ []) (c.in_ok-body.ensures.value ∙ ap (λ (ws : List ℕ). ws ++ map spelling is) (c.in_ok-push.ensures ∙ ap (λ (i : Inst). before ++ spelling i ∷ []) c.begin.ensures.value)) in
    on_ok_weaker c.push-2.result
    (λ e. e ∙ ap (λ (i : Inst). c.extend_from_slice.new.self.items ++ spelling i ∷ []) c.again.ensures.value
    ∙ ap (λ (ws : List ℕ). ws ++ spelling (Branch Bne 6 0 (neg_ℤ (pos back))) ∷ []) most ∙ around_words (2 + c.draw-turns.result) is before back far
    ∙ (λ i. before ++ map spelling (around (2 + n i) (body (1 + k i) (next i)).0)))
    c.push-2.ensures

pub returns-clause-rest : goal.returns-clause-rest
returns-clause-rest c =
    let g = c.args.g.now in
    let k : c.draw-k.result ≡ (draw 6 (draw 49 g).1).0 = c.draw-k.ensures.value ∙ ap (λ (x : Lcg). (draw 6 x).0) c.draw-turns.ensures.rest in
    let next : c.draw-k.new.g ≡ (draw 6 (draw 49 g).1).1 = c.draw-k.ensures.rest ∙ ap (λ (x : Lcg). (draw 6 x).1) c.draw-turns.ensures.rest in
    on_ok_weaker c.push-2.result (λ _. c.in_ok-body.ensures.rest ∙ (λ i. (body (1 + k i) (next i)).1)) c.push-2.ensures
