-- One block after the other, and the end.
use Rattle.std.proofs.Common.{◌≡◌, ℕ, ◌+◌, ◌-◌, ◌*◌, ◌≤◌, suc, List, ◌∷◌, ◌++◌, map, length, sym, ap, ◌∙◌, subst, arith}
use Rattle.std.proofs.lemmas.List.{map-append, append-nil}
use Rattle.rand_core.specs.Pcg32Seed.{pcg32_seed}
use Rattle.rand_pcg.specs.Pcg.{pcg32_of_seed}
use Rattle.rv_word.specs.Spelling.{spelling}
use Rattle.trial.specs.Made.{blocks, ending, words}
use Rattle.trial.proofs.Forms.{block_more, no_blocks}
use Rattle.trial.proofs.Sizes.{words_few}
use Rattle.trial.proofs.program.words.Goals as goal
use Rattle.trial.proofs.program.words.Goals.{After-extend_from_slice}

pub loop-i-preserved : goal.loop-i-preserved
loop-i-preserved c =
    let e : c.args.size - c.loop-i.i ≡ suc (c.args.size - (c.loop-i.i + 1)) = omega arith in
    block_more c.args.size c.loop-i.i c.loop-i.g c.block.new.g _ c.loop-i.words.items c.block.new.words.items e c.loop-i.invariant c.in_ok-block.ensures.value c.in_ok-block.ensures.rest

pub returns-clause-words : goal.returns-clause-words
returns-clause-words c =
    let bs = (blocks c.args.size (pcg32_of_seed (pcg32_seed 16 c.args.seed))).0 in
    let none : c.args.size - c.loop-i.i ≡ 0 = omega arith in
    let all : c.loop-i.words.items ≡ 0x008002B7 ∷ map spelling bs =
    sym (c.loop-i.invariant ∙ ap (λ n. c.loop-i.words.items ++ map spelling (blocks n c.loop-i.g).0) none ∙ ap (λ ws. c.loop-i.words.items ++ ws) (no_blocks c.loop-i.g) ∙ append-nil c.loop-i.words.items) in
    c.in_ok-extend_from_slice.ensures.items ∙ ap (λ ws. ws ++ map spelling ending) all ∙ ap (λ ws. 0x008002B7 ∷ ws) (sym (map-append spelling bs ending))

pub returns-clause-few : goal.returns-clause-few
returns-clause-few c =
    let bs = (blocks c.args.size (pcg32_of_seed (pcg32_seed 16 c.args.seed))).0 in
    let none : c.args.size - c.loop-i.i ≡ 0 = omega arith in
    let all : c.loop-i.words.items ≡ 0x008002B7 ∷ map spelling bs =
    sym (c.loop-i.invariant ∙ ap (λ n. c.loop-i.words.items ++ map spelling (blocks n c.loop-i.g).0) none ∙ ap (λ ws. c.loop-i.words.items ++ ws) (no_blocks c.loop-i.g) ∙ append-nil c.loop-i.words.items) in
    let is : c.extend_from_slice.new.self.items ≡ words c.args.seed c.args.size =
    c.in_ok-extend_from_slice.ensures.items ∙ ap (λ ws. ws ++ map spelling ending) all ∙ ap (λ ws. 0x008002B7 ∷ ws) (sym (map-append spelling bs ending)) in
    subst (λ (ws : List ℕ). length ws ≤ 10 * c.args.size + 15) (sym is) (words_few c.args.seed c.args.size)
