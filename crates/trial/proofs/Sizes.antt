-- How many words there are.
use Rattle.std.proofs.Common.{◌≡◌, ℕ, ◌+◌, ◌*◌, ◌≤◌, zero, suc, List, [], ◌∷◌, ◌++◌, length, refl, ap, ◌∙◌, arith}
use Rattle.std.proofs.lemmas.List.{length-map, length-append}
use Rattle.rand_core.specs.Pcg32Seed.{pcg32_seed}
use Rattle.rand_pcg.specs.Lcg.{Lcg}
use Rattle.rand_pcg.specs.Pcg.{pcg32_of_seed}
use Rattle.rv_word.specs.declared.inst.Inst.{Inst}
use Rattle.rv_word.specs.Spelling.{spelling}
use Rattle.trial.specs.Made.{draw, around, body, block, blocks, ending, made, words}
use Rattle.trial.specs.File.{bytes_of}
use Rattle.trial.proofs.Forms.{length-body}

and_three : (is : List Inst) (a b c : Inst) → length (is ++ a ∷ b ∷ c ∷ []) ≡ length is + 3
and_three is a b c = length-append is (a ∷ b ∷ c ∷ [])

length-around : (turns : ℕ) (is : List Inst) → length (around turns is) ≡ length is + 4
length-around turns is = ap suc (and_three is _ _ _) ∙ omega arith

block_few : (g : Lcg) → length (block g).0 ≤ 10
block_few g =
    let n = draw 49 g in
    let k = draw 6 n.1 in
    omega (arith, length-around (2 + n.0) (body (1 + k.0) k.1).0, length-body (1 + k.0) k.1)

blocks_few : (k : ℕ) (g : Lcg) → length (blocks k g).0 ≤ 10 * k
unfolding blocks
blocks_few zero g = omega arith
blocks_few (suc k) g = omega (arith, length-append (block g).0 (blocks k (block g).1).0, block_few g, blocks_few k (block g).1)

pub words_few : (seed size : ℕ) → length (words seed size) ≤ 10 * size + 15
words_few seed size =
    let g = pcg32_of_seed (pcg32_seed 16 seed) in
    omega (arith, length-map (made seed size) spelling, length-append (blocks size g).0 ending, blocks_few size g)

pub length-bytes : (ns : List ℕ) → length (bytes_of ns) ≡ 4 * length ns
length-bytes [] = refl
length-bytes (n ∷ ns) = omega (arith, length-bytes ns)
