-- The forms of drawn instructions, and words so far.
use Rattle.std.proofs.Common.{◌≡◌, ℕ, ◌+◌, ◌-◌, ◌*◌, zero, suc, List, [], ◌∷◌, ◌++◌, map, length, refl, sym, ap, ◌∙◌, append_assoc}
use Rattle.std.proofs.lemmas.Bool.{ne_eqb}
use Rattle.std.proofs.lemmas.List.{map-append, append-nil}
use Rattle.rand_pcg.specs.Lcg.{Lcg}
use Rattle.std.specs.Prelude.{pos, neg_ℤ}
use Rattle.rv_word.specs.declared.inst.Test.TheVariants.{Bne, Blt}
use Rattle.rv_word.specs.declared.inst.ImmOp.TheVariants.{Addi}
use Rattle.rv_word.specs.declared.inst.Inst.{Inst}
use Rattle.rv_word.specs.declared.inst.Inst.TheVariants.{Branch, OpImm}
use Rattle.rv_word.specs.Spelling.{spelling}
use Rattle.trial.specs.Made.{by_form, store, instruction, body, around, block, blocks}

pub last_form : (f : ℕ) (g : Lcg) → (f ≡ 0 → ⊥) → (f ≡ 1 → ⊥) → (f ≡ 2 → ⊥) → (f ≡ 3 → ⊥) → (f ≡ 4 → ⊥) → by_form f g ≡ store g
last_form f g a b c d e = rw (ne_eqb f 0 a, ne_eqb f 1 b, ne_eqb f 2 c, ne_eqb f 3 d, ne_eqb f 4 e) refl

-- one more instruction is drawn
pub drawn_more : (k i : ℕ) (g g' : Lcg) (x : Inst) (whole done : List ℕ) → k - i ≡ suc (k - (i + 1))
    → whole ≡ done ++ map spelling (body (k - i) g).0 → x ≡ (instruction g).0 → g' ≡ (instruction g).1 → whole ≡ (done ++ spelling x ∷ []) ++ map spelling (body (k - (i + 1)) g').0
unfolding body
drawn_more k i g g' x whole done e h is next =
    rw append_assoc (h ∙ ap (λ n. done ++ map spelling (body n g).0) e ∙ (λ j. done ++ (spelling (sym is j) ∷ map spelling (body (k - (i + 1)) (sym next j)).0)))

pub rest_more : (k i : ℕ) (g g' : Lcg) (end : Lcg) → k - i ≡ suc (k - (i + 1)) → end ≡ (body (k - i) g).1 → g' ≡ (instruction g).1 → end ≡ (body (k - (i + 1)) g').1
unfolding body
rest_more k i g g' end e h next = h ∙ ap (λ n. (body n g).1) e ∙ ap (λ x. (body (k - (i + 1)) x).1) (sym next)

-- none is to come
pub drawn_all : (g : Lcg) (done : List ℕ) → done ≡ done ++ map spelling (body 0 g).0
unfolding body
drawn_all g done = sym (append-nil done)

pub no_rest : (g : Lcg) → (body 0 g).1 ≡ g
unfolding body
no_rest g = refl

-- one more block is made
pub block_more : (k i : ℕ) (g g' : Lcg) (whole done piece : List ℕ) → k - i ≡ suc (k - (i + 1))
    → whole ≡ done ++ map spelling (blocks (k - i) g).0 → piece ≡ done ++ map spelling (block g).0 → g' ≡ (block g).1 → whole ≡ piece ++ map spelling (blocks (k - (i + 1)) g').0
unfolding blocks
block_more k i g g' whole done piece e h is next =
    let rest = map spelling (blocks (k - (i + 1)) (block g).1).0 in
    h ∙ ap (λ n. done ++ map spelling (blocks n g).0) e
    ∙ ap (λ ws. done ++ ws) (map-append spelling (block g).0 (blocks (k - (i + 1)) (block g).1).0)
    ∙ sym (append_assoc done (map spelling (block g).0) rest)
    ∙ (λ j. sym is j ++ map spelling (blocks (k - (i + 1)) (sym next j)).0)

pub no_blocks : (g : Lcg) → map spelling (blocks 0 g).0 ≡ []
unfolding blocks
no_blocks g = refl

-- ---- how many words there are

pub length-body : (k : ℕ) (g : Lcg) → length (body k g).0 ≡ k
unfolding body
length-body zero g = refl
length-body (suc k) g = ap suc (length-body k (instruction g).1)

-- a block's words, one after the other
pub around_words : (turns : ℕ) (is : List Inst) (before : List ℕ) (back : ℕ) → back ≡ 4 * (length is + 2)
    → (((before ++ spelling (OpImm Addi 6 0 (pos turns)) ∷ []) ++ map spelling is) ++ 0x00034463 ∷ 0xFFF30313 ∷ []) ++ spelling (Branch Bne 6 0 (neg_ℤ (pos back))) ∷ []
    ≡ before ++ map spelling (around turns is)
around_words turns is before back e =
    let s = spelling (OpImm Addi 6 0 (pos turns)) in
    let m = map spelling is in
    let counted = 0x00034463 ∷ 0xFFF30313 ∷ [] in
    let last = spelling (Branch Bne 6 0 (neg_ℤ (pos back))) ∷ [] in
    append_assoc ((before ++ s ∷ []) ++ m) counted last
    ∙ append_assoc (before ++ s ∷ []) m (counted ++ last)
    ∙ append_assoc before (s ∷ []) (m ++ (counted ++ last))
    ∙ ap (λ n. before ++ s ∷ (m ++ 0x00034463 ∷ 0xFFF30313 ∷ spelling (Branch Bne 6 0 (neg_ℤ (pos n))) ∷ [])) e
    ∙ ap (λ ws. before ++ s ∷ ws) (sym (map-append spelling is (Branch Blt 6 0 (pos 8) ∷ OpImm Addi 6 6 (neg_ℤ (pos 1)) ∷ Branch Bne 6 0 (neg_ℤ (pos (4 * (length is + 2)))) ∷ [])))
