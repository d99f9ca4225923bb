-- Each assumption has no more targets than all have, and its bytes follow those of the ones before.
use Rattle.std.proofs.Common.{◌≡◌, ℕ, ◌+◌, ◌<◌, ◌≤◌, ◌^◌, List, [], ◌∷◌, ◌++◌, length, get_or, take, map, sym, ap, subst, ◌∙◌, arith}
use Rattle.std.proofs.lemmas.List.{get_or-map, length-map, map_more, flat_map_more}
use Rattle.std.proofs.lemmas.List.Sums.{get_or-le-sum_by}
use Rattle.dist_image.specs.declared.image.Assumption.{Assumption}
use Rattle.dist_image.specs.Image.{Premise, premise, targets_of, target_count}
use Rattle.word_format.specs.Bytes.{words}
use Rattle.dist_image.specs.Bytes.{premise_words, table_bytes}
use Rattle.dist_image.proofs.writing.put_assumptions.Goals as goal

few_targets : (xs : List Assumption) (i : ℕ) (x : Assumption) → i < length xs → x ≡ get_or xs i x → target_count (map premise xs) < 2 ^ 32 → length (targets_of (premise x)) < 2 ^ 32
few_targets xs i x lt is few =
    let at : get_or (map premise xs) i (premise x) ≡ premise x = get_or-map premise xs i x (premise x) lt ∙ ap premise (sym is) in
    let le = get_or-le-sum_by (λ (p : Premise). length (targets_of p)) (map premise xs) i (premise x) (omega (arith, length-map xs premise)) in
    let few_here : length (targets_of (premise x)) ≤ target_count (map premise xs) = subst (λ (p : Premise). length (targets_of p) ≤ target_count (map premise xs)) at le in
    omega arith

one_more : (out : List ℕ) (xs : List Assumption) (i : ℕ) (x : Assumption) → i < length xs → x ≡ get_or xs i x →
    (out ++ table_bytes premise_words (map premise (take i xs))) ++ words (premise_words (premise x)) ≡ out ++ table_bytes premise_words (map premise (take (i + 1) xs))
one_more out xs i x lt is =
    let more : map premise (take i xs) ++ premise x ∷ [] ≡ map premise (take (i + 1) xs) = ap (λ (y : Assumption). map premise (take i xs) ++ premise y ∷ []) is ∙ sym (map_more premise xs i x lt) in
    flat_map_more (λ p. words (premise_words p)) out (map premise (take i xs)) (premise x) ∙ ap (λ (ps : List Premise). out ++ table_bytes premise_words ps) more

pub put_assumption-requires : goal.put_assumption-requires
put_assumption-requires c = few_targets c.args.assumptions.now c.loop-assumption.assumption-index c.assumption-item.result c.loop-assumption-test.true c.assumption-item.is c.requires

pub loop-assumption-preserved : goal.loop-assumption-preserved
loop-assumption-preserved c =
    c.in_ok-put_assumption.ensures
    ∙ ap (λ (bytes : List ℕ). bytes ++ words (premise_words (premise c.assumption-item.result))) c.loop-assumption.invariant
    ∙ one_more c.args.out.now.items c.args.assumptions.now c.loop-assumption.assumption-index c.assumption-item.result c.loop-assumption-test.true c.assumption-item.is
