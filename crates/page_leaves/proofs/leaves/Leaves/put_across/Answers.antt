use Rattle.std.proofs.Common.{rules, arith, length, refl, inl, inr, ⊎_elim}
use Rattle.std.proofs.lemmas.Grind.{common_steps}
use Rattle.std.proofs.lemmas.Bool.{cases_eq}
use Rattle.page_leaves.specs.Trees.{held}
use Rattle.memory.proofs.Puts.{put_more}
use Rattle.page_leaves.proofs.Trees.{fewer}
use Rattle.page_leaves.proofs.leaves.Leaves.put_across.Goals as goal

pub loop-rest-preserved : goal.loop-rest-preserved
loop-rest-preserved g c = record {
  to_do = put_more (held c.loop-rest.next) (held c.put_leaf.new.self) _ c.loop-rest.at _ c.min.result c.loop-rest.rest.now c.split_at.result.0.now c.split_at.result.1.now
      c.split_at.ensures.front c.split_at.ensures.back refl c.in_ok-put_leaf.ensures.ok c.loop-rest.invariant.to_do;
  few = fewer _ c.loop-rest.steps c.put_leaf.new.steps c.loop-rest.at _ (length c.split_at.result.0.now) (length c.loop-rest.rest.now) (length c.split_at.result.1.now)
      refl (grind (arith, common_steps, c.split_at.ensures.front_len, c.split_at.ensures.back_len)) (⊎_elim (λ e. inl e) (λ ne. inr (grind (arith, common_steps, c.split_at.ensures.front_len))) (cases_eq (length c.split_at.result.0.now) (length c.loop-rest.rest.now)))
      (grind (arith, common_steps, c.split_at.ensures.front_len)) (search rules) (grind (arith, common_steps, c.split_at.ensures.front_len)) c.put_leaf.ensures.count c.loop-rest.invariant.few;
}
