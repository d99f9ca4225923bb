-- A plan whose images are valid: nothing is known in any of them.
use Rattle.std.proofs.Common.{◌≡◌, ℕ, ◌<◌, refl, subst, arith, inl}
use Rattle.dist_image.specs.Image.{IsImage, nothing_known}
use Rattle.adaptive_runs.specs.Laws.{IsUpTo}
use Rattle.adaptive_runs.specs.Rows.{PlanIsMet}

none_below : {A : Type 0} (k : ℕ) → k < 0 → A
none_below k l = absurd (omega (arith, l))

nothing : IsImage nothing_known
nothing = record {
  version = inl refl;
  plain = λ e. (refl, λ k d l. none_below k l);
  limit = (omega arith, omega arith);
  few_slots = omega arith;
  few_anchors = omega arith;
  few_notes = omega arith;
  few_assumptions = omega arith;
  few_targets = omega arith;
  slots = λ k d l. none_below k l;
  anchors = λ k d l. none_below k l;
  anchors_rise = λ k l. absurd (omega (arith, l));
  notes = λ k d l. none_below k l;
  notes_rise = λ k l. absurd (omega (arith, l));
  assumptions = λ k d l. none_below k l;
  assumptions_rise = λ k l. absurd (omega (arith, l));
  few_writes = omega arith;
  writes = λ k d l. none_below k l;
  writes_rise = λ k l. absurd (omega (arith, l));
}

pub plan : PlanIsMet
plan = record {
  some = omega arith;
  first = (nothing, omega arith);
  made = λ position image e. let same : nothing_known ≡ image = cc in subst (IsUpTo 16) same (nothing, omega arith);
}
