-- The count of the executed loads, once more is known of one.
use Rattle.std.proofs.Common.{◌≡◌, ℕ, ◌+◌, cond, List, Option, Some, None, refl, sym, ap, ◌∙◌, arith}
use Rattle.std.specs.Ordering.{nat_cmp}
use Rattle.std.specs.Option.{option_map, unwrap_or}
use Rattle.std.specs.List.Sorted.{IsStrictlySortedBy}
use Rattle.std.specs.Map.{keys_of, lookup}
use Rattle.std.specs.BTreeMap.{insert_entry, is_at}
use Rattle.std.proofs.lemmas.Cmp.{nat_cmp_total}
use Rattle.std.proofs.lemmas.Map.Entries.{sum_by-insert_entry}
use Rattle.load_values.specs.declared.sight.Sight.{Sight}
use Rattle.load_values.specs.declared.loads.Found.{Found}
use Rattle.load_values.specs.Sights.{noted, is_executed, newly, weight, executed_count}
use Rattle.load_values.proofs.Loading.{weight_noted}

weight_in : (k : Option Found) → unwrap_or (option_map weight k) 0 ≡ cond (is_executed k) 1 0
weight_in None = refl
weight_in (Some f) = refl

pub count_next : (old new : List (ℕ × Found)) (pc : ℕ) (s : Sight) (f : Found) (k : Option Found) → IsStrictlySortedBy nat_cmp (keys_of old) → new ≡ insert_entry nat_cmp old pc f → f ≡ noted s k
    → k ≡ lookup (is_at (nat_cmp pc)) old → executed_count new ≡ executed_count old + newly s k
count_next old new pc s f k order more is known =
    let a = sum_by-insert_entry weight nat_cmp_total old pc f order in
    let b = ap executed_count more in
    let c = ap (λ (o : Option Found). unwrap_or (option_map weight o) 0) (sym known) ∙ weight_in k in
    let d = ap weight is ∙ weight_noted s k in
    omega (arith, a, b, c, d)
