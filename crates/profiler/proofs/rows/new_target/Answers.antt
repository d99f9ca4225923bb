-- A number that is put adds one, unless it is there.
use Rattle.std.proofs.Common.{◌≡◌, ◌+◌, ◌∙◌, Bool, true, false, refl, ap, not, cond, length, sym, arith}
use mir.Val.{bool_byte}
use Rattle.std.specs.List.{list_any}
use Rattle.std.specs.BTreeMap.{is_at}
use Rattle.std.specs.Ordering.{nat_cmp}
use Rattle.profile_data.specs.Profile.{Tally}
use Rattle.word_format.proofs.Rising.{rises_from_increasing}
use Rattle.profile_laws.specs.Tally.{with_target}
use Rattle.profiler.proofs.SetPlaced.{set_adds}
use Rattle.profiler.proofs.rows.new_target.Goals as goal

-- a truth as a number
as_number : (b : Bool) → bool_byte b ≡ cond b 1 0
as_number true = refl
as_number false = refl

pub returns-in-Some-clause-added : goal.returns-in-Some-clause-added
returns-in-Some-clause-added c =
    let keys = c.args.row.now.targets in
    let adds = set_adds c.in-Some.to 0 keys (rises_from_increasing keys 0 (λ _. omega arith) c.requires) in
    let found = c.contains.ensures ∙ ap (λ (t : Tally). list_any (is_at (nat_cmp c.in-Some.to)) t.targets) c.row.view_is in
    ap (λ o. length (with_target o keys)) c.in-Some.is ∙ adds ∙ ap (λ n. length keys + n) (sym (c.from.ensures ∙ as_number (not c.contains.result) ∙ ap (λ b. cond (not b) 1 0) found))
