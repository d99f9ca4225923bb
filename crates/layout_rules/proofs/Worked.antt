-- The worked rows, by computing.
use Rattle.std.proofs.Common.{refl}
use Rattle.distill_rules.specs.Analysed.{analysed}
use Rattle.distill_rules.specs.Rounds.{solved}
use Rattle.layout_rules.specs.Images.{distilled}
use Rattle.layout_rules.specs.Rows.{CountRows, AimRows, HotRows, NeverRows, StoreRows, InputRows, BareRows, PrintRows, ValueRows}

pub counts : CountRows
counts = record { worked = refl; greatest = refl; least = refl; one_arrival_a_step = refl; no_arrival = refl }

pub aims : AimRows
aims = record {
  to_itself = refl;
  fallen_side_cut = refl;
  taken_side_cut = refl;
  ahead = refl;
  back = refl;
  jump_ahead = refl;
  linked = refl;
  jump_to_itself = refl;
  around = refl;
  no_jump = refl;
}

pub hot : HotRows
unfolding analysed
hot = record { exactly = refl; too_seldom = refl }

pub never : NeverRows
unfolding analysed solved distilled
never = refl

pub store : StoreRows
unfolding analysed solved distilled
store = refl

pub input : InputRows
unfolding analysed solved distilled
input = record { slots = refl; anchors = refl; assumptions = refl }

pub bare : BareRows
unfolding analysed solved distilled
bare = record { looped = refl; no_rows = refl; all_changed = refl }

pub print : PrintRows
unfolding analysed solved distilled
print = record { printed = refl; at_most = refl; shown = refl }

pub value : ValueRows
unfolding analysed solved distilled
value = record { set = refl; unneeded = refl }
