-- The worked rows, by computing.
use Rattle.std.proofs.Common.{refl}
use Rattle.distill_rules.specs.Analysed.{analysed}
use Rattle.distill_rules.specs.Rounds.{solved}
use Rattle.distill_rules.specs.Rows.{SideRows, RuleRows, NeverRows, StoreRows, JumpRows, StrangeRows, HelloRows, FenceRows}

pub sides : SideRows
sides = record {
  never = refl;
  always = refl;
  once = refl;
  at_the_bound = refl;
  past_the_bound = refl;
  fallen_at_the_bound = refl;
  equal = refl;
  great = refl;
  past_great = refl;
  wraps_to_nothing = refl;
}

pub rules : RuleRows
rules = record { ahead = refl; to_itself = refl; to_the_next = refl; aside = refl; no_branch = refl; unread = refl; read = refl; no_store = refl; each_short = refl; one_not_short = refl; no_call = refl }

pub never : NeverRows
unfolding analysed solved
never = record { cut = refl; leads = refl; masks = refl }

pub store : StoreRows
unfolding analysed solved
store = record { cut = refl; masks = refl }

pub jump : JumpRows
unfolding analysed solved
jump = record { leads = refl; masks = refl }

pub strange : StrangeRows
unfolding analysed solved
strange = record { cut = refl; uncut_leads = refl; leads = refl; masks = refl }

pub hello : HelloRows
unfolding analysed solved
hello = record { cut = refl; masks = refl }

pub fence : FenceRows
unfolding analysed solved
fence = record { masks = refl }
