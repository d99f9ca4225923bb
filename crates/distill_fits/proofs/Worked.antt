-- The worked row, by computing.
use Rattle.std.proofs.Common.{refl, sym, true≢false}
use Rattle.distill_rules.specs.Analysed.{analysed}
use Rattle.distill_rules.specs.Rounds.{solved}
use Rattle.layout_rules.specs.Images.{distilled}
use Rattle.distill_fits.specs.Rows.{TwiceRows}

pub twice : TwiceRows
unfolding distilled analysed solved
twice = record {
  analysed = refl;
  not_aimed = refl;
  no_fit = λ fits. true≢false (sym (fits.aimed 0 (record { pc = 0x00010000; slot = 0; live = 0x2; need = 0x2 }) refl));
}
