-- The loads that count rise as the given ones do.
use Rattle.std.proofs.Common.{ℕ, List, sym, ◌∙◌, subst, map}
use Rattle.std.specs.List.Sorted.{IsStrictlyIncreasing}
use Rattle.layout_rules.specs.Images.{with_same}
use Rattle.cuts.specs.Words.{word_in}
use Rattle.cuts.specs.Listed.{place_of, IsListed}
use Rattle.distiller.proofs.Loads.{loads_rise}
use Rattle.distiller.proofs.given.given_cuts.Goals as goal

pub returns-clause-cuts : goal.returns-clause-cuts
returns-clause-cuts c = c.with_same.ensures ∙ (λ i. with_same (c.in_ok-same.ensures {u = tt} i) (c.in_ok-found.ensures.cuts i))

pub returns-clause-listed : goal.returns-clause-listed
returns-clause-listed c =
    let word = word_in c.args.p.now in
    let old = c.in_ok-found.ensures.listed in
    subst IsListed (sym c.with_same.ensures) (record {
      cut = old.cut;
      dead = old.dead;
      writes = old.writes;
      same = subst (λ (es : List (ℕ × ℕ)). IsStrictlyIncreasing (map place_of es)) (sym (c.in_ok-same.ensures {u = tt})) (loads_rise word c.args.f.now.rows c.args.given.now c.requires.rises);
    })
