-- Each entry of the list stands there by a rule, and what the rules assume holds.
use Rattle.std.proofs.Common.{◌≡◌, ℕ, ◌<◌, true, Some, ap, sym, ◌∙◌, arith, true≢false}
use Rattle.std.specs.Prelude.{nat_eq}
use Rattle.std.specs.Map.{lookup}
use Rattle.std.proofs.lemmas.List.Elements.{recursion_from_All}
use Rattle.dist_image.specs.Image.{Premise, Cut, Targets, Dead, Code, Within, Span, Same, kind_of}
use Rattle.fitting.specs.Fits.{IsListed}
use Rattle.fitting.specs.Fails.{program, pc_at, fetched_at, arch_at, loads_as, IsLoaded}
use Rattle.distill_rules.specs.Cuts.{cut_at}
use Rattle.distill_exact.specs.Laws.{HoldsBefore, IsExact}
use Rattle.distill_exact.proofs.Exact.{distills_exactly}
use Rattle.layout_rules.specs.Images.{distilled}
use Rattle.distill_fits.specs.Laws.{Listed}
use Rattle.distill_fits.proofs.Laws.{claims_are_listed}
use Rattle.distill_fits.proofs.Valued.{value_has}
use Rattle.distill_exact.specs.Images.{DistilledExactly}

pub exactly : DistilledExactly
exactly calls start n entry f same o words is loaded rare = record {
  listed = each;
  values = λ pc v l i b x. true≢false (sym (of_value pc v ((there.value pc v) l) i b x.0) ∙ x.1);
  within = holds.within;
  within_ended = holds.within_ended;
}
  where
    there : Listed (program start) entry f same o
    there = claims_are_listed (program start) entry f same o words

    holds : IsExact start (distilled (program start) entry f same o) f.rows n
    holds = distills_exactly calls start n f (distilled (program start) entry f same o) is there.analysed (λ pc h. sym (there.writes pc) ∙ h)

    of_value : (pc v : ℕ) → lookup (nat_eq pc) same ≡ Some v → (i : ℕ) → i < n → pc_at start i ≡ pc → loads_as v (fetched_at start i) (arch_at start i) ≡ true
    of_value pc v e =
        value_has (λ pc v. (i : ℕ) → i < n → pc_at start i ≡ pc → loads_as v (fetched_at start i) (arch_at start i) ≡ true) same
        (recursion_from_All (IsLoaded start n) same loaded) pc v e

    each : (x : Premise) → IsListed (distilled (program start) entry f same o).assumptions x → kind_of x < 4 → HoldsBefore start (distilled (program start) entry f same o) n x
    each (Cut pc taken) l k = holds.cut pc taken (ap (λ r. cut_at (program start) f.rows r pc) (sym rare) ∙ (there.cut pc taken).0 l)
    each (Targets pc to) l k = holds.targets pc to ((there.targets pc to).0 l)
    each (Dead pc) l k = holds.dead pc ((there.dead pc).0 l)
    each Code l k = holds.code
    each Within l k = absurd (omega arith)
    each Span l k = absurd (omega arith)
    each (Same at value) l k = absurd (omega (arith, k))
