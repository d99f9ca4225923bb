-- These lead nowhere.
use Rattle.std.proofs.Common.{◌≡◌, ℕ, subst, sym, ⊎_elim}
use Rattle.rv_word.specs.declared.inst.Inst.TheVariants.{Ebreak, Illegal}
use Rattle.fitting.specs.Claims.{claims, leads}
use Rattle.certify.specs.Ways.{AreMasks}
use Rattle.certify.proofs.masks.masks_behind.Goals as goal

pub returns-in-Ebreak : goal.returns-in-Ebreak
returns-in-Ebreak c =
    let image = c.args.image.now in
    let none = c.nothing.ensures image in
    ⊎_elim
    (λ (e : c.args.i.now ≡ Ebreak). subst (λ i. AreMasks image (leads (claims image) c.args.pc i) c.nothing.result) (sym e) none)
    (λ (e : (word : ℕ) × (c.args.i.now ≡ Illegal word)). subst (λ i. AreMasks image (leads (claims image) c.args.pc i) c.nothing.result) (sym e.1) none)
    c.in-Ebreak.is
