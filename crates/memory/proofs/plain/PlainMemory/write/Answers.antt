use Rattle.std.proofs.Common.{rules, ◌/◌, ◌%◌, ◌≡◌, ◌∙◌, subst, length, ℕ}
use Rattle.std.proofs.lemmas.Bool.{OnTrue_from, OnTrue_at}
use Rattle.memory.specs.Pages.{place_in, bytes_at, overwritten}
use Rattle.memory.proofs.Pages.{written}
use Rattle.memory.proofs.plain.PlainMemory.write.Goals as goal

pub returns-clause-written : goal.returns-clause-written
returns-clause-written c = OnTrue_from c.write.result _ (λ e. written (place_in c.args.self.now.directory) c.args.self.now.pages.items c.write.new.pages.items c.args.a c.args.bytes.now
    (search rules)
    c.requires
    (let P : ℕ → Type 0 = λ p. bytes_at c.write.new.pages.items p (c.args.a / 4096) ≡ overwritten (bytes_at c.args.self.now.pages.items p (c.args.a / 4096)) (c.args.a % 4096) c.args.bytes.now in
    subst P c.place-place.ensures (OnTrue_at e c.write.ensures.here))
    (let P : ℕ → Type 0 = λ p. length (bytes_at c.args.self.now.pages.items p (c.args.a / 4096)) ≡ 4096 in
    subst P c.place-place.ensures (OnTrue_at e c.write.ensures.whole))
    (λ p n ne. c.write.ensures.others p n (λ e. ne (e ∙ c.place-place.ensures))))
