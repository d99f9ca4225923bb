-- What is seen is the visit.
use Rattle.std.proofs.Common.{◌≡◌, ◌+◌, ℕ, not, false, cond, ap, sym, ◌∙◌, refl, rules}
use Rattle.std.specs.Prelude.{nat_eq}
use Rattle.cells.specs.Cells.{value}
use Rattle.cells.specs.Run.{is_over}
use Rattle.rv_word.specs.Meaning.{meaning}
use Rattle.rv_semantics.specs.Machine.{word_at}
use Rattle.rv_semantics.specs.Effect.{is_store}
use Rattle.rv_semantics.specs.Values.{arch_of}
use Rattle.seq_machine.specs.States.{state_of}
use Rattle.profile_laws.specs.Profiles.{with_mark, is_counted}
use Rattle.profile_laws.specs.Tally.{loaded, stored}
use Rattle.profiler.specs.Visits.{jump_target}
use Rattle.profiler.proofs.Jumps.{target_is, same_visit}
use Rattle.profiler.proofs.visit.look.Goals as goal

pub returns-else-is_store-clause-visit : goal.returns-else-is_store-clause-visit
returns-else-is_store-clause-visit g c =
    let at = g.M.Memory.at in
    let now = c.args.machine.now in
    let s = state_of at now in
    let prints = with_mark c.args.calls in
    let going : is_over s ≡ false = search rules in
    let inst : c.decode-inst.result ≡ meaning (word_at s.arch) = c.decode-inst.ensures.means ∙ ap meaning c.fetch-word.ensures.value in
    let arch : arch_of now.arch.pc now.arch.regs (at c.fetch-word.new.self) ≡ s.arch = ap (λ (m : ℕ → ℕ). arch_of now.arch.pc now.arch.regs m) c.fetch-word.ensures.stays in
    let claim : 0 ≡ cond (is_store (meaning (word_at s.arch))) (now.arch.pc + 1) 0 = ap (λ b. cond b (now.arch.pc + 1) 0) (sym c.if-is_store.false ∙ c.is_store.ensures ∙ ap is_store inst) in
    same_visit _ _ _ _ _ _ _ _ _ _ _ _ _ _
    refl
    (c.is_counted.ensures ∙ (λ i. is_counted prints (inst i) (arch i)))
    (λ i. not (nat_eq (c.fetch-word.ensures.value i) (c.fetch.ensures.value i)))
    (c.target.ensures ∙ (λ i. jump_target (inst i) now.arch.pc (value (arch i))) ∙ target_is s going)
    (c.loaded.ensures ∙ (λ i. loaded prints (inst i) (arch i)))
    (c.stored.ensures.bytes ∙ (λ i. stored (inst i) (record { arch = arch i; env = s.env })))
    claim

pub returns-then-is_store-clause-visit : goal.returns-then-is_store-clause-visit
returns-then-is_store-clause-visit g c =
    let at = g.M.Memory.at in
    let now = c.args.machine.now in
    let s = state_of at now in
    let prints = with_mark c.args.calls in
    let going : is_over s ≡ false = search rules in
    let inst : c.decode-inst.result ≡ meaning (word_at s.arch) = c.decode-inst.ensures.means ∙ ap meaning c.fetch-word.ensures.value in
    let arch : arch_of now.arch.pc now.arch.regs (at c.fetch-word.new.self) ≡ s.arch = ap (λ (m : ℕ → ℕ). arch_of now.arch.pc now.arch.regs m) c.fetch-word.ensures.stays in
    let claim : now.arch.pc + 1 ≡ cond (is_store (meaning (word_at s.arch))) (now.arch.pc + 1) 0 = ap (λ b. cond b (now.arch.pc + 1) 0) (sym c.if-is_store.true ∙ c.is_store.ensures ∙ ap is_store inst) in
    same_visit _ _ _ _ _ _ _ _ _ _ _ _ _ _
    refl
    (c.is_counted.ensures ∙ (λ i. is_counted prints (inst i) (arch i)))
    (λ i. not (nat_eq (c.fetch-word.ensures.value i) (c.fetch.ensures.value i)))
    (c.target.ensures ∙ (λ i. jump_target (inst i) now.arch.pc (value (arch i))) ∙ target_is s going)
    (c.loaded.ensures ∙ (λ i. loaded prints (inst i) (arch i)))
    (c.stored.ensures.bytes ∙ (λ i. stored (inst i) (record { arch = arch i; env = s.env })))
    claim
