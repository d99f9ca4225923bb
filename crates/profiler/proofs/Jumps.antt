-- Where a jump by a register goes.
use Rattle.std.proofs.Common.{◌≡◌, ℕ, Bool, true, false, not, ◌&&◌, cond, Option, Some, None, refl, sym, ap, ◌∙◌}
use Rattle.cells.specs.Cells.{value}
use Rattle.cells.specs.Run.{State, is_over, printed}
use Rattle.rv_word.specs.Meaning.{meaning}
use Rattle.rv_semantics.specs.declared.Flow.{Flow}
use Rattle.rv_semantics.specs.declared.Flow.TheVariants.{Next, Call, Break, Illegal, Misfetch}
use Rattle.rv_semantics.specs.Machine.{machine, word_at, is_next, moved, pc_after}
use Rattle.rv_semantics.specs.Calls.{step, call, flow_at}
use Rattle.profile_laws.specs.Tally.{Visit, Span, is_register_jump}
use Rattle.profiler.specs.Visits.{goes_to, jump_target}

module _ (s : State) (going : is_over s ≡ false) where
  next_pc : (to : ℕ) → flow_at s ≡ Next to → (step s).arch.pc ≡ to
  unfolding moved
  next_pc to e =
      ap (λ b. (cond b s (cond (machine.stops s.arch) (call s) (record { arch = machine.move s.arch; env = printed s.env (machine.says s.arch) }))).arch.pc) going
      ∙ ap (λ (f : Flow). (cond (not (is_next f)) (call s) (record { arch = machine.move s.arch; env = printed s.env (machine.says s.arch) })).arch.pc) e
      ∙ ap (pc_after s.arch.pc) e

  pub target_is : jump_target (meaning (word_at s.arch)) s.arch.pc (value s.arch)
      ≡ cond (is_register_jump (meaning (word_at s.arch)) && not (machine.stops s.arch)) (Some (step s).arch.pc) None
  target_is = by_flow (is_register_jump (meaning (word_at s.arch))) (flow_at s) refl
    where
      by_flow : (b : Bool) (f : Flow) → flow_at s ≡ f → cond b (goes_to f) None ≡ cond (b && not (not (is_next f))) (Some (step s).arch.pc) None
      by_flow false f e = refl
      by_flow true (Next to) e = ap Some (sym (next_pc to e))
      by_flow true Call e = refl
      by_flow true Break e = refl
      by_flow true (Illegal w) e = refl
      by_flow true (Misfetch to) e = refl

-- a visit, part by part
pub same_visit : (pc qc : ℕ) (taken taken' changed changed' : Bool) (target target' : Option ℕ) (loads loads' puts puts' : Span) (claim claim' : ℕ)
    → pc ≡ qc → taken ≡ taken' → changed ≡ changed' → target ≡ target' → loads ≡ loads' → puts ≡ puts' → claim ≡ claim'
    → let v : Visit = record { pc = pc; taken = taken; changed = changed; target = target; loads = loads; puts = puts; claim = claim } in
    let w : Visit = record { pc = qc; taken = taken'; changed = changed'; target = target'; loads = loads'; puts = puts'; claim = claim' } in v ≡ w
same_visit pc qc taken taken' changed changed' target target' loads loads' puts puts' claim claim' a b c d e f g =
    λ i. record { pc = a i; taken = b i; changed = c i; target = d i; loads = e i; puts = f i; claim = g i }
