-- What a step of the run does, as far as the assumptions speak of it.
use Rattle.std.proofs.Common.{◌≡◌, ℕ, zero, suc, ◌<◌, Bool, true, false, ◌||◌, ◌&&◌, cond, refl, sym, ap, ◌∙◌, ⊎_elim, arith}
use Rattle.std.specs.Prelude.{nat_eq, not}
use Rattle.std.proofs.lemmas.Bool.{eq-eqb, or_left, or_right, cases_eq}
use Rattle.rv_word.specs.declared.inst.Inst.{Inst}
use Rattle.rv_word.specs.declared.inst.Inst.TheVariants.{Branch, Jalr}
use Rattle.cells.specs.Cells.{Arch, value}
use Rattle.cells.specs.Run.{State, is_over, printed}
use Rattle.rv_semantics.specs.Prints.{nowhere, is_short_write}
use Rattle.rv_semantics.specs.Effect.{Effect}
use Rattle.rv_semantics.proofs.Tasks.{asks_no_other, own_effect, moves}
use Rattle.rv_semantics.specs.Machine.{doing, machine, machine_in, is_next}
use Rattle.rv_semantics.specs.Calls.{call, step}
use Rattle.fitting.specs.Claims.{among}
use Rattle.fitting.specs.Fails.{Branches, IsRegisterJump, pc_at}
use Rattle.profile_laws.specs.Profiles.{is_taken, is_counted, pcs}
use Rattle.profile_laws.proofs.Listed.{among_with_new}

pub branch_taken : (prints : ℕ → Bool) (side : Bool) (i : Inst) (s : Arch) → Branches side i s → is_counted prints i s ≡ side
branch_taken prints side (Branch test rs1 rs2 off) s h =
    ap (λ b. is_taken (Branch test rs1 rs2 off) s || (b && is_short_write (value s))) (asks_no_other prints (Branch test rs1 rs2 off) s.pc refl) ∙ no_more (is_taken (Branch test rs1 rs2 off) s) ∙ h
  where
    no_more : (b : Bool) → (b || false) ≡ b
    no_more true = refl
    no_more false = refl
branch_taken prints side _ s h = absurd h

-- a jump by a register stops no task where it stops no machine
pub jump_quiet : (prints : ℕ → Bool) (s : Arch) (i : Inst) → IsRegisterJump i → (doing prints i).stops s ≡ false → (doing nowhere i).stops s ≡ false
jump_quiet prints s (Jalr rd rs1 off) jumps h = sym (ap (λ (e : Effect). not (is_next e.flow)) (own_effect prints (Jalr rd rs1 off) s.pc (value s) (asks_no_other prints (Jalr rd rs1 off) s.pc refl))) ∙ h
jump_quiet prints s _ jumps h = absurd jumps

-- an ended state is its own step
pub stays : (s : State) → is_over s ≡ true → step s ≡ s
stays s over = ap (λ b. cond b s (cond (machine.stops s.arch) (call s) (record { arch = machine.move s.arch; env = printed s.env (machine.says s.arch) }))) over

-- where no call and no end stands, the run ends no sooner
pub goes_on : (prints : ℕ → Bool) (s : State) → (machine_in prints).stops s.arch ≡ false → is_over (step s) ≡ is_over s
goes_on prints s quiet = if_over (is_over s) refl
  where
    if_over : (b : Bool) → is_over s ≡ b → is_over (step s) ≡ is_over s
    if_over true e = ap is_over (stays s e)
    if_over false e = ap is_over (moves prints s e quiet)

-- the pc of each position before n is one of the executed ones
pub executed_among : (start : State) (n i : ℕ) → i < n → among (pcs start n) (pc_at start i) ≡ true
unfolding pcs
executed_among start zero i lt = absurd (omega arith)
executed_among start (suc n) i lt =
    among_with_new (pcs start n) (pc_at start n) (pc_at start i)
    ∙ ⊎_elim
    (λ (e : i ≡ n). or_right (among (pcs start n) (pc_at start i)) (nat_eq (pc_at start n) (pc_at start i)) (eq-eqb (pc_at start n) (pc_at start i) (ap (pc_at start) (sym e))))
    (λ (ne : i ≡ n → ⊥). or_left (among (pcs start n) (pc_at start i)) (nat_eq (pc_at start n) (pc_at start i)) (executed_among start n i (omega arith)))
    (cases_eq i n)
