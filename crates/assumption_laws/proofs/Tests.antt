-- An assumption other than Span fails at a position exactly where its test there says so.
use Rattle.std.proofs.Common.{◌≡◌, ◌↔◌, ℕ, zero, suc, ◌+◌, Bool, true, false, ◌||◌, not, List, [], ◌∷◌, ◌++◌, map, Some, None, refl, sym, ap, ◌∙◌, ⊎_elim, true≢false, arith}
use Rattle.std.specs.Prelude.{nat_eq}
use Rattle.std.specs.List.{list_any}
use Rattle.std.proofs.lemmas.Bool.{eqb-true, eq-eqb, ne_eqb, eqb-false, and_parts, and_from, not-true, not-false, not_from_false, cases_eq}
use Rattle.rv_word.specs.declared.inst.Inst.{Inst}
use Rattle.rv_word.specs.declared.inst.Inst.TheVariants.{Lui, Auipc, Jal, Jalr, Branch, Load, Store, OpImm, Op, Fence, Ecall, Ebreak, Illegal}
use Rattle.rv_word.specs.Meaning.{meaning}
use Rattle.cells.specs.declared.Cell.TheVariants.{Byte}
use Rattle.cells.specs.Cells.{Arch, value}
use Rattle.cells.specs.Run.{State}
use Rattle.rv_semantics.specs.Machine.{word_at}
use Rattle.dist_image.specs.Image.{Premise, Cut, Targets, Dead, Code, Within, Span, Same, Distilled, prints_at}
use Rattle.image_semantics.specs.World.{task_machine}
use Rattle.cells.specs.Bytes.{number}
use Rattle.rv_semantics.specs.Values.{register_value}
use Rattle.rv_semantics.specs.Effect.{extended, load_size, sum32}
use Rattle.fitting.specs.Claims.{among}
use Rattle.fitting.specs.Fits.{is_analysed}
use Rattle.fitting.specs.Fails.{Branches, IsRegisterJump, arch_at, pc_at, fetched_at, loads_as, Fails}
use Rattle.rv_semantics.specs.Prints.{nowhere}
use Rattle.profile_laws.specs.Tally.{is_register_jump, places, bytes_in, loaded, kept}
use Rattle.profile_laws.proofs.Bytes.{reads_are_loads}
use Rattle.profile_laws.proofs.Listed.{is_mark}
use Rattle.profile_laws.proofs.Found.{found_in, any_in_from}
use Rattle.profile_laws.proofs.Marks.{mark_means, mark_from}
use Rattle.assumption_laws.specs.Looks.{side, is_side, load_of, is_other, read_bytes, look_at, fails_by}
use Rattle.assumption_laws.specs.Laws.{LooksTell}

holds_side : (taken held : Bool) → held ≡ taken → is_side taken (Some held) ≡ true
holds_side true held e = e
holds_side false held e = not_from_false held e

side_holds : (taken held : Bool) → is_side taken (Some held) ≡ true → held ≡ taken
side_holds true held e = e
side_holds false held e = not-true held e

branch_side : (taken : Bool) (i : Inst) (s : Arch) → Branches taken i s → is_side taken (side i s) ≡ true
branch_side taken (Branch test rs1 rs2 off) s f = holds_side taken _ f
branch_side taken (Lui rd imm) s f = absurd f
branch_side taken (Auipc rd imm) s f = absurd f
branch_side taken (Jal rd off) s f = absurd f
branch_side taken (Jalr rd rs1 off) s f = absurd f
branch_side taken (Load kind rd rs1 off) s f = absurd f
branch_side taken (Store kind rs1 rs2 off) s f = absurd f
branch_side taken (OpImm op rd rs1 imm) s f = absurd f
branch_side taken (Op op rd rs1 rs2) s f = absurd f
branch_side taken (Fence w) s f = absurd f
branch_side taken Ecall s f = absurd f
branch_side taken Ebreak s f = absurd f
branch_side taken (Illegal w) s f = absurd f

no_side : (taken : Bool) → is_side taken None ≡ true → ⊥
no_side true e = true≢false (sym e)
no_side false e = true≢false (sym e)

side_branch : (taken : Bool) (i : Inst) (s : Arch) → is_side taken (side i s) ≡ true → Branches taken i s
side_branch taken (Branch test rs1 rs2 off) s f = side_holds taken _ f
side_branch taken (Lui rd imm) s f = no_side taken f
side_branch taken (Auipc rd imm) s f = no_side taken f
side_branch taken (Jal rd off) s f = no_side taken f
side_branch taken (Jalr rd rs1 off) s f = no_side taken f
side_branch taken (Load kind rd rs1 off) s f = no_side taken f
side_branch taken (Store kind rs1 rs2 off) s f = no_side taken f
side_branch taken (OpImm op rd rs1 imm) s f = no_side taken f
side_branch taken (Op op rd rs1 rs2) s f = no_side taken f
side_branch taken (Fence w) s f = no_side taken f
side_branch taken Ecall s f = no_side taken f
side_branch taken Ebreak s f = no_side taken f
side_branch taken (Illegal w) s f = no_side taken f

is_jump : (i : Inst) → IsRegisterJump i → is_register_jump i ≡ true
is_jump (Jalr rd rs1 off) f = refl
is_jump (Branch test rs1 rs2 off) f = absurd f
is_jump (Lui rd imm) f = absurd f
is_jump (Auipc rd imm) f = absurd f
is_jump (Jal rd off) f = absurd f
is_jump (Load kind rd rs1 off) f = absurd f
is_jump (Store kind rs1 rs2 off) f = absurd f
is_jump (OpImm op rd rs1 imm) f = absurd f
is_jump (Op op rd rs1 rs2) f = absurd f
is_jump (Fence w) f = absurd f
is_jump Ecall f = absurd f
is_jump Ebreak f = absurd f
is_jump (Illegal w) f = absurd f

jump_is : (i : Inst) → is_register_jump i ≡ true → IsRegisterJump i
jump_is (Jalr rd rs1 off) f = tt
jump_is (Branch test rs1 rs2 off) f = true≢false (sym f)
jump_is (Lui rd imm) f = true≢false (sym f)
jump_is (Auipc rd imm) f = true≢false (sym f)
jump_is (Jal rd off) f = true≢false (sym f)
jump_is (Load kind rd rs1 off) f = true≢false (sym f)
jump_is (Store kind rs1 rs2 off) f = true≢false (sym f)
jump_is (OpImm op rd rs1 imm) f = true≢false (sym f)
jump_is (Op op rd rs1 rs2) f = true≢false (sym f)
jump_is (Fence w) f = true≢false (sym f)
jump_is Ecall f = true≢false (sym f)
jump_is Ebreak f = true≢false (sym f)
jump_is (Illegal w) f = true≢false (sym f)

-- ---- marks

same_mark : (w at : ℕ) → nat_eq w (at + 1) ≡ is_mark w at
same_mark zero at = ne_eqb 0 (at + 1) (λ (e : 0 ≡ at + 1). omega (arith, e))
same_mark (suc pc) at = ⊎_elim
    (λ (e : pc ≡ at). eq-eqb (suc pc) (at + 1) (omega (arith, e)) ∙ sym (eq-eqb pc at e))
    (λ (ne : pc ≡ at → ⊥). ne_eqb (suc pc) (at + 1) (λ (e : suc pc ≡ at + 1). ne (omega (arith, e))) ∙ sym (ne_eqb pc at ne))
    (cases_eq pc at)

mark_among : (writers : ℕ → ℕ) (ms : List ℕ) (at : ℕ) → among (map writers ms) (at + 1) ≡ list_any (λ a. is_mark (writers a) at) ms
mark_among writers [] at = refl
mark_among writers (m ∷ ms) at =
    ap (λ b. b || among (map writers ms) (at + 1)) (same_mark (writers m) at) ∙ ap (λ b. is_mark (writers m) at || b) (mark_among writers ms at)

or_assoc : (a b c : Bool) → (a || (b || c)) ≡ ((a || b) || c)
or_assoc true b c = refl
or_assoc false b c = refl

among_both : (xs ys : List ℕ) (a : ℕ) → among (xs ++ ys) a ≡ (among xs a || among ys a)
among_both [] ys a = refl
among_both (x ∷ xs) ys a = ap (λ b. nat_eq x a || b) (among_both xs ys a) ∙ or_assoc (nat_eq x a) (among xs a) (among ys a)

reads_are_among : (image : Distilled) (s : Arch) (a : ℕ) → (task_machine image).reads s (Byte a) ≡ among (read_bytes image s) a
reads_are_among image s a = reads_are_loads (prints_at image) s a ∙ sym (among_both (places 4 s.pc) (bytes_in (loaded (prints_at image) (meaning (word_at s)) s)) a)

-- ---- what is loaded

loads_other : (n : ℕ) (i : Inst) (s : Arch) → loads_as n i s ≡ not (is_other n (load_of i s))
loads_other n (Load kind rd rs1 off) s = twice (nat_eq (extended kind (number (load_size kind) (sum32 (register_value rs1 (value s)) off) s.mem)) n)
  where
    twice : (b : Bool) → b ≡ not (not b)
    twice true = refl
    twice false = refl
loads_other n (Lui rd imm) s = refl
loads_other n (Auipc rd imm) s = refl
loads_other n (Jal rd off) s = refl
loads_other n (Jalr rd rs1 off) s = refl
loads_other n (Branch test rs1 rs2 off) s = refl
loads_other n (Store kind rs1 rs2 off) s = refl
loads_other n (OpImm op rd rs1 imm) s = refl
loads_other n (Op op rd rs1 rs2) s = refl
loads_other n (Fence w) s = refl
loads_other n Ecall s = refl
loads_other n Ebreak s = refl
loads_other n (Illegal w) s = refl

module _ (start : State) (image : Distilled) (i : ℕ) where
  abbrev Told : Premise → Type 0
  Told x = Fails start image x i ↔ (fails_by (look_at start image i) x ≡ true)

  cut : (at : ℕ) (taken : Bool) → Told (Cut at taken)
  cut at taken = (
    λ f. and_from _ _ (eq-eqb _ _ f.0) (and_from _ _ (not_from_false _ f.1) (branch_side taken (fetched_at start i) (arch_at start i) f.2)),
    λ e.
        let p = and_parts (nat_eq (pc_at start i) at) _ e in
        let q = and_parts (not ((task_machine image).stops (arch_at start i))) _ p.1 in (
          eqb-true _ _ p.0,
          not-true _ q.0,
          side_branch taken (fetched_at start i) (arch_at start i) q.1,
        ),
  )

  targets : (at : ℕ) (to : List ℕ) → Told (Targets at to)
  targets at to = (
    λ f. and_from _ _ (eq-eqb _ _ f.0) (and_from _ _ (not_from_false _ f.1) (and_from _ _ (is_jump (fetched_at start i) f.2) (not_from_false _ f.3))),
    λ e.
        let p = and_parts (nat_eq (pc_at start i) at) _ e in
        let q = and_parts (not ((task_machine image).stops (arch_at start i))) _ p.1 in
        let r = and_parts (is_register_jump (fetched_at start i)) _ q.1 in (
          eqb-true _ _ p.0,
          not-true _ q.0,
          jump_is (fetched_at start i) r.0,
          not-true _ r.1,
        ),
  )

  dead : (at : ℕ) → Told (Dead at)
  dead at = (
    λ f.
        let here : among (read_bytes image (arch_at start i)) f.0 ≡ true = sym (reads_are_among image (arch_at start i) f.0) ∙ f.2 in
        let mark : is_mark ((kept nowhere start i).writers f.0) at ≡ true = mark_from nowhere start i f.0 at f.1 (record { latest = f.3; there = f.4; store = f.5 }) in
        mark_among (kept nowhere start i).writers (read_bytes image (arch_at start i)) at ∙ any_in_from (λ a. is_mark ((kept nowhere start i).writers a) at) (read_bytes image (arch_at start i)) f.0 here mark,
    λ e.
        let h = found_in (λ a. is_mark ((kept nowhere start i).writers a) at) (read_bytes image (arch_at start i)) (sym (mark_among (kept nowhere start i).writers (read_bytes image (arch_at start i)) at) ∙ e) in
        let w = mark_means nowhere start i h.0 at h.2 in
        (h.0, w.0, reads_are_among image (arch_at start i) h.0 ∙ h.1, w.1.latest, w.1.there, w.1.store),
  )

  code : Told Code
  code = (
    λ f. and_from _ _ f.0 (not_from_false _ (ne_eqb _ _ f.1)),
    λ e.
        let p = and_parts (is_analysed image (pc_at start i)) _ e in
        (p.0, eqb-false _ _ (not-true _ p.1)),
  )

  within : Told Within
  within = (
    λ f. and_from _ _ f.0 (and_from _ _ (not_from_false _ f.1) (not_from_false _ f.2)),
    λ e.
        let p = and_parts (is_analysed image (pc_at start i)) _ e in
        let q = and_parts (not ((task_machine image).stops (arch_at start i))) _ p.1 in
        (p.0, not-true _ q.0, not-true _ q.1),
  )

  same : (at n : ℕ) → Told (Same at n)
  same at n = (
    λ f. and_from _ _ (eq-eqb _ _ f.0) (not-false (is_other n (load_of (fetched_at start i) (arch_at start i))) (sym (loads_other n (fetched_at start i) (arch_at start i)) ∙ f.1)),
    λ e.
        let p = and_parts (nat_eq (pc_at start i) at) _ e in
        (eqb-true _ _ p.0, loads_other n (fetched_at start i) (arch_at start i) ∙ ap not p.1),
  )

  told : (x : Premise) → (x ≡ Span → ⊥) → Told x
  told (Cut at taken) l = cut at taken
  told (Targets at to) l = targets at to
  told (Dead at) l = dead at
  told Code l = code
  told Within l = within
  told Span l = absurd (l refl)
  told (Same at value) l = same at value

pub looks_tell : LooksTell
looks_tell start image i x l = told start image i x l
