-- What is claimed is what the rules say of each row.
use Rattle.std.proofs.Common.{◌≡◌, ℕ, Bool, true, false, cond, ◌&&◌, ◌||◌, List, [], ◌∷◌, map, filter, refl, sym, ap, ◌∙◌, Option, Some, None, is_some, ⊎_elim}
use Rattle.std.specs.Prelude.{nat_eq}
use Rattle.std.specs.List.{IsDistinct}
use Rattle.std.proofs.lemmas.Bool.{eqb-true, cases_Bool}
use Rattle.rv_word.specs.declared.inst.Inst.{Inst}
use Rattle.rv_word.specs.declared.inst.Inst.TheVariants.{Lui, Auipc, Jal, Jalr, Branch, Load, Store, OpImm, Op, Fence, Ecall, Ebreak, Illegal}
use Rattle.rv_word.specs.Meaning.{meaning}
use Rattle.profile_data.specs.Profile.{Tally, pc_of}
use Rattle.fitting.specs.Claims.{Claims, among, goes_on_at}
use Rattle.fitting.specs.Fits.{IsAimed}
use Rattle.distill_rules.specs.Analysed.{analysed, analysed_row}
use Rattle.distill_rules.specs.Cuts.{Cuts, cut_by, cut_at, is_dead_by, is_dead, is_write_by, is_write, has_sides, rare_side, cuts}
use Rattle.distill_rules.specs.Flow.{targets_by, claims}
use Rattle.layout_rules.specs.Images.{goes_on}
use Rattle.distill_fits.proofs.Analysed.{off_row, row_there}
use Rattle.distill_fits.proofs.Listing.{targets_of}
use Rattle.distill_fits.proofs.Looked.{look_all}

no_targets : (i : Inst) → targets_by i None ≡ None
no_targets (Lui rd imm) = refl
no_targets (Auipc rd imm) = refl
no_targets (Jal rd off) = refl
no_targets (Jalr rd rs1 off) = refl
no_targets (Branch test rs1 rs2 off) = refl
no_targets (Load kind rd rs1 off) = refl
no_targets (Store kind rs1 rs2 off) = refl
no_targets (OpImm op rd rs1 imm) = refl
no_targets (Op op rd rs1 rs2) = refl
no_targets (Fence word) = refl
no_targets Ecall = refl
no_targets Ebreak = refl
no_targets (Illegal word) = refl

not_dead : (i : Inst) → is_dead_by i None ≡ false
not_dead (Lui rd imm) = refl
not_dead (Auipc rd imm) = refl
not_dead (Jal rd off) = refl
not_dead (Jalr rd rs1 off) = refl
not_dead (Branch test rs1 rs2 off) = refl
not_dead (Load kind rd rs1 off) = refl
not_dead (Store kind rs1 rs2 off) = refl
not_dead (OpImm op rd rs1 imm) = refl
not_dead (Op op rd rs1 rs2) = refl
not_dead (Fence word) = refl
not_dead Ecall = refl
not_dead Ebreak = refl
not_dead (Illegal word) = refl

not_write : (i : Inst) → is_write_by i None ≡ false
not_write (Lui rd imm) = refl
not_write (Auipc rd imm) = refl
not_write (Jal rd off) = refl
not_write (Jalr rd rs1 off) = refl
not_write (Branch test rs1 rs2 off) = refl
not_write (Load kind rd rs1 off) = refl
not_write (Store kind rs1 rs2 off) = refl
not_write (OpImm op rd rs1 imm) = refl
not_write (Op op rd rs1 rs2) = refl
not_write (Fence word) = refl
not_write Ecall = refl
not_write Ebreak = refl
not_write (Illegal word) = refl

pub among_filter : (p : ℕ → Bool) (ns : List ℕ) (q : ℕ) → among (filter p ns) q ≡ (among ns q && p q)
among_filter p [] q = refl
among_filter p (n ∷ ns) q = at_first (p n) refl (nat_eq n q) refl (among_filter p ns q)
  where
    at_first : (b : Bool) → p n ≡ b → (e : Bool) → nat_eq n q ≡ e → among (filter p ns) q ≡ (among ns q && p q)
        → among (cond b (n ∷ filter p ns) (filter p ns)) q ≡ ((nat_eq n q || among ns q) && p q)
    at_first true f true g more = (λ i. (g i || among (filter p ns) q)) ∙ sym ((λ i. (g i || among ns q) && p q) ∙ (ap p (sym (eqb-true n q g)) ∙ f))
    at_first true f false g more = (λ i. (g i || among (filter p ns) q)) ∙ more ∙ (λ i. (sym g i || among ns q) && p q)
    at_first false f true g more =
        let off : p q ≡ false = ap p (sym (eqb-true n q g)) ∙ f in
        more ∙ ap (λ b. among ns q && b) off ∙ no (among ns q) (nat_eq n q || among ns q) ∙ ap (λ b. (nat_eq n q || among ns q) && b) (sym off)
      where
        no : (a b : Bool) → (a && false) ≡ (b && false)
        no true true = refl
        no true false = refl
        no false true = refl
        no false false = refl
    at_first false f false g more = more ∙ (λ i. (sym g i || among ns q) && p q)

module _ (word : ℕ → ℕ) (rows : List Tally) where
  pub targets_only : (q : ℕ) → among (analysed rows) q ≡ false → targets_of word rows q ≡ None
  targets_only q h = ap (targets_by (meaning (word q))) (off_row rows q h) ∙ no_targets (meaning (word q))

  module _ (rare : ℕ) where
    pub cut_only : (q : ℕ) → among (analysed rows) q ≡ false → cut_at word rows rare q ≡ None
    cut_only q h = ap (cut_by rare q (meaning (word q))) (off_row rows q h)

    pub cut_is : (q : ℕ) → (claims word rows (cuts word rows rare)).cut q ≡ cut_at word rows rare q
    cut_is q = look_all (cut_at word rows rare) (analysed rows) cut_only q

    pub dead_is : (q : ℕ) → (claims word rows (cuts word rows rare)).dead q ≡ is_dead word rows q
    dead_is q =
        among_filter (is_dead word rows) (analysed rows) q
        ∙ ⊎_elim
        (λ (h : among (analysed rows) q ≡ true). ap (λ b. b && is_dead word rows q) h)
        (λ (h : among (analysed rows) q ≡ false).
        ap (λ b. b && is_dead word rows q) h ∙ sym (ap (is_dead_by (meaning (word q))) (off_row rows q h) ∙ not_dead (meaning (word q))))
        (cases_Bool (among (analysed rows) q))

    pub write_is : (q : ℕ) → (claims word rows (cuts word rows rare)).prints q ≡ is_write word rows q
    write_is q =
        among_filter (is_write word rows) (analysed rows) q
        ∙ ⊎_elim
        (λ (h : among (analysed rows) q ≡ true). ap (λ b. b && is_write word rows q) h)
        (λ (h : among (analysed rows) q ≡ false).
        ap (λ b. b && is_write word rows q) h ∙ sym (ap (is_write_by (meaning (word q))) (off_row rows q h) ∙ not_write (meaning (word q))))
        (cases_Bool (among (analysed rows) q))

    sides_of : (pc : ℕ) (i : Inst) (o : Option Tally) (b : Bool) → cut_by rare pc i o ≡ Some b → has_sides pc i ≡ true
    sides_of pc i None b e = cc
    sides_of pc i (Some t) b e = only_with_sides (has_sides pc i) e
      where
        only_with_sides : (h : Bool) → cond h (rare_side rare t.executed t.taken) None ≡ Some b → h ≡ true
        only_with_sides true e = refl
        only_with_sides false e = cc

    -- a branch that is cut has two sides
    pub has_sides_cut : (pc : ℕ) (b : Bool) → (claims word rows (cuts word rows rare)).cut pc ≡ Some b → has_sides pc (meaning (word pc)) ≡ true
    has_sides_cut pc b e = sides_of pc (meaning (word pc)) (analysed_row rows pc) b (sym (cut_is pc) ∙ e)

  -- a jump by a register has the targets of its row
  aimed_by : (c : Claims) (pc : ℕ) (i : Inst) (t : Tally) → c.targets pc ≡ targets_by i (Some t) → IsAimed c pc i
  aimed_by c pc (Jalr rd rs1 off) t e = ap is_some e
  aimed_by c pc (Lui rd imm) t e = tt
  aimed_by c pc (Auipc rd imm) t e = tt
  aimed_by c pc (Jal rd off) t e = tt
  aimed_by c pc (Branch test rs1 rs2 off) t e = tt
  aimed_by c pc (Load kind rd rs1 off) t e = tt
  aimed_by c pc (Store kind rs1 rs2 off) t e = tt
  aimed_by c pc (OpImm op rd rs1 imm) t e = tt
  aimed_by c pc (Op op rd rs1 rs2) t e = tt
  aimed_by c pc (Fence word) t e = tt
  aimed_by c pc Ecall t e = tt
  aimed_by c pc Ebreak t e = tt
  aimed_by c pc (Illegal word) t e = tt

  pub is_aimed : (c : Cuts) → IsDistinct nat_eq (map pc_of rows) → (pc : ℕ) → among (analysed rows) pc ≡ true → IsAimed (claims word rows c) pc (meaning (word pc))
  is_aimed c distinct pc h =
      let x = row_there rows distinct pc h in
      aimed_by (claims word rows c) pc (meaning (word pc)) x.0 (ap (targets_by (meaning (word pc))) x.1)

-- where the master goes on is told by the cuts alone
same_way : (c d : Claims) → ((pc : ℕ) → c.cut pc ≡ d.cut pc) → (pc : ℕ) (i : Inst) → goes_on_at c pc i ≡ goes_on_at d pc i
same_way c d h pc (Branch test rs1 rs2 off) = ap (λ o. goes_on_at (record { cut = λ q. o; targets = λ q. None; dead = λ q. false; prints = λ q. false }) pc (Branch test rs1 rs2 off)) (h pc)
same_way c d h pc (Lui rd imm) = refl
same_way c d h pc (Auipc rd imm) = refl
same_way c d h pc (Jal rd off) = refl
same_way c d h pc (Jalr rd rs1 off) = refl
same_way c d h pc (Load kind rd rs1 off) = refl
same_way c d h pc (Store kind rs1 rs2 off) = refl
same_way c d h pc (OpImm op rd rs1 imm) = refl
same_way c d h pc (Op op rd rs1 rs2) = refl
same_way c d h pc (Fence word) = refl
same_way c d h pc Ecall = refl
same_way c d h pc Ebreak = refl
same_way c d h pc (Illegal word) = refl

pub goes_on_is : (word : ℕ → ℕ) (rows : List Tally) (c : Cuts) (pc : ℕ) (next : List ℕ)
    → goes_on c (record { pc = pc; word = word pc; next = next }) ≡ goes_on_at (claims word rows c) pc (meaning (word pc))
goes_on_is word rows c pc next =
    same_way (record { cut = (claims word rows c).cut; targets = λ q. None; dead = among c.dead; prints = among c.writes }) (claims word rows c) (λ q. refl) pc (meaning (word pc))
