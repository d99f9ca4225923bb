-- The list of assumptions, kind by kind over the analysed instructions.
use Rattle.std.proofs.Common.{◌≡◌, ℕ, ◌+◌, ◌≤◌, Bool, true, false, cond, IsSome, List, [], ◌∷◌, ◌++◌, map, filter, filter_map, length, refl, ap, arith, Option, Some, None}
use Rattle.std.specs.List.{cons_option}
use Rattle.std.specs.Option.{option_map}
use Rattle.rv_word.specs.declared.inst.Inst.{Inst}
use Rattle.rv_word.specs.declared.inst.Inst.TheVariants.{Lui, Auipc, Jal, Jalr, Branch, Load, Store, OpImm, Op, Fence, Ecall, Ebreak, Illegal}
use Rattle.rv_word.specs.Meaning.{meaning}
use Rattle.dist_image.specs.Image.{Premise, Cut, Targets, Dead, Code, Within, Span, Same}
use Rattle.profile_data.specs.Profile.{Tally}
use Rattle.distill_rules.specs.Analysed.{analysed, analysed_row}
use Rattle.fitting.specs.Fits.{set_word}
use Rattle.distill_rules.specs.declared.Mask.{Mask}
use Rattle.distill_rules.specs.Cuts.{Cuts, cuts, cut_by, cut_at, is_dead_by, is_dead}
use Rattle.distill_rules.specs.Flow.{targets_by}
use Rattle.layout_rules.specs.Images.{cut_premise, values, value_at, with_same}
use Rattle.distill_fits.proofs.Sites.{plot_at}
use Rattle.distill_fits.proofs.Valued.{value_of}
use Rattle.distill_fits.proofs.Looked.{pairs}
use Rattle.distill_fits.proofs.Listing.{targets_of, target_premises, whole}

-- ---- picked by a function of the pc

abbrev pub dead_pick_by : Bool → ℕ → Option Premise
dead_pick_by dead pc = cond dead (Some (Dead pc)) None

abbrev pub same_pick : (ℕ → Option ℕ) → ℕ → Option Premise
same_pick value pc = option_map (Same pc) (value pc)

-- the values of the kept instructions
pub values_are : (word : ℕ → ℕ) (rows : List Tally) (c : Cuts) (begun : List ℕ) (t : List Mask) (pcs : List ℕ)
    → values c (map (plot_at word rows c begun t) pcs) ≡ filter_map (same_pick (value_of word rows c begun t)) pcs
values_are word rows c begun t [] = refl
values_are word rows c begun t (pc ∷ pcs) = if_valued (plot_at word rows c begun t pc).kept (value_at c pc) (values_are word rows c begun t pcs)
  where
    if_valued : (b : Bool) (o : Option ℕ) → values c (map (plot_at word rows c begun t) pcs) ≡ filter_map (same_pick (value_of word rows c begun t)) pcs
        → cons_option (cond b (option_map (λ v. Same pc v) o) None) (values c (map (plot_at word rows c begun t) pcs))
        ≡ cons_option (option_map (Same pc) (cond b o None)) (filter_map (same_pick (value_of word rows c begun t)) pcs)
    if_valued true None more = more
    if_valued true (Some v) more = ap (λ xs. Same pc v ∷ xs) more
    if_valued false o more = more

module _ (word : ℕ → ℕ) (rows : List Tally) (rare : ℕ) where
  abbrev pub cut_pick : ℕ → Option Premise
  cut_pick pc = option_map (Cut pc) (cut_at word rows rare pc)

  abbrev pub targets_pick : ℕ → Option Premise
  targets_pick pc = option_map (Targets pc) (targets_of word rows pc)

  abbrev pub dead_pick : ℕ → Option Premise
  dead_pick pc = dead_pick_by (is_dead word rows pc) pc

  cuts_are : (pcs : List ℕ) → map cut_premise (pairs (cut_at word rows rare) pcs) ≡ filter_map cut_pick pcs
  cuts_are [] = refl
  cuts_are (pc ∷ pcs) = if_cut (cut_at word rows rare pc) (cuts_are pcs)
    where
      if_cut : (o : Option Bool) → map cut_premise (pairs (cut_at word rows rare) pcs) ≡ filter_map cut_pick pcs
          → map cut_premise (cons_option (option_map {U = ℕ × Bool} (λ b. (pc, b)) o) (pairs (cut_at word rows rare) pcs)) ≡ cons_option (option_map (Cut pc) o) (filter_map cut_pick pcs)
      if_cut None more = more
      if_cut (Some b) more = ap (λ xs. Cut pc b ∷ xs) more

  targets_are : (c : Cuts) (pcs : List ℕ) → target_premises word rows c pcs ≡ filter_map targets_pick pcs
  targets_are c [] = refl
  targets_are c (pc ∷ pcs) = ap (λ xs. cons_option (targets_pick pc) xs) (targets_are c pcs)

  dead_are : (pcs : List ℕ) → map Dead (filter (is_dead word rows) pcs) ≡ filter_map dead_pick pcs
  dead_are [] = refl
  dead_are (pc ∷ pcs) = if_dead (is_dead word rows pc) (dead_are pcs)
    where
      if_dead : (b : Bool) → map Dead (filter (is_dead word rows) pcs) ≡ filter_map dead_pick pcs
          → map Dead (cond b (pc ∷ filter (is_dead word rows) pcs) (filter (is_dead word rows) pcs)) ≡ cons_option (dead_pick_by b pc) (filter_map dead_pick pcs)
      if_dead true more = ap (λ xs. Dead pc ∷ xs) more
      if_dead false more = more

  abbrev pub of_none : List Premise
  of_none = Code ∷ Within ∷ Span ∷ []

  -- with the values that this function gives
  abbrev pub all_listed : (ℕ → Option ℕ) → List Premise
  all_listed value =
      filter_map cut_pick (analysed rows) ++ filter_map targets_pick (analysed rows) ++ filter_map dead_pick (analysed rows) ++ of_none
      ++ filter_map (same_pick value) (analysed rows)

  module _ (same : List (ℕ × ℕ)) (begun : List ℕ) (t : List Mask) where
    abbrev c : Cuts
    c = with_same same (cuts word rows rare)

    pub listed_is : whole word rows c (map (plot_at word rows c begun t) (analysed rows)) ≡ all_listed (value_of word rows c begun t)
    listed_is =
        λ i. cuts_are (analysed rows) i ++ targets_are c (analysed rows) i ++ dead_are (analysed rows) i ++ of_none
        ++ values_are word rows c begun t (analysed rows) i

-- ---- at most one for each pc

abbrev pub many : {A : Type 0} → Option A → ℕ
many o = length (cons_option o [])

one_at_most : {A : Type 0} (o : Option A) → many o ≤ 1
one_at_most None = omega arith
one_at_most (Some x) = omega arith

module _ (rare pc : ℕ) where
  abbrev all_many : Inst → Option Tally → ℕ
  all_many i o = many (option_map (Cut pc) (cut_by rare pc i o)) + many (option_map (Targets pc) (targets_by i o)) + many (dead_pick_by (is_dead_by i o) pc)

  one_kind : (i : Inst) (o : Option Tally) → all_many i o ≤ 1
  one_kind (Branch test rs1 rs2 off) None = omega arith
  one_kind (Branch test rs1 rs2 off) (Some t) = let a = one_at_most (option_map (Cut pc) (cut_by rare pc (Branch test rs1 rs2 off) (Some t))) in omega (arith, a)
  one_kind (Jalr rd rs1 off) None = omega arith
  one_kind (Jalr rd rs1 off) (Some t) = omega arith
  one_kind (Store kind rs1 rs2 off) None = omega arith
  one_kind (Store kind rs1 rs2 off) (Some t) = let a = one_at_most (dead_pick_by (is_dead_by (Store kind rs1 rs2 off) (Some t)) pc) in omega (arith, a)
  one_kind (Lui rd imm) None = omega arith
  one_kind (Lui rd imm) (Some t) = omega arith
  one_kind (Auipc rd imm) None = omega arith
  one_kind (Auipc rd imm) (Some t) = omega arith
  one_kind (Jal rd off) None = omega arith
  one_kind (Jal rd off) (Some t) = omega arith
  one_kind (Load kind rd rs1 off) None = omega arith
  one_kind (Load kind rd rs1 off) (Some t) = omega arith
  one_kind (OpImm op rd rs1 imm) None = omega arith
  one_kind (OpImm op rd rs1 imm) (Some t) = omega arith
  one_kind (Op op rd rs1 rs2) None = omega arith
  one_kind (Op op rd rs1 rs2) (Some t) = omega arith
  one_kind (Fence word) None = omega arith
  one_kind (Fence word) (Some t) = omega arith
  one_kind Ecall None = omega arith
  one_kind Ecall (Some t) = omega arith
  one_kind Ebreak None = omega arith
  one_kind Ebreak (Some t) = omega arith
  one_kind (Illegal word) None = omega arith
  one_kind (Illegal word) (Some t) = omega arith

  -- where there is a value, there is a load, and nothing else is listed
  loaded : (v : ℕ) (i : Inst) (o : Option Tally) → IsSome (set_word (Some v) i) → all_many i o ≡ 0
  loaded v (Load kind rd rs1 off) None some = refl
  loaded v (Load kind rd rs1 off) (Some t) some = refl
  loaded v (Branch test rs1 rs2 off) o some = cc
  loaded v (Jalr rd rs1 off) o some = cc
  loaded v (Store kind rs1 rs2 off) o some = cc
  loaded v (Lui rd imm) o some = cc
  loaded v (Auipc rd imm) o some = cc
  loaded v (Jal rd off) o some = cc
  loaded v (OpImm op rd rs1 imm) o some = cc
  loaded v (Op op rd rs1 rs2) o some = cc
  loaded v (Fence word) o some = cc
  loaded v Ecall o some = cc
  loaded v Ebreak o some = cc
  loaded v (Illegal word) o some = cc

  one_of_all : (value : Option ℕ) (i : Inst) (o : Option Tally) → ((v : ℕ) → value ≡ Some v → IsSome (set_word (Some v) i)) → all_many i o + many (option_map (Same pc) value) ≤ 1
  one_of_all None i o h = let a = one_kind i o in omega (arith, a)
  one_of_all (Some v) i o h = let a = loaded v i o (h v refl) in omega (arith, a)

-- values belong to loads
abbrev pub OfLoads : (ℕ → ℕ) → (ℕ → Option ℕ) → Type 0
OfLoads word value = (pc v : ℕ) → value pc ≡ Some v → IsSome (set_word (Some v) (meaning (word pc)))

longer : {A : Type 0} (o : Option A) (xs : List A) → length (cons_option o xs) ≡ many o + length xs
longer None xs = omega arith
longer (Some x) xs = omega arith

pub few_listed : (word : ℕ → ℕ) (rows : List Tally) (rare : ℕ) (value : ℕ → Option ℕ) → OfLoads word value → (pcs : List ℕ)
    → length (filter_map (cut_pick word rows rare) pcs) + length (filter_map (targets_pick word rows rare) pcs) + length (filter_map (dead_pick word rows rare) pcs)
    + length (filter_map (same_pick value) pcs) ≤ length pcs
few_listed word rows rare value of [] = omega arith
few_listed word rows rare value of (pc ∷ pcs) =
    let rest = few_listed word rows rare value of pcs in
    let one = one_of_all rare pc (value pc) (meaning (word pc)) (analysed_row rows pc) (of pc) in
    let a = longer (cut_pick word rows rare pc) (filter_map (cut_pick word rows rare) pcs) in
    let b = longer (targets_pick word rows rare pc) (filter_map (targets_pick word rows rare) pcs) in
    let d = longer (dead_pick word rows rare pc) (filter_map (dead_pick word rows rare) pcs) in
    let e = longer (same_pick value pc) (filter_map (same_pick value) pcs) in
    omega (arith, rest, one, a, b, d, e)
