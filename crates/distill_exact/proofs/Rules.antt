-- What the rules say of a row, once they assume something of it.
use Rattle.std.proofs.Common.{◌≡◌, ℕ, ◌*◌, ◌-◌, ◌≤◌, Bool, true, false, not, min, cond, List, [], ◌∷◌, map, Option, Some, None, All, refl, sym, ap, ◌∙◌, subst, ⊎_elim, true≢false, arith}
use Rattle.std.specs.Prelude.{nat_eq, nat_le, nat_lt, filter}
use Rattle.std.proofs.lemmas.Bool.{eqb-true, leb-true, ltb-true, ltb-false, or_cases, not-true}
use Rattle.std.proofs.lemmas.List.Elements.{All-head, All-tail}
use Rattle.rv_word.specs.declared.inst.Inst.{Inst}
use Rattle.rv_word.specs.declared.inst.Inst.TheVariants.{Jalr, Store, Ecall}
use Rattle.profile_data.specs.Profile.{Tally, pc_of, row_at}
use Rattle.fitting.specs.Claims.{among}
use Rattle.distill_rules.specs.Analysed.{is_unchanged, analysed, unchanged}
use Rattle.distill_rules.specs.Cuts.{rare_side, has_sides, cut_by, is_dead_by, is_write_by}
use Rattle.distill_rules.specs.Flow.{targets_by}
use Rattle.distill_rules.proofs.Ascending.{among_ascending}
use Rattle.distill_exact.specs.Laws.{AreUnchanged}

some_is : {A : Type 0} (a b : A) → ◌≡◌ {A = Option A} (Some a) (Some b) → a ≡ b
some_is a b e = cc

not_some : {A : Type 0} (P : Type 0) (a : A) → ◌≡◌ {A = Option A} None (Some a) → P
not_some P a e = absurd (cc)

-- ---- rows

-- what holds of all rows holds of the one that is found
pub row_found : (P : Tally → Type 0) (rows : List Tally) (pc : ℕ) (t : Tally) → All P rows → row_at rows pc ≡ Some t → (t.pc ≡ pc) × P t
row_found P [] pc t all e = not_some _ t e
row_found P (r ∷ rows) pc t all e = at_first (nat_eq r.pc pc) refl e (row_found P rows pc t (All-tail P r rows all))
  where
    at_first : (b : Bool) → nat_eq r.pc pc ≡ b → cond b (Some r) (row_at rows pc) ≡ Some t → (row_at rows pc ≡ Some t → (t.pc ≡ pc) × P t) → (t.pc ≡ pc) × P t
    at_first true same e later = subst (λ (u : Tally). (u.pc ≡ pc) × P u) (some_is r t e) (eqb-true r.pc pc same, All-head P r rows all)
    at_first false same e later = later e

pub unchanged_found : (o : Option Tally) (t : Tally) → unchanged o ≡ Some t → o ≡ Some t
unchanged_found None t e = e
unchanged_found (Some r) t e = if_changed r.changed e
  where
    if_changed : (b : Bool) → cond b None (Some r) ≡ Some t → Some r ≡ Some t
    if_changed true e = not_some _ t e
    if_changed false e = e

pub unchanged_is : (o : Option Tally) (t : Tally) → unchanged o ≡ Some t → t.changed ≡ false
unchanged_is None t e = not_some _ t e
unchanged_is (Some r) t e = if_changed r.changed refl e
  where
    if_changed : (b : Bool) → r.changed ≡ b → cond b None (Some r) ≡ Some t → t.changed ≡ false
    if_changed true c e = not_some _ t e
    if_changed false c e = ap (λ (u : Tally). u.changed) (sym (some_is r t e)) ∙ c

pub among_analysed : (rows : List Tally) (pc : ℕ) → among (analysed rows) pc ≡ among (map pc_of (filter is_unchanged rows)) pc
unfolding analysed
among_analysed rows pc = among_ascending (map pc_of (filter is_unchanged rows)) pc

-- an unchanged row at a pc, of which P holds
pub record HasRow (P : Tally → Type 0) (pc : ℕ) : Type 0 where
  pub row : Tally
  pub there : row.pc ≡ pc
  pub same : row.changed ≡ false
  pub holds : P row

pub analysed_has_row : (P : Tally → Type 0) (rows : List Tally) (pc : ℕ) → All P rows → among (map pc_of (filter is_unchanged rows)) pc ≡ true → HasRow P pc
analysed_has_row P [] pc all e = absurd (true≢false (sym e))
analysed_has_row P (r ∷ rows) pc all e = if_changed r.changed refl e (analysed_has_row P rows pc (All-tail P r rows all))
  where
    if_changed : (b : Bool) → r.changed ≡ b → among (map pc_of (cond (not b) (r ∷ filter is_unchanged rows) (filter is_unchanged rows))) pc ≡ true
        → (among (map pc_of (filter is_unchanged rows)) pc ≡ true → HasRow P pc) → HasRow P pc
    if_changed true c e later = later e
    if_changed false c e later = ⊎_elim
        (λ (h : nat_eq r.pc pc ≡ true). record { row = r; there = eqb-true r.pc pc h; same = c; holds = All-head P r rows all })
        later
        (or_cases (nat_eq r.pc pc) (among (map pc_of (filter is_unchanged rows)) pc) e)

-- where no row is changed, all are analysed
pub all_kept : (rows : List Tally) → AreUnchanged rows → filter is_unchanged rows ≡ rows
all_kept [] all = refl
all_kept (r ∷ rows) all =
    ap (λ b. cond (not b) (r ∷ filter is_unchanged rows) (filter is_unchanged rows)) (All-head (λ (t : Tally). t.changed ≡ false) r rows all)
    ∙ ap (λ rs. r ∷ rs) (all_kept rows (All-tail (λ (t : Tally). t.changed ≡ false) r rows all))

-- ---- rules

-- with `rare` 0 a side is cut only where it has no execution
pub never_taken : (e t : ℕ) → rare_side 0 e t ≡ Some true → t ≡ 0
never_taken e t h = if_rare (nat_le (1000 * min t (e - t)) (0 * e)) refl (nat_lt t (e - t)) refl h
  where
    if_rare : (b : Bool) → nat_le (1000 * min t (e - t)) (0 * e) ≡ b → (c : Bool) → nat_lt t (e - t) ≡ c → cond b (Some c) None ≡ Some true → t ≡ 0
    if_rare true few true less h = let a = leb-true (1000 * min t (e - t)) (0 * e) few in let l = ltb-true t (e - t) less in omega (arith, a, l)
    if_rare true few false less h = absurd (true≢false (sym (some_is false true h)))
    if_rare false few c less h = not_some _ true h

pub always_taken : (e t : ℕ) → rare_side 0 e t ≡ Some false → e ≤ t
always_taken e t h = if_rare (nat_le (1000 * min t (e - t)) (0 * e)) refl (nat_lt t (e - t)) refl h
  where
    if_rare : (b : Bool) → nat_le (1000 * min t (e - t)) (0 * e) ≡ b → (c : Bool) → nat_lt t (e - t) ≡ c → cond b (Some c) None ≡ Some false → e ≤ t
    if_rare true few false less h = let a = leb-true (1000 * min t (e - t)) (0 * e) few in let l = ltb-false t (e - t) less in omega (arith, a, l)
    if_rare true few true less h = absurd (true≢false (some_is true false h))
    if_rare false few c less h = not_some _ false h

pub cut_has_row : (pc : ℕ) (i : Inst) (o : Option Tally) (side : Bool) → cut_by 0 pc i o ≡ Some side
    → (t : Tally) × (o ≡ Some t) × (rare_side 0 t.executed t.taken ≡ Some side)
cut_has_row pc i None side e = not_some _ side e
cut_has_row pc i (Some t) side e = if_sided (has_sides pc i) e
  where
    if_sided : (b : Bool) → cond b (rare_side 0 t.executed t.taken) None ≡ Some side → (u : Tally) × (Some t ≡ Some u) × (rare_side 0 u.executed u.taken ≡ Some side)
    if_sided true e = (t, refl, e)
    if_sided false e = not_some _ side e

pub targets_have_row : (i : Inst) (o : Option Tally) (to : List ℕ) → targets_by i o ≡ Some to → (t : Tally) × (o ≡ Some t) × (t.targets ≡ to)
targets_have_row (Jalr rd rs1 off) (Some t) to e = (t, refl, some_is t.targets to e)
targets_have_row (Jalr rd rs1 off) None to e = not_some _ to e
targets_have_row _ o to e = not_some _ to e

pub dead_has_row : (i : Inst) (o : Option Tally) → is_dead_by i o ≡ true → (t : Tally) × (o ≡ Some t) × (t.read ≡ false)
dead_has_row (Store kind rs1 rs2 off) (Some t) e = (t, refl, not-true t.read e)
dead_has_row (Store kind rs1 rs2 off) None e = absurd (true≢false (sym e))
dead_has_row _ o e = absurd (true≢false (sym e))

pub write_has_row : (i : Inst) (o : Option Tally) → is_write_by i o ≡ true → (t : Tally) × (o ≡ Some t) × (t.taken ≡ t.executed) × (i ≡ Ecall)
write_has_row Ecall (Some t) e = (t, refl, eqb-true t.taken t.executed e, refl)
write_has_row Ecall None e = absurd (true≢false (sym e))
write_has_row _ o e = absurd (true≢false (sym e))
