-- What the rules assume of the rows of a run does not fail in it.
use Rattle.std.proofs.Common.{◌≡◌, ℕ, suc, ◌<◌, ◌≤◌, Bool, true, false, ◌&&◌, ◌||◌, cond, List, [], ◌++◌, map, Some, refl, sym, ap, ◌∙◌, subst, ⊎_elim, true≢false, arith}
use Rattle.std.proofs.lemmas.Bool.{eq-eqb, eqb-true, eqb-false, and_from, and_parts, or_left, or_right, or_cases, cases_eq}
use Rattle.rv_word.specs.Meaning.{meaning}
use Rattle.std.specs.Prelude.{nat_eq}
use Rattle.rv_word.specs.declared.inst.Inst.TheVariants.{Ecall}
use Rattle.cells.specs.declared.Cell.TheVariants.{Byte}
use Rattle.cells.specs.Cells.{value}
use Rattle.cells.specs.Bytes.{byte_cells}
use Rattle.cells.specs.Seen.{among as is_cell_of}
use Rattle.rv_semantics.specs.Effect.{cells}
use Rattle.rv_semantics.specs.Prints.{is_short_write, is_call, arguments, shown}
use Rattle.rv_semantics.specs.Machine.{machine_in, word_at}
use Rattle.rv_semantics.proofs.Local.{among_append}
use Rattle.image_semantics.specs.World.{task_machine}
use Rattle.cells.specs.Run.{State, is_over}
use Rattle.profile_data.specs.Profile.{Tally, Profiled, pc_of, row_at}
use Rattle.dist_image.specs.Image.{Cut, Targets, Dead, Code, Within, Distilled, prints_at}
use Rattle.fitting.specs.Claims.{among}
use Rattle.fitting.specs.Fits.{is_analysed}
use Rattle.fitting.specs.Fails.{program, state_at, arch_at, pc_at, fetched_at, Fails}
use Rattle.profile_laws.specs.Profiles.{with_mark, is_at, is_counted, executed, taken, IsRow, IsProfileOf}
use Rattle.distill_rules.specs.Analysed.{analysed_row}
use Rattle.distill_rules.specs.Cuts.{cut_at, is_dead}
use Rattle.distill_rules.specs.Flow.{targets_by}
use Rattle.distill_exact.specs.Laws.{AreUnchanged, IsNotedAs, IsPrintedAs, HoldsBefore, DistillsExactly}
use Rattle.distill_exact.proofs.Counts.{counted, one_of, fewer}
use Rattle.distill_exact.proofs.Rules.{row_found, unchanged_found, unchanged_is, write_has_row, among_analysed, analysed_has_row, all_kept, never_taken, always_taken, cut_has_row, targets_have_row, dead_has_row}
use Rattle.distill_exact.proofs.Run.{branch_taken, jump_quiet, goes_on, stays, executed_among}

module _ (calls : Bool) (start : State) (n : ℕ) (p : Profiled) (image : Distilled) (is : IsProfileOf (with_mark calls) start n p) (noted : IsNotedAs image p.rows)
    (listed : IsPrintedAs image (program start) p.rows) where
  abbrev Row : Tally → Type 0
  Row = IsRow (with_mark calls) start n

  row_of : (pc : ℕ) (t : Tally) → analysed_row p.rows pc ≡ Some t → (t.pc ≡ pc) × Row t
  row_of pc t e = row_found Row p.rows pc t is.rows (unchanged_found (row_at p.rows pc) t e)

  -- a position with the side that is cut would be counted
  cut : (pc : ℕ) (side : Bool) → cut_at (program start) p.rows 0 pc ≡ Some side → HoldsBefore start image n (Cut pc side)
  cut pc true e i lt f =
      let c = cut_has_row pc (meaning (program start pc)) (analysed_row p.rows pc) true e in
      let r = row_of pc c.0 c.1 in
      let none : c.0.taken ≡ 0 = never_taken c.0.executed c.0.taken c.2 in
      let of_row : c.0.taken ≡ taken (with_mark calls) start n pc = r.1.taken ∙ ap (taken (with_mark calls) start n) r.0 in
      let some : 1 ≤ taken (with_mark calls) start n pc = counted (λ k. is_at start pc k && is_counted (with_mark calls) (fetched_at start k) (arch_at start k)) n i lt
      (and_from _ _ (eq-eqb (pc_at start i) pc f.0) (branch_taken (with_mark calls) true (fetched_at start i) (arch_at start i) f.2)) in
      omega (arith, none, of_row, some)
  cut pc false e i lt f =
      let c = cut_has_row pc (meaning (program start pc)) (analysed_row p.rows pc) false e in
      let r = row_of pc c.0 c.1 in
      let all : c.0.executed ≤ c.0.taken = always_taken c.0.executed c.0.taken c.2 in
      let of_row : c.0.taken ≡ taken (with_mark calls) start n pc = r.1.taken ∙ ap (taken (with_mark calls) start n) r.0 in
      let is_executed : c.0.executed ≡ executed start n pc = r.1.executed ∙ ap (executed start n) r.0 in
      let less : taken (with_mark calls) start n pc < executed start n pc = fewer (is_at start pc) (λ k. is_counted (with_mark calls) (fetched_at start k) (arch_at start k)) n i lt
      (eq-eqb (pc_at start i) pc f.0) (branch_taken (with_mark calls) false (fetched_at start i) (arch_at start i) f.2) in
      omega (arith, all, of_row, is_executed, less)

  targets : (pc : ℕ) (to : List ℕ) → targets_by (meaning (program start pc)) (analysed_row p.rows pc) ≡ Some to → HoldsBefore start image n (Targets pc to)
  targets pc to e i lt f =
      let c = targets_have_row (meaning (program start pc)) (analysed_row p.rows pc) to e in
      let r = row_of pc c.0 c.1 in
      let went : among c.0.targets (pc_at start (suc i)) ≡ true = (r.1.targets (pc_at start (suc i))).1 (i, lt, f.0 ∙ sym r.0, f.2, jump_quiet (prints_at image) (arch_at start i) (fetched_at start i) f.2 f.1, refl) in
      true≢false (sym went ∙ ap (λ ts. among ts (pc_at start (suc i))) c.2 ∙ f.3)

  -- where a task may print, each execution before n was a short write, and the profile has the mark
  has_mark : (i : ℕ) → i < n → prints_at image (pc_at start i) ≡ true → calls ≡ true
  has_mark i lt h =
      let c = write_has_row (meaning (program start pc)) (analysed_row p.rows pc) (listed pc h) in
      let r = row_of pc c.0 c.1 in
      let all = c.2 in
      let of_row : c.0.taken ≡ taken (with_mark calls) start n pc = r.1.taken ∙ ap (taken (with_mark calls) start n) r.0 in
      let of_all : c.0.executed ≡ executed start n pc = r.1.executed ∙ ap (executed start n) r.0 in
      let some : 1 ≤ executed start n pc = counted (is_at start pc) n i lt (eq-eqb pc pc refl) in
      let one = one_of (λ k. is_at start pc k && is_counted (with_mark calls) (fetched_at start k) (arch_at start k)) n (omega (arith, all, of_row, of_all, some)) in
      let parts = and_parts (is_at start pc one.0) (is_counted (with_mark calls) (fetched_at start one.0) (arch_at start one.0)) one.2 in
      let there : pc_at start one.0 ≡ pc = eqb-true (pc_at start one.0) pc parts.0 in
      let same : word_at (arch_at start one.0) ≡ program start pc = word_same c.0 (λ e. true≢false (sym (r.1.changed.1 (one.0, one.1, there ∙ sym r.0, λ w. e (w ∙ ap (program start) r.0))) ∙ unchanged_is (row_at p.rows pc) c.0 c.1)) in
      let call : fetched_at start one.0 ≡ Ecall = ap meaning same ∙ c.3 in
      (and_parts calls true (and_parts (calls && true) (is_short_write (value (arch_at start one.0))) (sym (ap (λ j. is_counted (with_mark calls) j (arch_at start one.0)) call) ∙ parts.1)).0).0
    where
      pc : ℕ
      pc = pc_at start i

      word_same : {v w : ℕ} → (t : Tally) → ((v ≡ w → ⊥) → ⊥) → v ≡ w
      word_same {v} {w} t h = if_equal (nat_eq v w) refl
        where
          if_equal : (b : Bool) → nat_eq v w ≡ b → v ≡ w
          if_equal true e = eqb-true v w e
          if_equal false e = absurd (h (eqb-false v w e))

  -- so what a task reads at a position the profile takes to be read
  abbrev reads_by : ℕ → ℕ → Bool → Bool
  reads_by i a b =
      is_cell_of (byte_cells 4 (pc_at start i)) (Byte a)
      || is_cell_of (cond (b && is_call (fetched_at start i)) (arguments ++ shown (value (arch_at start i))) [] ++ cells (fetched_at start i) (value (arch_at start i))) (Byte a)

  reads_more : (i a : ℕ) → i < n → (task_machine image).reads (arch_at start i) (Byte a) ≡ true → (machine_in (with_mark calls)).reads (arch_at start i) (Byte a) ≡ true
  reads_more i a lt h = if_printing (prints_at image (pc_at start i)) refl h
    where
      if_printing : (b : Bool) → prints_at image (pc_at start i) ≡ b → reads_by i a b ≡ true → reads_by i a calls ≡ true
      if_printing true e h = ap (reads_by i a) (has_mark i lt e) ∙ h
      if_printing false e h = ⊎_elim
          (λ (f : is_cell_of (byte_cells 4 (pc_at start i)) (Byte a) ≡ true). or_left _ _ f)
          (λ (f : is_cell_of (cells (fetched_at start i) (value (arch_at start i))) (Byte a) ≡ true).
          or_right (is_cell_of (byte_cells 4 (pc_at start i)) (Byte a)) _
          (among_append (cond (calls && is_call (fetched_at start i)) (arguments ++ shown (value (arch_at start i))) []) (cells (fetched_at start i) (value (arch_at start i))) (Byte a)
          ∙ or_right (is_cell_of (cond (calls && is_call (fetched_at start i)) (arguments ++ shown (value (arch_at start i))) []) (Byte a)) _ f))
          (or_cases (is_cell_of (byte_cells 4 (pc_at start i)) (Byte a)) _ h)

  dead : (pc : ℕ) → is_dead (program start) p.rows pc ≡ true → HoldsBefore start image n (Dead pc)
  dead pc e i lt f =
      let c = dead_has_row (meaning (program start pc)) (analysed_row p.rows pc) e in
      let r = row_of pc c.0 c.1 in
      let read : c.0.read ≡ true = r.1.read.1 (f.1, i, f.0, lt, f.4 ∙ sym r.0, f.5, f.3, reads_more i f.0 lt f.2) in
      true≢false (sym read ∙ c.2)

  code : HoldsBefore start image n Code
  code i lt f =
      let h = analysed_has_row Row p.rows (pc_at start i) is.rows (sym (among_analysed p.rows (pc_at start i)) ∙ sym (noted (pc_at start i)) ∙ f.0) in
      let changed : h.row.changed ≡ true = h.holds.changed.1 (i, lt, sym h.there, λ same. f.1 (same ∙ ap (program start) h.there)) in
      true≢false (sym changed ∙ h.same)

  -- where no row is changed, the pc of each position before n is analysed
  is_noted : AreUnchanged p.rows → (i : ℕ) → i < n → is_analysed image (pc_at start i) ≡ true
  is_noted same i lt =
      noted (pc_at start i) ∙ among_analysed p.rows (pc_at start i)
      ∙ ap (λ (rows : List Tally). among (map pc_of rows) (pc_at start i)) (all_kept p.rows same)
      ∙ ap (λ ps. among ps (pc_at start i)) is.pcs
      ∙ executed_among start n i lt

  within : AreUnchanged p.rows → (i : ℕ) → suc i < n → Fails start image Within i → ⊥
  within same i lt f = true≢false (sym (is_noted same (suc i) lt) ∙ f.2)

  -- a step that is no call and ends nothing leaves an ended run where it was
  within_ended : AreUnchanged p.rows → is_over (state_at start n) ≡ true → HoldsBefore start image n Within
  within_ended same over i lt f = ⊎_elim
      (λ (e : suc i ≡ n).
      let before : is_over (state_at start i) ≡ true = sym (goes_on (prints_at image) (state_at start i) f.1) ∙ subst (λ k. is_over (state_at start k) ≡ true) (sym e) over in
      let back : pc_at start (suc i) ≡ pc_at start i = ap (λ (s : State). s.arch.pc) (stays (state_at start i) before) in
      true≢false (sym (ap (is_analysed image) back ∙ f.0) ∙ f.2))
      (λ (ne : suc i ≡ n → ⊥). within same i (omega (arith, lt, ne)) f)
      (cases_eq (suc i) n)

pub distills_exactly : DistillsExactly
distills_exactly calls start n p image is noted listed = record {
  cut = cut calls start n p image is noted listed;
  targets = targets calls start n p image is noted listed;
  dead = dead calls start n p image is noted listed;
  code = code calls start n p image is noted listed;
  within = within calls start n p image is noted listed;
  within_ended = within_ended calls start n p image is noted listed;
}
