-- The least rule that a note breaks, by the tests in their order.
use Rattle.std.proofs.Common.{◌≡◌, ℕ, ◌<◌, ◌≤◌, ◌+◌, zero, suc, true, false, List, Some, None, refl, sym, ap, subst, ◌∙◌, arith, inl, inr, ◌↔◌}
use Rattle.rv_word.specs.declared.inst.Inst.{Inst}
use Rattle.rv_word.specs.Masks.{in_mask}
use Rattle.dist_image.specs.declared.image.Note.{Note}
use Rattle.rv_semantics.specs.Prints.{task_reads, task_writes}
use Rattle.dist_image.specs.Image.{Distilled, prints_at}
use Rattle.fitting.specs.Claims.{claims, leads, among}
use Rattle.fitting.specs.Fits.{IsAimed, LiveFits, NeedFits, IsWithin, IsWithinBut, instruction, read_mask, write_mask, live_at, need_at, is_anchor_pc}
use Rattle.certify.specs.declared.masks.Masks.{Masks}
use Rattle.certify.specs.declared.way.Way.{Way}
use Rattle.certify.specs.declared.way.Way.TheVariants as way
use Rattle.certify.specs.Answers.{HasPlace, IsAllowed, NoteKeeps}
use Rattle.certify.specs.Parts.{IsLeast}
use Rattle.certify.specs.Ways.{IsWay, AreMasks, IsNeeded, IsAllowedIn}
use Rattle.certify.proofs.Joined.{of_each, of_all}

module _ (word : ℕ → ℕ) (image : Distilled) (x : Note) where
  abbrev ways : List ℕ
  ways = leads (claims image) x.pc (instruction word image x)

  abbrev Keep : ℕ → Type 0
  Keep rule = NoteKeeps word image rule x

  -- the rules below n, by those that ask for something
  below : (n : ℕ) → (3 < n → Keep 3) → (4 < n → Keep 4) → (5 < n → Keep 5) → (6 < n → Keep 6) → (7 < n → Keep 7) → (r : ℕ) → r < n → Keep r
  below n a b c d e zero l = tt
  below n a b c d e (suc zero) l = tt
  below n a b c d e (suc (suc zero)) l = tt
  below n a b c d e (suc (suc (suc zero))) l = a l
  below n a b c d e (suc (suc (suc (suc zero)))) l = b l
  below n a b c d e (suc (suc (suc (suc (suc zero))))) l = c l
  below n a b c d e (suc (suc (suc (suc (suc (suc zero)))))) l = d l
  below n a b c d e (suc (suc (suc (suc (suc (suc (suc zero))))))) l = e l
  below n a b c d e (suc (suc (suc (suc (suc (suc (suc (suc more)))))))) l = tt

  has_place : (w : Way) → IsWay word image x w → (w ≡ way.Lost → ⊥) → HasPlace word image x
  has_place way.Kept k n = λ not. absurd (not (inl k))
  has_place way.Set s n = λ not. absurd (not (inr s.1))
  has_place way.Passed p n = λ not. p.1
  has_place way.Lost l n = absurd (n refl)

  -- ---- each test is its rule

  allowed : (w : Way) → IsWay word image x w → (w ≡ way.Lost → ⊥) → IsAllowedIn w image x.pc (instruction word image x) ↔ IsAllowed word image x
  allowed way.Kept k n = (λ _ not. absurd (not (inl k)), λ _. tt)
  allowed way.Set s n = (λ _ not. absurd (not (inr s.1)), λ _. tt)
  allowed way.Passed p n = (λ may _. may, λ h. h p.0)
  allowed way.Lost l n = absurd (n refl)

  -- what is tested of the masks
  abbrev LiveTests : (reads writes : ℕ) → Masks → Type 0
  LiveTests reads writes m = IsWithin reads x.live × IsWithinBut writes m.live x.live

  abbrev NeedTests : (reads writes : ℕ) → Masks → Way → Type 0
  NeedTests reads writes m does = IsNeeded does reads writes m.need x.need × (is_anchor_pc image x.pc ≡ true → IsWithin x.live x.need)

  module _ (reads writes : ℕ) (m : Masks) (r : reads ≡ read_mask word image x) (w : writes ≡ write_mask word image x) (behind : AreMasks image ways m) where
    -- in what is written, or in this mask of the note
    abbrev Covered : ℕ → ℕ → Type 0
    Covered mask i = in_mask (write_mask word image x) i ≡ false → in_mask mask i ≡ true

    covered : (mask i : ℕ) → (in_mask writes i ≡ false → in_mask mask i ≡ true) → Covered mask i
    covered mask i = subst (λ n. in_mask n i ≡ false → in_mask mask i ≡ true) w

    uncovered : (mask i : ℕ) → Covered mask i → in_mask writes i ≡ false → in_mask mask i ≡ true
    uncovered mask i = subst (λ n. in_mask n i ≡ false → in_mask mask i ≡ true) (sym w)

    lived : LiveTests reads writes m → LiveFits word image x
    lived h = record {
      reads = subst (λ n. IsWithin n x.live) r h.0;
      next = of_each (live_at image) (Covered x.live) ways (λ i any. covered x.live i (h.1 i (behind.live i ∙ any)));
    }

    live_tests : LiveFits word image x → LiveTests reads writes m
    live_tests h = (
      subst (λ n. IsWithin n x.live) (sym r) h.reads,
      λ i is. uncovered x.live i (of_all (live_at image) (Covered x.live) ways h.next i (sym (behind.live i) ∙ is)),
    )

    done_next : IsWithinBut writes m.need x.need → (q : ℕ) → among ways q ≡ true → IsWithinBut (write_mask word image x) (need_at image q) x.need
    done_next h = of_each (need_at image) (Covered x.need) ways (λ i any. covered x.need i (h i (behind.need i ∙ any)))

    done_back : ((q : ℕ) → among ways q ≡ true → IsWithinBut (write_mask word image x) (need_at image q) x.need) → IsWithinBut writes m.need x.need
    done_back h i is = uncovered x.need i (of_all (need_at image) (Covered x.need) ways h i (sym (behind.need i) ∙ is))

    passed_next : IsWithin m.need x.need → (q : ℕ) → among ways q ≡ true → IsWithin (need_at image q) x.need
    passed_next h = of_each (need_at image) (λ i. in_mask x.need i ≡ true) ways (λ i any. h i (behind.need i ∙ any))

    passed_back : ((q : ℕ) → among ways q ≡ true → IsWithin (need_at image q) x.need) → IsWithin m.need x.need
    passed_back h i is = of_all (need_at image) (λ i. in_mask x.need i ≡ true) ways h i (sym (behind.need i) ∙ is)

    needed : (w : Way) → IsWay word image x w → NeedTests reads writes m w → NeedFits word image x
    needed way.Kept k h = record {
      kept_reads = λ is. subst (λ n. IsWithin n x.need) r h.0.0;
      done_next = λ is. done_next h.0.1;
      passed_next = λ not. absurd (not (inl k));
      anchor = h.1;
    }
    needed way.Set s h = record {
      kept_reads = λ is. absurd (s.0 is);
      done_next = λ is. done_next h.0;
      passed_next = λ not. absurd (not (inr s.1));
      anchor = h.1;
    }
    needed way.Passed p h = record {
      kept_reads = λ is. absurd (p.0 (inl is));
      done_next = λ is. absurd (p.0 is);
      passed_next = λ not. passed_next h.0;
      anchor = h.1;
    }
    needed way.Lost l h = record {
      kept_reads = λ is. absurd (l.0 (inl is));
      done_next = λ is. absurd (l.0 is);
      passed_next = λ not. passed_next h.0;
      anchor = h.1;
    }

    need_tests : (w : Way) → IsWay word image x w → NeedFits word image x → NeedTests reads writes m w
    need_tests way.Kept k h = ((subst (λ n. IsWithin n x.need) (sym r) (h.kept_reads k), done_back (h.done_next (inl k))), h.anchor)
    need_tests way.Set s h = (done_back (h.done_next (inr s.1)), h.anchor)
    need_tests way.Passed p h = (passed_back (h.passed_next p.0), h.anchor)
    need_tests way.Lost l h = (passed_back (h.passed_next l.0), h.anchor)

  -- ---- the answer where the tests end

  late : {A : Type 0} (n k : ℕ) → n ≤ k → k < n → A
  late n k l m = absurd (omega arith)

  pub is_lost : IsWay word image x way.Lost → IsLeast word image x (Some 3)
  is_lost l = (λ h. l.1 (h l.0), below 3 (late 3 3 (omega arith)) (late 3 4 (omega arith)) (late 3 5 (omega arith)) (late 3 6 (omega arith)) (late 3 7 (omega arith)))

  module _ (i : Inst) (i_is : i ≡ instruction word image x) (does : Way) (is : IsWay word image x does) (there : does ≡ way.Lost → ⊥) where
    place : HasPlace word image x
    place = has_place does is there

    pub not_allowed : (IsAllowedIn does image x.pc i → ⊥) → IsLeast word image x (Some 4)
    not_allowed n = (
      λ h. n (subst (IsAllowedIn does image x.pc) (sym i_is) ((allowed does is there).1 (h place))),
      below 4 (λ _. place) (late 4 4 (omega arith)) (late 4 5 (omega arith)) (late 4 6 (omega arith)) (late 4 7 (omega arith)),
    )

    module _ (may : IsAllowedIn does image x.pc i) where
      fourth : Keep 4
      fourth _ = (allowed does is there).0 (subst (IsAllowedIn does image x.pc) i_is may)

      pub not_aimed : (IsAimed (claims image) x.pc i → ⊥) → IsLeast word image x (Some 5)
      not_aimed n = (
        λ h. n (subst (IsAimed (claims image) x.pc) (sym i_is) h),
        below 5 (λ _. place) (λ _. fourth) (late 5 5 (omega arith)) (late 5 6 (omega arith)) (late 5 7 (omega arith)),
      )

      module _ (aimed : IsAimed (claims image) x.pc i) (reads writes : ℕ) (m : Masks) (r : reads ≡ task_reads (prints_at image) i x.pc) (w : writes ≡ task_writes (prints_at image) i x.pc) (behind : AreMasks image (leads (claims image) x.pc i) m) where
        fifth : Keep 5
        fifth = subst (IsAimed (claims image) x.pc) i_is aimed

        own_reads : reads ≡ read_mask word image x
        own_reads = r ∙ ap (λ i. task_reads (prints_at image) i x.pc) i_is

        own_writes : writes ≡ write_mask word image x
        own_writes = w ∙ ap (λ i. task_writes (prints_at image) i x.pc) i_is

        own_behind : AreMasks image ways m
        own_behind = subst (λ i. AreMasks image (leads (claims image) x.pc i) m) i_is behind

        pub not_live : (LiveTests reads writes m → ⊥) → IsLeast word image x (Some 6)
        not_live n = (λ h. n (live_tests reads writes m own_reads own_writes own_behind h), below 6 (λ _. place) (λ _. fourth) (λ _. fifth) (late 6 6 (omega arith)) (late 6 7 (omega arith)))

        module _ (live : LiveTests reads writes m) where
          sixth : Keep 6
          sixth = lived reads writes m own_reads own_writes own_behind live

          pub not_needed : (NeedTests reads writes m does → ⊥) → IsLeast word image x (Some 7)
          not_needed n = (
            λ h. n (need_tests reads writes m own_reads own_writes own_behind does is (h place)),
            below 7 (λ _. place) (λ _. fourth) (λ _. fifth) (λ _. sixth) (late 7 7 (omega arith)),
          )

          pub all_kept : NeedTests reads writes m does → IsLeast word image x None
          all_kept t rule = below (8 + rule) (λ _. place) (λ _. fourth) (λ _. fifth) (λ _. sixth) (λ _ _. needed reads writes m own_reads own_writes own_behind does is t) rule (omega arith)
