-- A word that keeps its marks apart keeps the mark that it had for each of its bytes; the others stay.
use Rattle.std.proofs.Common.{◌≡◌, ℕ, ◌%◌, ⊎_elim, sym, ap, ◌∙◌, subst, Result, Ok, Err, OnOk, OnErr, arith}
use Rattle.std.proofs.lemmas.Bool.{cases_eq}
use Rattle.access_trace.specs.Shadows.{spelled, word_of, lane, apart, mark_of}
use Rattle.access_trace.proofs.Marks.{as_whole, as_own}
use Rattle.access_trace.proofs.shadow.Shadow.part.Goals as goal

-- in either case of the last step, for a byte of that word
in_it : {T E : Type 0} (r : Result T E) (word own own' : ℕ) (now then : ℕ → ℕ) → (spelled word now ≡ apart → ⊥) → OnOk r (spelled word then ≡ apart) → own' ≡ spelled word now → OnErr r (then ≡ now)
    → mark_of (spelled word then) own' ≡ mark_of (spelled word now) own
in_it (Ok x) word own own' now then ne parted kept err = as_own (spelled word then) own' parted ∙ kept ∙ sym (as_whole (spelled word now) own ne)
in_it (Err e) word own own' now then ne parted kept err =
    as_whole (spelled word then) own' (λ h. ne (sym (ap (spelled word) err) ∙ h)) ∙ ap (spelled word) err ∙ sym (as_whole (spelled word now) own ne)

pub returns-clause-same : goal.returns-clause-same
returns-clause-same g c a =
    let at = g.M.Memory.at in
    let shadow = c.args.self.now in
    let filled = c.fill.new.self in
    ⊎_elim
    (λ (e : word_of a ≡ c.args.word).
    subst
    (λ w. mark_of (spelled w (at c.keep.new.kept)) (spelled w (at (lane filled (a % 4)))) ≡ mark_of (spelled w (at shadow.whole)) (spelled w (at (lane shadow (a % 4)))))
    (sym e)
    (in_it c.keep.result c.args.word (spelled c.args.word (at (lane shadow (a % 4)))) (spelled c.args.word (at (lane filled (a % 4)))) (at shadow.whole) (at c.keep.new.kept)
    (λ h. c.if-mark.false (c.mark_in-mark.ensures ∙ h)) c.keep.ensures.here (c.in_ok-fill.ensures.here (a % 4) ∙ c.mark_in-mark.ensures)
    (err (at c.keep.new.kept) (at filled.whole) (at shadow.whole) c.keep.result c.keep.ensures.err c.in_ok-fill.ensures.whole)))
    (λ (ne : word_of a ≡ c.args.word → ⊥).
    let aligned : word_of a % 4 ≡ 0 = omega arith in
    ap (λ w. mark_of w (spelled (word_of a) (at (lane filled (a % 4))))) (c.keep.ensures.elsewhere (word_of a) aligned ne ∙ ap (spelled (word_of a)) c.in_ok-fill.ensures.whole)
    ∙ ap (mark_of (spelled (word_of a) (at shadow.whole))) (c.in_ok-fill.ensures.elsewhere (word_of a) (a % 4) aligned ne))
    (cases_eq (word_of a) c.args.word)
  where
    err : {T E : Type 0} (f g h : ℕ → ℕ) (r : Result T E) → OnErr r (f ≡ g) → g ≡ h → OnErr r (f ≡ h)
    err f g h (Ok x) was is = tt
    err f g h (Err e) was is = was ∙ is
