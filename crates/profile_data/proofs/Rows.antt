-- A row that is read is the row that was written, and what was written is read again.
use Rattle.std.proofs.Common.{◌≡◌, ℕ, zero, suc, ◌+◌, ◌*◌, ◌%◌, ◌^◌, ◌<◌, ◌≤◌, ◌==◌, Bool, true, false, not, ◌&&◌, ltb, leb, List, ◌++◌, length, is_some, Result, Ok, refl, sym, ap, subst, ◌∙◌, append_assoc, arith}
use Rattle.std.proofs.lemmas.Bool.{ltb-false, eqb-true, leb-true, eq-eqb, le-ltb, le-leb}
use Rattle.std.proofs.lemmas.List.{length-append}
use Rattle.profile_data.specs.declared.error.ProfileErr.{ProfileErr}
use Rattle.profile_data.specs.declared.error.ProfileErr.TheVariants.{Short, Kind, Range, Twice, TooMany}
use Rattle.profile_data.specs.declared.entry.Head.{Head}
use Rattle.profile_data.specs.Profile.{Tally, row_at, target_count, IsTally}
use Rattle.word_format.specs.Bytes.{words}
use Rattle.profile_data.specs.Bytes.{four, eight, mark, flags, head_bytes, row_bytes}
use Rattle.word_format.specs.Reading.{◌>>=◌, is_aligned}
use Rattle.profile_data.specs.Reading.{targets_err, next_word, next_long, admit_head, next_head, targets_in, tally_from, next_row}
use Rattle.word_format.proofs.Numbers.{IsBytes, bind_ok, passed, not_false, both, ok_is, Takes, Takes-then, word_takes, long_takes, word_step, long_step}
use Rattle.word_format.proofs.Sizes.{length-words}
use Rattle.word_format.proofs.Targets.{named_length, named_take, named_again}

-- the tests that a row has passed up to its targets
pub record IsAdmitted (is_there : Bool) (targets left : ℕ) (h : Head) : Type 0 where
  pub flags : h.flags ≤ 3
  pub aligned : is_aligned h.pc ≡ true
  pub executed : 1 ≤ h.executed
  pub taken : h.taken ≤ h.executed
  pub new : is_there ≡ false
  pub few : targets + h.targets ≤ 1_048_576
  pub there : 4 * h.targets ≤ left

admitted : (i : ℕ) (is_there : Bool) (targets left : ℕ) (h g : Head) → admit_head i is_there targets left h ≡ Ok g → (h ≡ g) × IsAdmitted is_there targets left h
admitted i is_there targets left h g e =
    let e0 = passed (ltb 3 h.flags) (Kind i) _ g e in
    let e1 = passed (not (is_aligned h.pc && leb 1 h.executed && leb h.taken h.executed)) (Range i) _ g e0.1 in
    let e2 = passed is_there (Twice i) _ g e1.1 in
    let e3 = passed (ltb 1_048_576 (targets + h.targets)) TooMany _ g e2.1 in
    let e4 = passed (ltb left (4 * h.targets)) Short (Ok h) g e3.1 in
    let b0 = both (is_aligned h.pc && leb 1 h.executed) (leb h.taken h.executed) (not_false _ e1.0) in
    let b1 = both (is_aligned h.pc) (leb 1 h.executed) b0.0 in
    (ok_is h g e4.1, record { flags = ltb-false _ _ e0.0; aligned = b1.0; executed = leb-true _ _ b1.1; taken = leb-true _ _ b0.1; new = e2.0; few = ltb-false _ _ e3.0; there = ltb-false _ _ e4.0 })

-- a row fits beside the rows before it
pub record FitsRow (before : List Tally) (t : Tally) : Type 0 where
  pub fits : IsTally t
  pub small : t.executed < 2 ^ 64
  pub new : is_some (row_at before t.pc) ≡ false
  pub few : target_count before + length t.targets ≤ 1_048_576

abbrev head : ℕ → ℕ → ℕ → ℕ → ℕ → Head
head pc flags executed taken targets = record { pc = pc; flags = flags; executed = executed; taken = taken; targets = targets }

-- ---- flags

flags_from : (n : ℕ) → n ≤ 3 → mark (n % 2 == 1) + 2 * mark (leb 2 n) ≡ n
flags_from zero le = refl
flags_from (suc zero) le = refl
flags_from (suc (suc zero)) le = refl
flags_from (suc (suc (suc zero))) le = refl
flags_from (suc (suc (suc (suc n)))) le = absurd (omega arith)

marks : (read changed : Bool) → ((mark read + 2 * mark changed) % 2 == 1) ≡ read × (leb 2 (mark read + 2 * mark changed) ≡ changed) × (mark read + 2 * mark changed ≤ 3)
marks true true = (refl, refl, omega arith)
marks true false = (refl, refl, omega arith)
marks false true = (refl, refl, omega arith)
marks false false = (refl, refl, omega arith)

-- ---- what is read

head_takes : (bytes : List ℕ) (pc flags executed taken targets : ℕ × List ℕ) → IsBytes bytes →
    next_word bytes ≡ Ok pc → next_word pc.1 ≡ Ok flags → next_long flags.1 ≡ Ok executed → next_long executed.1 ≡ Ok taken → next_word taken.1 ≡ Ok targets →
    Takes bytes (four pc.0 ++ (four flags.0 ++ (eight executed.0 ++ (eight taken.0 ++ four targets.0)))) targets.1 × (pc.0 < 2 ^ 32) × (executed.0 < 2 ^ 64)
head_takes bytes pc flags executed taken targets fits is_pc is_flags is_executed is_taken is_targets =
    let a = word_takes Short bytes pc fits is_pc in
    let b = word_takes Short pc.1 flags a.0.rest_fits is_flags in
    let c = long_takes Short flags.1 executed b.0.rest_fits is_executed in
    let d = long_takes Short executed.1 taken c.0.rest_fits is_taken in
    let e = word_takes Short taken.1 targets d.0.rest_fits is_targets in
    (Takes-then _ _ _ _ _ a.0 (Takes-then _ _ _ _ _ b.0 (Takes-then _ _ _ _ _ c.0 (Takes-then _ _ _ _ _ d.0 e.0))), a.1, c.1)

spelled : (h : Head) (to : List ℕ) → h.flags ≤ 3 → length to ≡ h.targets →
    four h.pc ++ (four h.flags ++ (eight h.executed ++ (eight h.taken ++ four h.targets))) ≡ head_bytes (tally_from h to)
spelled h to le count =
    ap (λ (n : ℕ × ℕ). four h.pc ++ (four n.0 ++ (eight h.executed ++ (eight h.taken ++ four n.1)))) {x = (h.flags, h.targets)} {y = (mark (h.flags % 2 == 1) + 2 * mark (leb 2 h.flags), length to)} (cc (flags_from h.flags le, count))

-- what was read for a row: its five numbers and its targets, which have passed the tests
pub record IsRead (i : ℕ) (before : List Tally) (bytes : List ℕ) (x : Tally × List ℕ) : Type 0 where
  pub pc : ℕ × List ℕ
  pub flags : ℕ × List ℕ
  pub executed : ℕ × List ℕ
  pub taken : ℕ × List ℕ
  pub targets : ℕ × List ℕ
  pub to : List ℕ × List ℕ
  pub is_pc : next_word bytes ≡ Ok pc
  pub is_flags : next_word pc.1 ≡ Ok flags
  pub is_executed : next_long flags.1 ≡ Ok executed
  pub is_taken : next_long executed.1 ≡ Ok taken
  pub is_targets : next_word taken.1 ≡ Ok targets
  pub is_to : targets_in i targets.0 targets.1 ≡ Ok to
  pub tests : IsAdmitted (is_some (row_at before pc.0)) (target_count before) (length targets.1) (head pc.0 flags.0 executed.0 taken.0 targets.0)
  pub row : (tally_from (head pc.0 flags.0 executed.0 taken.0 targets.0) to.0, to.1) ≡ x

row_read : (i : ℕ) (before : List Tally) (bytes : List ℕ) (x : Tally × List ℕ) → next_row i before bytes ≡ Ok x → IsRead i before bytes x
unfolding next_row next_head
row_read i before bytes x e =
    let h = bind_ok (next_head i before bytes) (λ h. targets_in i h.0.targets h.1 >>= λ to. Ok (tally_from h.0 to.0, to.1)) x e in
    let to = bind_ok (targets_in i h.0.0.targets h.0.1) (λ to. Ok (tally_from h.0.0 to.0, to.1)) x h.2 in
    let pc = bind_ok (next_word bytes) _ h.0 h.1 in
    let flags = bind_ok (next_word pc.0.1) _ h.0 pc.2 in
    let executed = bind_ok (next_long flags.0.1) _ h.0 flags.2 in
    let taken = bind_ok (next_long executed.0.1) _ h.0 executed.2 in
    let targets = bind_ok (next_word taken.0.1) _ h.0 taken.2 in
    let made : Head = head pc.0.0 flags.0.0 executed.0.0 taken.0.0 targets.0.0 in
    let g = bind_ok (admit_head i (is_some (row_at before pc.0.0)) (target_count before) (length targets.0.1) made) _ h.0 targets.2 in
    let ad = admitted i (is_some (row_at before pc.0.0)) (target_count before) (length targets.0.1) made g.0 g.1 in
    let same : (made, targets.0.1) ≡ h.0 = ap (λ (k : Head). (k, targets.0.1)) ad.0 ∙ ok_is (g.0, targets.0.1) h.0 g.2 in
    record {
      pc = pc.0;
      flags = flags.0;
      executed = executed.0;
      taken = taken.0;
      targets = targets.0;
      to = to.0;
      is_pc = pc.1;
      is_flags = flags.1;
      is_executed = executed.1;
      is_taken = taken.1;
      is_targets = targets.1;
      is_to = subst (λ (y : Head × List ℕ). targets_in i y.0.targets y.1 ≡ Ok to.0) (sym same) to.1;
      tests = ad.1;
      row = ap (λ (y : Head × List ℕ). (tally_from y.0 to.0.0, to.0.1)) same ∙ ok_is (tally_from h.0.0 to.0.0, to.0.1) x to.2;
    }

-- no row before it has its program counter, and with its targets no more are listed than may be
pub row_is_new : (i : ℕ) (before : List Tally) (bytes : List ℕ) (x : Tally × List ℕ) → next_row i before bytes ≡ Ok x → (is_some (row_at before x.0.pc) ≡ false) × (target_count before + length x.0.targets ≤ 1_048_576)
row_is_new i before bytes x e =
    let r = row_read i before bytes x e in
    subst (λ (y : Tally × List ℕ). (is_some (row_at before y.0.pc) ≡ false) × (target_count before + length y.0.targets ≤ 1_048_576)) r.row
    (r.tests.new, omega (arith, named_length (targets_err i) r.targets.0 r.targets.1 r.to r.is_to, r.tests.few))

pub row_takes : (i : ℕ) (before : List Tally) (bytes : List ℕ) (x : Tally × List ℕ) → IsBytes bytes → next_row i before bytes ≡ Ok x → Takes bytes (row_bytes x.0) x.1 × FitsRow before x.0
row_takes i before bytes x fits e =
    let r = row_read i before bytes x e in
    let five = head_takes bytes r.pc r.flags r.executed r.taken r.targets fits r.is_pc r.is_flags r.is_executed r.is_taken r.is_targets in
    let t = named_take (targets_err i) r.targets.0 r.targets.1 r.to five.0.rest_fits r.is_to in
    let count = t.1 in
    let made : Head = head r.pc.0 r.flags.0 r.executed.0 r.taken.0 r.targets.0 in
    let row : Tally = tally_from made r.to.0 in
    let front : Takes bytes (head_bytes row) r.targets.1 = subst (λ (text : List ℕ). Takes bytes text r.targets.1) (spelled made r.to.0 r.tests.flags count) five.0 in
    let parts : Takes bytes (row_bytes row) r.to.1 = Takes-then bytes (head_bytes row) r.targets.1 (words r.to.0) r.to.1 front t.0 in
    let is : FitsRow before row = record {
      fits = record { pc = (eqb-true _ _ r.tests.aligned, five.1); executed = r.tests.executed; taken = r.tests.taken; targets = t.2.0; targets_rise = t.2.1 };
      small = five.2;
      new = r.tests.new;
      few = omega (arith, count, r.tests.few);
    } in
    subst (λ (y : Tally × List ℕ). Takes bytes (row_bytes y.0) y.1 × FitsRow before y.0) r.row (parts, is)

-- ---- what was written

-- the numbers before a row's targets
abbrev head_of : Tally → Head
head_of t = head t.pc (flags t) t.executed t.taken (length t.targets)

tally_again : (t : Tally) → tally_from (head_of t) t.targets ≡ t
tally_again t =
    let m = marks t.read t.changed in
    ap (λ (b : Bool × Bool). let row : Tally = record { pc = t.pc; executed = t.executed; taken = t.taken; read = b.0; changed = b.1; targets = t.targets } in row) {x = (flags t % 2 == 1, leb 2 (flags t))} {y = (t.read, t.changed)} (cc (m.0, m.1))

-- reading the numbers before a row's targets, and going on
head_step : {A : Type 0} (pc flags executed taken targets : ℕ) (left : List ℕ) (f : (pc flags executed taken targets : ℕ × List ℕ) → Result A ProfileErr) → pc < 2 ^ 32 → flags < 2 ^ 32 → executed < 2 ^ 64 → taken < 2 ^ 64 → targets < 2 ^ 32 →
    (next_word (four pc ++ (four flags ++ (eight executed ++ (eight taken ++ (four targets ++ left))))) >>= λ a. next_word a.1 >>= λ b. next_long b.1 >>= λ c. next_long c.1 >>= λ d. next_word d.1 >>= λ e. f a b c d e)
    ≡ f (pc, four flags ++ (eight executed ++ (eight taken ++ (four targets ++ left)))) (flags, eight executed ++ (eight taken ++ (four targets ++ left))) (executed, eight taken ++ (four targets ++ left)) (taken, four targets ++ left) (targets, left)
head_step pc flags executed taken targets left f lp lf le lt ln =
    let d : List ℕ = four targets ++ left in
    let c : List ℕ = eight taken ++ d in
    let b : List ℕ = eight executed ++ c in
    let a : List ℕ = four flags ++ b in
    word_step Short pc a (λ a. next_word a.1 >>= λ b. next_long b.1 >>= λ c. next_long c.1 >>= λ d. next_word d.1 >>= λ e. f a b c d e) lp
    ∙ word_step Short flags b (λ b. next_long b.1 >>= λ c. next_long c.1 >>= λ d. next_word d.1 >>= λ e. f (pc, a) b c d e) lf
    ∙ long_step Short executed c (λ c. next_long c.1 >>= λ d. next_word d.1 >>= λ e. f (pc, a) (flags, b) c d e) le
    ∙ long_step Short taken d (λ d. next_word d.1 >>= λ e. f (pc, a) (flags, b) (executed, c) d e) lt
    ∙ word_step Short targets left (λ e. f (pc, a) (flags, b) (executed, c) (taken, d) e) ln

pub row_again : (i : ℕ) (before : List Tally) (t : Tally) (rest : List ℕ) → FitsRow before t → next_row i before (row_bytes t ++ rest) ≡ Ok (t, rest)
unfolding next_row next_head
row_again i before t rest fits =
    let h : Head = head_of t in
    let left : List ℕ = words t.targets ++ rest in
    let m = marks t.read t.changed in
    let there : ltb (length left) (4 * length t.targets) ≡ false = le-ltb _ _ (omega (arith, length-append (words t.targets) rest, length-words t.targets)) in
    let few : ltb 1_048_576 (target_count before + length t.targets) ≡ false = le-ltb _ _ fits.few in
    let new : is_some (row_at before t.pc) ≡ false = fits.new in
    let aligned : is_aligned t.pc ≡ true = eq-eqb _ _ fits.fits.pc.0 in
    let executed : leb 1 t.executed ≡ true = le-leb _ _ fits.fits.executed in
    let taken : leb t.taken t.executed ≡ true = le-leb _ _ fits.fits.taken in
    let known : ltb 3 (flags t) ≡ false = le-ltb _ _ m.2 in
    let ad : admit_head i (is_some (row_at before t.pc)) (target_count before) (length left) h ≡ Ok h = rw (known, aligned, executed, taken, new, few, there) refl in
    let read : next_head i before (four t.pc ++ (four (flags t) ++ (eight t.executed ++ (eight t.taken ++ (four (length t.targets) ++ left))))) ≡ Ok (h, left) =
    head_step t.pc (flags t) t.executed t.taken (length t.targets) left (λ pc flags executed taken targets.
    admit_head i (is_some (row_at before pc.0)) (target_count before) (length targets.1) (head pc.0 flags.0 executed.0 taken.0 targets.0) >>= λ h. Ok (h, targets.1))
    fits.fits.pc.1 (omega (arith, m.2)) fits.small (omega (arith, fits.small, fits.fits.taken)) (omega (arith, fits.few))
    ∙ ap (λ (r : Result Head ProfileErr). r >>= λ h. Ok (h, left)) ad in
    let second : targets_in i h.targets left ≡ Ok (t.targets, rest) = named_again (targets_err i) t.targets rest (fits.fits.targets, fits.fits.targets_rise) in
    ap (next_row i before) (append_assoc (head_bytes t) (words t.targets) rest)
    ∙ ap (λ (r : Result (Head × List ℕ) ProfileErr). r >>= λ h. targets_in i h.0.targets h.1 >>= λ to. Ok (tally_from h.0 to.0, to.1)) read
    ∙ ap (λ (r : Result (List ℕ × List ℕ) ProfileErr). r >>= λ to. Ok (tally_from h to.0, to.1)) second
    ∙ ap (λ (row : Tally). Ok (row, rest)) (tally_again t)
