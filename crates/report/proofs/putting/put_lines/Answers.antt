-- What was put, what waits, and the lines that are left, at each turn and at the ways out.
use Rattle.std.proofs.Common.{◌≡◌, ℕ, ◌+◌, ◌<◌, List, [], ◌++◌, length, drop, get_or, sym, ap, subst, ◌∙◌, append_assoc, arith, Ok, rules}
use Rattle.std.proofs.lemmas.List.{append-nil, drop_all, drop_more}
use Rattle.report.specs.Puts.{PutsSome}
use Rattle.report.specs.Show.{lines_from}
use Rattle.report.proofs.Gained.{gains-append}
use Rattle.report.proofs.Texts.{stopped_within, ended}
use Rattle.report.proofs.putting.put_lines.Goals as goal

-- the next line of those that are left
next_line : {A : Type 0} (text : ℕ → A → List ℕ) (xs : List A) (i : ℕ) (x : A) → i < length xs → x ≡ get_or xs i x
    → lines_from text i (drop i xs) ≡ text i x ++ lines_from text (i + 1) (drop (i + 1) xs)
next_line text xs i x l is = ap (lines_from text i) (drop_more xs i x l) ∙ ap (λ y. text i y ++ lines_from text (i + 1) (drop (i + 1) xs)) (sym is)

-- what waits, with the next line
one_more : (put waiting line rest left all : List ℕ) → put ++ (waiting ++ left) ≡ all → left ≡ line ++ rest → all ≡ put ++ ((waiting ++ line) ++ rest)
one_more put waiting line rest left all e is = sym e ∙ ap (λ bs. put ++ (waiting ++ bs)) is ∙ ap (λ bs. put ++ bs) (sym (append_assoc waiting line rest))

-- a piece of that was put
one_piece : (put fresh waits rest waited all : List ℕ) → all ≡ put ++ (waited ++ rest) → waited ≡ fresh ++ waits → (put ++ fresh) ++ (waits ++ rest) ≡ all
one_piece put fresh waits rest waited all e is =
    append_assoc put fresh (waits ++ rest) ∙ ap (λ bs. put ++ bs) (sym (append_assoc fresh waits rest)) ∙ ap (λ bs. put ++ (bs ++ rest)) (sym is) ∙ sym e

pub returns-in_err-put_entry : goal.returns-in_err-put_entry
returns-in_err-put_entry g c =
    let text = g.T.Entry.text in
    let i = c.loop-number.number in
    let xs = c.args.entries.now in
    let x = c.index-entries-number.result in
    let so_far = c.loop-number.invariant.told in
    let rest = lines_from text (i + 1) (drop (i + 1) xs) in
    stopped_within (g.O.Sink.told c.args.o.now) (g.O.Sink.faults c.args.o.now) so_far.0 rest (lines_from text 0 xs) c.from_residual.result c.in_err-put_entry.field-0.0
    c.loop-number.invariant.never_falls so_far.1
    (one_more so_far.0 c.loop-number.waiting.items (text i x) rest (lines_from text i (drop i xs)) (lines_from text 0 xs) so_far.2 (next_line text xs i x c.loop-number-test.true c.index-entries-number.is))
    c.put_entry.ensures c.in_err-put_entry.was (search rules)

pub loop-number-preserved : goal.loop-number-preserved
loop-number-preserved g c =
    let text = g.T.Entry.text in
    let i = c.loop-number.number in
    let xs = c.args.entries.now in
    let x = c.index-entries-number.result in
    let so_far = c.loop-number.invariant.told in
    let rest = lines_from text (i + 1) (drop (i + 1) xs) in
    let waiting = c.loop-number.waiting.items in
    let left = c.put_entry.new.waiting.items in
    let mid = g.O.Sink.told c.loop-number.o in
    let now = g.O.Sink.told c.put_entry.new.o in
    let all = one_more so_far.0 waiting (text i x) rest (lines_from text i (drop i xs)) (lines_from text 0 xs) so_far.2 (next_line text xs i x c.loop-number-test.true c.index-entries-number.is) in
    let done : PutsSome mid now (g.O.Sink.faults c.loop-number.o) (g.O.Sink.faults c.put_entry.new.o) (waiting ++ text i x) left (Ok c.in_ok-put_entry.field-0) =
    subst (λ z. PutsSome mid now (g.O.Sink.faults c.loop-number.o) (g.O.Sink.faults c.put_entry.new.o) (waiting ++ text i x) left z) c.in_ok-put_entry.was c.put_entry.ensures in
    record {
      never_falls = (let a = c.loop-number.invariant.never_falls in let b = done.never_falls in omega (arith, a, b));
      told = (
        so_far.0 ++ done.ok.0,
        gains-append (g.O.Sink.told c.args.o.now) mid now so_far.0 done.ok.0 so_far.1 done.ok.1,
        one_piece so_far.0 done.ok.0 left rest (waiting ++ text i x) (lines_from text 0 xs) all done.ok.2,
      );
    }

pub returns : goal.returns
returns g c =
    let text = g.T.Entry.text in
    let i = c.loop-number.number in
    let xs = c.args.entries.now in
    let so_far = c.loop-number.invariant.told in
    let none : lines_from text i (drop i xs) ≡ [] = ap (lines_from text i) (drop_all i xs c.loop-number-test.false) in
    let last : so_far.0 ++ c.deref.result.now ≡ lines_from text 0 xs =
    ap (λ bs. so_far.0 ++ bs) (c.deref.ensures.value ∙ sym (append-nil c.loop-number.waiting.items) ∙ ap (λ bs. c.loop-number.waiting.items ++ bs) (sym none)) ∙ so_far.2 in
    ended (g.O.Sink.told c.args.o.now) (g.O.Sink.faults c.args.o.now) so_far.0 (lines_from text 0 xs) c.loop-number.invariant.never_falls so_far.1 last c.put.ensures.answer
