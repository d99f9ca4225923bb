-- Events that are given one after the other: what was put so far, with what the others will put, is all that is put.
use Rattle.std.proofs.Common.{◌≡◌, ℕ, ◌+◌, ◌-◌, ◌≤◌, ◌<◌, suc, List, [], ◌∷◌, ◌++◌, length, drop, get_or, replicate, refl, sym, ap, subst, ◌∙◌, append_assoc, arith, Option, Result, Ok, Err}
use Rattle.std.proofs.lemmas.List.{append-nil, drop_more, length-append}
use Rattle.outside.specs.declared.SinkErr.{SinkErr}
use Rattle.outside.specs.Answers.{Gains}
use Rattle.speculation.specs.declared.Event.{Event}
use Rattle.speculation.specs.World.{World}
use Rattle.speculation.specs.Engine.{Model, run, happens}
use Rattle.event_list.specs.Reading.{written_out}
use Rattle.report.specs.Puts.{PutsText}
use Rattle.report.specs.Events.{effect_line}
use Rattle.report.proofs.Gained.{gains-none, gains-append, part_first, part_behind}
use Rattle.speculative_runs.specs.Replayed.{lines_of}

-- an event counts as one
pub happens-events : (w : World) (m : Model) (e : Event) → (happens w m e).1.counts.events ≡ m.counts.events + 1
unfolding happens
happens-events w m e = refl

run-append : (w : World) (xs ys : List Event) (m : Model) → run w (xs ++ ys) m ≡ run w ys (run w xs m)
run-append w [] ys m = refl
run-append w (x ∷ xs) ys m = run-append w xs ys (happens w m x).1

run-events : (w : World) (es : List Event) (m : Model) → (run w es m).counts.events ≡ m.counts.events + length es
run-events w [] m = omega arith
run-events w (e ∷ es) m = let more = run-events w es (happens w m e).1 in let one = happens-events w m e in omega (arith, more, one)

lines-append : (w : World) (xs ys : List Event) (m : Model) → lines_of w (xs ++ ys) m ≡ lines_of w xs m ++ lines_of w ys (run w xs m)
lines-append w [] ys m = refl
lines-append w (x ∷ xs) ys m =
    let line = effect_line (happens w m x).0 in
    let m' = (happens w m x).1 in
    ap (λ more. line ++ more) (lines-append w xs ys m') ∙ sym (append_assoc line (lines_of w xs m') (lines_of w ys (run w xs m')))

-- Some of the events led from m0 to m in the one world, and `rest` are the others; `told` and `before` are of the sink before them, and `now` and `faults`
-- of the sink after those given
pub record Along (w : World) (m0 : Model) (all : List Event) (told : Option (List ℕ)) (before : ℕ) (w' : World) (m : Model) (rest : List Event) (now : Option (List ℕ)) (faults : ℕ) : Type 0 where
  pub world : w' ≡ w
  pub put : (put : List ℕ) × Gains told now put × (put ++ lines_of w rest m ≡ lines_of w all m0)
  pub leads : run w rest m ≡ run w all m0
  pub events : m.counts.events + length rest ≡ m0.counts.events + length all
  pub never_falls : before ≤ faults

-- before the first
pub at_start : (w : World) (m : Model) (all : List Event) (told : Option (List ℕ)) (before : ℕ) → Along w m all told before w m all told before
at_start w m all told before = record { world = refl; put = ([], gains-none told [] refl, refl); leads = refl; events = refl; never_falls = omega arith }

module _ {w : World} {m0 : Model} {all : List Event} {told : Option (List ℕ)} {before : ℕ} {w' : World} {m : Model} {left : List Event} {mid : Option (List ℕ)} {middle : ℕ} (es rest : List Event) (next : left ≡ es ++ rest) (a : Along w m0 all told before w' m left mid middle) {now : Option (List ℕ)} {faults : ℕ} {r : Result Unit SinkErr} (h : PutsText mid now middle faults (lines_of w' es m) r) where
  split : lines_of w all m0 ≡ a.put.0 ++ (lines_of w es m ++ lines_of w rest (run w es m))
  split = sym a.put.2 ∙ ap (λ more. a.put.0 ++ lines_of w more m) next ∙ ap (λ more. a.put.0 ++ more) (lines-append w es rest m)

  puts : (z : Result Unit SinkErr) → r ≡ z → PutsText mid now middle faults (lines_of w es m) z
  puts z is = subst (λ x. PutsText mid now middle faults (lines_of w es m) x) is (subst (λ (x : World). PutsText mid now middle faults (lines_of x es m) r) a.world h)

  -- the next ones were given
  pub onward : {u : Unit {0}} {v : World} {m' : Model} → r ≡ Ok u → v ≡ w' → m' ≡ run w' es m → Along w m0 all told before v m' rest now faults
  onward {u = u} {v = v} {m' = m'} r_is same is =
      let p = puts (Ok u) r_is in
      subst (λ (x : Model). Along w m0 all told before v x rest now faults) (sym (is ∙ ap (λ (x : World). run x es m) a.world))
      (record {
        world = same ∙ a.world;
        put = (
          a.put.0 ++ lines_of w es m,
          gains-append told mid now a.put.0 (lines_of w es m) a.put.1 p.ok,
          append_assoc a.put.0 (lines_of w es m) (lines_of w rest (run w es m)) ∙ sym split,
        );
        leads = sym (run-append w es rest m) ∙ ap (λ more. run w more m) (sym next) ∙ a.leads;
        events = (let long = ap (λ (more : List Event). length more) next ∙ length-append es rest in let more = run-events w es m in let all_events = a.events in omega (arith, long, more, all_events));
        never_falls = (let first = a.never_falls in let second = p.never_falls in omega (arith, first, second));
      })

  -- they were not given, and a part of their lines was put
  pub halted : {e : SinkErr} {q : Result Unit SinkErr} → r ≡ Err e → q ≡ Err e → PutsText told now before faults (lines_of w all m0) q
  halted {e = e} {q = q} r_is q_is =
      let p = puts (Err e) r_is in
      let l = a.never_falls in
      subst (λ z. PutsText told now before faults (lines_of w all m0) z) (sym q_is)
      (record {
        never_falls = (let f = p.never_falls in omega (arith, l, f));
        ok = tt;
        failed = (λ x. let rose = p.failed x in omega (arith, l, rose));
        part = part_behind told mid now a.put.0 (lines_of w es m ++ lines_of w rest (run w es m)) (lines_of w all m0) split a.put.1
            (part_first mid now (lines_of w es m) (lines_of w rest (run w es m)) (lines_of w es m ++ lines_of w rest (run w es m)) refl p.part);
      })

-- all were given
module _ {w : World} {m0 : Model} {all : List Event} {told : Option (List ℕ)} {before : ℕ} {w' : World} {m : Model} {left : List Event} {now : Option (List ℕ)} {faults : ℕ} (none : left ≡ []) (a : Along w m0 all told before w' m left now faults) where
  pub at_end : PutsText told now before faults (lines_of w all m0) (Ok tt)
  at_end = record {
    never_falls = a.never_falls;
    ok = subst (λ bs. Gains told now bs) (sym (append-nil a.put.0) ∙ ap (λ es. a.put.0 ++ lines_of w es m) (sym none) ∙ a.put.2) a.put.1;
    failed = (λ e. absurd (cc));
    part = tt;
  }

  pub led : m ≡ run w all m0
  led = ap (λ es. run w es m) (sym none) ∙ a.leads

-- there is room for the next ones
pub fits : {w : World} {m0 : Model} {all : List Event} {told : Option (List ℕ)} {before : ℕ} {w' : World} {m : Model} {left : List Event} {now : Option (List ℕ)} {faults : ℕ}
    (es rest : List Event) (most : ℕ) → left ≡ es ++ rest → Along w m0 all told before w' m left now faults → m0.counts.events + length all < most → m.counts.events + length es < most
fits es rest most next a l =
    let long = ap (λ (more : List Event). length more) next ∙ length-append es rest in
    let all_events = a.events in
    omega (arith, long, all_events, l)

-- the next of so many
pub replicate-next : {A : Type 0} (count i : ℕ) (x : A) → i < count → replicate (count - i) x ≡ (x ∷ []) ++ replicate (count - (i + 1)) x
replicate-next count i x l = let one : count - i ≡ suc (count - (i + 1)) = omega (arith, l) in ap (λ n. replicate n x) one

pub replicate-none : {A : Type 0} (count i : ℕ) (x : A) → count ≤ i → replicate (count - i) x ≡ []
replicate-none count i x l = let none : count - i ≡ 0 = omega (arith, l) in ap (λ n. replicate n x) none

-- the next of a list, so many times
pub listed-next : (list : List (ℕ × Event)) (i : ℕ) (d : ℕ × Event) → i < length list
    → written_out (drop i list) ≡ replicate (get_or list i d).0 (get_or list i d).1 ++ written_out (drop (i + 1) list)
listed-next list i d l = ap written_out (drop_more list i d l)
