-- Texts that are put one after the other.
use Rattle.std.proofs.Common.{◌≡◌, ℕ, ◌+◌, ◌≤◌, List, [], ◌∷◌, ◌++◌, map, refl, sym, ap, subst, arith, Option, Result, Ok, Err}
use Rattle.std.specs.List.{flat_map}
use Rattle.outside.specs.declared.SinkErr.{SinkErr}
use Rattle.outside.specs.declared.SinkErr.TheVariants.{Failed, Memory}
use Rattle.outside.specs.Answers.{Gains, PutAnswers}
use Rattle.report.specs.Puts.{PutsText, PutsSome}
use Rattle.report.specs.Show.{lines_from}
use Rattle.report.proofs.Gained.{gains-none, gains-append, part_first, part_behind}

-- the first of two texts wasn't put whole
pub stopped : {told left : Option (List ℕ)} {before now : ℕ} {text : List ℕ} {r : Result Unit SinkErr} (first more : List ℕ) (q : Result Unit SinkErr) (e : SinkErr)
    → PutsText told left before now text r → r ≡ Err e → q ≡ Err e → text ≡ first → PutsText told left before now (first ++ more) q
stopped {told = told} {left = left} {before = before} {now = now} {text = text} first more q e h r_is q_is same =
    subst (λ z. PutsText told left before now (first ++ more) z) (sym q_is) (with_more (subst (λ z. PutsText told left before now text z) r_is h))
  where
    with_more : PutsText told left before now text (Err e) → PutsText told left before now (first ++ more) (Err e)
    with_more p = record {
      never_falls = p.never_falls;
      ok = tt;
      failed = p.failed;
      part = part_first told left text more (first ++ more) (ap (λ xs. xs ++ more) (sym same)) p.part;
    }

both : (told mid left : Option (List ℕ)) (before middle now : ℕ) (first more : List ℕ) (q : Result Unit SinkErr)
    → PutsText told mid before middle first (Ok tt) → PutsText mid left middle now more q → PutsText told left before now (first ++ more) q
both told mid left before middle now first more (Ok u) g h = record {
  never_falls = (let a = g.never_falls in let b = h.never_falls in omega (arith, a, b));
  ok = gains-append told mid left first more g.ok h.ok;
  failed = (λ e. absurd (cc));
  part = tt;
}
both told mid left before middle now first more (Err e) g h = record {
  never_falls = (let a = g.never_falls in let b = h.never_falls in omega (arith, a, b));
  ok = tt;
  failed = (λ is. let a = g.never_falls in let rose = h.failed is in omega (arith, a, rose));
  part = part_behind told mid left first more (first ++ more) refl g.ok h.part;
}

-- the first was put whole, and then the second or a part of it
pub behind : {told mid left : Option (List ℕ)} {before middle now : ℕ} {text : List ℕ} {r : Result Unit SinkErr} (first more : List ℕ) (q : Result Unit SinkErr) (u : Unit {0})
    → PutsText told mid before middle text r → r ≡ Ok u → text ≡ first → PutsText mid left middle now more q → PutsText told left before now (first ++ more) q
behind {told = told} {mid = mid} {left = left} {before = before} {middle = middle} {now = now} {text = text} first more q u g r_is same h =
    both told mid left before middle now first more q
    (subst (λ xs. PutsText told mid before middle xs (Ok tt)) same (subst (λ z. PutsText told mid before middle text z) r_is g)) h

-- a text that waits behind what was put wasn't put as far as it should
pub stopped_within : {mid left : Option (List ℕ)} {middle now : ℕ} {waited waits : List ℕ} {r : Result Unit SinkErr} (told : Option (List ℕ)) (before : ℕ) (put rest all : List ℕ) (q : Result Unit SinkErr) (e : SinkErr)
    → before ≤ middle → Gains told mid put → all ≡ put ++ (waited ++ rest) → PutsSome mid left middle now waited waits r → r ≡ Err e → q ≡ Err e → PutsText told left before now all q
stopped_within {mid = mid} {left = left} {middle = middle} {now = now} {waited = waited} {waits = waits} told before put rest all q e l g is h r_is q_is =
    subst (λ z. PutsText told left before now all z) (sym q_is) (within_all (subst (λ z. PutsSome mid left middle now waited waits z) r_is h))
  where
    within_all : PutsSome mid left middle now waited waits (Err e) → PutsText told left before now all (Err e)
    within_all p = record {
      never_falls = (let b = p.never_falls in omega (arith, l, b));
      ok = tt;
      failed = (λ x. let rose = p.failed x in omega (arith, l, rose));
      part = part_behind told mid left put (waited ++ rest) all is g (part_first mid left waited rest (waited ++ rest) refl p.part);
    }

-- the last of a text, behind what was put
pub ended : {mid left : Option (List ℕ)} {middle now : ℕ} {last : List ℕ} {r : Result Unit SinkErr} (told : Option (List ℕ)) (before : ℕ) (put all : List ℕ)
    → before ≤ middle → Gains told mid put → put ++ last ≡ all → PutAnswers mid left middle now last r → PutsText told left before now all r
ended {mid = mid} {left = left} {middle = middle} {now = now} {last = last} {r = r} told before put all l g is h =
    subst (λ xs. PutsText told left before now xs r) is (both told mid left before middle now put last r (record { never_falls = l; ok = g; failed = (λ e. absurd (cc)); part = tt }) (answered r h))
  where
    answered : (r : Result Unit SinkErr) → PutAnswers mid left middle now last r → PutsText mid left middle now last r
    answered (Ok u) p = record { never_falls = p.never_falls; ok = p.ok; failed = p.failed; part = tt }
    answered (Err Failed) p = record { never_falls = p.never_falls; ok = tt; failed = p.failed; part = p.part refl }
    answered (Err Memory) p = record { never_falls = p.never_falls; ok = tt; failed = (λ e. absurd (cc)); part = (0, subst (λ d. Gains mid d []) (sym (p.memory refl).0) (gains-none mid [] refl)) }

-- the same text, spelled otherwise
pub same_text : {told left : Option (List ℕ)} {before now : ℕ} {text : List ℕ} {r : Result Unit SinkErr} (other : List ℕ) → PutsText told left before now text r → text ≡ other
    → PutsText told left before now other r
same_text {told = told} {left = left} {before = before} {now = now} {text = text} {r = r} other h e = subst (λ xs. PutsText told left before now xs r) e h

-- lines that leave their numbers out
pub lines_from-unnumbered : {A : Type 0} (f : A → List ℕ) (i : ℕ) (xs : List A) → lines_from (λ _ x. f x) i xs ≡ flat_map f xs
lines_from-unnumbered f i [] = refl
lines_from-unnumbered f i (x ∷ xs) = ap (λ more. f x ++ more) (lines_from-unnumbered f (i + 1) xs)

pub flat_map-map : {A B : Type 0} (f : B → List ℕ) (g : A → B) (xs : List A) → flat_map (λ x. f (g x)) xs ≡ flat_map f (map g xs)
flat_map-map f g [] = refl
flat_map-map f g (x ∷ xs) = ap (λ more. f (g x) ++ more) (flat_map-map f g xs)
