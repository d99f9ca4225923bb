-- Anchors that wait, none of them for the whole limit before a position.
use Rattle.std.proofs.Common.{◌≡◌, ℕ, zero, suc, ◌+◌, ◌-◌, ◌<◌, ◌≤◌, Bool, true, false, ◌||◌, not, cond, List, [], ◌∷◌, ◌++◌, map, length, get_or, drop, refl, sym, ap, subst, ◌∙◌, arith}
use Rattle.std.specs.Prelude.{nat_eq, nat_lt, min}
use Rattle.std.specs.List.{filter}
use Rattle.std.proofs.lemmas.Bool.{ne_eqb, eqb-true, eqb-false, lt-ltb, ltb-true, ltb-false, le-ltb}
use Rattle.assumption_laws.specs.declared.Waiting.{Waiting}
use Rattle.assumption_laws.specs.Waits.{lower, lowered, is_overdue}
use Rattle.assume_list.specs.declared.waits.Wait.{Wait}
use Rattle.assume_list.specs.Shown.{IsEarly, shown_in}

pub early_less : (due less limit : ℕ) (ws : List Waiting) → less ≤ due → IsEarly due limit ws → IsEarly less limit ws
early_less due less limit [] l e = tt
early_less due less limit (w ∷ ws) l e = (let here = e.0 in omega (arith, l, here), early_less due less limit ws l e.1)

pub early_push : (due limit : ℕ) (ws : List Waiting) (w : Waiting) → IsEarly due limit ws → due ≤ w.since + limit → IsEarly due limit (ws ++ w ∷ [])
early_push due limit [] w e l = (l, tt)
early_push due limit (x ∷ ws) w e l = (e.0, early_push due limit ws w e.1 l)

pub early_lower : (due limit : ℕ) (ws : List Waiting) → IsEarly due limit ws → IsEarly due limit (lowered ws)
early_lower due limit [] e = tt
early_lower due limit (w ∷ ws) e = if_last (nat_eq w.left 1) (early_lower due limit ws e.1)
  where
    if_last : (b : Bool) → IsEarly due limit (lowered ws)
        → IsEarly due limit (map lower (cond (not b) (w ∷ filter (λ (w : Waiting). not (nat_eq w.left 1)) ws) (filter (λ (w : Waiting). not (nat_eq w.left 1)) ws)))
    if_last true rest = rest
    if_last false rest = (e.0, rest)

pub early_none : (due limit j : ℕ) (ws : List Waiting) → IsEarly due limit ws → j < due → false ≡ is_overdue limit j ws
early_none due limit j [] e l = refl
early_none due limit j (w ∷ ws) e l =
    let here = e.0 in
    let apart : nat_eq (w.since + limit) j ≡ false = ne_eqb (w.since + limit) j (λ (s : w.since + limit ≡ j). omega (arith, s, l, here)) in
    early_none due limit j ws e.1 l ∙ ap (λ b. b || is_overdue limit j ws) (sym apart)

-- ---- entries

pub shown_push : (arrivals since count : ℕ) (ws : List Wait) → 1 ≤ count
    → shown_in arrivals (ws ++ record { since = since; last = arrivals + count } ∷ []) ≡ shown_in arrivals ws ++ record { since = since; left = count } ∷ []
shown_push arrivals since count [] some =
    let left : arrivals + count - arrivals ≡ count = omega arith in
    ap (λ b. cond b (record { since = since; left = arrivals + count - arrivals } ∷ []) []) (lt-ltb arrivals (arrivals + count) (omega (arith, some)))
    ∙ ap (λ n. record { since = since; left = n } ∷ []) left
shown_push arrivals since count (w ∷ ws) some = if_waiting (nat_lt arrivals w.last) (shown_push arrivals since count ws some)
  where
    new : Wait
    new = record { since = since; last = arrivals + count }

    if_waiting : (b : Bool) → shown_in arrivals (ws ++ new ∷ []) ≡ shown_in arrivals ws ++ record { since = since; left = count } ∷ []
        → cond b (record { since = w.since; left = w.last - arrivals } ∷ shown_in arrivals (ws ++ new ∷ [])) (shown_in arrivals (ws ++ new ∷ []))
        ≡ cond b (record { since = w.since; left = w.last - arrivals } ∷ shown_in arrivals ws) (shown_in arrivals ws) ++ record { since = since; left = count } ∷ []
    if_waiting true e = ap (λ xs. record { since = w.since; left = w.last - arrivals } ∷ xs) e
    if_waiting false e = e

at_last : (arrivals last : ℕ) → nat_lt arrivals last ≡ true → nat_eq (last - arrivals) 1 ≡ true → nat_lt (arrivals + 1) last ≡ false
at_last arrivals last l e = let one = eqb-true (last - arrivals) 1 e in le-ltb (arrivals + 1) last (omega (arith, one))

not_yet : (arrivals last : ℕ) → nat_lt arrivals last ≡ true → nat_eq (last - arrivals) 1 ≡ false → nat_lt (arrivals + 1) last ≡ true
not_yet arrivals last l e = let low = ltb-true arrivals last l in let ne = eqb-false (last - arrivals) 1 e in lt-ltb (arrivals + 1) last (omega (arith, low, ne))

past : (arrivals last : ℕ) → nat_lt arrivals last ≡ false → nat_lt (arrivals + 1) last ≡ false
past arrivals last l = let high = ltb-false arrivals last l in le-ltb (arrivals + 1) last (omega (arith, high))

-- an arrival lowers those that wait
pub shown_next : (arrivals : ℕ) (ws : List Wait) → shown_in (arrivals + 1) ws ≡ lowered (shown_in arrivals ws)
shown_next arrivals [] = refl
shown_next arrivals (w ∷ ws) = if_waiting (nat_lt arrivals w.last) refl (shown_next arrivals ws)
  where
    x : Waiting
    x = record { since = w.since; left = w.last - arrivals }

    first : (b : Bool) → nat_lt arrivals w.last ≡ true → nat_eq (w.last - arrivals) 1 ≡ b → shown_in (arrivals + 1) ws ≡ lowered (shown_in arrivals ws)
        → cond (nat_lt (arrivals + 1) w.last) (record { since = w.since; left = w.last - (arrivals + 1) } ∷ shown_in (arrivals + 1) ws) (shown_in (arrivals + 1) ws)
        ≡ map lower (cond (not b) (x ∷ filter (λ (w : Waiting). not (nat_eq w.left 1)) (shown_in arrivals ws)) (filter (λ (w : Waiting). not (nat_eq w.left 1)) (shown_in arrivals ws)))
    first true l e rest =
        ap (λ t. cond t (record { since = w.since; left = w.last - (arrivals + 1) } ∷ shown_in (arrivals + 1) ws) (shown_in (arrivals + 1) ws)) (at_last arrivals w.last l e) ∙ rest
    first false l e rest =
        let less : w.last - (arrivals + 1) ≡ w.last - arrivals - 1 = omega arith in
        ap (λ t. cond t (record { since = w.since; left = w.last - (arrivals + 1) } ∷ shown_in (arrivals + 1) ws) (shown_in (arrivals + 1) ws)) (not_yet arrivals w.last l e)
        ∙ ap (λ n. record { since = w.since; left = n } ∷ shown_in (arrivals + 1) ws) less
        ∙ ap (λ xs. lower x ∷ xs) rest

    if_waiting : (b : Bool) → nat_lt arrivals w.last ≡ b → shown_in (arrivals + 1) ws ≡ lowered (shown_in arrivals ws)
        → cond (nat_lt (arrivals + 1) w.last) (record { since = w.since; left = w.last - (arrivals + 1) } ∷ shown_in (arrivals + 1) ws) (shown_in (arrivals + 1) ws)
        ≡ lowered (cond b (x ∷ shown_in arrivals ws) (shown_in arrivals ws))
    if_waiting true l rest = first (nat_eq (w.last - arrivals) 1) l refl rest
    if_waiting false l rest = ap (λ t. cond t (record { since = w.since; left = w.last - (arrivals + 1) } ∷ shown_in (arrivals + 1) ws) (shown_in (arrivals + 1) ws)) (past arrivals w.last l) ∙ rest

-- those that wait no more are not shown
pub shown_waiting : (arrivals : ℕ) (ws : List Wait) → shown_in arrivals (filter (λ (w : Wait). nat_lt arrivals w.last) ws) ≡ shown_in arrivals ws
shown_waiting arrivals [] = refl
shown_waiting arrivals (w ∷ ws) = if_waiting (nat_lt arrivals w.last) refl (shown_waiting arrivals ws)
  where
    rest : List Wait
    rest = filter (λ (w : Wait). nat_lt arrivals w.last) ws

    if_waiting : (b : Bool) → nat_lt arrivals w.last ≡ b → shown_in arrivals rest ≡ shown_in arrivals ws
        → shown_in arrivals (cond b (w ∷ rest) rest) ≡ cond b (record { since = w.since; left = w.last - arrivals } ∷ shown_in arrivals ws) (shown_in arrivals ws)
    if_waiting true e same =
        ap (λ t. cond t (record { since = w.since; left = w.last - arrivals } ∷ shown_in arrivals rest) (shown_in arrivals rest)) e
        ∙ ap (λ xs. record { since = w.since; left = w.last - arrivals } ∷ xs) same
    if_waiting false e same = same

early_shown : (due limit arrivals i : ℕ) (ws : List Wait) (d : Wait) → i < length ws → due ≤ (get_or ws i d).since + limit
    → IsEarly due limit (shown_in arrivals (drop (suc i) ws)) → IsEarly due limit (shown_in arrivals (drop i ws))
early_shown due limit arrivals i [] d l h e = absurd (omega (arith, l))
early_shown due limit arrivals zero (w ∷ ws) d l h e = if_waiting (nat_lt arrivals w.last)
  where
    if_waiting : (b : Bool) → IsEarly due limit (cond b (record { since = w.since; left = w.last - arrivals } ∷ shown_in arrivals ws) (shown_in arrivals ws))
    if_waiting true = (h, e)
    if_waiting false = e
early_shown due limit arrivals (suc i) (w ∷ ws) d l h e = early_shown due limit arrivals i ws d (omega (arith, l)) h e

-- the position at which the one at a place is due, or less
pub early_at : (due limit arrivals n i s most : ℕ) (ws : List Wait) (d : Wait) → i < length ws → n ≡ limit → s ≡ min ((get_or ws i d).since + n) most → due ≤ s
    → IsEarly due limit (shown_in arrivals (drop (i + 1) ws)) → IsEarly due limit (shown_in arrivals (drop i ws))
early_at due limit arrivals n i s most ws d l same is h e =
    let next : i + 1 ≡ suc i = omega arith in
    early_shown due limit arrivals i ws d l (omega (arith, same, is, h)) (subst (λ k. IsEarly due limit (shown_in arrivals (drop k ws))) next e)

-- ---- whether one waits

-- one that waits is shown
pub some_shown : (arrivals k : ℕ) (ws : List Wait) (d : Wait) → k < length ws → arrivals < (get_or ws k d).last → nat_lt 0 (length (shown_in arrivals ws)) ≡ true
some_shown arrivals k [] d l h = absurd (omega (arith, l))
some_shown arrivals zero (w ∷ ws) d l h =
    ap (λ b. nat_lt 0 (length (cond b (record { since = w.since; left = w.last - arrivals } ∷ shown_in arrivals ws) (shown_in arrivals ws)))) (lt-ltb arrivals w.last h)
    ∙ lt-ltb 0 (suc (length (shown_in arrivals ws))) (omega arith)
some_shown arrivals (suc k) (w ∷ ws) d l h = if_waiting (nat_lt arrivals w.last) (some_shown arrivals k ws d (omega (arith, l)) h)
  where
    if_waiting : (b : Bool) → nat_lt 0 (length (shown_in arrivals ws)) ≡ true
        → nat_lt 0 (length (cond b (record { since = w.since; left = w.last - arrivals } ∷ shown_in arrivals ws) (shown_in arrivals ws))) ≡ true
    if_waiting true e = lt-ltb 0 (suc (length (shown_in arrivals ws))) (omega arith)
    if_waiting false e = e

-- one that waits no more is not
pub none_shown : (arrivals k : ℕ) (ws : List Wait) (d : Wait) → k < length ws → (get_or ws k d).last ≤ arrivals
    → shown_in arrivals (drop (suc k) ws) ≡ [] → shown_in arrivals (drop k ws) ≡ []
none_shown arrivals k [] d l h none = absurd (omega (arith, l))
none_shown arrivals zero (w ∷ ws) d l h none =
    ap (λ b. cond b (record { since = w.since; left = w.last - arrivals } ∷ shown_in arrivals ws) (shown_in arrivals ws)) (le-ltb arrivals w.last h) ∙ none
none_shown arrivals (suc k) (w ∷ ws) d l h none = none_shown arrivals k ws d (omega (arith, l)) h none

pub all_dropped : (arrivals k : ℕ) (ws : List Wait) → length ws ≤ k → shown_in arrivals (drop k ws) ≡ []
all_dropped arrivals zero [] l = refl
all_dropped arrivals zero (w ∷ ws) l = absurd (omega (arith, l))
all_dropped arrivals (suc k) [] l = refl
all_dropped arrivals (suc k) (w ∷ ws) l = all_dropped arrivals k ws (omega (arith, l))
