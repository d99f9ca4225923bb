-- What the pages hold once one is made, or bytes are written into one.
use Rattle.std.proofs.Common.{◌≡◌, ℕ, ◌+◌, ◌-◌, ◌/◌, ◌%◌, ◌^◌, ◌<◌, ◌≤◌, ◌==◌, if◌then◌else◌, List, [], ◌∷◌, ◌++◌, length, take, drop, cond, Bool, true, false, Option, Some, None, is_some, option_map, inl, inr, ⊎_elim, get_or, set, replicate, slice_index, refl, sym, ap, ◌∙◌, subst, arith}
use mathlib.Core.Path.{fun_ext}
use Rattle.std.specs.List.{slice_get}
use Rattle.std.specs.Option.{MatchOption}
use Rattle.std.proofs.lemmas.List.{get_or_append_left, get_or-append_right, get_or-take, get_or-drop, get_or_default, length-take-le}
use Rattle.std.proofs.lemmas.Option.{slice_get-get_or, slice_get_past, same_Some}
use Rattle.std.proofs.lemmas.Bool.{cases_eq, cases_lt, ne_eqb, eq-eqb}
use Rattle.cells.specs.Bytes.{after_puts}
use Rattle.memory.specs.declared.page.Page.{Page}
use Rattle.memory.specs.Pages.{number_at, bytes_if, bytes_at, byte_in, overwritten, IsMade}
use Rattle.memory.proofs.Directories.{pushed_at, pushed_last, put_same, put_other, zero_at}
use Rattle.memory.proofs.Puts.{puts_outside, puts_inside}

-- a list with bytes written over: below them, at them, above them
over_below : (xs bytes : List ℕ) (from i : ℕ) → from + length bytes ≤ length xs → i < from → get_or (overwritten xs from bytes) i 0 ≡ get_or xs i 0
over_below xs bytes from i fits below =
    get_or_append_left (take from xs) (bytes ++ drop (from + length bytes) xs) 0 i (let n : length (take from xs) ≡ from = length-take-le from xs (omega arith) in omega arith)
    ∙ get_or-take from xs i 0 below

over_at : (xs bytes : List ℕ) (from i : ℕ) → from + length bytes ≤ length xs → from ≤ i → i < from + length bytes → get_or (overwritten xs from bytes) i 0 ≡ get_or bytes (i - from) 0
over_at xs bytes from i fits low high =
    get_or-append_right (take from xs) (bytes ++ drop (from + length bytes) xs) from i 0 (length-take-le from xs (omega arith)) low
    ∙ get_or_append_left bytes (drop (from + length bytes) xs) 0 (i - from) (omega arith)

over_above : (xs bytes : List ℕ) (from i : ℕ) → from + length bytes ≤ length xs → from + length bytes ≤ i → get_or (overwritten xs from bytes) i 0 ≡ get_or xs i 0
over_above xs bytes from i fits above =
    get_or-append_right (take from xs) (bytes ++ drop (from + length bytes) xs) from i 0 (length-take-le from xs (omega arith)) (omega arith)
    ∙ get_or-append_right bytes (drop (from + length bytes) xs) (length bytes) (i - from) 0 refl (omega arith)
    ∙ get_or-drop (from + length bytes) xs (i - from - length bytes) 0
    ∙ (let e : from + length bytes + (i - from - length bytes) ≡ i = omega arith in ap (λ k. get_or xs k 0) e)

-- bytes written into the page of a
pub written : (place : ℕ → ℕ) (old new : List Page) (a : ℕ) (bytes : List ℕ) → a < 2 ^ 32 → a % 4096 + length bytes ≤ 4096
    → bytes_at new (place (a / 4096)) (a / 4096) ≡ overwritten (bytes_at old (place (a / 4096)) (a / 4096)) (a % 4096) bytes
    → length (bytes_at old (place (a / 4096)) (a / 4096)) ≡ 4096
    → ((p n : ℕ) → (p ≡ place (a / 4096) → n ≡ a / 4096 → ⊥) → bytes_at new p n ≡ bytes_at old p n)
    → byte_in place new ≡ after_puts (byte_in place old) a bytes
written place old new a bytes within fits here whole others = fun_ext (λ b. ⊎_elim (same b) (other b) (cases_eq (b / 4096) (a / 4096)))
  where
    other : (b : ℕ) → (b / 4096 ≡ a / 4096 → ⊥) → byte_in place new b ≡ after_puts (byte_in place old) a bytes b
    other b ne =
        ap (λ xs. slice_index xs (b % 4096)) (others (place (b / 4096)) (b / 4096) (λ _ e. ne e))
        ∙ sym (puts_outside (byte_in place old) a b bytes (omega arith) (⊎_elim (λ l. inl l) (λ l. inr (omega arith)) (cases_lt b a)))

    at : (b : ℕ) → b / 4096 ≡ a / 4096 → byte_in place new b ≡ get_or (overwritten (bytes_at old (place (a / 4096)) (a / 4096)) (a % 4096) bytes) (b % 4096) 0
    at b e = ap (λ n. slice_index (bytes_at new (place n) n) (b % 4096)) e ∙ ap (λ xs. slice_index xs (b % 4096)) here

    was : (b : ℕ) → b / 4096 ≡ a / 4096 → byte_in place old b ≡ get_or (bytes_at old (place (a / 4096)) (a / 4096)) (b % 4096) 0
    was b e = ap (λ n. slice_index (bytes_at old (place n) n) (b % 4096)) e

    same : (b : ℕ) → b / 4096 ≡ a / 4096 → byte_in place new b ≡ after_puts (byte_in place old) a bytes b
    same b e =
        let xs : List ℕ = bytes_at old (place (a / 4096)) (a / 4096) in
        at b e
        ∙ ⊎_elim
        (λ l. over_below xs bytes (a % 4096) (b % 4096) (omega arith) (omega arith) ∙ sym (was b e) ∙ sym (puts_outside (byte_in place old) a b bytes (omega arith) (inl l)))
        (λ low. ⊎_elim
        (λ high. over_at xs bytes (a % 4096) (b % 4096) (omega arith) (omega arith) (omega arith)
        ∙ (let k : b % 4096 - a % 4096 ≡ b - a = omega arith in ap (λ k. get_or bytes k 0) k)
        ∙ sym (puts_inside (byte_in place old) a b bytes (omega arith) low high))
        (λ high. over_above xs bytes (a % 4096) (b % 4096) (omega arith) (omega arith) ∙ sym (was b e) ∙ sym (puts_outside (byte_in place old) a b bytes (omega arith) (inr high)))
        (cases_lt b (a + length bytes)))
        (cases_lt b a)

abbrev pub new_page : ℕ → Page
new_page n = record { number = n; bytes = replicate 4096 0 }

own_bytes : (page : Page) (n : ℕ) → page.number ≡ n → bytes_if (Some page) n ≡ page.bytes
own_bytes page n e = ap (λ b. cond b page.bytes []) (eq-eqb page.number n e)

no_bytes : (page : Page) (n : ℕ) → (page.number ≡ n → ⊥) → bytes_if (Some page) n ≡ []
no_bytes page n ne = ap (λ b. cond b page.bytes []) (ne_eqb page.number n ne)

-- one page in place of that at k, with its number
pub here_after : (pages : List Page) (k n from : ℕ) (old new : Page) (bytes : List ℕ) → slice_get pages k ≡ Some old → old.number ≡ n → new.number ≡ old.number → new.bytes ≡ overwritten old.bytes from bytes
    → bytes_at (set pages k new) k n ≡ overwritten (bytes_at pages k n) from bytes
here_after pages k n from old new bytes at own number is =
    ap (λ o. bytes_if o n) (put_same pages k old new at)
    ∙ own_bytes new n (number ∙ own)
    ∙ is
    ∙ ap (λ xs. overwritten xs from bytes) (sym (ap (λ o. bytes_if o n) at ∙ own_bytes old n own))

pub others_after : (pages : List Page) (k n : ℕ) (old new : Page) → slice_get pages k ≡ Some old → old.number ≡ n → new.number ≡ old.number
    → (p m : ℕ) → (p ≡ k → m ≡ n → ⊥) → bytes_at (set pages k new) p m ≡ bytes_at pages p m
others_after pages k n old new at own number p m ne = ⊎_elim same other (cases_eq p k)
  where
    other : (p ≡ k → ⊥) → bytes_at (set pages k new) p m ≡ bytes_at pages p m
    other apart = ap (λ o. bytes_if o m) (put_other pages k p new apart)

    same : p ≡ k → bytes_at (set pages k new) p m ≡ bytes_at pages p m
    same e =
        ap (λ p. bytes_at (set pages k new) p m) e
        ∙ ap (λ o. bytes_if o m) (put_same pages k old new at)
        ∙ no_bytes new m (λ f. ne e (sym f ∙ number ∙ own))
        ∙ sym (no_bytes old m (λ f. ne e (sym f ∙ own)))
        ∙ sym (ap (λ o. bytes_if o m) at)
        ∙ ap (λ p. bytes_at pages p m) (sym e)

pub numbers_after : (pages : List Page) (k : ℕ) (old new : Page) → slice_get pages k ≡ Some old → new.number ≡ old.number → (p : ℕ) → number_at (set pages k new) p ≡ number_at pages p
numbers_after pages k old new at number p = ⊎_elim
    (λ e. ap (λ p. number_at (set pages k new) p) e ∙ ap (option_map (λ (page : Page). page.number)) (put_same pages k old new at) ∙ ap (λ n. Some n) number ∙ sym (ap (option_map (λ (page : Page). page.number)) at) ∙ ap (λ p. number_at pages p) (sym e))
    (λ ne. ap (option_map (λ (page : Page). page.number)) (put_other pages k p new ne))
    (cases_eq p k)

pub bytes_here : (pages : List Page) (k n : ℕ) (old : Page) → slice_get pages k ≡ Some old → old.number ≡ n → bytes_at pages k n ≡ old.bytes
bytes_here pages k n old at own = ap (λ o. bytes_if o n) at ∙ own_bytes old n own

-- two reads at an index within the list
pub reads : {X : Type 0} (xs : List X) (k : ℕ) (x y : X) → k < length xs → x ≡ get_or xs k x → y ≡ get_or xs k y → (slice_get xs k ≡ Some x) × (x ≡ y)
reads xs k x y within is is' = (slice_get-get_or xs k x within ∙ ap (λ z. Some z) (sym is), is ∙ get_or_default xs k x y within ∙ sym is')

-- what a look-up that answered tells
pub if_some : {X : Type 0} (o : Option X) (P R : Type 0) (Q : X → Type 0) → MatchOption o P Q → ((x : X) → Q x → R) → is_some o ≡ true → R
if_some None P R Q h gives e = cc
if_some (Some x) P R Q h gives e = gives x h

pub if_none : {X : Type 0} (o : Option X) (P : Type 0) (Q : X → Type 0) → MatchOption o P Q → is_some o ≡ false → P
if_none None P Q h e = h
if_none (Some x) P Q h e = cc

-- page m is made: its place is the end of the list, where a page of zeros may stand already
module _ (place new : ℕ → ℕ) (pages : List Page) (m end : ℕ) (is : end ≡ length pages) (placed : (n : ℕ) → new n ≡ (if n == m then end else place n)) (none : bytes_at pages (place m) m ≡ []) where
  at_m : new m ≡ end
  at_m = placed m ∙ ap (λ b. cond b end (place m)) (eq-eqb m m refl)

  elsewhere : (n : ℕ) → (n ≡ m → ⊥) → new n ≡ place n
  elsewhere n ne = placed n ∙ ap (λ b. cond b end (place n)) (ne_eqb n m ne)

  pub no_page_yet : byte_in new pages ≡ byte_in place pages
  no_page_yet = fun_ext (λ b. ⊎_elim (same b) (λ ne. ap (λ p. slice_index (bytes_at pages p (b / 4096)) (b % 4096)) (elsewhere (b / 4096) ne)) (cases_eq (b / 4096) m))
    where
      same : (b : ℕ) → b / 4096 ≡ m → byte_in new pages b ≡ byte_in place pages b
      same b e =
          ap (λ n. slice_index (bytes_at pages (new n) n) (b % 4096)) e
          ∙ ap (λ p. slice_index (bytes_at pages p m) (b % 4096)) at_m
          ∙ ap (λ o. slice_index (bytes_if o m) (b % 4096)) (slice_get_past pages end (omega arith))
          ∙ sym (ap (λ n. slice_index (bytes_at pages (place n) n) (b % 4096)) e ∙ ap (λ xs. slice_index xs (b % 4096)) none)

  pub page_added : byte_in new (pages ++ new_page m ∷ []) ≡ byte_in place pages
  page_added = fun_ext (λ b. ⊎_elim (same b) (other b) (cases_eq (b / 4096) m))
    where
      same : (b : ℕ) → b / 4096 ≡ m → byte_in new (pages ++ new_page m ∷ []) b ≡ byte_in place pages b
      same b e =
          ap (λ n. slice_index (bytes_at (pages ++ new_page m ∷ []) (new n) n) (b % 4096)) e
          ∙ ap (λ p. slice_index (bytes_at (pages ++ new_page m ∷ []) p m) (b % 4096)) (at_m ∙ is)
          ∙ ap (λ o. slice_index (bytes_if o m) (b % 4096)) (pushed_last pages (new_page m))
          ∙ ap (λ xs. slice_index xs (b % 4096)) (own_bytes (new_page m) m refl)
          ∙ zero_at 4096 (b % 4096)
          ∙ sym (ap (λ n. slice_index (bytes_at pages (place n) n) (b % 4096)) e ∙ ap (λ xs. slice_index xs (b % 4096)) none)

      other : (b : ℕ) → (b / 4096 ≡ m → ⊥) → byte_in new (pages ++ new_page m ∷ []) b ≡ byte_in place pages b
      other b ne =
          ap (λ p. slice_index (bytes_at (pages ++ new_page m ∷ []) p (b / 4096)) (b % 4096)) (elsewhere (b / 4096) ne)
          ∙ ⊎_elim
          (λ e. ap (λ o. slice_index (bytes_if o (b / 4096)) (b % 4096)) e)
          (λ w. ap (λ o. slice_index (bytes_if o (b / 4096)) (b % 4096)) w.1
          ∙ ap (λ xs. slice_index xs (b % 4096)) (no_bytes (new_page m) (b / 4096) (λ e. ne (sym e)))
          ∙ sym (ap (λ o. slice_index (bytes_if o (b / 4096)) (b % 4096)) w.2))
          (pushed_at pages (new_page m) (place (b / 4096)))

  pub is_made : IsMade new (pages ++ new_page m ∷ []) m
  is_made = ap (number_at (pages ++ new_page m ∷ [])) (at_m ∙ is) ∙ ap (option_map (λ (page : Page). page.number)) (pushed_last pages (new_page m))

  pub kept_placed : (IsMade place pages m → ⊥) → (n : ℕ) → IsMade place pages n → IsMade new pages n
  kept_placed not n made = ap (number_at pages) (elsewhere n (λ e. not (subst (IsMade place pages) e made))) ∙ made

  pub kept_added : (IsMade place pages m → ⊥) → (n : ℕ) → IsMade place pages n → IsMade new (pages ++ new_page m ∷ []) n
  kept_added not n made =
      ap (number_at (pages ++ new_page m ∷ [])) (elsewhere n (λ e. not (subst (IsMade place pages) e made)))
      ∙ ⊎_elim
      (λ e. ap (option_map (λ (page : Page). page.number)) e ∙ made)
      (λ w. absurd (let e : ◌≡◌ {A = Option ℕ} None (Some n) = sym (ap (option_map (λ (page : Page). page.number)) w.2) ∙ made in cc))
      (pushed_at pages (new_page m) (place n))

  -- a place that is known to be right for the page that lies there stays so
  still_placed : (IsMade place pages m → ⊥) → (code : ℕ) → ((n : ℕ) → number_at pages code ≡ Some n → place n ≡ code) → (n : ℕ) → number_at pages code ≡ Some n → new n ≡ code
  still_placed not code was n at =
      elsewhere n (λ e. not (ap (number_at pages) (ap place (sym e) ∙ was n at) ∙ at ∙ ap (λ k. Some k) e)) ∙ was n at

  pub placed_after : (IsMade place pages m → ⊥) → (code : ℕ) → ((n : ℕ) → number_at pages code ≡ Some n → place n ≡ code)
      → (us : List Page) (pushed : Bool) → us ≡ (if pushed then pages ++ new_page m ∷ [] else pages) → (n : ℕ) → number_at us code ≡ Some n → new n ≡ code
  placed_after not code was us false items n at = still_placed not code was n (ap (λ xs. number_at xs code) (sym items) ∙ at)
  placed_after not code was us true items n at = ⊎_elim
      (λ e. still_placed not code was n (ap (option_map (λ (page : Page). page.number)) (sym e) ∙ there))
      (λ w. let same : m ≡ n = same_Some _ _ (ap (option_map (λ (page : Page). page.number)) (sym w.1) ∙ there) in
      ap new (sym same) ∙ at_m ∙ is ∙ sym w.0)
      (pushed_at pages (new_page m) code)
    where
      there : number_at (pages ++ new_page m ∷ []) code ≡ Some n
      there = ap (λ xs. number_at xs code) (sym items) ∙ at
