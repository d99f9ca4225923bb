-- When an image is made of a profile, and when none is.
use Rattle.std.proofs.Common.{◌≡◌, ◌≢◌, ℕ, ◌<◌, ◌^◌, ◌||◌, ◌==◌, Bool, true, false, cond, List, [], ◌∷◌, length, Some, None, inl, inr, refl, sym, ap, ◌∙◌, arith}
use Rattle.std.specs.Prelude.{nat_lt, nat_le}
use Rattle.std.proofs.lemmas.Bool.{ltb-true, lt-ltb, lt-leb, ne_eqb, or_left, or_right, or_from}
use Rattle.cells.specs.Run.{State}
use Rattle.elf_reader.specs.Executable.{Executable}
use Rattle.dist_image.specs.Image.{Distilled}
use Rattle.profile_data.specs.Profile.{Tally, Profiled, target_count}
use Rattle.profile_laws.specs.Profiles.{with_mark, IsWide, IsProfileOf}
use Rattle.profile_laws.specs.Tally.{kept, profile_of}
use Rattle.profile_laws.proofs.Law.{tally_is_profile}
use Rattle.profile_laws.proofs.One.{profile_is_one}
use Rattle.profiler.specs.Widths.{is_wide}
use Rattle.distill_rules.specs.Analysed.{analysed}
use Rattle.layout_rules.specs.Images.{distilled}
use Rattle.cuts.specs.Words.{word_in}
use Rattle.adapt.specs.Made.{default_options, gives_none, made}

pub wide_tested : (rows : List Tally) → IsWide rows → is_wide rows ≡ true
wide_tested rows (inl h) = or_left (nat_lt 524_288 (length rows)) (nat_lt 1_048_576 (target_count rows)) (lt-ltb 524_288 (length rows) h)
wide_tested rows (inr h) = or_right (nat_lt 524_288 (length rows)) (nat_lt 1_048_576 (target_count rows)) (lt-ltb 1_048_576 (target_count rows) h)

test_of : (b : Bool) → (b ≡ true → ⊥) → b ≡ false
test_of true h = absurd (h refl)
test_of false h = refl

pub narrow_tested : (rows : List Tally) → (IsWide rows → ⊥) → is_wide rows ≡ false
narrow_tested rows h = or_from (nat_lt 524_288 (length rows)) (nat_lt 1_048_576 (target_count rows))
    (test_of (nat_lt 524_288 (length rows)) (λ e. h (inl (ltb-true 524_288 (length rows) e))))
    (test_of (nat_lt 1_048_576 (target_count rows)) (λ e. h (inr (ltb-true 1_048_576 (target_count rows) e))))

none_is : (ns : List ℕ) → ns ≡ [] → (length ns == 0) ≡ true
none_is ns e = ap (λ (ns : List ℕ). length ns == 0) e

some_is : (ns : List ℕ) → (ns ≡ [] → ⊥) → (length ns == 0) ≡ false
some_is [] h = absurd (h refl)
some_is (n ∷ ns) h = ne_eqb (length (n ∷ ns)) 0 (λ e. omega arith)

module _ (program : Executable) (start : State) (n : ℕ) where
  abbrev f : Profiled
  f = profile_of (with_mark true) start n

  -- the one profile of the steps is that of the tally
  is_profile : (g : Profiled) → IsProfileOf (with_mark true) start n g → g ≡ f
  is_profile g is = profile_is_one (with_mark true) start n g f is (tally_is_profile (with_mark true) start n)

  none : gives_none f ≡ true → None ≡ made program start n
  unfolding made
  none e = sym (ap (λ b. cond b None (Some (distilled (word_in program) program.entry f [] default_options))) e)

  pub wide_made : IsWide (kept (with_mark true) start n).rows → None ≡ made program start n
  wide_made h = none (or_left (is_wide f.rows || (length (analysed f.rows) == 0)) (nat_le (2 ^ 64) n) (or_left (is_wide f.rows) (length (analysed f.rows) == 0) (wide_tested f.rows h)))

  pub empty_made : (g : Profiled) → IsProfileOf (with_mark true) start n g → analysed g.rows ≡ [] → None ≡ made program start n
  empty_made g is e =
      let here : analysed f.rows ≡ [] = sym (ap (λ (p : Profiled). analysed p.rows) (is_profile g is)) ∙ e in
      none (or_left (is_wide f.rows || (length (analysed f.rows) == 0)) (nat_le (2 ^ 64) n) (or_right (is_wide f.rows) (length (analysed f.rows) == 0) (none_is (analysed f.rows) here)))

  pub image_made : (g : Profiled) → n < 2 ^ 64 → IsProfileOf (with_mark true) start n g → (IsWide g.rows → ⊥) → analysed g.rows ≢ [] → (image : Distilled)
      → image ≡ distilled (word_in program) program.entry g [] default_options → Some image ≡ made program start n
  unfolding made
  image_made g small is narrow some image e =
      let same = is_profile g is in
      let gives : gives_none f ≡ false =
      ap gives_none (sym same)
      ∙ or_from (is_wide g.rows || (length (analysed g.rows) == 0)) (nat_le (2 ^ 64) g.steps)
      (or_from (is_wide g.rows) (length (analysed g.rows) == 0) (narrow_tested g.rows narrow) (some_is (analysed g.rows) some))
      (lt-leb (2 ^ 64) g.steps (let k = is.steps in omega arith)) in
      ap Some (e ∙ ap (λ (p : Profiled). distilled (word_in program) program.entry p [] default_options) same)
      ∙ sym (ap (λ b. cond b None (Some (distilled (word_in program) program.entry f [] default_options))) gives)
