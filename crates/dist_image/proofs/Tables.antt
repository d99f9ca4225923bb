-- The tables of entries: what is read is what was written, and what was written is read again.
use Rattle.std.proofs.Common.{◌≡◌, ℕ, ◌+◌, ◌^◌, ◌<◌, ◌≤◌, List, [], ◌∷◌, ◌++◌, length, map, All, Result, Ok, arith}
use Rattle.std.specs.List.{AllByRecursion}
use Rattle.std.specs.List.Sorted.{IsStrictlyIncreasing}
use Rattle.std.proofs.lemmas.List.Elements.{All-from_recursion, recursion_from_All}
use Rattle.std.proofs.lemmas.List.Sums.{sum_by-cons}
use Rattle.dist_image.specs.declared.error.ImageErr.{ImageErr}
use Rattle.dist_image.specs.declared.image.Slot.{Slot}
use Rattle.dist_image.specs.declared.image.Anchor.{Anchor}
use Rattle.dist_image.specs.declared.image.Note.{Note}
use Rattle.dist_image.specs.Image.{Premise, IsSlot, IsAnchor, IsNote, IsPremise, IsKnownAtFirst, key_of, targets_of, target_count}
use Rattle.word_format.specs.Bytes.{words}
use Rattle.dist_image.specs.Bytes.{slot_words, anchor_words, note_words, premise_words, table_bytes}
use Rattle.dist_image.specs.Reading.{next_slot, next_anchor, next_note, next_premise, see_premise, slots_in, anchors_in, notes_in, premises_in}
use Rattle.word_format.proofs.Numbers.{IsBytes, Takes, AllFrom, entries_take, entries_again}
use Rattle.word_format.proofs.Rising.{Rises, Rises-split, Rises-join, increasing_from_rises, rises_from_increasing}
use Rattle.dist_image.proofs.Entries.{slot_takes, slot_again, anchor_takes, anchor_again, note_takes, note_again}
use Rattle.dist_image.proofs.Premises.{IsKnown, FitsPremise, premise_takes, premise_again}

module _ (anchors : ℕ) where
  abbrev FitsSlot : ℕ → Slot → Type 0
  FitsSlot seen s = IsSlot anchors s

  abbrev read_slot : ℕ → ℕ → List ℕ → Result (Slot × List ℕ) ImageErr
  read_slot i _ rest = next_slot anchors i rest

  abbrev see_slot : ℕ → Slot → ℕ
  see_slot seen _ = seen

  spread : (xs : List Slot) → AllByRecursion (IsSlot anchors) xs → AllFrom read_slot see_slot (λ s. words (slot_words s)) FitsSlot 0 xs
  spread [] h = tt
  spread (x ∷ xs) h = (h.0, spread xs h.1)

  gather : (xs : List Slot) → AllFrom read_slot see_slot (λ s. words (slot_words s)) FitsSlot 0 xs → AllByRecursion (IsSlot anchors) xs
  gather [] h = tt
  gather (x ∷ xs) h = (h.0, gather xs h.1)

  pub slots_take : (count : ℕ) (bytes : List ℕ) (x : List Slot × List ℕ) → IsBytes bytes → slots_in anchors count bytes ≡ Ok x → Takes bytes (table_bytes slot_words x.0) x.1 × (length x.0 ≡ count) × All (IsSlot anchors) x.0
  slots_take count bytes x fits e =
      let t = entries_take {S = ℕ} read_slot see_slot (λ s. words (slot_words s)) FitsSlot (λ i _ bytes x fits e. slot_takes anchors i bytes x fits e) count 0 0 bytes x fits e in
      (t.0, t.1, All-from_recursion (IsSlot anchors) x.0 (gather x.0 t.2))

  pub slots_again : (xs : List Slot) (rest : List ℕ) → anchors < 2 ^ 32 → All (IsSlot anchors) xs → slots_in anchors (length xs) (table_bytes slot_words xs ++ rest) ≡ Ok (xs, rest)
  slots_again xs rest few fits =
      entries_again {S = ℕ} read_slot see_slot (λ s. words (slot_words s)) FitsSlot (λ i _ s rest fits. slot_again anchors i s rest few fits) xs 0 0 rest (spread xs (recursion_from_All (IsSlot anchors) xs fits))

module _ (slots : ℕ) where
  abbrev FitsAnchor : ℕ → Anchor → Type 0
  FitsAnchor due a = (due ≤ a.pc) × IsAnchor slots a

  abbrev see_anchor : ℕ → Anchor → ℕ
  see_anchor _ a = a.pc + 1

  abbrev pc_of_anchor : Anchor → ℕ
  pc_of_anchor a = a.pc

  pub anchors_take : (count : ℕ) (bytes : List ℕ) (x : List Anchor × List ℕ) → IsBytes bytes → anchors_in slots count bytes ≡ Ok x →
      Takes bytes (table_bytes anchor_words x.0) x.1 × (length x.0 ≡ count) × All (IsAnchor slots) x.0 × IsStrictlyIncreasing (map pc_of_anchor x.0)
  anchors_take count bytes x fits e =
      let t = entries_take {S = ℕ} (next_anchor slots) see_anchor (λ a. words (anchor_words a)) FitsAnchor (anchor_takes slots) count 0 0 bytes x fits e in
      let parts = Rises-split pc_of_anchor (IsAnchor slots) 0 x.0 t.2 in
      (t.0, t.1, All-from_recursion (IsAnchor slots) x.0 parts.0, increasing_from_rises (map pc_of_anchor x.0) 0 parts.1)

  pub anchors_again : (xs : List Anchor) (rest : List ℕ) → slots < 2 ^ 32 → All (IsAnchor slots) xs → IsStrictlyIncreasing (map pc_of_anchor xs) → anchors_in slots (length xs) (table_bytes anchor_words xs ++ rest) ≡ Ok (xs, rest)
  anchors_again xs rest few fits up =
      let rises = rises_from_increasing (map pc_of_anchor xs) 0 (λ _. omega arith) up in
      entries_again {S = ℕ} (next_anchor slots) see_anchor (λ a. words (anchor_words a)) FitsAnchor (λ i due a rest fits. anchor_again slots i due a rest few fits) xs 0 0 rest
      (Rises-join pc_of_anchor (IsAnchor slots) 0 xs (recursion_from_All (IsAnchor slots) xs fits) rises)

  abbrev FitsNote : ℕ → Note → Type 0
  FitsNote due n = (due ≤ n.pc) × IsNote slots n

  abbrev see_note : ℕ → Note → ℕ
  see_note _ n = n.pc + 1

  abbrev pc_of_note : Note → ℕ
  pc_of_note n = n.pc

  pub notes_take : (count : ℕ) (bytes : List ℕ) (x : List Note × List ℕ) → IsBytes bytes → notes_in slots count bytes ≡ Ok x →
      Takes bytes (table_bytes note_words x.0) x.1 × (length x.0 ≡ count) × All (IsNote slots) x.0 × IsStrictlyIncreasing (map pc_of_note x.0)
  notes_take count bytes x fits e =
      let t = entries_take {S = ℕ} (next_note slots) see_note (λ n. words (note_words n)) FitsNote (note_takes slots) count 0 0 bytes x fits e in
      let parts = Rises-split pc_of_note (IsNote slots) 0 x.0 t.2 in
      (t.0, t.1, All-from_recursion (IsNote slots) x.0 parts.0, increasing_from_rises (map pc_of_note x.0) 0 parts.1)

  pub notes_again : (xs : List Note) (rest : List ℕ) → slots < 2 ^ 32 → All (IsNote slots) xs → IsStrictlyIncreasing (map pc_of_note xs) → notes_in slots (length xs) (table_bytes note_words xs ++ rest) ≡ Ok (xs, rest)
  notes_again xs rest few fits up =
      let rises = rises_from_increasing (map pc_of_note xs) 0 (λ _. omega arith) up in
      entries_again {S = ℕ} (next_note slots) see_note (λ n. words (note_words n)) FitsNote (λ i due n rest fits. note_again slots i due n rest few fits) xs 0 0 rest
      (Rises-join pc_of_note (IsNote slots) 0 xs (recursion_from_All (IsNote slots) xs fits) rises)

abbrev premise_bytes : Premise → List ℕ
premise_bytes p = words (premise_words p)

abbrev target_number : Premise → ℕ
target_number p = length (targets_of p)

module _ (version : ℕ) where
  -- a valid assumption that the version knows
  abbrev IsListed : Premise → Type 0
  IsListed p = IsPremise p × IsKnown version p

  abbrev AllPremises : ℕ × ℕ → List Premise → Type 0
  AllPremises seen ps = AllFrom (next_premise version) see_premise premise_bytes (FitsPremise version) seen ps

  premises_gather : (seen : ℕ × ℕ) (ps : List Premise) → seen.1 ≤ 1_048_576 → AllPremises seen ps → AllByRecursion IsListed ps × Rises seen.0 (map key_of ps) × (seen.1 + target_count ps ≤ 1_048_576)
  premises_gather seen [] few h = (tt, tt, omega arith)
  premises_gather seen (p ∷ ps) few h =
      let rest = premises_gather (see_premise seen p) ps h.0.few h.1 in
      (((h.0.fits, h.0.known), rest.0), (h.0.order, rest.1), omega (arith, rest.2, sum_by-cons target_number p ps))

  premises_spread : (seen : ℕ × ℕ) (ps : List Premise) → AllByRecursion IsListed ps → Rises seen.0 (map key_of ps) → seen.1 + target_count ps ≤ 1_048_576 → AllPremises seen ps
  premises_spread seen [] all up few = tt
  premises_spread seen (p ∷ ps) all up few =
      (record { order = up.0; fits = all.0.0; known = all.0.1; few = omega (arith, few, sum_by-cons target_number p ps) }, premises_spread (see_premise seen p) ps all.1 up.1 (omega (arith, few, sum_by-cons target_number p ps)))

  all_valid : (ps : List Premise) → AllByRecursion IsListed ps → AllByRecursion IsPremise ps
  all_valid [] all = tt
  all_valid (p ∷ ps) all = (all.0.0, all_valid ps all.1)

  all_known : (ps : List Premise) → AllByRecursion IsListed ps → version ≡ 1 → AllByRecursion IsKnownAtFirst ps
  all_known [] all first = tt
  all_known (p ∷ ps) all first = (all.0.1 first, all_known ps all.1 first)

  all_listed : (ps : List Premise) → AllByRecursion IsPremise ps → (version ≡ 1 → AllByRecursion IsKnownAtFirst ps) → AllByRecursion IsListed ps
  all_listed [] valid known = tt
  all_listed (p ∷ ps) valid known = ((valid.0, λ first. (known first).0), all_listed ps valid.1 (λ first. (known first).1))

  -- the assumptions of an image of the version
  pub record ArePremises (ps : List Premise) : Type 0 where
    pub valid : All IsPremise ps
    pub known : version ≡ 1 → All IsKnownAtFirst ps
    pub rise : IsStrictlyIncreasing (map key_of ps)
    pub few : target_count ps ≤ 1_048_576

  pub premises_take : (count : ℕ) (bytes : List ℕ) (x : List Premise × List ℕ) → IsBytes bytes → premises_in version count bytes ≡ Ok x →
      Takes bytes (table_bytes premise_words x.0) x.1 × (length x.0 ≡ count) × ArePremises x.0
  premises_take count bytes x fits e =
      let t = entries_take (next_premise version) see_premise premise_bytes (FitsPremise version) (premise_takes version) count 0 (0, 0) bytes x fits e in
      let parts = premises_gather (0, 0) x.0 (omega arith) t.2 in (
        t.0,
        t.1,
        record {
          valid = All-from_recursion IsPremise x.0 (all_valid x.0 parts.0);
          known = λ first. All-from_recursion IsKnownAtFirst x.0 (all_known x.0 parts.0 first);
          rise = increasing_from_rises (map key_of x.0) 0 parts.1;
          few = omega (arith, parts.2);
        },
      )

  pub premises_again : (ps : List Premise) (rest : List ℕ) → ArePremises ps → premises_in version (length ps) (table_bytes premise_words ps ++ rest) ≡ Ok (ps, rest)
  premises_again ps rest fits =
      let rises = rises_from_increasing (map key_of ps) 0 (λ _. omega arith) fits.rise in
      let listed = all_listed ps (recursion_from_All IsPremise ps fits.valid) (λ first. recursion_from_All IsKnownAtFirst ps (fits.known first)) in
      entries_again (next_premise version) see_premise premise_bytes (FitsPremise version) (premise_again version) ps 0 (0, 0) rest (premises_spread (0, 0) ps listed rises (omega (arith, fits.few)))
