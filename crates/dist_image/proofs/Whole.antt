-- The two laws of the format: what is read is an image with these bytes, and the bytes of an image are read as that image.
use Rattle.std.proofs.Common.{◌≡◌, ◌≢◌, ℕ, ◌==◌, inl, inr, Bool, true, false, cond, List, [], ◌++◌, length, All, Result, Ok, Err, IfOk, IfErr, MatchResult, refl, sym, ap, subst, ◌∙◌, arith}
use Rattle.std.proofs.lemmas.Bool.{eqb-true}
use Rattle.std.proofs.lemmas.List.{append-nil, nil_from_length}
use Rattle.dist_image.specs.declared.error.ImageErr.{ImageErr}
use Rattle.dist_image.specs.declared.error.ImageErr.TheVariants.{Long, Memory}
use Rattle.dist_image.specs.declared.header.Header.{Header}
use Rattle.dist_image.specs.Image.{Distilled, IsSlot, IsAnchor, IsNote, IsImage}
use Rattle.word_format.specs.Bytes.{words}
use Rattle.dist_image.specs.Bytes.{slot_words, anchor_words, note_words, premise_words, table_bytes, bytes_of}
use Rattle.dist_image.specs.Reading.{writes_err, Gives, next_header, slots_in, anchors_in, notes_in, premises_in, writes_in, image_from}
use Rattle.word_format.proofs.Numbers.{IsBytes, bind_ok, ok_is, Takes, Takes-then}
use Rattle.dist_image.proofs.Headers.{HeaderFits, numbers, header_takes, header_again}
use Rattle.dist_image.proofs.Tables.{slots_take, slots_again, anchors_take, anchors_again, notes_take, notes_again, ArePremises, premises_take, premises_again}
use Rattle.word_format.proofs.Targets.{named_take, named_again}

-- the header that an image has
abbrev header_of : Distilled → Header
header_of image = record { version = image.version; limit = image.limit; slots = length image.slots; anchors = length image.anchors; notes = length image.notes; assumptions = length image.assumptions; writes = length image.writes }

-- a header with the numbers of entries that it has
counts : (h : Header) (slots anchors notes assumptions writes : ℕ) → slots ≡ h.slots → anchors ≡ h.anchors → notes ≡ h.notes → assumptions ≡ h.assumptions → writes ≡ h.writes →
    h ≡ record { version = h.version; limit = h.limit; slots = slots; anchors = anchors; notes = notes; assumptions = assumptions; writes = writes }
counts h slots anchors notes assumptions writes s a n p w = rw (s, a, n, p, w) refl

ended : {A : Type 0} (b : Bool) (d : ImageErr) (x y : A) → cond b (Ok x) (Err d) ≡ Ok y → (b ≡ true) × (x ≡ y)
ended true d x y e = (refl, ok_is x y e)
ended false d x y e = absurd cc

image_takes : (bytes : List ℕ) (image : Distilled) → IsBytes bytes → image_from bytes ≡ Ok image → IsImage image × (bytes ≡ bytes_of image)
unfolding image_from
image_takes bytes image fits e =
    let h = bind_ok (next_header bytes) _ image e in
    let s = bind_ok (slots_in h.0.0.anchors h.0.0.slots h.0.1) _ image h.2 in
    let a = bind_ok (anchors_in h.0.0.slots h.0.0.anchors s.0.1) _ image s.2 in
    let n = bind_ok (notes_in h.0.0.slots h.0.0.notes a.0.1) _ image a.2 in
    let p = bind_ok (premises_in h.0.0.version h.0.0.assumptions n.0.1) _ image n.2 in
    let w = bind_ok (writes_in h.0.0.writes p.0.1) _ image p.2 in
    let made : Distilled = record { version = h.0.0.version; limit = h.0.0.limit; slots = s.0.0; anchors = a.0.0; notes = n.0.0; assumptions = p.0.0; writes = w.0.0 } in
    let end = ended (length w.0.1 == 0) Long made image w.2 in
    let th = header_takes bytes h.0 fits h.1 in
    let ts = slots_take h.0.0.anchors h.0.0.slots h.0.1 s.0 th.0.rest_fits s.1 in
    let ta = anchors_take h.0.0.slots h.0.0.anchors s.0.1 a.0 ts.0.rest_fits a.1 in
    let tn = notes_take h.0.0.slots h.0.0.notes a.0.1 n.0 ta.0.rest_fits n.1 in
    let tp = premises_take h.0.0.version h.0.0.assumptions n.0.1 p.0 tn.0.rest_fits p.1 in
    let tw = named_take writes_err h.0.0.writes p.0.1 w.0 tp.0.rest_fits w.1 in
    let same : h.0.0 ≡ header_of made = counts h.0.0 _ _ _ _ _ ts.1 ta.1 tn.1 tp.1 tw.1 in
    let tables : List ℕ = table_bytes slot_words s.0.0 ++ (table_bytes anchor_words a.0.0 ++ (table_bytes note_words n.0.0 ++ (table_bytes premise_words p.0.0 ++ words w.0.0))) in
    let all : Takes bytes (words (numbers h.0.0) ++ tables) w.0.1 = Takes-then _ _ _ _ _ th.0 (Takes-then _ _ _ _ _ ts.0 (Takes-then _ _ _ _ _ ta.0 (Takes-then _ _ _ _ _ tn.0 (Takes-then _ _ _ _ _ tp.0 tw.0)))) in
    let nothing : w.0.1 ≡ [] = nil_from_length w.0.1 (eqb-true _ _ end.0) in
    let exact : bytes ≡ words (numbers h.0.0) ++ tables = all.parts ∙ ap (λ (r : List ℕ). (words (numbers h.0.0) ++ tables) ++ r) nothing ∙ append-nil _ in
    let named : bytes ≡ bytes_of made = exact ∙ ap (λ (g : Header). words (numbers g) ++ tables) same in
    let counted : HeaderFits (header_of made) = subst HeaderFits same th.1 in
    let is : IsImage made = record {
      version = counted.version;
      plain = λ first. (nil_from_length w.0.0 (counted.plain first), tp.2.known first);
      limit = counted.limit;
      few_slots = counted.slots;
      few_anchors = counted.anchors;
      few_notes = counted.notes;
      few_assumptions = counted.assumptions;
      few_targets = tp.2.few;
      slots = subst (λ (k : ℕ). All (IsSlot k) s.0.0) (sym ta.1) ts.2;
      anchors = subst (λ (k : ℕ). All (IsAnchor k) a.0.0) (sym ts.1) ta.2;
      anchors_rise = ta.3;
      notes = subst (λ (k : ℕ). All (IsNote k) n.0.0) (sym ts.1) tn.2;
      notes_rise = tn.3;
      assumptions = tp.2.valid;
      assumptions_rise = tp.2.rise;
      few_writes = counted.writes;
      writes = tw.2.0;
      writes_rise = tw.2.1;
    } in
    subst (λ (i : Distilled). IsImage i × (bytes ≡ bytes_of i)) end.1 (is, named)

header_fits : (image : Distilled) → IsImage image → HeaderFits (header_of image)
header_fits image is = record {
  version = is.version;
  plain = λ first. ap length (is.plain first).0;
  limit = is.limit;
  slots = is.few_slots;
  anchors = is.few_anchors;
  notes = is.few_notes;
  assumptions = is.few_assumptions;
  writes = is.few_writes;
}

premises_fit : (image : Distilled) → IsImage image → ArePremises image.version image.assumptions
premises_fit image is = record { valid = is.assumptions; known = λ first. (is.plain first).1; rise = is.assumptions_rise; few = is.few_targets }

image_again : (image : Distilled) → IsImage image → image_from (bytes_of image) ≡ Ok image
unfolding image_from
image_again image is =
    let h : Header = header_of image in
    let bw : List ℕ = words image.writes in
    let bp : List ℕ = table_bytes premise_words image.assumptions ++ bw in
    let bn : List ℕ = table_bytes note_words image.notes ++ bp in
    let ba : List ℕ = table_bytes anchor_words image.anchors ++ bn in
    let bs : List ℕ = table_bytes slot_words image.slots ++ ba in
    let rh : next_header (words (numbers h) ++ bs) ≡ Ok (h, bs) = header_again h bs (header_fits image is) in
    let rs : slots_in h.anchors h.slots bs ≡ Ok (image.slots, ba) = slots_again (length image.anchors) image.slots ba (omega (arith, is.few_anchors)) is.slots in
    let ra : anchors_in h.slots h.anchors ba ≡ Ok (image.anchors, bn) = anchors_again (length image.slots) image.anchors bn (omega (arith, is.few_slots)) is.anchors is.anchors_rise in
    let rn : notes_in h.slots h.notes bn ≡ Ok (image.notes, bp) = notes_again (length image.slots) image.notes bp (omega (arith, is.few_slots)) is.notes is.notes_rise in
    let rp : premises_in h.version h.assumptions bp ≡ Ok (image.assumptions, bw) = premises_again image.version image.assumptions bw (premises_fit image is) in
    let rest : writes_in h.writes bw ≡ Ok (image.writes, []) = ap (writes_in h.writes) (sym (append-nil bw)) ∙ named_again writes_err image.writes [] (is.writes, is.writes_rise) in
    rw (rh, rs, ra, rn, rp, rest) refl

-- ---- what a call says

pub is_found : (bytes : List ℕ) (r : Result Distilled ImageErr) → IsBytes bytes → Gives (λ i. i) r (image_from bytes) → IfOk r (λ image. IsImage image × (bytes ≡ bytes_of image))
is_found bytes (Ok image) fits given = image_takes bytes image fits given
is_found bytes (Err e) fits given = tt

pub is_only : (bytes : List ℕ) (r : Result Distilled ImageErr) → Gives (λ i. i) r (image_from bytes) →
    (image : Distilled) → IsImage image → bytes ≡ bytes_of image → MatchResult r (λ read. read ≡ image) (λ e. e ≡ Memory)
is_only bytes r given image is same = settled r (subst (λ (read : Result Distilled ImageErr). Gives (λ i. i) r read) (ap image_from same ∙ image_again image is) given)
  where
    settled : (r : Result Distilled ImageErr) → Gives (λ i. i) r (Ok image) → MatchResult r (λ read. read ≡ image) (λ e. e ≡ Memory)
    settled (Ok x) h = sym (ok_is image x h)
    settled (Err e) (inl memory) = memory
    settled (Err e) (inr other) = absurd cc

pub is_read : (r read : Result Distilled ImageErr) → Gives (λ i. i) r read → IfOk r (λ image. read ≡ Ok image)
is_read (Ok x) read h = h
is_read (Err e) read h = tt

pub is_refused : (r read : Result Distilled ImageErr) → Gives (λ i. i) r read → IfErr r (λ e. e ≢ Memory → read ≡ Err e)
is_refused (Ok x) read h = tt
is_refused (Err e) read (inl memory) = λ no. absurd (no memory)
is_refused (Err e) read (inr is) = λ _. is
