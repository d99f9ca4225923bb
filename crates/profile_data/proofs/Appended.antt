-- Texts that are put one after another.
use Rattle.std.proofs.Common.{◌≡◌, Bool, true, false, refl, ℕ, ◌+◌, ◌*◌, ◌<◌, List, [], ◌∷◌, ◌++◌, length, get_or, take, sym, ap, ◌∙◌, append_assoc}
use Rattle.std.specs.List.{flat_map}
use Rattle.std.specs.Int.{from_bool}
use Rattle.std.proofs.lemmas.List.{flat_map_more, take_more}
use Rattle.profile_data.specs.Profile.{Tally, Profiled}
use Rattle.word_format.specs.Bytes.{words}
use Rattle.profile_data.specs.Bytes.{four, eight, mark, header_bytes, head_bytes, row_bytes}

pub from_bool_is : (b : Bool) → from_bool b ≡ mark b
from_bool_is true = refl
from_bool_is false = refl

module _ (old one two three more all : List ℕ) where
  five : (a b c d e : List ℕ) → one ≡ old ++ a → two ≡ one ++ b → three ≡ two ++ c → more ≡ three ++ d → all ≡ more ++ e → all ≡ old ++ (a ++ (b ++ (c ++ (d ++ e))))
  five a b c d e p q r s t =
      t ∙ ap (λ (x : List ℕ). x ++ e) (s ∙ ap (λ (x : List ℕ). x ++ d) (r ∙ ap (λ (x : List ℕ). x ++ c) (q ∙ ap (λ (x : List ℕ). x ++ b) p))) ∙ simp append_assoc

  pub header_put : (p : Profiled) (steps ended rows : ℕ) → steps ≡ p.steps → ended ≡ mark p.ended → rows ≡ length p.rows →
      one ≡ old ++ four 0x4650_534D → two ≡ one ++ four 1 → three ≡ two ++ eight steps → more ≡ three ++ four ended → all ≡ more ++ four rows → all ≡ old ++ header_bytes p
  header_put p steps ended rows s e r h1 h2 h3 h4 h5 =
      five (four 0x4650_534D) (four 1) (eight steps) (four ended) (four rows) h1 h2 h3 h4 h5
      ∙ ap (λ (n : ℕ × ℕ × ℕ). old ++ (four 0x4650_534D ++ (four 1 ++ (eight n.0 ++ (four n.1 ++ four n.2))))) {x = (steps, ended, rows)} {y = (p.steps, mark p.ended, length p.rows)} (cc (s, e, r))

  pub head_put : (t row : Tally) (read changed targets : ℕ) → t ≡ row → read ≡ mark t.read → changed ≡ mark t.changed → targets ≡ length t.targets →
      one ≡ old ++ four t.pc → two ≡ one ++ four (read + 2 * changed) → three ≡ two ++ eight t.executed → more ≡ three ++ eight t.taken → all ≡ more ++ four targets → all ≡ old ++ head_bytes row
  head_put t row read changed targets same r c n h1 h2 h3 h4 h5 =
      five (four t.pc) (four (read + 2 * changed)) (eight t.executed) (eight t.taken) (four targets) h1 h2 h3 h4 h5
      ∙ ap (λ (n : ℕ × ℕ × ℕ). old ++ (four t.pc ++ (four (n.0 + 2 * n.1) ++ (eight t.executed ++ (eight t.taken ++ four n.2))))) {x = (read, changed, targets)} {y = (mark t.read, mark t.changed, length t.targets)} (cc (r, c, n))
      ∙ ap (λ (t : Tally). old ++ head_bytes t) same

pub row_put : (old head all : List ℕ) (t row : Tally) (to : List ℕ) → t ≡ row → to ≡ t.targets → head ≡ old ++ head_bytes row → all ≡ head ++ words to → all ≡ old ++ row_bytes row
row_put old head all t row to same is h1 h2 =
    h2 ∙ ap (λ (x : List ℕ). x ++ words to) h1 ∙ ap (λ (ts : List ℕ). (old ++ head_bytes row) ++ words ts) (is ∙ ap (λ (t : Tally). t.targets) same) ∙ append_assoc old (head_bytes row) (words row.targets)

-- one row more
pub rows_put : (old so_far all : List ℕ) (rows : List Tally) (i : ℕ) (row : Tally) → i < length rows → row ≡ get_or rows i row → so_far ≡ old ++ flat_map row_bytes (take i rows) → all ≡ so_far ++ row_bytes row →
    all ≡ old ++ flat_map row_bytes (take (i + 1) rows)
rows_put old so_far all rows i row lt is h1 h2 =
    let more : take i rows ++ row ∷ [] ≡ take (i + 1) rows = ap (λ (x : Tally). take i rows ++ x ∷ []) is ∙ sym (take_more rows i row lt) in
    h2 ∙ ap (λ (x : List ℕ). x ++ row_bytes row) h1 ∙ flat_map_more row_bytes old (take i rows) row ∙ ap (λ (ts : List Tally). old ++ flat_map row_bytes ts) more
