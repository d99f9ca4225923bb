-- What is read back changes no number of rows or targets; then the position is counted, and its bytes are marked. What fails is owed.
use Rattle.std.proofs.Common.{◌≡◌, ap, sym, ◌∙◌, refl, subst, ℕ, List, cond}
use Rattle.fitting.specs.Claims.{among}
use Rattle.indexmap.specs.IndexMap.{values}
use Rattle.profile_data.specs.Profile.{Tally}
use Rattle.profile_laws.specs.Profiles.{IsWide}
use Rattle.profile_laws.specs.Tally.{Visit, Kept, places, bytes_in, read_back, visited, after_visit}
use Rattle.access_trace.specs.Spans.{span_of}
use Rattle.access_trace.specs.Shadows.{mark_at}
use Rattle.profiler.specs.declared.owed.Owed.{Owed}
use Rattle.profiler.specs.declared.owed.Owed.TheVariants.{Nothing}
use Rattle.profiler.specs.declared.tally.Tally.{Tally as CodeTally}
use Rattle.profiler.specs.Rows.{EachHasRoom}
use Rattle.profiler.specs.Visits.{visit_of}
use Rattle.profiler.specs.Tally.{kept_of, base_of, entered}
use Rattle.profiler.proofs.ReadBack.{twice_stays, narrow_stays, kept_is}
use Rattle.profiler.proofs.Owing.{either, outside, entry_again}
use Rattle.profiler.proofs.tally.Tally.add.Goals as goal

pub count-requires-clause-count : goal.count-requires-clause-count
count-requires-clause-count g c =
    c.requires.tally.count
    ∙ sym (twice_stays (mark_at g.M.Memory.at c.args.self.now.writers) (places 4 c.args.visit.now.pc) (bytes_in (span_of c.args.visit.now.loads)) (values c.args.self.now.table.rows) _ (values c.note_reads.new.table.rows)
    refl c.note_reads.ensures.rows).targets

pub count-requires-clause-few : goal.count-requires-clause-few
count-requires-clause-few g c =
    narrow_stays (values c.args.self.now.table.rows) (values c.note_reads.new.table.rows)
    (twice_stays (mark_at g.M.Memory.at c.args.self.now.writers) (places 4 c.args.visit.now.pc) (bytes_in (span_of c.args.visit.now.loads)) (values c.args.self.now.table.rows) _ (values c.note_reads.new.table.rows)
    refl c.note_reads.ensures.rows)
    (subst (λ (o : Owed). IsWide (entered o (base_of g.M.Memory.at c.args.self.now)).rows → ⊥) c.requires.none c.requires.tally.few)

pub count-requires-clause-room : goal.count-requires-clause-room
count-requires-clause-room g c =
    (twice_stays (mark_at g.M.Memory.at c.args.self.now.writers) (places 4 c.args.visit.now.pc) (bytes_in (span_of c.args.visit.now.loads)) (values c.args.self.now.table.rows) _ (values c.note_reads.new.table.rows)
    refl c.note_reads.ensures.rows).room c.requires.room

module _ {M : Type 0} (at : M → ℕ → ℕ) (old : CodeTally M) (v : Visit) (none : old.owed ≡ Nothing) where
  base : kept_of at old ≡ base_of at old
  base = ap (λ (o : Owed). entered o (base_of at old)) none

  -- the position is still to be entered
  failed : (rows : List Tally) (w : ℕ → ℕ) → rows ≡ read_back (mark_at at old.writers) (bytes_in v.loads) (read_back (mark_at at old.writers) (places 4 v.pc) (values old.table.rows)) → w ≡ mark_at at old.writers
      → let k : Kept = record { rows = rows; writers = w } in after_visit v k ≡ after_visit v (kept_of at old)
  failed rows w is same = entry_again v (values old.table.rows) rows (mark_at at old.writers) w is same ∙ ap (after_visit v) (sym base)

  counted_is : (rows : List Tally) (w : ℕ → ℕ) → rows ≡ visited v (read_back (mark_at at old.writers) (bytes_in v.loads) (read_back (mark_at at old.writers) (places 4 v.pc) (values old.table.rows)))
      → ((a : ℕ) → w a ≡ cond (among (bytes_in v.puts) a) v.claim (mark_at at old.writers a))
      → let k : Kept = record { rows = rows; writers = w } in k ≡ after_visit v (kept_of at old)
  counted_is rows w is same = kept_is _ _ _ _ is same ∙ ap (after_visit v) (sym base)

pub returns-in_default-clause-kept : goal.returns-in_default-clause-kept
returns-in_default-clause-kept g c =
    failed g.M.Memory.at c.args.self.now (visit_of c.args.visit.now) c.requires.none (values c.count.new.self.table.rows) (mark_at g.M.Memory.at c.count.new.self.writers)
    (c.in_default.ensures.err ∙ c.note_reads.ensures.rows) c.count.ensures.writers

pub returns-in_default-clause-tally : goal.returns-in_default-clause-tally
returns-in_default-clause-tally g c =
    let v = visit_of c.args.visit.now in
    let same = twice_stays (mark_at g.M.Memory.at c.args.self.now.writers) (places 4 c.args.visit.now.pc) (bytes_in (span_of c.args.visit.now.loads)) (values c.args.self.now.table.rows) _ (values c.note_reads.new.table.rows)
    refl c.note_reads.ensures.rows in
    let kept = failed g.M.Memory.at c.args.self.now v c.requires.none (values c.count.new.self.table.rows) (mark_at g.M.Memory.at c.count.new.self.writers)
    (c.in_default.ensures.err ∙ c.note_reads.ensures.rows) c.count.ensures.writers in
    record {
      keyed = c.count.ensures.keyed;
      count = c.count.ensures.count;
      few = λ h. c.requires.narrow (subst (λ (x : Kept). IsWide x.rows) kept h);
      ready = record {
        room = subst EachHasRoom (sym c.in_default.ensures.err) (same.room c.requires.room);
        claim = c.requires.claim;
        few = λ h. narrow_stays (values c.args.self.now.table.rows) (values c.note_reads.new.table.rows) same
            (subst (λ (o : Owed). IsWide (entered o (base_of g.M.Memory.at c.args.self.now)).rows → ⊥) c.requires.none c.requires.tally.few)
            (subst IsWide c.in_default.ensures.err h);
      };
    }

pub returns-in_default-put-clause-kept : goal.returns-in_default-put-clause-kept
returns-in_default-put-clause-kept g c =
    let v = visit_of c.args.visit.now in
    let w = mark_at g.M.Memory.at c.args.self.now.writers in
    counted_is g.M.Memory.at c.args.self.now v c.requires.none _ _
    (c.in-Ok.ensures.rows ∙ ap (visited v) c.note_reads.ensures.rows)
    (λ a. outside (among (bytes_in v.puts) a) (w a) (mark_at g.M.Memory.at c.put.new.self a) v.claim (λ e. c.put.ensures.others a e ∙ ap (λ (f : ℕ → ℕ). f a) c.count.ensures.writers))

pub returns-clause-kept : goal.returns-clause-kept
returns-clause-kept g c =
    let v = visit_of c.args.visit.now in
    let w = mark_at g.M.Memory.at c.args.self.now.writers in
    ap (λ (o : Owed). entered o (record { rows = values c.count.new.self.table.rows; writers = mark_at g.M.Memory.at c.put.new.self })) (c.count.ensures.owed ∙ c.requires.none)
    ∙ counted_is g.M.Memory.at c.args.self.now v c.requires.none _ _
    (c.in-Ok.ensures.rows ∙ ap (visited v) c.note_reads.ensures.rows)
    (λ a. either (among (bytes_in v.puts) a) (w a) (mark_at g.M.Memory.at c.put.new.self a) v.claim (c.in-Ok-put.ensures.marked a) (λ e. c.put.ensures.others a e ∙ ap (λ (f : ℕ → ℕ). f a) c.count.ensures.writers))
