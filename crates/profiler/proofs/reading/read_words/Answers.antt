-- What is read in one word, and what is left.
use Rattle.std.proofs.Common.{◌≡◌, ◌∙◌, ◌+◌, ◌%◌, ◌^◌, refl, arith}
use Rattle.std.proofs.lemmas.List.Elements.{All-replicate}
use Rattle.indexmap.specs.IndexMap.{values}
use Rattle.profile_laws.specs.Tally.{marked}
use Rattle.access_trace.specs.Shadows.{mark_at}
use Rattle.profiler.proofs.ReadBack.{read_first, nothing}
use Rattle.profiler.proofs.reading.read_words.Goals as goal

pub loop-left-init : goal.loop-left-init
loop-left-init g c =
    let rows = values c.args.table.now.rows in
    record { to_do = refl; keyed = c.requires; noted = All-replicate (λ mark. marked mark rows ≡ rows) 64 0 refl }

pub loop-left-preserved : goal.loop-left-preserved
loop-left-preserved g c =
    let w = mark_at g.M.Memory.at c.args.writers.now in
    let left = c.loop-left.left in
    let here = c.min-here.result in
    let least = c.min-here.ensures in
    record {
      to_do =
          read_first w here left.count left.from ((left.from + here) % 2 ^ 32) (values c.loop-left.table.rows) (values c.read_word.new.table.rows) (omega (arith, least)) refl c.read_word.ensures.rows
          ∙ c.loop-left.invariant.to_do;
      keyed = c.read_word.ensures.keyed;
      noted = c.read_word.ensures.noted;
    }

pub returns-clause-rows : goal.returns-clause-rows
returns-clause-rows g c =
    let left = c.loop-left.left in
    let none = c.loop-left-test.false in
    nothing (mark_at g.M.Memory.at c.args.writers.now) left.count left.from (values c.loop-left.table.rows) (omega (arith, none)) ∙ c.loop-left.invariant.to_do
