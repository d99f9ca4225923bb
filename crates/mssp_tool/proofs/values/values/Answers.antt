-- The files that stay, and what is found of the run of the files that were read.
use Rattle.std.proofs.Common.{ℕ, List, subst, sym}
use Rattle.command_line.specs.Command.{shown_walk}
use Rattle.seq_machine.specs.Parts.{start_of}
use Rattle.profile_laws.specs.Profiles.{steps}
use Rattle.load_values.specs.Bytes.{bytes_of}
use Rattle.load_values.specs.Found.{IsListed}
use Rattle.load_values.specs.Values.{AreValues}
use Rattle.mssp_tool.proofs.Reports.{same_stay}
use Rattle.mssp_tool.proofs.Saves.{saved_within, saved_changes}
use Rattle.mssp_tool.proofs.Found.{found_cause, wide_loads_cause}
use Rattle.mssp_tool.proofs.values.values.Goals as goal

pub returns-in-Err-clause-files : goal.returns-in-Err-clause-files
returns-in-Err-clause-files g c =
    same_stay (g.S.Store.told c.args.store.now) (g.S.Store.told c.subject_in.new.store) (shown_walk c.args.walk.now).other c.subject_in.ensures.files

pub save_values-requires : goal.save_values-requires
save_values-requires g c = subst AreValues (sym c.as_slice.ensures.value) c.in-Ok-find.ensures.values

pub returns-in-Ok-find-clause-files : goal.returns-in-Ok-find-clause-files
returns-in-Ok-find-clause-files g c =
    let w = shown_walk c.args.walk.now in
    let first = c.subject_in.ensures in
    let rows = c.as_slice.result.now in
    saved_changes (record { told = g.S.Store.told c.args.store.now; before = g.S.Store.faults c.args.store.now; now = g.S.Store.faults c.save_values.new.store; failed = g.S.Store.failed c.save_values.new.store }) (g.S.Store.told c.save_values.new.store) w.other (bytes_of rows) c.save_values.result
    (saved_within (g.S.Store.told c.args.store.now) (g.S.Store.told c.subject_in.new.store) (g.S.Store.told c.save_values.new.store) (g.S.Store.faults c.args.store.now) (g.S.Store.faults c.subject_in.new.store) (g.S.Store.faults c.save_values.new.store) (g.S.Store.failed c.save_values.new.store) w.other (bytes_of rows) c.save_values.result first.files first.faults c.save_values.ensures)

pub returns-in-Ok-find-clause-cause : goal.returns-in-Ok-find-clause-cause
returns-in-Ok-find-clause-cause g c =
    let w = shown_walk c.args.walk.now in
    let first = c.subject_in.ensures in
    let start = start_of c.in-Ok.subject.program c.in-Ok.subject.input.items in
    let rows = c.as_slice.result.now in
    let listed : IsListed start (steps start w.budget) rows = subst (λ (x : List (ℕ × ℕ)). IsListed start (steps start w.budget) x) (sym c.as_slice.ensures.value) c.in-Ok-find.ensures.listed in
    found_cause w (g.S.Store.told c.args.store.now) c.in-Ok.subject.program c.in-Ok.subject.input.items c.in-Ok.ensures.answer.1
    (g.S.Store.told c.subject_in.new.store) (g.S.Store.told c.save_values.new.store) (g.S.Store.faults c.args.store.now) (g.S.Store.faults c.subject_in.new.store) (g.S.Store.faults c.save_values.new.store) (g.S.Store.failed c.save_values.new.store)
    rows c.save_values.result first.files first.faults listed c.in-Ok-find.ensures.narrow c.save_values.ensures

pub returns-in-Err-Wide-clause-files : goal.returns-in-Err-Wide-clause-files
returns-in-Err-Wide-clause-files g c =
    same_stay (g.S.Store.told c.args.store.now) (g.S.Store.told c.subject_in.new.store) (shown_walk c.args.walk.now).other c.subject_in.ensures.files

pub returns-in-Err-Wide-clause-cause : goal.returns-in-Err-Wide-clause-cause
returns-in-Err-Wide-clause-cause g c =
    let w = shown_walk c.args.walk.now in
    wide_loads_cause w (g.S.Store.told c.args.store.now) c.in-Ok.subject.program c.in-Ok.subject.input.items c.in-Ok.ensures.answer.1
    (g.S.Store.told c.subject_in.new.store) (g.S.Store.faults c.args.store.now) (g.S.Store.faults c.subject_in.new.store) (g.S.Store.failed c.subject_in.new.store) c.subject_in.ensures.files
    (c.in-Err-Wide.ensures.wide c.in-Err-Wide.field-0-is)

pub returns-clause-files : goal.returns-clause-files
returns-clause-files g c =
    same_stay (g.S.Store.told c.args.store.now) (g.S.Store.told c.subject_in.new.store) (shown_walk c.args.walk.now).other c.subject_in.ensures.files
