-- The files that stay, and what the run of the files that were read comes to.
use Rattle.command_line.specs.Command.{shown_walk}
use Rattle.profile_data.specs.Bytes.{bytes_of}
use Rattle.mssp_tool.proofs.Reports.{same_stay}
use Rattle.mssp_tool.proofs.Saves.{saved_within, saved_changes}
use Rattle.mssp_tool.proofs.Profiles.{written_cause, wide_cause}
use Rattle.mssp_tool.proofs.profile.profile.Goals as goal

pub returns-in-Err-clause-files : goal.returns-in-Err-clause-files
returns-in-Err-clause-files g c =
    same_stay (g.S.Store.told c.args.store.now) (g.S.Store.told c.subject_in.new.store) (shown_walk c.args.walk.now).other c.subject_in.ensures.files

pub returns-in-Ok-profile-clause-files : goal.returns-in-Ok-profile-clause-files
returns-in-Ok-profile-clause-files g c =
    let w = shown_walk c.args.walk.now in
    let first = c.subject_in.ensures in
    let f = c.in-Ok-profile.f in
    saved_changes (record { told = g.S.Store.told c.args.store.now; before = g.S.Store.faults c.args.store.now; now = g.S.Store.faults c.save_profile.new.store; failed = g.S.Store.failed c.save_profile.new.store }) (g.S.Store.told c.save_profile.new.store) w.other (bytes_of f) c.save_profile.result
    (saved_within (g.S.Store.told c.args.store.now) (g.S.Store.told c.subject_in.new.store) (g.S.Store.told c.save_profile.new.store) (g.S.Store.faults c.args.store.now) (g.S.Store.faults c.subject_in.new.store) (g.S.Store.faults c.save_profile.new.store) (g.S.Store.failed c.save_profile.new.store) w.other (bytes_of f) c.save_profile.result first.files first.faults c.save_profile.ensures)

pub returns-in-Ok-profile-clause-cause : goal.returns-in-Ok-profile-clause-cause
returns-in-Ok-profile-clause-cause g c =
    let w = shown_walk c.args.walk.now in
    let first = c.subject_in.ensures in
    let f = c.in-Ok-profile.f in
    written_cause w c.args.calls (g.S.Store.told c.args.store.now) c.in-Ok.subject.program c.in-Ok.subject.input.items c.in-Ok.ensures.answer.1
    (g.S.Store.told c.subject_in.new.store) (g.S.Store.told c.save_profile.new.store) (g.S.Store.faults c.args.store.now) (g.S.Store.faults c.subject_in.new.store) (g.S.Store.faults c.save_profile.new.store) (g.S.Store.failed c.save_profile.new.store)
    f c.save_profile.result first.files first.faults c.in-Ok-profile.ensures.profile c.in-Ok-profile.ensures.narrow c.save_profile.ensures

pub returns-in-Err-Wide-clause-files : goal.returns-in-Err-Wide-clause-files
returns-in-Err-Wide-clause-files g c =
    same_stay (g.S.Store.told c.args.store.now) (g.S.Store.told c.subject_in.new.store) (shown_walk c.args.walk.now).other c.subject_in.ensures.files

pub returns-in-Err-Wide-clause-cause : goal.returns-in-Err-Wide-clause-cause
returns-in-Err-Wide-clause-cause g c =
    let w = shown_walk c.args.walk.now in
    wide_cause w c.args.calls (g.S.Store.told c.args.store.now) c.in-Ok.subject.program c.in-Ok.subject.input.items c.in-Ok.ensures.answer.1
    (g.S.Store.told c.subject_in.new.store) (g.S.Store.faults c.args.store.now) (g.S.Store.faults c.subject_in.new.store) (g.S.Store.failed c.subject_in.new.store) c.subject_in.ensures.files
    (c.in-Err-Wide.ensures.wide c.in-Err-Wide.field-0-is)

pub returns-clause-files : goal.returns-clause-files
returns-clause-files g c =
    same_stay (g.S.Store.told c.args.store.now) (g.S.Store.told c.subject_in.new.store) (shown_walk c.args.walk.now).other c.subject_in.ensures.files
