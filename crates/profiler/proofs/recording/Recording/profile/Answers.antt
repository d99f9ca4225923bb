-- The rows are those of the profile.
use Rattle.std.proofs.Common.{◌∙◌, ◌<◌, ◌^◌, sym, ap, subst, Bool, rules}
use Rattle.profile_data.specs.Profile.{Profiled, IsProfile}
use Rattle.profile_data.specs.Keyed.{profiled}
use Rattle.profile_laws.specs.Profiles.{with_mark, IsProfileOf}
use Rattle.profiler.specs.Counted.{began}
use Rattle.profiler.proofs.Made.{made_is_valid, made_is_profile}
use Rattle.profiler.proofs.recording.Recording.profile.Goals as goal

pub new-requires-clause-valid : goal.new-requires-clause-valid
new-requires-clause-valid g c =
    let r = c.args.self.now in
    let at = g.M.Memory.at in
    let small : r.machine.position < 2 ^ 64 = search rules in
    let valid = made_is_valid at (with_mark r.calls) (began at r) r.machine.position r.machine r.tally c.requires c.in_ok-rows.rows c.in_ok-rows.ensures.rows small in
    subst (λ (b : Bool). IsProfile (profiled r.machine.position b c.in_ok-rows.rows)) (sym c.is_some.ensures) valid

pub returns-clause-profile : goal.returns-clause-profile
returns-clause-profile g c =
    let r = c.args.self.now in
    let at = g.M.Memory.at in
    let is = made_is_profile at (with_mark r.calls) (began at r) r.machine.position r.machine r.tally c.requires c.in_ok-rows.rows c.in_ok-rows.ensures.rows in
    subst (λ (f : Profiled). IsProfileOf (with_mark r.calls) (began at r) r.machine.position f) (sym (c.new.ensures ∙ ap (λ (b : Bool). profiled r.machine.position b c.in_ok-rows.rows) c.is_some.ensures)) is
