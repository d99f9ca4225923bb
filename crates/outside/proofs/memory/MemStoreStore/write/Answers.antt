use Rattle.std.proofs.Common.{◌^◌, ◌<◌, ap, subst, ◌∙◌}
use Rattle.outside.specs.Schedule.{is_next_listed}
use Rattle.outside.specs.Seen.{SeenStore}
use Rattle.outside.proofs.Counted.{faults_listed, write_failed}
use Rattle.outside.proofs.memory.MemStoreStore.write.Goals as goal

pub returns-then-is_next_listed-clause-answer : goal.returns-then-is_next_listed-clause-answer
returns-then-is_next_listed-clause-answer c =
    let store : SeenStore = c.args.self.now in
    let listed = c.if-is_next_listed.ensures ∙ ap (λ (s : SeenStore). is_next_listed s.schedule) c.self.view_is in
    let counted = ap (λ s. s.faults) c.fail.ensures.counted ∙ faults_listed store.schedule listed in
    let within = subst (λ (s : SeenStore). s.schedule.faults < 2 ^ 64) c.self.view_is c.self.invariant in
    write_failed store.files _ c.args.name.now c.args.bytes.now store.schedule.faults _ store.failed _ within c.fail.ensures.files counted c.fail.ensures.named
