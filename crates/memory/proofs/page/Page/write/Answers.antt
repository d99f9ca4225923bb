use Rattle.std.proofs.Common.{rules, ap, ◌∙◌, length}
use Rattle.memory.specs.declared.page.Page.{Page}
use Rattle.memory.proofs.Pages.{reads, bytes_here, here_after, others_after, numbers_after}
use Rattle.memory.proofs.page.Page.write.Goals as goal

pub returns-clause-here : goal.returns-clause-here
returns-clause-here c =
    let both = reads c.args.pages.now.items c.args.place c.index_mut.result.now c.index.result.now (search rules) c.index_mut.ensures.value c.index.ensures in
    here_after c.args.pages.now.items c.args.place c.args.number c.args.from c.index_mut.result.now c.overwrite.new.self c.args.bytes.now
    both.0
    (ap (λ (page : Page). page.number) both.1 ∙ c.if-index-number.false)
    c.overwrite.ensures.number
    c.overwrite.ensures.bytes

pub returns-clause-others : goal.returns-clause-others
returns-clause-others c =
    let both = reads c.args.pages.now.items c.args.place c.index_mut.result.now c.index.result.now (search rules) c.index_mut.ensures.value c.index.ensures in
    others_after c.args.pages.now.items c.args.place c.args.number c.index_mut.result.now c.overwrite.new.self
    both.0
    (ap (λ (page : Page). page.number) both.1 ∙ c.if-index-number.false)
    c.overwrite.ensures.number

pub returns-clause-whole : goal.returns-clause-whole
returns-clause-whole c =
    let both = reads c.args.pages.now.items c.args.place c.index_mut.result.now c.index.result.now (search rules) c.index_mut.ensures.value c.index.ensures in
    ap length (bytes_here c.args.pages.now.items c.args.place c.args.number c.index_mut.result.now both.0 (ap (λ (page : Page). page.number) both.1 ∙ c.if-index-number.false))
    ∙ c.overwrite.ensures.whole

pub returns-clause-numbers : goal.returns-clause-numbers
returns-clause-numbers c =
    let both = reads c.args.pages.now.items c.args.place c.index_mut.result.now c.index.result.now (search rules) c.index_mut.ensures.value c.index.ensures in
    numbers_after c.args.pages.now.items c.args.place c.index_mut.result.now c.overwrite.new.self both.0 c.overwrite.ensures.number
