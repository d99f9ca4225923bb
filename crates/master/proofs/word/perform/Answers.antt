-- The word's contract on a plain view, in the machine's own terms.
use Rattle.master.specs.Word.{placed}
use Rattle.master.proofs.Words.{leaves_ok, keeps_pc, keeps_memory, keeps_registers, was_before}
use Rattle.master.proofs.word.perform.Goals as goal

pub returns-clause-pc : goal.returns-clause-pc
returns-clause-pc g c =
    let s = placed g.M.Memory.at c.args.arch.now.pc c.args.arch.now in
    let t = placed g.M.Memory.at c.exec.new.view.pc c.exec.new.view in
    keeps_pc s t c.args.origin c.args.word c.exec.result c.exec.ensures.ok c.exec.ensures.err

pub returns-clause-leaves : goal.returns-clause-leaves
returns-clause-leaves g c =
    let s = placed g.M.Memory.at c.args.arch.now.pc c.args.arch.now in
    let t = placed g.M.Memory.at c.exec.new.view.pc c.exec.new.view in
    leaves_ok s t c.args.origin c.args.word c.exec.result c.exec.ensures.ok

pub returns-clause-memory : goal.returns-clause-memory
returns-clause-memory g c =
    let s = placed g.M.Memory.at c.args.arch.now.pc c.args.arch.now in
    let t = placed g.M.Memory.at c.exec.new.view.pc c.exec.new.view in
    keeps_memory s t c.args.origin c.args.word c.exec.result c.exec.ensures.ok c.exec.ensures.err

pub returns-clause-err : goal.returns-clause-err
returns-clause-err g c =
    let s = placed g.M.Memory.at c.args.arch.now.pc c.args.arch.now in
    let t = placed g.M.Memory.at c.exec.new.view.pc c.exec.new.view in
    was_before s t c.args.origin c.args.word c.exec.result c.exec.ensures.err

pub returns-clause-registers : goal.returns-clause-registers
returns-clause-registers g c =
    let s = placed g.M.Memory.at c.args.arch.now.pc c.args.arch.now in
    let t = placed g.M.Memory.at c.exec.new.view.pc c.exec.new.view in
    keeps_registers s t c.args.origin c.args.word c.exec.result c.exec.ensures.ok c.exec.ensures.err
