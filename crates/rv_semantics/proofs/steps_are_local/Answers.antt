-- Locality of the machine, and of each word.
use Rattle.rv_word.specs.Meaning.{meaning}
use Rattle.rv_semantics.specs.Prints.{nowhere}
use Rattle.rv_semantics.specs.Machine.{exec, flow_of}
use Rattle.rv_semantics.proofs.Local.{doing_flow, fetching_same}
use Rattle.rv_semantics.proofs.Tasks.{exec_local, machine_local}
use Rattle.rv_semantics.proofs.steps_are_local.Goals as goal

pub returns-clause-fetched : goal.returns-clause-fetched
returns-clause-fetched c = machine_local

pub returns-clause-given : goal.returns-clause-given
returns-clause-given c = exec_local

pub returns-clause-fetched_flow : goal.returns-clause-fetched_flow
returns-clause-fetched_flow c one other same =
    fetching_same exec (exec_local nowhere) flow_of (λ w. doing_flow nowhere (meaning w)) one.arch other.arch same

pub returns-clause-given_flow : goal.returns-clause-given_flow
returns-clause-given_flow c word = doing_flow nowhere (meaning word)
