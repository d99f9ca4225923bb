-- Types in which an equation has one proof at most.
use Rattle.std.proofs.Props.{props}
use Rattle.std.specs.Prelude.{ℕ, List, Option}
use Rattle.cells.specs.declared.Cell.{Cell}
use Rattle.cells.specs.Cells.{Arch}
use Rattle.cells.specs.Run.{State}
use Rattle.speculation.specs.Task.{Task}

pub Arch-set : IsSet Arch
Arch-set = hlevel props

pub Task-set : IsSet Task
Task-set = hlevel props

pub State-set : IsSet State
State-set = hlevel props

pub Bytes-set : IsSet (List ℕ)
Bytes-set = hlevel props

pub Record-set : IsSet (Cell → Option ℕ)
Record-set = hlevel props
