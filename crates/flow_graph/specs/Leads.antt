-- Where an instruction leads, by its row in a profile.
use Rattle.std.specs.Prelude.{ℕ, Bool, List, [], Option, unwrap_or}
use Rattle.rv_word.specs.declared.inst.Inst.{Inst}
use Rattle.profile_data.specs.Profile.{Tally}
use Rattle.fitting.specs.Claims.{leads_by}
use Rattle.distill_rules.specs.Flow.{targets_by}

-- by the side of it that is cut too, and whether a task may print there; a jump by a register leads where its row has it go
abbrev pub leads_from : Option Bool → Option Tally → Bool → ℕ → Inst → List ℕ
leads_from cut row prints pc i = leads_by cut (unwrap_or (targets_by i row) []) prints pc i
