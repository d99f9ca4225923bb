-- The definitions, on lines that are written out by hand.
use Rattle.std.proofs.Common.{◌≡◌, ℕ, List, [], ◌∷◌, map, refl, Some, None}
use Rattle.std.specs.Prelude.{codes}
use Rattle.std.specs.Fmt.{digits}
use Rattle.cells.specs.declared.Cell.TheVariants.{Pc, Reg, Byte}
use Rattle.cells.specs.declared.End.TheVariants.{Exit, Break, Illegal, Misfetch}
use Rattle.speculation.specs.declared.Effect.{Effect}
use Rattle.speculation.specs.declared.Effect.TheVariants.{Moved, Forked, Stalled, Halted, Stepped, Done, Committed, Squashed, Ended, Started, Idle}
use Rattle.speculation.specs.declared.Ending.TheVariants.{Reached, Met, Full}
use Rattle.speculation.specs.declared.Why.TheVariants.{Call, Trap, Lost, Spent}
use Rattle.report.specs.Events.{effect_line, counts_text, outcome_text}

-- every effect, with every halt, ending, cell and end, and its line
abbrev lines : List (Effect × List ℕ)
lines =
    (Moved, codes "moved\n")
    ∷ (Forked 0, codes "forked 0\n")
    ∷ (Forked 18446744073709551615, codes "forked 18446744073709551615\n")
    ∷ (Stalled, codes "stalled\n")
    ∷ (Halted Call, codes "halted call\n")
    ∷ (Halted Trap, codes "halted trap\n")
    ∷ (Halted Lost, codes "halted lost\n")
    ∷ (Halted Spent, codes "halted spent\n")
    ∷ (Stepped, codes "stepped\n")
    ∷ (Done Reached, codes "done reached\n")
    ∷ (Done Met, codes "done met\n")
    ∷ (Done Full, codes "done full\n")
    ∷ (Committed 4 0, codes "committed 4 dropped 0\n")
    ∷ (Committed 0 63, codes "committed 0 dropped 63\n")
    ∷ (Squashed (record { cell = Pc; predicted = 65548; found = 65540 }), codes "squashed pc predicted 0001000c found 00010004\n")
    ∷ (Squashed (record { cell = Reg 1; predicted = 4294967295; found = 0 }), codes "squashed x1 predicted ffffffff found 00000000\n")
    ∷ (Squashed (record { cell = Reg 31; predicted = 10; found = 9 }), codes "squashed x31 predicted 0000000a found 00000009\n")
    ∷ (Squashed (record { cell = Byte 131072; predicted = 0; found = 1 }), codes "squashed byte 00020000 predicted 00000000 found 00000001\n")
    ∷ (Ended (Exit 4294967295), codes "ended exit 4294967295\n")
    ∷ (Ended (Exit 7), codes "ended exit 7\n")
    ∷ (Ended Break, codes "ended break\n")
    ∷ (Ended (Illegal 18), codes "ended illegal 00000012\n")
    ∷ (Ended (Misfetch 65538), codes "ended misfetch 00010002\n")
    ∷ (Started 65540, codes "started 00010004\n")
    ∷ (Idle, codes "idle\n")
    ∷ []

pub effects_have_lines : map (λ (x : Effect × List ℕ). effect_line x.0) lines ≡ map (λ (x : Effect × List ℕ). x.1) lines
unfolding digits
effects_have_lines = refl

pub counts_have_lines : counts_text 5 (record { events = 99; tasks = 1; by_tasks = 4; serial = 1; squashed = 10; dropped = 2 })
    ≡ codes "position 5\ntasks 1\nby-tasks 4\nserial 1\nsquashed 10\ndropped 2\n"
unfolding digits
counts_have_lines = refl

pub no_end : outcome_text None 0 ≡ codes "end none\noutput 0\n"
unfolding digits
no_end = refl

pub an_end : outcome_text (Some (Exit 7)) 24 ≡ codes "end exit 7\noutput 24\n"
unfolding digits
an_end = refl
