-- The loads of one value of the run of the files that were read, and the values that a distiller may be given.
use Rattle.std.proofs.Common.{◌≡◌, ℕ, ◌≤◌, inl, inr, [], List, Option, Some, None, refl, sym, subst, arith}
use Rattle.std.proofs.lemmas.List.Elements.{All-nil, All-weaker}
use Rattle.outside.specs.Files.{Files}
use Rattle.cells.specs.Run.{State}
use Rattle.command_line.specs.Command.{WalkCommand}
use Rattle.elf_reader.specs.Executable.{Executable}
use Rattle.seq_machine.specs.Parts.{start_of}
use Rattle.profile_laws.specs.Profiles.{steps}
use Rattle.load_values.specs.Bytes.{bytes_of}
use Rattle.load_values.specs.Found.{IsListed, IsWide}
use Rattle.load_values.specs.Values.{AreValues, IsRow}
use Rattle.distiller.specs.Given.{AreGiven, IsSetting}
use Rattle.answers.specs.declared.answer.Refusal.TheVariants.{WideLoads}
use Rattle.answers.specs.declared.answer.Answer.{Answer}
use Rattle.answers.specs.declared.answer.Answer.TheVariants.{Refused}
use Rattle.mssp_tool.specs.Files.{AreNamedValues, Saved}
use Rattle.mssp_tool.specs.Profile.{HasRun}
use Rattle.mssp_tool.specs.Values.{ValuesCause}
use Rattle.mssp_tool.proofs.Saves.{saved_within}

module _ (w : WalkCommand) (told : Option Files) (program : Executable) (i : List ℕ) (has : HasRun told w program i) where
  abbrev begin : State
  begin = start_of program i

  pub found_cause : (told' left : Option Files) (before mid now : ℕ) (last : Option (List ℕ)) (rows : List (ℕ × ℕ)) (a : Answer) → told' ≡ told → before ≤ mid → IsListed begin (steps begin w.budget) rows
      → (IsWide begin (steps begin w.budget) → ⊥)
      → Saved (record { told = told'; before = mid; now = now; failed = last }) left w.other (bytes_of rows) a → ValuesCause (record { told = told; before = before; now = now; failed = last }) left w a
  found_cause told' left before mid now last rows a same l h narrow s =
      inr (
        has.0.0,
        i,
        has.0.1,
        has.1,
        inr (
          rows,
          subst (λ (x : Executable). IsWide (start_of x i) (steps (start_of x i) w.budget) → ⊥) has.0.2 narrow,
          subst (λ (x : Executable). IsListed (start_of x i) (steps (start_of x i) w.budget) rows) has.0.2 h,
          saved_within told told' left before mid now last w.other (bytes_of rows) a same l s,
        ),
      )

  pub wide_loads_cause : (left : Option Files) (before now : ℕ) (last : Option (List ℕ)) → left ≡ told → IsWide begin (steps begin w.budget)
      → ValuesCause (record { told = told; before = before; now = now; failed = last }) left w (Refused WideLoads)
  wide_loads_cause left before now last same h =
      inr (has.0.0, i, has.0.1, has.1, inl (subst (λ (x : Executable). IsWide (start_of x i) (steps (start_of x i) w.budget)) has.0.2 h, refl, same))

-- what is read of a file may be given
is_setting : (e : ℕ × ℕ) → IsRow e → IsSetting e
is_setting e h = (h.word, h.small)

values_given : (rows : List (ℕ × ℕ)) → AreValues rows → AreGiven rows
values_given rows h = record { rises = h.rise; words = All-weaker IsRow IsSetting is_setting rows h.rows }

none_given : AreGiven []
none_given = record { rises = (λ k l. absurd (omega (arith, l))); words = All-nil IsSetting }

pub named_given : (told : Option Files) (named : Option (List ℕ)) (rows : List (ℕ × ℕ)) → AreNamedValues told named rows → AreGiven rows
named_given told None rows e = subst AreGiven (sym e) none_given
named_given told (Some name) rows (bytes, h) = values_given rows h.are_values
