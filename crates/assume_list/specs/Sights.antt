-- What is seen of a position, and the marks after its step.
use Rattle.std.specs.Prelude.{◌≡◌, ℕ, ◌+◌, Bool, true, false, not, ◌&&◌, ◌||◌, nat_eq, List, Some, slice_get, if◌then◌else◌}
use Rattle.rv_semantics.specs.Effect.{is_store}
use Rattle.rv_word.specs.declared.inst.Inst.{Inst}
use Rattle.rv_word.specs.Meaning.{meaning}
use Rattle.cells.specs.Cells.{Arch, value}
use Rattle.cells.specs.Bytes.{number}
use Rattle.cells.specs.Run.{State}
use Rattle.memory.specs.declared.Memory.{Ghosts}
use Rattle.rv_semantics.specs.Prints.{is_call, is_task_call}
use Rattle.rv_semantics.specs.Machine.{word_at}
use Rattle.rv_semantics.specs.Calls.{step}
use Rattle.seq_machine.specs.declared.machine.Machine.{Machine}
use Rattle.seq_machine.specs.States.{arch_at}
use Rattle.dist_image.specs.Image.{Premise, Code, Within, Cut, Targets, Same, Distilled, prints_at, key_of}
use Rattle.image_semantics.specs.World.{task_machine}
use Rattle.fitting.specs.Claims.{among}
use Rattle.profile_laws.specs.Tally.{Span, bytes_in, loaded, stored}
use Rattle.assumption_laws.specs.Looks.{Look, look, fails_by}
use Rattle.assume_list.specs.declared.sight.Sight.{Sight}
use Rattle.assume_list.specs.declared.sight.Listed.{Listed}
use Rattle.assume_list.specs.Marks.{counted}

-- what the test of assumptions sees of a position, in the definition's words
abbrev pub seen : Sight → List ℕ → Look
seen v marks = record {
  pc = v.pc;
  stops = v.stops;
  side = v.side;
  jumps = v.jumps;
  changed = v.changed;
  analysed = v.analysed;
  next = v.next;
  stays = v.stays;
  load = v.load;
  marks = marks;
}

-- whether an assumption is Code
abbrev pub is_code : Premise → Bool
is_code Code = true
is_code _ = false

-- whether an assumption is Within
abbrev pub is_within : Premise → Bool
is_within Within = true
is_within _ = false

-- whether an assumption is Same
abbrev pub is_same : Premise → Bool
is_same (Same at value) = true
is_same _ = false

-- a call that no task does, where one may print at the pcs that pass
abbrev pub is_stopping_call : (ℕ → Bool) → Inst → Arch → Bool
is_stopping_call prints i s = is_call i && not (is_task_call prints i s.pc (value s))

-- of a state, where `word` is the program's word at its pc, and each byte has a mark
abbrev pub look_in : Distilled → ℕ → State → (ℕ → ℕ) → Look
look_in image word s marks = look image word s.arch (step s).arch.pc marks

-- the marks after the step of a state, where the stores are known that are claimed dead
abbrev pub marks_after : (ℕ → ℕ) → State → (ℕ → ℕ) → ℕ → ℕ
marks_after dead s marks a =
    let i = meaning (word_at s.arch) in
    if among (bytes_in (stored i s)) a then (if is_store i then counted dead (s.arch.pc + 1) else 0) else marks a

-- ---- the position of a machine

module _ {M : Type 0} {d : Ghosts M} (at : M → ℕ → ℕ) where
  -- the instruction at its pc
  abbrev pub inst_of : Machine M d → Inst
  inst_of m = meaning (word_at (arch_at at m.arch))

  -- whether that is a call that no task of an image does
  abbrev pub is_at_call : Distilled → Machine M d → Bool
  is_at_call image m = is_stopping_call (prints_at image) (inst_of m) (arch_at at m.arch)

  -- whether its step stops every task
  abbrev pub is_at_stop : Distilled → Machine M d → Bool
  is_at_stop image m = (task_machine image).stops (arch_at at m.arch)

  -- whether its word isn't that of a program's memory
  abbrev pub is_changed : M → Machine M d → Bool
  is_changed program m = not (nat_eq (word_at (arch_at at m.arch)) (number 4 m.arch.pc (at program)))

  -- the bytes that it loads, or shows where a task of an image may print
  abbrev pub loaded_at : Distilled → Machine M d → Span
  loaded_at image m = loaded (prints_at image) (inst_of m) (arch_at at m.arch)

-- ---- what fails at a position that looks so

-- whether the listed assumption with a key fails, where there is one
abbrev pub Tells : Distilled → Look → ℕ → Bool → Type 0
Tells image v key fails = (k : ℕ) (x : Premise) → slice_get image.assumptions k ≡ Some x → key_of x ≡ key → fails ≡ fails_by v x

-- no listed cut fails
abbrev pub NoCutFails : Distilled → Look → Type 0
NoCutFails image v = (k at : ℕ) (taken : Bool) → slice_get image.assumptions k ≡ Some (Cut at taken) → fails_by v (Cut at taken) ≡ false

-- no listed targets of a jump fail
abbrev pub NoTargetsFail : Distilled → Look → Type 0
NoTargetsFail image v = (k at : ℕ) (to : List ℕ) → slice_get image.assumptions k ≡ Some (Targets at to) → fails_by v (Targets at to) ≡ false

-- no listed value of a load fails
abbrev pub NoValueFails : Distilled → Look → Type 0
NoValueFails image v = (k at value : ℕ) → slice_get image.assumptions k ≡ Some (Same at value) → fails_by v (Same at value) ≡ false

-- whether Code is listed and fails, or Within is
abbrev pub whole_fails : Sight → Listed → Bool
whole_fails v listed = v.analysed && ((v.changed && listed.code) || (not v.stops && (not v.stays && listed.within)))
