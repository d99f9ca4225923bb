-- What is kept of a run while it is looked at.
use Rattle.std.specs.Prelude.{◌≡◌, ℕ, Bool}
use Rattle.cells.specs.Bytes.{number}
use Rattle.cells.specs.Run.{State}
use Rattle.memory.specs.declared.Memory.{Ghosts}
use Rattle.dist_image.specs.Image.{Distilled}
use Rattle.rv_semantics.specs.Prints.{nowhere}
use Rattle.rv_semantics.specs.Calls.{step}
use Rattle.seq_machine.specs.States.{state_of}
use Rattle.fitting.specs.Fits.{is_analysed}
use Rattle.fitting.specs.Fails.{state_at}
use Rattle.profile_laws.specs.Tally.{kept}
use Rattle.access_trace.specs.Shadows.{mark_at}
use Rattle.assumption_laws.specs.Looks.{Look}
use Rattle.assume_list.specs.declared.watch.Watch.{Watch}
use Rattle.assume_list.specs.Marks.{dead_in, counted}
use Rattle.assume_list.specs.Sights.{look_in, marks_after}

-- at position j the state is s, and the bytes that stores wrote last which are claimed dead are marked
pub record IsWatched (start : State) (image : Distilled) (j : ℕ) (s : State) (program dead marks : ℕ → ℕ) (analysed : Bool) : Type 0 where
  pub state : s ≡ state_at start j
  pub words : program ≡ start.arch.mem
  pub claimed : dead ≡ dead_in image.assumptions
  pub marked : (a : ℕ) → marks a ≡ counted dead ((kept nowhere start j).writers a)
  pub noted : analysed ≡ is_analysed image s.arch.pc

module _ {M : Type 0} {d : Ghosts M} (at : M → ℕ → ℕ) (image : Distilled) where
  -- a watch looks at the run that starts from the state of its machine
  abbrev pub IsBegun : Watch M d → Type 0
  IsBegun w =
      IsWatched (state_of at w.machine) image w.machine.position (state_of at w.machine) (at w.program) (dead_in image.assumptions) (mark_at at w.marks) w.analysed

  -- how the position of a watch looks
  abbrev pub look_of : Watch M d → Look
  look_of w = look_in image (number 4 w.machine.arch.pc (at w.program)) (state_of at w.machine) (mark_at at w.marks)

  -- the new marks are those after the step of the old watch's machine
  abbrev pub AreMarksAfter : Watch M d → Watch M d → Type 0
  AreMarksAfter old new =
      (a : ℕ) → mark_at at new.marks a ≡ marks_after (dead_in image.assumptions) (state_of at old.machine) (mark_at at old.marks) a

-- the new watch's machine is a step further than the old one's
abbrev pub HasStepped : {M : Type 0} {d : Ghosts M} → (M → ℕ → ℕ) → Watch M d → Watch M d → Type 0
HasStepped at old new = state_of at new.machine ≡ step (state_of at old.machine)
