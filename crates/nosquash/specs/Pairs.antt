-- What is known of an engine beside its program.
use Rattle.std.specs.Prelude.{◌≡◌, ℕ}
use Rattle.memory.specs.declared.Memory.{Ghosts}
use Rattle.rv_semantics.specs.Start.{program_word}
use Rattle.elf_reader.specs.Executable.{Executable}
use Rattle.seq_machine.specs.Parts.{loaded, start_of as program_start}
use Rattle.fitting.specs.Fails.{program as words_of}
use Rattle.fitting_laws.specs.Laws.{TracksRun}
use Rattle.engine.specs.declared.engine.Engine.{Engine}
use Rattle.engine.specs.Whole.{start_of, image_of, slaves_of, model_of}

-- its tasks and master track the sequential run, wherever its image fits and the run meets the image's list
abbrev pub Tracks : {M : Type 0} {d : Ghosts M} → (M → ℕ → ℕ) → Engine M d → Type 0
Tracks at e = TracksRun (start_of at e) (image_of e) (slaves_of e) (model_of at e)

-- its run is that of the program with the input that its machine holds
abbrev pub RunsProgram : {M : Type 0} {d : Ghosts M} → (M → ℕ → ℕ) → Engine M d → Executable → Type 0
RunsProgram at e program = start_of at e ≡ program_start program (model_of at e).committed.env.input

-- at the start its memory holds the program's word at each pc
abbrev pub HoldsWords : {M : Type 0} {d : Ghosts M} → (M → ℕ → ℕ) → Engine M d → Executable → Type 0
HoldsWords at e program = (pc : ℕ) → words_of (start_of at e) pc ≡ program_word (loaded program) pc
