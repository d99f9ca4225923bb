-- What is looked at of a position of a run, and a test of each assumption but Span by it. Span has a test of its own.
use Rattle.std.specs.Prelude.{ℕ, ◌+◌, ◌-◌, zero, suc, Bool, true, false, not, ◌||◌, ◌&&◌, if◌then◌else◌, nat_eq, List, [], ◌∷◌, ◌++◌, map, Option, Some, None}
use Rattle.rv_word.specs.declared.inst.Inst.{Inst}
use Rattle.rv_word.specs.declared.inst.Inst.TheVariants.{Branch, Load}
use Rattle.rv_word.specs.Meaning.{meaning}
use Rattle.cells.specs.Cells.{Arch, value}
use Rattle.cells.specs.Run.{State, is_over}
use Rattle.rv_semantics.specs.Values.{register_value}
use Rattle.cells.specs.Bytes.{number}
use Rattle.rv_semantics.specs.Effect.{holds, extended, load_size, sum32}
use Rattle.rv_semantics.specs.Machine.{word_at}
use Rattle.dist_image.specs.Image.{Premise, Cut, Targets, Dead, Code, Within, Span, Same, Distilled, prints_at}
use Rattle.image_semantics.specs.World.{task_machine, count_of}
use Rattle.fitting.specs.Claims.{among}
use Rattle.fitting.specs.Fits.{is_analysed, is_anchor_pc}
use Rattle.fitting.specs.Fails.{program, state_at, arch_at, pc_at}
use Rattle.rv_semantics.specs.Prints.{nowhere}
use Rattle.profile_laws.specs.Tally.{places, bytes_in, loaded, is_register_jump, kept}

-- ---- one position

-- whether the condition of a branch holds, where it is a branch
abbrev pub side : Inst → Arch → Option Bool
side (Branch test rs1 rs2 off) s = Some (holds test (register_value rs1 (value s)) (register_value rs2 (value s)))
side _ s = None

-- whether a branch went to the side: the taken one where `taken` is set; of no branch it is false
abbrev pub is_side : Bool → Option Bool → Bool
is_side taken None = false
is_side true (Some held) = held
is_side false (Some held) = not held

-- `marks` has, of each byte that is fetched or loaded, the pc of the store that wrote it last, and 1; or 0 where no store did
pub record Look : Type 0 where
  pub pc : ℕ
  pub stops : Bool
  pub side : Option Bool
  pub jumps : Bool
  pub changed : Bool
  pub analysed : Bool
  pub next : ℕ
  pub stays : Bool
  pub load : Option ℕ
  pub marks : List ℕ

-- the bytes that an image's task fetches, and loads or shows
abbrev pub read_bytes : Distilled → Arch → List ℕ
read_bytes image s = places 4 s.pc ++ bytes_in (loaded (prints_at image) (meaning (word_at s)) s)

-- what a load loads, extended to 32 bits
abbrev pub load_of : Inst → Arch → Option ℕ
load_of (Load kind rd rs1 off) s = Some (extended kind (number (load_size kind) (sum32 (register_value rs1 (value s)) off) s.mem))
load_of _ s = None

-- another value than this one is loaded
abbrev pub is_other : ℕ → Option ℕ → Bool
is_other n None = false
is_other n (Some m) = not (nat_eq m n)

-- of a state, where `word` is the program's word at its pc, the next pc is `next`, and `writers` marks each byte
abbrev pub look : Distilled → ℕ → Arch → ℕ → (ℕ → ℕ) → Look
look image word s next writers =
    let i = meaning (word_at s) in
    record {
      pc = s.pc;
      stops = (task_machine image).stops s;
      side = side i s;
      jumps = is_register_jump i;
      changed = not (nat_eq (word_at s) word);
      analysed = is_analysed image s.pc;
      next = next;
      stays = is_analysed image next;
      load = load_of i s;
      marks = map writers (read_bytes image s);
    }

-- whether an assumption fails at a position that looks so
abbrev pub fails_by : Look → Premise → Bool
fails_by v (Cut at taken) = nat_eq v.pc at && (not v.stops && is_side taken v.side)
fails_by v (Targets at to) = nat_eq v.pc at && (not v.stops && (v.jumps && not (among to v.next)))
fails_by v (Dead at) = among v.marks (at + 1)
fails_by v Code = v.analysed && v.changed
fails_by v Within = v.analysed && (not v.stops && not v.stays)
fails_by v Span = false
fails_by v (Same at value) = nat_eq v.pc at && is_other value v.load

-- the number of the first of a list that passes, where the entries are numbered from k on
abbrev pub first_from : (Premise → Bool) → ℕ → List Premise → Option ℕ
first_from test k [] = None
first_from test k (x ∷ xs) = if test x then Some k else first_from test (suc k) xs

module _ (start : State) (image : Distilled) where
  -- what a test of the list sees of position i
  abbrev pub look_at : ℕ → Look
  look_at i = look image (program start (pc_at start i)) (arch_at start i) (pc_at start (suc i)) (kept nowhere start i).writers

  -- the first listed assumption but Span that fails at a position
  abbrev pub first_failing : ℕ → Option ℕ
  first_failing i = first_from (fails_by (look_at i)) 0 image.assumptions

  -- ---- Span

  -- whether a task that is at position j, with `left` arrivals to come and a number of steps to go, comes to its last arrival,
  -- or to a stop
  unfoldable pub comes : ℕ → ℕ → ℕ → Bool
  comes zero left j = false
  comes (suc steps) left j =
      (task_machine image).stops (arch_at start j)
      || (not (is_over (state_at start (suc j)))
      && (if is_anchor_pc image (pc_at start (suc j)) then nat_eq left 1 || comes steps (left - 1) (suc j) else comes steps left (suc j)))

  abbrev pub is_late : Option ℕ → ℕ → Bool
  is_late None i = false
  is_late (Some count) i = not (comes image.limit count i)

  -- whether Span fails at a position
  abbrev pub span_fails : ℕ → Bool
  span_fails i = is_late (count_of image (pc_at start i)) i
