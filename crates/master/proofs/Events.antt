-- The events of the world's master, case by case.
use Rattle.std.proofs.Common.{◌≡◌, ◌≢◌, ℕ, ◌+◌, ◌*◌, ◌<◌, ◌≤◌, Bool, true, false, not, ◌&&◌, cond, List, [], ◌∷◌, Option, Some, None, unwrap_or, refl, sym, ap, ◌∙◌, true≢false, add-one}
use mathlib.Core.Path.{fun_ext}
use Rattle.std.specs.Prelude.{nat_eq, nat_lt, slice_get, slice_index, Result, Ok, Err, IfOk}
use lib.Dec.{eqb}
use Rattle.std.proofs.Math.Dec.{ltb}
use Rattle.std.proofs.lemmas.Bool.{lt-ltb, le-ltb, ne_eqb}
use Rattle.speculation.specs.declared.Why.TheVariants as why
use Rattle.speculation.specs.World.{Master, Driven, Goes, Halts}
use Rattle.rv_word.specs.Meaning.{meaning}
use Rattle.cells.specs.declared.Cell.TheVariants.{Reg}
use Rattle.cells.specs.Cells.{Arch, value}
use Rattle.cells.specs.Seen.{given_values}
use Rattle.rv_semantics.specs.declared.Flow.{Flow}
use Rattle.rv_semantics.specs.declared.Flow.TheVariants.{Next, Call, Break, Illegal, Misfetch}
use Rattle.rv_semantics.specs.Values.{arch_of}
use Rattle.rv_semantics.specs.Effect.{Effect, next, effect_at, after, is_store}
use Rattle.rv_semantics.specs.Prints.{is_short_write}
use Rattle.rv_step.proofs.TaskCalls.{is_call_flow, call_flow, no_call_flow}
use Rattle.rv_semantics.specs.Machine.{exec, flow_of, moved, is_next, pc_after}
use Rattle.dist_image.specs.declared.image.Slot.{Slot}
use Rattle.dist_image.specs.Image.{Distilled, slot_of, prints_at}
use Rattle.image_semantics.specs.World.{drive, slot_done, exec_at, go_to, why_of}
use Rattle.master.specs.Word.{Leaves}
use Rattle.master.specs.declared.master.MasterDid.{MasterDid}
use Rattle.master.specs.declared.master.MasterDid.TheVariants.{Moved}
use Rattle.master.specs.Shown.{next_spawn, forking, called, as_driven}
use Rattle.master.proofs.Words.{store_flow}

-- the first that applies
pub drive_spent : (image : Distilled) (room : Bool) (a : Master) → 4 * image.limit + 4 ≤ a.spent → drive image room a ≡ Halts why.Spent
unfolding drive
drive_spent image room a h =
    ap (λ b. cond b (slot_done image room a (slice_get image.slots a.slot)) (Halts why.Spent)) (le-ltb a.spent (4 * image.limit + 4) h)

pub drive_slot : (image : Distilled) (room : Bool) (a : Master) (o : Option Slot) → a.spent < 4 * image.limit + 4 → slice_get image.slots a.slot ≡ o → drive image room a ≡ slot_done image room a o
unfolding drive
drive_slot image room a o h e =
    ap (λ b. cond b (slot_done image room a (slice_get image.slots a.slot)) (Halts why.Spent)) (lt-ltb a.spent (4 * image.limit + 4) h)
    ∙ ap (slot_done image room a) e

-- whether a spawn is due
due_of : (image : Distilled) (a : Master) (b c : Bool) → nat_lt a.spent (4 * image.limit + 4) ≡ b → nat_eq a.left 1 ≡ c → next_spawn image a ≡ cond (b && c) (forking (slice_get image.slots a.slot)) None
unfolding next_spawn
due_of image a b c s l = λ i. cond (s i && l i) (forking (slice_get image.slots a.slot)) None

pub none_spent : (image : Distilled) (a : Master) → 4 * image.limit + 4 ≤ a.spent → next_spawn image a ≡ None
none_spent image a h = due_of image a false (nat_eq a.left 1) (le-ltb a.spent (4 * image.limit + 4) h) refl

and_false : (b : Bool) → b && false ≡ false
and_false true = refl
and_false false = refl

and_true : (b : Bool) → b && true ≡ b
and_true true = refl
and_true false = refl

pub none_left : (image : Distilled) (a : Master) → a.left ≢ 1 → next_spawn image a ≡ None
none_left image a h = due_of image a (nat_lt a.spent (4 * image.limit + 4)) false refl (ne_eqb a.left 1 h) ∙ ap (λ b. cond b (forking (slice_get image.slots a.slot)) None) (and_false (nat_lt a.spent (4 * image.limit + 4)))

cond_none : (b : Bool) → let none : Option ℕ = None in cond b none none ≡ none
cond_none true = refl
cond_none false = refl

pub none_else : (image : Distilled) (a : Master) → forking (slice_get image.slots a.slot) ≡ None → next_spawn image a ≡ None
none_else image a h =
    due_of image a (nat_lt a.spent (4 * image.limit + 4)) (nat_eq a.left 1) refl refl
    ∙ ap (λ o. cond (nat_lt a.spent (4 * image.limit + 4) && nat_eq a.left 1) o None) h
    ∙ cond_none (nat_lt a.spent (4 * image.limit + 4) && nat_eq a.left 1)

pub due_slot : (image : Distilled) (a : Master) → a.spent < 4 * image.limit + 4 → next_spawn image a ≡ cond (nat_eq a.left 1) (forking (slice_get image.slots a.slot)) None
due_slot image a s = due_of image a true (nat_eq a.left 1) (lt-ltb a.spent (4 * image.limit + 4) s) refl

abbrev target_or : ℕ → Flow → ℕ
target_or o (Next to) = to
target_or o _ = o

-- one slot more is done
pub goes_on : (image : Distilled) (a b : Master) (t : Arch) (slot : ℕ) (o : Option ℕ) (did : MasterDid) → did ≡ Moved → b ≡ record a { slot = slot; arch = t; spent = a.spent + 1 } → o ≡ Some slot
    → as_driven image did b ≡ go_to a t o
goes_on image a b t slot o did m e h =
    (λ i. as_driven image (m i) (e i)) ∙ ap (λ n. Goes (record a { slot = slot; arch = t; spent = n })) (add-one a.spent) ∙ ap (go_to a t) (sym h)

-- the word of a slot at its origin
module _ (image : Distilled) (a : Master) (o w : ℕ) where
  abbrev at : Arch
  at = record a.arch { pc = o }

  abbrev does : Effect
  does = effect_at (meaning w) o (value at)

  abbrev answers : Effect
  answers = next o ((Reg 10, a.arch.regs 12) ∷ [])

  abbrev done : Effect → Driven
  done e = cond (not (is_next e.flow)) (Halts (why_of does.flow)) (go_to a (moved e at) (slot_of image (moved e at).pc))

  -- no word but ECALL is a call
  no_call : (f : Flow) → flow_of w at ≡ f → is_call_flow f ≡ false → exec_at image a o w ≡ done does
  no_call f h other =
      ap (λ b. done (cond ((prints_at image o && b) && is_short_write (value at)) answers does)) (no_call_flow (meaning w) o _ _ _ f h other)
      ∙ ap (λ b. done (cond (b && is_short_write (value at)) answers does)) (and_false (prints_at image o))

  -- a word that goes on, and one that doesn't
  pub exec_goes : (to : ℕ) (t : Arch) → Leaves w at t (Next to) → exec_at image a o w ≡ go_to a (record t { pc = to }) (slot_of image to)
  exec_goes to t h =
      no_call (Next to) h.2 refl
      ∙ ap (λ b. cond b (Halts (why_of does.flow)) (go_to a (moved does at) (slot_of image (moved does at).pc))) h.0
      ∙ ap (λ (s : Arch). go_to a s (slot_of image s.pc)) (sym h.1)

  -- a store goes on behind itself
  pub store_goes : (f : Flow) (t : Arch) → is_store (meaning w) ≡ true → Leaves w at t f → exec_at image a o w ≡ go_to a (record t { pc = after o }) (slot_of image (after o))
  store_goes (Next to) t e h =
      let behind = ap (target_or o) (sym h.2 ∙ store_flow w at e) in
      exec_goes to t h ∙ ap (λ p. go_to a (record t { pc = p }) (slot_of image p)) behind
  store_goes Call t e h = absurd (true≢false (ap is_next (sym (store_flow w at e) ∙ h.2)))
  store_goes Break t e h = absurd (true≢false (ap is_next (sym (store_flow w at e) ∙ h.2)))
  store_goes (Illegal x) t e h = absurd (true≢false (ap is_next (sym (store_flow w at e) ∙ h.2)))
  store_goes (Misfetch x) t e h = absurd (true≢false (ap is_next (sym (store_flow w at e) ∙ h.2)))

  pub exec_halts : (f : Flow) → (exec w).stops at ≡ true → flow_of w at ≡ f → is_call_flow f ≡ false → exec_at image a o w ≡ Halts (why_of f)
  exec_halts f s h other =
      no_call f h other
      ∙ ap (λ b. cond b (Halts (why_of does.flow)) (go_to a (moved does at) (slot_of image (moved does at).pc))) s
      ∙ ap (λ g. Halts (why_of g)) h

  pub store_lost : is_store (meaning w) ≡ true → slot_of image (after o) ≡ None → exec_at image a o w ≡ Halts why.Lost
  unfolding moved
  store_lost e n =
      let f = store_flow w at e in
      no_call (Next (after o)) f refl
      ∙ ap (λ b. cond b (Halts (why_of does.flow)) (go_to a (moved does at) (slot_of image (moved does at).pc))) (ap (λ g. not (is_next g)) f)
      ∙ ap (go_to a (moved does at)) (ap (λ g. slot_of image (pc_after o g)) f ∙ n)

  -- ECALL
  pub exec_calls : flow_of w at ≡ Call → exec_at image a o w ≡ called image a o
  unfolding moved given_values
  exec_calls h =
      ap (λ b. done (cond ((prints_at image o && b) && is_short_write (value at)) answers does)) (call_flow (meaning w) o _ _ _ h)
      ∙ ap (λ b. done (cond (b && is_short_write (value at)) answers does)) (and_true (prints_at image o))
      ∙ done_if_answered (prints_at image o && is_short_write (value at))
    where
      done_if_answered : (b : Bool) → done (cond b answers does) ≡ cond b (go_to a (moved answers a.arch) (slot_of image (after o))) (Halts why.Call)
      done_if_answered true = refl
      done_if_answered false =
          ap (λ f. cond (not (is_next f)) (Halts (why_of f)) (go_to a (moved does at) (slot_of image (moved does at).pc))) h

-- by whether the call is one that a task does
pub called_by : (image : Distilled) (a : Master) (o : ℕ) {b : Bool} → prints_at image o && is_short_write (value a.arch) ≡ b
    → called image a o ≡ cond b (go_to a (moved (next o ((Reg 10, a.arch.regs 12) ∷ [])) a.arch) (slot_of image (after o))) (Halts why.Call)
called_by image a o e = ap (λ b. cond b (go_to a (moved (next o ((Reg 10, a.arch.regs 12) ∷ [])) a.arch) (slot_of image (after o))) (Halts why.Call)) e

-- x10 is set to x12
pub answered : (old new : List ℕ) (pc o : ℕ) (mem : ℕ → ℕ) → ((n : ℕ) → slice_index new n ≡ cond (nat_eq 10 n) (slice_index old 12) (slice_index old n))
    → arch_of (after o) new mem ≡ moved (next o ((Reg 10, slice_index old 12) ∷ [])) (arch_of pc old mem)
unfolding moved given_values
answered old new pc o mem h =
    let regs = fun_ext (λ n. h n ∙ put_or_old n (nat_eq 10 n)) in λ i. record { pc = after o; regs = regs i; mem = mem }
  where
    put_or_old : (n : ℕ) (b : Bool) → cond b (slice_index old 12) (slice_index old n) ≡ unwrap_or (cond b (Some (slice_index old 12)) None) (slice_index old n)
    put_or_old n true = refl
    put_or_old n false = refl

-- what an answer says of one event, it says of an equal one
pub drives : {E : Type 0} (r : Result MasterDid E) (image : Distilled) (b : Master) (x y : Driven) → x ≡ y → IfOk r (λ d. as_driven image d b ≡ x) → IfOk r (λ d. as_driven image d b ≡ y)
drives (Ok d) image b x y e h = h ∙ e
drives (Err z) image b x y e h = tt
