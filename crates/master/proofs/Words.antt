-- A word that is done on a plain view, in the machine's own terms.
use Rattle.std.proofs.Common.{◌≡◌, ℕ, ◌/◌, ◌*◌, ◌%◌, Bool, true, false, not, cond, List, [], ◌∷◌, None, unwrap_or, refl, sym, ap, ◌∙◌, true≢false}
use Rattle.std.specs.Prelude.{Result, Ok, Err, IfOk, OnErr, nat_eq}
use lib.Dec.{eqb}
use mathlib.Core.Path.{fun_ext}
use Rattle.rv_word.specs.declared.inst.Inst.{Inst}
use Rattle.rv_word.specs.declared.inst.Inst.TheVariants.{Lui, Auipc, Jal, Jalr, Branch, Load, Store, OpImm, Op, Fence, Ecall, Ebreak, Illegal as IllegalWord}
use Rattle.rv_word.specs.Field.{rd}
use Rattle.rv_word.specs.Meaning.{meaning}
use Rattle.cells.specs.declared.Cell.{Cell}
use Rattle.cells.specs.declared.Cell.TheVariants.{Pc, Reg, Byte}
use Rattle.cells.specs.Cells.{Arch, value, from_cells}
use Rattle.cells.specs.Seen.{Seen, plain_seen, among, puts_of, put_cells, given_values}
use Rattle.cells.proofs.Looks.{put_cells-at_once}
use Rattle.rv_semantics.specs.declared.Flow.{Flow}
use Rattle.rv_semantics.specs.declared.Flow.TheVariants.{Next, Call, Break, Illegal, Misfetch}
use Rattle.rv_semantics.specs.Values.{register_puts}
use Rattle.rv_semantics.specs.Effect.{Effect, effect, effect_at, cells, jumped, branched, holds, sum32, after, is_store}
use Rattle.rv_semantics.specs.Machine.{exec, flow_of, moved, is_next, pc_after}
use Rattle.rv_semantics.proofs.Local.{no_pc, no_put, same_effect}
use Rattle.rv_step.specs.Outcome.{Outcome, outcome}
use Rattle.rv_step.proofs.Plain.{read_cells_plain, put_plain}
use Rattle.rv_step.proofs.Stops.{stop_puts}
use Rattle.master.specs.Word.{Leaves}
use Rattle.master.proofs.Targets.{sets}

-- no byte is put but by a store
abbrev NoByte : List (Cell × ℕ) → Type 0
NoByte ps = (a : ℕ) → puts_of ps (Byte a) ≡ None

register_only : (r v : ℕ) → NoByte (register_puts r v)
register_only r v a = elim (eqb r 0) as (λ b. puts_of (cond b [] ((Reg r, v) ∷ [])) (Byte a) ≡ None) [ true ↦ refl | false ↦ refl ]

jumped_only : (b : Bool) (to : ℕ) (ps : List (Cell × ℕ)) → NoByte ps → NoByte (jumped b to ps).puts
jumped_only true to ps h = h
jumped_only false to ps h = λ a. refl

branched_only : (b : Bool) (pc to : ℕ) → NoByte (branched b pc to).puts
branched_only true pc to = jumped_only (eqb (to % 4) 0) to [] (λ a. refl)
branched_only false pc to = λ a. refl

no_byte : (i : Inst) (pc a b n : ℕ) → is_store i ≡ false → NoByte (effect i pc a b n).puts
no_byte (Lui rd imm) pc a b n e = register_only rd _
no_byte (Auipc rd imm) pc a b n e = register_only rd _
no_byte (Jal rd off) pc a b n e = jumped_only (eqb (sum32 pc off % 4) 0) (sum32 pc off) _ (register_only rd (after pc))
no_byte (Jalr rd rs1 off) pc a b n e = jumped_only (eqb (sum32 a off / 2 * 2 % 4) 0) (sum32 a off / 2 * 2) _ (register_only rd (after pc))
no_byte (Branch test rs1 rs2 off) pc a b n e = branched_only (holds test a b) pc (sum32 pc off)
no_byte (Load kind rd rs1 off) pc a b n e = register_only rd _
no_byte (Store kind rs1 rs2 off) pc a b n e = absurd (true≢false e)
no_byte (OpImm op rd rs1 imm) pc a b n e = register_only rd _
no_byte (Op op rd rs1 rs2) pc a b n e = register_only rd _
no_byte (Fence w) pc a b n e = λ a. refl
no_byte Ecall pc a b n e = λ a. refl
no_byte Ebreak pc a b n e = λ a. refl
no_byte (IllegalWord w) pc a b n e = λ a. refl

-- and a store goes on behind itself
store_next : (i : Inst) (pc a b n : ℕ) → is_store i ≡ true → (effect i pc a b n).flow ≡ Next (after pc)
store_next (Lui rd imm) pc a b n e = refl
store_next (Auipc rd imm) pc a b n e = refl
store_next (Jal rd off) pc a b n e = absurd (true≢false (sym e))
store_next (Jalr rd rs1 off) pc a b n e = absurd (true≢false (sym e))
store_next (Branch test rs1 rs2 off) pc a b n e = absurd (true≢false (sym e))
store_next (Load kind rd rs1 off) pc a b n e = refl
store_next (Store kind rs1 rs2 off) pc a b n e = refl
store_next (OpImm op rd rs1 imm) pc a b n e = refl
store_next (Op op rd rs1 rs2) pc a b n e = refl
store_next (Fence w) pc a b n e = refl
store_next Ecall pc a b n e = absurd (true≢false (sym e))
store_next Ebreak pc a b n e = absurd (true≢false (sym e))
store_next (IllegalWord w) pc a b n e = absurd (true≢false (sym e))

pub store_flow : (w : ℕ) (s : Arch) → is_store (meaning w) ≡ true → flow_of w s ≡ Next (after s.pc)
store_flow w s e = store_next (meaning w) s.pc _ _ _ e

-- what a plain view shows
plain_outcome : (i : Inst) (pc : ℕ) (v : Cell → ℕ) → (outcome i pc (plain_seen v)).seen ≡ plain_seen (given_values (puts_of (effect_at i pc v).puts) v)
plain_outcome i pc v =
    let ps = (effect_at i pc v).puts in
    ap (put_cells ps) (read_cells_plain (cells i v) (plain_seen v) refl) ∙ put_cells-at_once ps (plain_seen v) ∙ sym (put_plain (puts_of ps) v (given_values (puts_of ps) v) (λ x. refl))

-- the effect doesn't see the value at Pc
pc_unread : (s : Arch) (o : ℕ) (cs : List Cell) (x : Cell) → among cs x ≡ true → value s x ≡ value (record s { pc = o }) x
pc_unread s o cs Pc e = absurd (true≢false (sym e ∙ no_pc cs))
pc_unread s o cs (Reg n) e = refl
pc_unread s o cs (Byte a) e = refl

same_at : (i : Inst) (s : Arch) (o : ℕ) → effect_at i o (value s) ≡ effect_at i o (value (record s { pc = o }))
same_at i s o = (same_effect (value s) (value (record s { pc = o })) i o (pc_unread s o (cells i (value s)))).0

given : Effect → Arch → Arch
given e s = from_cells (given_values (puts_of e.puts) (value s))

given_pc : (e : Effect) (s : Arch) → (given e s).pc ≡ s.pc
unfolding given given_values
given_pc e s = ap (λ o. unwrap_or o s.pc) (no_put e.puts)

given_mem : (e : Effect) (s : Arch) → NoByte e.puts → (given e s).mem ≡ s.mem
unfolding given given_values
given_mem e s h = fun_ext (λ a. ap (λ o. unwrap_or o (s.mem a)) (h a))

given_none : (e : Effect) (s : Arch) → e.puts ≡ [] → given e s ≡ s
unfolding given given_values
given_none e s h = ap (λ ps. from_cells (λ x. unwrap_or (puts_of ps x) (value s x))) h

given_moved : (e : Effect) (s : Arch) (o to : ℕ) → e.flow ≡ Next to → record (given e s) { pc = to } ≡ moved e (record s { pc = o })
unfolding given given_values moved
given_moved e s o to f = ap (λ p. record (given e s) { pc = p }) (sym (ap (pc_after o) f))

-- a word w that was done at o, where t came of s
module _ (s t : Arch) (o w : ℕ) where
  abbrev at : Arch
  at = record s { pc = o }

  abbrev does : Effect
  does = effect_at (meaning w) o (value s)

  abbrev Did : Flow → Type 0
  Did f = ◌≡◌ {A = Outcome} (record { flow = f; seen = plain_seen (value t) }) (outcome (meaning w) o (plain_seen (value s)))

  came : (f : Flow) → Did f → t ≡ given does s
  unfolding given
  came f e = ap (λ (x : Seen). from_cells x.value) (ap (λ (r : Outcome). r.seen) e ∙ plain_outcome (meaning w) o (value s))

  was_flow : (f : Flow) → Did f → does.flow ≡ f
  was_flow f e = sym (ap (λ (r : Outcome). r.flow) e)

  flow_is : (f : Flow) → Did f → flow_of w at ≡ f
  flow_is f e = ap (λ (x : Effect). x.flow) (sym (same_at (meaning w) s o)) ∙ was_flow f e

  stops_is : (f : Flow) → Did f → (exec w).stops at ≡ not (is_next f)
  stops_is f e = ap (λ g. not (is_next g)) (flow_is f e)

  went_on : (to : ℕ) → Did (Next to) → record t { pc = to } ≡ (exec w).move at
  went_on to e =
      ap (λ (a : Arch). record a { pc = to }) (came (Next to) e)
      ∙ given_moved does s o to (was_flow (Next to) e)
      ∙ ap (λ (x : Effect). moved x at) (same_at (meaning w) s o)

  stayed : (f : Flow) → is_next f ≡ false → Did f → t ≡ s
  stayed f n e = came f e ∙ given_none does s (stop_puts (meaning w) o _ _ _ (ap is_next (was_flow f e) ∙ n))

  halted : (f : Flow) → is_next f ≡ false → Did f → ((exec w).stops at ≡ true) × (record t { pc = o } ≡ at) × (flow_of w at ≡ f)
  halted f n e = (stops_is f e ∙ ap not n, ap (λ (a : Arch). record a { pc = o }) (stayed f n e), flow_is f e)

  leaves : (f : Flow) → Did f → Leaves w at (record t { pc = o }) f
  leaves (Next to) e = (stops_is (Next to) e, went_on to e, flow_is (Next to) e)
  leaves Call e = halted Call refl e
  leaves Break e = halted Break refl e
  leaves (Illegal x) e = halted (Illegal x) refl e
  leaves (Misfetch x) e = halted (Misfetch x) refl e

  abbrev WasBefore : Type 0
  WasBefore = plain_seen (value t) ≡ plain_seen (value s)

  before : WasBefore → t ≡ s
  before h = ap (λ (x : Seen). from_cells x.value) h

  -- by the answer
  pub leaves_ok : {E : Type 0} (r : Result Flow E) → IfOk r Did → IfOk r (Leaves w at (record t { pc = o }))
  leaves_ok (Ok f) e = leaves f e
  leaves_ok (Err x) e = tt

  abbrev Failed : Type 0
  Failed = ((plain_seen (value s)).recording ≡ false) × WasBefore

  pub keeps_pc : {E : Type 0} (r : Result Flow E) → IfOk r Did → OnErr r Failed → t.pc ≡ s.pc
  keeps_pc (Ok f) e h = ap (λ (a : Arch). a.pc) (came f e) ∙ given_pc does s
  keeps_pc (Err x) e h = ap (λ (a : Arch). a.pc) (before h.1)

  pub keeps_memory : {E : Type 0} (r : Result Flow E) → IfOk r Did → OnErr r Failed → is_store (meaning w) ≡ false → t.mem ≡ s.mem
  keeps_memory (Ok f) e h n = ap (λ (a : Arch). a.mem) (came f e) ∙ given_mem does s (no_byte (meaning w) o _ _ _ n)
  keeps_memory (Err x) e h n = ap (λ (a : Arch). a.mem) (before h.1)

  one_register : (e : Effect) → e ≡ does → is_store (meaning w) ≡ false → (n : ℕ) → nat_eq (rd w) n ≡ false → (given e s).regs n ≡ s.regs n
  unfolding given given_values
  one_register e is ns n other = ap (λ o. unwrap_or o (s.regs n)) (ap (λ (x : Effect). puts_of x.puts (Reg n)) is ∙ sets w o _ _ _ n ns other)

  pub keeps_registers : {E : Type 0} (r : Result Flow E) → IfOk r Did → OnErr r Failed → is_store (meaning w) ≡ false → (n : ℕ) → nat_eq (rd w) n ≡ false → t.regs n ≡ s.regs n
  keeps_registers (Ok f) e h ns n other = ap (λ (a : Arch). a.regs n) (came f e) ∙ one_register does refl ns n other
  keeps_registers (Err x) e h ns n other = ap (λ (a : Arch). a.regs n) (before h.1)

  pub was_before : {E : Type 0} (r : Result Flow E) → OnErr r Failed → OnErr r (record t { pc = o } ≡ at)
  was_before (Ok f) h = tt
  was_before (Err x) h = ap (λ (a : Arch). record a { pc = o }) (before h.1)
