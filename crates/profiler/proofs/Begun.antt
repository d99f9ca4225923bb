-- A step keeps the input and the first break, and so what is kept of a start is that start.
use Rattle.std.proofs.Common.{◌≡◌, ℕ, ◌==◌, ◌||◌, Bool, true, false, cond, refl}
use Rattle.cells.specs.Run.{State, is_over}
use Rattle.rv_semantics.specs.declared.Flow.{Flow}
use Rattle.rv_semantics.specs.declared.Flow.TheVariants.{Next, Call, Break, Illegal, Misfetch}
use Rattle.rv_semantics.specs.Effect.{is_output}
use Rattle.rv_semantics.specs.Machine.{machine}
use Rattle.rv_semantics.specs.Calls.{step, call, stopped, called, read, write, brk, flow_at}

-- two states with the same input and the same first break
pub record Alike (s t : State) : Type 0 where
  pub input : t.env.input ≡ s.env.input
  pub first_break : t.env.first_break ≡ s.env.first_break

same : (s : State) → Alike s s
same s = record { input = refl; first_break = refl }

either : (b : Bool) (s t u : State) → Alike s t → Alike s u → Alike s (cond b t u)
either true s t u h k = h
either false s t u h k = k

read_alike : (s : State) → Alike s (read s)
unfolding read
read_alike s = either (s.arch.regs 10 == 0) s _ _ (record { input = refl; first_break = refl }) (record { input = refl; first_break = refl })

write_alike : (s : State) → Alike s (write s)
unfolding write
write_alike s = either (is_output (s.arch.regs 10)) s _ _ (record { input = refl; first_break = refl }) (record { input = refl; first_break = refl })

brk_alike : (s : State) → Alike s (brk s)
unfolding brk
brk_alike s = record { input = refl; first_break = refl }

called_alike : (n : ℕ) (s : State) → Alike s (called n s)
called_alike n s =
    either (n == 63) s _ _ (read_alike s)
    (either (n == 64) s _ _ (write_alike s)
    (either ((n == 93) || (n == 94)) s _ _ (record { input = refl; first_break = refl })
    (either (n == 214) s _ _ (brk_alike s) (record { input = refl; first_break = refl }))))

stopped_alike : (f : Flow) (s : State) → Alike s (stopped f s)
stopped_alike (Next to) s = same s
stopped_alike Call s = called_alike (s.arch.regs 17) s
stopped_alike Break s = record { input = refl; first_break = refl }
stopped_alike (Illegal w) s = record { input = refl; first_break = refl }
stopped_alike (Misfetch to) s = record { input = refl; first_break = refl }

call_alike : (s : State) → Alike s (call s)
unfolding call
call_alike s = stopped_alike (flow_at s) s

pub step_alike : (s : State) → Alike s (step s)
step_alike s = either (is_over s) s _ _ (same s) (either (machine.stops s.arch) s _ _ (call_alike s) (record { input = refl; first_break = refl }))
