-- The machine stopped so: its report was written, or not, or it was cut off before.
use Rattle.std.proofs.Common.{◌≡◌, ℕ, List, [], Option, Some, None, refl, sym, ap, ◌∙◌, subst}
use Rattle.std.proofs.lemmas.List.{append-nil}
use Rattle.outside.specs.Files.{Files}
use Rattle.cells.specs.declared.End.{End}
use Rattle.speculation.specs.World.{World}
use Rattle.speculation.specs.Engine.{Model}
use Rattle.report.specs.Events.{summary_text}
use Rattle.report.proofs.Gained.{part_before}
use Rattle.answers.specs.declared.answer.Answer.{Answer}
use Rattle.answers.specs.declared.answer.Answer.TheVariants.{Usage, Absent, StoreFault, SinkFault, Memory, TooLong, Refused, Done, Ran, Budget, Broken}
use Rattle.speculative_runs.specs.Told.{Reads, Puts, Got, Written}
use Rattle.speculative_runs.specs.Driven.{stopped_at, stands, CutOff}
use Rattle.speculative_runs.specs.Speculated.{IsStop, Unwritten, Stopped, Speculated}

-- all was put, and no report was written
pub unwritten : (m : Model) (name : List ℕ) (store : Reads) (left : Option Files) (out : Puts) (a : Answer) → Got out m.committed.env.output → Unwritten store left name a
    → Stopped m name store left out a
unwritten m name store left out (StoreFault s) got h = (got, h)
unwritten m name store left out Memory got h =
    (part_before out.told out.left m.committed.env.output [] m.committed.env.output (sym (append-nil m.committed.env.output)) got, h)
unwritten m name store left out Usage got h = absurd h
unwritten m name store left out Broken got h = absurd h
unwritten m name store left out (Absent s) got h = absurd h
unwritten m name store left out SinkFault got h = absurd h
unwritten m name store left out (TooLong s) got h = absurd h
unwritten m name store left out (Refused e) got h = absurd h
unwritten m name store left out Done got h = absurd h
unwritten m name store left out (Ran pc end) got h = absurd h
unwritten m name store left out Budget got h = absurd h

pub unwritten_run : (w : World) (models now : ℕ → Model) (budget : ℕ) (m : Model) (name : List ℕ) (store : Reads) (left : Option Files) (out : Puts) (a : Answer) → models ≡ now
    → (k : ℕ) × IsStop w models budget k × (m ≡ models k) × Got out (models k).committed.env.output
    → Unwritten store left name a → Speculated w now budget name store left out a
unwritten_run w models now budget m name store left out a same (k, stop, is, got) h =
    subst (λ (x : ℕ → Model). Speculated w x budget name store left out a) same (k, stop, unwritten (models k) name store left out a got h)

-- it was cut off before
cut : (m : Model) (name : List ℕ) (store : Reads) (left : Option Files) (out : Puts) (a : Answer) → CutOff out m.committed.env.output a → left ≡ store.told → Stopped m name store left out a
cut m name store left out SinkFault h same = (h, same)
cut m name store left out Memory h same = (h, same)
cut m name store left out (StoreFault s) h same = absurd h
cut m name store left out Usage h same = absurd h
cut m name store left out Broken h same = absurd h
cut m name store left out (Absent s) h same = absurd h
cut m name store left out (TooLong s) h same = absurd h
cut m name store left out (Refused e) h same = absurd h
cut m name store left out Done h same = absurd h
cut m name store left out (Ran pc end) h same = absurd h
cut m name store left out Budget h same = absurd h

pub cut_run : (w : World) (models now : ℕ → Model) (budget : ℕ) (name : List ℕ) (store : Reads) (left : Option Files) (out : Puts) (a : Answer) → models ≡ now
    → (k : ℕ) × IsStop w models budget k × CutOff out (models k).committed.env.output a
    → left ≡ store.told → Speculated w now budget name store left out a
cut_run w models now budget name store left out a same (k, stop, h) stays =
    subst (λ (x : ℕ → Model). Speculated w x budget name store left out a) same (k, stop, cut (models k) name store left out a h stays)

-- it completed
completed : (m : Model) (name : List ℕ) (store : Reads) (left : Option Files) (out : Puts) → Got out m.committed.env.output → Written store.told left name (summary_text m)
    → Stopped m name store left out (stands m.committed)
completed m name store left out got wrote = stopped_by m.committed.env.over refl
  where
    stopped_by : (o : Option End) → m.committed.env.over ≡ o → Stopped m name store left out (stands m.committed)
    stopped_by None e =
        let is : stands m.committed ≡ Budget = ap (stopped_at m.committed.arch.pc) e in
        subst (Stopped m name store left out) (sym is) (got, wrote, sym is)
    stopped_by (Some end) e =
        let is : stands m.committed ≡ Ran m.committed.arch.pc end = ap (stopped_at m.committed.arch.pc) e in
        subst (Stopped m name store left out) (sym is) (got, wrote, sym is)

pub completed_run : (w : World) (models now : ℕ → Model) (budget : ℕ) (m : Model) (name : List ℕ) (store : Reads) (left : Option Files) (out : Puts) (a : Answer) → models ≡ now
    → (k : ℕ) × IsStop w models budget k × (m ≡ models k) × Got out (models k).committed.env.output
    → Written store.told left name (summary_text m) → a ≡ stands m.committed → Speculated w now budget name store left out a
completed_run w models now budget m name store left out a same (k, stop, is, got) wrote stood_so =
    let whole = completed (models k) name store left out got (subst (λ (x : Model). Written store.told left name (summary_text x)) is wrote) in
    subst (λ (x : ℕ → Model). Speculated w x budget name store left out a) same
    (k, stop, subst (Stopped (models k) name store left out) (sym (stood_so ∙ ap (λ (x : Model). stands x.committed) is)) whole)
