-- What a replay puts and a report tells, by the laws against squashes.
use Rattle.std.proofs.Common.{◌≡◌, ℕ, ◌<◌, List, Option, Some, None, sym, subst, inl, inr}
use Rattle.std.specs.Prelude.{option_map}
use Rattle.outside.specs.Files.{Files}
use Rattle.cells.specs.Run.{State}
use Rattle.command_line.specs.Command.{Run, Replay, RunCommand, ReplayCommand, shown, shown_run, shown_replay}
use Rattle.command_line.specs.declared.commands.Command.{Command as ReadCommand}
use Rattle.command_line.specs.declared.commands.Command.TheVariants.{Run as ReadRun, Show as ReadShow, Replay as ReadReplay, Profile as ReadProfile, Values as ReadValues, Distill as ReadDistill, Check as ReadCheck, Certify as ReadCertify, Trial as ReadTrial}
use Rattle.dist_image.specs.Image.{Distilled}
use Rattle.image_semantics.specs.World.{world}
use Rattle.nosquash.proofs.Clean.{clean}
use Rattle.speculation_schedules.specs.Schedule.{after}
use Rattle.event_list.specs.Reading.{written_out}
use Rattle.elf_reader.specs.Accepted.{program_of}
use Rattle.answers.specs.declared.answer.Answer.{Answer}
use Rattle.answers.specs.declared.answer.Answer.TheVariants.{Usage, Absent, StoreFault, SinkFault, Memory, TooLong, Refused, Done, Ran, Budget, Broken}
use Rattle.speculative_runs.specs.Told.{Reads, Puts, Written}
use Rattle.speculative_runs.specs.Speculated.{schedule_of, events_of}
use Rattle.speculative_runs.specs.declared.speculating.Schedule.TheVariants.{Rounds}
use Rattle.mssp_tool.specs.Files.{IsNamedImage}
use Rattle.report.specs.Events.{summary_text}
use Rattle.mssp_tool.specs.Run.{RunFrom, RunCause, AreRunFiles, Completes, start_from, world_from, models_from}
use Rattle.mssp_tool.specs.Replay.{Wanting, ReplayCause}
use Rattle.speculative_runs.proofs.Unsquashed.{are_unsquashed, IsClean, alone_clean}
use Rattle.mssp_tool.specs.Unsquashed.{ReplayIsUnsquashed, IsMetToTheEnd, ReportIsUnsquashed}
use Rattle.mssp_tool.proofs.Exact.{unready_ran, unready_budget}

-- ---- the number of slaves that a command has

pub some_run : (o : Option ReadCommand) (r : RunCommand) → option_map shown o ≡ Some (Run r) → 0 < r.slaves
some_run None r is = absurd (cc)
some_run (Some (ReadShow image)) r is = absurd (cc)
some_run (Some (ReadReplay x)) r is = absurd (cc)
some_run (Some (ReadProfile x calls)) r is = absurd (cc)
some_run (Some (ReadValues x)) r is = absurd (cc)
some_run (Some (ReadDistill x)) r is = absurd (cc)
some_run (Some (ReadCheck x)) r is = absurd (cc)
some_run (Some (ReadCertify x y)) r is = absurd (cc)
some_run (Some (ReadTrial x)) r is = absurd (cc)
some_run (Some (ReadRun x)) r is = let same : shown_run x ≡ r = cc in subst (λ (y : RunCommand). 0 < y.slaves) same x.some

pub some_replay : (o : Option ReadCommand) (r : ReplayCommand) → option_map shown o ≡ Some (Replay r) → 0 < r.slaves
some_replay None r is = absurd (cc)
some_replay (Some (ReadShow image)) r is = absurd (cc)
some_replay (Some (ReadRun x)) r is = absurd (cc)
some_replay (Some (ReadProfile x calls)) r is = absurd (cc)
some_replay (Some (ReadValues x)) r is = absurd (cc)
some_replay (Some (ReadDistill x)) r is = absurd (cc)
some_replay (Some (ReadCheck x)) r is = absurd (cc)
some_replay (Some (ReadCertify x y)) r is = absurd (cc)
some_replay (Some (ReadTrial x)) r is = absurd (cc)
some_replay (Some (ReadReplay x)) r is = let same : shown_replay x ≡ r = cc in subst (λ (y : ReplayCommand). 0 < y.slaves) same x.some

-- ---- a replay

module _ (store : Reads) (r : ReplayCommand) (out : Puts) (some : 0 < r.slaves) where
  wanting_done : Wanting store r Done → ⊥
  wanting_done (inl (inl h)) = h
  wanting_done (inl (inr (p, e, h, refused, is))) = cc
  wanting_done (inr (inl (p, h, inl x))) = x
  wanting_done (inr (inl (p, h, inr (bytes, e, read, refused, is)))) = cc
  wanting_done (inr (inr (inl (p, image, h, hi, inl x)))) = x
  wanting_done (inr (inr (inl (p, image, h, hi, inr (bytes, e, read, refused, is))))) = cc
  wanting_done (inr (inr (inr (inl (p, image, list, h, hi, he, (name, named, x)))))) = x
  wanting_done (inr (inr (inr (inr is)))) = cc

  pub replay_is_unsquashed : (a : Answer) → ReplayCause store r out a → ReplayIsUnsquashed store.told r out a
  replay_is_unsquashed a (inl h) = inl ((λ (done : a ≡ Done). wanting_done (subst (Wanting store r) done h.0)), h.1)
  replay_is_unsquashed a (inr (p, i, image, list, files, put, of_run)) =
      inr (record {
        p = p;
        i = i;
        image = image;
        list = list;
        files = files;
        put = put;
        unsquashed = are_unsquashed (start_from p i) image r.slaves files.has_image.1.is_image some (written_out list);
      })

-- ---- the report of a run

module _ (store : Reads) (left : Option Files) (r : RunCommand) (name : List ℕ) (out : Puts) (some : 0 < r.slaves) where
  -- without an image it goes on by serial steps alone
  run_clean : (named : Option (List ℕ)) (image : Distilled) (start : State) (k : ℕ) → IsNamedImage store.told named image → IsMetToTheEnd named start image
      → IsClean (after (world start image r.slaves) (events_of (schedule_of named) r.slaves) k).counts
  run_clean None image start k has met = alone_clean (world start image r.slaves) k
  run_clean (Some file) image start k (bytes, h) (fits, (n, meets, ends)) = clean start image r.slaves n h.is_image some fits meets ends (events_of Rounds r.slaves) k

  module _ (p i : List ℕ) (image : Distilled) (files : AreRunFiles store.told r p image i) where
    told : (k : ℕ) → Written store.told left name (summary_text (models_from r.adapt r (program_of p) (start_from p i) image k)) → ReportIsUnsquashed store.told left r name
    told k written =
        record {
          p = p;
          i = i;
          image = image;
          files = files;
          last = models_from r.adapt r (program_of p) (start_from p i) image k;
          written = written;
          unsquashed = λ steady met. subst (λ (o : Option ℕ). IsClean (models_from o r (program_of p) (start_from p i) image k).counts) (sym steady) (run_clean r.image image (start_from p i) k files.has_image met);
        }

    reports : (a : Answer) → Completes a → RunFrom (Some name) r (world_from p i image r.slaves) (models_from r.adapt r (program_of p) (start_from p i) image) store left out a → ReportIsUnsquashed store.told left r name
    reports (Ran pc end) done (k, stop, (got, written, is)) = told k written
    reports Budget done (k, stop, (got, written, is)) = told k written
    reports Usage done h = absurd done
    reports Broken done h = absurd done
    reports (Absent s) done h = absurd done
    reports (StoreFault s) done h = absurd done
    reports SinkFault done h = absurd done
    reports Memory done h = absurd done
    reports (TooLong s) done h = absurd done
    reports (Refused e) done h = absurd done
    reports Done done h = absurd done

  pub report_is_unsquashed : r.report ≡ Some name → (a : Answer) → Completes a → RunCause store left r out a → ReportIsUnsquashed store.told left r name
  report_is_unsquashed named (Ran pc end) done (inl h) = absurd (unready_ran store left r out pc end h.0)
  report_is_unsquashed named Budget done (inl h) = absurd (unready_budget store left r out h.0)
  report_is_unsquashed named Usage done (inl h) = absurd done
  report_is_unsquashed named Broken done (inl h) = absurd done
  report_is_unsquashed named (Absent s) done (inl h) = absurd done
  report_is_unsquashed named (StoreFault s) done (inl h) = absurd done
  report_is_unsquashed named SinkFault done (inl h) = absurd done
  report_is_unsquashed named Memory done (inl h) = absurd done
  report_is_unsquashed named (TooLong s) done (inl h) = absurd done
  report_is_unsquashed named (Refused e) done (inl h) = absurd done
  report_is_unsquashed named Done done (inl h) = absurd done
  report_is_unsquashed named a done (inr (p, i, image, files, h)) =
      reports p i image files a done (subst (λ (o : Option (List ℕ)). RunFrom o r (world_from p i image r.slaves) (models_from r.adapt r (program_of p) (start_from p i) image) store left out a) named h)
