-- What a root that stopped did is serial work.
use Rattle.std.proofs.Common.{◌≡◌, ap, sym, ◌∙◌, refl, ℕ, [], ◌∷◌, length, ◌<◌, pos, arith}
use Rattle.std.specs.Prelude.{replicate}
use Rattle.race_model.specs.Listing.{IsListing}
use Rattle.race_model.specs.Trace.{logs_of}
use Rattle.kernel_syntax.specs.Layout.{elements}
use Rattle.kernel_syntax.specs.Program.{Program}
use Rattle.kernel_model.specs.Folder.{paths_of, root_start}
use Rattle.kernel_model.specs.Lawful.{IsLawful}
use Rattle.kernel_model.specs.Value.{Site}
use Rattle.history_model.specs.Did.{did}
use Rattle.execution_model.specs.Execution.{IsExecution}
use Rattle.execution_model.specs.Runs.{RunsTask, logged_tasks}
use Rattle.execution_laws.proofs.TaskListing.{are_listed}
use Rattle.serial_model.specs.Order.{HasSerialHistory}
use Rattle.serial_model.specs.Serial.{FindSo}
use Rattle.serial_model.proofs.Legal.{serial_history}
use Rattle.serial_model.proofs.SerialRuns.{executes, in_order}
use Rattle.serial_run.specs.Placing.{ElementLayout, OfLog, TellsWords}
use Rattle.serial_team.specs.Members.{BeginsLane, MemberValue, later}
use Rattle.serial_team.specs.Stopping.{RootStopped, StopAt}
use Rattle.serial_laws.specs.SerialRuns.{IsStoppedWork}
use Rattle.serial_laws.proofs.Found.{Agrees}
use Rattle.serial_laws.proofs.Root.{begin_agrees, of_element}
use Rattle.serial_laws.proofs.Stopped.{IsPart, stopped_does, stopped_part}
use Rattle.serial_laws.proofs.StoppedTasks.{root_stops}
use Rattle.serial_laws.proofs.Traced.{lane_at_start}

module _ (layout : ElementLayout) (program : Program) (left : ℕ) (first : StopAt) (lawful : IsLawful program) (tells : TellsWords program.arrays layout) (s : RootStopped layout program left first) where
  abbrev root : MemberValue
  root = later s.before (record { words = replicate (elements program.arrays) 0; left = left })

  part : IsPart layout 4 s.stopped.work
  part = stopped_part layout 4 [] root s.stopped.work s.after first s.stopped.stops (omega arith)

  found : FindSo [] (did layout.words.word [] 0 s.stopped.work) × Agrees layout s.after.words (did layout.words.word [] 0 s.stopped.work)
  found = stopped_does layout [] 0 [] root s.stopped.work s.after first s.stopped.stops [] (begin_agrees layout program lawful tells)

  inside : (w : ℕ) → w < length s.after.words → w < layout.count
  inside w less = omega (arith, less, found.1.count)

  pub stopped_work : IsStoppedWork program layout.words s.stopped.work s.after.words
  stopped_work = record {
    sound = part.sound;
    joined = part.joined;
    nests = part.nests;
    serial = found.0;
    leaves = λ w less. found.1.each w (inside w less);
    addresses = λ w less. of_element layout program lawful tells w (inside w less);
    fitted = record { count = refl; each = λ w less. sym (found.1.fits w (inside w less)) };
    all = found.1.count ∙ tells.count;
  }

  -- it is the beginning of a run of the kernel
  module _ (by_log : layout.bound ≡ OfLog) where
    abbrev w : IsStoppedWork program layout.words s.stopped.work s.after.words
    w = stopped_work

    begins : BeginsLane program.arrays program.main (replicate program.slots (pos 0)) 0 root
    begins = record {
      at = s.begins.at;
      locals = s.begins.locals;
      log = s.begins.log;
      none = s.begins.none;
      whole = s.begins.whole;
      unforked = s.begins.unforked;
      none_below = s.begins.none_below;
    }

    runs : RunsTask program (root_start program) (s.stopped.work ∷ [])
    runs =
        (root_stops layout by_log program (root_start program) root s.stopped.work s.after first s.stopped.stops (ap (λ (x : Site). x.arrays) s.begins.at)
        (lane_at_start program program.main (replicate program.slots (pos 0)) 0 root begins) (record { body = lawful.bounded.body; end = lawful.bounded.end_line })).task

    pub stopped_execution : IsExecution program (logged_tasks 4 s.stopped.work) layout.words.address s.after.words
    stopped_execution =
        executes program layout.words 4 s.stopped.work s.after.words s.after.words w.sound w.joined runs w.nests w.addresses w.fitted
        (serial_history layout.words.word s.stopped.work s.after.words w.serial w.leaves)

    pub stopped_listing : IsListing (paths_of (logged_tasks 4 s.stopped.work))
    stopped_listing = are_listed 4 s.stopped.work w.nests

    pub stopped_in_order : HasSerialHistory (logs_of (logged_tasks 4 s.stopped.work)) layout.words.address s.after.words
    stopped_in_order = in_order program layout.words 4 s.stopped.work s.after.words s.after.words w.sound w.joined runs w.nests w.addresses w.fitted w.serial w.leaves
