-- The logs of a tree of work of the kernel are those of a whole run, where its steps have a history.
use Rattle.std.proofs.Common.{ℕ, List, [], ◌∷◌}
use Rattle.race_model.specs.Listing.{IsListing}
use Rattle.race_model.specs.Trace.{logs_of}
use Rattle.kernel_syntax.specs.Program.{Program}
use Rattle.kernel_model.specs.Folder.{paths_of, root_start}
use Rattle.step_history.specs.History.{HasHistory}
use Rattle.history_model.specs.Did.{did}
use Rattle.history_model.specs.Work.{Work}
use Rattle.history_model.specs.Joined.{IsJoined}
use Rattle.history_model.specs.Sound.{WordLayout, IsSound, HasAddresses, AreFitted}
use Rattle.execution_model.specs.Execution.{IsExecution}
use Rattle.execution_model.specs.Runs.{RunsTask, logged_tasks}
use Rattle.execution_laws.specs.Nesting.{NestsWithin}
use Rattle.execution_laws.proofs.FinishedRun.{whole_folder}
use Rattle.execution_laws.proofs.TaskListing.{are_listed, are_within}
use Rattle.execution_laws.proofs.Whole.{execution, released_at}
use Rattle.certainty_model.specs.Certain.{IsRun}
use Rattle.serial_model.specs.Order.{HasSerialHistory}
use Rattle.serial_model.specs.Serial.{IsSerial, IsWorkOf, Leaves, RunsSerially}
use Rattle.serial_model.proofs.Legal.{serial_history}
use Rattle.serial_model.proofs.SerialHistory.{told_serially}

module _ (program : Program) (layout : WordLayout) (depth : ℕ) (root : Work) (memory words : List ℕ) where
  -- a tree of work in which each task makes the first records of its trace
  module _ (sound : IsSound layout root) (joined : IsJoined root) (runs : RunsTask program (root_start program) (root ∷ [])) (nests : NestsWithin depth root) (addresses : HasAddresses layout memory) (fitted : AreFitted layout memory words) where
    pub executes : HasHistory (did layout.word [] 0 root) memory → IsExecution program (logged_tasks depth root) layout.address words
    executes history = execution program layout depth root sound joined runs (are_within depth root nests) memory words addresses fitted history

    pub in_order : IsSerial layout.word root → Leaves layout.word root memory → HasSerialHistory (logs_of (logged_tasks depth root)) layout.address words
    in_order serial leaves =
        told_serially layout root memory words (logs_of (logged_tasks depth root)) sound joined addresses fitted serial leaves
        (released_at program layout depth root sound joined runs (are_within depth root nests))

  pub work_runs : IsWorkOf program layout depth root memory words → HasHistory (did layout.word [] 0 root) memory → IsRun program (logged_tasks depth root)
  work_runs w history =
      let all = executes w.sound w.joined w.runs w.nests w.addresses w.fitted history in
      record {
        traced = whole_folder program (logged_tasks depth root) layout.address words all (are_listed depth root w.nests) w.ended;
        address = layout.address;
        words = words;
        history = all.history;
      }

  module _ (s : RunsSerially program layout depth root memory words) where
    pub serial_listing : IsListing (paths_of (logged_tasks depth root))
    serial_listing = are_listed depth root s.work.nests

    pub serial_run : IsRun program (logged_tasks depth root)
    serial_run = work_runs s.work (serial_history layout.word root memory s.serial s.leaves)

    pub serial_end : HasSerialHistory (logs_of (logged_tasks depth root)) layout.address words
    serial_end = in_order s.work.sound s.work.joined s.work.runs s.work.nests s.work.addresses s.work.fitted s.serial s.leaves
