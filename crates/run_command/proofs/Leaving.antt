-- What is left where what came out could not be printed.
use Rattle.std.proofs.Common.{◌≡◌, refl, sym, ap, ◌∙◌, ℕ, List, [], ◌∷◌, append-nil}
use Rattle.std.specs.Prelude.{All}
use Rattle.std.proofs.lemmas.List.Elements.{All-cons, All-nil}
use Rattle.log_format.specs.declared.format.TheConstants.{FORMAT}
use Rattle.sw_base.specs.declared.path.Step.{Step}
use Rattle.sw_base.specs.Environment.{Content}
use Rattle.sw_base.specs.HandedLog.{HandedLog, SealsPrefix, between}
use Rattle.race_model.specs.FirstBad.{rows_of}
use Rattle.race_model.specs.Row.{index_bytes}
use Rattle.race_model.specs.Trace.{TaskLog, Trace}
use Rattle.kernel_model.specs.declared.stop.StopWhy.{StopWhy}
use Rattle.kernel_syntax.specs.Program.{Program}
use Rattle.run_command.specs.declared.outcome.Outcome.{Outcome}
use Rattle.run_command.specs.declared.outcome.Outcome.TheVariants.{NoKernel, Refused, IndexThere, Stopped, Ran, ReadFault, WriteFault, NoMemory}
use Rattle.run_command.specs.Run.{AreLeftLogs, CameOut, EndedRun, IsLeftLog, LeavesPart, StoppedRun}
use Rattle.run_command.specs.Run as left
use Rattle.run_command.proofs.IndexKept.{IsOfFolder, prefix_keeps_index}

module _ (rose : Type 0) (dir : List ℕ) (size : ℕ) (path : List Step) where
  own_dir : (task : TaskLog) (log : HandedLog) → IsLeftLog rose dir size path task log → IsOfFolder dir log
  own_dir task log (left.whole is) = ap (λ (l : HandedLog). l.dir) is
  own_dir task log (left.torn fault other part) = ap (λ (l : HandedLog). l.dir) part.log_is

  -- the logs of a stop are of the folder
  own_dirs : (tasks : Trace) (logs : List HandedLog) → AreLeftLogs rose dir size path tasks logs → All (IsOfFolder dir) logs
  own_dirs _ _ left.no_task = All-nil (IsOfFolder dir)
  own_dirs _ _ (left.next task tasks log logs is rest) = All-cons (IsOfFolder dir) log logs (own_dir task log is) (own_dirs tasks logs rest)

module _ (rose : Type 0) (file dir : List ℕ) (size : ℕ) (old new : Content) where
  stopped_leaves : (program : Program) (path : List Step) (line : ℕ) (reason : StopWhy) → StoppedRun rose file dir size old new program path line reason → LeavesPart rose file dir size old new
  stopped_leaves program path line reason run =
      let sealed : SealsPrefix run.logs old new = between run.logs [] (sym (append-nil run.logs)) run.leaves in
      left.logs program run.can run.logs (left.stopped path line reason run.stopped) sealed
      (prefix_keeps_index dir run.logs old new (own_dirs rose dir size path run.stopped.tasks run.logs run.stopped.logs_are) sealed ∙ run.can.fresh)

  -- whatever came out
  pub came_leaves : (outcome : Outcome) → CameOut rose file dir size old new outcome → LeavesPart rose file dir size old new
  came_leaves NoKernel came = left.nothing came.1
  came_leaves (Refused line why) came = left.nothing came.1
  came_leaves IndexThere came = left.nothing came.1
  came_leaves (Stopped path line why) came = stopped_leaves came.0 path line why came.1
  came_leaves (Ran kernel tasks records words) came =
      left.index _ came.can came.tasks words.items came.run (index_bytes FORMAT (rows_of came.tasks)) [] (sym (append-nil (index_bytes FORMAT (rows_of came.tasks)))) came.leaves
  came_leaves ReadFault came = left.nothing came
  came_leaves WriteFault came = came
  came_leaves NoMemory came = came
