-- The logs of a folder that holds a trace.
use Rattle.std.proofs.Common.{ℕ, List, subst}
use Rattle.sw_base.specs.declared.path.Step.{Step}
use Rattle.sw_base.specs.Environment.{Files}
use Rattle.log_format.specs.declared.format.Format.{Format}
use Rattle.log_format.specs.declared.record.Record.{Record}
use Rattle.race_model.specs.Trace.{TaskLog, Trace, logs_of}
use Rattle.race_model.specs.LogFault.{IsWholeLog}
use Rattle.race_model.specs.FirstBad.{HoldsTrace}
use Rattle.race_model.specs.ForkJoin.{IsTask}
use Rattle.race_model.proofs.TraceLogs.{all_at, find_task}

-- the records at a path are those of the log there
pub held_log : {format : Format} (files : Files) (dir : List ℕ) (trace : Trace) → HoldsTrace format files dir trace → (path : List Step) → IsTask (logs_of trace) path
    → IsWholeLog format files dir path (logs_of trace path)
held_log {format} files dir trace holds path there =
    let f = find_task trace path there in
    subst (λ (records : List Record). IsWholeLog format files dir path records) f.records_are
    (subst (λ (p : List Step). IsWholeLog format files dir p f.task.records) f.path_is
    (all_at (λ (t : TaskLog). IsWholeLog format files dir t.path t.records) trace f.index f.task holds.logs f.found))
