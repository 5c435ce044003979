use Rattle.std.proofs.Common.{◌≡◌, ◌≤◌}
use Rattle.log_format.specs.declared.format.TheConstants.{FORMAT}
use Rattle.sw_base.specs.Environment.{WhereTold}
use Rattle.race_model.specs.FirstBad.{HoldsLogs, rows_of}
use Rattle.race_model.specs.KeepsRules.{KeepsRules}
use Rattle.race_model.specs.Trace.{Trace}
use Rattle.kernel_syntax.specs.Program.{program_of}
use Rattle.log_replay.specs.Ancestors.{forks_kept}
use Rattle.log_replay.proofs.AllTasks.{Compared}
use Rattle.log_replay.proofs.replaying.compare_rows.Given as goal

abbrev pub invariant-rows : goal.invariant-rows
invariant-rows g l = record {
  compared : WhereTold (g.F.Folder.state l.initial.folder).content (λ c. (tasks : Trace) → rows_of tasks ≡ l.fn.rows → HoldsLogs FORMAT c.held l.dir tasks → KeepsRules FORMAT tasks
      → Compared (program_of l.kernel) tasks (forks_kept l.kept.items) l.row-index);
  same : g.F.Folder.state l.folder ≡ g.F.Folder.state l.initial.folder;
  no_fault : g.F.Folder.read_faults l.folder ≡ g.F.Folder.read_faults l.initial.folder;
}
