use Rattle.std.proofs.Common.{◌≡◌, ◌≤◌, take, Some}
use Rattle.std.specs.Prelude.{is_some}
use Rattle.sw_base.specs.Environment.{WhereTold}
use Rattle.race_model.specs.Trace.{Trace}
use Rattle.log_index.specs.Puts.{with_tasks}
use Rattle.log_upgrade.specs.Upgrade.{CanBring}
use Rattle.log_upgrade.proofs.logs.bring_logs.Given as goal

abbrev pub invariant-rows : goal.invariant-rows
invariant-rows g l = record {
  brought : WhereTold (g.F.Folder.state l.fn.folder).content (λ c. (trace : Trace) → CanBring c.held l.dir l.new l.fn.rows trace
      → (g.F.Folder.state l.folder).content ≡ Some (with_tasks l.new (take l.row-index trace) c));
  no_fault : g.F.Folder.read_faults l.folder ≡ g.F.Folder.read_faults l.fn.folder;
  same_faults : (g.F.Folder.state l.folder).write_faults ≡ (g.F.Folder.state l.fn.folder).write_faults;
  same_roots : (g.F.Folder.state l.folder).roots ≡ (g.F.Folder.state l.fn.folder).roots;
  tells : is_some (g.F.Folder.state l.folder).content ≡ is_some (g.F.Folder.state l.fn.folder).content;
}
