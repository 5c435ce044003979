use Rattle.std.proofs.Common.{◌≡◌, ◌≤◌}
use Rattle.sw_base.specs.Environment.{Rose}
use Rattle.run_command.specs.Seals.{RaiseFaults}
use Rattle.run_command.proofs.sealing.discard_all.Given as goal

abbrev pub invariant-loop-log : goal.invariant-loop-log
invariant-loop-log g l = record {
  same : (g.F.Folder.state l.folder).content ≡ (g.F.Folder.state l.initial.folder).content;
  same_roots : (g.F.Folder.state l.folder).roots ≡ (g.F.Folder.state l.initial.folder).roots;
  same_reads : g.F.Folder.read_faults l.folder ≡ g.F.Folder.read_faults l.initial.folder;
  later : (g.F.Folder.state l.initial.folder).write_faults ≤ (g.F.Folder.state l.folder).write_faults;
  faulty : RaiseFaults g.F.Log.Log.faults l.yielded (Rose (g.F.Folder.state l.initial.folder).write_faults (g.F.Folder.state l.folder).write_faults);
}
