use Rattle.std.proofs.Common.{◌≡◌, ◌≤◌, is_some, IsErrOf, OnOk}
use Rattle.sw_base.specs.Environment.{Rose}
use Rattle.sw_base.specs.declared.trouble.Trouble.TheVariants as trouble
use Rattle.region_runner.specs.Answer.{AreFaultless}
use Rattle.run_command.specs.Seals.{RaiseFaults, SealsAll, all_logged}
use Rattle.run_command.proofs.sealing.seal_all.Given as goal

abbrev pub invariant-loop-log : goal.invariant-loop-log
invariant-loop-log g l = record {
  seals : SealsAll (all_logged g.F.Log.Log.dir g.F.Log.Log.path g.F.Log.Log.text l.yielded) l.outcome (g.F.Folder.state l.initial.folder).content (g.F.Folder.state l.folder).content;
  tells : is_some (g.F.Folder.state l.folder).content ≡ is_some (g.F.Folder.state l.initial.folder).content;
  same_roots : (g.F.Folder.state l.folder).roots ≡ (g.F.Folder.state l.initial.folder).roots;
  same_reads : g.F.Folder.read_faults l.folder ≡ g.F.Folder.read_faults l.initial.folder;
  later : (g.F.Folder.state l.initial.folder).write_faults ≤ (g.F.Folder.state l.folder).write_faults;
  faulty : RaiseFaults g.F.Log.Log.faults l.yielded (Rose (g.F.Folder.state l.initial.folder).write_faults (g.F.Folder.state l.folder).write_faults);
  no_fault : OnOk l.outcome (AreFaultless g.F.Log.Log.faults l.yielded → (g.F.Folder.state l.folder).write_faults ≡ (g.F.Folder.state l.initial.folder).write_faults);
  cause : IsErrOf l.outcome trouble.Failed → Rose (g.F.Folder.state l.initial.folder).write_faults (g.F.Folder.state l.folder).write_faults;
}
