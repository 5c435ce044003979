use Rattle.std.proofs.Common.{◌≡◌, ◌≤◌, ◌++◌}
use Rattle.std.specs.Option.{option_map}
use Rattle.race_model.specs.FirstBad.{rows_of}
use Rattle.generated_run.specs.Generated.{logs_of_lanes}
use Rattle.log_index.specs.Puts.{with_tasks}
use Rattle.generated_run.proofs.folder.put_lanes.Given as goal

abbrev pub invariant-loop-lane : goal.invariant-loop-lane
invariant-loop-lane g l = record {
  content : (g.F.Folder.state l.folder).content ≡ option_map (with_tasks l.dir (logs_of_lanes l.rounds l.lane)) (g.F.Folder.state l.fn.folder).content;
  rows : l.rows.items ≡ l.fn.rows.items ++ rows_of (logs_of_lanes l.rounds l.lane);
  later : (g.F.Folder.state l.fn.folder).write_faults ≤ (g.F.Folder.state l.folder).write_faults;
  same_roots : (g.F.Folder.state l.folder).roots ≡ (g.F.Folder.state l.fn.folder).roots;
  same_reads : g.F.Folder.read_faults l.folder ≡ g.F.Folder.read_faults l.fn.folder;
}
