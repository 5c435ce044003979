use Rattle.writer_laws.proofs.AllCases.{whole_is_run, root_is_dropped, repeated_is_dropped, locks_are_moved, values_are_zero, region_is_cut, run_is_split, folders_are_written}
use Rattle.writer_laws.proofs.cases.all_laws_apply.Goals as goal

pub returns : goal.returns
returns c = record {
  run = whole_is_run;
  root = root_is_dropped;
  repeated = repeated_is_dropped;
  locks = locks_are_moved;
  values = values_are_zero;
  cut = region_is_cut;
  split = run_is_split;
  written = folders_are_written;
}
