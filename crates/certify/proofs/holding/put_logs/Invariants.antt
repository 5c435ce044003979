use Rattle.std.proofs.Common.{◌≡◌, ◌++◌, codes, map}
use Rattle.std.specs.Option.{option_map}
use Rattle.memory_environment.specs.MemFolder.{content_of}
use Rattle.serial_team.specs.Members.{whole_log}
use Rattle.certify.specs.Holding.{row_of_log, with_logs}
use Rattle.certify.proofs.holding.put_logs.Given as goal

abbrev pub invariant-loop-log : goal.invariant-loop-log
invariant-loop-log l = record {
  content : content_of l.folder ≡ option_map (with_logs (codes "c") (map whole_log l.yielded)) (content_of l.initial.folder);
  rows : l.rows.items ≡ l.initial.rows.items ++ map row_of_log (map whole_log l.yielded);
}
