-- What keeps the rules of the first format keeps those of the second.
use Rattle.std.proofs.lemmas.List.Elements.{All-weaker}
use Rattle.log_format.specs.declared.format.Format.TheVariants.{First, Second}
use Rattle.log_format.specs.Table.{IsTabled}
use Rattle.log_format.proofs.Formats.{tabled_second}
use Rattle.race_model.specs.KeepsRules.{TaskKeepsRules, KeepsRules}
use Rattle.race_model.specs.Trace.{TaskLog, Trace}

task_keeps_second : (trace : Trace) (task : TaskLog) → TaskKeepsRules First trace task → TaskKeepsRules Second trace task
task_keeps_second trace task good = record {
  tabled = All-weaker (IsTabled First) (IsTabled Second) tabled_second task.records good.tabled;
  spans = good.spans;
  has_spans = good.has_spans;
  due_barriers = good.due_barriers;
  knows_team = good.knows_team;
  keeps = good.keeps;
}

pub keeps_second : (trace : Trace) → KeepsRules First trace → KeepsRules Second trace
keeps_second trace good = record {
  rows = good.rows;
  tasks = All-weaker (TaskKeepsRules First trace) (TaskKeepsRules Second trace) (task_keeps_second trace) trace good.tasks;
}
