-- The folder into which the logs of tasks and their index were put holds these tasks.
use Rattle.std.proofs.Common.{◌≡◌, ◌≢◌, ℕ, ◌<◌, List, [], ◌∷◌, get_or, map, Option, Some, sym, ap, subst, ◌∙◌}
use Rattle.std.specs.Prelude.{All}
use Rattle.std.specs.Option.{option_map}
use Rattle.std.proofs.lemmas.List.Elements.{All-weaker}
use Rattle.sw_base.specs.Environment.{Content, with_put}
use Rattle.sw_base.specs.Names.{index_name, log_name}
use Rattle.sw_base.proofs.AfterPut.{with_file-elsewhere}
use Rattle.sw_base.proofs.NameLaws.{log_name-not_index}
use Rattle.log_walk.proofs.RowsApart.{all_places, rows_apart}
use Rattle.log_format.specs.declared.format.TheConstants.{FORMAT}
use Rattle.log_format.specs.Table.{IsTabled}
use Rattle.race_model.specs.FirstBad.{HoldsTrace, rows_of}
use Rattle.race_model.specs.IndexFault.{AreRows}
use Rattle.race_model.specs.Row.{Row, index_bytes}
use Rattle.race_model.specs.Trace.{TaskLog, Trace}
use Rattle.race_laws.proofs.IndexRows.{put_is_index}
use Rattle.race_model.specs.KeepsRules.{TaskKeepsRules}
use Rattle.log_index.specs.Puts.{with_run, with_tasks}
use Rattle.log_index.proofs.Putting.{all_there}
use Rattle.serial_team.specs.Members.{WholeLog}
use Rattle.certify.specs.Holding.{HoldsTasks, row_of_log, with_logs}
use Rattle.certify.proofs.Putting.{put_tasks, rows_spelled}

pub run_held : (dir : List ℕ) (tasks : Trace) (content : Content) → AreRows (rows_of tasks) → All (λ (task : TaskLog). All (IsTabled FORMAT) task.records) tasks
    → HoldsTrace FORMAT (with_run dir tasks content).held dir tasks
run_held dir tasks content rows tabled = record {
  index = put_is_index (with_tasks dir tasks content).held dir (rows_of tasks) rows;
  logs = λ k d within. record {
    there = with_file-elsewhere (index_name dir) (index_bytes FORMAT (rows_of tasks)) (with_tasks dir tasks content).held (log_name dir (get_or tasks k d).path) (log_name-not_index dir (get_or tasks k d).path)
        ∙ all_there dir tasks content (all_places tasks rows.each) (rows_apart tasks rows) k d within;
    tabled = tabled k d within;
  };
}

-- the folder into which whole logs and the index of their rows were put holds the tasks whose records they spell
pub holds_tasks : (dir : List ℕ) (logs : List WholeLog) (content : Content) (between now : Option Content) (rows : List Row) → rows ≡ map row_of_log logs
    → between ≡ option_map (with_logs dir logs) (Some content) → now ≡ option_map (with_put (index_name dir) (index_bytes FORMAT rows)) between → HoldsTasks dir logs now
holds_tasks dir logs content between now rows rows_are put indexed = record {
  content = with_put (index_name dir) (index_bytes FORMAT rows) (with_logs dir logs content);
  is = indexed ∙ ap (option_map (with_put (index_name dir) (index_bytes FORMAT rows))) put;
  holds = λ tasks spells rules.
      let same : with_put (index_name dir) (index_bytes FORMAT rows) (with_logs dir logs content) ≡ with_run dir tasks content =
      ap (λ (rs : List Row). with_put (index_name dir) (index_bytes FORMAT rs) (with_logs dir logs content)) (rows_are ∙ (ap (map row_of_log) spells ∙ rows_spelled tasks))
      ∙ ap (with_put (index_name dir) (index_bytes FORMAT (rows_of tasks))) (ap (λ (ls : List WholeLog). with_logs dir ls content) spells ∙ put_tasks dir tasks content) in
      subst (λ (c : Content). HoldsTrace FORMAT c.held dir tasks) (sym same)
      (run_held dir tasks content rules.rows (All-weaker (TaskKeepsRules FORMAT tasks) (λ (task : TaskLog). All (IsTabled FORMAT) task.records) (λ task keeps. keeps.tabled) tasks rules.tasks));
}
