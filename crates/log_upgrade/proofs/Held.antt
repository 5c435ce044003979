-- The folder into which a run was brought over holds it, and is bad nowhere.
use Rattle.std.proofs.Common.{◌≡◌, ◌≢◌, ℕ, ◌<◌, List, [], ◌∷◌, length, get_or, take, sym, ◌∙◌}
use Rattle.std.proofs.lemmas.List.{length-map}
use Rattle.std.proofs.lemmas.List.Elements.{All-weaker}
use Rattle.std.proofs.lemmas.Option.{slice_get-get_or}
use Rattle.sw_base.specs.Environment.{Content}
use Rattle.sw_base.specs.Names.{index_name, log_name}
use Rattle.sw_base.proofs.AfterPut.{with_file-elsewhere}
use Rattle.sw_base.proofs.NameLaws.{log_name-not_index}
use Rattle.log_format.specs.declared.format.Format.TheVariants.{First}
use Rattle.log_format.specs.declared.format.TheConstants.{FORMAT}
use Rattle.log_format.specs.Table.{IsTabled}
use Rattle.log_format.proofs.Formats.{tabled_second}
use Rattle.race_model.specs.FirstBad.{HoldsTrace, row_of, rows_of}
use Rattle.race_model.specs.IndexFault.{AreRows}
use Rattle.race_model.specs.Row.{Row, index_bytes}
use Rattle.race_model.specs.Trace.{TaskLog, Trace}
use Rattle.race_model.specs.WellFormed.{IsWellFormed}
use Rattle.race_laws.proofs.IndexRows.{put_is_index}
use Rattle.log_walk.specs.GoodTrace.{IsGoodTask, IsGoodTrace}
use Rattle.log_walk.specs.Walk.{Walked}
use Rattle.log_walk.proofs.Places.{holds_trace, is_well_formed}
use Rattle.log_index.specs.Puts.{with_run, with_tasks}
use Rattle.log_index.proofs.Putting.{all_there}
use Rattle.log_walk.proofs.RowsApart.{all_places, rows_apart}

-- what is good by the first format is so by the second
task_second : (rows : List Row) (earlier : Trace) (task : TaskLog) → IsGoodTask First rows earlier task → IsGoodTask FORMAT rows earlier task
task_second rows earlier task good = record {
  spans = good.spans;
  has_spans = good.has_spans;
  due_barriers = good.due_barriers;
  has_team = good.has_team;
  tabled = All-weaker (IsTabled First) (IsTabled FORMAT) tabled_second task.records good.tabled;
  keeps = good.keeps;
}

trace_second : (rows : List Row) (trace : Trace) → IsGoodTrace First rows trace → IsGoodTrace FORMAT rows trace
trace_second rows trace good = record { rows_are = good.rows_are; each = λ k task found. task_second rows (take k trace) task (good.each k task found); limit = good.limit }

module _ (new : List ℕ) (trace : Trace) (good : IsGoodTrace First (rows_of trace) trace) (rows : AreRows (rows_of trace)) (content : Content) where
  abbrev after : Content
  after = with_tasks new trace content

  walked : Walked FORMAT (with_run new trace content).held new (rows_of trace) trace
  walked = record {
    index = put_is_index after.held new (rows_of trace) rows;
    logs = λ k d within. record {
      there = with_file-elsewhere (index_name new) (index_bytes FORMAT (rows_of trace)) after.held (log_name new (get_or trace k d).path) (log_name-not_index new (get_or trace k d).path)
          ∙ all_there new trace content (all_places trace rows.each) (rows_apart trace rows) k d within;
      tabled = (second.each k (get_or trace k d) (slice_get-get_or trace k d within)).tabled;
    };
    good = second;
  } where
    second : IsGoodTrace FORMAT (rows_of trace) trace
    second = trace_second (rows_of trace) trace good

  all : length trace ≡ length (rows_of trace)
  all = sym (length-map trace row_of)

  pub brought_well_formed : IsWellFormed FORMAT (with_run new trace content).held new
  brought_well_formed = is_well_formed (with_run new trace content).held new (rows_of trace) trace walked all

  pub brought_held : HoldsTrace FORMAT (with_run new trace content).held new trace
  brought_held = holds_trace (with_run new trace content).held new (rows_of trace) trace walked all
