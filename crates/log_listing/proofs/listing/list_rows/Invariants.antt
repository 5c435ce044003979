use Rattle.std.proofs.Common.{string_bytes, ◌≡◌, ◌≤◌}
use Rattle.log_format.specs.declared.format.TheConstants.{FORMAT}
use Rattle.sw_base.specs.Environment.{WhereTold}
use Rattle.race_model.specs.FirstBad.{HoldsLogs, rows_of}
use Rattle.race_model.specs.Trace.{TaskLog, Trace}
use Rattle.log_listing.specs.Listing.{log_text}
use Rattle.log_listing.proofs.ListedLogs.{LogsTo}
use Rattle.log_listing.proofs.listing.list_rows.Given as goal

abbrev pub invariant-rows : goal.invariant-rows
invariant-rows g l = record {
  listed : WhereTold (g.F.Folder.state l.initial.folder).content (λ c. (trace : Trace) → rows_of trace ≡ l.fn.rows → HoldsLogs FORMAT c.held l.dir trace
      → LogsTo (λ (task : TaskLog). log_text task.path task.records) trace (g.O.Out.written l.initial.out) (string_bytes l.initial.lines) (g.O.Out.written l.out) (string_bytes l.lines) l.row-index);
  same : g.F.Folder.state l.folder ≡ g.F.Folder.state l.initial.folder;
  no_fault : g.F.Folder.read_faults l.folder ≡ g.F.Folder.read_faults l.initial.folder;
  later_out : g.O.Out.faults l.initial.out ≤ g.O.Out.faults l.out;
}
