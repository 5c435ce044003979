-- The barrier interval of an access.
use Rattle.std.proofs.Common.{◌≡◌, ℕ, ◌+◌, ◌≤◌, true, List, [], take, Some, refl, sym, ap, subst, ◌∙◌, arith}
use Rattle.std.specs.Prelude.{slice_get, filter, Contains}
use Rattle.std.specs.List.{AllZip}
use Rattle.log_format.specs.declared.record.Record.{Record}
use Rattle.race_model.specs.Race.{IsAccess, held_after, held_at}
use Rattle.race_model.specs.Segment.{Event, Segment as Interval, is_access, is_access_event, has_access, runs_of, events, segment_of, intervals, task_segments, segments_of, first_number, last_number}
use Rattle.race_model.specs.Trace.{Trace, Node, logs_of, record_at}
use Rattle.log_segment.specs.Accesses.{key_at}
use Rattle.log_segment.specs.Intervals.{HasEvent, IsSegmentOf}
use Rattle.log_segment.specs.declared.segment.Segment.{Segment}
use Rattle.log_segment.proofs.Following.{kind_access}
use Rattle.log_segment.proofs.Members.{In, to_contains, in_map, in_filter, in_flat, zip_on}
use Rattle.log_segment.proofs.Runs.{event_there, events_numbered, run_numbered, within_run, OfRun, of_run, run_accesses}
use Rattle.explain.specs.Suspects.{HasOwn}
use Rattle.explain.specs.Witness.{IsInLog}

-- the barrier intervals of a run, in order
abbrev pub AreOfRun : Trace → List Segment → Type 0
AreOfRun trace segments = AllZip (IsSegmentOf (logs_of trace)) (segments_of trace) segments

pub has_own : (trace : Trace) (segments : List Segment) (place : ℕ) (x : Node) (r : Record) → AreOfRun trace segments → (at : IsInLog trace place x) → logs_of trace at.task.path ≡ at.task.records
    → record_at (logs_of trace) x ≡ Some r → IsAccess r → (own : Segment) × Contains segments own × HasOwn (logs_of trace) x r own
has_own trace segments place x r all at log found access =
    let records : logs_of trace x.path ≡ at.task.records = ap (logs_of trace) at.path_is ∙ log in
    let e : Event = record { number = 1 + x.index; event = r; held = held_after [] (take x.index at.task.records) } in
    let there : slice_get at.task.records x.index ≡ Some r = subst (λ (rs : List Record). slice_get rs x.index ≡ Some r) records found in
    let is : is_access r.kind ≡ true = kind_access r.kind access in
    let o : OfRun (events at.task.records) e = of_run (events at.task.records) e (event_there 1 [] at.task.records x.index r there) is in
    let m : Interval = segment_of at.task.path o.run in
    let kept : In o.run (intervals at.task.records) = in_filter has_access o.run (runs_of (events at.task.records)) o.is_run (run_accesses o.run e o.is_in is) in
    let listed : In m (segments_of trace) = in_flat task_segments m trace place at.task at.listed (in_map (segment_of at.task.path) o.run (intervals at.task.records) kept) in
    let mate = zip_on (IsSegmentOf (logs_of trace)) (segments_of trace) segments m all listed in
    let bounds = within_run o.run e (run_numbered 1 (events at.task.records) o.run (events_numbered 1 [] at.task.records) o.is_run) o.is_in in
    let low : first_number o.run ≤ 1 + x.index = bounds.0 in
    let high : 1 + x.index ≤ last_number o.run = bounds.1 in
    let first : mate.mate.first ≡ first_number o.run = mate.related.first in
    let last : mate.mate.last ≡ last_number o.run = mate.related.last in
    let path : x.path ≡ mate.mate.path = at.path_is ∙ sym mate.related.path in
    let keyed : key_at r (held_at (logs_of trace) x) ≡ key_at r e.held = ap (λ (rs : List Record). key_at r (held_after [] (take x.index rs))) records in
    let has : HasEvent (filter is_access_event o.run) (key_at r (held_at (logs_of trace) x)) r.addr =
    record { event = e; listed = to_contains e (filter is_access_event o.run) (in_filter is_access_event e o.run o.is_in is); keyed = keyed; addressed = refl } in (
      mate.mate,
      to_contains mate.mate segments mate.is_in,
      record {
        within = record { path_is = sym path; low = omega (arith, low, first); high = omega (arith, high, last) };
        has = record {
          listed = (mate.related.runs (key_at r (held_at (logs_of trace) x)) r.addr).1 has;
          at_node = record { found = found; access = access; keyed = refl; addressed = refl };
          in_log = path;
          label = mate.related.label x path (omega (arith, low, first)) (omega (arith, high, last));
        };
      },
    )
