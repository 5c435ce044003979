-- The segments of a run have its accesses, each with its label.
use Rattle.std.proofs.Common.{◌≡◌, ◌⊎◌, inl, inr, ℕ, ◌+◌, ◌≤◌, true, List, [], take, Some, refl, sym, ap, subst, ◌∙◌, arith}
use Rattle.std.specs.Prelude.{slice_get, filter, Contains}
use Rattle.std.specs.List.{AllZip}
use Rattle.std.proofs.lemmas.Option.{slice_get_within}
use Rattle.sw_base.specs.declared.path.Step.{Step}
use Rattle.log_format.specs.declared.record.Record.{Record}
use Rattle.log_format.specs.declared.record.Kind.{Kind}
use Rattle.log_format.specs.declared.record.Kind.TheVariants.{Read, Write, Lock, Unlock, Barrier, Region, Chunk, End, Update}
use Rattle.race_model.specs.Trace.{TaskLog, Trace, Logs, Node, record_at}
use Rattle.race_model.specs.ForkJoin.{IsTask}
use Rattle.race_model.specs.Race.{IsAccess, held_after}
use Rattle.race_model.specs.Segment.{Event, Segment as Interval, is_access, is_access_event, has_access, runs_of, events, segment_of, intervals, task_segments, segments_of, first_number, last_number}
use Rattle.stride_summary.specs.declared.key.Key.{Key}
use Rattle.stride_summary.specs.Run.{HasPair}
use Rattle.log_segment.specs.Accesses.{key_at}
use Rattle.log_segment.specs.declared.segment.Segment.{Segment}
use Rattle.log_segment.specs.Intervals.{HasEvent, IsSegmentOf, IsAccessAt, HasAccess, AreSegments}
use Rattle.log_segment.specs.OneTree.{IsSegmentIn}
use Rattle.log_segment.proofs.Following.{kind_access}
use Rattle.log_segment.proofs.Members.{In, from_contains, to_contains, in_map, map_back, in_filter, filter_back, flat_back, in_flat, zip_back, zip_on}
use Rattle.log_segment.proofs.Runs.{event_back, event_there, events_numbered, run_numbered, within_run, run_back, OfRun, of_run, run_accesses}

-- kinds
access_kind : (k : Kind) → is_access k ≡ true → (k ≡ Read) ⊎ (k ≡ Write) ⊎ (k ≡ Update)
access_kind Read e = inl refl
access_kind Write e = inr (inl refl)
access_kind Lock e = cc
access_kind Unlock e = cc
access_kind Barrier e = cc
access_kind Region e = cc
access_kind Chunk e = cc
access_kind End e = cc
access_kind Update e = inr (inr refl)

-- an access of an interval stands in the log, between its ends
record Stands (logs : Logs) (path : List Step) (m : Interval) (e : Event) : Type 0 where
  x : Node
  in_log : x.path ≡ path
  at : IsAccessAt logs x e.event (key_at e.event e.held) e.event.addr
  low : m.first ≤ x.index + 1
  high : x.index + 1 ≤ m.last

stands : (logs : Logs) (path : List Step) (records : List Record) (run : List Event) (e : Event) → logs path ≡ records → In run (runs_of (events records)) → In e run → is_access_event e ≡ true
    → Stands logs path (segment_of path run) e
stands logs path records run e log is_run is_in access =
    let at = event_back 1 [] records e (run_back (events records) run e is_run is_in) in
    let bounds = within_run run e (run_numbered 1 (events records) run (events_numbered 1 [] records) is_run) is_in in
    let number : e.number ≡ 1 + at.index = at.number in
    record {
      x = record { path = path; index = at.index };
      in_log = refl;
      at = record {
        found = subst (λ (rs : List Record). slice_get rs at.index ≡ Some e.event) (sym log) at.found;
        access = access_kind e.event.kind access;
        keyed = ap (λ (h : List ℕ). key_at e.event h) (at.held_is ∙ ap (λ (rs : List Record). held_after [] (take at.index rs)) (sym log));
        addressed = refl;
      };
      low = (let l = bounds.0 in omega arith);
      high = (let h = bounds.1 in omega arith);
    }

-- a pair of the segment is that of an event
has_access_at : (logs : Logs) (path : List Step) (run : List Event) (segment : Segment) (key : Key) (address : ℕ) → IsSegmentOf logs (segment_of path run) segment → HasPair segment.runs.items key address
    → (h : HasEvent (filter is_access_event run) key address) → (s : Stands logs path (segment_of path run) h.event) → HasAccess logs segment s.x h.event.event key address
has_access_at logs path run segment key address of listed h s = record {
  listed = listed;
  at_node = record {
    found = s.at.found;
    access = s.at.access;
    keyed = h.keyed ∙ s.at.keyed;
    addressed = h.addressed ∙ s.at.addressed;
  };
  in_log = s.in_log ∙ sym of.path;
  label = of.label s.x (s.in_log ∙ sym of.path) (let f = of.first in let l = s.low in omega arith) (let f = of.last in let h = s.high in omega arith);
}

-- an interval of a run, and its place
record Placed (trace : Trace) (m : Interval) : Type 0 where
  index : ℕ
  task : TaskLog
  found : slice_get trace index ≡ Some task
  run : List Event
  is_run : In run (runs_of (events task.records))
  is : segment_of task.path run ≡ m

placed : (trace : Trace) (m : Interval) → In m (segments_of trace) → Placed trace m
placed trace m h =
    let f = flat_back task_segments m trace h in
    let r = map_back (segment_of f.from.path) m (intervals f.from.records) f.is_in in
    let k = filter_back has_access r.from (runs_of (events f.from.records)) r.is_in in
    record { index = f.index; task = f.from; found = f.found; run = r.from; is_run = k.0; is = r.is }

-- a task of a trace
pub record IsTaskOf (trace : Trace) (path : List Step) : Type 0 where
  pub index : ℕ
  pub task : TaskLog
  pub found : slice_get trace index ≡ Some task
  pub path_is : task.path ≡ path

-- the segments of these tasks are the accesses of their logs
module _ (logs : Logs) (trace : Trace) (IsOne : List Step → Type 0) (at_path : (k : ℕ) (task : TaskLog) → slice_get trace k ≡ Some task → logs task.path ≡ task.records)
    (mine : (k : ℕ) (task : TaskLog) → slice_get trace k ≡ Some task → IsOne task.path)
    (covers : (path : List Step) → IsOne path → IsTask logs path → IsTaskOf trace path) where
  of_access : (segment : Segment) (m : Interval) (key : Key) (address : ℕ) → IsSegmentOf logs m segment → In m (segments_of trace) → HasPair segment.runs.items key address
      → IsOne segment.path × ((x : Node) × (r : Record) × HasAccess logs segment x r key address)
  of_access segment m key address of listed has =
      let p = placed trace m listed in
      let is_of : IsSegmentOf logs (segment_of p.task.path p.run) segment = subst (λ (i : Interval). IsSegmentOf logs i segment) (sym p.is) of in
      let h = (is_of.runs key address).0 has in
      let in_run = filter_back is_access_event h.event p.run (from_contains h.event (filter is_access_event p.run) h.listed) in
      let s = stands logs p.task.path p.task.records p.run h.event (at_path p.index p.task p.found) p.is_run in_run.0 in_run.1 in (
        subst IsOne (sym is_of.path) (mine p.index p.task p.found),
        (s.x, h.event.event, has_access_at logs p.task.path p.run segment key address is_of has h s),
      )

  to_access : (segments : List Segment) → AllZip (IsSegmentOf logs) (segments_of trace) segments → (x : Node) (r : Record) → IsOne x.path → record_at logs x ≡ Some r → IsAccess r
      → (segment : Segment) × Contains segments segment × (key : Key) × (address : ℕ) × HasAccess logs segment x r key address
  to_access segments all x r one found access = go (covers x.path one (let within = slice_get_within (logs x.path) x.index r found in omega arith))
    where
      go : IsTaskOf trace x.path → (segment : Segment) × Contains segments segment × (key : Key) × (address : ℕ) × HasAccess logs segment x r key address
      go f =
          let records : logs x.path ≡ f.task.records = ap logs (sym f.path_is) ∙ at_path f.index f.task f.found in
          let e : Event = record { number = 1 + x.index; event = r; held = held_after [] (take x.index f.task.records) } in
          let there : slice_get f.task.records x.index ≡ Some r = subst (λ (rs : List Record). slice_get rs x.index ≡ Some r) records found in
          let is : is_access r.kind ≡ true = kind_access r.kind access in
          let o : OfRun (events f.task.records) e = of_run (events f.task.records) e (event_there 1 [] f.task.records x.index r there) is in
          let m : Interval = segment_of f.task.path o.run in
          let kept : In o.run (intervals f.task.records) = in_filter has_access o.run (runs_of (events f.task.records)) o.is_run (run_accesses o.run e o.is_in is) in
          let listed : In m (segments_of trace) = in_flat task_segments m trace f.index f.task f.found (in_map (segment_of f.task.path) o.run (intervals f.task.records) kept) in
          let mate = zip_on (IsSegmentOf logs) (segments_of trace) segments m all listed in
          let bounds = within_run o.run e (run_numbered 1 (events f.task.records) o.run (events_numbered 1 [] f.task.records) o.is_run) o.is_in in
          let low : first_number o.run ≤ 1 + x.index = bounds.0 in
          let high : 1 + x.index ≤ last_number o.run = bounds.1 in
          let has : HasEvent (filter is_access_event o.run) (key_at r e.held) r.addr =
          record { event = e; listed = to_contains e (filter is_access_event o.run) (in_filter is_access_event e o.run o.is_in is); keyed = refl; addressed = refl } in
          let path : x.path ≡ mate.mate.path = sym f.path_is ∙ sym mate.related.path in (
            mate.mate,
            to_contains mate.mate segments mate.is_in,
            key_at r e.held,
            r.addr,
            record {
              listed = (mate.related.runs (key_at r e.held) r.addr).1 has;
              at_node = record {
                found = found;
                access = access;
                keyed = ap (λ (rs : List Record). key_at r (held_after [] (take x.index rs))) (sym records);
                addressed = refl;
              };
              in_log = path;
              label = mate.related.label x path (let f1 = mate.related.first in omega arith) (let l1 = mate.related.last in omega arith);
            },
          )

  pub are_segments : (segments : List Segment) → AllZip (IsSegmentOf logs) (segments_of trace) segments → AreSegments logs IsOne segments
  are_segments segments all = record {
    each = λ segment listed key address has.
        (let p = zip_back (IsSegmentOf logs) (segments_of trace) segments segment all (from_contains segment segments listed) in
        of_access segment p.mate key address p.related p.is_in has);
    all = to_access segments all;
  }

-- each stands in its task's log
pub in_its_log : (logs : Logs) (trace : Trace) → ((k : ℕ) (task : TaskLog) → slice_get trace k ≡ Some task → logs task.path ≡ task.records) → (segments : List Segment)
    → AllZip (IsSegmentOf logs) (segments_of trace) segments → (segment : Segment) → Contains segments segment → IsSegmentIn logs segment
in_its_log logs trace at_path segments all segment listed =
    let p = zip_back (IsSegmentOf logs) (segments_of trace) segments segment all (from_contains segment segments listed) in
    let f = flat_back task_segments p.mate trace p.is_in in
    let r = map_back (segment_of f.from.path) p.mate (intervals f.from.records) f.is_in in
    let path : segment.path ≡ f.from.path = p.related.path ∙ ap (λ (m : Interval). m.path) (sym r.is) in
    let records : f.from.records ≡ logs segment.path = sym (at_path f.index f.from f.found) ∙ ap logs (sym path) in
    record {
      interval = p.mate;
      listed = subst (λ (task : TaskLog). Contains (task_segments task) p.mate) (λ i. record { path = sym path i; records = records i }) (to_contains p.mate (task_segments f.from) f.is_in);
      is = p.related;
    }
