-- A folder that holds a run is bad nowhere exactly if the run keeps the rules and has few segments.
use Rattle.std.proofs.Common.{◌≡◌, ◌⊎◌, inl, inr, ℕ, ◌+◌, ◌<◌, ◌≤◌, List, [], ◌∷◌, ◌++◌, length, take, Some, refl, sym, ap, subst, ◌∙◌, append-nil, append_assoc, Bool, true, false, arith}
use Rattle.std.specs.Prelude.{slice_get, All}
use Rattle.std.specs.List.{flat_map}
use Rattle.std.proofs.lemmas.Bool.{cases_lt}
use Rattle.std.proofs.lemmas.List.{take-append-le, take_all, take_more, map-append, take-map, length-map, length-append}
use Rattle.std.proofs.lemmas.List.Elements.{All-take}
use Rattle.std.proofs.lemmas.List.Sums.{sum_by-take-le}
use Rattle.std.proofs.lemmas.Option.{same_Some, slice_get_within, get_or_from_slice_get}
use Rattle.sw_base.specs.Environment.{Files}
use Rattle.sw_base.specs.Names.{log_name}
use Rattle.sw_base.proofs.Lists.{get_seam}
use Rattle.log_format.specs.declared.format.TheConstants.{FORMAT}
use Rattle.log_format.specs.declared.record.Record.{Record}
use Rattle.log_format.specs.declared.record.Kind.{Kind}
use Rattle.log_format.specs.declared.record.Kind.TheVariants.{Read, Write, Lock, Unlock, Barrier, Region, Chunk, End, Update}
use Rattle.log_format.specs.Format.{log_header}
use Rattle.log_format.specs.Spelling.{spelling, log_bytes}
use Rattle.log_format.specs.Table.{IsTabled}
use Rattle.log_format.proofs.Logs.{log_bytes-append}
use Rattle.race_model.specs.BadPlace.{BadPlace, IsTooMany, no_index, bad_row, missing_log, bad_record, too_many_segments}
use Rattle.race_model.specs.FirstBad.{HoldsTrace, HoldsLogs, IsBad, IsOneTooMany, row_of, rows_of, segments_in}
use Rattle.race_model.specs.KeepsRules.{KeepsRules}
use Rattle.race_model.specs.LogFault.{IsRecord, IsWholeLog, OpensTooMany, max_segments}
use Rattle.race_model.specs.Row.{Row}
use Rattle.race_model.specs.Segment.{segment_count}
use Rattle.race_model.specs.Trace.{TaskLog, Trace}
use Rattle.race_model.specs.WellFormed.{IsWellFormed}
use Rattle.race_model.proofs.TraceLogs.{all_at, task_in}
use Rattle.race_laws.proofs.FolderTrace.{same_tasks}
use Rattle.race_laws.proofs.IndexRows.{index_once}
use Rattle.race_laws.proofs.KeptFolder.{kept_bad}
use Rattle.race_laws.proofs.LogReading.{whole_read}
use Rattle.log_walk.specs.Check.{is_open_after, opens_by}
use Rattle.log_walk.proofs.Next.{no_overflow_in}
use Rattle.log_walk.proofs.Opening.{segment_count-push}
use Rattle.log_walk.proofs.Places.{segments_push}

taken : {X : Type 0} (xs ys : List X) → take (length xs) (xs ++ ys) ≡ xs
taken xs ys = take-append-le (length xs) xs ys (omega arith) ∙ take_all (length xs) xs (omega arith)

-- ---- where there are too many

-- the log in which segments grow too many
record Crosses (tasks : Trace) : Type 0 where
  before : Trace
  task : TaskLog
  after : Trace
  parts : tasks ≡ before ++ task ∷ after
  few : segments_in before ≤ max_segments
  many : max_segments < segments_in before + segment_count task.records

crosses : (before after : Trace) → segments_in before ≤ max_segments → max_segments < segments_in (before ++ after) → Crosses (before ++ after)
crosses before [] few many = absurd (omega (arith, few, many, ap (λ (t : Trace). segments_in t) (append-nil before)))
crosses before (task ∷ after) few many =
    let same : (before ++ task ∷ []) ++ after ≡ before ++ task ∷ after = append_assoc before (task ∷ []) after in
    elim (cases_lt max_segments (segments_in before + segment_count task.records)) [
      | inl over ↦ record { before = before; task = task; after = after; parts = refl; few = few; many = over }
      | inr room ↦ subst Crosses same (crosses (before ++ task ∷ []) after (omega (arith, segments_push before task, room)) (subst (λ (t : Trace). max_segments < segments_in t) (sym same) many))
    ]

opens_at_most_one : (kind : Kind) (open_before : Bool) → opens_by kind open_before ≤ 1
opens_at_most_one Read true = omega arith
opens_at_most_one Read false = omega arith
opens_at_most_one Write true = omega arith
opens_at_most_one Write false = omega arith
opens_at_most_one Lock o = omega arith
opens_at_most_one Unlock o = omega arith
opens_at_most_one Barrier o = omega arith
opens_at_most_one Region o = omega arith
opens_at_most_one Chunk o = omega arith
opens_at_most_one End o = omega arith
opens_at_most_one Update true = omega arith
opens_at_most_one Update false = omega arith

-- the record that opens the first one too many
record Opens (opened : ℕ) (records : List Record) : Type 0 where
  before : List Record
  r : Record
  after : List Record
  parts : records ≡ before ++ r ∷ after
  full : opened + segment_count before ≡ max_segments
  opens : segment_count (before ++ r ∷ []) ≡ segment_count before + 1

opens_in : (opened : ℕ) (before after : List Record) → opened + segment_count before ≤ max_segments → max_segments < opened + segment_count (before ++ after) → Opens opened (before ++ after)
opens_in opened before [] few many = absurd (omega (arith, few, many, ap (λ (rs : List Record). segment_count rs) (append-nil before)))
opens_in opened before (r ∷ after) few many =
    let same : (before ++ r ∷ []) ++ after ≡ before ++ r ∷ after = append_assoc before (r ∷ []) after in
    let most : segment_count (before ++ r ∷ []) ≤ segment_count before + 1 = omega (arith, segment_count-push before r, opens_at_most_one r.kind (is_open_after false before)) in
    elim (cases_lt max_segments (opened + segment_count (before ++ r ∷ []))) [
      | inl over ↦ record { before = before; r = r; after = after; parts = refl; full = omega (arith, few, over, most); opens = omega (arith, few, over, most) }
      | inr room ↦ subst (Opens opened) same (opens_in opened (before ++ r ∷ []) after room (subst (λ (rs : List Record). max_segments < opened + segment_count rs) (sym same) many))
    ]

abbrev IsWhole : Files → List ℕ → TaskLog → Type 0
IsWhole files dir task = IsWholeLog FORMAT files dir task.path task.records

-- a folder whose run has too many segments is bad where one is too many
too_many : (files : Files) (dir : List ℕ) (trace : Trace) → HoldsTrace FORMAT files dir trace → max_segments < segments_in trace → (row : ℕ) × (n : ℕ) × IsBad FORMAT files dir (too_many_segments row n)
too_many files dir trace holds many = (length c.before + 1, length o.before + 1, (rows_of trace, holds.index, here)) where
  c : Crosses trace
  c = crosses [] trace (omega arith) many

  o : Opens (segments_in c.before) c.task.records
  o = opens_in (segments_in c.before) [] c.task.records (omega (arith, c.few)) c.many

  logs : HoldsLogs FORMAT files dir (c.before ++ c.task ∷ c.after)
  logs = subst (λ (t : Trace). HoldsLogs FORMAT files dir t) c.parts holds.logs

  own : IsWhole files dir c.task
  own = all_at (IsWhole files dir) (c.before ++ c.task ∷ c.after) (length c.before) c.task logs (get_seam c.before c.task c.after)

  listed : slice_get (rows_of trace) (length c.before) ≡ Some (row_of c.task)
  listed = ap (λ (t : Trace). slice_get (rows_of t) (length c.before)) c.parts
      ∙ ap (λ (rows : List Row). slice_get rows (length c.before)) (map-append row_of c.before (c.task ∷ c.after))
      ∙ ap (λ (n : ℕ). slice_get (rows_of c.before ++ rows_of (c.task ∷ c.after)) n) (sym (length-map c.before row_of))
      ∙ get_seam (rows_of c.before) (row_of c.task) (rows_of c.after)

  earlier_rows : rows_of c.before ≡ take (length c.before) (rows_of trace)
  earlier_rows = ap (λ (t : Trace). rows_of t) (sym (taken c.before (c.task ∷ c.after)))
      ∙ sym (take-map row_of (length c.before) (c.before ++ c.task ∷ c.after))
      ∙ ap (λ (t : Trace). take (length c.before) (rows_of t)) (sym c.parts)

  tabled : All (IsTabled FORMAT) (o.before ++ o.r ∷ o.after)
  tabled = subst (λ (rs : List Record). All (IsTabled FORMAT) rs) o.parts own.tabled

  at : IsRecord FORMAT (log_bytes (log_header FORMAT) c.task.records) (length c.task.records) (length o.before + 1) o.before o.r
  at = record {
    rest = flat_map spelling o.after;
    at = record {
      read = record {
        parts = ap (λ (rs : List Record). log_bytes (log_header FORMAT) rs) o.parts ∙ log_bytes-append (log_header FORMAT) o.before (o.r ∷ o.after);
        tabled = subst (λ (rs : List Record). All (IsTabled FORMAT) rs) (taken o.before (o.r ∷ o.after)) (All-take (IsTabled FORMAT) (length o.before) (o.before ++ o.r ∷ o.after) tabled);
      };
      number = refl;
      counted = omega (arith, ap (λ (rs : List Record). length rs) o.parts, length-append o.before (o.r ∷ o.after));
    };
    tabled = all_at (IsTabled FORMAT) (o.before ++ o.r ∷ o.after) (length o.before) o.r tabled (get_seam o.before o.r o.after);
  }

  here : IsOneTooMany FORMAT files dir (rows_of trace) (length c.before + 1) (length o.before + 1)
  here = record {
    task = row_of c.task;
    listed = record { index = length c.before; number = refl; listed = listed };
    bytes = log_bytes (log_header FORMAT) c.task.records;
    there = own.there;
    earlier = c.before;
    earlier_rows = earlier_rows;
    earlier_logs = subst (λ (t : Trace). HoldsLogs FORMAT files dir t) (taken c.before (c.task ∷ c.after)) (All-take (IsWhole files dir) (length c.before) (c.before ++ c.task ∷ c.after) logs);
    over = record { before = o.before; r = o.r; at = at; full = o.full; opens = o.opens };
  }

-- a folder without a bad place has few
pub few_segments : (files : Files) (dir : List ℕ) (trace : Trace) → HoldsTrace FORMAT files dir trace → IsWellFormed FORMAT files dir → segments_in trace ≤ max_segments
few_segments files dir trace holds good = at (cases_lt max_segments (segments_in trace)) where
  at : (max_segments < segments_in trace) ⊎ (segments_in trace ≤ max_segments) → segments_in trace ≤ max_segments
  at (inl many) = let (row, n, bad) = too_many files dir trace holds many in absurd (good (too_many_segments row n) bad)
  at (inr few) = few

-- ---- and where there are few, none is

none_too_many : (files : Files) (dir : List ℕ) (trace : Trace) → HoldsTrace FORMAT files dir trace → segments_in trace ≤ max_segments → (row n : ℕ) → IsOneTooMany FORMAT files dir (rows_of trace) row n → ⊥
none_too_many files dir trace holds few row n bad =
    let t = task_in trace bad.listed.index bad.task bad.listed.listed in
    let whole : IsWhole files dir t.task = all_at (IsWhole files dir) trace bad.listed.index t.task holds.logs t.found in
    let own : log_bytes (log_header FORMAT) t.task.records ≡ bad.bytes
    = same_Some (log_bytes (log_header FORMAT) t.task.records) bad.bytes (sym whole.there ∙ (ap (λ (r : Row). files (log_name dir r.path)) (sym t.row_is) ∙ bad.there)) in
    let earlier : bad.earlier ≡ take bad.listed.index trace
    = same_tasks files dir bad.earlier (take bad.listed.index trace) (bad.earlier_rows ∙ take-map row_of bad.listed.index trace) bad.earlier_logs (All-take (IsWhole files dir) bad.listed.index trace holds.logs) in
    let count : bad.task.records ≡ length t.task.records = ap (λ (r : Row). r.records) t.row_is in
    let sum : segments_in (take (bad.listed.index + 1) trace) ≡ segments_in (take bad.listed.index trace ++ t.task ∷ [])
    = ap segments_in (take_more trace bad.listed.index t.task (slice_get_within trace bad.listed.index t.task t.found) ∙ ap (λ (u : TaskLog). take bad.listed.index trace ++ u ∷ []) (get_or_from_slice_get trace bad.listed.index t.task t.task t.found)) in
    let over : OpensTooMany FORMAT (log_bytes (log_header FORMAT) t.task.records) bad.task.records (segments_in (take bad.listed.index trace)) n
    = subst (λ (earlier : Trace). OpensTooMany FORMAT (log_bytes (log_header FORMAT) t.task.records) bad.task.records (segments_in earlier) n) earlier
    (subst (λ (bs : List ℕ). OpensTooMany FORMAT bs bad.task.records (segments_in bad.earlier) n) (sym own) bad.over) in
    no_overflow_in (log_bytes (log_header FORMAT) t.task.records) bad.task.records (segments_in (take bad.listed.index trace)) n t.task.records [] (whole_read t.task.records whole.tabled)
    (omega (arith, over.at.at.counted, count)) (omega (arith, sum, segments_push (take bad.listed.index trace) t.task, sum_by-take-le (λ (u : TaskLog). segment_count u.records) trace (bad.listed.index + 1), few)) over

-- a folder whose run keeps the rules, and has few, is bad nowhere
pub kept_is_well_formed : (files : Files) (dir : List ℕ) (trace : Trace) → HoldsTrace FORMAT files dir trace → KeepsRules FORMAT trace → segments_in trace ≤ max_segments → IsWellFormed FORMAT files dir
kept_is_well_formed files dir trace holds keeps few place bad = at place (kept_bad files dir trace keeps holds place bad) bad where
  at : (place : BadPlace) → IsTooMany place → IsBad FORMAT files dir place → ⊥
  at (too_many_segments row n) _ (rows, index, bad) = none_too_many files dir trace holds few row n (subst (λ (rs : List Row). IsOneTooMany FORMAT files dir rs row n) (index_once files dir rows (rows_of trace) index holds.index) bad)
  at no_index too _ = absurd too
  at (bad_row n why) too _ = absurd too
  at (missing_log row) too _ = absurd too
  at (bad_record row n why) too _ = absurd too
