-- In a folder that is bad nowhere no record of a task breaks a rule.
use Rattle.std.proofs.Common.{◌≡◌, ℕ, zero, suc, ◌+◌, ◌<◌, ◌≤◌, List, [], ◌∷◌, ◌++◌, length, take, drop, Option, Some, refl, sym, ap, subst, ◌∙◌, arith}
use Rattle.std.specs.Prelude.{slice_get, Contains, map, All, option_map}
use Rattle.std.specs.List.{flat_map}
use Rattle.std.proofs.Math.Seq.{split_at}
use Rattle.std.proofs.lemmas.List.{length-take-le}
use Rattle.std.proofs.lemmas.Option.{slice_get_within, get_or_from_slice_get, slice_get-map}
use Rattle.std.proofs.lemmas.List.Elements.{All-take}
use Rattle.sw_base.specs.declared.path.Step.{Step}
use Rattle.sw_base.specs.Environment.{Files}
use Rattle.log_format.specs.declared.format.Format.{Format}
use Rattle.log_format.specs.Format.{log_header}
use Rattle.log_format.specs.declared.record.Record.{Record}
use Rattle.log_format.specs.Spelling.{spelling, log_bytes}
use Rattle.log_format.specs.Table.{IsTabled}
use Rattle.log_format.proofs.Logs.{log_bytes-append}
use Rattle.race_model.specs.declared.why.RecordWhy.{RecordWhy}
use Rattle.race_model.specs.declared.why.RecordWhy.TheVariants as log
use Rattle.race_model.specs.Row.{Row}
use Rattle.race_model.specs.Listing.{lane_of}
use Rattle.race_model.specs.Trace.{TaskLog, Trace}
use Rattle.race_model.specs.BadPlace.{bad_record}
use Rattle.race_model.specs.LogFault.{LogTask, Breaks, IsBroken, IsLogFault, IsWholeLog, HasTeamBarriers, ListsSpans, ListsRegion, IsRecord}
use Rattle.race_model.specs.FirstBad.{HoldsTrace, row_of, rows_of}
use Rattle.race_model.specs.WellFormed.{IsWellFormed}
use Rattle.race_laws.proofs.Listed.{AreSpans}
use Rattle.race_model.proofs.TraceLogs.{all_at}

-- a list, parted at an element
pub parted : {X : Type 0} (xs : List X) (k : ℕ) (x : X) → slice_get xs k ≡ Some x → xs ≡ take k xs ++ x ∷ drop (suc k) xs
parted xs k x found =
    split_at xs k x (slice_get_within xs k x found)
    ∙ ap (λ y. take k xs ++ y ∷ drop (suc k) xs) (get_or_from_slice_get xs k x x found)

-- a rule that is broken makes a log bad
broken_fault : {format : Format} (bytes : List ℕ) (task : LogTask) (n : ℕ) (rule : RecordWhy) → IsBroken format bytes task n rule → IsLogFault format bytes task n rule
broken_fault bytes task n log.Header b = absurd b.breaks
broken_fault bytes task n log.Cut b = absurd b.breaks
broken_fault bytes task n log.Kind b = absurd b.breaks
broken_fault bytes task n log.Size b = absurd b.breaks
broken_fault bytes task n log.LineZero b = absurd b.breaks
broken_fault bytes task n log.Address b = absurd b.breaks
broken_fault bytes task n log.Span b = absurd b.breaks
broken_fault bytes task n log.Reserved b = absurd b.breaks
broken_fault bytes task n log.Extra b = absurd b.breaks
broken_fault bytes task n _ b = b

-- the record of this number in a whole log
record_there : {format : Format} (records : List Record) (k : ℕ) (r : Record) → All (IsTabled format) records → slice_get records k ≡ Some r
    → IsRecord format (log_bytes (log_header format) records) (length records) (k + 1) (take k records) r
record_there {format} records k r tabled found =
    let within : k < length records = slice_get_within records k r found in
    record {
      rest = flat_map spelling (drop (suc k) records);
      at = record {
        read = record {
          parts = ap (λ rs. log_bytes (log_header format) rs) (parted records k r found) ∙ log_bytes-append (log_header format) (take k records) (r ∷ drop (suc k) records);
          tabled = All-take (IsTabled format) k records tabled;
        };
        number = ap (λ (n : ℕ). n + 1) (sym (length-take-le k records (let le : k ≤ length records = omega arith in le)));
        counted = omega arith;
      };
      tabled = all_at (IsTabled format) records k r tabled found;
    }

row_listed : (rows : List Row) (path : List Step) → Contains (map (λ (row : Row). row.path) rows) path → (row : Row) × Contains rows row × (row.path ≡ path)
row_listed [] path (k, within, is) = absurd (omega arith)
row_listed (row ∷ rows) path (zero, within, is) = (row, (0, omega arith, refl), is)
row_listed (row ∷ rows) path (suc k, within, is) = at (row_listed rows path (k, omega arith, is)) where
  at : (r : Row) × Contains rows r × (r.path ≡ path) → (r : Row) × Contains (row ∷ rows) r × (r.path ≡ path)
  at (r, (j, below, same), e) = (r, (suc j, omega arith, same), e)

pub path_listed : (rows : List Row) (row : Row) → Contains rows row → Contains (map (λ (r : Row). r.path) rows) row.path
path_listed [] row (k, within, is) = absurd (omega arith)
path_listed (r ∷ rows) row (zero, within, is) = (0, omega arith, ap (λ (x : Row). x.path) is)
path_listed (r ∷ rows) row (suc k, within, is) = at (path_listed rows row (k, omega arith, is)) where
  at : Contains (map (λ (x : Row). x.path) rows) row.path → Contains (map (λ (x : Row). x.path) (r ∷ rows)) row.path
  at (j, below, same) = (suc j, omega arith, same)

-- the spans that the rows list
pub lists_spans : (rows : List Row) (path : List Step) (spans : List ℕ) → AreSpans (map (λ (row : Row). row.path) rows) path spans → ListsSpans rows path spans
lists_spans rows path spans are region span = (there, back)
  where
    there : ListsRegion rows path region span → slice_get spans region ≡ Some span
    there r = are.listed region r.lane span (subst (λ (p : List Step). Contains (map (λ (row : Row). row.path) rows) p) r.child (path_listed rows r.row r.listed))

    back : slice_get spans region ≡ Some span → ListsRegion rows path region span
    back found = at (row_listed rows (lane_of path region 0 span) (are.lists region span found)) where
      at : (row : Row) × Contains rows row × (row.path ≡ lane_of path region 0 span) → ListsRegion rows path region span
      at (row, listed, same) = record { lane = 0; row = row; listed = listed; child = same }

-- a path with a step that is listed lists a region
pub region_of : (rows : List Row) (path : List Step) (step : Step) → Contains (map (λ (row : Row). row.path) rows) (path ++ step ∷ []) → ListsRegion rows path step.region step.span
region_of rows path step listed = at (row_listed rows (path ++ step ∷ []) listed)
  where
    at : (row : Row) × Contains rows row × (row.path ≡ path ++ step ∷ []) → ListsRegion rows path step.region step.span
    at (row, here, same) = record { lane = step.lane; row = row; listed = here; child = same }

-- what the rules of a task's log stand on
abbrev pub log_task : TaskLog → List ℕ → Option ℕ → LogTask
log_task task spans team = record { path = task.path; records = length task.records; spans = spans; due_barriers = team }

pub kept : {format : Format} (files : Files) (dir : List ℕ) (trace : Trace) → HoldsTrace format files dir trace → IsWellFormed format files dir → (index : ℕ) (task : TaskLog) → slice_get trace index ≡ Some task
    → (spans : List ℕ) → AreSpans (map (λ (row : Row). row.path) (rows_of trace)) task.path spans
    → (team : Option ℕ) → ((barriers : ℕ) → team ≡ Some barriers → HasTeamBarriers format files dir task.path barriers)
    → (k : ℕ) (r : Record) → slice_get task.records k ≡ Some r → (rule : RecordWhy) → Breaks (log_task task spans team) (take k task.records) r rule → ⊥
kept {format} files dir trace holds good index task listed spans are team has_team k r found rule breaks =
    let whole : IsWholeLog format files dir task.path task.records = all_at (λ (t : TaskLog). IsWholeLog format files dir t.path t.records) trace index task holds.logs listed in
    let row_at : slice_get (rows_of trace) index ≡ Some (row_of task) = slice_get-map row_of trace index ∙ ap (λ o. option_map row_of o) listed in
    good (bad_record (index + 1) (k + 1) rule) (
      rows_of trace,
      holds.index,
      record {
        task = row_of task;
        listed = record { index = index; number = refl; listed = row_at };
        bytes = log_bytes (log_header format) task.records;
        there = whole.there;
        spans = spans;
        has_spans = lists_spans (rows_of trace) task.path spans are;
        due_barriers = team;
        has_team = has_team;
        fault = broken_fault (log_bytes (log_header format) task.records) (log_task task spans team) (k + 1) rule
            (record { before = take k task.records; r = r; at = record_there task.records k r whole.tabled found; breaks = breaks });
      },
    )
