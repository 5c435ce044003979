-- The first bad place of a folder whose index and first logs are good.
use Rattle.std.proofs.Common.{◌≡◌, ◌⊎◌, inl, inr, ℕ, zero, suc, ◌+◌, ◌<◌, ◌≤◌, List, [], ◌∷◌, ◌++◌, length, take, Option, Some, None, refl, sym, ap, subst, ◌∙◌, arith}
use Rattle.std.specs.Prelude.{slice_get}
use Rattle.std.specs.Cmp.{nat_cmp_is}
use Rattle.std.specs.Cmp.Lexicographic.{slice_cmp}
use Rattle.std.specs.Ordering.{nat_cmp, ordering_then}
use Rattle.std.specs.declared.cmp.Ordering.{Ordering}
use Rattle.std.specs.declared.cmp.Ordering.TheVariants.{Less, Equal, Greater}
use Rattle.std.proofs.lemmas.Bool.{cases_order}
use Rattle.std.proofs.lemmas.List.{take_all, take-map, take_more, same_from_push, length-take, take-take, get_or-take, map-append, length_push, take-append-le}
use Rattle.std.proofs.lemmas.List.Sums.{sum_by-append, sum_by-cons, sum_by-take-le}
use Rattle.std.proofs.lemmas.List.Elements.{All-contains}
use Rattle.std.proofs.lemmas.Option.{same_Some, slice_get_within, get_or_from_slice_get}
use Rattle.sw_base.specs.declared.path.Step.{Step}
use Rattle.sw_base.specs.Environment.{Files}
use Rattle.sw_base.specs.Names.{log_name}
use Rattle.sw_base.proofs.Lists.{get_left, get_seam}
use Rattle.log_format.specs.declared.format.Format.{Format}
use Rattle.log_format.specs.Format.{log_header}
use Rattle.log_format.specs.declared.record.Record.{Record}
use Rattle.log_format.specs.Spelling.{log_bytes}
use Rattle.race_model.specs.declared.why.RecordWhy.{RecordWhy}
use Rattle.race_model.specs.declared.why.RecordWhy.TheVariants as log
use Rattle.race_model.specs.Row.{Row}
use Rattle.race_model.specs.Listing.{lane_of}
use Rattle.race_model.specs.IndexFault.{IsIndex}
use Rattle.race_model.specs.Segment.{segment_count}
use Rattle.race_model.specs.Trace.{TaskLog, Trace, barrier_count}
use Rattle.race_model.specs.BadPlace.{BadPlace, no_index, bad_row, missing_log, bad_record, too_many_segments, IsEarlier, place_key, record_rank}
use Rattle.race_model.specs.LogFault.{LogTask, IsLogFault, OpensTooMany, IsWholeLog, HasTeamBarriers, RowAt, ListsSpans, IsMissingLog, IsBadRecord, max_segments}
use Rattle.race_model.specs.FirstBad.{rows_of, row_of, segments_in, HoldsLogs, HoldsTrace, IsOneTooMany, IsBad, IsFirstBad}
use Rattle.race_model.specs.WellFormed.{IsWellFormed}
use Rattle.race_laws.proofs.IndexPlaces.{index_good}
use Rattle.log_walk.specs.Check.{NothingBefore}
use Rattle.log_walk.specs.GoodTrace.{IsGoodTask, IsGoodTrace, AreTeamBarriers, FollowsTeam, log_task}
use Rattle.log_walk.specs.Walk.{Walked}
use Rattle.log_walk.proofs.SoFar.{below_or_at}
use Rattle.log_walk.proofs.Next.{no_overflow_in}
use Rattle.race_laws.proofs.IndexRows.{index_once}
use Rattle.race_laws.proofs.FolderTrace.{same_tasks}
use Rattle.race_model.proofs.TraceLogs.{RowTask, task_in}
use Rattle.race_laws.proofs.LogOnce.{log_once, spans_once}
use Rattle.race_laws.proofs.LogReading.{whole_read}
use Rattle.race_laws.proofs.LogFaults.{no_fault_whole, other_team}
use Rattle.race_model.specs.BadPlace.{last_rank}

-- ---- what a place tells stands on the trace

-- a team that the folder tells is the one that the trace tells
team_once : {format : Format} (files : Files) (dir : List ℕ) (earlier : Trace) (path : List Step) (told barriers : ℕ) → HoldsLogs format files dir earlier → HasTeamBarriers format files dir path told → FollowsTeam earlier path barriers → told ≡ barriers
team_once {format} files dir earlier path told barriers logs has team =
    let both = same_from_push has.above team.above has.step team.step (sym has.path_is ∙ team.path_is) in
    let whole : IsWholeLog format files dir team.first.path team.first.records = All-contains (λ (task : TaskLog). IsWholeLog format files dir task.path task.records) earlier team.first logs team.listed in
    let same_path : lane_of has.above has.step.region 0 has.step.span ≡ team.first.path
    = ap (λ (p : List Step). lane_of p has.step.region 0 has.step.span) both.0 ∙ ap (λ (s : Step). lane_of team.above s.region 0 s.span) both.1 ∙ sym team.first_path in
    let records : has.records ≡ team.first.records = log_once files dir team.first.path has.records team.first.records (subst (λ (p : List Step). IsWholeLog format files dir p has.records) same_path has.log_of_first) whole in
    has.counted ∙ ap (λ (rs : List Record). barrier_count rs) records ∙ sym team.counted

-- the teams agree
same_team : {format : Format} (files : Files) (dir : List ℕ) (earlier : Trace) (path : List Step) (told team : Option ℕ) → HoldsLogs format files dir earlier → ((barriers : ℕ) → told ≡ Some barriers → HasTeamBarriers format files dir path barriers)
    → AreTeamBarriers earlier path team → (barriers : ℕ) → told ≡ Some barriers → team ≡ Some barriers
same_team files dir earlier path told None logs has leads barriers is = let it = has barriers is in absurd (omega (arith, it.from_one, leads it.above it.step it.path_is))
same_team files dir earlier path told (Some mine) logs has team barriers is = ap (λ (b : ℕ). Some b) (sym (team_once files dir earlier path barriers mine logs (has barriers is) team))

-- the team of the trace is one that the folder tells
has_team : {format : Format} (files : Files) (dir : List ℕ) (earlier : Trace) (path : List Step) (team : Option ℕ) → HoldsLogs format files dir earlier → AreTeamBarriers earlier path team → (barriers : ℕ) → team ≡ Some barriers → HasTeamBarriers format files dir path barriers
has_team files dir earlier path None logs leads barriers is = cc
has_team {format} files dir earlier path (Some mine) logs team barriers is =
    let whole : IsWholeLog format files dir team.first.path team.first.records = All-contains (λ (task : TaskLog). IsWholeLog format files dir task.path task.records) earlier team.first logs team.listed in
    record {
      above = team.above;
      step = team.step;
      path_is = team.path_is;
      from_one = team.from_one;
      records = team.first.records;
      log_of_first = subst (λ (p : List Step). IsWholeLog format files dir p team.first.records) team.first_path whole;
      counted = sym (same_Some mine barriers is) ∙ team.counted;
    }

-- a fault that the folder tells of a row's log is one beside these spans and this team
fault_beside : {format : Format} (files : Files) (dir : List ℕ) (rows : List Row) (earlier : Trace) (row n : ℕ) (rule : RecordWhy) (spans : List ℕ) (team : Option ℕ) → HoldsLogs format files dir earlier
    → (bad : IsBadRecord format files dir rows row n rule) → ListsSpans rows bad.task.path spans → AreTeamBarriers earlier bad.task.path team
    → IsLogFault format bad.bytes (record { path = bad.task.path; records = bad.task.records; spans = spans; due_barriers = team }) n rule
fault_beside {format} files dir rows earlier row n rule spans team logs bad has_spans is_team =
    subst (λ (ss : List ℕ). IsLogFault format bad.bytes (record { path = bad.task.path; records = bad.task.records; spans = ss; due_barriers = team }) n rule)
    (spans_once rows bad.task.path bad.spans spans bad.has_spans has_spans)
    (other_team format bad.bytes (record { path = bad.task.path; records = bad.task.records; spans = bad.spans; due_barriers = bad.due_barriers }) team n rule
    (same_team files dir earlier bad.task.path bad.due_barriers team logs bad.has_team is_team) bad.fault)

-- ---- the rows whose logs were read

pub slice_get_take : {X : Type 0} (n : ℕ) (xs : List X) (k : ℕ) → k < n → slice_get (take n xs) k ≡ slice_get xs k
slice_get_take zero xs k less = absurd (omega arith)
slice_get_take (suc n) [] k less = refl
slice_get_take (suc n) (x ∷ xs) zero less = refl
slice_get_take (suc n) (x ∷ xs) (suc k) less = slice_get_take n xs k (omega arith)

earlier_task : {format : Format} (files : Files) (dir : List ℕ) (rows : List Row) (trace : Trace) (index : ℕ) (row : Row) → Walked format files dir rows trace → slice_get rows index ≡ Some row → index < length trace → RowTask trace index row
earlier_task files dir rows trace index row walked found less =
    task_in trace index row (ap (λ (rs : List Row). slice_get rs index) walked.good.rows_are ∙ slice_get_take (length trace) rows index less ∙ found)

whole_at : {format : Format} (files : Files) (dir : List ℕ) (trace : Trace) (index : ℕ) (task : TaskLog) → HoldsLogs format files dir trace → slice_get trace index ≡ Some task → IsWholeLog format files dir task.path task.records
whole_at {format} files dir trace index task logs found =
    subst (λ (t : TaskLog). IsWholeLog format files dir t.path t.records) (get_or_from_slice_get trace index task task found) (logs index task (slice_get_within trace index task found))

logs_take : {format : Format} (files : Files) (dir : List ℕ) (trace : Trace) (n : ℕ) → HoldsLogs format files dir trace → HoldsLogs format files dir (take n trace)
logs_take {format} files dir trace n logs = λ k d within.
    let small : k < n = omega (arith, length-take n trace, within) in
    let inside : k < length trace = omega (arith, length-take n trace, within) in
    subst (λ (t : TaskLog). IsWholeLog format files dir t.path t.records) (sym (get_or-take n trace k d small)) (logs k d inside)

-- no earlier log is missing
no_missing : {format : Format} (files : Files) (dir : List ℕ) (rows : List Row) (trace : Trace) (row : ℕ) → Walked format files dir rows trace → (bad : IsMissingLog files dir rows row) → bad.listed.index < length trace → ⊥
no_missing {format} files dir rows trace row walked bad less =
    let at = earlier_task files dir rows trace bad.listed.index bad.task walked bad.listed.listed less in
    let whole = whole_at files dir trace bad.listed.index at.task walked.logs at.found in
    let there : files (log_name dir bad.task.path) ≡ Some (log_bytes (log_header format) at.task.records) = ap (λ (r : Row). files (log_name dir r.path)) at.row_is ∙ whole.there in
    cc (there, bad.missing)

-- no earlier log has a bad record
no_bad_record : {format : Format} (files : Files) (dir : List ℕ) (rows : List Row) (trace : Trace) (row n : ℕ) (rule : RecordWhy) → Walked format files dir rows trace → (bad : IsBadRecord format files dir rows row n rule) → bad.listed.index < length trace → ⊥
no_bad_record {format} files dir rows trace row n rule walked bad less =
    let at = earlier_task files dir rows trace bad.listed.index bad.task walked bad.listed.listed less in
    let good = walked.good.each bad.listed.index at.task at.found in
    let whole = whole_at files dir trace bad.listed.index at.task walked.logs at.found in
    let path : at.task.path ≡ bad.task.path = ap (λ (r : Row). r.path) (sym at.row_is) in
    let fault = fault_beside files dir rows (take bad.listed.index trace) row n rule good.spans good.due_barriers (logs_take files dir trace bad.listed.index walked.logs) bad
    (subst (λ (p : List Step). ListsSpans rows p good.spans) path good.has_spans) (subst (λ (p : List Step). AreTeamBarriers (take bad.listed.index trace) p good.due_barriers) path good.has_team) in
    let own : IsLogFault format bad.bytes (log_task at.task good.spans good.due_barriers) n rule
    = subst (λ (r : Row). IsLogFault format bad.bytes (record { path = r.path; records = r.records; spans = good.spans; due_barriers = good.due_barriers }) n rule) at.row_is fault in
    let bytes : bad.bytes ≡ log_bytes (log_header format) at.task.records
    = same_Some bad.bytes (log_bytes (log_header format) at.task.records) (sym bad.there ∙ (ap (λ (p : List Step). files (log_name dir p)) (sym path) ∙ whole.there)) in
    no_fault_whole (log_bytes (log_header format) at.task.records) (log_task at.task good.spans good.due_barriers) at.task.records n rule (whole_read at.task.records whole.tabled) good.keeps.each refl
    (subst (λ (bs : List ℕ). IsLogFault format bs (log_task at.task good.spans good.due_barriers) n rule) bytes own)

rows_take : {format : Format} (files : Files) (dir : List ℕ) (rows : List Row) (trace : Trace) (index : ℕ) → Walked format files dir rows trace → index ≤ length trace → rows_of (take index trace) ≡ take index rows
rows_take files dir rows trace index walked less =
    sym (take-map row_of index trace) ∙ ap (λ (rs : List Row). take index rs) walked.good.rows_are ∙ take-take index (length trace) rows less

-- the logs before a row, told another way
earlier_logs : {format : Format} (files : Files) (dir : List ℕ) (rows : List Row) (trace earlier : Trace) (index : ℕ) → Walked format files dir rows trace → index ≤ length trace → rows_of earlier ≡ take index rows → HoldsLogs format files dir earlier
    → earlier ≡ take index trace
earlier_logs files dir rows trace earlier index walked less rows_are logs =
    same_tasks files dir earlier (take index trace) (rows_are ∙ sym (rows_take files dir rows trace index walked less)) logs (logs_take files dir trace index walked.logs)

segments_more : (trace : Trace) (index : ℕ) (task : TaskLog) → slice_get trace index ≡ Some task → segments_in (take index trace) + segment_count task.records ≤ segments_in trace
segments_more trace index task found =
    let more : take (index + 1) trace ≡ take index trace ++ task ∷ []
    = take_more trace index task (slice_get_within trace index task found) ∙ ap (λ (t : TaskLog). take index trace ++ t ∷ []) (get_or_from_slice_get trace index task task found) in
    let sum : segments_in (take index trace ++ task ∷ []) ≡ segments_in (take index trace) + segment_count task.records
    = sum_by-append (λ (t : TaskLog). segment_count t.records) (take index trace) (task ∷ [])
    ∙ ap (λ (n : ℕ). segments_in (take index trace) + n) (sum_by-cons (λ (t : TaskLog). segment_count t.records) task [] ∙ omega arith) in
    omega (arith, sum, ap segments_in more, sum_by-take-le (λ (t : TaskLog). segment_count t.records) trace (index + 1))

-- no earlier log opens a segment too many
no_too_many : {format : Format} (files : Files) (dir : List ℕ) (rows : List Row) (trace : Trace) (row n : ℕ) → Walked format files dir rows trace → (bad : IsOneTooMany format files dir rows row n) → bad.listed.index < length trace → ⊥
no_too_many {format} files dir rows trace row n walked bad less =
    let at = earlier_task files dir rows trace bad.listed.index bad.task walked bad.listed.listed less in
    let whole = whole_at files dir trace bad.listed.index at.task walked.logs at.found in
    let same : bad.earlier ≡ take bad.listed.index trace = earlier_logs files dir rows trace bad.earlier bad.listed.index walked (omega arith) bad.earlier_rows bad.earlier_logs in
    let bytes : bad.bytes ≡ log_bytes (log_header format) at.task.records
    = same_Some bad.bytes (log_bytes (log_header format) at.task.records) (sym bad.there ∙ (ap (λ (r : Row). files (log_name dir r.path)) at.row_is ∙ whole.there)) in
    let count : bad.task.records ≡ length at.task.records = ap (λ (r : Row). r.records) at.row_is in
    let over : OpensTooMany format (log_bytes (log_header format) at.task.records) bad.task.records (segments_in (take bad.listed.index trace)) n
    = subst (λ (t : Trace). OpensTooMany format (log_bytes (log_header format) at.task.records) bad.task.records (segments_in t) n) same (subst (λ (bs : List ℕ). OpensTooMany format bs bad.task.records (segments_in bad.earlier) n) bytes bad.over) in
    no_overflow_in (log_bytes (log_header format) at.task.records) bad.task.records (segments_in (take bad.listed.index trace)) n at.task.records [] (whole_read at.task.records whole.tabled)
    (omega (arith, over.at.at.counted, count)) (omega (arith, segments_more trace bad.listed.index at.task at.found, walked.good.limit)) over

-- ---- the row that is read

-- the log of the next row, and what its rules stand on
pub record NextLog (files : Files) (dir : List ℕ) (rows : List Row) (trace : Trace) (task : Row) (bytes spans : List ℕ) (team : Option ℕ) : Type 0 where
  pub listed : slice_get rows (length trace) ≡ Some task
  pub there : files (log_name dir task.path) ≡ Some bytes
  pub has_spans : ListsSpans rows task.path spans
  pub has_team : AreTeamBarriers trace task.path team

abbrev pub row_task : Row → List ℕ → Option ℕ → LogTask
row_task row spans team = record { path = row.path; records = row.records; spans = spans; due_barriers = team }

row_once : (rows : List Row) (index : ℕ) (row : ℕ) (task other : Row) → slice_get rows index ≡ Some task → (at : RowAt rows row other) → at.index ≡ index → other ≡ task
row_once rows index row task other found at same = same_Some other task (sym at.listed ∙ ap (λ (k : ℕ). slice_get rows k) same ∙ found)

-- a bad record of the next log
bad_here : {format : Format} (files : Files) (dir : List ℕ) (rows : List Row) (trace : Trace) (task : Row) (bytes spans : List ℕ) (team : Option ℕ) (row n : ℕ) (rule : RecordWhy) → Walked format files dir rows trace
    → NextLog files dir rows trace task bytes spans team → (bad : IsBadRecord format files dir rows row n rule) → bad.listed.index ≡ length trace → IsLogFault format bytes (row_task task spans team) n rule
bad_here {format} files dir rows trace task bytes spans team row n rule walked next bad same =
    let task_is : bad.task ≡ task = row_once rows (length trace) row task bad.task next.listed bad.listed same in
    let path : task.path ≡ bad.task.path = ap (λ (r : Row). r.path) (sym task_is) in
    let fault = fault_beside files dir rows trace row n rule spans team walked.logs bad (subst (λ (p : List Step). ListsSpans rows p spans) path next.has_spans) (subst (λ (p : List Step). AreTeamBarriers trace p team) path next.has_team) in
    let bytes_are : bad.bytes ≡ bytes = same_Some bad.bytes bytes (sym bad.there ∙ ap (λ (p : List Step). files (log_name dir p)) (sym path) ∙ next.there) in
    subst (λ (bs : List ℕ). IsLogFault format bs (row_task task spans team) n rule) bytes_are (subst (λ (r : Row). IsLogFault format bad.bytes (row_task r spans team) n rule) task_is fault)

over_here : {format : Format} (files : Files) (dir : List ℕ) (rows : List Row) (trace : Trace) (task : Row) (bytes spans : List ℕ) (team : Option ℕ) (row n : ℕ) → Walked format files dir rows trace
    → NextLog files dir rows trace task bytes spans team → (bad : IsOneTooMany format files dir rows row n) → bad.listed.index ≡ length trace → OpensTooMany format bytes task.records (segments_in trace) n
over_here {format} files dir rows trace task bytes spans team row n walked next bad same =
    let task_is : bad.task ≡ task = row_once rows (length trace) row task bad.task next.listed bad.listed same in
    let earlier : bad.earlier ≡ trace = earlier_logs files dir rows trace bad.earlier bad.listed.index walked (omega arith) bad.earlier_rows bad.earlier_logs ∙ take_all bad.listed.index trace (omega arith) in
    let bytes_are : bad.bytes ≡ bytes = same_Some bad.bytes bytes (sym bad.there ∙ ap (λ (r : Row). files (log_name dir r.path)) task_is ∙ next.there) in
    subst (λ (t : Trace). OpensTooMany format bytes task.records (segments_in t) n) earlier
    (subst (λ (bs : List ℕ). OpensTooMany format bs task.records (segments_in bad.earlier) n) bytes_are
    (subst (λ (r : Row). OpensTooMany format bad.bytes r.records (segments_in bad.earlier) n) task_is bad.over))

-- ---- the order of places

pub cmp_first : (a b : ℕ) (x y : List ℕ) → slice_cmp nat_cmp (a ∷ x) (b ∷ y) ≡ Less → (a < b) ⊎ ((a ≡ b) × (slice_cmp nat_cmp x y ≡ Less))
cmp_first a b x y earlier = elim (cases_order a b) [
  | inl same ↦ inr (same, ap (λ (o : Ordering). ordering_then o (slice_cmp nat_cmp x y)) (nat_cmp_is a b Equal same) ∙ earlier)
  | inr either ↦ elim either [
    | inl less ↦ inl less
    | inr more ↦ absurd (let clash : Greater ≡ Less = ap (λ (o : Ordering). ordering_then o (slice_cmp nat_cmp x y)) (nat_cmp_is a b Greater more) ∙ earlier in cc clash)
  ]
]

cmp_rest : (a b : ℕ) (x y : List ℕ) → a ≡ b → slice_cmp nat_cmp (a ∷ x) (b ∷ y) ≡ Less → slice_cmp nat_cmp x y ≡ Less
cmp_rest a b x y same earlier = elim (cmp_first a b x y earlier) [ inl less ↦ absurd (omega arith) | inr rest ↦ rest.1 ]

not_below_nothing : (x : List ℕ) → slice_cmp nat_cmp x [] ≡ Less → ⊥
not_below_nothing [] earlier = cc earlier
not_below_nothing (a ∷ x) earlier = cc earlier

-- a place in a row, before one in another
row_before : (row other : ℕ) (x y : List ℕ) → slice_cmp nat_cmp (2 ∷ row ∷ x) (2 ∷ other ∷ y) ≡ Less → (row < other) ⊎ ((row ≡ other) × (slice_cmp nat_cmp x y ≡ Less))
row_before row other x y earlier = cmp_first row other x y (cmp_rest 2 2 (row ∷ x) (other ∷ y) refl earlier)

number_before : (n m rank bound : ℕ) → slice_cmp nat_cmp (n ∷ rank ∷ []) (m ∷ bound ∷ []) ≡ Less → (n < m) ⊎ ((n ≡ m) × (rank < bound))
number_before n m rank bound earlier = elim (cmp_first n m (rank ∷ []) (bound ∷ []) earlier) [
  | inl less ↦ inl less
  | inr same ↦ elim (cmp_first rank bound [] [] same.1) [ inl less ↦ inr (same.0, less) | inr ends ↦ absurd (not_below_nothing [] ends.1) ]
]

-- ---- nothing is bad before the next row

-- a place at the next row or before it: the next row, and what is before it in this row
before_row : {format : Format} (files : Files) (dir : List ℕ) (rows : List Row) (trace : Trace) (key : List ℕ) (place other : BadPlace) → Walked format files dir rows trace → place_key place ≡ 2 ∷ (length trace + 1) ∷ key
    → ((row : ℕ) → row ≡ length trace + 1 → slice_cmp nat_cmp [] key ≡ Less → IsBad format files dir (missing_log row) → ⊥)
    → ((row n : ℕ) (rule : RecordWhy) → row ≡ length trace + 1 → slice_cmp nat_cmp (n ∷ record_rank rule ∷ []) key ≡ Less → IsBad format files dir (bad_record row n rule) → ⊥)
    → ((row n : ℕ) → row ≡ length trace + 1 → slice_cmp nat_cmp (n ∷ last_rank ∷ []) key ≡ Less → IsBad format files dir (too_many_segments row n) → ⊥)
    → IsEarlier other place → IsBad format files dir other → ⊥
before_row files dir rows trace key place no_index walked key_is missing record_bad over earlier bad = index_good files dir rows no_index walked.index bad
before_row files dir rows trace key place (bad_row n rule) walked key_is missing record_bad over earlier bad = index_good files dir rows (bad_row n rule) walked.index bad
before_row files dir rows trace key place (missing_log row) walked key_is missing record_bad over earlier (told, index, bad) =
    let here : IsMissingLog files dir rows row = subst (λ (rs : List Row). IsMissingLog files dir rs row) (index_once files dir told rows index walked.index) bad in
    elim (row_before row (length trace + 1) [] key (ap (λ (k : List ℕ). slice_cmp nat_cmp (2 ∷ row ∷ []) k) (sym key_is) ∙ earlier)) [
      | inl less ↦ no_missing files dir rows trace row walked here (omega (arith, here.listed.number))
      | inr same ↦ missing row same.0 same.1 (rows, walked.index, here)
    ]
before_row {format} files dir rows trace key place (bad_record row n rule) walked key_is missing record_bad over earlier (told, index, bad) =
    let here : IsBadRecord format files dir rows row n rule = subst (λ (rs : List Row). IsBadRecord format files dir rs row n rule) (index_once files dir told rows index walked.index) bad in
    elim (row_before row (length trace + 1) (n ∷ record_rank rule ∷ []) key (ap (λ (k : List ℕ). slice_cmp nat_cmp (2 ∷ row ∷ n ∷ record_rank rule ∷ []) k) (sym key_is) ∙ earlier)) [
      | inl less ↦ no_bad_record files dir rows trace row n rule walked here (omega (arith, here.listed.number))
      | inr same ↦ record_bad row n rule same.0 same.1 (rows, walked.index, here)
    ]
before_row {format} files dir rows trace key place (too_many_segments row n) walked key_is missing record_bad over earlier (told, index, bad) =
    let here : IsOneTooMany format files dir rows row n = subst (λ (rs : List Row). IsOneTooMany format files dir rs row n) (index_once files dir told rows index walked.index) bad in
    elim (row_before row (length trace + 1) (n ∷ last_rank ∷ []) key (ap (λ (k : List ℕ). slice_cmp nat_cmp (2 ∷ row ∷ n ∷ last_rank ∷ []) k) (sym key_is) ∙ earlier)) [
      | inl less ↦ no_too_many files dir rows trace row n walked here (omega (arith, here.listed.number))
      | inr same ↦ over row n same.0 same.1 (rows, walked.index, here)
    ]

abbrev row_at_end : (rows : List Row) (index : ℕ) (task : Row) → slice_get rows index ≡ Some task → RowAt rows (index + 1) task
row_at_end rows index task found = record { index = index; number = refl; listed = found }

-- the next log is missing
pub missing_first : {format : Format} (files : Files) (dir : List ℕ) (rows : List Row) (trace : Trace) (task : Row) → Walked format files dir rows trace → slice_get rows (length trace) ≡ Some task
    → files (log_name dir task.path) ≡ None → IsFirstBad format files dir (missing_log (length trace + 1))
missing_first files dir rows trace task walked found missing = record {
  bad = (rows, walked.index, record { task = task; listed = row_at_end rows (length trace) task found; missing = missing });
  least = λ other earlier bad. before_row files dir rows trace [] (missing_log (length trace + 1)) other walked refl
      (λ row is less _. not_below_nothing [] less)
      (λ row n rule is less _. not_below_nothing (n ∷ record_rank rule ∷ []) less)
      (λ row n is less _. not_below_nothing (n ∷ last_rank ∷ []) less)
      earlier bad;
}

-- what is before a place of the next log
in_row : {format : Format} (files : Files) (dir : List ℕ) (rows : List Row) (trace : Trace) (task : Row) (bytes spans : List ℕ) (team : Option ℕ) (n rank : ℕ) (place : BadPlace) → Walked format files dir rows trace
    → NextLog files dir rows trace task bytes spans team → NothingBefore format bytes (row_task task spans team) (segments_in trace) n rank → rank ≤ last_rank
    → place_key place ≡ 2 ∷ (length trace + 1) ∷ n ∷ rank ∷ [] → (other : BadPlace) → IsEarlier other place → IsBad format files dir other → ⊥
in_row {format} files dir rows trace task bytes spans team n rank place walked next nothing small key_is other earlier bad =
    before_row files dir rows trace (n ∷ rank ∷ []) place other walked key_is
    (λ row is less missing. is_there row is missing)
    (λ row m rule is less told. record_there row m rule is less told)
    (λ row m is less told. over_there row m is less told)
    earlier bad
  where
    is_there : (row : ℕ) → row ≡ length trace + 1 → IsBad format files dir (missing_log row) → ⊥
    is_there row is (told, index, missing) =
        let here : IsMissingLog files dir rows row = subst (λ (rs : List Row). IsMissingLog files dir rs row) (index_once files dir told rows index walked.index) missing in
        let task_is : here.task ≡ task = row_once rows (length trace) row task here.task next.listed here.listed (omega (arith, here.listed.number)) in
        let there : files (log_name dir here.task.path) ≡ Some bytes = ap (λ (r : Row). files (log_name dir r.path)) task_is ∙ next.there in
        cc (there, here.missing)

    record_there : (row m : ℕ) (rule : RecordWhy) → row ≡ length trace + 1 → slice_cmp nat_cmp (m ∷ record_rank rule ∷ []) (n ∷ rank ∷ []) ≡ Less → IsBad format files dir (bad_record row m rule) → ⊥
    record_there row m rule is less (told, index, found) =
        let here : IsBadRecord format files dir rows row m rule = subst (λ (rs : List Row). IsBadRecord format files dir rs row m rule) (index_once files dir told rows index walked.index) found in
        let fault = bad_here files dir rows trace task bytes spans team row m rule walked next here (omega (arith, here.listed.number)) in
        elim (number_before m n (record_rank rule) rank less) [
          | inl below ↦ nothing.earlier m rule below fault
          | inr same ↦ nothing.here rule same.1 (subst (λ (k : ℕ). IsLogFault format bytes (row_task task spans team) k rule) same.0 fault)
        ]

    over_there : (row m : ℕ) → row ≡ length trace + 1 → slice_cmp nat_cmp (m ∷ last_rank ∷ []) (n ∷ rank ∷ []) ≡ Less → IsBad format files dir (too_many_segments row m) → ⊥
    over_there row m is less (told, index, found) =
        let here : IsOneTooMany format files dir rows row m = subst (λ (rs : List Row). IsOneTooMany format files dir rs row m) (index_once files dir told rows index walked.index) found in
        let over = over_here files dir rows trace task bytes spans team row m walked next here (omega (arith, here.listed.number)) in
        elim (number_before m n last_rank rank less) [
          | inl below ↦ nothing.segments m below over
          | inr same ↦ absurd (omega (arith, same.1))
        ]

rank_small : (rule : RecordWhy) → record_rank rule ≤ last_rank
rank_small log.Header = omega arith
rank_small log.Cut = omega arith
rank_small log.Kind = omega arith
rank_small log.Size = omega arith
rank_small log.LineZero = omega arith
rank_small log.Address = omega arith
rank_small log.Span = omega arith
rank_small log.Reserved = omega arith
rank_small log.EndEarly = omega arith
rank_small log.EndMissing = omega arith
rank_small log.LockTwice = omega arith
rank_small log.LocksDeep = omega arith
rank_small log.UnlockOther = omega arith
rank_small log.RootBarrier = omega arith
rank_small log.BarrierLocked = omega arith
rank_small log.RegionLocked = omega arith
rank_small log.LockOpen = omega arith
rank_small log.RegionRows = omega arith
rank_small log.BarrierCount = omega arith
rank_small log.Extra = omega arith

-- a record of the next log is bad
pub record_first : {format : Format} (files : Files) (dir : List ℕ) (rows : List Row) (trace : Trace) (task : Row) (bytes spans : List ℕ) (team : Option ℕ) (n : ℕ) (rule : RecordWhy) → Walked format files dir rows trace
    → NextLog files dir rows trace task bytes spans team → IsLogFault format bytes (row_task task spans team) n rule → NothingBefore format bytes (row_task task spans team) (segments_in trace) n (record_rank rule)
    → IsFirstBad format files dir (bad_record (length trace + 1) n rule)
record_first files dir rows trace task bytes spans team n rule walked next fault nothing = record {
  bad = (
    rows,
    walked.index,
    record {
      task = task;
      listed = row_at_end rows (length trace) task next.listed;
      bytes = bytes;
      there = next.there;
      spans = spans;
      has_spans = next.has_spans;
      due_barriers = team;
      has_team = has_team files dir trace task.path team walked.logs next.has_team;
      fault = fault;
    },
  );
  least = in_row files dir rows trace task bytes spans team n (record_rank rule) (bad_record (length trace + 1) n rule) walked next nothing (rank_small rule) refl;
}

-- a record of the next log opens one segment too many
pub over_first : {format : Format} (files : Files) (dir : List ℕ) (rows : List Row) (trace : Trace) (task : Row) (bytes spans : List ℕ) (team : Option ℕ) (n : ℕ) → Walked format files dir rows trace
    → NextLog files dir rows trace task bytes spans team → OpensTooMany format bytes task.records (segments_in trace) n → NothingBefore format bytes (row_task task spans team) (segments_in trace) n last_rank
    → IsFirstBad format files dir (too_many_segments (length trace + 1) n)
over_first files dir rows trace task bytes spans team n walked next over nothing = record {
  bad = (
    rows,
    walked.index,
    record {
      task = task;
      listed = row_at_end rows (length trace) task next.listed;
      bytes = bytes;
      there = next.there;
      earlier = trace;
      earlier_rows = walked.good.rows_are;
      earlier_logs = walked.logs;
      over = over;
    },
  );
  least = in_row files dir rows trace task bytes spans team n last_rank (too_many_segments (length trace + 1) n) walked next nothing (omega arith) refl;
}

-- ---- a folder whose logs are all good

all_walked : (rows : List Row) (trace : Trace) (row : ℕ) (task : Row) → length trace ≡ length rows → (at : RowAt rows row task) → at.index < length trace
all_walked rows trace row task all at = omega (arith, slice_get_within rows at.index task at.listed)

pub is_well_formed : {format : Format} (files : Files) (dir : List ℕ) (rows : List Row) (trace : Trace) → Walked format files dir rows trace → length trace ≡ length rows → IsWellFormed format files dir
is_well_formed files dir rows trace walked all no_index bad = index_good files dir rows no_index walked.index bad
is_well_formed files dir rows trace walked all (bad_row n rule) bad = index_good files dir rows (bad_row n rule) walked.index bad
is_well_formed files dir rows trace walked all (missing_log row) (told, index, bad) =
    let here : IsMissingLog files dir rows row = subst (λ (rs : List Row). IsMissingLog files dir rs row) (index_once files dir told rows index walked.index) bad in
    no_missing files dir rows trace row walked here (all_walked rows trace row here.task all here.listed)
is_well_formed {format} files dir rows trace walked all (bad_record row n rule) (told, index, bad) =
    let here : IsBadRecord format files dir rows row n rule = subst (λ (rs : List Row). IsBadRecord format files dir rs row n rule) (index_once files dir told rows index walked.index) bad in
    no_bad_record files dir rows trace row n rule walked here (all_walked rows trace row here.task all here.listed)
is_well_formed {format} files dir rows trace walked all (too_many_segments row n) (told, index, bad) =
    let here : IsOneTooMany format files dir rows row n = subst (λ (rs : List Row). IsOneTooMany format files dir rs row n) (index_once files dir told rows index walked.index) bad in
    no_too_many files dir rows trace row n walked here (all_walked rows trace row here.task all here.listed)

pub holds_trace : {format : Format} (files : Files) (dir : List ℕ) (rows : List Row) (trace : Trace) → Walked format files dir rows trace → length trace ≡ length rows → HoldsTrace format files dir trace
holds_trace {format} files dir rows trace walked all = record {
  index = subst (λ (rs : List Row). IsIndex format files dir rs) (sym (walked.good.rows_are ∙ take_all (length trace) rows (omega arith))) walked.index;
  logs = walked.logs;
}

-- ---- one log more

-- the sum of segments after one log more
pub segments_push : (trace : Trace) (task : TaskLog) → segments_in (trace ++ task ∷ []) ≡ segments_in trace + segment_count task.records
segments_push trace task =
    sum_by-append (λ (t : TaskLog). segment_count t.records) trace (task ∷ [])
    ∙ ap (λ (n : ℕ). segments_in trace + n) (sum_by-cons (λ (t : TaskLog). segment_count t.records) task [] ∙ omega arith)

pub good_next : {format : Format} (rows : List Row) (trace : Trace) (task : TaskLog) → IsGoodTrace format rows trace → slice_get rows (length trace) ≡ Some (row_of task) → IsGoodTask format rows trace task
    → segments_in trace + segment_count task.records ≤ max_segments → IsGoodTrace format rows (trace ++ task ∷ [])
good_next {format} rows trace task good found good_task few = record {
  rows_are = map-append row_of trace (task ∷ [])
      ∙ ap (λ (rs : List Row). rs ++ row_of task ∷ []) good.rows_are
      ∙ ap (λ (row : Row). take (length trace) rows ++ row ∷ []) (sym (get_or_from_slice_get rows (length trace) (row_of task) (row_of task) found))
      ∙ sym (take_more rows (length trace) (row_of task) (slice_get_within rows (length trace) (row_of task) found))
      ∙ ap (λ (n : ℕ). take n rows) (sym (length_push trace task));
  each = each;
  limit = omega (arith, segments_push trace task);
} where
  prefix : (k : ℕ) → k ≤ length trace → take k (trace ++ task ∷ []) ≡ take k trace
  prefix k small = take-append-le k trace (task ∷ []) small

  each : (k : ℕ) (t : TaskLog) → slice_get (trace ++ task ∷ []) k ≡ Some t → IsGoodTask format rows (take k (trace ++ task ∷ [])) t
  each k t at =
      let within : k < length trace + 1 = omega (arith, slice_get_within (trace ++ task ∷ []) k t at, length_push trace task) in
      elim (below_or_at k (length trace) within) [
        | inl less ↦
            subst (λ (earlier : Trace). IsGoodTask format rows earlier t) (sym (prefix k (omega arith)))
            (good.each k t (sym (get_left trace (task ∷ []) k less) ∙ at))
        | inr same ↦
            let task_is : task ≡ t = same_Some task t (sym (get_seam trace task []) ∙ ap (λ (j : ℕ). slice_get (trace ++ task ∷ []) j) (sym same) ∙ at) in
            subst (λ (earlier : Trace). IsGoodTask format rows earlier t) (sym (prefix k (omega arith) ∙ take_all k trace (omega arith)))
            (subst (λ (u : TaskLog). IsGoodTask format rows trace u) task_is good_task)
      ]
