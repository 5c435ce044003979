-- A trace that keeps the rules is that of a fork-join run.
use Rattle.std.proofs.Common.{◌≡◌, ◌≢◌, ◌⊎◌, inl, inr, ℕ, zero, suc, ◌+◌, ◌<◌, ◌≤◌, false, cond, List, [], ◌∷◌, ◌++◌, length, take, Option, Some, None, refl, sym, ap, subst, ◌∙◌, arith, get_or}
use Rattle.std.specs.Prelude.{slice_get, Contains, map, All}
use Rattle.std.proofs.lemmas.List.{length-take-le, take_at}
use Rattle.std.proofs.lemmas.List.Sums.{sum_by-take-le, sum_by-append}
use Rattle.std.proofs.lemmas.List.Elements.{All-from_get_or, All-contains, Contains-push}
use Rattle.std.proofs.lemmas.Option.{slice_get_within, slice_get-get_or, same_Some, none-some}
use Rattle.sw_base.specs.declared.path.Step.{Step}
use Rattle.sw_base.proofs.Lists.{get_seam, get_more}
use Rattle.log_format.specs.declared.format.Format.{Format}
use Rattle.log_format.specs.declared.record.Record.{Record}
use Rattle.log_format.specs.declared.record.Kind.{Kind}
use Rattle.log_format.specs.declared.record.Kind.TheVariants.{Region, End}
use Rattle.race_model.specs.declared.why.RecordWhy.{RecordWhy}
use Rattle.race_model.specs.declared.why.RecordWhy.TheVariants as log
use Rattle.race_model.specs.Row.{Row}
use Rattle.race_model.specs.Listing.{IsListing, lane_of}
use Rattle.race_model.specs.Trace.{TaskLog, Trace, Node, logs_of, regions_before, region_count, barrier_count, is_region_kind, is_barrier_kind}
use Rattle.race_model.specs.Order.{IsLane}
use Rattle.race_model.specs.IndexFault.{IsRow, IsStep, AreRows}
use Rattle.race_model.specs.LogFault.{Breaks, ListsSpans}
use Rattle.race_model.specs.FirstBad.{row_of, rows_of}
use Rattle.race_model.specs.KeepsRules.{KnowsTeam, TaskKeepsRules, KeepsRules}
use Rattle.race_model.specs.ForkJoin.{EndsOnce, IsTask, WasForked, IsForkJoin}
use Rattle.race_laws.proofs.Counts.{count_finds, Counted, below_later, is_end, region_from_true, barrier_from_true}
use Rattle.race_laws.proofs.LabelPlace.{has_last, HasLast}
use Rattle.race_laws.proofs.Listed.{above_listed, beside_listed, root_listed}
use Rattle.race_model.proofs.TraceLogs.{all_at, find_task, listed_task, HasRecords}
use Rattle.race_laws.proofs.FolderRules.{path_listed, region_of}

end_counts : (k : Kind) → k ≡ End → is_barrier_kind k ≡ false
end_counts k e = rw e refl

same_or_not : (m n : ℕ) → (m ≡ n) ⊎ (m ≢ n)
same_or_not m n = grind arith

not_not_same : (m n : ℕ) → ((m ≢ n) → ⊥) → m ≡ n
not_not_same m n h = at (same_or_not m n) where
  at : (m ≡ n) ⊎ (m ≢ n) → m ≡ n
  at (inl e) = e
  at (inr ne) = absurd (h ne)

abbrev NotEnd : Record → Type 0
NotEnd r = r.kind ≡ End → ⊥

-- an End at the last place alone
ends_once : (records : List Record) → 1 ≤ length records
    → ((k : ℕ) (r : Record) → slice_get records k ≡ Some r → r.kind ≡ End → k + 1 < length records → ⊥)
    → ((k : ℕ) (r : Record) → slice_get records k ≡ Some r → (r.kind ≢ End) → k + 1 ≡ length records → ⊥)
    → EndsOnce records
ends_once records some early missing = at (has_last records)
  where
    build : (prefix : List Record) (last : Record) → records ≡ prefix ++ last ∷ [] → EndsOnce records
    build prefix last parts =
        let long : length records ≡ length prefix + 1 = ap length parts ∙ (let n : length (prefix ++ last ∷ []) ≡ length prefix + 1 = grind (arith, length_more) in n) in
        let here : slice_get records (length prefix) ≡ Some last = subst (λ (rs : List Record). slice_get rs (length prefix) ≡ Some last) (sym parts) (get_seam prefix last []) in
        record {
          prefix = prefix;
          last = last;
          parts = parts;
          ends = decide (is_end last.kind) (λ ne. missing (length prefix) last here ne (sym long));
          once = All-from_get_or NotEnd prefix last
              (λ k within e. early k (get_or prefix k last)
              (subst (λ (rs : List Record). slice_get rs k ≡ Some (get_or prefix k last)) (sym parts) (get_more prefix (last ∷ []) k (get_or prefix k last) (slice_get-get_or prefix k last within)))
              e (omega arith));
        }
      where
        length_more : (xs : List Record) (x : Record) → length (xs ++ x ∷ []) ≡ length xs + 1
        length_more [] x = refl
        length_more (y ∷ xs) x = omega (arith, length_more xs x)

        decide : (last.kind ≡ End) ⊎ (last.kind ≢ End) → ((last.kind ≢ End) → ⊥) → last.kind ≡ End
        decide (inl e) never = e
        decide (inr ne) never = absurd (never ne)

    at : (records ≡ []) ⊎ HasLast records → EndsOnce records
    at (inl e) = let none : length records ≡ 0 = ap length e in absurd (omega arith)
    at (inr l) = build l.prefix l.last l.parts

-- what is known of a task that is found: no record breaks a rule
record Known (trace : Trace) (path : List Step) (records : List Record) : Type 0 where
  spans : List ℕ
  lists : ListsSpans (rows_of trace) path spans
  listed : Contains (map (λ (row : Row). row.path) (rows_of trace)) path
  row_is : IsRow (record { path = path; records = length records })
  team : Option ℕ
  knows_team : KnowsTeam trace path team
  keeps : (k : ℕ) (r : Record) → slice_get records k ≡ Some r → (rule : RecordWhy) → Breaks (record { path = path; records = length records; spans = spans; due_barriers = team }) (take k records) r rule → ⊥

pub path_at : (trace : Trace) (index : ℕ) (task : TaskLog) → slice_get trace index ≡ Some task → Contains (map (λ (row : Row). row.path) (rows_of trace)) task.path
path_at [] index task found = cc
path_at (t ∷ trace) zero task found = (0, omega arith, ap (λ (x : TaskLog). x.path) (same_Some t task found))
path_at (t ∷ trace) (suc index) task found = at (path_at trace index task found) where
  at : Contains (map (λ (row : Row). row.path) (rows_of trace)) task.path → Contains (map (λ (row : Row). row.path) (rows_of (t ∷ trace))) task.path
  at (k, within, is) = (suc k, omega arith, is)

pub row_all : (trace : Trace) (index : ℕ) (task : TaskLog) → All IsRow (rows_of trace) → slice_get trace index ≡ Some task → IsRow (row_of task)
row_all [] index task all found = cc
row_all (t ∷ trace) zero task all found = subst (λ (x : TaskLog). IsRow (row_of x)) (same_Some t task found) (all 0 (row_of t) (omega arith))
row_all (t ∷ trace) (suc index) task all found = row_all trace index task (λ k d within. all (suc k) d (omega arith)) found

pub paths_same : (trace : Trace) → map (λ (row : Row). row.path) (rows_of trace) ≡ map (λ (task : TaskLog). task.path) trace
paths_same [] = refl
paths_same (t ∷ trace) = ap (λ (ps : List (List Step)). t.path ∷ ps) (paths_same trace)

-- what holds at each place of a list
pub all_by : {X : Type 0} (P : X → Type 0) (xs : List X) → ((k : ℕ) (x : X) → slice_get xs k ≡ Some x → P x) → All P xs
all_by P xs each k d within = each k (get_or xs k d) (slice_get-get_or xs k d within)

pub with_records : (trace : Trace) → All IsRow (rows_of trace) → All HasRecords trace
with_records trace all = all_by HasRecords trace (λ k task found. let row = row_all trace k task all found in row.records.some)

-- a listed task has records
pub has_begun : (trace : Trace) → AreRows (rows_of trace) → (path : List Step) → Contains (map (λ (row : Row). row.path) (rows_of trace)) path → IsTask (logs_of trace) path
has_begun trace rows path listed =
    listed_task trace path (with_records trace rows.each) (subst (λ (ps : List (List Step)). Contains ps path) (paths_same trace) listed)

module _ {format : Format} (trace : Trace) (good : KeepsRules format trace) where
  is_listing : IsListing (map (λ (row : Row). row.path) (rows_of trace))
  is_listing = good.rows.lists

  known_task : (index : ℕ) (task : TaskLog) → slice_get trace index ≡ Some task → Known trace task.path task.records
  known_task index task found =
      let keeps = all_at (TaskKeepsRules format trace) trace index task good.tasks found in
      record {
        spans = keeps.spans;
        lists = keeps.has_spans;
        listed = path_at trace index task found;
        row_is = row_all trace index task good.rows.each found;
        team = keeps.due_barriers;
        knows_team = keeps.knows_team;
        keeps = keeps.keeps;
      }

  known : (path : List Step) → IsTask (logs_of trace) path → Known trace path (logs_of trace path)
  known path begun =
      let f = find_task trace path begun in
      subst (λ (records : List Record). Known trace path records) f.records_are
      (subst (λ (p : List Step). Known trace p f.task.records) f.path_is (known_task f.index f.task f.found))

  short : (path : List Step) (k : ℕ) (r : Record) → slice_get (logs_of trace path) k ≡ Some r → length (take k (logs_of trace path)) ≡ k
  short path k r found = let within : k < length (logs_of trace path) = slice_get_within (logs_of trace path) k r found in length-take-le k (logs_of trace path) (omega arith)

  ended : (path : List Step) → IsTask (logs_of trace) path → EndsOnce (logs_of trace path)
  ended path begun =
      let k = known path begun in
      ends_once (logs_of trace path) (omega arith)
      (λ n r found is early. let at : length (take n (logs_of trace path)) ≡ n = short path n r found in
      k.keeps n r found log.EndEarly (is, omega arith))
      (λ n r found isn last. let at : length (take n (logs_of trace path)) ≡ n = short path n r found in
      k.keeps n r found log.EndMissing (isn, omega arith))

  -- the End of a task
  record Ending (path : List Step) : Type 0 where
    place : ℕ
    last : Record
    found : slice_get (logs_of trace path) place ≡ Some last
    is_last : last.kind ≡ End
    parts : logs_of trace path ≡ take place (logs_of trace path) ++ last ∷ []

  ending : (path : List Step) → IsTask (logs_of trace) path → Ending path
  ending path begun =
      let e = ended path begun in
      record {
        place = length e.prefix;
        last = e.last;
        found = subst (λ (rs : List Record). slice_get rs (length e.prefix) ≡ Some e.last) (sym e.parts) (get_seam e.prefix e.last []);
        is_last = e.ends;
        parts = e.parts ∙ ap (λ (rs : List Record). rs ++ e.last ∷ []) (sym (take_at e.prefix (e.last ∷ []) (length e.prefix) refl) ∙ ap (λ (rs : List Record). take (length e.prefix) rs) (sym e.parts));
      }

  -- a region of a task has the span that is listed
  span_listed : (path : List Step) (k : Known trace path (logs_of trace path)) (place : ℕ) (r : Record) → slice_get (logs_of trace path) place ≡ Some r → r.kind ≡ Region
      → (span : ℕ) → slice_get k.spans (region_count (take place (logs_of trace path))) ≡ Some span → r.value ≡ span
  span_listed path k place r found is span listed =
      not_not_same r.value span
      (λ ne. k.keeps place r found log.RegionRows
      (inl (is, (λ also. ne (same_Some r.value span (sym also ∙ listed))))))

  region_spans : (path : List Step) (k : Known trace path (logs_of trace path)) (place : ℕ) (r : Record) → slice_get (logs_of trace path) place ≡ Some r → r.kind ≡ Region
      → slice_get k.spans (region_count (take place (logs_of trace path))) ≡ Some r.value
  region_spans path k place r found is = at (slice_get k.spans (region_count (take place (logs_of trace path)))) refl
    where
      never : (slice_get k.spans (region_count (take place (logs_of trace path))) ≢ Some r.value) → ⊥
      never ne = k.keeps place r found log.RegionRows (inl (is, ne))

      at : (o : Option ℕ) → slice_get k.spans (region_count (take place (logs_of trace path))) ≡ o → slice_get k.spans (region_count (take place (logs_of trace path))) ≡ Some r.value
      at None e = absurd (never (λ also. none-some r.value (sym e ∙ also)))
      at (Some span) e = e ∙ ap (λ (n : ℕ). Some n) (sym (span_listed path k place r found is span e))

  forked : (path : List Step) (step : Step) → IsTask (logs_of trace) (path ++ step ∷ []) → WasForked (logs_of trace) path step
  forked path step begun = go (known path above) (ending path above)
    where
      below : Known trace (path ++ step ∷ []) (logs_of trace (path ++ step ∷ []))
      below = known (path ++ step ∷ []) begun

      above : IsTask (logs_of trace) path
      above = has_begun trace good.rows path (above_listed (map (λ (row : Row). row.path) (rows_of trace)) path step is_listing below.listed)

      is_step : IsStep step
      is_step = All-contains IsStep (path ++ step ∷ []) step below.row_is.steps (Contains-push path step)

      spans_are : (k : Known trace path (logs_of trace path)) → slice_get k.spans step.region ≡ Some step.span
      spans_are k = (k.lists step.region step.span).0 (region_of (rows_of trace) path step below.listed)

      build : Known trace path (logs_of trace path) → Counted (λ (r : Record). is_region_kind r.kind) (logs_of trace path) step.region → WasForked (logs_of trace) path step
      build k c =
          let is_region : c.item.kind ≡ Region = region_from_true c.item.kind c.counts in
          let value : c.item.value ≡ step.span =
          span_listed path k c.index c.item c.found is_region step.span (ap (λ (n : ℕ). slice_get k.spans n) c.before ∙ spans_are k) in
          record {
            fork = record { path = path; index = c.index };
            above = refl;
            lane = record {
              event = c.item;
              found = c.found;
              region = is_region;
              spans = value;
              in_span = is_step.lane;
              child = ap (λ (n : ℕ). path ++ record { region = n; lane = step.lane; span = step.span } ∷ []) (sym c.before);
            };
          }

      go : Known trace path (logs_of trace path) → Ending path → WasForked (logs_of trace) path step
      go k e =
          let within : step.region < length k.spans = slice_get_within k.spans step.region step.span (spans_are k) in
          let all : region_count (take e.place (logs_of trace path)) < length k.spans → ⊥ =
          (λ fewer. k.keeps e.place e.last e.found log.RegionRows (inr (e.is_last, fewer))) in
          let up : region_count (take e.place (logs_of trace path)) ≤ region_count (logs_of trace path) =
          sum_by-take-le (λ (r : Record). cond (is_region_kind r.kind) 1 0) (logs_of trace path) e.place in
          build k (count_finds (λ (r : Record). is_region_kind r.kind) (logs_of trace path) step.region (below_later step.region (length k.spans) _ _ within all up))

  lanes_begun : (fork : Node) (lane span : ℕ) (path : List Step) → IsLane (logs_of trace) fork lane span path → IsTask (logs_of trace) path
  lanes_begun fork lane span path is =
      let begun : IsTask (logs_of trace) fork.path = (let within = slice_get_within (logs_of trace fork.path) fork.index is.event is.found in omega arith) in
      let k = known fork.path begun in
      let spans : slice_get k.spans (regions_before (logs_of trace) fork) ≡ Some span =
      region_spans fork.path k fork.index is.event is.found is.region ∙ ap (λ (n : ℕ). Some n) is.spans in
      let first = (k.lists (regions_before (logs_of trace) fork) span).1 spans in
      subst (λ (p : List Step). IsTask (logs_of trace) p) (sym is.child)
      (has_begun trace good.rows _ (beside_listed (map (λ (row : Row). row.path) (rows_of trace)) fork.path (regions_before (logs_of trace) fork) first.lane lane span is_listing
      (subst (λ (p : List Step). Contains (map (λ (row : Row). row.path) (rows_of trace)) p) first.child (path_listed (rows_of trace) first.row first.listed)) is.in_span))

  -- a task passed as many barriers as it has before its End
  all_barriers : (path : List Step) (e : Ending path) → barrier_count (logs_of trace path) ≡ barrier_count (take e.place (logs_of trace path))
  all_barriers path e =
      ap (λ (rs : List Record). barrier_count rs) e.parts
      ∙ (sum_by-append (λ (r : Record). cond (is_barrier_kind r.kind) 1 0) (take e.place (logs_of trace path)) (e.last ∷ [])
      ∙ (let none : barrier_count (e.last ∷ []) ≡ 0 = rw (end_counts e.last.kind e.is_last) refl in omega arith))

  -- a lane passed as many as the first of its team
  abbrev lane_zero : Node → ℕ → List Step
  lane_zero fork span = lane_of fork.path (regions_before (logs_of trace) fork) 0 span

  as_first : (fork : Node) (lane span : ℕ) (path : List Step) → IsLane (logs_of trace) fork lane span path
      → barrier_count (logs_of trace path) ≡ barrier_count (logs_of trace (lane_zero fork span))
  as_first fork zero span path is = ap (λ (p : List Step). barrier_count (logs_of trace p)) is.child
  as_first fork (suc n) span path is =
      let begun = lanes_begun fork (suc n) span path is in
      let k = known path begun in
      let e = ending path begun in
      let known_team : k.team ≡ Some (barrier_count (logs_of trace (lane_zero fork span))) =
      k.knows_team fork.path (record { region = regions_before (logs_of trace) fork; lane = suc n; span = span }) is.child (omega arith) in
      all_barriers path e
      ∙ not_not_same (barrier_count (take e.place (logs_of trace path))) (barrier_count (logs_of trace (lane_zero fork span)))
      (λ ne. k.keeps e.place e.last e.found log.BarrierCount (e.is_last, (barrier_count (logs_of trace (lane_zero fork span)), known_team, ne)))

  root_begun : IsTask (logs_of trace) []
  root_begun = has_begun trace good.rows [] (root_listed (map (λ (row : Row). row.path) (rows_of trace)) is_listing)

  none_in_root : (n : ℕ) → barrier_count (logs_of trace []) ≡ n → n ≡ 0
  none_in_root zero e = refl
  none_in_root (suc n) e =
      let c = count_finds (λ (r : Record). is_barrier_kind r.kind) (logs_of trace []) 0 (omega arith) in
      let k = known [] root_begun in
      absurd (k.keeps c.index c.item c.found log.RootBarrier (barrier_from_true c.item.kind c.counts, refl))

  pub fork_join : IsForkJoin (logs_of trace)
  fork_join = record {
    tasks = record { root = root_begun; forked = forked };
    ends = record {
      ended = ended;
      lanes = lanes_begun;
      same_barriers = λ fork lane other span path beside mine yours. as_first fork lane span path mine ∙ sym (as_first fork other span beside yours);
      no_root_barrier = none_in_root (barrier_count (logs_of trace [])) refl;
    };
  }
