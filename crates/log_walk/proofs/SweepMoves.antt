-- How a sweep goes on.
use Rattle.std.proofs.Common.{◌≡◌, ◌⊎◌, inl, inr, ℕ, zero, suc, ◌+◌, ◌^◌, ◌<◌, ◌≤◌, List, [], ◌∷◌, ◌++◌, length, min, Option, Some, None, refl, sym, ap, subst, ◌∙◌, arith, append-nil, length-append}
use Rattle.std.specs.Prelude.{slice_get, All, Ok, Err}
use Rattle.std.specs.Global.{Vec}
use Rattle.std.specs.List.{AllZip}
use Rattle.std.proofs.lemmas.Bool.{cases_order}
use Rattle.std.proofs.lemmas.List.{length-map, length-take, take_all}
use Rattle.std.proofs.lemmas.Option.{none-some, same_Some, slice_get_within}
use Rattle.sw_base.specs.declared.path.Step.{Step}
use Rattle.sw_base.specs.Environment.{Content, Files, WhereTold}
use Rattle.log_format.specs.declared.format.Format.{Format}
use Rattle.race_model.specs.Row.{Row}
use Rattle.race_model.specs.FirstBad.{row_of, rows_of}
use Rattle.race_model.specs.IndexFault.{AreRows, IsIndex, IsRow, IsStep}
use Rattle.race_model.specs.Listing.{IsListing, IsNextPath}
use Rattle.race_model.specs.Segment.{Segment as Interval, segments_of, task_segments}
use Rattle.race_model.specs.Trace.{TaskLog, Trace, Logs, logs_of}
use Rattle.race_laws.proofs.ListedOnce.{next_path}
use Rattle.log_segment.specs.declared.segment.Segment.{Segment}
use Rattle.log_segment.specs.Intervals.{IsSegmentOf}
use Rattle.log_segment.specs.Walking.{AddsSegments, HasLogs}
use Rattle.log_walk.specs.GoodTrace.{IsGoodTrace}
use Rattle.log_segment.specs.Regions.{IsUnderRegion}
use Rattle.log_walk.specs.Stack.{IsStackAfter, WalksTask}
use Rattle.log_walk.specs.Sweep.{AnswersNext, AreRegions, BeginsSweep, Completes, GivesRegion, GivesSegments, HasRefused, HasSwept, HasSweptAll, IsRoot, RefusesIndexOrRoot, WalksRegion}
use Rattle.sw_base.specs.declared.trouble.Trouble.{Trouble}
use Rattle.sw_base.specs.declared.trouble.Trouble.TheVariants as trouble
use Rattle.log_walk.specs.Walk.{RefusesLogOf, TellsFirstBad, Walked, walk_fault}
use Rattle.log_walk.specs.declared.fault.WalkFault.{WalkFault}
use Rattle.log_walk.specs.declared.fault.WalkFault.TheVariants as fault
use Rattle.log_walk.specs.declared.stack.Stack.{Stack}
use Rattle.log_walk.specs.declared.sweep.Sweep.{Sweep}
use Rattle.log_walk.proofs.Forked.{own_logs, path_there, row_at}
use Rattle.log_walk.proofs.Giving.{added_none, one_tree, segments_are, whole_logs}
use Rattle.log_walk.proofs.Keeps.{keeps_rules}
use Rattle.log_walk.proofs.Places.{holds_trace, is_well_formed}
use Rattle.log_walk.proofs.RowOrder.{PathBefore, listing_sorted, listed_once}
use Rattle.log_walk.proofs.SpanOrder.{paths_of, row_path, path_found}
use Rattle.log_walk.proofs.Sweeping.{one_region, regions_next, walked_push}
use Rattle.log_walk.proofs.TaskReads.{got_contains}

-- a listing begins with the root
root_path : (paths : List (List Step)) → IsListing paths → slice_get paths 0 ≡ Some []
root_path paths is = subst (λ (ps : List (List Step)). slice_get ps 0 ≡ Some []) is.lists refl

pub some_rows : (rows : List Row) → AreRows rows → 0 < length rows
some_rows rows good = let within = slice_get_within (paths_of rows) 0 [] (root_path (paths_of rows) good.lists) in omega (arith, within, length-map rows row_path)

-- a later row is under no earlier region
later_region : (p q : List Step) (m n : ℕ) → PathBefore p q → IsUnderRegion m p → IsUnderRegion n q → m ≤ n
later_region p q m n before one other = at (subst (λ (x : List Step). PathBefore x q) one.parts before)
  where
    at : PathBefore (one.first ∷ one.rest) q → m ≤ n
    at b = here (subst (λ (x : List Step). PathBefore (one.first ∷ one.rest) x) other.parts b)
      where
        here : PathBefore (one.first ∷ one.rest) (other.first ∷ other.rest) → m ≤ n
        here (inl (inl less)) = omega (arith, less, one.region_is, other.region_is)
        here (inl (inr (same, less))) = omega (arith, same, one.region_is, other.region_is)
        here (inr (same, rest)) = omega (arith, ap (λ (s : Step). s.region) same, one.region_is, other.region_is)

-- only the tasks that were gone over are under the region
only_these : (rows : List Row) (region : ℕ) (trace more : Trace) → AreRows rows → AreRegions region rows trace → AreRegions (region + 1) rows (trace ++ more) → (k : ℕ) (row : Row) → slice_get rows k ≡ Some row
    → IsUnderRegion region row.path → (length trace ≤ k) × (k < length (trace ++ more))
only_these rows region trace more good was now k row found is_under = (low (cut k (length trace)), high (cut k (length (trace ++ more))))
  where
    cut : (i n : ℕ) → (i < n) ⊎ (n ≤ i)
    cut i n = grind arith

    low : (k < length trace) ⊎ (length trace ≤ k) → length trace ≤ k
    low (inl less) = let never = was.given k row region found is_under less in absurd (omega arith)
    low (inr le) = le

    behind : length (trace ++ more) ≤ k → ⊥
    behind le = from (slice_get rows (length (trace ++ more))) refl
      where
        from : (o : Option Row) → slice_get rows (length (trace ++ more)) ≡ o → ⊥
        from None missing = no_gap rows (length (trace ++ more)) k missing le found where
          no_gap : (xs : List Row) (i j : ℕ) → slice_get xs i ≡ None → i ≤ j → slice_get xs j ≡ Some row → ⊥
          no_gap [] i j none le there = cc
          no_gap (y ∷ xs) zero j none le there = cc
          no_gap (y ∷ xs) (suc i) zero none le there = absurd (omega arith)
          no_gap (y ∷ xs) (suc i) (suc j) none le there = no_gap xs i j none (omega arith) there
        from (Some first) there = at (now.next first there) (cases_order (length (trace ++ more)) k)
          where
            at : IsUnderRegion (region + 1) first.path → (length (trace ++ more) ≡ k) ⊎ ((length (trace ++ more) < k) ⊎ (k < length (trace ++ more))) → ⊥
            at u (inl same) =
                let is_it : first ≡ row = same_Some first row (sym there ∙ (ap (λ (n : ℕ). slice_get rows n) same ∙ found)) in
                let clash = one_region row.path (region + 1) region (subst (λ (r : Row). IsUnderRegion (region + 1) r.path) is_it u) is_under in
                absurd (omega arith)
            at u (inr (inl less)) =
                let clash = later_region first.path row.path (region + 1) region
                (listing_sorted (paths_of rows) (length (trace ++ more)) k first.path row.path good.lists less (path_found rows (length (trace ++ more)) first there) (path_found rows k row found)) u is_under in
                absurd (omega arith)
            at u (inr (inr more_than)) = absurd (omega arith)

    high : (k < length (trace ++ more)) ⊎ (length (trace ++ more) ≤ k) → k < length (trace ++ more)
    high (inl less) = less
    high (inr le) = absurd (behind le)

-- the segments of the tasks that were gone over last
gives : {format : Format} (sweep : Sweep) (trace more : Trace) (IsOne : List Step → Type 0) (found : List Segment) → AreRows sweep.rows → IsGoodTrace format sweep.rows (trace ++ more) → 0 < length (trace ++ more)
    → ((k : ℕ) (row : Row) → slice_get sweep.rows k ≡ Some row → length trace ≤ k → k < length (trace ++ more) → IsOne row.path)
    → ((k : ℕ) (row : Row) → slice_get sweep.rows k ≡ Some row → IsOne row.path → (length trace ≤ k) × (k < length (trace ++ more)))
    → ((logs : Logs) → HasLogs logs (trace ++ more) → AddsSegments logs (segments_of more) [] found) → GivesSegments sweep trace more IsOne found
gives sweep trace more IsOne found good is some ones only adds = record {
  tree = one_tree sweep.rows trace more good is found some (root_path (paths_of sweep.rows) good.lists)
      (added_none (logs_of (trace ++ more)) more found (adds (logs_of (trace ++ more)) (own_logs sweep.rows (trace ++ more) good is)));
  are = λ whole c. segments_are sweep.rows trace more c.rest whole IsOne found good is c.rows_are c.parts ones only (zip whole c);
  in_order = λ whole c. zip whole c;
} where
  zip : (whole : Trace) → Completes sweep (trace ++ more) whole → AllZip (IsSegmentOf (logs_of whole)) (segments_of more) found
  zip whole c = added_none (logs_of whole) more found (adds (logs_of whole) (whole_logs sweep.rows (trace ++ more) c.rest whole good c.rows_are c.parts))

-- a region was gone over
gives_region : {format : Format} (told : Option Content) (dir : List ℕ) (old new : Sweep) (trace : Trace) (found : List Segment) → HasSwept format told dir old trace → old.refused ≡ None
    → new ≡ record old { stack = new.stack; region = old.region + 1 } → WalksRegion format told dir old.rows old.region new.stack trace found → GivesRegion format told dir old new trace found
gives_region {format} told dir old new trace found swept fresh is walks = record {
  more = walks.more;
  swept = record {
    format_is = ap (λ (s : Sweep). s.format) is ∙ swept.format_is;
    dir_is = ap (λ (s : Sweep). s.dir) is ∙ swept.dir_is;
    rows = subst (λ (rs : List Row). AreRows rs) (sym rows) swept.rows;
    good = subst (λ (rs : List Row). IsGoodTrace format rs (trace ++ walks.more)) (sym rows) walks.stands.good;
    regions = subst (λ (n : ℕ). AreRegions n new.rows (trace ++ walks.more)) (sym region) (subst (λ (rs : List Row). AreRegions (old.region + 1) rs (trace ++ walks.more)) (sym rows) regions);
    stands = λ none. subst (λ (rs : List Row). IsStackAfter format rs new.stack (trace ++ walks.more)) (sym rows) walks.stands;
    holds = λ c at. subst (λ (rs : List Row). Walked format c.held dir rs (trace ++ walks.more)) (sym rows) (walks.holds swept.holds c at);
    refusal = λ e refused. (let clash : None ≡ Some e = sym (ap (λ (s : Sweep). s.refused) is ∙ fresh) ∙ refused in cc clash);
  };
  rows = rows;
  next = region;
  fresh = ap (λ (s : Sweep). s.refused) is ∙ fresh;
  gives = gives new trace walks.more (IsUnderRegion old.region) found (subst (λ (rs : List Row). AreRows rs) (sym rows) swept.rows) (subst (λ (rs : List Row). IsGoodTrace format rs (trace ++ walks.more)) (sym rows) walks.stands.good)
      (omega (arith, regions.begun)) (λ k row at. walks.under k row (ap (λ (rs : List Row). slice_get rs k) (sym rows) ∙ at))
      (λ k row at. only_these old.rows old.region trace walks.more swept.rows swept.regions regions k row (ap (λ (rs : List Row). slice_get rs k) (sym rows) ∙ at)) walks.adds;
} where
  rows : new.rows ≡ old.rows
  rows = ap (λ (s : Sweep). s.rows) is

  region : new.region ≡ old.region + 1
  region = ap (λ (s : Sweep). s.region) is

  regions : AreRegions (old.region + 1) old.rows (trace ++ walks.more)
  regions = regions_next old.rows old.region trace walks.more swept.rows swept.regions walks.some walks.under walks.past

short : (n m : ℕ) → n ≡ min n m → n ≤ m
short n m e = grind arith

-- no row is left
swept_all : {format : Format} (told : Option Content) (dir : List ℕ) (sweep : Sweep) (trace : Trace) → HasSwept format told dir sweep trace → sweep.refused ≡ None → length sweep.rows ≤ sweep.stack.place → HasSweptAll format told dir sweep trace
swept_all told dir sweep trace swept fresh past = record {
  good = swept.good;
  keeps = keeps_rules sweep.rows trace swept.rows swept.good all;
  holds = λ c is. holds_trace c.held dir sweep.rows trace (swept.holds c is) all;
  well_formed = λ c is. is_well_formed c.held dir sweep.rows trace (swept.holds c is) all;
  completes = record { rows_are = swept.good.rows_are ∙ take_all (length trace) sweep.rows (omega (arith, all)); rest = []; parts = sym (append-nil trace) };
  under = λ task m listed is_under. (let at = got_contains trace task listed in
      swept.regions.given at.0 (row_of task) m (path_there sweep.rows trace at.0 task swept.good at.1) is_under (slice_get_within trace at.0 task at.1));
} where
  rows_of_length : (ts : Trace) → length (rows_of ts) ≡ length ts
  rows_of_length ts = length-map ts row_of

  few : length trace ≤ length sweep.rows
  few = short (length trace) (length sweep.rows) (sym (rows_of_length trace) ∙ (ap (λ (rs : List Row). length rs) swept.good.rows_are ∙ length-take (length trace) sweep.rows))

  all : length trace ≡ length sweep.rows
  all = let stands = swept.stands fresh in omega (arith, stands.place, few, past)

-- a refusal is kept
refused_kept : {format : Format} (told : Option Content) (dir : List ℕ) (old new : Sweep) (trace : Trace) (e : WalkFault) → HasSwept format told dir old trace → new ≡ record old { stack = new.stack; refused = Some e }
    → RefusesLogOf (IsUnderRegion old.region) e → WhereTold told (λ c. TellsFirstBad format c.held dir e) → HasSwept format told dir new trace
refused_kept {format} told dir old new trace e swept is of tells = record {
  format_is = ap (λ (s : Sweep). s.format) is ∙ swept.format_is;
  dir_is = ap (λ (s : Sweep). s.dir) is ∙ swept.dir_is;
  rows = subst (λ (rs : List Row). AreRows rs) (sym rows) swept.rows;
  good = subst (λ (rs : List Row). IsGoodTrace format rs trace) (sym rows) swept.good;
  regions = subst (λ (n : ℕ). AreRegions n new.rows trace) (sym region) (subst (λ (rs : List Row). AreRegions old.region rs trace) (sym rows) swept.regions);
  stands = λ none. (let clash : None ≡ Some e = sym none ∙ ap (λ (s : Sweep). s.refused) is in cc clash);
  holds = λ c at. subst (λ (rs : List Row). Walked format c.held dir rs trace) (sym rows) (swept.holds c at);
  refusal = λ other refused.
      (let same : e ≡ other = same_Some e other (sym (ap (λ (s : Sweep). s.refused) is) ∙ refused) in
      subst (λ (x : WalkFault). RefusesLogOf (IsUnderRegion new.region) x × WhereTold told (λ c. TellsFirstBad format c.held dir x)) same
      (subst (λ (n : ℕ). RefusesLogOf (IsUnderRegion n) e) (sym region) of, tells));
} where
  rows : new.rows ≡ old.rows
  rows = ap (λ (s : Sweep). s.rows) is

  region : new.region ≡ old.region
  region = ap (λ (s : Sweep). s.region) is

-- ---- what is answered of the next region

pub none_refused : (sweep : Sweep) (e : WalkFault) → sweep.refused ≡ None → HasRefused sweep e → ⊥
none_refused sweep e fresh is = none-some e (sym fresh ∙ is)

-- the refusal of an earlier call
pub answers_again : (told : Option Content) (sweep : Sweep) (e : WalkFault) → HasRefused sweep e → AnswersNext told sweep sweep (Err e)
answers_again told sweep e is = record {
  region = λ format dir trace swept. tt;
  shrinks = tt;
  all = λ format dir trace swept. tt;
  refused = λ format dir trace swept. (let r = swept.refusal e is in (is, r.0, r.1, swept));
  unrefused = tt;
  again = λ other was. ap (λ (x : WalkFault). Err x) (same_Some e other (sym is ∙ was));
}

-- none is left
pub answers_none : (told : Option Content) (sweep : Sweep) → sweep.refused ≡ None → length sweep.rows ≤ sweep.stack.place → AnswersNext told sweep sweep (Ok None)
answers_none told sweep fresh past = record {
  region = λ format dir trace swept. tt;
  shrinks = tt;
  all = λ format dir trace swept none. (refl, swept_all told dir sweep trace swept fresh past);
  refused = λ format dir trace swept. tt;
  unrefused = λ e is. none_refused sweep e fresh is;
  again = λ e is. absurd (none_refused sweep e fresh is);
}

-- a region was gone over
pub answers_region : (told : Option Content) (old new : Sweep) (found : Vec Segment) → (format : Format) × (dir : List ℕ) × (trace : Trace) × HasSwept format told dir old trace → old.refused ≡ None → old.stack.place < length old.rows
    → new ≡ record old { stack = new.stack; region = old.region + 1 }
    → ((format : Format) (dir : List ℕ) (trace : Trace) → HasSwept format told dir old trace → WalksRegion format told dir old.rows old.region new.stack trace found.items) → AnswersNext told old new (Ok (Some found))
answers_region told old new found (format, dir, trace, swept) fresh ahead is walks = record {
  region = λ f d t s. gives_region told d old new t found.items s fresh is (walks f d t s);
  shrinks =
      let w = walks format dir trace swept in
      omega (arith, ahead, w.stands.place, (swept.stands fresh).place, w.some, length-append trace w.more, ap (λ (s : Sweep). length s.rows) is);
  all = λ f d t s none. absurd (none-some found (sym none));
  refused = λ f d t s. tt;
  unrefused = λ e was. none_refused old e fresh (sym (ap (λ (s : Sweep). s.refused) is) ∙ was);
  again = λ e was. absurd (none_refused old e fresh was);
}

-- a call is refused
pub answers_refused : (told : Option Content) (old new : Sweep) (e : WalkFault) → old.refused ≡ None → new ≡ record old { stack = new.stack; refused = Some e }
    → ((format : Format) (dir : List ℕ) (trace : Trace) → HasSwept format told dir old trace → RefusesLogOf (IsUnderRegion old.region) e × WhereTold told (λ c. TellsFirstBad format c.held dir e)) → AnswersNext told old new (Err e)
answers_refused told old new e fresh is refuses = record {
  region = λ format dir trace swept. tt;
  shrinks = tt;
  all = λ format dir trace swept. tt;
  refused = λ format dir trace swept. (let r = refuses format dir trace swept in (ap (λ (s : Sweep). s.refused) is, r.0, r.1, refused_kept told dir old new trace e swept is r.0 r.1));
  unrefused = tt;
  again = λ other was. absurd (none_refused old other fresh was);
}

-- before the first log
pub begins_stack : {format : Format} (rows : List Row) (stack : Stack) → AreRows rows → stack.place ≡ 0 → stack.segments ≡ 0 → IsStackAfter format rows stack []
begins_stack rows stack good place segments = record {
  good = record { rows_are = refl; each = λ k task found. cc; limit = omega arith };
  place = place;
  counted = segments;
  forks = λ row found logs has depth within. absurd (omega (arith, within, ap (λ (p : List Step). length p) (first row found)));
  teams = λ row found above step rest parts known. absurd (no_step above step rest (sym (first row found) ∙ parts));
} where
  first : (row : Row) → slice_get rows 0 ≡ Some row → row.path ≡ []
  first row found = same_Some row.path [] (sym (path_found rows 0 row found) ∙ root_path (paths_of rows) good.lists)

  no_step : (above : List Step) (step : Step) (rest : List Step) → [] ≡ above ++ step ∷ rest → ⊥
  no_step [] step rest e = cc
  no_step (s ∷ above) step rest e = cc

-- the root's log was gone over
pub begins : {format : Format} (told : Option Content) (dir : List ℕ) (sweep : Sweep) (row : Row) (found : List Segment) → sweep.format ≡ format → AreRows sweep.rows → sweep.dir ≡ dir → sweep.region ≡ 0 → sweep.refused ≡ None
    → slice_get sweep.rows 0 ≡ Some row → WhereTold told (λ c. IsIndex format c.held dir sweep.rows) → WalksTask format told dir sweep.rows sweep.stack [] row [] found → BeginsSweep format told dir sweep found
begins told dir sweep row found format_is good dir_is region fresh at index walks = record {
  root = root;
  is_root = is_root;
  swept = record {
    format_is = format_is;
    dir_is = dir_is;
    rows = good;
    good = walks.stands.good;
    regions = record {
      begun = omega arith;
      given = λ k other m there is_under within. absurd (not_root k other m there is_under (omega arith));
      next = λ other there. subst (λ (n : ℕ). IsUnderRegion n other.path) (sym region) (first_region other.path (next_path (paths_of sweep.rows) good.lists 0 [] other.path (root_path (paths_of sweep.rows) good.lists) (path_found sweep.rows 1 other there)));
    };
    stands = λ none. walks.stands;
    holds = walked_push told dir sweep.rows [] root sweep.stack (λ c is. record { index = index c is; logs = λ k d within. absurd (omega arith); good = record { rows_are = refl; each = λ k task there. cc; limit = omega arith } }) walks.stands walks.whole;
    refusal = λ e refused. (let clash : None ≡ Some e = sym fresh ∙ refused in cc clash);
  };
  none_given = region;
  gives = gives sweep [] (root ∷ []) IsRoot found good walks.stands.good (omega arith)
      (λ k other there low high. root_of k other there (let zero_is : k ≡ 0 = omega (arith, high) in zero_is))
      (λ k other there is. (omega arith, (let zero_is : k ≡ 0 = listed_once (paths_of sweep.rows) k 0 [] good.lists (path_found sweep.rows k other there ∙ ap (λ (p : List Step). Some p) is) (root_path (paths_of sweep.rows) good.lists) in omega (arith, zero_is))))
      (λ logs has. subst (λ (is : List Interval). AddsSegments logs is [] found) (sym (append-nil (task_segments root))) (walks.adds logs has));
  fresh = fresh;
} where
  root : TaskLog
  root = record { path = row.path; records = walks.records }

  is_root : row.path ≡ []
  is_root = same_Some row.path [] (sym (path_found sweep.rows 0 row at) ∙ root_path (paths_of sweep.rows) good.lists)

  root_of : (k : ℕ) (other : Row) → slice_get sweep.rows k ≡ Some other → k ≡ 0 → other.path ≡ []
  root_of k other there is = same_Some other.path [] (sym (path_found sweep.rows k other there) ∙ (ap (λ (n : ℕ). slice_get (paths_of sweep.rows) n) is ∙ root_path (paths_of sweep.rows) good.lists))

  not_root : (k : ℕ) (other : Row) (m : ℕ) → slice_get sweep.rows k ≡ Some other → IsUnderRegion m other.path → k ≡ 0 → ⊥
  not_root k other m there is_under is = let clash : [] ≡ is_under.first ∷ is_under.rest = sym (root_of k other there is) ∙ is_under.parts in cc clash

  first_region : (next : List Step) → IsNextPath [] next → IsUnderRegion 0 next
  first_region [] goes = absurd goes
  first_region (s ∷ []) goes = record { first = s; rest = []; parts = refl; region_is = goes.region_is }
  first_region (s ∷ m ∷ more) goes = absurd goes

-- what open refuses
pub refuses_root : (path : List Step) (e : WalkFault) → path ≡ [] → RefusesLogOf (λ p. p ≡ path) e → RefusesIndexOrRoot e
refuses_root path fault.NoIndex root refusal = tt
refuses_root path (fault.BadIndex row why) root refusal = tt
refuses_root path (fault.MissingLog p) root refusal = refusal ∙ root
refuses_root path (fault.BadRecord p n why) root refusal = refusal ∙ root
refuses_root path (fault.TooManySegments p n) root refusal = refusal ∙ root
refuses_root path fault.ReadFault root refusal = tt
refuses_root path fault.Memory root refusal = tt

pub first_row : (rows : List Row) (row : Row) → AreRows rows → slice_get rows 0 ≡ Some row → row.path ≡ []
first_row rows row good found = same_Some row.path [] (sym (path_found rows 0 row found) ∙ root_path (paths_of rows) good.lists)

-- a region's number is small
pub region_small : (rows : List Row) (region : ℕ) (trace : Trace) → AreRows rows → AreRegions region rows trace → length trace < length rows → region < 2 ^ 32
region_small rows region trace good regions within = from (slice_get rows (length trace)) refl
  where
    there : (xs : List Row) (k : ℕ) → k < length xs → slice_get xs k ≡ None → ⊥
    there [] k less e = absurd (omega arith)
    there (x ∷ xs) zero less e = cc
    there (x ∷ xs) (suc k) less e = there xs k (omega arith) e

    first_step : (first : Step) (rest : List Step) → All IsStep (first ∷ rest) → first.region < 2 ^ 32
    first_step first rest all = let one : IsStep first = all 0 first (omega arith) in one.region

    from : (o : Option Row) → slice_get rows (length trace) ≡ o → region < 2 ^ 32
    from None missing = absurd (there rows (length trace) within missing)
    from (Some row) found =
        let u = regions.next row found in
        let row_is : IsRow row = row_at rows (length trace) row good found in
        subst (λ (n : ℕ). n < 2 ^ 32) u.region_is (first_step u.first u.rest (subst (λ (p : List Step). All IsStep p) u.parts row_is.steps))

-- the root's row
pub root_row : (rows : List Row) → AreRows rows → (row : Row) × (slice_get rows 0 ≡ Some row)
root_row [] good = absurd (let some = some_rows [] good in omega arith)
root_row (row ∷ rows) good = (row, refl)

pub walked_none : {format : Format} (files : Files) (dir : List ℕ) (rows : List Row) → IsIndex format files dir rows → Walked format files dir rows []
walked_none files dir rows index = record { index = index; logs = λ k d within. absurd (omega arith); good = record { rows_are = refl; each = λ k task there. cc; limit = omega arith } }

pub root_listed_first : (rows : List Row) → AreRows rows → slice_get (paths_of rows) 0 ≡ Some []
root_listed_first rows good = root_path (paths_of rows) good.lists

-- a refusal that tells no place
pub trouble_of : (IsOne : List Step → Type 0) (trouble : Trouble) → RefusesLogOf IsOne (walk_fault trouble)
trouble_of IsOne trouble.Memory = tt
trouble_of IsOne trouble.Failed = tt

pub trouble_tells : (format : Format) (files : Files) (dir : List ℕ) (trouble : Trouble) → TellsFirstBad format files dir (walk_fault trouble)
trouble_tells format files dir trouble.Memory = tt
trouble_tells format files dir trouble.Failed = tt
