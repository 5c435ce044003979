-- What the definition of a whole run of a lawful fixed kernel buys: told of its tasks alone.
use Rattle.std.proofs.Common.{◌≡◌, refl, ap, sym, ◌∙◌, subst, ◌⊎◌, inl, inr, ℕ, zero, suc, ◌+◌, ◌<◌, ◌≤◌, List, [], ◌∷◌, ◌++◌, length, take, Option, Some, arith, All, length-append}
use Rattle.std.specs.Prelude.{slice_get, IsSome, option_map, cond}
use Rattle.std.proofs.lemmas.List.{append-nil}
use Rattle.std.proofs.lemmas.List.Sums.{sum_by-take-le}
use Rattle.std.proofs.lemmas.Option.{same_Some, slice_get-map, slice_get_within, get_or_from_slice_get}
use Rattle.sw_base.specs.declared.path.Step.{Step}
use Rattle.kernel_rules.proofs.LawfulFolder.{root_team, root_values, traced_at}
use Rattle.certainty_model.proofs.SameReads.{MakesNoUpdate, EndOnce}
use Rattle.log_format.specs.declared.format.TheConstants.{FORMAT}
use Rattle.log_format.specs.declared.record.Record.{Record}
use Rattle.log_format.specs.declared.record.Kind.{Kind}
use Rattle.log_format.specs.declared.record.Kind.TheVariants as kind
use Rattle.log_format.specs.declared.record.Why.TheVariants as why
use Rattle.log_format.specs.Table.{IsTabled, HasSize}
use Rattle.log_format.specs.Fitting.{IsWidth}
use Rattle.race_model.specs.ForkJoin.{IsTask, IsTreeTrace, ListsTask, WasForked}
use Rattle.race_model.specs.Listing.{lane_of}
use Rattle.race_model.specs.Order.{IsLane}
use Rattle.race_model.specs.Race.{held_after, held_after_kind}
use Rattle.race_model.specs.Trace.{TaskLog, Trace, Logs, Node, HasKind, record_at, logs_of, is_region_kind, is_barrier_kind, region_count, barrier_count}
use Rattle.race_model.proofs.TraceLogs.{find_task, all_at, find_listed}
use Rattle.race_laws.proofs.Counts.{Counted, count_finds, region_from_true}
use Rattle.race_laws.proofs.ProgramOrder.{node}
use Rattle.kernel_syntax.specs.Program.{Program}
use Rattle.kernel_syntax.specs.Tree.{TeamTree}
use Rattle.kernel_model.specs.State.{Fork, reads_of, chunks_of}
use Rattle.kernel_model.specs.Trace.{Start}
use Rattle.kernel_model.specs.Folder.{own_trace, root_start, lane_start, start_at, IsTraced, IsTracedTask, IsTracedFolder, paths_of}
use Rattle.kernel_model.specs.Lawful.{IsLawful}
use Rattle.kernel_model.specs.Parts.{parts_of, bar_count}
use Rattle.kernel_model.proofs.Starts.{at_lane, at_root, IsLaneStart, lane_started, descend, starts_lane, start_above}
use Rattle.kernel_rules.proofs.EndedTraces.{whole_trace}
use Rattle.kernel_rules.proofs.LawfulLogs.{lawful_log, span_at, spans_count}
use Rattle.kernel_rules.proofs.LawfulRecords.{IsLawfulTeam, IsLawfulFork, spans_of, spans_forked}
use Rattle.kernel_rules.proofs.LawfulValues.{IsValueFork, IsValueStart, lane_values, traced_values}
use Rattle.kernel_rules.proofs.SameBarriers.{traced_barriers}
use Rattle.history_model.specs.Joined.{LastIsEnd}
use Rattle.execution_model.specs.Execution.{IsBegun, HaveMet, HaveJoined}
use Rattle.certainty_model.specs.Certain.{IsFixed}
use Rattle.certainty_model.proofs.Pairs.{IsQuiet, QuietRecord, FixedFork}
use Rattle.certainty_model.proofs.TwoLogs.{AreSized}
use Rattle.certainty_model.proofs.TwoTraces.{EndsQuietly, ends_quietly}

-- a task with a record is listed
pub listed_there : (tasks : Trace) (path : List Step) → IsTask (logs_of tasks) path → ListsTask tasks path
listed_there tasks path there =
    let f = find_task tasks path there in
    let found : slice_get (paths_of tasks) f.index ≡ Some path =
    slice_get-map (λ (t : TaskLog). t.path) tasks f.index ∙ (ap (λ (o : Option TaskLog). option_map (λ (t : TaskLog). t.path) o) f.found ∙ ap Some f.path_is) in
    (f.index, slice_get_within (paths_of tasks) f.index path found, get_or_from_slice_get (paths_of tasks) f.index path path found)

-- the fork of a span
fork_of : (forks : List Fork) (k span : ℕ) → slice_get (spans_forked forks) k ≡ Some span → (f : Fork) × (slice_get forks k ≡ Some f) × (span ≡ f.team.span)
fork_of [] k span is = cc
fork_of (f ∷ forks) zero span is = (f, refl, sym (same_Some f.team.span span is))
fork_of (f ∷ forks) (suc k) span is = fork_of forks k span is

-- a record of a log that ends quietly is quiet or its last
last_or : (prefix : List Record) (last r : Record) (i : ℕ) → All QuietRecord prefix → slice_get (prefix ++ last ∷ []) i ≡ Some r → IsQuiet r.kind ⊎ ((i ≡ length prefix) × (last ≡ r))
last_or prefix last r i quiet found = by prefix i found (λ (k : ℕ) (q : Record) at. all_at QuietRecord prefix k q quiet at)
  where
    by : (xs : List Record) (k : ℕ) → slice_get (xs ++ last ∷ []) k ≡ Some r → ((j : ℕ) (q : Record) → slice_get xs j ≡ Some q → IsQuiet q.kind) → IsQuiet r.kind ⊎ ((k ≡ length xs) × (last ≡ r))
    by [] zero at all = inr (refl, same_Some last r at)
    by [] (suc k) at all = cc
    by (x ∷ xs) zero at all = inl (all 0 r at)
    by (x ∷ xs) (suc k) at all = elim (by xs k at (λ j q there. all (suc j) q there)) [ inl q ↦ inl q | inr (index, same) ↦ inr (ap suc index, same) ]

held_none : (k : Kind) (m : ℕ) → (k ≡ kind.Lock → ⊥) → held_after_kind k m [] ≡ []
held_none kind.Lock m other = absurd (other refl)
held_none _ m other = refl

-- no mutex is held where none is locked
unheld : (i : ℕ) (records : List Record) → ((k : ℕ) (r : Record) → slice_get records k ≡ Some r → r.kind ≡ kind.Lock → ⊥) → held_after [] (take i records) ≡ []
unheld zero records none = refl
unheld (suc i) [] none = refl
unheld (suc i) (r ∷ records) none =
    ap (λ (held : List ℕ). held_after held (take i records)) (held_none r.kind r.addr (none 0 r refl)) ∙ unheld i records (λ k q found. none (suc k) q found)

module _ (program : Program) (lawful : IsLawful program) (fixed : IsFixed program.main.body) (tasks : Trace) (folder : IsTracedFolder program tasks) where
  abbrev logs : Logs
  logs = logs_of tasks

  abbrev mutexes : ℕ
  mutexes = length program.mutexes

  -- each task that starts is there, with its trace
  pub starts_listed : (path : List Step) (start : Start) → start_at program logs path ≡ Some start → ListsTask tasks path
  starts_listed path start starts = folder.all path (subst IsSome (sym starts) refl)

  -- and each task that is listed starts
  pub listed_starts : (path : List Step) → ListsTask tasks path → (start : Start) × (start_at program logs path ≡ Some start)
  listed_starts path has =
      let f = find_listed tasks path has in
      let it = all_at (IsTracedTask program logs) tasks f.index f.task folder.each f.found in
      (it.start, sym (ap (λ (p : List Step). start_at program logs p) f.path_is) ∙ it.starts)

  pub begun : (path : List Step) → ListsTask tasks path → IsBegun program logs path
  begun path has =
      let s = listed_starts path has in
      record { start = s.0; starts = s.1; begun = record { rest = []; begins = (traced_at program tasks folder path s.0 s.1).records_are ∙ sym (append-nil (logs path)) } }

  -- ---- what goes over from task to task

  record IsGood (path : List Step) (start : Start) : Type 0 where
    inside : IsLawfulTeam mutexes (length path) start.team
    values : IsValueStart start
    stays : IsFixed start.team.body

  good_root : IsGood [] (root_start program)
  good_root = record {
    inside = root_team program lawful;
    values = root_values program lawful;
    stays = fixed;
  }

  quiet_end : (path : List Step) (start : Start) → IsFixed start.team.body → IsTraced program start (logs path) → EndsQuietly (logs path) (own_trace program start (logs path)).forks
  quiet_end path start stays traced =
      subst (λ (rs : List Record). EndsQuietly rs (own_trace program start (logs path)).forks) traced.records_are
      (ends_quietly program start (reads_of (logs path)) (chunks_of (logs path)) stays traced.ended)

  good_lane : (path : List Step) (start : Start) (step : Step) (next : Start) → IsGood path start → start_at program logs path ≡ Some start →
      lane_start (slice_get (own_trace program start (logs path)).forks step.region) step ≡ Some next → IsGood (path ++ step ∷ []) next
  good_lane path start step next good starts is = record {
    inside =
        subst (λ (n : ℕ). IsLawfulTeam mutexes n next.team) (sym (length-append path (step ∷ [])))
        (subst (λ (t : TeamTree). IsLawfulTeam mutexes (length path + 1) t) (sym (ap (λ (s : Start). s.team) l.begins)) lawful_fork.inside);
    values =
        subst IsValueStart (sym l.begins)
        (lane_values l.fork step.lane (all_at IsValueFork forks step.region l.fork (traced_values program lawful.bounded start good.values (logs path) traced).begin l.forked)
        (let span = l.span in let lane = l.lane in omega arith));
    stays =
        subst (λ (s : Start). IsFixed s.team.body) (sym l.begins)
        (all_at FixedFork forks step.region l.fork (quiet_end path start good.stays traced).fixed l.forked);
  }
    where
      traced : IsTraced program start (logs path)
      traced = traced_at program tasks folder path start starts

      forks : List Fork
      forks = (own_trace program start (logs path)).forks

      l : IsLaneStart (slice_get (own_trace program start (logs path)).forks step.region) step next
      l = lane_started (slice_get (own_trace program start (logs path)).forks step.region) step next is

      lawful_fork : IsLawfulFork mutexes (length path + 1) l.fork
      lawful_fork = all_at (IsLawfulFork mutexes (length path + 1)) (own_trace program start (logs path)).forks step.region l.fork
          (lawful_log program start (logs path) mutexes (length path) good.inside traced).teams l.forked

  good : (path : List Step) (start : Start) → start_at program logs path ≡ Some start → IsGood path start
  good path start starts = descend program logs IsGood good_root good_lane path start starts

  -- ---- the records

  -- how the log of a record ends, and its bytes
  record Ends (path : List Step) : Type 0 where
    start : Start
    starts : start_at program logs path ≡ Some start
    quiet : EndsQuietly (logs path) (own_trace program start (logs path)).forks

  ends_at : (path : List Step) (start : Start) → start_at program logs path ≡ Some start → Ends path
  ends_at path start starts = record { start = start; starts = starts; quiet = quiet_end path start (good path start starts).stays (traced_at program tasks folder path start starts) }

  ends : (x : Node) (r : Record) → record_at logs x ≡ Some r → Ends x.path
  ends x r found =
      let within = slice_get_within (logs x.path) x.index r found in
      let s = listed_starts x.path (listed_there tasks x.path (let some : IsTask logs x.path = omega arith in some)) in
      ends_at x.path s.0 s.1

  quiet_or_last : (x : Node) (r : Record) (found : record_at logs x ≡ Some r) → IsQuiet r.kind ⊎ ((x.index ≡ length (ends x r found).quiet.prefix) × ((ends x r found).quiet.last ≡ r))
  quiet_or_last x r found =
      let e = ends x r found in
      last_or e.quiet.prefix e.quiet.last r x.index e.quiet.quiet (ap (λ (rs : List Record). slice_get rs x.index) (sym e.quiet.parts) ∙ found)

  -- no record is of a kind that is neither quiet nor an End
  none_loud : (x : Node) (r : Record) → record_at logs x ≡ Some r → (k : Kind) → (IsQuiet k → ⊥) → (k ≡ kind.End → ⊥) → r.kind ≡ k → ⊥
  none_loud x r found k loud other is = elim (quiet_or_last x r found)
      [ inl quiet ↦ loud (subst IsQuiet is quiet) | inr (index, last) ↦ other (sym is ∙ (ap (λ (q : Record). q.kind) (sym last) ∙ (ends x r found).quiet.ends)) ]

  pub no_update : MakesNoUpdate logs
  no_update x r found = none_loud x r found kind.Update (λ q. q) (λ same. cc)

  no_lock : (x : Node) (r : Record) → record_at logs x ≡ Some r → r.kind ≡ kind.Lock → ⊥
  no_lock x r found = none_loud x r found kind.Lock (λ q. q) (λ same. cc)

  pub none_held : (x : Node) → held_after [] (take x.index (logs x.path)) ≡ []
  none_held x = unheld x.index (logs x.path) (λ k r found. no_lock (node x.path k) r found)

  end_last : (x : Node) → (h : HasKind logs x kind.End) → x.index + 1 ≡ length (logs x.path)
  end_last x h =
      let q = (ends x h.event h.found).quiet in
      elim (quiet_or_last x h.event h.found)
      [ inl quiet ↦ absurd (subst IsQuiet h.kind_is quiet) | inr (index, last) ↦ omega (arith, index, ap length q.parts ∙ length-append q.prefix (q.last ∷ [])) ]

  pub one_end : EndOnce logs
  one_end x y same x_is y_is = omega (arith, end_last x x_is, end_last y y_is, ap (λ (p : List Step). length (logs p)) same)

  -- an access has bytes
  tabled : (x : Node) (r : Record) → record_at logs x ≡ Some r → IsTabled FORMAT r
  tabled x r found =
      let e = ends x r found in
      all_at (IsTabled FORMAT) (logs x.path) x.index r (traced_values program lawful.bounded e.start (good x.path e.start e.starts).values (logs x.path) (traced_at program tasks folder x.path e.start e.starts)).tabled found

  pub read_width : (x : Node) (r : Record) → record_at logs x ≡ Some r → r.kind ≡ kind.Read → IsWidth r.size
  read_width x r found is = subst (λ (k : Kind). HasSize k r.size) is ((tabled x r found).passes why.Size)

  pub write_width : (x : Node) (r : Record) → record_at logs x ≡ Some r → r.kind ≡ kind.Write → IsWidth r.size
  write_width x r found is = subst (λ (k : Kind). HasSize k r.size) is ((tabled x r found).passes why.Size)

  pub sized : (path : List Step) → AreSized (logs path)
  sized path i r found is = read_width (node path i) r found is

  pub ends_last : (path : List Step) (start : Start) → start_at program logs path ≡ Some start → LastIsEnd (logs path)
  ends_last path start starts =
      let q = (ends_at path start starts).quiet in
      record { prefix = q.prefix; last = q.last; parts = q.parts; ends = q.ends }

  -- ---- the tree

  spans_are : (path : List Step) (start : Start) → start_at program logs path ≡ Some start → spans_of (logs path) ≡ spans_forked (own_trace program start (logs path)).forks
  spans_are path start starts =
      let e = ends_last path start starts in
      (whole_trace program start (logs path) [] ((traced_at program tasks folder path start starts).records_are ∙ sym (append-nil (logs path))) (record { prefix = e.prefix; last = e.last; parts = e.parts; ends = e.ends })).spans

  fork_span : (forks : List Fork) (k : ℕ) (f : Fork) → slice_get forks k ≡ Some f → slice_get (spans_forked forks) k ≡ Some f.team.span
  fork_span forks k f found = slice_get-map (λ (g : Fork). g.team.span) forks k ∙ ap (λ (o : Option Fork). option_map (λ (g : Fork). g.team.span) o) found

  -- the Region record of a fork
  fork_region : (path : List Step) (step : Step) (start next : Start) → start_at program logs path ≡ Some start → IsLaneStart (slice_get (own_trace program start (logs path)).forks step.region) step next
      → WasForked logs path step
  fork_region path step start next starts l = by (count_finds (λ (r : Record). is_region_kind r.kind) (logs path) step.region counted)
    where
      spanned : slice_get (spans_of (logs path)) step.region ≡ Some l.fork.team.span
      spanned = ap (λ (ss : List ℕ). slice_get ss step.region) (spans_are path start starts) ∙ fork_span (own_trace program start (logs path)).forks step.region l.fork l.forked

      counted : step.region < region_count (logs path)
      counted = subst (λ (n : ℕ). step.region < n) (spans_count (logs path)) (slice_get_within (spans_of (logs path)) step.region l.fork.team.span spanned)

      by : Counted (λ (r : Record). is_region_kind r.kind) (logs path) step.region → WasForked logs path step
      by c = record {
        fork = node path c.index;
        above = refl;
        lane = record {
          event = c.item;
          found = c.found;
          region = region;
          spans = same_Some c.item.value step.span (sym (span_at (logs path) c.index c.item c.found region) ∙ (ap (λ (n : ℕ). slice_get (spans_of (logs path)) n) c.before ∙ (spanned ∙ ap Some (sym l.span))));
          in_span = l.lane;
          child = ap (λ (n : ℕ). lane_of path n step.lane step.span) (sym c.before);
        };
      }
        where
          region : c.item.kind ≡ kind.Region
          region = region_from_true c.item.kind c.counts

  pub tree : IsTreeTrace tasks
  tree = record { root = starts_listed [] (root_start program) (at_root program logs); forked = forked }
    where
      forked : (path : List Step) (step : Step) → ListsTask tasks (path ++ step ∷ []) → WasForked logs path step
      forked path step has =
          let next = listed_starts (path ++ step ∷ []) has in
          let up = start_above program logs path step next.0 next.1 in
          fork_region path step up.0 next.0 up.1 (lane_started (slice_get (own_trace program up.0 (logs path)).forks step.region) step next.0 (sym (at_lane program logs path up.0 step up.1) ∙ next.1))

  -- ---- lanes

  -- the start of a lane
  record LaneStart (fork : Node) (lane span : ℕ) (path : List Step) : Type 0 where
    forked : Fork
    starts : start_at program logs path ≡ Some (record { team = forked.team; lane = lane; slots = forked.slots })
    above : Start
    above_starts : start_at program logs fork.path ≡ Some above
    found : slice_get (own_trace program above (logs fork.path)).forks (region_count (take fork.index (logs fork.path))) ≡ Some forked

  lane_starts : (fork : Node) (lane span : ℕ) (path : List Step) → IsLane logs fork lane span path → LaneStart fork lane span path
  lane_starts fork lane span path l =
      let step : Step = record { region = region_count (take fork.index (logs fork.path)); lane = lane; span = span } in
      record {
        forked = f.0;
        starts =
            ap (λ (p : List Step). start_at program logs p) l.child
            ∙ (at_lane program logs fork.path e.start step e.starts ∙ (ap (λ (o : Option Fork). lane_start o step) f.1 ∙ starts_lane f.0 step f.2 l.in_span));
        above = e.start;
        above_starts = e.starts;
        found = f.1;
      }
    where
      e : Ends fork.path
      e = ends fork l.event l.found

      f : (f : Fork) × (slice_get (own_trace program e.start (logs fork.path)).forks (region_count (take fork.index (logs fork.path))) ≡ Some f) × (span ≡ f.team.span)
      f = fork_of (own_trace program e.start (logs fork.path)).forks (region_count (take fork.index (logs fork.path))) span
          (ap (λ (ss : List ℕ). slice_get ss (region_count (take fork.index (logs fork.path)))) (sym (spans_are fork.path e.start e.starts)) ∙ (span_at (logs fork.path) fork.index l.event l.found l.region ∙ ap Some l.spans))

  pub joined : HaveJoined logs
  joined fork lane span path l there = let s = lane_starts fork lane span path l in ends_last path _ s.starts

  -- all lanes of a team pass as many barriers
  barriers : (fork : Node) (lane span : ℕ) (path : List Step) (l : IsLane logs fork lane span path) → barrier_count (logs path) ≡ bar_count (parts_of (lane_starts fork lane span path l).forked.team.body)
  barriers fork lane span path l =
      let s = lane_starts fork lane span path l in
      traced_barriers program _ (logs path) (good path _ s.starts).inside.even (traced_at program tasks folder path _ s.starts)

  pub met : HaveMet logs
  met fork lane other span path beside i l m there = omega (arith, first, mine, yours, ap (λ (f : Fork). bar_count (parts_of f.team.body)) one_fork)
    where
      first : barrier_count (take i (logs path)) ≤ barrier_count (logs path)
      first = sum_by-take-le (λ (r : Record). cond (is_barrier_kind r.kind) 1 0) (logs path) i

      mine : barrier_count (logs path) ≡ bar_count (parts_of (lane_starts fork lane span path l).forked.team.body)
      mine = barriers fork lane span path l

      yours : barrier_count (logs beside) ≡ bar_count (parts_of (lane_starts fork other span beside m).forked.team.body)
      yours = barriers fork other span beside m

      one_start : (lane_starts fork lane span path l).above ≡ (lane_starts fork other span beside m).above
      one_start = same_Some _ _ (sym (lane_starts fork lane span path l).above_starts ∙ (lane_starts fork other span beside m).above_starts)

      one_fork : (lane_starts fork lane span path l).forked ≡ (lane_starts fork other span beside m).forked
      one_fork = same_Some _ _ (sym (lane_starts fork lane span path l).found
          ∙ (ap (λ (s : Start). slice_get (own_trace program s (logs fork.path)).forks (region_count (take fork.index (logs fork.path)))) one_start ∙ (lane_starts fork other span beside m).found))
