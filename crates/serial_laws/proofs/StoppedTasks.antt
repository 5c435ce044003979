-- What a serial run that stopped did is the beginning of a run of its kernel: each task made the first records of its trace.
use Rattle.std.proofs.Common.{◌≡◌, refl, ap, sym, ◌∙◌, subst, ◌⊎◌, inl, inr, ℕ, zero, suc, ◌+◌, ◌-◌, ◌<◌, List, [], ◌∷◌, ◌++◌, length, get_or, append_assoc, ℤ, arith, All, Option, Some}
use Rattle.std.specs.List.{flat_map}
use Rattle.std.proofs.lemmas.Grind.{flat_map-append}
use Rattle.std.proofs.lemmas.List.{append-nil}
use Rattle.std.proofs.lemmas.List.Elements.{All-get_or, All-head, All-tail}
use Rattle.sw_base.specs.declared.path.Step.{Step}
use Rattle.log_format.specs.Limit.{record_limit}
use Rattle.log_format.specs.declared.record.Record.{Record}
use Rattle.log_format.specs.declared.record.Kind.TheVariants as kind
use Rattle.kernel_syntax.specs.Program.{Program}
use Rattle.kernel_syntax.specs.Tree.{TeamTree}
use Rattle.kernel_syntax.specs.declared.syntax.Array.{Array}
use Rattle.kernel_model.specs.Effect.{state_with}
use Rattle.kernel_model.specs.Folder.{own_trace}
use Rattle.kernel_model.specs.State as model
use Rattle.kernel_model.specs.State.{Outcome, event, reads_of, chunks_of, state_of}
use Rattle.kernel_model.specs.Trace.{Start, task}
use Rattle.kernel_model.specs.Value.{Site}
use Rattle.kernel_model.proofs.RunEffects.{parts}
use Rattle.history_model.specs.Work.{Work, Rest, Phases, RegionWork, work_records, work_regions, work_at, lane_works}
use Rattle.execution_model.specs.Execution.{BeginsTrace}
use Rattle.execution_model.specs.Runs.{RunsTask, RunsRegions, lane_begin}
use Rattle.serial_run.proofs.Coming.{stop_as_told}
use Rattle.serial_run.proofs.Leading.{leads_none, leads_then}
use Rattle.serial_run.specs.Coming.{IsAtStart, Comes}
use Rattle.serial_run.specs.Going.{room_of}
use Rattle.serial_run.specs.Placing.{OfLog, ElementLayout}
use Rattle.serial_run.specs.Stepping.{Stand, Advances, Leads, stand_left}
use Rattle.serial_run.proofs.Coming.{room_log}
use Rattle.serial_team.proofs.Going.{team_at}
use Rattle.serial_team.specs.declared.member.Stage.TheVariants as stage
use Rattle.serial_team.specs.Members.{Pool, pool_at, MemberValue, later, path_in, BeginTeam}
use Rattle.serial_team.specs.Running.{put_all, beside, past_region, HaveArrays, LaneRuns, PhasesRun}
use Rattle.serial_team.specs.Stopping.{StopAt, LaneStops, TeamGoes, PhasesStop}
use Rattle.serial_laws.proofs.Growing.{left_grows}
use Rattle.serial_laws.proofs.Lined.{HasLine, IsLined, IsLinedFork, trace_lined}
use Rattle.serial_laws.proofs.Puts.{put_records_are, put_regions}
use Rattle.serial_laws.proofs.Undrawn.{IsUndrawn, undrawn_both, plain_undrawn}
use Rattle.serial_laws.proofs.WholeTasks.{put_lines, regions_put_both, task_put}
use Rattle.serial_laws.proofs.Traced.{Goes, RunAll, Runs, StandsSo, all_left, all_right, begun_arrays, fork_at, lane_at_start, lane_goes, phases_ended, phases_go, records_are, region_lanes, region_runs, regions_both, team_goes, team_length, whole, whole_records, whole_regions}

module _ (layout : ElementLayout) (by_log : layout.bound ≡ OfLog) (program : Program) where
  -- ---- where a task stands still

  -- the records begin the task's trace, and these are the first regions that it forks
  pub record Begins (start : Start) (records : List Record) (forks : List model.Fork) : Type 0 where
    pub trace : BeginsTrace program start records
    pub later : List model.Fork
    pub forks_are : (own_trace program start records).forks ≡ forks ++ later

  leads_here : (first x : Stand) (records : List Record) (forks : List model.Fork) → Comes layout first x records forks
      → Leads (stand_left first) first.slots (room_of layout.bound first.progress) (stand_left x) x.slots (room_of layout.bound x.progress) records forks
  leads_here first _ _ _ Comes.begins = leads_none (stand_left first) first.slots (room_of layout.bound first.progress)
  leads_here first _ _ _ (Comes.waits x records forks words left come) =
      subst (λ (n : ℕ). Leads (stand_left first) first.slots (room_of layout.bound first.progress) (stand_left x) x.slots n records forks)
      (room_log layout.bound x.progress by_log ∙ sym (room_log layout.bound (record x.progress { words = words; left = left }) by_log)) (leads_here first x records forks come)
  leads_here first _ _ _ (Comes.goes x y records forks mark more come a) =
      leads_then (stand_left first) (stand_left x) (stand_left y) first.slots x.slots y.slots (room_of layout.bound first.progress) (room_of layout.bound x.progress) (room_of layout.bound y.progress) records a.makes.added forks more
      (leads_here first x records forks come) a.leads

  module _ (start : Start) (first x : Stand) (records : List Record) (forks : List model.Fork) (begun : IsAtStart program start first) (come : Comes layout first x records forks) where
    abbrev room : ℕ
    room = room_of layout.bound first.progress

    abbrev here : model.State
    here = state_with x.slots records forks (room_of layout.bound x.progress) [] []

    -- all that the task does under what its records read, and then these values, is what is left of it here under them
    pub task_from : (reads : List ℤ) (chunks : List ℕ) → task program start (reads_of records ++ reads) (chunks_of records ++ chunks) ≡ stand_left x (state_with x.slots records forks (room_of layout.bound x.progress) reads chunks)
    unfolding task
    task_from reads chunks =
        let none = begun.none in
        let all : record_limit ≡ room = omega (arith, none, room_log layout.bound first.progress by_log) in
        ap (λ (n : ℕ). parts program start (state_with start.slots [] [] n (reads_of records ++ reads) (chunks_of records ++ chunks))) all
        ∙ ap (λ (l : List ℤ). parts program start (state_with l [] [] room (reads_of records ++ reads) (chunks_of records ++ chunks))) (sym begun.slots)
        ∙ sym (begun.whole (state_with first.slots [] [] room (reads_of records ++ reads) (chunks_of records ++ chunks)))
        ∙ leads_here first x records forks come [] [] reads chunks

    task_here : task program start (reads_of records) (chunks_of records) ≡ stand_left x here
    task_here =
        ap (λ (l : List ℤ). task program start l (chunks_of records)) (sym (append-nil (reads_of records)))
        ∙ ap (λ (l : List ℕ). task program start (reads_of records ++ []) l) (sym (append-nil (chunks_of records)))
        ∙ task_from [] []

    pub begins_here : Begins start records forks
    begins_here =
        let grown = left_grows x here in
        record {
          trace = record { rest = grown.added; begins = ap (λ (o : Outcome (Unit {0})). (state_of o).records) task_here ∙ grown.records_are };
          later = grown.regions;
          forks_are = ap (λ (o : Outcome (Unit {0})). (state_of o).forks) task_here ∙ grown.forks_are;
        }

  -- ---- a task that goes on from here, and stops, or is left where it stands

  record Stops (x : MemberValue) (records : List Record) (regions : List RegionWork) : Type 0 where
    forks : List model.Fork
    runs : All IsLinedFork forks → RunAll layout by_log program forks regions
    begins : (first : Stand) (before : List Record) (above : List model.Fork) → Comes layout first x.stand before above → (start : Start) → IsAtStart program start first → Begins start (before ++ records) (above ++ forks)
    undrawn : IsUndrawn records

  no_regions : RunAll layout by_log program [] []
  no_regions = record { run = RunsRegions.no_region; whole = λ depth at g. refl }

  -- nothing more is done
  rests : (x : MemberValue) → Stops x [] []
  rests x = record {
    forks = [];
    runs = λ lined. no_regions;
    begins = λ first before above come start begun.
        subst (λ (l : List model.Fork). Begins start (before ++ []) l) (sym (append-nil above))
        (subst (λ (l : List Record). Begins start l above) (sym (append-nil before)) (begins_here start first x.stand before above begun come));
    undrawn = tt;
  }

  stops_as : (x : MemberValue) (rs qs : List Record) (gs hs : List RegionWork) → rs ≡ qs → gs ≡ hs → Stops x rs gs → Stops x qs hs
  stops_as x rs qs gs hs same alike s = subst (λ (l : List RegionWork). Stops x qs l) alike (subst (λ (l : List Record). Stops x l gs) same s)

  -- a lane that stands still waits or has ended
  lane_still : (path : List Step) (x : MemberValue) (work : Work) (z : MemberValue) → LaneRuns layout path x work z → (z.stage ≡ stage.Waits) ⊎ (z.stage ≡ stage.Ended)
  lane_still _ _ _ _ (LaneRuns.waits path x y line a) = inl refl
  lane_still _ _ _ _ (LaneRuns.ends path x y f) = inr refl
  lane_still _ _ _ _ (LaneRuns.forks path x z y team xs ys p phases more a less begin runs few next) = lane_still path (past_region path x y ys p) more z next

  still : (x z : MemberValue) (rs : List Record) (gs : List RegionWork) → Goes layout by_log program x z rs gs → (z.stage ≡ stage.Waits) ⊎ (z.stage ≡ stage.Ended) → Stops x rs gs
  still x z rs gs g is = record { forks = g.forks; runs = g.runs; begins = λ first before above come start begun. at is first before above (g.stands first before above come) start begun; undrawn = g.undrawn } where
    at : (z.stage ≡ stage.Waits) ⊎ (z.stage ≡ stage.Ended) → (first : Stand) (before : List Record) (above : List model.Fork) → StandsSo layout by_log program first z (before ++ rs) (above ++ g.forks)
        → (start : Start) → IsAtStart program start first → Begins start (before ++ rs) (above ++ g.forks)
    at (inl waits) first before above s start begun = begins_here start first z.stand (before ++ rs) (above ++ g.forks) begun (s.at_barrier waits)
    at (inr ended) first before above s start begun =
        let all = s.at_end ended start begun in
        record { trace = record { rest = []; begins = all.0.records_are ∙ sym (append-nil (before ++ rs)) }; later = []; forks_are = all.1 ∙ sym (append-nil (above ++ g.forks)) }

  then_stops : (x y : MemberValue) (rs qs : List Record) (gs hs : List RegionWork) → Goes layout by_log program x y rs gs → y.stage ≡ stage.Waits → Stops y qs hs → Stops x (rs ++ qs) (gs ++ hs)
  then_stops x y rs qs gs hs one waits more = record {
    forks = one.forks ++ more.forks;
    runs = λ lined.
        let first = one.runs (all_left IsLinedFork one.forks more.forks lined) in
        let rest = more.runs (all_right IsLinedFork one.forks more.forks lined) in
        record { run = regions_both layout by_log program one.forks gs more.forks hs first.run rest.run; whole = regions_put_both gs hs first.whole rest.whole };
    begins = λ first before above come start begun.
        subst (λ (l : List model.Fork). Begins start (before ++ (rs ++ qs)) l) (append_assoc above one.forks more.forks)
        (subst (λ (l : List Record). Begins start l ((above ++ one.forks) ++ more.forks)) (append_assoc before rs qs)
        (more.begins first (before ++ rs) (above ++ one.forks) ((one.stands first before above come).at_barrier waits) start begun));
    undrawn = undrawn_both rs qs one.undrawn more.undrawn;
  }

  amid_stops : (x : MemberValue) (p : Pool) (rs : List Record) (gs : List RegionWork) → Stops (later x p) rs gs → Stops x rs gs
  amid_stops x p rs gs s = record {
    forks = s.forks;
    runs = s.runs;
    begins = λ first before above come start begun. s.begins first before above (Comes.waits x.stand before above p.words p.left come) start begun;
    undrawn = s.undrawn;
  }

  -- the only work of a lane in a phase
  alone : (x : MemberValue) (p : Pool) (work : Work) → Stops (later x p) (work_records work) (work_regions work) → Stops x (work_records work ++ []) (work_regions work ++ [])
  alone x p work s =
      amid_stops x p (work_records work ++ []) (work_regions work ++ [])
      (stops_as (later x p) (work_records work) (work_records work ++ []) (work_regions work) (work_regions work ++ []) (sym (append-nil (work_records work))) (sym (append-nil (work_regions work))) s)

  -- so its works are those of a task of the kernel
  task_stops : (start : Start) (x : MemberValue) (works : List Work) → Stops x (flat_map work_records works) (flat_map work_regions works) → IsAtStart program start x.stand → IsLined start.team
      → Runs layout by_log program start works
  task_stops start x works s begun lined =
      let records = flat_map work_records works in
      let b = s.begins x.stand [] [] Comes.begins start begun in
      let all = trace_lined program start lined records in
      let put = put_lines records (all_left HasLine records b.trace.rest (subst (All HasLine) b.trace.begins all.0)) in
      let run = s.runs (all_left IsLinedFork s.forks b.later (subst (All IsLinedFork) b.forks_are all.1)) in
      record {
        task =
            RunsTask.runs start works s.forks b.later (subst (λ (rs : List Record). BeginsTrace program start rs) (sym put) b.trace) (inl (sym put))
            (subst (λ (rs : List Record). (own_trace program start rs).forks ≡ s.forks ++ b.later) (sym put) b.forks_are) run.run;
        whole = task_put works put run.whole;
        log = put;
        undrawn = subst IsUndrawn (sym put) s.undrawn;
      }

  -- ---- regions

  fork_stops : (path : List Step) (x : MemberValue) (y : Stand) (team : TeamTree) (ys : List MemberValue) (p : Pool) (phases : Phases) (more : Work)
      (a : Advances layout x.stand y (event kind.Region team.line 0 team.span ∷ []) (fork_at team y.slots ∷ []))
      → (IsLined team → (n : ℕ) → n < team.span → Runs layout by_log program (lane_begin (fork_at team y.slots) n) (lane_works n phases))
      → Stops (past_region path x y ys p) (work_records more) (work_regions more)
      → Stops x (work_records (whole layout by_log program path x y team ys p phases more a)) (work_regions (whole layout by_log program path x y team ys p phases more a))
  fork_stops path x y team ys p phases more a lanes s =
      let mark = event kind.Region team.line 0 team.span in
      let fork = fork_at team y.slots in
      let plain = a.makes.plain in
      let region : RegionWork = record { span = team.span; phases = phases } in
      let all = whole layout by_log program path x y team ys p phases more a in
      stops_as x (plain ++ mark ∷ work_records more) (work_records all) (region ∷ work_regions more) (work_regions all)
      (whole_records layout by_log program path x y team ys p phases more a) (whole_regions layout by_log program path x y team ys p phases more a)
      (record {
        forks = fork ∷ s.forks;
        runs = λ lined. region_runs layout by_log program fork s.forks region (work_regions more) refl (lanes (All-head IsLinedFork fork s.forks lined)) (s.runs (All-tail IsLinedFork fork s.forks lined));
        begins = λ first before above come start begun.
            subst (λ (l : List model.Fork). Begins start (before ++ (plain ++ mark ∷ work_records more)) l) (append_assoc above (fork ∷ []) s.forks)
            (subst (λ (l : List Record). Begins start l ((above ++ fork ∷ []) ++ s.forks)) (records_are layout by_log program path x y team ys p phases more a before)
            (s.begins first (before ++ a.makes.added) (above ++ fork ∷ [])
            (Comes.waits y (before ++ a.makes.added) (above ++ fork ∷ []) p.words p.left (Comes.goes x.stand y before above (mark ∷ []) (fork ∷ []) come a)) start begun));
        undrawn = undrawn_both plain (mark ∷ work_records more) (plain_undrawn plain a.makes.plain_is) ((λ is. cc), s.undrawn);
      })

  -- the arrays of a task where its team begins
  team_begins : (x : MemberValue) (y : Stand) (team : TeamTree) (xs : List MemberValue) → y.at ≡ x.stand.at → x.stand.at.arrays ≡ program.arrays → BeginTeam y.at.arrays team y.slots xs → BeginTeam program.arrays team y.slots xs
  team_begins x y team xs at arrays begin = subst (λ (l : List Array). BeginTeam l team y.slots xs) (ap (λ (s : Site). s.arrays) at ∙ arrays) begin

  -- lanes that went to their ends
  region_ran : (path : List Step) (x : MemberValue) (y : Stand) (team : TeamTree) (xs ys : List MemberValue) (p : Pool) (phases : Phases) → BeginTeam program.arrays team y.slots xs
      → PhasesRun layout path x.forked xs (pool_at y) phases ys p → IsLined team → (n : ℕ) → n < team.span → Runs layout by_log program (lane_begin (fork_at team y.slots) n) (lane_works n phases)
  region_ran path x y team xs ys p phases begun runs =
      region_lanes layout by_log program x team y.slots xs ys phases begun (phases_ended layout path x.forked xs (pool_at y) phases ys p runs)
      (phases_go layout by_log program path x.forked xs (pool_at y) phases ys p runs (begun_arrays layout by_log program x team y.slots xs begun) x)

  -- ---- all tasks

  mutual
    lane_stops : (path : List Step) (x : MemberValue) (work : Work) (p : Pool) (first : StopAt) → LaneStops layout path x work p first → x.stand.at.arrays ≡ program.arrays → Stops x (work_records work) (work_regions work)
    lane_stops _ _ _ _ _ (LaneStops.halts path x slots last w line m) arrays =
        let work = put_all layout x.stand.progress.words m.added Rest in
        stops_as x m.added (work_records work) [] (work_regions work)
        (sym (put_records_are layout m.added x.stand.progress.words last.words Rest m.gains.finds ∙ append-nil m.added)) (sym (put_regions layout m.added x.stand.progress.words Rest))
        (record {
          forks = [];
          runs = λ lined. no_regions;
          begins = λ first before above come start begun.
              let told = stop_as_told layout program start first x.stand before above slots last w line by_log begun come m in
              record { trace = record { rest = []; begins = told.0.records_are ∙ sym (append-nil (before ++ m.added)) }; later = []; forks_are = told.1 ∙ (sym (append-nil above) ∙ sym (append-nil (above ++ []))) };
          undrawn = plain_undrawn m.added m.plain;
        })
    lane_stops _ _ _ _ _ (LaneStops.in_region path x y team xs p phases first a less begin s) arrays =
        let begun = team_begins x y team xs a.at arrays begin in
        fork_stops path x y team [] p phases Rest a
        (λ lined n within.
        task_stops (lane_begin (fork_at team y.slots) n) (get_or xs n x) (lane_works n phases)
        (phases_stop path x.forked xs (pool_at y) phases p first s (begun_arrays layout by_log program x team y.slots xs begun) x n (omega (arith, within, begun.count)))
        (lane_at_start program team y.slots n (get_or xs n x) (begun.each n x within)) lined)
        (rests (past_region path x y [] p))
    lane_stops _ _ _ _ _ (LaneStops.too_many path x y team xs ys p phases a less begin runs many) arrays =
        fork_stops path x y team ys p phases Rest a (region_ran path x y team xs ys p phases (team_begins x y team xs a.at arrays begin) runs) (rests (past_region path x y ys p))
    lane_stops _ _ _ _ _ (LaneStops.onward path x y team xs ys p q phases more first a less begin runs few next) arrays =
        fork_stops path x y team ys p phases more a (region_ran path x y team xs ys p phases (team_begins x y team xs a.at arrays begin) runs)
        (lane_stops path (past_region path x y ys p) more q first next (ap (λ (s : Site). s.arrays) a.at ∙ arrays))

    team_stops : (at : List Step) (number : ℕ) (xs : List MemberValue) (p : Pool) (works : List Work) (q : Pool) (first : Option StopAt) → TeamGoes layout at number xs p works q first
        → HaveArrays program.arrays xs → (d : MemberValue) (n : ℕ) → n < length xs → Stops (get_or xs n d) (flat_map work_records (work_at n (beside works))) (flat_map work_regions (work_at n (beside works)))
    team_stops _ _ _ _ _ _ _ (TeamGoes.no_lane at number p) have d n less = absurd (omega (arith, less))
    team_stops _ _ _ _ _ _ _ (TeamGoes.runs at number x y xs p q work works first l t) have d zero less =
        let path = path_in at number x in
        alone x p work (still (later x p) y (work_records work) (work_regions work)
        (lane_goes layout by_log program path (later x p) work y l (All-head (λ (v : MemberValue). v.stand.at.arrays ≡ program.arrays) x xs have)) (lane_still path (later x p) work y l))
    team_stops _ _ _ _ _ _ _ (TeamGoes.runs at number x y xs p q work works first l t) have d (suc n) less =
        team_stops at number xs (pool_at y.stand) works q first t (All-tail (λ (v : MemberValue). v.stand.at.arrays ≡ program.arrays) x xs have) d n (omega (arith, less))
    team_stops _ _ _ _ _ _ _ (TeamGoes.stops at number x xs p q r work works first others l t) have d zero less =
        alone x p work (lane_stops (path_in at number x) (later x p) work q first l (All-head (λ (v : MemberValue). v.stand.at.arrays ≡ program.arrays) x xs have))
    team_stops _ _ _ _ _ _ _ (TeamGoes.stops at number x xs p q r work works first others l t) have d (suc n) less =
        team_stops at number xs q works r others t (All-tail (λ (v : MemberValue). v.stand.at.arrays ≡ program.arrays) x xs have) d n (omega (arith, less))

    phases_stop : (at : List Step) (number : ℕ) (xs : List MemberValue) (p : Pool) (phases : Phases) (q : Pool) (first : StopAt) → PhasesStop layout at number xs p phases q first
        → HaveArrays program.arrays xs → (d : MemberValue) (n : ℕ) → n < length xs → Stops (get_or xs n d) (flat_map work_records (lane_works n phases)) (flat_map work_regions (lane_works n phases))
    phases_stop _ _ _ _ _ _ _ (PhasesStop.here at number xs p q works first t) have d n less =
        let ws = work_at n (beside works) in
        stops_as (get_or xs n d) (flat_map work_records ws) (flat_map work_records (ws ++ [])) (flat_map work_regions ws) (flat_map work_regions (ws ++ []))
        (ap (λ (l : List Work). flat_map work_records l) (sym (append-nil ws))) (ap (λ (l : List Work). flat_map work_regions l) (sym (append-nil ws)))
        (team_stops at number xs p works q (Some first) t have d n less)
    phases_stop _ _ _ _ _ _ _ (PhasesStop.next at number xs ys p q r works phases first t all more) have d n less =
        let ws = work_at n (beside works) in
        let vs = lane_works n phases in
        let inside : n < length ys = let kept = team_length layout at number xs p works ys q t in omega (arith, less, kept) in
        stops_as (get_or xs n d) (flat_map work_records ws ++ flat_map work_records vs) (flat_map work_records (ws ++ vs)) (flat_map work_regions ws ++ flat_map work_regions vs) (flat_map work_regions (ws ++ vs))
        (sym (flat_map-append work_records ws vs)) (sym (flat_map-append work_regions ws vs))
        (then_stops (get_or xs n d) (get_or ys n d) (flat_map work_records ws) (flat_map work_records vs) (flat_map work_regions ws) (flat_map work_regions vs)
        (team_goes layout by_log program at number xs p works ys q t have d n less) (All-get_or (λ (v : MemberValue). v.stage ≡ stage.Waits) ys n d inside all)
        (phases_stop at number ys q phases r first more (team_at layout program.arrays at number xs p works ys q t have) d n inside))

  -- the root that stopped, or below which a task stopped, is that of the kernel
  pub root_stops : (start : Start) (x : MemberValue) (work : Work) (p : Pool) (first : StopAt) → LaneStops layout [] x work p first → x.stand.at.arrays ≡ program.arrays → IsAtStart program start x.stand → IsLined start.team
      → Runs layout by_log program start (work ∷ [])
  root_stops start x work p first stops arrays begun lined =
      task_stops start x (work ∷ [])
      (stops_as x (work_records work) (work_records work ++ []) (work_regions work) (work_regions work ++ []) (sym (append-nil (work_records work))) (sym (append-nil (work_regions work))) (lane_stops [] x work p first stops arrays))
      begun lined
