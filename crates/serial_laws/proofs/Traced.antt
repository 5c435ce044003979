-- The works of a serial run are those of its kernel: each task makes the records of its trace, and its regions start from its locals.
use Rattle.std.proofs.Common.{◌≡◌, refl, ap, sym, ◌∙◌, subst, inl, ℕ, zero, suc, ◌<◌, List, [], ◌∷◌, ◌++◌, length, get_or, append_assoc, ℤ, arith, All}
use Rattle.std.specs.List.{flat_map}
use Rattle.std.proofs.lemmas.Grind.{flat_map-append}
use Rattle.std.proofs.lemmas.List.{append-nil}
use Rattle.std.proofs.lemmas.List.Elements.{All-nil, All-cons, All-head, All-tail, All-get_or, All-from_get_or}
use Rattle.sw_base.specs.declared.path.Step.{Step}
use Rattle.log_format.specs.declared.record.Record.{Record}
use Rattle.log_format.specs.declared.record.Kind.TheVariants as kind
use Rattle.kernel_syntax.specs.Program.{Program}
use Rattle.kernel_syntax.specs.Tree.{TeamTree}
use Rattle.kernel_syntax.specs.declared.syntax.Array.{Array}
use Rattle.kernel_model.specs.Folder.{own_trace, IsTraced}
use Rattle.kernel_model.specs.State as model
use Rattle.kernel_model.specs.State.{after, put, event}
use Rattle.kernel_model.specs.Trace.{Start, run}
use Rattle.kernel_model.specs.Value.{Site}
use Rattle.history_model.specs.Work.{Work, Rest, Phases, RegionWork, work_records, work_regions, work_at, lane_works}
use Rattle.execution_model.specs.Runs.{RunsTask, RunsRegions, works_log, lane_begin}
use Rattle.serial_run.proofs.Coming.{have_their_trace}
use Rattle.serial_run.specs.Coming.{IsAtStart, Comes}
use Rattle.serial_run.specs.Placing.{OfLog, ElementLayout}
use Rattle.serial_run.specs.Stepping.{Stand, Advances}
use Rattle.serial_team.proofs.Going.{team_at}
use Rattle.serial_team.specs.declared.member.Stage.TheVariants as stage
use Rattle.serial_team.specs.Members.{Pool, pool_at, MemberValue, later, idle, path_in, BeginsLane, BeginTeam}
use Rattle.serial_team.specs.Running.{put_all, beside, past_region, HaveArrays, LaneRuns, TeamRuns, PhasesRun}
use Rattle.serial_laws.proofs.Lined.{HasLine, IsLined, IsLinedFork, trace_lined}
use Rattle.serial_laws.proofs.Puts.{plain_finds, put_records_are, put_regions}
use Rattle.serial_laws.proofs.Undrawn.{IsUndrawn, undrawn_both, plain_undrawn, undrawn_region}
use Rattle.serial_laws.proofs.WholeTasks.{ArePut, RegionsPut, put_lines, task_put, region_put, regions_put_both}

module _ {X : Type 0} (P : X → Type 0) where
  pub all_left : (xs ys : List X) → All P (xs ++ ys) → All P xs
  all_left [] ys all = All-nil P
  all_left (x ∷ xs) ys all = All-cons P x xs (All-head P x (xs ++ ys) all) (all_left xs ys (All-tail P x (xs ++ ys) all))

  pub all_right : (xs ys : List X) → All P (xs ++ ys) → All P ys
  all_right [] ys all = all
  all_right (x ∷ xs) ys all = all_right xs ys (All-tail P x (xs ++ ys) all)

-- ---- lanes and phases

module _ (layout : ElementLayout) where
  pub team_length : (at : List Step) (number : ℕ) (xs : List MemberValue) (p : Pool) (works : List Work) (ys : List MemberValue) (q : Pool) → TeamRuns layout at number xs p works ys q → length ys ≡ length xs
  team_length _ _ _ _ _ _ _ (TeamRuns.no_lane at number p) = refl
  team_length _ _ _ _ _ _ _ (TeamRuns.lane at number x y xs ys p q work works l t) = ap suc (team_length at number xs (pool_at y.stand) works ys q t)

  -- after its phases each lane of a region has ended
  pub phases_ended : (at : List Step) (number : ℕ) (xs : List MemberValue) (p : Pool) (phases : Phases) (ys : List MemberValue) (q : Pool) → PhasesRun layout at number xs p phases ys q
      → (length ys ≡ length xs) × All (λ (y : MemberValue). y.stage ≡ stage.Ended) ys
  phases_ended _ _ _ _ _ _ _ (PhasesRun.last at number xs ys p q works t all) = (team_length at number xs p works ys q t, all)
  phases_ended _ _ _ _ _ _ _ (PhasesRun.next at number xs ys zs p q r works phases t all more) =
      let rest = phases_ended at number ys q phases zs r more in
      (rest.0 ∙ team_length at number xs p works ys q t, rest.1)

abbrev pub fork_at : TeamTree → List ℤ → model.Fork
fork_at team slots = record { team = team; slots = slots }

-- a lane that begins is a task at its start
pub lane_at_start : (program : Program) (team : TeamTree) (slots : List ℤ) (n : ℕ) (x : MemberValue) → BeginsLane program.arrays team slots n x
    → IsAtStart program (record { team = team; lane = n; slots = slots }) x.stand
lane_at_start program team slots n x b = record {
  slots = b.locals;
  none = b.none;
  whole = λ s. b.whole s ∙ ap (λ (at : Site). after (run at team.body s) (put (event kind.End team.end 0 0))) b.at;
}

module _ (layout : ElementLayout) (by_log : layout.bound ≡ OfLog) (program : Program) where
  -- ---- tasks

  -- the works are those of a task of the kernel, and no record of theirs is left out of its log
  pub record Runs (start : Start) (works : List Work) : Type 0 where
    pub task : RunsTask program start works
    pub whole : ArePut works
    pub log : works_log works ≡ flat_map work_records works
    pub undrawn : IsUndrawn (works_log works)

  pub record RunAll (forks : List model.Fork) (regions : List RegionWork) : Type 0 where
    pub run : RunsRegions program forks regions
    pub whole : RegionsPut regions

  pub regions_both : (one : List model.Fork) (gs : List RegionWork) (more : List model.Fork) (hs : List RegionWork) → RunsRegions program one gs → RunsRegions program more hs → RunsRegions program (one ++ more) (gs ++ hs)
  regions_both _ _ more hs RunsRegions.no_region rest = rest
  regions_both _ _ more hs (RunsRegions.region fork forks work works span lanes drew first) rest =
      RunsRegions.region fork (forks ++ more) work (works ++ hs) span lanes drew (regions_both forks works more hs first rest)

  pub region_runs : (fork : model.Fork) (forks : List model.Fork) (region : RegionWork) (regions : List RegionWork) → region.span ≡ fork.team.span
      → ((n : ℕ) → n < region.span → Runs (lane_begin fork n) (lane_works n region.phases)) → RunAll forks regions → RunAll (fork ∷ forks) (region ∷ regions)
  region_runs fork forks region regions span lanes rest = record {
    run =
        RunsRegions.region fork forks region regions span (λ n less. (lanes n less).task)
        (λ loop. undrawn_region loop region.phases region.span (λ n less. (lanes n less).undrawn)) rest.run;
    whole = region_put region regions (λ n less. (lanes n less).whole) rest.whole;
  }

  -- ---- where a task stands

  -- a task that starts there has these records as its trace, and forks these regions
  abbrev pub Finished : Stand → List Record → List model.Fork → Type 0
  Finished first records forks = (start : Start) → IsAtStart program start first → IsTraced program start records × ((own_trace program start records).forks ≡ forks)

  -- from there it came here, and waits or ended
  pub record StandsSo (first : Stand) (z : MemberValue) (records : List Record) (forks : List model.Fork) : Type 0 where
    pub at_barrier : z.stage ≡ stage.Waits → Comes layout first z.stand records forks
    pub at_end : z.stage ≡ stage.Ended → Finished first records forks

  -- it goes on from here to there: it makes these records, and its regions run, if their statements have lines
  pub record Goes (x z : MemberValue) (records : List Record) (regions : List RegionWork) : Type 0 where
    pub forks : List model.Fork
    pub runs : All IsLinedFork forks → RunAll forks regions
    pub stands : (first : Stand) (before : List Record) (above : List model.Fork) → Comes layout first x.stand before above → StandsSo first z (before ++ records) (above ++ forks)
    pub undrawn : IsUndrawn records

  pub goes_as : (x z : MemberValue) (rs qs : List Record) (gs hs : List RegionWork) → rs ≡ qs → gs ≡ hs → Goes x z rs gs → Goes x z qs hs
  goes_as x z rs qs gs hs same alike g = subst (λ (l : List RegionWork). Goes x z qs l) alike (subst (λ (l : List Record). Goes x z l gs) same g)

  goes_then : (x y z : MemberValue) (rs qs : List Record) (gs hs : List RegionWork) → Goes x y rs gs → y.stage ≡ stage.Waits → Goes y z qs hs → Goes x z (rs ++ qs) (gs ++ hs)
  goes_then x y z rs qs gs hs one waits more = record {
    forks = one.forks ++ more.forks;
    runs = λ values.
        let first = one.runs (all_left IsLinedFork one.forks more.forks values) in
        let rest = more.runs (all_right IsLinedFork one.forks more.forks values) in
        record { run = regions_both one.forks gs more.forks hs first.run rest.run; whole = regions_put_both gs hs first.whole rest.whole };
    stands = λ first before above come.
        subst (λ (l : List model.Fork). StandsSo first z (before ++ (rs ++ qs)) l) (append_assoc above one.forks more.forks)
        (subst (λ (l : List Record). StandsSo first z l ((above ++ one.forks) ++ more.forks)) (append_assoc before rs qs)
        (more.stands first (before ++ rs) (above ++ one.forks) ((one.stands first before above come).at_barrier waits)));
    undrawn = undrawn_both rs qs one.undrawn more.undrawn;
  }

  -- while others go on before and after it
  goes_amid : (x y : MemberValue) (p : Pool) (rs : List Record) (gs : List RegionWork) → Goes (later x p) y rs gs → Goes x (idle y) rs gs
  goes_amid x y p rs gs g = record {
    forks = g.forks;
    runs = g.runs;
    stands = λ first before above come.
        let s = g.stands first before above (Comes.waits x.stand before above p.words p.left come) in
        record { at_barrier = λ is. Comes.waits y.stand (before ++ rs) (above ++ g.forks) [] 0 (s.at_barrier is); at_end = s.at_end };
    undrawn = g.undrawn;
  }

  -- a task that goes to its end is one of the kernel
  pub task_runs : (start : Start) (x z : MemberValue) (works : List Work) → Goes x z (flat_map work_records works) (flat_map work_regions works) → IsAtStart program start x.stand → IsLined start.team
      → z.stage ≡ stage.Ended → Runs start works
  task_runs start x z works g begun begins ended =
      let records = flat_map work_records works in
      let traced = (g.stands x.stand [] [] Comes.begins).at_end ended start begun in
      let lined = trace_lined program start begins records in
      let put = put_lines records (subst (All HasLine) traced.0.records_are lined.0) in
      let all = g.runs (subst (All IsLinedFork) traced.1 lined.1) in
      record {
        task =
            RunsTask.runs start works g.forks []
            (record { rest = []; begins = subst (λ (rs : List Record). (own_trace program start rs).records ≡ rs ++ []) (sym put) (traced.0.records_are ∙ sym (append-nil records)) })
            (inl (sym put)) (subst (λ (rs : List Record). (own_trace program start rs).forks ≡ g.forks ++ []) (sym put) (traced.1 ∙ sym (append-nil g.forks))) all.run;
        whole = task_put works put all.whole;
        log = put;
        undrawn = subst IsUndrawn (sym put) g.undrawn;
      }

  -- ---- a region

  module _ (path : List Step) (x : MemberValue) (y : Stand) (team : TeamTree) (ys : List MemberValue) (p : Pool) (phases : Phases) (more : Work)
      (a : Advances layout x.stand y (event kind.Region team.line 0 team.span ∷ []) (fork_at team y.slots ∷ [])) where
    abbrev mark : Record
    mark = event kind.Region team.line 0 team.span

    abbrev fork : model.Fork
    fork = fork_at team y.slots

    abbrev region : RegionWork
    region = record { span = team.span; phases = phases }

    abbrev rest : Work
    rest = Work.Fork team.line team.span phases more

    abbrev pub whole : Work
    whole = put_all layout x.stand.progress.words a.makes.plain rest

    pub whole_records : a.makes.plain ++ mark ∷ work_records more ≡ work_records whole
    whole_records = sym (put_records_are layout a.makes.plain x.stand.progress.words y.progress.words rest (plain_finds layout x.stand.progress y.progress mark a.makes (λ words. refl)))

    pub whole_regions : region ∷ work_regions more ≡ work_regions whole
    whole_regions = sym (put_regions layout a.makes.plain x.stand.progress.words rest)

    pub records_are : (before : List Record) → (before ++ a.makes.added) ++ work_records more ≡ before ++ (a.makes.plain ++ mark ∷ work_records more)
    records_are before =
        append_assoc before a.makes.added (work_records more)
        ∙ ap (λ (l : List Record). before ++ l) (ap (λ (l : List Record). l ++ work_records more) a.makes.added_is ∙ append_assoc a.makes.plain (mark ∷ []) (work_records more))

    fork_goes : (z : MemberValue) → (IsLinedFork fork → (n : ℕ) → n < team.span → Runs (lane_begin fork n) (lane_works n phases)) → Goes (past_region path x y ys p) z (work_records more) (work_regions more)
        → Goes x z (work_records whole) (work_regions whole)
    fork_goes z lanes g =
        goes_as x z (a.makes.plain ++ mark ∷ work_records more) (work_records whole) (region ∷ work_regions more) (work_regions whole) whole_records whole_regions
        (record {
          forks = fork ∷ g.forks;
          runs = λ values. region_runs fork g.forks region (work_regions more) refl (lanes (All-head IsLinedFork fork g.forks values)) (g.runs (All-tail IsLinedFork fork g.forks values));
          stands = λ first before above come.
              subst (λ (l : List model.Fork). StandsSo first z (before ++ (a.makes.plain ++ mark ∷ work_records more)) l) (append_assoc above (fork ∷ []) g.forks)
              (subst (λ (l : List Record). StandsSo first z l ((above ++ fork ∷ []) ++ g.forks)) (records_are before)
              (g.stands first (before ++ a.makes.added) (above ++ fork ∷ [])
              (Comes.waits y (before ++ a.makes.added) (above ++ fork ∷ []) p.words p.left (Comes.goes x.stand y before above (mark ∷ []) (fork ∷ []) come a))));
          undrawn = undrawn_both a.makes.plain (mark ∷ work_records more) (plain_undrawn a.makes.plain a.makes.plain_is) ((λ is. cc), g.undrawn);
        })

  -- ---- all tasks

  pub begun_arrays : (x : MemberValue) (team : TeamTree) (slots : List ℤ) (xs : List MemberValue) → BeginTeam program.arrays team slots xs → HaveArrays program.arrays xs
  begun_arrays x team slots xs begun =
      All-from_get_or (λ (v : MemberValue). v.stand.at.arrays ≡ program.arrays) xs x (λ n within. ap (λ (s : Site). s.arrays) (begun.each n x (omega (arith, within, begun.count))).at)

  -- the lanes of a region that went to their ends
  pub region_lanes : (x : MemberValue) (team : TeamTree) (slots : List ℤ) (xs ys : List MemberValue) (phases : Phases) → BeginTeam program.arrays team slots xs
      → (length ys ≡ length xs) × All (λ (y : MemberValue). y.stage ≡ stage.Ended) ys
      → ((n : ℕ) → n < length xs → Goes (get_or xs n x) (get_or ys n x) (flat_map work_records (lane_works n phases)) (flat_map work_regions (lane_works n phases)))
      → IsLined team → (n : ℕ) → n < team.span → Runs (lane_begin (fork_at team slots) n) (lane_works n phases)
  region_lanes x team slots xs ys phases begun ended go lined n within =
      let inside : n < length xs = omega (arith, within, begun.count) in
      task_runs (lane_begin (fork_at team slots) n) (get_or xs n x) (get_or ys n x) (lane_works n phases) (go n inside)
      (lane_at_start program team slots n (get_or xs n x) (begun.each n x within)) lined
      (All-get_or (λ (v : MemberValue). v.stage ≡ stage.Ended) ys n x (omega (arith, inside, ended.0)) ended.1)

  mutual
    pub lane_goes : (path : List Step) (x : MemberValue) (work : Work) (z : MemberValue) → LaneRuns layout path x work z → x.stand.at.arrays ≡ program.arrays → Goes x z (work_records work) (work_regions work)
    lane_goes _ _ _ _ (LaneRuns.waits path x y line a) arrays =
        let mark = event kind.Barrier line 0 0 in
        let work = put_all layout x.stand.progress.words a.makes.added Rest in
        goes_as x (record x { stand = y; stage = stage.Waits }) a.makes.added (work_records work) [] (work_regions work)
        (sym (put_records_are layout a.makes.added x.stand.progress.words y.progress.words Rest a.makes.gains.finds ∙ append-nil a.makes.added)) (sym (put_regions layout a.makes.added x.stand.progress.words Rest))
        (record {
          forks = [];
          runs = λ values. record { run = RunsRegions.no_region; whole = λ depth at g. refl };
          stands = λ first before above come. record { at_barrier = λ is. Comes.goes x.stand y before above (mark ∷ []) [] come a; at_end = λ is. absurd cc };
          undrawn = subst IsUndrawn (sym a.makes.added_is) (undrawn_both a.makes.plain (mark ∷ []) (plain_undrawn a.makes.plain a.makes.plain_is) ((λ is. cc), tt));
        })
    lane_goes _ _ _ _ (LaneRuns.ends path x y f) arrays =
        let mark = event kind.End x.stand.end 0 0 in
        let work = put_all layout x.stand.progress.words f.makes.added Rest in
        goes_as x (record x { stand = y; stage = stage.Ended }) f.makes.added (work_records work) [] (work_regions work)
        (sym (put_records_are layout f.makes.added x.stand.progress.words y.progress.words Rest f.makes.gains.finds ∙ append-nil f.makes.added)) (sym (put_regions layout f.makes.added x.stand.progress.words Rest))
        (record {
          forks = [];
          runs = λ values. record { run = RunsRegions.no_region; whole = λ depth at g. refl };
          stands = λ first before above come. record {
            at_barrier = λ is. absurd cc;
            at_end = λ is start begun. let traced = have_their_trace layout program start first x.stand y before above by_log begun come f in (traced.0, traced.1 ∙ sym (append-nil above));
          };
          undrawn = subst IsUndrawn (sym f.makes.added_is) (undrawn_both f.makes.plain (mark ∷ []) (plain_undrawn f.makes.plain f.makes.plain_is) ((λ is. cc), tt));
        })
    lane_goes _ _ _ _ (LaneRuns.forks path x z y team xs ys p phases more a less begin runs few next) arrays =
        let here : y.at.arrays ≡ program.arrays = ap (λ (s : Site). s.arrays) a.at ∙ arrays in
        let begun = subst (λ (l : List Array). BeginTeam l team y.slots xs) here begin in
        fork_goes path x y team ys p phases more a z
        (region_lanes x team y.slots xs ys phases begun (phases_ended layout path x.forked xs (pool_at y) phases ys p runs)
        (phases_go path x.forked xs (pool_at y) phases ys p runs (begun_arrays x team y.slots xs begun) x))
        (lane_goes path (past_region path x y ys p) more z next here)

    pub team_goes : (at : List Step) (number : ℕ) (xs : List MemberValue) (p : Pool) (works : List Work) (ys : List MemberValue) (q : Pool) → TeamRuns layout at number xs p works ys q
        → HaveArrays program.arrays xs → (d : MemberValue) (n : ℕ) → n < length xs
        → Goes (get_or xs n d) (get_or ys n d) (flat_map work_records (work_at n (beside works))) (flat_map work_regions (work_at n (beside works)))
    team_goes _ _ _ _ _ _ _ (TeamRuns.no_lane at number p) have d n less = absurd (omega (arith, less))
    team_goes _ _ _ _ _ _ _ (TeamRuns.lane at number x y xs ys p q work works l t) have d zero less =
        goes_amid x y p (work_records work ++ []) (work_regions work ++ [])
        (goes_as (later x p) y (work_records work) (work_records work ++ []) (work_regions work) (work_regions work ++ []) (sym (append-nil (work_records work))) (sym (append-nil (work_regions work)))
        (lane_goes (path_in at number x) (later x p) work y l (All-head (λ (v : MemberValue). v.stand.at.arrays ≡ program.arrays) x xs have)))
    team_goes _ _ _ _ _ _ _ (TeamRuns.lane at number x y xs ys p q work works l t) have d (suc n) less =
        team_goes at number xs (pool_at y.stand) works ys q t (All-tail (λ (v : MemberValue). v.stand.at.arrays ≡ program.arrays) x xs have) d n (omega (arith, less))

    pub phases_go : (at : List Step) (number : ℕ) (xs : List MemberValue) (p : Pool) (phases : Phases) (ys : List MemberValue) (q : Pool) → PhasesRun layout at number xs p phases ys q
        → HaveArrays program.arrays xs → (d : MemberValue) (n : ℕ) → n < length xs → Goes (get_or xs n d) (get_or ys n d) (flat_map work_records (lane_works n phases)) (flat_map work_regions (lane_works n phases))
    phases_go _ _ _ _ _ _ _ (PhasesRun.last at number xs ys p q works t all) have d n less =
        let ws = work_at n (beside works) in
        goes_as (get_or xs n d) (get_or ys n d) (flat_map work_records ws) (flat_map work_records (ws ++ [])) (flat_map work_regions ws) (flat_map work_regions (ws ++ []))
        (ap (λ (l : List Work). flat_map work_records l) (sym (append-nil ws))) (ap (λ (l : List Work). flat_map work_regions l) (sym (append-nil ws)))
        (team_goes at number xs p works ys q t have d n less)
    phases_go _ _ _ _ _ _ _ (PhasesRun.next at number xs ys zs p q r works phases t all more) have d n less =
        let ws = work_at n (beside works) in
        let vs = lane_works n phases in
        let inside : n < length ys = let kept = team_length layout at number xs p works ys q t in omega (arith, less, kept) in
        goes_as (get_or xs n d) (get_or zs n d) (flat_map work_records ws ++ flat_map work_records vs) (flat_map work_records (ws ++ vs)) (flat_map work_regions ws ++ flat_map work_regions vs) (flat_map work_regions (ws ++ vs))
        (sym (flat_map-append work_records ws vs)) (sym (flat_map-append work_regions ws vs))
        (goes_then (get_or xs n d) (get_or ys n d) (get_or zs n d) (flat_map work_records ws) (flat_map work_records vs) (flat_map work_regions ws) (flat_map work_regions vs)
        (team_goes at number xs p works ys q t have d n less) (All-get_or (λ (v : MemberValue). v.stage ≡ stage.Waits) ys n d inside all)
        (phases_go at number ys q phases zs r more (team_at layout program.arrays at number xs p works ys q t have) d n inside))

  -- the root, which goes to its end, is that of the kernel
  pub root_runs : (start : Start) (x : MemberValue) (work : Work) (z : MemberValue) → LaneRuns layout [] x work z → x.stand.at.arrays ≡ program.arrays → IsAtStart program start x.stand → IsLined start.team
      → z.stage ≡ stage.Ended → Runs start (work ∷ [])
  root_runs start x work z runs arrays begun begins ended =
      task_runs start x z (work ∷ [])
      (goes_as x z (work_records work) (work_records work ++ []) (work_regions work) (work_regions work ++ []) (sym (append-nil (work_records work))) (sym (append-nil (work_regions work))) (lane_goes [] x work z runs arrays))
      begun begins ended
