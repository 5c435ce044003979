-- The logs of a serial run are those of its tree of work, in the order of an index.
use Rattle.std.proofs.Common.{◌≡◌, refl, ap, ap₂, sym, ◌∙◌, subst, ℕ, zero, suc, ◌+◌, ◌<◌, ◌≤◌, List, [], ◌∷◌, ◌++◌, length, map, get_or, append_assoc, ℤ, arith, length-append}
use Rattle.std.specs.List.{flat_map}
use Rattle.std.proofs.lemmas.Grind.{flat_map-append}
use Rattle.std.proofs.lemmas.List.{append-nil, map-append}
use Rattle.sw_base.specs.declared.path.Step.{Step}
use Rattle.log_format.specs.Spelling.{spelling}
use Rattle.log_format.specs.declared.record.Record.{Record}
use Rattle.log_format.specs.declared.record.Kind.TheVariants as kind
use Rattle.race_model.specs.Listing.{lane_of}
use Rattle.race_model.specs.Trace.{Trace}
use Rattle.kernel_syntax.specs.declared.syntax.Array.{Array}
use Rattle.kernel_syntax.specs.Tree.{TeamTree}
use Rattle.kernel_model.specs.State.{event}
use Rattle.kernel_model.specs.Value.{Site}
use Rattle.history_model.specs.Tasks.{lane_tasks, region_tasks, tasks_from}
use Rattle.history_model.specs.Work.{Work, Rest, Fork, Phases, RegionWork, work_records, work_regions, work_at, lane_works}
use Rattle.serial_run.specs.Going.{Gains}
use Rattle.serial_run.specs.Placing.{ElementLayout}
use Rattle.serial_run.specs.Stepping.{Stand}
use Rattle.serial_team.specs.declared.member.Stage.{Stage}
use Rattle.serial_team.specs.declared.member.Stage.TheVariants as stage
use Rattle.serial_team.specs.Members.{Pool, pool_at, WholeLog, MemberValue, later, idle, path_in, logs_at, logs_of_member, BeginsLane, BeginTeam}
use Rattle.serial_team.specs.Running.{put_all, beside, past_region, LaneRuns, TeamRuns, PhasesRun}
use Rattle.serial_laws.specs.SerialRuns.{spelled}
use Rattle.serial_laws.proofs.Puts.{plain_finds, put_records_are, put_regions}
use Rattle.serial_laws.proofs.Traced.{phases_ended, team_length}
use Rattle.history_laws.proofs.TaskTree.{regions_later}

-- the task of this path went on from here to there: its log gained these records, and the logs below it those of these regions
pub record Logged (d : ℕ) (path : List Step) (x y : MemberValue) (records : List Record) (regions : List RegionWork) : Type 0 where
  pub at : y.stand.at ≡ x.stand.at
  pub log : y.stand.progress.log ≡ x.stand.progress.log ++ flat_map spelling records
  pub count : y.stand.progress.count ≡ x.stand.progress.count + length records
  pub forked : y.forked ≡ x.forked + length regions
  pub below : y.below ≡ x.below ++ map spelled (region_tasks (tasks_from d) path x.forked regions)

module _ (d : ℕ) (path : List Step) where
  logged_as : (x z : MemberValue) (rs qs : List Record) (gs hs : List RegionWork) → rs ≡ qs → gs ≡ hs → Logged d path x z rs gs → Logged d path x z qs hs
  logged_as x z rs qs gs hs same alike l = subst (λ (g : List RegionWork). Logged d path x z qs g) alike (subst (λ (r : List Record). Logged d path x z r gs) same l)

  logged_then : (x y z : MemberValue) (rs qs : List Record) (gs hs : List RegionWork) → Logged d path x y rs gs → Logged d path y z qs hs → Logged d path x z (rs ++ qs) (gs ++ hs)
  logged_then x y z rs qs gs hs one more = let first = region_tasks (tasks_from d) path x.forked gs in record {
    at = more.at ∙ one.at;
    log =
        more.log ∙ ap (λ (l : List ℕ). l ++ flat_map spelling qs) one.log ∙ append_assoc x.stand.progress.log (flat_map spelling rs) (flat_map spelling qs)
        ∙ ap (λ (l : List ℕ). x.stand.progress.log ++ l) (sym (flat_map-append spelling rs qs));
    count = omega (arith, one.count, more.count, length-append rs qs);
    forked = omega (arith, one.forked, more.forked, length-append gs hs);
    below =
        more.below
        ∙ ap₂ (λ (l : List WholeLog) (n : ℕ). l ++ map spelled (region_tasks (tasks_from d) path n hs)) one.below one.forked
        ∙ append_assoc x.below (map spelled first) (map spelled (region_tasks (tasks_from d) path (x.forked + length gs) hs))
        ∙ ap (λ (l : List WholeLog). x.below ++ l)
        (sym (map-append spelled first (region_tasks (tasks_from d) path (x.forked + length gs) hs)) ∙ ap (λ (ts : Trace). map spelled ts) (sym (regions_later (tasks_from d) path x.forked gs hs)));
  }

  -- no region is forked
  logged_alone : (layout : ElementLayout) (x : MemberValue) (y : Stand) (s : Stage) (added : List Record) → Gains layout x.stand.progress y.progress added → y.at ≡ x.stand.at
      → Logged d path x (record x { stand = y; stage = s }) added []
  logged_alone layout x y s added g at = record { at = at; log = g.log; count = g.count; forked = omega arith; below = sym (append-nil x.below) }

  -- a whole task: its log, and those below it
  whole_task : (arrays : List Array) (team : TeamTree) (slots : List ℤ) (n : ℕ) (x y : MemberValue) (works : List Work) → BeginsLane arrays team slots n x
      → Logged d path x y (flat_map work_records works) (flat_map work_regions works) → logs_at path y ≡ map spelled (tasks_from (suc d) path works)
  whole_task arrays team slots n x y works b l = λ i. record { path = path; bytes = bytes i; count = count i } ∷ below i
    where
      bytes : y.stand.progress.log ≡ (spelled (record { path = path; records = flat_map work_records works })).bytes
      bytes = l.log ∙ ap (λ (header : List ℕ). header ++ flat_map spelling (flat_map work_records works)) b.log

      count : y.stand.progress.count ≡ length (flat_map work_records works)
      count = let none = b.none in let gained = l.count in omega arith

      below : y.below ≡ map spelled (region_tasks (tasks_from d) path 0 (flat_map work_regions works))
      below = l.below ∙ ap₂ (λ (logs : List WholeLog) (number : ℕ). logs ++ map spelled (region_tasks (tasks_from d) path number (flat_map work_regions works))) b.none_below b.unforked

-- the lanes of a region, each with all below it
module _ (d : ℕ) (path : List Step) (number span : ℕ) (phases : Phases) (e : MemberValue) where
  lanes_logged : (ys : List MemberValue) (n : ℕ) → ((k : ℕ) → k < length ys → logs_of_member path number (get_or ys k e) ≡ map spelled (tasks_from (suc d) (lane_of path number (n + k) span) (lane_works (n + k) phases)))
      → flat_map (logs_of_member path number) ys ≡ map spelled (lane_tasks (tasks_from (suc d)) path number span phases n (length ys))
  lanes_logged [] n each = refl
  lanes_logged (y ∷ ys) n each =
      let here : n + 0 ≡ n = omega arith in
      ap₂ (λ (l m : List WholeLog). l ++ m)
      (each 0 (omega arith) ∙ ap (λ (k : ℕ). map spelled (tasks_from (suc d) (lane_of path number k span) (lane_works k phases))) here)
      (lanes_logged ys (suc n) (λ k less. each (suc k) (omega (arith, less)) ∙ ap (λ (m : ℕ). map spelled (tasks_from (suc d) (lane_of path number m span) (lane_works m phases))) (let e : n + suc k ≡ suc n + k = omega arith in e)))
      ∙ sym (map-append spelled (tasks_from (suc d) (lane_of path number n span) (lane_works n phases)) (lane_tasks (tasks_from (suc d)) path number span phases (suc n) (length ys)))

-- the lanes of a region went through its phases
region_logged : (d : ℕ) (path : List Step) (number : ℕ) (xs ys : List MemberValue) (phases : Phases) (arrays : List Array) (team : TeamTree) (slots : List ℤ) (e : MemberValue) → length ys ≡ length xs → BeginTeam arrays team slots xs
    → ((n : ℕ) → n < length xs → Logged d (path_in path number (get_or xs n e)) (get_or xs n e) (get_or ys n e) (flat_map work_records (lane_works n phases)) (flat_map work_regions (lane_works n phases)))
    → flat_map (logs_of_member path number) ys ≡ map spelled (lane_tasks (tasks_from (suc d)) path number team.span phases 0 team.span)
region_logged d path number xs ys phases arrays team slots e kept begin go =
    lanes_logged d path number team.span phases e ys 0 (λ k less. each k less ∙ ap (λ (m : ℕ). map spelled (tasks_from (suc d) (lane_of path number m team.span) (lane_works m phases))) (let e : k ≡ 0 + k = omega arith in e))
    ∙ ap (λ (n : ℕ). map spelled (lane_tasks (tasks_from (suc d)) path number team.span phases 0 n)) (kept ∙ begin.count)
  where
    each : (k : ℕ) → k < length ys → logs_of_member path number (get_or ys k e) ≡ map spelled (tasks_from (suc d) (lane_of path number k team.span) (lane_works k phases))
    each k less =
        let begun = begin.each k e (omega (arith, less, kept, begin.count)) in
        let l = go k (omega (arith, less, kept)) in
        ap (λ (s : Site). logs_at (lane_of path number s.lane s.span) (get_or ys k e)) (l.at ∙ begun.at)
        ∙ whole_task d (lane_of path number k team.span) arrays team slots k (get_or xs k e) (get_or ys k e) (lane_works k phases) begun
        (subst (λ (s : Site). Logged d (lane_of path number s.lane s.span) (get_or xs k e) (get_or ys k e) (flat_map work_records (lane_works k phases)) (flat_map work_regions (lane_works k phases))) begun.at l)

module _ (layout : ElementLayout) where
  mutual
    pub lane_logged : (d : ℕ) (path : List Step) (x : MemberValue) (work : Work) (z : MemberValue) → LaneRuns layout path x work z → 4 ≤ length path + d → Logged d path x z (work_records work) (work_regions work)
    lane_logged d _ _ _ _ (LaneRuns.waits path x y line a) deep =
        let work = put_all layout x.stand.progress.words a.makes.added Rest in
        logged_as d path x (record x { stand = y; stage = stage.Waits }) a.makes.added (work_records work) [] (work_regions work)
        (sym (put_records_are layout a.makes.added x.stand.progress.words y.progress.words Rest a.makes.gains.finds ∙ append-nil a.makes.added)) (sym (put_regions layout a.makes.added x.stand.progress.words Rest))
        (logged_alone d path layout x y stage.Waits a.makes.added a.makes.gains a.at)
    lane_logged d _ _ _ _ (LaneRuns.ends path x y f) deep =
        let work = put_all layout x.stand.progress.words f.makes.added Rest in
        logged_as d path x (record x { stand = y; stage = stage.Ended }) f.makes.added (work_records work) [] (work_regions work)
        (sym (put_records_are layout f.makes.added x.stand.progress.words y.progress.words Rest f.makes.gains.finds ∙ append-nil f.makes.added)) (sym (put_regions layout f.makes.added x.stand.progress.words Rest))
        (logged_alone d path layout x y stage.Ended f.makes.added f.makes.gains f.at)
    lane_logged zero _ _ _ _ (LaneRuns.forks path x z y team xs ys p phases more a less begin runs few next) deep = absurd (omega (arith, less, deep))
    lane_logged (suc d) _ _ _ _ (LaneRuns.forks path x z y team xs ys p phases more a less begin runs few next) deep =
        let mark = event kind.Region team.line 0 team.span in
        let rest = Fork team.line team.span phases more in
        let work = put_all layout x.stand.progress.words a.makes.plain rest in
        let there = past_region path x y ys p in
        let region : List RegionWork = record { span = team.span; phases = phases } ∷ [] in
        logged_as (suc d) path x z (a.makes.added ++ work_records more) (work_records work) (region ++ work_regions more) (work_regions work)
        (ap (λ (l : List Record). l ++ work_records more) a.makes.added_is ∙ append_assoc a.makes.plain (mark ∷ []) (work_records more)
        ∙ sym (put_records_are layout a.makes.plain x.stand.progress.words y.progress.words rest (plain_finds layout x.stand.progress y.progress mark a.makes (λ words. refl))))
        (sym (put_regions layout a.makes.plain x.stand.progress.words rest))
        (logged_then (suc d) path x there z a.makes.added (work_records more) region (work_regions more)
        (record {
          at = a.at;
          log = a.makes.gains.log;
          count = a.makes.gains.count;
          forked = refl;
          below =
              ap (λ (l : List WholeLog). x.below ++ l)
              (region_logged d path x.forked xs ys phases y.at.arrays team y.slots x (phases_ended layout path x.forked xs (pool_at y) phases ys p runs).0 begin
              (phases_logged d path x.forked xs (pool_at y) phases ys p runs (omega (arith, deep)) x)
              ∙ ap (λ (ts : Trace). map spelled ts) (sym (append-nil (lane_tasks (tasks_from (suc d)) path x.forked team.span phases 0 team.span))));
        })
        (lane_logged (suc d) path there more z next deep))

    team_logged : (d : ℕ) (at : List Step) (number : ℕ) (xs : List MemberValue) (p : Pool) (works : List Work) (ys : List MemberValue) (q : Pool) → TeamRuns layout at number xs p works ys q → 4 ≤ length at + suc d
        → (e : MemberValue) (n : ℕ) → n < length xs
        → Logged d (path_in at number (get_or xs n e)) (get_or xs n e) (get_or ys n e) (flat_map work_records (work_at n (beside works))) (flat_map work_regions (work_at n (beside works)))
    team_logged d _ _ _ _ _ _ _ (TeamRuns.no_lane at number p) deep e n less = absurd (omega (arith, less))
    team_logged d _ _ _ _ _ _ _ (TeamRuns.lane at number x y xs ys p q work works l t) deep e zero less =
        let below = length-append at (record { region = number; lane = x.stand.at.lane; span = x.stand.at.span } ∷ []) in
        let path = path_in at number x in
        let one = lane_logged d path (later x p) work y l (omega (arith, deep, below)) in
        logged_as d path x (idle y) (work_records work) (work_records work ++ []) (work_regions work) (work_regions work ++ []) (sym (append-nil (work_records work))) (sym (append-nil (work_regions work)))
        (record { at = one.at; log = one.log; count = one.count; forked = one.forked; below = one.below })
    team_logged d _ _ _ _ _ _ _ (TeamRuns.lane at number x y xs ys p q work works l t) deep e (suc n) less =
        team_logged d at number xs (pool_at y.stand) works ys q t deep e n (omega (arith, less))

    phases_logged : (d : ℕ) (at : List Step) (number : ℕ) (xs : List MemberValue) (p : Pool) (phases : Phases) (ys : List MemberValue) (q : Pool) → PhasesRun layout at number xs p phases ys q → 4 ≤ length at + suc d
        → (e : MemberValue) (n : ℕ) → n < length xs
        → Logged d (path_in at number (get_or xs n e)) (get_or xs n e) (get_or ys n e) (flat_map work_records (lane_works n phases)) (flat_map work_regions (lane_works n phases))
    phases_logged d _ _ _ _ _ _ _ (PhasesRun.last at number xs ys p q works t all) deep e n less =
        let ws = work_at n (beside works) in
        logged_as d (path_in at number (get_or xs n e)) (get_or xs n e) (get_or ys n e) (flat_map work_records ws) (flat_map work_records (ws ++ [])) (flat_map work_regions ws) (flat_map work_regions (ws ++ []))
        (ap (λ (l : List Work). flat_map work_records l) (sym (append-nil ws))) (ap (λ (l : List Work). flat_map work_regions l) (sym (append-nil ws)))
        (team_logged d at number xs p works ys q t deep e n less)
    phases_logged d _ _ _ _ _ _ _ (PhasesRun.next at number xs ys zs p q r works phases t all more) deep e n less =
        let ws = work_at n (beside works) in
        let vs = lane_works n phases in
        let path = path_in at number (get_or xs n e) in
        let inside : n < length ys = let kept = team_length layout at number xs p works ys q t in omega (arith, less, kept) in
        let one = team_logged d at number xs p works ys q t deep e n less in
        logged_as d path (get_or xs n e) (get_or zs n e) (flat_map work_records ws ++ flat_map work_records vs) (flat_map work_records (ws ++ vs)) (flat_map work_regions ws ++ flat_map work_regions vs) (flat_map work_regions (ws ++ vs))
        (sym (flat_map-append work_records ws vs)) (sym (flat_map-append work_regions ws vs))
        (logged_then d path (get_or xs n e) (get_or ys n e) (get_or zs n e) (flat_map work_records ws) (flat_map work_records vs) (flat_map work_regions ws) (flat_map work_regions vs) one
        (subst (λ (s : Site). Logged d (lane_of at number s.lane s.span) (get_or ys n e) (get_or zs n e) (flat_map work_records vs) (flat_map work_regions vs)) one.at
        (phases_logged d at number ys q phases zs r more deep e n inside)))

  -- the logs of all tasks, from the root on
  pub root_logged : (d : ℕ) (arrays : List Array) (team : TeamTree) (slots : List ℤ) (x : MemberValue) (work : Work) (z : MemberValue) → LaneRuns layout [] x work z → 4 ≤ d → BeginsLane arrays team slots 0 x
      → logs_at [] z ≡ map spelled (tasks_from (suc d) [] (work ∷ []))
  root_logged d arrays team slots x work z runs deep begin =
      whole_task d [] arrays team slots 0 x z (work ∷ []) begin
      (logged_as d [] x z (work_records work) (work_records work ++ []) (work_regions work) (work_regions work ++ []) (sym (append-nil (work_records work))) (sym (append-nil (work_regions work)))
      (lane_logged d [] x work z runs (omega (arith, deep))))
