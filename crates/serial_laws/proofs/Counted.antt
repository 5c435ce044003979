-- A serial run makes as many records as it had room for, but for those that are left.
use Rattle.std.proofs.Common.{◌≡◌, refl, ap, ℕ, suc, ◌+◌, ◌<◌, ◌≤◌, List, [], ◌∷◌, length, get_or, ℤ, arith}
use Rattle.std.specs.Prelude.{sum_by}
use Rattle.std.specs.List.{flat_map}
use Rattle.std.proofs.lemmas.List.Sums.{sum_by-append, sum_by-cons}
use Rattle.log_format.specs.Limit.{task_limit}
use Rattle.sw_base.specs.declared.path.Step.{Step}
use Rattle.log_format.specs.declared.record.Kind.TheVariants as kind
use Rattle.log_format.specs.declared.record.Record.{Record}
use Rattle.race_model.specs.IndexFault.{max_rows}
use Rattle.kernel_syntax.specs.declared.syntax.Array.{Array}
use Rattle.kernel_syntax.specs.Tree.{TeamTree}
use Rattle.kernel_model.specs.State.{event}
use Rattle.history_model.specs.Work.{Work, Phases}
use Rattle.serial_run.specs.Going.{SerialProgress}
use Rattle.serial_run.specs.Placing.{ElementLayout}
use Rattle.serial_run.specs.Stepping.{Adds}
use Rattle.serial_team.specs.Members.{Pool, pool_at, WholeLog, MemberValue, later, idle, path_in, logs_at, logs_of_member, BeginsLane}
use Rattle.serial_team.specs.Running.{past_region, LaneRuns, TeamRuns, PhasesRun}

abbrev records_in : WholeLog → ℕ
records_in log = log.count

-- the records of a lane and of all tasks below it
abbrev total : MemberValue → ℕ
total x = x.stand.progress.count + sum_by records_in x.below

pub total_is : (path : List Step) (x : MemberValue) → sum_by records_in (logs_at path x) ≡ total x
total_is path x = sum_by-cons records_in (record { path = path; bytes = x.stand.progress.log; count = x.stand.progress.count }) x.below

lanes_total : (at : List Step) (number : ℕ) (ys : List MemberValue) → sum_by records_in (flat_map (logs_of_member at number) ys) ≡ sum_by total ys
lanes_total at number [] = refl
lanes_total at number (y ∷ ys) =
    omega (arith, sum_by-append records_in (logs_of_member at number y) (flat_map (logs_of_member at number) ys), total_is (path_in at number y) y, lanes_total at number ys, sum_by-cons total y ys)

-- lanes that begin have none
begin_none : (e : MemberValue) (xs : List MemberValue) → ((n : ℕ) → n < length xs → total (get_or xs n e) ≡ 0) → sum_by total xs ≡ 0
begin_none e [] each = refl
begin_none e (x ∷ xs) each =
    let first : total x ≡ 0 = each 0 (omega arith) in
    omega (arith, first, sum_by-cons total x xs, begin_none e xs (λ n less. each (suc n) (omega (arith, less))))

lane_none : (arrays : List Array) (team : TeamTree) (slots : List ℤ) (n : ℕ) (x : MemberValue) → BeginsLane arrays team slots n x → total x ≡ 0
lane_none arrays team slots n x b =
    let below : sum_by records_in x.below ≡ 0 = ap (λ (logs : List WholeLog). sum_by records_in logs) b.none_below in
    omega (arith, b.none, below)

module _ (layout : ElementLayout) where
  -- records are made of room
  made_room : (old new : SerialProgress) (mark : List Record) (a : Adds layout old new mark) → new.left + new.count ≡ old.left + old.count
  made_room old new mark a = omega (arith, a.gains.left, a.gains.count)

  mutual
    pub lane_room : (path : List Step) (x : MemberValue) (work : Work) (z : MemberValue) → LaneRuns layout path x work z → z.stand.progress.left + total z ≡ x.stand.progress.left + total x
    lane_room _ _ _ _ (LaneRuns.waits path x y line a) = omega (arith, made_room x.stand.progress y.progress (event kind.Barrier line 0 0 ∷ []) a.makes)
    lane_room _ _ _ _ (LaneRuns.ends path x y f) = omega (arith, made_room x.stand.progress y.progress (event kind.End x.stand.end 0 0 ∷ []) f.makes)
    lane_room _ _ _ _ (LaneRuns.forks path x z y team xs ys p phases more a less begin runs few next) =
        let own = made_room x.stand.progress y.progress (event kind.Region team.line 0 team.span ∷ []) a.makes in
        let none = begin_none x xs (λ n within. lane_none y.at.arrays team y.slots n (get_or xs n x) (begin.each n x (omega (arith, within, begin.count)))) in
        let below = sum_by-append records_in x.below (flat_map (logs_of_member path x.forked) ys) in
        omega (arith, own, none, below, lanes_total path x.forked ys, phases_room path x.forked xs (pool_at y) phases ys p runs, lane_room path (past_region path x y ys p) more z next)

    team_room : (at : List Step) (number : ℕ) (xs : List MemberValue) (p : Pool) (works : List Work) (ys : List MemberValue) (q : Pool) → TeamRuns layout at number xs p works ys q
        → q.left + sum_by total ys ≡ p.left + sum_by total xs
    team_room _ _ _ _ _ _ _ (TeamRuns.no_lane at number p) = refl
    team_room _ _ _ _ _ _ _ (TeamRuns.lane at number x y xs ys p q work works l t) =
        omega (arith, lane_room (path_in at number x) (later x p) work y l, team_room at number xs (pool_at y.stand) works ys q t, sum_by-cons total x xs, sum_by-cons total (idle y) ys)

    phases_room : (at : List Step) (number : ℕ) (xs : List MemberValue) (p : Pool) (phases : Phases) (ys : List MemberValue) (q : Pool) → PhasesRun layout at number xs p phases ys q
        → q.left + sum_by total ys ≡ p.left + sum_by total xs
    phases_room _ _ _ _ _ _ _ (PhasesRun.last at number xs ys p q works t all) = team_room at number xs p works ys q t
    phases_room _ _ _ _ _ _ _ (PhasesRun.next at number xs ys zs p q r works phases t all more) =
        omega (arith, team_room at number xs p works ys q t, phases_room at number ys q phases zs r more)

  -- no more tasks are below a task than may be
  lane_few : (path : List Step) (x : MemberValue) (work : Work) (z : MemberValue) → LaneRuns layout path x work z → length x.below ≤ task_limit → length z.below ≤ task_limit
  lane_few _ _ _ _ (LaneRuns.waits path x y line a) le = le
  lane_few _ _ _ _ (LaneRuns.ends path x y f) le = le
  lane_few _ _ _ _ (LaneRuns.forks path x z y team xs ys p phases more a less begin runs few next) le = lane_few path (past_region path x y ys p) more z next few

  pub root_few : (arrays : List Array) (team : TeamTree) (slots : List ℤ) (x : MemberValue) (work : Work) (z : MemberValue) → LaneRuns layout [] x work z → BeginsLane arrays team slots 0 x
      → length (logs_at [] z) ≤ max_rows
  root_few arrays team slots x work z runs begin =
      let none : length x.below ≡ 0 = ap (λ (logs : List WholeLog). length logs) begin.none_below in
      let few = lane_few [] x work z runs (omega (arith, none)) in
      omega (arith, few)

  -- a root that ran to its end made no more than there was room for
  pub root_room : (arrays : List Array) (team : TeamTree) (slots : List ℤ) (x : MemberValue) (work : Work) (z : MemberValue) → LaneRuns layout [] x work z → BeginsLane arrays team slots 0 x
      → sum_by records_in (logs_at [] z) ≤ x.stand.progress.left
  root_room arrays team slots x work z runs begin = omega (arith, lane_room [] x work z runs, lane_none arrays team slots 0 x begin, total_is [] z)
