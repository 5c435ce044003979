-- How a task and the lanes of a team stop, piece by piece.
use Rattle.std.proofs.Common.{◌≡◌, refl, sym, subst, ℕ, ◌+◌, ◌<◌, ◌≤◌, true, false, List, [], ◌∷◌, length, Option, Some, None, Result, Ok, Err, All}
use Rattle.std.specs.Prelude.{IfErr, IsErr}
use Rattle.log_format.specs.Limit.{task_limit}
use Rattle.sw_base.specs.declared.path.Step.{Step}
use Rattle.log_format.specs.declared.record.Kind.TheVariants as kind
use Rattle.kernel_syntax.specs.declared.syntax.Array.{Array}
use Rattle.kernel_syntax.specs.Tree.{TeamTree}
use Rattle.kernel_model.specs.declared.stop.StopWhy.TheVariants as reason
use Rattle.kernel_model.specs.State.{event}
use Rattle.serial_run.specs.declared.halt.Halt.{Halt}
use Rattle.serial_run.specs.declared.halt.Halt.TheVariants as halt
use Rattle.serial_run.specs.Placing.{ElementLayout, TellsWords}
use Rattle.serial_run.specs.Stepping.{Stand, Advances, HaltsSo, stand_left}
use Rattle.serial_team.specs.declared.member.Stage.TheVariants as stage
use Rattle.serial_team.specs.declared.stop.Stop.{Stop}
use Rattle.serial_team.specs.declared.stop.Stop.TheVariants as stop
use Rattle.serial_team.specs.Members.{Pool, pool_at, WholeLog, MemberValue, later, path_in, BeginTeam}
use Rattle.serial_team.specs.Running.{RanBelow, RanTo, DidPhase, DidRegion}
use Rattle.serial_team.specs.Stopping.{StopAt, LongAt, LaneStops, TeamGoes, PhasesStop, LaneLong, TeamLong, PhasesLong, bounded, LaneStopped, TeamWent, PhasesStopped, IfStopped, is_stopped, TellsHalt, RegionStopped, RegionLong, StopsBelow, LongBelow, StopsFrom, told_first}

-- ---- answers

pub stop_so : (P Q : StopAt → Type 0) (L M : LongAt → Type 0) (e : Stop) → ((first : StopAt) → P first → Q first) → ((long : LongAt) → L long → M long) → IfStopped P L e → IfStopped Q M e
stop_so P Q L M (stop.Stopped path line w) f g h = f (record { path = path; line = line; why = w }) h
stop_so P Q L M (stop.Long path number) f g h = g (record { path = path; number = number }) h
stop_so P Q L M stop.Memory f g h = tt

-- the same elements, where the whole run bounds a task
pub tells_bounded : (arrays : List Array) (layout : ElementLayout) → TellsWords arrays layout → TellsWords arrays (bounded layout)
tells_bounded arrays layout tells = record { count = tells.count; word = tells.word; address = tells.address; width = tells.width }

module _ (layout : ElementLayout) (path : List Step) where
  -- a task that stops of itself
  pub halts_so : (x : MemberValue) (y : Stand) (h : Halt) (e : Stop) → TellsHalt path y.progress.count h e → HaltsSo layout (stand_left x.stand) x.stand y h → HaltsSo (bounded layout) (stand_left x.stand) x.stand y h
      → IfStopped (LaneStopped layout path x (pool_at y)) (LaneLong layout path x) e
  halts_so x y (halt.Stops why line) e tells m b = subst (IfStopped (LaneStopped layout path x (pool_at y)) (LaneLong layout path x)) (sym tells) (record { work = _; stops = LaneStops.halts path x y.slots y.progress why line m })
  halts_so x y halt.Long e tells m b =
      let due = b.due refl in
      subst (IfStopped (LaneStopped layout path x (pool_at y)) (LaneLong layout path x)) (sym (tells m.below)) (LaneLong.at_record path x y.slots y.progress due.0 due.1 b.none b.below)
  halts_so x y halt.Refused e tells m b = subst (IfStopped (LaneStopped layout path x (pool_at y)) (LaneLong layout path x)) (sym tells) tt
  halts_so x y halt.Memory e tells m b = subst (IfStopped (LaneStopped layout path x (pool_at y)) (LaneLong layout path x)) (sym tells) tt

  pub stops_more : (x y z : MemberValue) → StopsFrom layout path x y → StopsFrom layout path y z → StopsFrom layout path x z
  stops_more x y z one more = record { stops = λ p first s. one.stops p first (more.stops p first s); runs_out = λ long l. one.runs_out long (more.runs_out long l) }

  -- a region that stopped
  module _ (x : MemberValue) (team : TeamTree) (arrays : List Array) (own : x.stand.at.arrays ≡ arrays) (deep : length path < 4) (p : Pool) where
    pub stops_in_region : (first : StopAt) → RegionStopped layout arrays team x.stand.slots path x.forked (pool_at x.stand) p first → StopsBelow layout path team x p first
    stops_in_region first r w a = record {
      work = _;
      stops =
          LaneStops.in_region path (record x { stand = w }) x.stand team r.before p r.stopped.phases first a deep
          (subst (λ (l : List Array). BeginTeam l team x.stand.slots r.before) (sym own) r.begin) r.stopped.stops;
    }

    pub long_in_region : (long : LongAt) → RegionLong layout arrays team x.stand.slots path x.forked (pool_at x.stand) long → LongBelow layout path team x long
    long_in_region long r w a =
        LaneLong.in_lanes path (record x { stand = w }) x.stand team r.before long a deep (subst (λ (l : List Array). BeginTeam l team x.stand.slots r.before) (sym own) r.begin) r.runs_out

    pub stops_too_many : (logs : List WholeLog) → DidRegion layout arrays team x.stand.slots path x.forked (pool_at x.stand) p x.below logs → task_limit < length logs
        → StopsBelow layout path team x p (record { path = path; line = team.line; why = reason.Tasks })
    stops_too_many logs r many w a = record {
      work = _;
      stops =
          LaneStops.too_many path (record x { stand = w }) x.stand team r.before r.after p r.ran.phases a deep
          (subst (λ (l : List Array). BeginTeam l team x.stand.slots r.before) (sym own) r.begin) r.ran.runs
          (subst (λ (l : List WholeLog). task_limit < length l) r.logs many);
    }

  -- a task that goes on past a region
  module _ (x : MemberValue) (s : Stand) (team : TeamTree) (z : MemberValue) (arrays : List Array) (below : RanBelow layout path team arrays (record x { stand = s }) z) where
    pub stops_past_region : s.at.arrays ≡ arrays → Advances layout x.stand s (event kind.Region team.line 0 team.span ∷ []) (record { team = team; slots = s.slots } ∷ []) → StopsFrom layout path x z
    stops_past_region own a = record {
      stops = λ p first r. record {
        work = _;
        stops =
            LaneStops.onward path x s team below.region.before below.region.after (pool_at z.stand) p below.region.ran.phases r.work first a below.deep
            (subst (λ (l : List Array). BeginTeam l team s.slots below.region.before) (sym own) below.region.begin) below.region.ran.runs
            (subst (λ (l : List WholeLog). length l ≤ task_limit) below.region.logs below.few)
            (subst (λ (l : List WholeLog). LaneStops layout path (later (record x { stand = s; forked = x.forked + 1; below = l }) (pool_at z.stand)) r.work p first) below.region.logs
            (subst (λ (v : MemberValue). LaneStops layout path v r.work p first) below.is r.stops));
      };
      runs_out = λ long l.
          LaneLong.past_lanes path x s team below.region.before below.region.after (pool_at z.stand) below.region.ran.phases long a below.deep
          (subst (λ (l : List Array). BeginTeam l team s.slots below.region.before) (sym own) below.region.begin) below.region.ran.runs
          (subst (λ (l : List WholeLog). length l ≤ task_limit) below.region.logs below.few)
          (subst (λ (l : List WholeLog). LaneLong layout path (later (record x { stand = s; forked = x.forked + 1; below = l }) (pool_at z.stand)) long) below.region.logs
          (subst (λ (v : MemberValue). LaneLong layout path v long) below.is l));
    }

pub told_is_err : (told : Result (Unit {0}) Stop) (e : Stop) → IsErr (told_first told e)
told_is_err (Ok u) e = refl
told_is_err (Err earlier) e = refl

-- ---- a phase

-- the first of two stops, if any
abbrev pub or_first : Option StopAt → Option StopAt → Option StopAt
or_first None later = later
or_first (Some first) later = Some first

-- the lanes from here on are left of a phase, of which those before it went so
pub record TeamFrom (layout : ElementLayout) (at : List Step) (number : ℕ) (xs left : List MemberValue) (p q : Pool) (told : Option StopAt) : Type 0 where
  pub then' : (r : Pool) (first : Option StopAt) → TeamWent layout at number left q r first → TeamWent layout at number xs p r (or_first told first)

-- by what was told
abbrev pub TeamFromSo : ElementLayout → List Step → ℕ → List MemberValue → List MemberValue → Pool → Pool → Result (Unit {0}) Stop → Type 0
TeamFromSo layout at number xs left p q (Ok _) = TeamFrom layout at number xs left p q None
TeamFromSo layout at number xs left p q (Err e) = IfStopped (λ first. TeamFrom layout at number xs left p q (Some first)) (λ _. ⊥) e

-- the lanes from here on are left of a phase, which comes to one record too many if they do
pub record TeamLongFrom (layout : ElementLayout) (at : List Step) (number : ℕ) (xs left : List MemberValue) (p q : Pool) : Type 0 where
  pub then' : (long : LongAt) → TeamLong layout at number left q long → TeamLong layout at number xs p long

-- how far a phase came
pub record TeamCame (layout : ElementLayout) (at : List Step) (number : ℕ) (xs left : List MemberValue) (p q : Pool) (told : Result (Unit {0}) Stop) : Type 0 where
  pub goes : TeamFromSo layout at number xs left p q told
  pub runs_out : TeamLongFrom layout at number xs left p q

module _ (layout : ElementLayout) (at : List Step) (number : ℕ) where
  module _ (xs left : List MemberValue) (x : MemberValue) (p q : Pool) where
    -- one lane more ran, or stopped
    pub team_runs : (told : Option StopAt) (y : MemberValue) → TeamFrom layout at number xs (x ∷ left) p q told → RanTo layout (path_in at number x) (later x q) y
        → TeamFrom layout at number xs left p (pool_at y.stand) told
    team_runs told y from ran = record {
      then' = λ r first w. from.then' r first (record { works = _; goes = TeamGoes.runs at number x y left q r ran.work w.works first ran.runs w.goes });
    }

    pub team_stops : (told : Option StopAt) (now : Pool) (stopped : StopAt) → TeamFrom layout at number xs (x ∷ left) p q told → LaneStopped layout (path_in at number x) (later x q) now stopped
        → TeamFrom layout at number xs left p now (or_first told (Some stopped))
    team_stops None now stopped from s = record {
      then' = λ r first w. from.then' r (Some stopped) (record { works = _; goes = TeamGoes.stops at number x left q now r s.work w.works stopped first s.stops w.goes });
    }
    team_stops (Some earlier) now stopped from s = record {
      then' = λ r first w. from.then' r (Some stopped) (record { works = _; goes = TeamGoes.stops at number x left q now r s.work w.works stopped first s.stops w.goes });
    }

    so_runs : (told : Result (Unit {0}) Stop) (y : MemberValue) → TeamFromSo layout at number xs (x ∷ left) p q told → RanTo layout (path_in at number x) (later x q) y
        → TeamFromSo layout at number xs left p (pool_at y.stand) told
    so_runs (Ok _) y from ran = team_runs None y from ran
    so_runs (Err e) y from ran =
        stop_so (λ first. TeamFrom layout at number xs (x ∷ left) p q (Some first)) (λ first. TeamFrom layout at number xs left p (pool_at y.stand) (Some first)) (λ _. ⊥) (λ _. ⊥) e
        (λ first f. team_runs (Some first) y f ran) (λ long l. l) from

    so_stops : (told : Result (Unit {0}) Stop) (now : Pool) (e : Stop) → TeamFromSo layout at number xs (x ∷ left) p q told → IfStopped (LaneStopped layout (path_in at number x) (later x q) now) (LaneLong layout (path_in at number x) (later x q)) e
        → is_stopped e ≡ true → TeamFromSo layout at number xs left p now (told_first told e)
    so_stops (Ok _) now (stop.Stopped path line w) from s stopped = team_stops None now (record { path = path; line = line; why = w }) from s
    so_stops (Ok _) now (stop.Long path n) from s stopped = cc
    so_stops (Ok _) now stop.Memory from s stopped = cc
    so_stops (Err (stop.Stopped path line w)) now (stop.Stopped later_path later_line v) from s stopped =
        team_stops (Some (record { path = path; line = line; why = w })) now (record { path = later_path; line = later_line; why = v }) from s
    so_stops (Err (stop.Stopped path line w)) now (stop.Long later_path n) from s stopped = cc
    so_stops (Err (stop.Stopped path line w)) now stop.Memory from s stopped = cc
    so_stops (Err (stop.Long path n)) now e from s stopped = absurd from
    so_stops (Err stop.Memory) now e from s stopped = tt

    -- one lane more ran
    pub came_runs : (told : Result (Unit {0}) Stop) (y : MemberValue) → TeamCame layout at number xs (x ∷ left) p q told → RanTo layout (path_in at number x) (later x q) y
        → TeamCame layout at number xs left p (pool_at y.stand) told
    came_runs told y came ran = record {
      goes = so_runs told y came.goes ran;
      runs_out = record { then' = λ long l. came.runs_out.then' long (TeamLong.past_run at number x y left q ran.work long ran.runs l) };
    }

    past_stop : (now : Pool) (e : Stop) → TeamLongFrom layout at number xs (x ∷ left) p q → IfStopped (LaneStopped layout (path_in at number x) (later x q) now) (LaneLong layout (path_in at number x) (later x q)) e
        → is_stopped e ≡ true → TeamLongFrom layout at number xs left p now
    past_stop now (stop.Stopped path line w) from s stopped = record {
      then' = λ long l. from.then' long (TeamLong.past_stop at number x left q now s.work (record { path = path; line = line; why = w }) long s.stops l);
    }
    past_stop now (stop.Long path n) from s stopped = cc
    past_stop now stop.Memory from s stopped = cc

    -- or stopped
    pub came_stops : (told : Result (Unit {0}) Stop) (now : Pool) (e : Stop) → TeamCame layout at number xs (x ∷ left) p q told
        → IfStopped (LaneStopped layout (path_in at number x) (later x q) now) (LaneLong layout (path_in at number x) (later x q)) e → is_stopped e ≡ true → TeamCame layout at number xs left p now (told_first told e)
    came_stops told now e came s stopped = record { goes = so_stops told now e came.goes s stopped; runs_out = past_stop now e came.runs_out s stopped }

    -- or comes to one record too many
    pub long_here : (now : Pool) (e : Stop) (P : StopAt → Type 0) → TeamLongFrom layout at number xs (x ∷ left) p q → IfStopped (LaneStopped layout (path_in at number x) (later x q) now) (LaneLong layout (path_in at number x) (later x q)) e
        → is_stopped e ≡ false → IfStopped P (TeamLong layout at number xs p) e
    long_here now (stop.Stopped path line w) P from s other = cc
    long_here now (stop.Long path n) P from s other = from.then' (record { path = path; number = n }) (TeamLong.in_lane at number x left q (record { path = path; number = n }) s)
    long_here now stop.Memory P from s other = tt

  pub so_ends : (xs : List MemberValue) (p q : Pool) (told : Result (Unit {0}) Stop) → TeamFromSo layout at number xs [] p q told → IfErr told (λ e. IfStopped (λ first. TeamWent layout at number xs p q (Some first)) (TeamLong layout at number xs p) e)
  so_ends xs p q (Ok _) from = tt
  so_ends xs p q (Err (stop.Stopped path line w)) from = from.then' q None (record { works = []; goes = TeamGoes.no_lane at number q })
  so_ends xs p q (Err (stop.Long path n)) from = absurd from
  so_ends xs p q (Err stop.Memory) from = tt

  -- ---- phases

  -- the lanes came to there, and stop from the first on as they do from there
  pub record PhasesStopFrom (xs : List MemberValue) (p : Pool) (ys : List MemberValue) (q : Pool) : Type 0 where
    pub stops : (r : Pool) (first : StopAt) → PhasesStopped layout at number ys q r first → PhasesStopped layout at number xs p r first
    pub runs_out : (long : LongAt) → PhasesLong layout at number ys q long → PhasesLong layout at number xs p long

  pub phases_stop_more : (xs ys zs : List MemberValue) (p q r : Pool) → PhasesStopFrom xs p ys q → DidPhase layout at number ys q zs r → All (λ (z : MemberValue). z.stage ≡ stage.Waits) zs → PhasesStopFrom xs p zs r
  phases_stop_more xs ys zs p q r from one wait = record {
    stops = λ s first stopped. from.stops s first (record { phases = _; stops = PhasesStop.next at number ys zs q r s one.works stopped.phases first one.runs wait stopped.stops });
    runs_out = λ long l. from.runs_out long (PhasesLong.past_phase at number ys zs q r one.works long one.runs wait l);
  }

  pub phases_stop_here : (xs ys : List MemberValue) (p q r : Pool) (e : Stop) → PhasesStopFrom xs p ys q → IfStopped (λ first. TeamWent layout at number ys q r (Some first)) (TeamLong layout at number ys q) e
      → IfStopped (PhasesStopped layout at number xs p r) (PhasesLong layout at number xs p) e
  phases_stop_here xs ys p q r e from =
      stop_so (λ first. TeamWent layout at number ys q r (Some first)) (PhasesStopped layout at number xs p r) (TeamLong layout at number ys q) (PhasesLong layout at number xs p) e
      (λ first w. from.stops r first (record { phases = _; stops = PhasesStop.here at number ys q r w.works first w.goes }))
      (λ long l. from.runs_out long (PhasesLong.in_phase at number ys q long l))
