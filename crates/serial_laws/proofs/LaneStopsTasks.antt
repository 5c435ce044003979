-- What the lanes of a machine do that stops, or would make a record too many, is the serial run of their tasks.
use Rattle.std.proofs.Common.{◌≡◌, refl, ap, sym, ◌∙◌, subst, ◌⊎◌, inl, inr, ℕ, ◌+◌, ◌<◌, ◌≤◌, List, [], ◌∷◌, ◌++◌, length, pos, Option, Some, None, arith, length-append}
use Rattle.std.specs.Prelude.{replicate}
use Rattle.std.proofs.lemmas.List.{append-nil}
use Rattle.sw_base.specs.declared.path.Step.{Step}
use Rattle.log_format.specs.Limit.{task_limit}
use Rattle.log_format.specs.declared.record.Record.{Record}
use Rattle.log_format.specs.declared.record.Kind.TheVariants as kind
use Rattle.kernel_syntax.specs.Program.{Program}
use Rattle.kernel_syntax.specs.Tree.{TeamTree}
use Rattle.kernel_model.specs.Lawful.{IsLawful}
use Rattle.kernel_model.specs.State as model
use Rattle.kernel_model.specs.State.{event}
use Rattle.kernel_model.specs.declared.stop.StopWhy.TheVariants.{Tasks}
use Rattle.history_model.specs.Work.{Work, Phases}
use Rattle.execution_model.specs.Execution.{BeginsTrace}
use Rattle.certainty_model.specs.Certain.{IsFixed}
use Rattle.serial_run.proofs.Coming.{stop_as_told}
use Rattle.serial_run.specs.Going.{SerialProgress, ArePlain, Finds}
use Rattle.serial_run.specs.Placing.{OfLog, ElementLayout, TellsWords}
use Rattle.serial_run.specs.Stepping.{Stand, Advances}
use Rattle.serial_steps.specs.Lanes.{Shared, SerialTask, tasks_of, after_record, lanes_of, past_lanes, Still, IsTooLong, told, TaskGoes, PhaseGoes, RegionGoes}
use Rattle.serial_team.proofs.Going.{lane_at}
use Rattle.serial_team.specs.Members.{Pool, pool_at, MemberValue, later, path_in, BeginTeam}
use Rattle.serial_team.specs.Running.{past_region, LaneRuns, TeamRuns, PhasesRun}
use Rattle.serial_team.specs.Stopping.{StopAt, LongAt, LaneStops, TeamGoes, PhasesStop, LaneLong, TeamLong, PhasesLong, RootStopped, RootLong}
use Rattle.serial_laws.specs.SerialRuns.{ComesSerially}
use Rattle.serial_laws.proofs.Lanes.{with_records, after_records, left_after, records_stand, accesses_go}
use Rattle.serial_laws.proofs.LaneTasks.{Each, IsTask, CameTo, Shares, Ready, StillSo, RegionWent, later_is, later_came, before_mark, starts_so, all_ready, still_short, t', s', forks_next, lanes_begin, at_mark, past_is, past_came, below_count, lane_went, team_went, phases_went, is_placed, zeros, root_task, begin_shares}
use Rattle.serial_laws.proofs.TooLong.{has_more, finds_alike}
use Rattle.serial_laws.proofs.Traced.{fork_at, team_length}

-- ---- what is told of lanes

abbrev stop_of : StopAt → Still
stop_of first = Still.stopped first.path first.line first.why

abbrev long_of : LongAt → Still
long_of long = Still.too_long long.path long.number

-- the first stop is told, if any, and no record too many
abbrev FirstIs : Option StopAt → Still → Type 0
FirstIs None end = IsTooLong end → ⊥
FirstIs (Some first) end = end ≡ stop_of first

first_short : (first : Option StopAt) (end : Still) → FirstIs first end → IsTooLong end → ⊥
first_short None end is long = is long
first_short (Some first) end is long = subst IsTooLong is long

-- a stop is told before what is told of the others
stop_first : (first : StopAt) (others : Still) → (IsTooLong others → ⊥) → told (stop_of first) others ≡ stop_of first
stop_first first Still.at_barrier short = refl
stop_first first Still.at_end short = refl
stop_first first (Still.stopped path line why) short = refl
stop_first first (Still.too_long path number) short = absurd (short tt)

past_barrier : (first : Option StopAt) (others : Still) → FirstIs first others → FirstIs first (told Still.at_barrier others)
past_barrier None Still.at_barrier is = λ long. long
past_barrier None Still.at_end is = λ long. long
past_barrier None (Still.stopped path line why) is = λ long. long
past_barrier None (Still.too_long path number) is = absurd (is tt)
past_barrier (Some first) others is = ap (λ (e : Still). told Still.at_barrier e) is

past_end : (first : Option StopAt) (others : Still) → FirstIs first others → FirstIs first (told Still.at_end others)
past_end None Still.at_barrier is = λ long. long
past_end None Still.at_end is = λ long. long
past_end None (Still.stopped path line why) is = λ long. long
past_end None (Still.too_long path number) is = absurd (is tt)
past_end (Some first) others is = ap (λ (e : Still). told Still.at_end e) is

module _ (layout : ElementLayout) (by_log : layout.bound ≡ OfLog) (program : Program) (placed : (w : ℕ) → w < layout.count → layout.words.word (layout.words.address w) ≡ w) where
  -- a task, the lanes of a team in a phase, and those in all phases go on to this end, and so leave what all share
  pub record TaskTo (P : Shared → Type 0) (t : SerialTask) (s : Shared) (end : Still) : Type 0 where
    pub u : SerialTask
    pub p : Shared
    pub goes : TaskGoes program t s u p end
    pub leaves : P p

  pub record LanesTo (P : Shared → Type 0) (ts : List SerialTask) (s : Shared) (end : Still) : Type 0 where
    pub us : List SerialTask
    pub p : Shared
    pub goes : PhaseGoes program ts s us p end
    pub leaves : P p

  pub record RegionTo (P : Shared → Type 0) (ts : List SerialTask) (s : Shared) (end : Still) : Type 0 where
    pub us : List SerialTask
    pub p : Shared
    pub goes : RegionGoes program ts s us p end
    pub leaves : P p

  abbrev pub Leaves : Pool → Shared → Type 0
  Leaves q p = Shares layout by_log program placed q p

  -- ---- accesses, and then this

  module _ (x : MemberValue) (t : SerialTask) (s : Shared) (i : IsTask layout by_log program placed x t) (shares : Leaves (pool_at x.stand) s) (last : SerialProgress) (rs : List Record) (plain : ArePlain rs)
      (finds : Finds layout rs x.stand.progress.words last.words) (left : last.left + length rs ≡ x.stand.progress.left) where
    makes_all : (P : Shared → Type 0) (end : Still) → BeginsTrace program t.start (t.records ++ rs) → TaskTo P (with_records t rs) (after_records s rs) end → TaskTo P t s end
    makes_all P end begun to = record {
      u = to.u;
      p = to.p;
      goes =
          accesses_go layout placed program rs [] t to.u s to.p end x.stand.progress.words last.words i.fixed
          (subst (λ (l : List Record). BeginsTrace program t.start (t.records ++ l)) (sym (append-nil rs)) begun) plain finds shares.stands (omega (arith, left, shares.left)) to.goes;
      leaves = to.leaves;
    }

    shares_then : Leaves (record { words = last.words; left = last.left }) (after_records s rs)
    shares_then = record {
      stands = records_stand layout placed rs s x.stand.progress.words last.words plain finds shares.stands;
      left = omega (arith, left_after s rs, left, shares.left);
    }

  -- ---- a region, and then this

  module _ (path : List Step) (x : MemberValue) (y : Stand) (team : TeamTree) (t : SerialTask) (s : Shared) (same : t.path ≡ path) (i : IsTask layout by_log program placed x t) (c : CameTo layout by_log program placed x t)
      (shares : Leaves (pool_at x.stand) s) (a : Advances layout x.stand y (event kind.Region team.line 0 team.span ∷ []) (fork_at team y.slots ∷ [])) where
    abbrev r : Record
    r = event kind.Region team.line 0 team.span

    abbrev fork : model.Fork
    fork = fork_at team y.slots

    abbrev one : SerialTask
    one = t' layout by_log program placed path x y team t s same i c shares a

    abbrev here : Shared
    here = s' layout by_log program placed path x y team t s same i c shares a

    at_region : (P : Shared → Type 0) (end : Still) → TaskTo P one here end → TaskTo P t s end
    at_region P end to = record {
      u = to.u;
      p = to.p;
      goes = before_mark layout by_log program placed x t s i shares r y.progress a.makes (λ words. refl) to.u to.p end
          (forks_next layout by_log program placed path x y team t s same i c shares a).makes.begun to.goes;
      leaves = to.leaves;
    }

    breaks_so : (P : Shared → Type 0) (end : Still) → RegionTo P (lanes_of one fork) (after_record here r) end → (end ≡ Still.at_end → ⊥) → TaskTo P t s end
    breaks_so P end to stops = at_region P end (record {
      u = past_lanes one r to.us;
      p = to.p;
      goes = TaskGoes.breaks one here to.p r fork to.us end (forks_next layout by_log program placed path x y team t s same i c shares a) to.goes stops;
      leaves = to.leaves;
    })

    passes_so : (P : Shared → Type 0) (end : Still) (ys : List MemberValue) (q : Pool) (w : RegionWent layout by_log program placed path x.forked ys q (lanes_of one fork) (after_record here r)) → length (past_region path x y ys q).below ≤ task_limit
        → TaskTo P (past_lanes one r w.us) w.p end → TaskTo P t s end
    passes_so P end ys q w few to = at_region P end (record {
      u = to.u;
      p = to.p;
      goes = TaskGoes.passes one to.u here w.p to.p r fork w.us end (forks_next layout by_log program placed path x y team t s same i c shares a) w.goes
          (subst (λ (n : ℕ). n ≤ task_limit) (below_count layout by_log program placed path x y team t s same i c shares a ys q w.us w.are) few) to.goes;
      leaves = to.leaves;
    })

    -- the region ran
    region_went : (xs ys : List MemberValue) (q : Pool) (phases : Phases) → BeginTeam y.at.arrays team y.slots xs → PhasesRun layout path x.forked xs (pool_at y) phases ys q
        → RegionWent layout by_log program placed path x.forked ys q (lanes_of one fork) (after_record here r)
    region_went xs ys q phases begin runs =
        phases_went layout by_log program placed path x.forked xs (pool_at y) phases ys q runs (lanes_of one fork) (after_record here r) (omega (arith, begin.some, begin.count))
        (lanes_begin layout by_log program placed path x y team t s same i c shares a xs begin) (at_mark layout by_log program placed path x y team t s same i c shares a)

  -- ---- the lanes of a phase

  -- the lanes wait at a barrier, and then go on
  next_phase : (P : Shared → Type 0) (ts us : List SerialTask) (s p : Shared) (end : Still) → PhaseGoes program ts s us p Still.at_barrier → RegionTo P us p end → RegionTo P ts s end
  next_phase P ts us s p end goes to = record { us = to.us; p = to.p; goes = RegionGoes.next ts us to.us s p to.p end goes to.goes; leaves = to.leaves }

  -- the others of the lanes, if any
  data Others (q : Pool) : List SerialTask → Shared → Option StopAt → Type 0 where
    no_other : (s : Shared) → Leaves q s → Others q [] s None
    others : (ts : List SerialTask) (s : Shared) (first : Option StopAt) (end : Still) → LanesTo (Leaves q) ts s end → FirstIs first end → Others q ts s first

  -- a lane goes on before them
  one_more : (t : SerialTask) (ts : List SerialTask) (s p : Shared) (q : Pool) (u : SerialTask) (end : Still) (first both : Option StopAt) → TaskGoes program t s u p end → (IsTooLong end → ⊥)
      → (first ≡ None → FirstIs both end) → ((rest : Still) → FirstIs first rest → FirstIs both (told end rest)) → Others q ts p first → Others q (t ∷ ts) s both
  one_more t _ s _ q u end _ both goes short alone then' (Others.no_other p shares) =
      Others.others (t ∷ []) s both end (record { us = u ∷ []; p = p; goes = PhaseGoes.last t u s p end goes; leaves = shares }) (alone refl)
  one_more t _ s _ q u end _ both goes short alone then' (Others.others ts p first rest to is) =
      Others.others (t ∷ ts) s both (told end rest) (record { us = u ∷ to.us; p = to.p; goes = PhaseGoes.lane t u ts to.us s p to.p end rest goes short to.goes; leaves = to.leaves }) (then' rest is)

  past_still : (z : MemberValue) (u : SerialTask) (end : Still) → StillSo layout by_log program placed z u end → (first : Option StopAt) (rest : Still) → FirstIs first rest → FirstIs first (told end rest)
  past_still z u end (inl (waits, is, came)) first rest so = subst (λ (e : Still). FirstIs first (told e rest)) (sym is) (past_barrier first rest so)
  past_still z u end (inr (ended, is)) first rest so = subst (λ (e : Still). FirstIs first (told e rest)) (sym is) (past_end first rest so)

  alone_still : (first : Option StopAt) (end : Still) → (IsTooLong end → ⊥) → first ≡ None → FirstIs first end
  alone_still None end short is = short
  alone_still (Some first) end short is = absurd cc

  the_stop : (q : Pool) (ts : List SerialTask) (s : Shared) (first : StopAt) → Others q ts s (Some first) → LanesTo (Leaves q) ts s (stop_of first)
  the_stop q _ _ _ (Others.others ts s (Some first) end to is) = subst (λ (e : Still). LanesTo (Leaves q) ts s e) is to

  -- ---- runs that stop

  mutual
    lane_stops : (path : List Step) (x : MemberValue) (work : Work) (q : Pool) (first : StopAt) → LaneStops layout path x work q first → (t : SerialTask) (s : Shared) → t.path ≡ path
        → IsTask layout by_log program placed x t → CameTo layout by_log program placed x t → Leaves (pool_at x.stand) s → TaskTo (Leaves q) t s (stop_of first)
    lane_stops _ _ _ _ _ (LaneStops.halts path x slots last w line m) t s same i c shares =
        let traced = (stop_as_told layout program t.start c.first x.stand t.records c.forks slots last w line by_log c.begun c.come m).0 in
        subst (λ (at : List Step). TaskTo (Leaves (record { words = last.words; left = last.left })) t s (Still.stopped at line w)) same
        (makes_all x t s i shares last m.added m.plain m.gains.finds m.gains.left (Leaves (record { words = last.words; left = last.left })) (Still.stopped t.path line w)
        (record { rest = []; begins = traced.records_are ∙ sym (append-nil (t.records ++ m.added)) })
        (record {
          u = with_records t m.added;
          p = after_records s m.added;
          goes = TaskGoes.stops (with_records t m.added) (after_records s m.added) line w traced;
          leaves = shares_then x t s i shares last m.added m.plain m.gains.finds m.gains.left;
        }))
    lane_stops _ _ _ _ _ (LaneStops.in_region path x y team xs q phases first a less begin stops) t s same i c shares =
        breaks_so path x y team t s same i c shares a (Leaves q) (stop_of first)
        (phases_stop path x.forked xs (pool_at y) phases q first stops (lanes_of (t' layout by_log program placed path x y team t s same i c shares a) (fork_at team y.slots))
        (after_record (s' layout by_log program placed path x y team t s same i c shares a) (event kind.Region team.line 0 team.span)) (omega (arith, begin.some, begin.count))
        (lanes_begin layout by_log program placed path x y team t s same i c shares a xs begin) (at_mark layout by_log program placed path x y team t s same i c shares a))
        (λ is. cc)
    lane_stops _ _ _ _ _ (LaneStops.too_many path x y team xs ys q phases a less begin runs many) t s same i c shares =
        let one = t' layout by_log program placed path x y team t s same i c shares a in
        let here = s' layout by_log program placed path x y team t s same i c shares a in
        let r = event kind.Region team.line 0 team.span in
        let fork = fork_at team y.slots in
        let w = region_went path x y team t s same i c shares a xs ys q phases begin runs in
        subst (λ (at : List Step). TaskTo (Leaves q) t s (Still.stopped at team.line Tasks)) same
        (at_region path x y team t s same i c shares a (Leaves q) (Still.stopped t.path team.line Tasks)
        (record {
          u = past_lanes one r w.us;
          p = w.p;
          goes = TaskGoes.is_crowded one here w.p r fork w.us (forks_next layout by_log program placed path x y team t s same i c shares a) w.goes
              (subst (λ (n : ℕ). task_limit < n) (below_count layout by_log program placed path x y team t s same i c shares a ys q w.us w.are) many);
          leaves = w.shares;
        }))
    lane_stops _ _ _ _ _ (LaneStops.onward path x y team xs ys p q phases more first a less begin runs few next) t s same i c shares =
        let w = region_went path x y team t s same i c shares a xs ys p phases begin runs in
        passes_so path x y team t s same i c shares a (Leaves q) (stop_of first) ys p w few
        (lane_stops path (past_region path x y ys p) more q first next (past_lanes (t' layout by_log program placed path x y team t s same i c shares a) (event kind.Region team.line 0 team.span) w.us) w.p same
        (past_is layout by_log program placed path x y team t s same i c shares a ys p w.us w.are)
        (past_came layout by_log program placed path x y team t s same i c shares a ys p w.us w.are) w.shares)

    team_stops : (at : List Step) (number : ℕ) (xs : List MemberValue) (p : Pool) (works : List Work) (q : Pool) (first : Option StopAt) → TeamGoes layout at number xs p works q first
        → (ts : List SerialTask) (s : Shared) → Each (Ready layout by_log program placed at number) xs ts → Leaves p s → Others q ts s first
    team_stops _ _ _ _ _ _ _ (TeamGoes.no_lane at number p) [] s ready shares = Others.no_other s shares
    team_stops _ _ _ _ _ _ _ (TeamGoes.no_lane at number p) (t ∷ ts) s ready shares = absurd ready
    team_stops _ _ _ _ _ _ _ (TeamGoes.runs at number x y xs p q work works first l rest) [] s ready shares = absurd ready
    team_stops _ _ _ _ _ _ _ (TeamGoes.runs at number x y xs p q work works first l rest) (t ∷ ts) s ready shares =
        let one = lane_went layout by_log program placed (path_in at number x) (later x p) work y l t s ready.0.0.path (later_is layout by_log program placed x t p ready.0.0.is) (later_came layout by_log program placed x t p ready.0.1) shares in
        let short = still_short layout by_log program placed y one.u one.end one.still in
        one_more t ts s one.q q one.u one.end first first one.goes short (alone_still first one.end short) (past_still y one.u one.end one.still first)
        (team_stops at number xs (pool_at y.stand) works q first rest ts one.q ready.1 one.shares)
    team_stops _ _ _ _ _ _ _ (TeamGoes.stops at number x xs p q r work works first other l rest) [] s ready shares = absurd ready
    team_stops _ _ _ _ _ _ _ (TeamGoes.stops at number x xs p q r work works first other l rest) (t ∷ ts) s ready shares =
        let one = lane_stops (path_in at number x) (later x p) work q first l t s ready.0.0.path (later_is layout by_log program placed x t p ready.0.0.is) (later_came layout by_log program placed x t p ready.0.1) shares in
        one_more t ts s one.p r one.u (stop_of first) other (Some first) one.goes (λ long. long) (λ none. refl) (λ end is. stop_first first end (first_short other end is))
        (team_stops at number xs q works r other rest ts one.p ready.1 one.leaves)

    phases_stop : (at : List Step) (number : ℕ) (xs : List MemberValue) (p : Pool) (phases : Phases) (q : Pool) (first : StopAt) → PhasesStop layout at number xs p phases q first
        → (ts : List SerialTask) (s : Shared) → 1 ≤ length xs → Each (Ready layout by_log program placed at number) xs ts → Leaves p s → RegionTo (Leaves q) ts s (stop_of first)
    phases_stop _ _ _ _ _ _ _ (PhasesStop.here at number xs p q works first goes) ts s many ready shares =
        let to = the_stop q ts s first (team_stops at number xs p works q (Some first) goes ts s ready shares) in
        record { us = to.us; p = to.p; goes = RegionGoes.over ts to.us s to.p (stop_of first) to.goes (λ is. cc); leaves = to.leaves }
    phases_stop _ _ _ _ _ _ _ (PhasesStop.next at number xs ys p q r works phases first runs all more) ts s many ready shares =
        let w = team_went layout by_log program placed at number xs p works ys q runs ts s many ready shares in
        let wait = w.waits all in
        let to = phases_stop at number ys q phases r first more w.us w.p (omega (arith, many, team_length layout at number xs p works ys q runs)) (all_ready layout by_log program placed at number ys w.us w.are wait.0) w.shares in
        next_phase (Leaves r) ts w.us s w.p (stop_of first) (subst (λ (e : Still). PhaseGoes program ts s w.us w.p e) wait.1 w.goes) to

  -- ---- runs with a record too many

  abbrev Anything : Shared → Type 0
  Anything s = Unit {0}

  long_lane : (t : SerialTask) (ts : List SerialTask) (s : Shared) (long : LongAt) → TaskTo Anything t s (long_of long) → LanesTo Anything (t ∷ ts) s (long_of long)
  long_lane t [] s long to = record { us = to.u ∷ []; p = to.p; goes = PhaseGoes.last t to.u s to.p (long_of long) to.goes; leaves = tt }
  long_lane t (v ∷ ts) s long to = record { us = to.u ∷ v ∷ ts; p = to.p; goes = PhaseGoes.no_more t to.u v ts s to.p (long_of long) to.goes tt; leaves = tt }

  still_then : (z : MemberValue) (u : SerialTask) (end : Still) → StillSo layout by_log program placed z u end → (long : LongAt) → told end (long_of long) ≡ long_of long
  still_then z u end (inl (waits, is, came)) long = ap (λ (e : Still). told e (long_of long)) is
  still_then z u end (inr (ended, is)) long = ap (λ (e : Still). told e (long_of long)) is

  mutual
    lane_long : (path : List Step) (x : MemberValue) (long : LongAt) → LaneLong layout path x long → (t : SerialTask) (s : Shared) → t.path ≡ path
        → IsTask layout by_log program placed x t → CameTo layout by_log program placed x t → Leaves (pool_at x.stand) s → TaskTo Anything t s (long_of long)
    lane_long _ _ _ (LaneLong.at_record path x slots last line m none below) t s same i c shares =
        let finds = finds_alike layout m.added x.stand.progress.words last.words m.gains.finds in
        let h = has_more layout by_log program t c.first x.stand c.forks c.begun c.come slots last line m none below in
        let count : length (t.records ++ m.added) ≡ last.count = omega (arith, length-append t.records m.added, m.gains.count, i.count) in
        subst (λ (at : List Step). TaskTo Anything t s (Still.too_long at (last.count + 1))) same
        (subst (λ (n : ℕ). TaskTo Anything t s (Still.too_long t.path (n + 1))) count
        (makes_all x t s i shares last m.added m.plain finds m.gains.left Anything (Still.too_long t.path (length (t.records ++ m.added) + 1)) (record { rest = h.more; begins = h.begins })
        (record {
          u = with_records t m.added;
          p = after_records s m.added;
          goes = TaskGoes.would_make (with_records t m.added) (after_records s m.added) h (sym (shares_then x t s i shares last m.added m.plain finds m.gains.left).left ∙ none);
          leaves = tt;
        })))
    lane_long _ _ _ (LaneLong.in_lanes path x y team xs long a less begin runs_out) t s same i c shares =
        breaks_so path x y team t s same i c shares a Anything (long_of long)
        (phases_long path x.forked xs (pool_at y) long runs_out (lanes_of (t' layout by_log program placed path x y team t s same i c shares a) (fork_at team y.slots))
        (after_record (s' layout by_log program placed path x y team t s same i c shares a) (event kind.Region team.line 0 team.span)) (omega (arith, begin.some, begin.count))
        (lanes_begin layout by_log program placed path x y team t s same i c shares a xs begin) (at_mark layout by_log program placed path x y team t s same i c shares a))
        (λ is. cc)
    lane_long _ _ _ (LaneLong.past_lanes path x y team xs ys p phases long a less begin runs few next) t s same i c shares =
        let w = region_went path x y team t s same i c shares a xs ys p phases begin runs in
        passes_so path x y team t s same i c shares a Anything (long_of long) ys p w few
        (lane_long path (past_region path x y ys p) long next (past_lanes (t' layout by_log program placed path x y team t s same i c shares a) (event kind.Region team.line 0 team.span) w.us) w.p same
        (past_is layout by_log program placed path x y team t s same i c shares a ys p w.us w.are) (past_came layout by_log program placed path x y team t s same i c shares a ys p w.us w.are) w.shares)

    team_long : (at : List Step) (number : ℕ) (xs : List MemberValue) (p : Pool) (long : LongAt) → TeamLong layout at number xs p long
        → (ts : List SerialTask) (s : Shared) → Each (Ready layout by_log program placed at number) xs ts → Leaves p s → LanesTo Anything ts s (long_of long)
    team_long _ _ _ _ _ (TeamLong.in_lane at number x xs p long l) [] s ready shares = absurd ready
    team_long _ _ _ _ _ (TeamLong.in_lane at number x xs p long l) (t ∷ ts) s ready shares =
        long_lane t ts s long (lane_long (path_in at number x) (later x p) long l t s ready.0.0.path (later_is layout by_log program placed x t p ready.0.0.is) (later_came layout by_log program placed x t p ready.0.1) shares)
    team_long _ _ _ _ _ (TeamLong.past_run at number x y xs p work long l rest) [] s ready shares = absurd ready
    team_long _ _ _ _ _ (TeamLong.past_run at number x y xs p work long l rest) (t ∷ ts) s ready shares =
        let one = lane_went layout by_log program placed (path_in at number x) (later x p) work y l t s ready.0.0.path (later_is layout by_log program placed x t p ready.0.0.is) (later_came layout by_log program placed x t p ready.0.1) shares in
        let to = team_long at number xs (pool_at y.stand) long rest ts one.q ready.1 one.shares in
        subst (λ (e : Still). LanesTo Anything (t ∷ ts) s e) (still_then y one.u one.end one.still long)
        (record { us = one.u ∷ to.us; p = to.p; goes = PhaseGoes.lane t one.u ts to.us s one.q to.p one.end (long_of long) one.goes (still_short layout by_log program placed y one.u one.end one.still) to.goes; leaves = tt })
    team_long _ _ _ _ _ (TeamLong.past_stop at number x xs p q work first long l rest) [] s ready shares = absurd ready
    team_long _ _ _ _ _ (TeamLong.past_stop at number x xs p q work first long l rest) (t ∷ ts) s ready shares =
        let one = lane_stops (path_in at number x) (later x p) work q first l t s ready.0.0.path (later_is layout by_log program placed x t p ready.0.0.is) (later_came layout by_log program placed x t p ready.0.1) shares in
        let to = team_long at number xs q long rest ts one.p ready.1 one.leaves in
        record { us = one.u ∷ to.us; p = to.p; goes = PhaseGoes.lane t one.u ts to.us s one.p to.p (stop_of first) (long_of long) one.goes (λ is. is) to.goes; leaves = tt }

    phases_long : (at : List Step) (number : ℕ) (xs : List MemberValue) (p : Pool) (long : LongAt) → PhasesLong layout at number xs p long
        → (ts : List SerialTask) (s : Shared) → 1 ≤ length xs → Each (Ready layout by_log program placed at number) xs ts → Leaves p s → RegionTo Anything ts s (long_of long)
    phases_long _ _ _ _ _ (PhasesLong.in_phase at number xs p long runs_out) ts s many ready shares =
        let to = team_long at number xs p long runs_out ts s ready shares in
        record { us = to.us; p = to.p; goes = RegionGoes.over ts to.us s to.p (long_of long) to.goes (λ is. cc); leaves = tt }
    phases_long _ _ _ _ _ (PhasesLong.past_phase at number xs ys p q works long runs all more) ts s many ready shares =
        let w = team_went layout by_log program placed at number xs p works ys q runs ts s many ready shares in
        let wait = w.waits all in
        next_phase Anything ts w.us s w.p (long_of long) (subst (λ (e : Still). PhaseGoes program ts s w.us w.p e) wait.1 w.goes)
        (phases_long at number ys q long more w.us w.p (omega (arith, many, team_length layout at number xs p works ys q runs)) (all_ready layout by_log program placed at number ys w.us w.are wait.0) w.shares)

-- ---- the root

module _ (layout : ElementLayout) (by_log : layout.bound ≡ OfLog) (program : Program) (lawful : IsLawful program) (fixed : IsFixed program.main.body) (tells : TellsWords program.arrays layout) (left : ℕ) where
  abbrev is_there : (w : ℕ) → w < layout.count → layout.words.word (layout.words.address w) ≡ w
  is_there = is_placed layout by_log program lawful fixed tells left

  abbrev nothing : Pool
  nothing = zeros layout by_log program lawful fixed tells left

  abbrev root : SerialTask
  root = root_task layout by_log program lawful fixed tells left

  abbrev start : Shared
  start = record { memory = λ addr. 0; left = left }

  comes_so : (P : Shared → Type 0) (end : Still) → TaskTo layout by_log program is_there P root start end → ComesSerially program left end
  comes_so P end to = record { tasks = tasks_of to.u; memory = to.p.memory; goes = record { root = to.u; left = to.p.left; goes = to.goes; tasks_are = refl } }

  pub root_stops : (first : StopAt) → RootStopped layout program left first → ComesSerially program left (Still.stopped first.path first.line first.why)
  root_stops first r =
      let so = starts_so layout by_log program is_there program.main (replicate program.slots (pos 0)) fixed [] 0 r.before r.begins in
      comes_so (Leaves layout by_log program is_there r.after) (stop_of first)
      (lane_stops layout by_log program is_there [] (later r.before nothing) r.stopped.work r.after first r.stopped.stops root start refl
      (later_is layout by_log program is_there r.before root nothing so.0) (later_came layout by_log program is_there r.before root nothing so.1) (begin_shares layout by_log program lawful fixed tells left))

  pub root_is_long : (long : LongAt) → RootLong layout program left long → ComesSerially program left (Still.too_long long.path long.number)
  root_is_long long r =
      let so = starts_so layout by_log program is_there program.main (replicate program.slots (pos 0)) fixed [] 0 r.before r.begins in
      comes_so (Anything layout by_log program is_there) (long_of long)
      (lane_long layout by_log program is_there [] (later r.before nothing) long r.runs_out root start refl
      (later_is layout by_log program is_there r.before root nothing so.0) (later_came layout by_log program is_there r.before root nothing so.1) (begin_shares layout by_log program lawful fixed tells left))
