-- What a serial run that stopped did is the work of a fork-join run, and each of its steps finds the words as the steps before it left them.
use Rattle.std.proofs.Common.{◌≡◌, refl, ap, subst, inl, inr, ℕ, zero, suc, ◌+◌, ◌≤◌, List, [], ◌∷◌, length, arith, length-append}
use Rattle.sw_base.specs.declared.path.Step.{Step}
use Rattle.log_format.specs.declared.record.Kind.TheVariants as kind
use Rattle.kernel_model.specs.State as model
use Rattle.kernel_model.specs.State.{event}
use Rattle.step_history.specs.History.{Name}
use Rattle.history_model.specs.Work.{Work, Rest, Fork, Phases, NoPhase}
use Rattle.history_model.specs.Did.{lane_count_of, phase_splits, did, did_phases, did_team}
use Rattle.history_model.specs.Joined.{IsJoined, ArePhasesJoined, IsTeamJoined}
use Rattle.history_model.specs.Sound.{IsSound, ArePhasesSound, IsTeamSound}
use Rattle.execution_laws.specs.Nesting.{NestsWithin, PhasesNest, TeamNests}
use Rattle.serial_run.specs.Placing.{ElementLayout}
use Rattle.serial_run.specs.Stepping.{Stand, Advances}
use Rattle.serial_team.specs.Members.{Pool, pool_at, MemberValue, later, path_in}
use Rattle.serial_team.specs.Running.{beside, past_region, put_all}
use Rattle.serial_team.specs.Stopping.{StopAt, LaneStops, TeamGoes, PhasesStop}
use Rattle.std.specs.Prelude.{Option, Some}
use Rattle.serial_laws.proofs.Found.{Does, does_none, does_both, does_puts, joins, follows, lane_does, team_does, phases_do}
use Rattle.serial_laws.proofs.Puts.{plain_finds}
use Rattle.serial_laws.proofs.Shapes.{lane_shaped, phases_shaped, puts_joined, puts_nest, puts_sound, team_shaped}

module _ (layout : ElementLayout) where
  -- ---- the work

  pub record IsPart (d : ℕ) (work : Work) : Type 0 where
    pub sound : IsSound layout.words work
    pub joined : IsJoined work
    pub nests : NestsWithin d work

  record AreTeamParts (d count : ℕ) (works : List Work) : Type 0 where
    lanes : lane_count_of (beside works) ≡ count
    sound : IsTeamSound layout.words (beside works)
    joined : IsTeamJoined (beside works)
    nests : TeamNests d (beside works)

  record ArePhaseParts (d count : ℕ) (phases : Phases) : Type 0 where
    sound : ArePhasesSound layout.words count phases
    joined : ArePhasesJoined phases
    nests : PhasesNest d phases

  -- accesses, and then this
  module _ (d : ℕ) (x : Stand) (y : Stand) (line span : ℕ) (forks : List model.Fork) (a : Advances layout x y (event kind.Region line 0 span ∷ []) forks) where
    after_puts : (more : Work) → IsPart d more → IsPart d (put_all layout x.progress.words a.makes.plain more)
    after_puts more part = record {
      sound = puts_sound layout a.makes.plain x.progress.words y.progress.words more a.makes.plain_is (plain_finds layout x.progress y.progress (event kind.Region line 0 span) a.makes (λ words. refl)) part.sound;
      joined = puts_joined layout a.makes.plain x.progress.words more part.joined;
      nests = puts_nest layout d a.makes.plain x.progress.words more part.nests;
    }

  -- a region after which nothing is done
  last_region : (d line span count : ℕ) (phases : Phases) → 1 ≤ span → count ≡ span → ArePhaseParts d count phases → IsPart (suc d) (Fork line span phases Rest)
  last_region d line span count phases some is p =
      record { sound = (subst (λ (n : ℕ). ArePhasesSound layout.words n phases) is p.sound, tt); joined = (inl refl, p.joined, tt); nests = (some, p.nests, tt) }

  mutual
    pub stopped_part : (d : ℕ) (path : List Step) (x : MemberValue) (work : Work) (p : Pool) (first : StopAt) → LaneStops layout path x work p first → 4 ≤ length path + d → IsPart d work
    stopped_part d _ _ _ _ _ (LaneStops.halts path x slots now w line m) deep = record {
      sound = puts_sound layout m.added x.stand.progress.words now.words Rest m.plain m.gains.finds tt;
      joined = puts_joined layout m.added x.stand.progress.words Rest tt;
      nests = puts_nest layout d m.added x.stand.progress.words Rest tt;
    }
    stopped_part zero _ _ _ _ _ (LaneStops.in_region path x y team xs p phases first a less begin s) deep = absurd (omega (arith, less, deep))
    stopped_part (suc d) _ _ _ _ _ (LaneStops.in_region path x y team xs p phases first a less begin s) deep =
        after_puts (suc d) x.stand y team.line team.span (record { team = team; slots = y.slots } ∷ []) a (Fork team.line team.span phases Rest)
        (last_region d team.line team.span (length xs) phases begin.some begin.count (stopped_phases d path x.forked xs (pool_at y) phases p first s (omega (arith, deep))))
    stopped_part zero _ _ _ _ _ (LaneStops.too_many path x y team xs ys p phases a less begin runs many) deep = absurd (omega (arith, less, deep))
    stopped_part (suc d) _ _ _ _ _ (LaneStops.too_many path x y team xs ys p phases a less begin runs many) deep =
        let s = phases_shaped layout d path x.forked xs (pool_at y) phases ys p runs (omega (arith, deep)) in
        after_puts (suc d) x.stand y team.line team.span (record { team = team; slots = y.slots } ∷ []) a (Fork team.line team.span phases Rest)
        (last_region d team.line team.span (length xs) phases begin.some begin.count (record { sound = s.sound; joined = s.joined; nests = s.nests }))
    stopped_part zero _ _ _ _ _ (LaneStops.onward path x y team xs ys p q phases more first a less begin runs few next) deep = absurd (omega (arith, less, deep))
    stopped_part (suc d) _ _ _ _ _ (LaneStops.onward path x y team xs ys p q phases more first a less begin runs few next) deep =
        let s = phases_shaped layout d path x.forked xs (pool_at y) phases ys p runs (omega (arith, deep)) in
        let rest = stopped_part (suc d) path (past_region path x y ys p) more q first next deep in
        after_puts (suc d) x.stand y team.line team.span (record { team = team; slots = y.slots } ∷ []) a (Fork team.line team.span phases more)
        (record {
          sound = (subst (λ (n : ℕ). ArePhasesSound layout.words n phases) begin.count s.sound, rest.sound);
          joined = (inr s.end, s.joined, rest.joined);
          nests = (begin.some, s.nests, rest.nests);
        })

    gone_team : (d : ℕ) (at : List Step) (number : ℕ) (xs : List MemberValue) (p : Pool) (works : List Work) (q : Pool) (first : Option StopAt) → TeamGoes layout at number xs p works q first
        → 4 ≤ length at + suc d → AreTeamParts d (length xs) works
    gone_team d _ _ _ _ _ _ _ (TeamGoes.no_lane at number p) deep = record { lanes = refl; sound = tt; joined = tt; nests = tt }
    gone_team d _ _ _ _ _ _ _ (TeamGoes.runs at number x y xs p q work works first l t) deep =
        let below = length-append at (record { region = number; lane = x.stand.at.lane; span = x.stand.at.span } ∷ []) in
        let one = lane_shaped layout d (path_in at number x) (later x p) work y l (omega (arith, deep, below)) in
        let others = gone_team d at number xs (pool_at y.stand) works q first t deep in
        record { lanes = ap suc others.lanes; sound = (one.sound, others.sound); joined = (one.joined, others.joined); nests = (one.nests, others.nests) }
    gone_team d _ _ _ _ _ _ _ (TeamGoes.stops at number x xs p q r work works first other l t) deep =
        let below = length-append at (record { region = number; lane = x.stand.at.lane; span = x.stand.at.span } ∷ []) in
        let one = stopped_part d (path_in at number x) (later x p) work q first l (omega (arith, deep, below)) in
        let others = gone_team d at number xs q works r other t deep in
        record { lanes = ap suc others.lanes; sound = (one.sound, others.sound); joined = (one.joined, others.joined); nests = (one.nests, others.nests) }

    stopped_phases : (d : ℕ) (at : List Step) (number : ℕ) (xs : List MemberValue) (p : Pool) (phases : Phases) (q : Pool) (first : StopAt) → PhasesStop layout at number xs p phases q first
        → 4 ≤ length at + suc d → ArePhaseParts d (length xs) phases
    stopped_phases d _ _ _ _ _ _ _ (PhasesStop.here at number xs p q works first t) deep =
        let s = gone_team d at number xs p works q (Some first) t deep in
        record { sound = (s.lanes, s.sound, inl refl, tt); joined = (s.joined, tt); nests = (s.nests, tt) }
    stopped_phases d _ _ _ _ _ _ _ (PhasesStop.next at number xs ys p q r works phases first t all more) deep =
        let s = team_shaped layout d at number xs p works ys q t deep in
        let rest = stopped_phases d at number ys q phases r first more deep in
        record {
          sound = (s.lanes, s.sound, inr (s.wait all), subst (λ (n : ℕ). ArePhasesSound layout.words n phases) s.kept rest.sound);
          joined = (s.joined, rest.joined);
          nests = (s.nests, rest.nests);
        }

  -- ---- the steps

  module _ (x : Stand) (y : Stand) (line span : ℕ) (forks : List model.Fork) (a : Advances layout x y (event kind.Region line 0 span ∷ []) forks) where
    -- accesses, a region, and then this
    does_region : (name : Name) (k : ℕ) (phases : Phases) (more : Work) (mid new : List ℕ) → Does layout y.progress.words (did_phases layout.words.word name k span phases) mid
        → Does layout mid (did layout.words.word name (k + phase_splits phases) more) new
        → Does layout x.progress.words (did layout.words.word name k (put_all layout x.progress.words a.makes.plain (Fork line span phases more))) new
    does_region name k phases more mid new one rest =
        does_puts layout a.makes.plain x.progress.words y.progress.words new name k (Fork line span phases more) a.makes.plain_is
        (plain_finds layout x.progress y.progress (event kind.Region line 0 span) a.makes (λ words. refl))
        (does_both layout y.progress.words mid new (did_phases layout.words.word name k span phases) (did layout.words.word name (k + phase_splits phases) more) one rest)

  mutual
    pub stopped_does : (name : Name) (k : ℕ) (path : List Step) (x : MemberValue) (work : Work) (p : Pool) (first : StopAt) → LaneStops layout path x work p first
        → Does layout x.stand.progress.words (did layout.words.word name k work) p.words
    stopped_does name k _ _ _ _ _ (LaneStops.halts path x slots now w line m) = does_puts layout m.added x.stand.progress.words now.words now.words name k Rest m.plain m.gains.finds (does_none layout now.words)
    stopped_does name k _ _ _ _ _ (LaneStops.in_region path x y team xs p phases first a less begin s) =
        does_region x.stand y team.line team.span (record { team = team; slots = y.slots } ∷ []) a name k phases Rest p.words p.words
        (stopped_phases_do name k team.span path x.forked xs (pool_at y) phases p first s) (does_none layout p.words)
    stopped_does name k _ _ _ _ _ (LaneStops.too_many path x y team xs ys p phases a less begin runs many) =
        does_region x.stand y team.line team.span (record { team = team; slots = y.slots } ∷ []) a name k phases Rest p.words p.words
        (phases_do layout name k team.span path x.forked xs (pool_at y) phases ys p runs) (does_none layout p.words)
    stopped_does name k _ _ _ _ _ (LaneStops.onward path x y team xs ys p q phases more first a less begin runs few next) =
        does_region x.stand y team.line team.span (record { team = team; slots = y.slots } ∷ []) a name k phases more p.words q.words
        (phases_do layout name k team.span path x.forked xs (pool_at y) phases ys p runs)
        (stopped_does name (k + phase_splits phases) path (past_region path x y ys p) more q first next)

    gone_does : (name : Name) (k : ℕ) (at : List Step) (number : ℕ) (xs : List MemberValue) (p : Pool) (works : List Work) (q : Pool) (first : Option StopAt) → TeamGoes layout at number xs p works q first
        → Does layout p.words (did_team layout.words.word name k (beside works)) q.words
    gone_does name k _ _ _ _ _ _ _ (TeamGoes.no_lane at number p) = does_none layout p.words
    gone_does name k _ _ _ _ _ _ _ (TeamGoes.runs at number x y xs p q work works first l t) =
        joins layout name k work works p.words y.stand.progress.words q.words (lane_does layout (k ∷ name) 0 (path_in at number x) (later x p) work y l) (gone_does name (suc k) at number xs (pool_at y.stand) works q first t)
    gone_does name k _ _ _ _ _ _ _ (TeamGoes.stops at number x xs p q r work works first other l t) =
        joins layout name k work works p.words q.words r.words (stopped_does (k ∷ name) 0 (path_in at number x) (later x p) work q first l) (gone_does name (suc k) at number xs q works r other t)

    stopped_phases_do : (name : Name) (k span : ℕ) (at : List Step) (number : ℕ) (xs : List MemberValue) (p : Pool) (phases : Phases) (q : Pool) (first : StopAt) → PhasesStop layout at number xs p phases q first
        → Does layout p.words (did_phases layout.words.word name k span phases) q.words
    stopped_phases_do name k span _ _ _ _ _ _ _ (PhasesStop.here at number xs p q works first t) =
        follows layout name k span works NoPhase p.words q.words q.words (gone_does name k at number xs p works q (Some first) t) (does_none layout q.words)
    stopped_phases_do name k span _ _ _ _ _ _ _ (PhasesStop.next at number xs ys p q r works phases first t all more) =
        follows layout name k span works phases p.words q.words r.words (team_does layout name k at number xs p works ys q t)
        (stopped_phases_do name (k + lane_count_of (beside works)) span at number ys q phases r first more)
