-- The works of a serial run are those of a fork-join run: each phase but the last ends in one barrier of each lane, and the last in their Ends.
use Rattle.std.proofs.Common.{◌≡◌, refl, ap, sym, ◌∙◌, subst, ◌⊎◌, inl, inr, ℕ, zero, suc, ◌+◌, ◌≤◌, cond, List, [], ◌∷◌, ◌++◌, length, append_assoc, arith, All, length-append}
use Rattle.std.proofs.lemmas.List.Elements.{All-head, All-tail}
use Rattle.sw_base.specs.declared.path.Step.{Step}
use Rattle.log_format.specs.declared.record.Record.{Record}
use Rattle.log_format.specs.declared.record.Kind.{Kind}
use Rattle.log_format.specs.declared.record.Kind.TheVariants as kind
use Rattle.race_model.specs.Trace.{barrier_count, is_barrier_kind}
use Rattle.kernel_model.specs.State.{event}
use Rattle.history_model.specs.Work.{Work, Rest, Put, Fork, Phases, NoPhase, Phase, TeamWork, fork_record, work_records}
use Rattle.history_model.specs.Did.{lane_count_of}
use Rattle.history_model.specs.Joined.{LastIsEnd, TeamEnds, PhasesEnd, IsJoined, ArePhasesJoined, IsTeamJoined}
use Rattle.history_model.specs.Sound.{IsSoundRecord, IsSound, ArePhasesSound, IsTeamSound, PassesBarrier}
use Rattle.history_model.proofs.Parts.{count_cons}
use Rattle.execution_laws.specs.Nesting.{NestsWithin, PhasesNest, TeamNests}
use Rattle.serial_run.specs.Going.{FindsValue, words_after, Finds, ArePlain}
use Rattle.serial_run.specs.Placing.{ElementLayout}
use Rattle.serial_team.specs.declared.member.Stage.TheVariants as stage
use Rattle.serial_team.specs.Members.{Pool, pool_at, MemberValue, later, idle, path_in}
use Rattle.serial_team.specs.Running.{whole_value, put_all, beside, past_region, LaneRuns, TeamRuns, PhasesRun}
use Rattle.serial_laws.proofs.Puts.{barrier_still, end_still, plain_finds, puts_mark, put_records_are}

-- ---- lists of records

pub last_more : (xs ys : List Record) → LastIsEnd ys → LastIsEnd (xs ++ ys)
last_more xs ys e = record { prefix = xs ++ e.prefix; last = e.last; parts = ap (λ (l : List Record). xs ++ l) e.parts ∙ sym (append_assoc xs e.prefix (e.last ∷ [])); ends = e.ends }

access_barriers : (k : Kind) → (k ≡ kind.Read) ⊎ (k ≡ kind.Write) → 0 + cond (is_barrier_kind k) 1 0 ≡ 0
access_barriers k (inl is) = ap (λ (k : Kind). 0 + cond (is_barrier_kind k) 1 0) is
access_barriers k (inr is) = ap (λ (k : Kind). 0 + cond (is_barrier_kind k) 1 0) is

-- accesses are no barriers
plain_barriers : (rs more : List Record) → ArePlain rs → barrier_count (rs ++ more) ≡ barrier_count more
plain_barriers [] more plain = refl
plain_barriers (r ∷ rs) more plain =
    let first : barrier_count (r ∷ []) ≡ 0 = access_barriers r.kind plain.0 in
    omega (arith, first, count_cons (λ (q : Record). is_barrier_kind q.kind) r (rs ++ more), plain_barriers rs more plain.1)

no_barrier : (k : Kind) → (k ≡ kind.Read) ⊎ (k ≡ kind.Write) → k ≡ kind.Barrier → ⊥
no_barrier k (inl is) barrier = cc
no_barrier k (inr is) barrier = cc

module _ (layout : ElementLayout) where
  -- ---- accesses

  read_sound : (r : Record) (words : List ℕ) → FindsValue layout kind.Read r words → IsSoundRecord layout.words (record r { kind = kind.Read; value = whole_value layout kind.Read r words })
  read_sound r words f = record {
    no_region = λ is. cc;
    element = λ is. record { address = f.0.element.address; size = f.0.element.size; width = f.0.element.width };
    stores = λ is. cc;
  }

  write_sound : (r : Record) (words : List ℕ) → FindsValue layout kind.Write r words → IsSoundRecord layout.words (record r { kind = kind.Write; value = whole_value layout kind.Write r words })
  write_sound r words f = record {
    no_region = λ is. cc;
    element = λ is. record { address = f.0.element.address; size = f.0.element.size; width = f.0.element.width };
    stores = λ is. f.1;
  }

  access_sound : (k : Kind) (r : Record) (words : List ℕ) → (k ≡ kind.Read) ⊎ (k ≡ kind.Write) → FindsValue layout k r words
      → IsSoundRecord layout.words (record r { kind = k; value = whole_value layout k r words })
  access_sound k r words (inl is) = subst (λ (k : Kind). FindsValue layout k r words → IsSoundRecord layout.words (record r { kind = k; value = whole_value layout k r words })) (sym is) (read_sound r words)
  access_sound k r words (inr is) = subst (λ (k : Kind). FindsValue layout k r words → IsSoundRecord layout.words (record r { kind = k; value = whole_value layout k r words })) (sym is) (write_sound r words)

  pub puts_sound : (rs : List Record) (old new : List ℕ) (more : Work) → ArePlain rs → Finds layout rs old new → IsSound layout.words more → IsSound layout.words (put_all layout old rs more)
  puts_sound [] old new more plain f sound = sound
  puts_sound (r ∷ rs) old new more plain f sound =
      (access_sound r.kind r old plain.0 f.0, (λ is. absurd (no_barrier r.kind plain.0 is)), puts_sound rs (words_after layout r.kind r old) new more plain.1 f.1 sound)

  pub puts_joined : (rs : List Record) (words : List ℕ) (more : Work) → IsJoined more → IsJoined (put_all layout words rs more)
  puts_joined [] words more joined = joined
  puts_joined (r ∷ rs) words more joined = puts_joined rs (words_after layout r.kind r words) more joined

  pub puts_nest : (d : ℕ) (rs : List Record) (words : List ℕ) (more : Work) → NestsWithin d more → NestsWithin d (put_all layout words rs more)
  puts_nest d [] words more nests = nests
  puts_nest d (r ∷ rs) words more nests = puts_nest d rs (words_after layout r.kind r words) more nests

  -- ---- a lane

  -- its work in a phase, and how its records end
  pub record IsShaped (d : ℕ) (z : MemberValue) (work : Work) : Type 0 where
    pub sound : IsSound layout.words work
    pub joined : IsJoined work
    pub nests : NestsWithin d work
    pub at_barrier : z.stage ≡ stage.Waits → barrier_count (work_records work) ≡ 1
    pub at_end : z.stage ≡ stage.Ended → LastIsEnd (work_records work)

  -- accesses, and then this
  puts_shaped : (d : ℕ) (z : MemberValue) (rs : List Record) (old new : List ℕ) (more : Work) → ArePlain rs → Finds layout rs old new → IsShaped d z more → IsShaped d z (put_all layout old rs more)
  puts_shaped d z rs old new more plain f s =
      let is = put_records_are layout rs old new more f in
      record {
        sound = puts_sound rs old new more plain f s.sound;
        joined = puts_joined rs old more s.joined;
        nests = puts_nest d rs old more s.nests;
        at_barrier = λ w. ap (λ (l : List Record). barrier_count l) is ∙ plain_barriers rs (work_records more) plain ∙ s.at_barrier w;
        at_end = λ e. subst LastIsEnd (sym is) (last_more rs (work_records more) (s.at_end e));
      }

  -- ---- teams

  pub record IsTeamShaped (d count : ℕ) (ys : List MemberValue) (works : List Work) : Type 0 where
    pub lanes : lane_count_of (beside works) ≡ count
    pub kept : length ys ≡ count
    pub sound : IsTeamSound layout.words (beside works)
    pub joined : IsTeamJoined (beside works)
    pub nests : TeamNests d (beside works)
    pub wait : All (λ (y : MemberValue). y.stage ≡ stage.Waits) ys → PassesBarrier (beside works)
    pub end : All (λ (y : MemberValue). y.stage ≡ stage.Ended) ys → TeamEnds (beside works)

  pub record ArePhasesShaped (d count : ℕ) (ys : List MemberValue) (phases : Phases) : Type 0 where
    pub kept : length ys ≡ count
    pub sound : ArePhasesSound layout.words count phases
    pub joined : ArePhasesJoined phases
    pub nests : PhasesNest d phases
    pub end : PhasesEnd phases

  pub end_later : (team : TeamWork) (phases : Phases) → PhasesEnd phases → PhasesEnd (Phase team phases)
  end_later team NoPhase e = absurd e
  end_later team (Phase next more) e = e

  fork_shaped : (d : ℕ) (z : MemberValue) (line span count : ℕ) (phases : Phases) (more : Work) (ys : List MemberValue) → 1 ≤ span → count ≡ span → ArePhasesShaped d count ys phases → IsShaped (suc d) z more
      → IsShaped (suc d) z (Fork line span phases more)
  fork_shaped d z line span count phases more ys some is p s = record {
    sound = (subst (λ (n : ℕ). ArePhasesSound layout.words n phases) is p.sound, s.sound);
    joined = (inr p.end, p.joined, s.joined);
    nests = (some, p.nests, s.nests);
    at_barrier = λ w. let sum = count_cons (λ (q : Record). is_barrier_kind q.kind) (fork_record line span) (work_records more) in let none : barrier_count (fork_record line span ∷ []) ≡ 0 = refl in omega (arith, sum, none, s.at_barrier w);
    at_end = λ e. last_more (fork_record line span ∷ []) (work_records more) (s.at_end e);
  }

  mutual
    pub lane_shaped : (d : ℕ) (path : List Step) (x : MemberValue) (work : Work) (z : MemberValue) → LaneRuns layout path x work z → 4 ≤ length path + d → IsShaped d z work
    lane_shaped d _ _ _ _ (LaneRuns.waits path x y line a) deep =
        let mark = event kind.Barrier line 0 0 in
        subst (IsShaped d (record x { stand = y; stage = stage.Waits })) (sym (puts_mark layout x.stand.progress y.progress mark a.makes Rest (barrier_still layout line)))
        (puts_shaped d (record x { stand = y; stage = stage.Waits }) a.makes.plain x.stand.progress.words y.progress.words (Put mark Rest) a.makes.plain_is
        (plain_finds layout x.stand.progress y.progress mark a.makes (λ words. refl))
        (record { sound = ((barrier_still layout line).sound, (λ is. refl), tt); joined = tt; nests = tt; at_barrier = λ is. refl; at_end = λ is. cc }))
    lane_shaped d _ _ _ _ (LaneRuns.ends path x y f) deep =
        let mark = event kind.End x.stand.end 0 0 in
        subst (IsShaped d (record x { stand = y; stage = stage.Ended })) (sym (puts_mark layout x.stand.progress y.progress mark f.makes Rest (end_still layout x.stand.end)))
        (puts_shaped d (record x { stand = y; stage = stage.Ended }) f.makes.plain x.stand.progress.words y.progress.words (Put mark Rest) f.makes.plain_is
        (plain_finds layout x.stand.progress y.progress mark f.makes (λ words. refl))
        (record { sound = ((end_still layout x.stand.end).sound, (λ is. cc), tt); joined = tt; nests = tt; at_barrier = λ is. cc; at_end = λ is. record { prefix = []; last = mark; parts = refl; ends = refl } }))
    lane_shaped zero _ _ _ _ (LaneRuns.forks path x z y team xs ys p phases more a less begin runs few rest) deep = absurd (omega (arith, less, deep))
    lane_shaped (suc d) _ _ _ _ (LaneRuns.forks path x z y team xs ys p phases more a less begin runs few rest) deep =
        puts_shaped (suc d) z a.makes.plain x.stand.progress.words y.progress.words (Fork team.line team.span phases more) a.makes.plain_is
        (plain_finds layout x.stand.progress y.progress (event kind.Region team.line 0 team.span) a.makes (λ words. refl))
        (fork_shaped d z team.line team.span (length xs) phases more ys begin.some begin.count
        (phases_shaped d path x.forked xs (pool_at y) phases ys p runs (omega (arith, deep)))
        (lane_shaped (suc d) path (past_region path x y ys p) more z rest deep))

    pub team_shaped : (d : ℕ) (at : List Step) (number : ℕ) (xs : List MemberValue) (p : Pool) (works : List Work) (ys : List MemberValue) (q : Pool) → TeamRuns layout at number xs p works ys q
        → 4 ≤ length at + suc d → IsTeamShaped d (length xs) ys works
    team_shaped d _ _ _ _ _ _ _ (TeamRuns.no_lane at number p) deep = record { lanes = refl; kept = refl; sound = tt; joined = tt; nests = tt; wait = λ all. tt; end = λ all. tt }
    team_shaped d _ _ _ _ _ _ _ (TeamRuns.lane at number x y xs ys p q work works l t) deep =
        let below = length-append at (record { region = number; lane = x.stand.at.lane; span = x.stand.at.span } ∷ []) in
        let one = lane_shaped d (path_in at number x) (later x p) work y l (omega (arith, deep, below)) in
        let others = team_shaped d at number xs (pool_at y.stand) works ys q t deep in
        record {
          lanes = ap suc others.lanes;
          kept = ap suc others.kept;
          sound = (one.sound, others.sound);
          joined = (one.joined, others.joined);
          nests = (one.nests, others.nests);
          wait = λ all. (one.at_barrier (All-head (λ (v : MemberValue). v.stage ≡ stage.Waits) (idle y) ys all), others.wait (All-tail (λ (v : MemberValue). v.stage ≡ stage.Waits) (idle y) ys all));
          end = λ all. (one.at_end (All-head (λ (v : MemberValue). v.stage ≡ stage.Ended) (idle y) ys all), others.end (All-tail (λ (v : MemberValue). v.stage ≡ stage.Ended) (idle y) ys all));
        }

    pub phases_shaped : (d : ℕ) (at : List Step) (number : ℕ) (xs : List MemberValue) (p : Pool) (phases : Phases) (ys : List MemberValue) (q : Pool) → PhasesRun layout at number xs p phases ys q
        → 4 ≤ length at + suc d → ArePhasesShaped d (length xs) ys phases
    phases_shaped d _ _ _ _ _ _ _ (PhasesRun.last at number xs ys p q works t all) deep =
        let s = team_shaped d at number xs p works ys q t deep in
        record { kept = s.kept; sound = (s.lanes, s.sound, inl refl, tt); joined = (s.joined, tt); nests = (s.nests, tt); end = s.end all }
    phases_shaped d _ _ _ _ _ _ _ (PhasesRun.next at number xs ys zs p q r works phases t all more) deep =
        let s = team_shaped d at number xs p works ys q t deep in
        let rest = phases_shaped d at number ys q phases zs r more deep in
        record {
          kept = rest.kept ∙ s.kept;
          sound = (s.lanes, s.sound, inr (s.wait all), subst (λ (n : ℕ). ArePhasesSound layout.words n phases) s.kept rest.sound);
          joined = (s.joined, rest.joined);
          nests = (s.nests, rest.nests);
          end = end_later (beside works) phases rest.end;
        }
