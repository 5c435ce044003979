-- The serial run of a fixed kernel is one.
use Rattle.std.proofs.Common.{◌≡◌, refl, ap, ap₂, sym, ◌∙◌, subst, inl, inr, ℕ, ◌+◌, ◌<◌, ◌≤◌, List, [], ◌∷◌, ◌++◌, length, All, arith}
use Rattle.std.specs.List.{range_with_len}
use Rattle.std.proofs.lemmas.List.{append-nil, append_cancel_left}
use Rattle.std.proofs.lemmas.Option.{same_Some}
use Rattle.std.proofs.lemmas.List.Elements.{All-cons, All-head, All-map, All-tail}
use Rattle.log_format.specs.Limit.{task_limit}
use Rattle.log_format.specs.declared.record.Record.{Record}
use Rattle.log_format.specs.declared.record.Kind.{Kind}
use Rattle.log_format.specs.declared.record.Kind.TheVariants as kind
use Rattle.log_format.specs.Table.{AccessesMemory}
use Rattle.race_model.specs.Trace.{Trace, region_count}
use Rattle.race_model.proofs.TraceLogs.{all_at}
use Rattle.kernel_syntax.specs.Bounds.{IsBounded}
use Rattle.kernel_syntax.specs.Program.{Program}
use Rattle.kernel_model.specs.Lawful.{IsLawful}
use Rattle.kernel_model.specs.declared.stop.StopWhy.{StopWhy}
use Rattle.kernel_model.specs.declared.stop.StopWhy.TheVariants.{Tasks}
use Rattle.kernel_model.specs.Folder.{own_trace, IsTracedTo}
use Rattle.kernel_model.specs.State.{Fork, reads_of, chunks_of}
use Rattle.kernel_model.specs.Trace.{Stopped, Wanting}
use Rattle.certainty_model.specs.Certain.{IsFixed}
use Rattle.certainty_model.proofs.Pairs.{FixedFork}
use Rattle.serial_steps.specs.Lanes.{Shared, SerialTask, tasks_of, with_record, after_record, MakesNext, ForksNext, HasMore, lanes_of, past_lanes, Still, IsTooLong, told, TaskGoes, PhaseGoes, RegionGoes, GoesSerially}
use Rattle.serial_steps.proofs.GoAlike.{forks_fixed}
use Rattle.serial_steps.proofs.NextRecords.{one_record, none_past_stop}

-- ---- one step of a task

-- it came to stand still so, or the lanes did
record StoodSo {A : Type 0} (u v : A) (q p : Shared) (end other : Still) : Type 0 where
  task : v ≡ u
  shared : p ≡ q
  still : other ≡ end

module _ (program : Program) where
  -- past the lanes of its region, which came to stand so
  data PastRegion (t : SerialTask) (r : Record) (lanes : List SerialTask) (v : SerialTask) (p : Shared) (other : Still) : Shared → Still → Type 0 where
    goes_on : (q : Shared) → length (past_lanes t r lanes).below ≤ task_limit → TaskGoes program (past_lanes t r lanes) q v p other → PastRegion t r lanes v p other q Still.at_end
    crowds : (q : Shared) → task_limit < length (past_lanes t r lanes).below → StoodSo (past_lanes t r lanes) v q p (Still.stopped t.path r.line Tasks) other → PastRegion t r lanes v p other q Still.at_end
    breaks_off : (q : Shared) (end : Still) → (end ≡ Still.at_end → ⊥) → StoodSo (past_lanes t r lanes) v q p end other → PastRegion t r lanes v p other q end

  record AtRegion (t : SerialTask) (s : Shared) (r : Record) (v : SerialTask) (p : Shared) (other : Still) : Type 0 where
    fork : Fork
    forks : ForksNext program t s r fork
    lanes : List SerialTask
    after : Shared
    end : Still
    goes : RegionGoes program (lanes_of t fork) (after_record s r) lanes after end
    past : PastRegion t r lanes v p other after end

  -- what it does once it made this record
  abbrev GoesPast : Kind → SerialTask → Shared → Record → SerialTask → Shared → Still → Type 0
  GoesPast kind.Barrier t s r v p other = StoodSo (with_record t r) v (after_record s r) p Still.at_barrier other
  GoesPast kind.End t s r v p other = StoodSo (with_record t r) v (after_record s r) p Still.at_end other
  GoesPast kind.Region t s r v p other = AtRegion t s r v p other
  GoesPast _ t s r v p other = TaskGoes program (with_record t r) (after_record s r) v p other

  -- what it does first
  data First (t : SerialTask) (s : Shared) (v : SerialTask) (p : Shared) (other : Still) : Type 0 where
    puts : (r : Record) → MakesNext program t s r → GoesPast r.kind t s r v p other → First t s v p other
    halts : (line : ℕ) (why : StopWhy) → IsTracedTo program t.start t.records (Stopped why line) → StoodSo t v s p (Still.stopped t.path line why) other → First t s v p other
    is_long : HasMore program t → s.left ≡ 0 → StoodSo t v s p (Still.too_long t.path (length t.records + 1)) other → First t s v p other

  access_past : (k : Kind) (t : SerialTask) (s : Shared) (r : Record) (v : SerialTask) (p : Shared) (other : Still) → AccessesMemory k → TaskGoes program (with_record t r) (after_record s r) v p other
      → GoesPast k t s r v p other
  access_past k t s r v p other (inl is) goes = subst (λ (x : Kind). GoesPast x t s r v p other) (sym is) goes
  access_past k t s r v p other (inr (inl is)) goes = subst (λ (x : Kind). GoesPast x t s r v p other) (sym is) goes
  access_past k t s r v p other (inr (inr is)) goes = subst (λ (x : Kind). GoesPast x t s r v p other) (sym is) goes

  past_access : (k : Kind) (t : SerialTask) (s : Shared) (r : Record) (v : SerialTask) (p : Shared) (other : Still) → AccessesMemory k → GoesPast k t s r v p other
      → TaskGoes program (with_record t r) (after_record s r) v p other
  past_access k t s r v p other (inl is) past = subst (λ (x : Kind). GoesPast x t s r v p other) is past
  past_access k t s r v p other (inr (inl is)) past = subst (λ (x : Kind). GoesPast x t s r v p other) is past
  past_access k t s r v p other (inr (inr is)) past = subst (λ (x : Kind). GoesPast x t s r v p other) is past

  at_region : (t v : SerialTask) (s p : Shared) (other : Still) (r : Record) (fork : Fork) (lanes : List SerialTask) (q : Shared) (end : Still) → ForksNext program t s r fork
      → RegionGoes program (lanes_of t fork) (after_record s r) lanes q end → PastRegion t r lanes v p other q end → First t s v p other
  at_region t v s p other r fork lanes q end f goes past =
      First.puts r f.makes (subst (λ (k : Kind). GoesPast k t s r v p other) (sym f.is_region) (record { fork = fork; forks = f; lanes = lanes; after = q; end = end; goes = goes; past = past }))

  stood : (u : SerialTask) (q : Shared) (end : Still) → StoodSo u u q q end end
  stood u q end = record { task = refl; shared = refl; still = refl }

  first_step : (t v : SerialTask) (s p : Shared) (other : Still) → TaskGoes program t s v p other → First t s v p other
  first_step _ _ _ _ _ (TaskGoes.makes t v s p r other m access more) = First.puts r m (access_past r.kind t s r v p other access more)
  first_step _ _ _ _ _ (TaskGoes.waits t s r m is) = First.puts r m (subst (λ (k : Kind). GoesPast k t s r (with_record t r) (after_record s r) Still.at_barrier) (sym is) (stood (with_record t r) (after_record s r) Still.at_barrier))
  first_step _ _ _ _ _ (TaskGoes.ends t s r m is) = First.puts r m (subst (λ (k : Kind). GoesPast k t s r (with_record t r) (after_record s r) Still.at_end) (sym is) (stood (with_record t r) (after_record s r) Still.at_end))
  first_step _ _ _ _ _ (TaskGoes.stops t s line why traced) = First.halts line why traced (stood t s _)
  first_step _ _ _ _ _ (TaskGoes.would_make t s on none) = First.is_long on none (stood t s _)
  first_step _ _ _ _ _ (TaskGoes.passes t v s q p r fork lanes other f goes few more) = at_region t v s p other r fork lanes q Still.at_end f goes (PastRegion.goes_on q few more)
  first_step _ _ _ _ _ (TaskGoes.is_crowded t s q r fork lanes f goes most) =
      at_region t (past_lanes t r lanes) s q _ r fork lanes q Still.at_end f goes (PastRegion.crowds q most (stood (past_lanes t r lanes) q (Still.stopped t.path r.line Tasks)))
  first_step _ _ _ _ _ (TaskGoes.breaks t s q r fork lanes end f goes broken) =
      at_region t (past_lanes t r lanes) s q end r fork lanes q end f goes (PastRegion.breaks_off q end broken (stood (past_lanes t r lanes) q end))

  -- ---- the second run takes the first's step

  abbrev IsFixedTask : SerialTask → Type 0
  IsFixedTask t = IsFixed t.start.team.body

  -- the trace of a task that stopped has nothing more
  none_on : (t : SerialTask) (line : ℕ) (why : StopWhy) → IsTracedTo program t.start t.records (Stopped why line) → HasMore program t → ⊥
  none_on t line why traced on =
      let none = append_cancel_left t.records on.more [] (sym on.begins ∙ traced.records_are ∙ sym (append-nil t.records)) in
      let clash : Stopped why line ≡ Wanting = sym traced.ended ∙ on.wants none in
      cc

  -- a task of which the first run tells
  module _ (bounded : IsBounded program) where
    past_record : (t v : SerialTask) (s p : Shared) (other : Still) (r : Record) → IsFixedTask t → MakesNext program t s r → TaskGoes program t s v p other → GoesPast r.kind t s r v p other
    past_record t v s p other r fixed m d = by (first_step t v s p other d)
      where
        by : First t s v p other → GoesPast r.kind t s r v p other
        by (First.puts q n past) =
            subst (λ (x : Record). GoesPast x.kind t s x v p other) (one_record program t.start t.records bounded fixed s.memory r q m.begun n.begun m.finds n.finds) past
        by (First.halts line why traced so) = absurd (none_past_stop program t.start t.records bounded fixed why line r traced m.begun)
        by (First.is_long on none so) = absurd (let some = m.some in omega (arith, none, some))

    past_stop : (t v : SerialTask) (s p : Shared) (other : Still) (line : ℕ) (why : StopWhy) → IsFixedTask t → IsTracedTo program t.start t.records (Stopped why line) → TaskGoes program t s v p other
        → StoodSo t v s p (Still.stopped t.path line why) other
    past_stop t v s p other line why fixed traced d = by (first_step t v s p other d)
      where
        by : First t s v p other → StoodSo t v s p (Still.stopped t.path line why) other
        by (First.puts r m past) = absurd (none_past_stop program t.start t.records bounded fixed why line r traced m.begun)
        by (First.halts k w also so) =
            let same : Stopped w k ≡ Stopped why line = sym also.ended ∙ traced.ended in
            let stops : Still.stopped t.path k w ≡ Still.stopped t.path line why = cc in
            record { task = so.task; shared = so.shared; still = so.still ∙ stops }
        by (First.is_long on none so) = absurd (none_on t line why traced on)

    past_room : (t v : SerialTask) (s p : Shared) (other : Still) → HasMore program t → s.left ≡ 0 → TaskGoes program t s v p other
        → StoodSo t v s p (Still.too_long t.path (length t.records + 1)) other
    past_room t v s p other on none d = by (first_step t v s p other d)
      where
        by : First t s v p other → StoodSo t v s p (Still.too_long t.path (length t.records + 1)) other
        by (First.puts q n past) = absurd (let some = n.some in omega (arith, none, some))
        by (First.halts line why traced so) = absurd (none_on t line why traced on)
        by (First.is_long also nothing so) = so

    -- the lanes of the region that it forks
    lanes_fixed : (t : SerialTask) (s : Shared) (r : Record) (fork : Fork) → IsFixedTask t → ForksNext program t s r fork → All IsFixedTask (lanes_of t fork)
    lanes_fixed t s r fork fixed f =
        let log = t.records ++ r ∷ [] in
        let is : FixedFork fork = all_at FixedFork (own_trace program t.start log).forks (region_count t.records) fork (forks_fixed program t.start (reads_of log) (chunks_of log) fixed) f.forks in
        All-map IsFixedTask _ (range_with_len 0 fork.team.span) (λ k d less. is)

    past_fork : (t v : SerialTask) (s p q : Shared) (other end : Still) (r : Record) (fork : Fork) (lanes : List SerialTask) → IsFixedTask t → ForksNext program t s r fork
        → ((others : List SerialTask) (also : Shared) (still : Still) → RegionGoes program (lanes_of t fork) (after_record s r) others also still → StoodSo lanes others q also end still)
        → TaskGoes program t s v p other → PastRegion t r lanes v p other q end
    past_fork t v s p q other end r fork lanes fixed f once d = by (subst (λ (k : Kind). GoesPast k t s r v p other) f.is_region (past_record t v s p other r fixed f.makes d))
      where
        by : AtRegion t s r v p other → PastRegion t r lanes v p other q end
        by a =
            let same : a.fork ≡ fork = same_Some a.fork fork (sym a.forks.forks ∙ f.forks) in
            let so = once a.lanes a.after a.end (subst (λ (x : Fork). RegionGoes program (lanes_of t x) (after_record s r) a.lanes a.after a.end) same a.goes) in
            subst (λ (x : List SerialTask). PastRegion t r x v p other q end) so.task
            (subst (λ (x : Shared). PastRegion t r a.lanes v p other x end) so.shared
            (subst (λ (x : Still). PastRegion t r a.lanes v p other a.after x) so.still a.past))

    past_few : (t v : SerialTask) (r : Record) (lanes : List SerialTask) (q p : Shared) (other end : Still) → length (past_lanes t r lanes).below ≤ task_limit → end ≡ Still.at_end → PastRegion t r lanes v p other q end
        → TaskGoes program (past_lanes t r lanes) q v p other
    past_few t v r lanes _ p other _ few is (PastRegion.goes_on q less more) = more
    past_few t v r lanes _ p other _ few is (PastRegion.crowds q most so) = absurd (omega (arith, few, most))
    past_few t v r lanes _ p other _ few is (PastRegion.breaks_off q end broken so) = absurd (broken is)

    past_most : (t v : SerialTask) (r : Record) (lanes : List SerialTask) (q p : Shared) (other end : Still) → task_limit < length (past_lanes t r lanes).below → end ≡ Still.at_end → PastRegion t r lanes v p other q end
        → StoodSo (past_lanes t r lanes) v q p (Still.stopped t.path r.line Tasks) other
    past_most t v r lanes _ p other _ most is (PastRegion.goes_on q few more) = absurd (omega (arith, few, most))
    past_most t v r lanes _ p other _ most is (PastRegion.crowds q also so) = so
    past_most t v r lanes _ p other _ most is (PastRegion.breaks_off q end broken so) = absurd (broken is)

    past_broken : (t v : SerialTask) (r : Record) (lanes : List SerialTask) (q p : Shared) (other end : Still) → (end ≡ Still.at_end → ⊥) → PastRegion t r lanes v p other q end
        → StoodSo (past_lanes t r lanes) v q p end other
    past_broken t v r lanes _ p other _ broken (PastRegion.goes_on q few more) = absurd (broken refl)
    past_broken t v r lanes _ p other _ broken (PastRegion.crowds q most so) = absurd (broken refl)
    past_broken t v r lanes _ p other _ broken (PastRegion.breaks_off q end also so) = so

    -- ---- two runs

    no_lanes : (ts us : List SerialTask) (s q : Shared) (end : Still) → ts ≡ [] → PhaseGoes program ts s us q end → ⊥
    no_lanes _ _ _ _ _ none (PhaseGoes.last t u s q end one) = cc
    no_lanes _ _ _ _ _ none (PhaseGoes.lane t u ts us s p q end others one few more) = cc
    no_lanes _ _ _ _ _ none (PhaseGoes.no_more t u v ts s p end one most) = cc

    -- the first lane and those after it came to stand so
    lanes_so : (u v : SerialTask) (us vs : List SerialTask) (w k q p : Shared) (end other others also : Still) → StoodSo u v w k end other × IsFixedTask u
        → StoodSo us vs q p others also × All IsFixedTask us → StoodSo (u ∷ us) (v ∷ vs) q p (told end others) (told other also) × All IsFixedTask (u ∷ us)
    lanes_so u v us vs w k q p end other others also one more = (
      record { task = ap₂ (λ (x : SerialTask) (xs : List SerialTask). x ∷ xs) one.0.task more.0.task; shared = more.0.shared; still = ap₂ told one.0.still more.0.still },
      All-cons IsFixedTask u us one.1 more.1,
    )

    -- and those after it did nothing
    lane_alone : (u v : SerialTask) (us : List SerialTask) (q p : Shared) (end other : Still) → StoodSo u v q p end other × IsFixedTask u → All IsFixedTask us
        → StoodSo (u ∷ us) (v ∷ us) q p end other × All IsFixedTask (u ∷ us)
    lane_alone u v us q p end other one rest = (
      record { task = ap (λ (x : SerialTask). x ∷ us) one.0.task; shared = one.0.shared; still = one.0.still },
      All-cons IsFixedTask u us one.1 rest,
    )

    mutual
      task_once : (t u v : SerialTask) (s q p : Shared) (end other : Still) → IsFixedTask t → TaskGoes program t s u q end → TaskGoes program t s v p other → StoodSo u v q p end other × IsFixedTask u
      task_once _ _ v _ _ p _ other fixed (TaskGoes.makes t u s q r end m access more) d =
          task_once (with_record t r) u v (after_record s r) q p end other fixed more (past_access r.kind t s r v p other access (past_record t v s p other r fixed m d))
      task_once _ _ v _ _ p _ other fixed (TaskGoes.waits t s r m is) d = (subst (λ (k : Kind). GoesPast k t s r v p other) is (past_record t v s p other r fixed m d), fixed)
      task_once _ _ v _ _ p _ other fixed (TaskGoes.ends t s r m is) d = (subst (λ (k : Kind). GoesPast k t s r v p other) is (past_record t v s p other r fixed m d), fixed)
      task_once _ _ v _ _ p _ other fixed (TaskGoes.stops t s line why traced) d = (past_stop t v s p other line why fixed traced d, fixed)
      task_once _ _ v _ _ p _ other fixed (TaskGoes.would_make t s on none) d = (past_room t v s p other on none d, fixed)
      task_once _ _ v _ _ p _ other fixed (TaskGoes.passes t u s w q r fork lanes end f goes few more) d =
          task_once (past_lanes t r lanes) u v w q p end other fixed more
          (past_few t v r lanes w p other Still.at_end few refl
          (past_fork t v s p w other Still.at_end r fork lanes fixed f (λ others also still g. region_once (lanes_of t fork) lanes others (after_record s r) w also Still.at_end still (lanes_fixed t s r fork fixed f) goes g) d))
      task_once _ _ v _ _ p _ other fixed (TaskGoes.is_crowded t s q r fork lanes f goes most) d = (
        past_most t v r lanes q p other Still.at_end most refl
            (past_fork t v s p q other Still.at_end r fork lanes fixed f (λ others also still g. region_once (lanes_of t fork) lanes others (after_record s r) q also Still.at_end still (lanes_fixed t s r fork fixed f) goes g) d),
        fixed,
      )
      task_once _ _ v _ _ p _ other fixed (TaskGoes.breaks t s q r fork lanes end f goes broken) d = (
        past_broken t v r lanes q p other end broken
            (past_fork t v s p q other end r fork lanes fixed f (λ others also still g. region_once (lanes_of t fork) lanes others (after_record s r) q also end still (lanes_fixed t s r fork fixed f) goes g) d),
        fixed,
      )

      phase_once : (ts us vs : List SerialTask) (s q p : Shared) (end other : Still) → All IsFixedTask ts → PhaseGoes program ts s us q end → PhaseGoes program ts s vs p other
          → StoodSo us vs q p end other × All IsFixedTask us
      phase_once _ _ _ _ _ _ _ _ fixed (PhaseGoes.last t u s q end one) (PhaseGoes.last _ v _ p other two) =
          lane_alone u v [] q p end other (task_once t u v s q p end other (All-head IsFixedTask t [] fixed) one two) (All-tail IsFixedTask t [] fixed)
      phase_once _ _ _ _ _ _ _ _ fixed (PhaseGoes.last t u s q end one) (PhaseGoes.lane _ v ts vs _ k p other also two few more) = absurd (no_lanes [] vs k p also refl more)
      phase_once _ _ _ _ _ _ _ _ fixed (PhaseGoes.lane t u ts us s w q end others one few more) (PhaseGoes.last _ v _ p other two) = absurd (no_lanes [] us w q others refl more)
      phase_once _ _ _ _ _ _ _ _ fixed (PhaseGoes.lane t u ts us s w q end others one few more) (PhaseGoes.lane _ v _ vs _ k p other also two less rest) =
          let first = task_once t u v s w k end other (All-head IsFixedTask t ts fixed) one two in
          lanes_so u v us vs w k q p end other others also first
          (phase_once ts us vs w q p others also (All-tail IsFixedTask t ts fixed) more (subst (λ (x : Shared). PhaseGoes program ts x vs p also) first.0.shared rest))
      phase_once _ _ _ _ _ _ _ _ fixed (PhaseGoes.lane t u ts us s w q end others one few more) (PhaseGoes.no_more _ v x xs _ p other two most) =
          absurd (few (subst IsTooLong (task_once t u v s w p end other (All-head IsFixedTask t (x ∷ xs) fixed) one two).0.still most))
      phase_once _ _ _ _ _ _ _ _ fixed (PhaseGoes.no_more t u x xs s q end one most) (PhaseGoes.lane _ v _ vs _ k p other also two few rest) =
          absurd (few (subst IsTooLong (sym (task_once t u v s q k end other (All-head IsFixedTask t (x ∷ xs) fixed) one two).0.still) most))
      phase_once _ _ _ _ _ _ _ _ fixed (PhaseGoes.no_more t u x xs s q end one most) (PhaseGoes.no_more _ v _ _ _ p other two also) =
          lane_alone u v (x ∷ xs) q p end other (task_once t u v s q p end other (All-head IsFixedTask t (x ∷ xs) fixed) one two) (All-tail IsFixedTask t (x ∷ xs) fixed)

      region_once : (ts us vs : List SerialTask) (s q p : Shared) (end other : Still) → All IsFixedTask ts → RegionGoes program ts s us q end → RegionGoes program ts s vs p other
          → StoodSo us vs q p end other
      region_once _ _ _ _ _ _ _ _ fixed (RegionGoes.over ts us s q end one last) (RegionGoes.over _ vs _ p other two also) = (phase_once ts us vs s q p end other fixed one two).0
      region_once _ _ _ _ _ _ _ _ fixed (RegionGoes.over ts us s q end one last) (RegionGoes.next _ ws vs _ k p other two rest) =
          absurd (last (sym (phase_once ts us ws s q k end Still.at_barrier fixed one two).0.still))
      region_once _ _ _ _ _ _ _ _ fixed (RegionGoes.next ts ws us s k q end one more) (RegionGoes.over _ vs _ p other two last) =
          absurd (last (phase_once ts ws vs s k p Still.at_barrier other fixed one two).0.still)
      region_once _ _ _ _ _ _ _ _ fixed (RegionGoes.next ts ws us s k q end one more) (RegionGoes.next _ xs vs _ j p other two rest) =
          let first = phase_once ts ws xs s k j Still.at_barrier Still.at_barrier fixed one two in
          region_once ws us vs k q p end other first.1 more
          (subst (λ (x : List SerialTask). RegionGoes program x k vs p other) first.0.task (subst (λ (x : Shared). RegionGoes program xs x vs p other) first.0.shared rest))

module _ (program : Program) (lawful : IsLawful program) (fixed : IsFixed program.main.body) where
  pub one_run : (room : ℕ) (tasks others : Trace) (memory also : ℕ → ℕ) (end other : Still) → GoesSerially program room tasks memory end → GoesSerially program room others also other
      → (others ≡ tasks) × (also ≡ memory) × (other ≡ end)
  one_run room tasks others memory also end other one two =
      let same = (task_once program lawful.bounded _ one.root two.root _ _ _ end other fixed one.goes two.goes).0 in
      (two.tasks_are ∙ (ap tasks_of same.task ∙ sym one.tasks_are), ap (λ (s : Shared). s.memory) same.shared, same.still)
