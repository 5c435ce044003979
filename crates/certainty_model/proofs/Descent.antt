-- Where no reads part before a record, its task starts alike in both runs, and its log agrees up to the record.
use Rattle.std.proofs.Common.{◌≡◌, refl, ap, sym, ◌∙◌, subst, ◌⊎◌, inl, inr, ℕ, zero, suc, ◌+◌, ◌<◌, ◌≤◌, List, [], ◌∷◌, ◌++◌, length, take, Option, Some, arith}
use Rattle.std.specs.Prelude.{slice_get}
use Rattle.std.proofs.lemmas.Bool.{cases_lt}
use Rattle.std.proofs.lemmas.List.{length_push, same_from_push}
use Rattle.std.proofs.lemmas.Option.{same_Some}
use Rattle.sw_base.specs.declared.path.Step.{Step}
use Rattle.log_format.specs.declared.record.Record.{Record}
use Rattle.log_format.specs.declared.record.Kind.{Kind}
use Rattle.log_format.specs.declared.record.Kind.TheVariants as kind
use Rattle.race_model.specs.ForkJoin.{IsTask, IsTaskTree, WasForked}
use Rattle.race_model.specs.Order.{IsLane, HappensBefore}
use Rattle.race_model.specs.Trace.{Logs, Node, IsThere, HasKind, record_at, regions_before, barriers_before, region_count, barrier_count}
use Rattle.race_model.proofs.TraceLogs.{all_at}
use Rattle.race_laws.proofs.Chains.{enter}
use Rattle.race_laws.proofs.Counts.{there, regions_after}
use Rattle.race_laws.proofs.LabelPlace.{HasLast, has_last, is_region}
use Rattle.race_laws.proofs.ProgramOrder.{node, happens_before_trans, program_order}
use Rattle.kernel_syntax.specs.Program.{Program}
use Rattle.kernel_model.specs.State.{Fork, reads_of, chunks_of}
use Rattle.kernel_model.specs.Trace.{Start}
use Rattle.kernel_model.specs.Folder.{own_trace, root_start, lane_start, start_at, IsTraced}
use Rattle.kernel_model.proofs.Starts.{at_lane, at_root, IsLaneStart, lane_started}
use Rattle.execution_model.specs.Execution.{BeginsTrace, IsBegun}
use Rattle.certainty_model.specs.Certain.{IsFixed}
use Rattle.certainty_model.proofs.Lists.{same_taken}
use Rattle.certainty_model.proofs.Pairs.{FixedFork}
use Rattle.certainty_model.proofs.TwoTraces.{ends_quietly, EndsQuietly}
use Rattle.certainty_model.proofs.TwoLogs.{PartAt, AreSized, TwoLogs, two_logs}

-- one run of a fixed kernel that ended, and one that may have stopped and lists these tasks
pub record AreRuns (program : Program) (S T : Logs) (Lists : List Step → Type 0) : Type 0 where
  pub fixed : IsFixed program.main.body
  pub traced : (path : List Step) (start : Start) → start_at program S path ≡ Some start → IsTraced program start (S path)
  pub sized : (path : List Step) → AreSized (S path)
  pub begun : (path : List Step) → Lists path → IsBegun program T path
  pub lists : (path : List Step) → IsTask T path → Lists path
  pub tree : IsTaskTree Lists T
  pub in_order : (x y : Node) → IsThere T x → IsThere T y → HappensBefore T x y → HappensBefore T y x → x ≡ y

-- a run lists a task once it has a record
pub there_before : (logs : Logs) (x y : Node) → HappensBefore logs x y → IsThere logs y → IsThere logs x
there_before logs _ _ (HappensBefore.here x) there_y = there_y
there_before logs _ _ (HappensBefore.step x y z edge rest) there_z = edge.from_there

-- the path of a lane is longer
pub lane_longer : (logs : Logs) (fork : Node) (lane span : ℕ) (path : List Step) → IsLane logs fork lane span path → length path ≡ length fork.path + 1
lane_longer logs fork lane span path l = ap length l.child ∙ length_push fork.path _

module _ (program : Program) (S T : Logs) (Lists : List Step → Type 0) (runs : AreRuns program S T Lists) where
  -- the task starts alike in both
  pub record Same (path : List Step) : Type 0 where
    pub lists : Lists path
    pub start : Start
    pub in_one : start_at program S path ≡ Some start
    pub in_other : start_at program T path ≡ Some start
    pub fixed : IsFixed start.team.body

  begins : (path : List Step) (same : Same path) → BeginsTrace program same.start (T path)
  begins path same =
      let b = runs.begun path same.lists in
      subst (λ (s : Start). BeginsTrace program s (T path)) (same_Some b.start same.start (sym b.starts ∙ same.in_other)) b.begun

  pub two : (path : List Step) (same : Same path) → TwoLogs (S path) (T path) (own_trace program same.start (S path)).forks (own_trace program same.start (T path))
  two path same = two_logs program same.start (S path) (T path) same.fixed (runs.sized path) (runs.traced path same.start same.in_one) (begins path same)

  pub same_root : Same []
  same_root = record { lists = runs.tree.root; start = root_start program; in_one = at_root program S; in_other = at_root program T; fixed = runs.fixed }

  -- a lane of a region that both fork
  same_lane : (path : List Step) (step : Step) (same : Same path) (i : ℕ) → i ≤ (two path same).common → i ≤ length (T path) → step.region < region_count (take i (T path))
      → Lists (path ++ step ∷ []) → Same (path ++ step ∷ [])
  same_lane path step same i common within counted lists = by_lane (runs.begun (path ++ step ∷ []) lists)
    where
      forks_alike : slice_get (own_trace program same.start (T path)).forks step.region ≡ slice_get (own_trace program same.start (S path)).forks step.region
      forks_alike = (two path same).forks_alike i step.region common within counted

      ended : EndsQuietly (own_trace program same.start (S path)).records (own_trace program same.start (S path)).forks
      ended = ends_quietly program same.start (reads_of (S path)) (chunks_of (S path)) same.fixed (runs.traced path same.start same.in_one).ended

      fixed_lane : (next : Start) → IsLaneStart (slice_get (own_trace program same.start (S path)).forks step.region) step next → IsFixed next.team.body
      fixed_lane next l =
          subst (λ (s : Start). IsFixed s.team.body) (sym l.begins)
          (all_at FixedFork (own_trace program same.start (S path)).forks step.region l.fork ended.fixed l.forked)

      by_lane : IsBegun program T (path ++ step ∷ []) → Same (path ++ step ∷ [])
      by_lane b =
          let told : lane_start (slice_get (own_trace program same.start (S path)).forks step.region) step ≡ Some b.start =
          sym (ap (λ (o : Option Fork). lane_start o step) forks_alike) ∙ (sym (at_lane program T path same.start step same.in_other) ∙ b.starts) in
          record {
            lists = lists;
            start = b.start;
            in_one = at_lane program S path same.start step same.in_one ∙ told;
            in_other = b.starts;
            fixed = fixed_lane b.start (lane_started (slice_get (own_trace program same.start (S path)).forks step.region) step b.start told);
          }

  -- ---- records before which no reads part

  abbrev pub Parts : Node → Type 0
  Parts x = PartAt (record_at S x) (record_at T x)

  abbrev pub CalmBefore : Node → Type 0
  CalmBefore x = (q : Node) → HappensBefore T q x → (q ≡ x → ⊥) → Parts q → ⊥

  abbrev pub Calm : Node → Type 0
  Calm x = (q : Node) → HappensBefore T q x → Parts q → ⊥

  -- what comes before a calm record is calm
  pub calm_earlier : (p x : Node) → IsThere T x → HappensBefore T p x → (p ≡ x → ⊥) → CalmBefore x → Calm p
  calm_earlier p x here before apart calm q q_before parts =
      calm q (happens_before_trans T q p x q_before before)
      (λ same. apart (runs.in_order p x (there_before T p x before here) here before (subst (λ (w : Node). HappensBefore T w p) same q_before))) parts

  pub record Known (x : Node) : Type 0 where
    pub same : Same x.path
    pub within : x.index ≤ (two x.path same).common

  not_later : (x : Node) (same : Same x.path) → IsThere T x → CalmBefore x → x.index ≤ (two x.path same).common
  not_later x same here calm = elim (cases_lt (two x.path same).common x.index) [
    | inr le ↦ le
    | inl less ↦
        absurd (calm (node x.path (two x.path same).common) (program_order T (node x.path (two x.path same).common) x refl (omega arith) here)
        (λ is. omega (arith, ap (λ (w : Node). w.index) is)) ((two x.path same).parts (omega arith)))
  ]

  -- a record that isn't one of two reads that part
  pub before_common : (x : Node) (k : Known x) → IsThere T x → (Parts x → ⊥) → x.index < (two x.path k.same).common
  before_common x k here quiet = elim (cases_lt x.index (two x.path k.same).common) [
    | inl less ↦ less
    | inr le ↦
        let index : (two x.path k.same).common ≡ x.index = omega (arith, k.within) in
        absurd (quiet (subst (λ (i : ℕ). PartAt (slice_get (S x.path) i) (slice_get (T x.path) i)) index ((two x.path k.same).parts (omega arith))))
  ]

  -- a lane starts alike in both, where the log of its task agrees up to its region
  pub same_forked : (path : List Step) (step : Step) (w : WasForked T path step) → Lists (path ++ step ∷ []) → Known w.fork → (Parts w.fork → ⊥) → Same (path ++ step ∷ [])
  same_forked path step w lists k quiet =
      subst Same path_is (same_lane w.fork.path step k.same (w.fork.index + 1) (omega (arith, below)) (omega (arith, here)) counted (subst Lists (sym path_is) lists))
    where
      region : HasKind T w.fork kind.Region
      region = is_region T w.fork step.lane step.span (path ++ step ∷ []) w.lane

      here : IsThere T w.fork
      here = there T w.fork kind.Region region

      below : w.fork.index < (two w.fork.path k.same).common
      below = before_common w.fork k here quiet

      number : regions_before T w.fork ≡ step.region
      number = ap (λ (s : Step). s.region) (same_from_push w.fork.path path (record { region = regions_before T w.fork; lane = step.lane; span = step.span }) step (sym w.lane.child)).1

      counted : step.region < region_count (take (w.fork.index + 1) (T w.fork.path))
      counted = omega (arith, number, regions_after T w.fork (node w.fork.path (w.fork.index + 1)) region refl (omega arith))

      path_is : w.fork.path ++ step ∷ [] ≡ path ++ step ∷ []
      path_is = ap (λ (p : List Step). p ++ step ∷ []) w.above

  known_by : (d : ℕ) (x : Node) → length x.path < d → IsThere T x → CalmBefore x → Known x
  known_by zero x less here calm = absurd (omega arith)
  known_by (suc d) x less here calm = by (has_last x.path) (known_by d)
    where
      begun : IsTask T x.path
      begun = omega arith

      by : (x.path ≡ []) ⊎ HasLast x.path → ((y : Node) → length y.path < d → IsThere T y → CalmBefore y → Known y) → Known x
      by (inl is) above =
          let same : Same x.path = subst Same (sym is) same_root in
          record { same = same; within = not_later x same here calm }
      by (inr l) above = by_fork (runs.tree.forked l.prefix l.last (subst Lists l.parts (runs.lists x.path begun)))
        where
          by_fork : WasForked T l.prefix l.last → Known x
          by_fork w = record { same = same; within = not_later x same here calm }
            where
              lane : IsLane T w.fork l.last.lane l.last.span x.path
              lane = subst (λ (p : List Step). IsLane T w.fork l.last.lane l.last.span p) (sym l.parts) w.lane

              not_here : w.fork ≡ x → ⊥
              not_here is = omega (arith, lane_longer T w.fork l.last.lane l.last.span x.path lane, ap (λ (n : Node). length n.path) is)

              calm_fork : Calm w.fork
              calm_fork = calm_earlier w.fork x here (enter T w.fork x l.last.lane l.last.span lane here) not_here calm

              known_fork : Known w.fork
              known_fork =
                  above w.fork (let longer = lane_longer T w.fork l.last.lane l.last.span x.path lane in omega arith)
                  (there T w.fork kind.Region (is_region T w.fork l.last.lane l.last.span x.path lane)) (λ q before apart. calm_fork q before)

              same : Same x.path
              same = subst Same (sym l.parts) (same_forked l.prefix l.last w (subst Lists l.parts (runs.lists x.path begun)) known_fork (calm_fork w.fork (HappensBefore.here w.fork)))

  pub known : (x : Node) → IsThere T x → CalmBefore x → Known x
  known x here calm = known_by (suc (length x.path)) x (omega arith) here calm

  -- the record and all before it in its log are the same in both
  pub record Agreed (x : Node) : Type 0 where
    pub here : IsThere T x
    pub known : Known x
    pub below : x.index < (two x.path known.same).common

  pub agreed : (x : Node) → IsThere T x → Calm x → Agreed x
  agreed x here calm =
      let k = known x here (λ q before apart. calm q before) in
      record { here = here; known = k; below = before_common x k here (calm x (HappensBefore.here x)) }

  pub taken : (x : Node) (k : Known x) → IsThere T x → take x.index (T x.path) ≡ take x.index (S x.path)
  taken x k here = (two x.path k.same).alike x.index k.within (omega arith)

  pub same_record : (x : Node) → Agreed x → record_at T x ≡ record_at S x
  same_record x a = same_taken (T x.path) (S x.path) x.index (suc x.index) (omega arith) ((two x.path a.known.same).alike (suc x.index) a.below a.here)

  pub same_kind : (x : Node) (k : Kind) → Agreed x → HasKind T x k → HasKind S x k
  same_kind x k a h = record { event = h.event; found = sym (same_record x a) ∙ h.found; kind_is = h.kind_is }

  pub other_kind : (x : Node) (k : Kind) → Agreed x → HasKind S x k → HasKind T x k
  other_kind x k a h = record { event = h.event; found = same_record x a ∙ h.found; kind_is = h.kind_is }

  pub same_regions : (x : Node) → Agreed x → regions_before T x ≡ regions_before S x
  same_regions x a = ap (λ (rs : List Record). region_count rs) (taken x a.known a.here)

  pub same_barriers : (x : Node) → Agreed x → barriers_before T x ≡ barriers_before S x
  same_barriers x a = ap (λ (rs : List Record). barrier_count rs) (taken x a.known a.here)
