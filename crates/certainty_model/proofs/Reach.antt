-- What happens before a record in the run that ended does so in the other, where no reads part before the record.
use Rattle.std.proofs.Common.{◌≡◌, refl, ap, sym, ◌∙◌, subst, ℕ, ◌+◌, ◌<◌, List, [], length, take, arith}
use Rattle.std.specs.Prelude.{slice_get}
use Rattle.std.proofs.lemmas.List.{same_from_push}
use Rattle.sw_base.specs.declared.path.Step.{Step}
use Rattle.sw_base.proofs.Lists.{get_seam}
use Rattle.log_format.specs.declared.record.Record.{Record}
use Rattle.log_format.specs.declared.record.Kind.TheVariants as kind
use Rattle.race_model.specs.ForkJoin.{IsTask, WasForked}
use Rattle.race_model.specs.Listing.{lane_of}
use Rattle.race_model.specs.Order.{IsLane, IsNext, IsForkEdge, IsJoinEdge, IsBarrierEdge, Edge, HasEdge, HappensBefore}
use Rattle.race_model.specs.Trace.{Logs, Node, IsThere, HasKind, regions_before, barriers_before, barrier_count}
use Rattle.race_laws.proofs.Chains.{enter}
use Rattle.race_laws.proofs.Counts.{there, barriers_after, barrier_at, BarrierAt}
use Rattle.race_laws.proofs.LabelPlace.{is_region, same_node, same_region, same_index}
use Rattle.race_laws.proofs.ProgramOrder.{node, happens_before_trans, happens_before_edge}
use Rattle.kernel_syntax.specs.Program.{Program}
use Rattle.history_model.specs.Joined.{LastIsEnd}
use Rattle.execution_model.specs.Execution.{HaveMet, HaveJoined}
use Rattle.certainty_model.proofs.Descent.{AreRuns, there_before, lane_longer, CalmBefore, calm_earlier, Agreed, agreed, same_kind, other_kind, same_record, same_regions, same_barriers}

-- a barrier is known by its task and its number
same_barrier : (logs : Logs) (x y : Node) → HasKind logs x kind.Barrier → HasKind logs y kind.Barrier → x.path ≡ y.path → barriers_before logs x ≡ barriers_before logs y → x ≡ y
same_barrier logs x y x_is y_is same number =
    let up : x.index < y.index → barriers_before logs x < barriers_before logs y = barriers_after logs x y x_is same in
    let down : y.index < x.index → barriers_before logs y < barriers_before logs x = barriers_after logs y x y_is (sym same) in
    same_node x y same (same_index x.index y.index (barriers_before logs x) (barriers_before logs y) up down number)

-- the step to a lane of the region at the node
abbrev step_of : Logs → Node → ℕ → ℕ → Step
step_of logs fork lane span = record { region = regions_before logs fork; lane = lane; span = span }

next_there : (logs : Logs) (x y : Node) → IsNext x y → IsThere logs y → IsThere logs x
next_there logs x y e here = omega (arith, ap (λ (p : List Step). length (logs p)) e.same_log, e.after)

next_edge : (logs : Logs) (x y : Node) → IsNext x y → IsThere logs y → HasEdge logs x y
next_edge logs x y e here = record { from_there = next_there logs x y e here; to_there = here; edge = Edge.next e }

next_apart : (x y : Node) → IsNext x y → x ≡ y → ⊥
next_apart x y e same = omega (arith, ap (λ (w : Node). w.index) same, e.after)

module _ (program : Program) (S T : Logs) (Lists : List Step → Type 0) (runs : AreRuns program S T Lists) (met : HaveMet T) (joined : HaveJoined T)
    (one_end : (x y : Node) → x.path ≡ y.path → HasKind S x kind.End → HasKind S y kind.End → x.index ≡ y.index) where
  abbrev Is : Node → Type 0
  Is x = Agreed program S T Lists runs x

  abbrev Quiet : Node → Type 0
  Quiet x = CalmBefore program S T Lists runs x

  -- what has an edge to a record that nothing parts before
  agreed_by : (p x : Node) → HasEdge T p x → (p ≡ x → ⊥) → Quiet x → Is p
  agreed_by p x edge apart calm =
      agreed program S T Lists runs p edge.from_there (calm_earlier program S T Lists runs p x edge.to_there (happens_before_edge T p x edge) apart calm)

  -- a lane of a region that both have
  lane_here : (fork : Node) (lane span : ℕ) (path : List Step) → Is fork → IsLane S fork lane span path → IsLane T fork lane span path
  lane_here fork lane span path a l = record {
    event = l.event;
    found = same_record program S T Lists runs fork a ∙ l.found;
    region = l.region;
    spans = l.spans;
    in_span = l.in_span;
    child = l.child ∙ ap (λ (n : ℕ). lane_of fork.path n lane span) (sym (same_regions program S T Lists runs fork a));
  }

  -- the region of a lane's record
  record Back (fork : Node) (lane span : ℕ) (x : Node) : Type 0 where
    same : Is fork
    forked : IsLane T fork lane span x.path

  lane_back : (fork : Node) (lane span : ℕ) (x : Node) → IsLane S fork lane span x.path → IsThere T x → Quiet x → Back fork lane span x
  lane_back fork lane span x l here calm = by (runs.tree.forked fork.path (step_of S fork lane span) (subst Lists l.child (runs.lists x.path (let some : IsTask T x.path = omega arith in some))))
    where
      by : WasForked T fork.path (step_of S fork lane span) → Back fork lane span x
      by w = record { same = subst Is fork_is agrees; forked = subst (λ (f : Node). IsLane T f lane span x.path) fork_is in_other }
        where
          in_other : IsLane T w.fork lane span x.path
          in_other = subst (λ (p : List Step). IsLane T w.fork lane span p) (sym l.child) w.lane

          apart : w.fork ≡ x → ⊥
          apart is = omega (arith, lane_longer T w.fork lane span x.path in_other, ap (λ (n : Node). length n.path) is)

          agrees : Is w.fork
          agrees = agreed program S T Lists runs w.fork (there T w.fork kind.Region (is_region T w.fork lane span x.path in_other))
              (calm_earlier program S T Lists runs w.fork x here (enter T w.fork x lane span in_other here) apart calm)

          -- the lane's path tells the region's number
          number : regions_before T w.fork ≡ regions_before S fork
          number = ap (λ (s : Step). s.region) (same_from_push w.fork.path fork.path (record { region = regions_before T w.fork; lane = lane; span = span }) (step_of S fork lane span) (sym in_other.child ∙ l.child)).1

          fork_is : w.fork ≡ fork
          fork_is =
              same_region S w.fork fork (same_kind program S T Lists runs w.fork kind.Region agrees (is_region T w.fork lane span x.path in_other)) (is_region S fork lane span x.path l)
              w.above (sym (same_regions program S T Lists runs w.fork agrees) ∙ number)

  back_fork : (x y : Node) → IsForkEdge S x y → IsThere T y → Quiet y → HasEdge T x y
  back_fork x y e here calm =
      let b = lane_back x e.lane e.span y e.forked here calm in
      record { from_there = b.same.here; to_there = here; edge = Edge.fork (record { lane = e.lane; span = e.span; forked = b.forked; first = e.first }) }

  back_join : (x y : Node) → IsJoinEdge S x y → IsThere T y → Quiet y → HasEdge T x y
  back_join x y e here calm = by (joined e.fork e.lane e.span x.path lane after_there)
    where
      fork_is : Is e.fork
      fork_is = agreed_by e.fork y (next_edge T e.fork y e.after here) (next_apart e.fork y e.after) calm

      lane : IsLane T e.fork e.lane e.span x.path
      lane = lane_here e.fork e.lane e.span x.path fork_is e.forked

      after_there : IsThere T (node e.fork.path (e.fork.index + 1))
      after_there = omega (arith, ap (λ (p : List Step). length (T p)) e.after.same_log, e.after.after)

      by : LastIsEnd (T x.path) → HasEdge T x y
      by end = subst (λ (w : Node). HasEdge T w y) last_is edge
        where
          last : Node
          last = node x.path (length end.prefix)

          last_ends : HasKind T (node x.path (length end.prefix)) kind.End
          last_ends = record { event = end.last; found = ap (λ (rs : List Record). slice_get rs (length end.prefix)) end.parts ∙ get_seam end.prefix end.last []; kind_is = end.ends }

          edge : HasEdge T (node x.path (length end.prefix)) y
          edge = record {
            from_there = there T (node x.path (length end.prefix)) kind.End last_ends;
            to_there = here;
            edge = Edge.join (record { fork = e.fork; lane = e.lane; span = e.span; forked = lane; ended = last_ends; after = e.after });
          }

          apart : node x.path (length end.prefix) ≡ y → ⊥
          apart is = omega (arith, lane_longer T e.fork e.lane e.span x.path lane, ap (λ (n : Node). length n.path) is, ap length e.after.same_log)

          in_one : HasKind S (node x.path (length end.prefix)) kind.End
          in_one = same_kind program S T Lists runs (node x.path (length end.prefix)) kind.End (agreed_by (node x.path (length end.prefix)) y edge apart calm) last_ends

          last_is : node x.path (length end.prefix) ≡ x
          last_is = same_node (node x.path (length end.prefix)) x refl (one_end (node x.path (length end.prefix)) x refl in_one e.ended)

  back_barrier : (x y : Node) → IsBarrierEdge S x y → IsThere T y → Quiet y → HasEdge T x y
  back_barrier x y e here calm = by (barrier_at T x.path (barriers_before S x) reaches)
    where
      met_is : Is e.met
      met_is = agreed_by e.met y (next_edge T e.met y e.after here) (next_apart e.met y e.after) calm

      met_calm : Quiet e.met
      met_calm q before apart = calm_earlier program S T Lists runs e.met y here (happens_before_edge T e.met y (next_edge T e.met y e.after here)) (next_apart e.met y e.after) calm q before

      team : Back e.fork e.to_lane e.span e.met
      team = lane_back e.fork e.to_lane e.span e.met e.to_team met_is.here met_calm

      from_team : IsLane T e.fork e.from_lane e.span x.path
      from_team = lane_here e.fork e.from_lane e.span x.path team.same e.from_team

      meets : HasKind T e.met kind.Barrier
      meets = other_kind program S T Lists runs e.met kind.Barrier met_is e.meets

      after : barriers_before T e.met < barriers_before T y
      after = let next = e.after.after in barriers_after T e.met y meets (sym e.after.same_log) (omega arith)

      number : barriers_before S x ≡ barriers_before T e.met
      number = e.same_number ∙ sym (same_barriers program S T Lists runs e.met met_is)

      reaches : barriers_before S x < barrier_count (T x.path)
      reaches =
          let passed = met e.fork e.to_lane e.from_lane e.span e.met.path x.path y.index team.forked from_team (subst (λ (p : List Step). y.index < length (T p)) e.after.same_log here) in
          let same : barriers_before T y ≡ barrier_count (take y.index (T e.met.path)) = ap (λ (p : List Step). barrier_count (take y.index (T p))) e.after.same_log in
          omega (arith, after, number)

      by : BarrierAt T x.path (barriers_before S x) → HasEdge T x y
      by b = subst (λ (w : Node). HasEdge T w y) barrier_is edge
        where
          lane : IsLane T e.fork e.from_lane e.span b.barrier.path
          lane = subst (λ (p : List Step). IsLane T e.fork e.from_lane e.span p) (sym b.same_log) from_team

          edge : HasEdge T b.barrier y
          edge = record {
            from_there = there T b.barrier kind.Barrier b.is_barrier;
            to_there = here;
            edge = Edge.barrier (record {
              fork = e.fork;
              span = e.span;
              from_lane = e.from_lane;
              from_team = lane;
              reached = b.is_barrier;
              met = e.met;
              to_lane = e.to_lane;
              to_team = team.forked;
              meets = meets;
              same_number = b.passed ∙ number;
              after = e.after;
            });
          }

          apart : b.barrier ≡ y → ⊥
          apart is = omega (arith, after, number, ap (λ (w : Node). barriers_before T w) is, b.passed)

          agrees : Is b.barrier
          agrees = agreed_by b.barrier y edge apart calm

          barrier_is : b.barrier ≡ x
          barrier_is =
              same_barrier S b.barrier x (same_kind program S T Lists runs b.barrier kind.Barrier agrees b.is_barrier) e.reached b.same_log
              (sym (same_barriers program S T Lists runs b.barrier agrees) ∙ b.passed)

  back_edge : (x y : Node) → Edge S x y → IsThere T y → Quiet y → HasEdge T x y
  back_edge x y (Edge.next e) here calm = next_edge T x y e here
  back_edge x y (Edge.fork e) here calm = back_fork x y e here calm
  back_edge x y (Edge.join e) here calm = back_join x y e here calm
  back_edge x y (Edge.barrier e) here calm = back_barrier x y e here calm

  -- the law
  pub reach : (x y : Node) → HappensBefore S x y → IsThere T y → Quiet y → HappensBefore T x y
  reach _ _ (HappensBefore.here x) here calm = HappensBefore.here x
  reach _ _ (HappensBefore.step x w y edge rest) here calm = by (reach w y rest here calm)
    where
      by : HappensBefore T w y → HappensBefore T x y
      by before = HappensBefore.step x w y (back_edge x w edge.edge w_there w_calm) before
        where
          w_there : IsThere T w
          w_there = there_before T w y before here

          w_calm : Quiet w
          w_calm q q_before apart = calm q (happens_before_trans T q w y q_before before)
              (λ same. apart (same ∙ runs.in_order y w here w_there (subst (λ (v : Node). HappensBefore T v w) same q_before) before))
