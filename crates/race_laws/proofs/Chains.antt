-- Chains of edges: down into a task and out of it, and over a barrier, also in a run that stopped.
use Rattle.std.proofs.Common.{◌≡◌, ℕ, ◌+◌, ◌<◌, List, [], ◌∷◌, ◌++◌, length, refl, sym, ap, subst, arith, ◌∙◌, ap₂, Some}
use Rattle.std.specs.Prelude.{slice_get}
use Rattle.std.proofs.lemmas.List.{length_push, get_or_push}
use Rattle.std.proofs.lemmas.Option.{slice_get-get_or}
use Rattle.sw_base.specs.declared.path.Step.{Step}
use Rattle.log_format.specs.declared.record.Record.{Record}
use Rattle.log_format.specs.declared.record.Kind.{Kind}
use Rattle.log_format.specs.declared.record.Kind.TheVariants.{Barrier, Region, End}
use Rattle.race_model.specs.Trace.{Logs, Node, record_at, IsThere, HasKind, barriers_before}
use Rattle.race_model.specs.Order.{IsLane, Edge, HappensBefore}
use Rattle.race_model.specs.ForkJoin.{IsForkJoin}
use Rattle.race_laws.proofs.Counts.{there}
use Rattle.race_laws.proofs.LabelPlace.{is_region}
use Rattle.race_laws.proofs.ProgramOrder.{node, happens_before_trans, happens_before_edge, program_order}

slice_get_last : {X : Type 0} (xs prefix : List X) (x : X) → xs ≡ prefix ++ x ∷ [] → slice_get xs (length prefix) ≡ Some x
slice_get_last xs prefix x e = rw e (slice_get-get_or (prefix ++ x ∷ []) (length prefix) x (let more = length_push prefix x in omega arith) ∙ ap Some (get_or_push prefix x x (length prefix) refl))

-- the last record of a task, an End
pub record LastOf (logs : Logs) (path : List Step) : Type 0 where
  pub index : ℕ
  pub is_end : HasKind logs (node path index) End
  pub last : length (logs path) ≡ index + 1

pub last_of : (logs : Logs) (path : List Step) (prefix : List Record) (last : Record) → logs path ≡ prefix ++ last ∷ [] → last.kind ≡ End → LastOf logs path
last_of logs path prefix last parts ends = record {
  index = length prefix;
  is_end = record { event = last; found = slice_get_last (logs path) prefix last parts; kind_is = ends };
  last = ap length parts ∙ length_push prefix last;
}

-- a task goes on after a region only once all lanes of the region have ended
abbrev pub AreJoined : Logs → Type 0
AreJoined logs = (fork : Node) (n s : ℕ) (path : List Step) → IsLane logs fork n s path → IsThere logs (node fork.path (fork.index + 1)) → LastOf logs path

pub tree_joined : (logs : Logs) → IsForkJoin logs → AreJoined logs
tree_joined logs tree fork n s path lane more = let e = tree.ends.ended path (tree.ends.lanes fork n s path lane) in last_of logs path e.prefix e.last e.parts e.ends

-- a record has one kind
pub one_kind : (logs : Logs) (x y : Node) (k l : Kind) → x.path ≡ y.path → x.index ≡ y.index → HasKind logs x k → HasKind logs y l → k ≡ l
one_kind logs x y k l p e h g =
    let same : record_at logs x ≡ record_at logs y = ap₂ (λ path i. slice_get (logs path) i) p e in
    let h_found = h.found in
    let g_found = g.found in
    let h_kind = h.kind_is in
    let g_kind = g.kind_is in
    cc

-- a region isn't the last record
after_region : (logs : Logs) (fork : Node) → LastOf logs fork.path → HasKind logs fork Region → IsThere logs (node fork.path (fork.index + 1))
after_region logs fork l region =
    let here = there logs fork Region region in
    let not_last : fork.index ≡ l.index → ⊥ = λ e. let same : Region ≡ End = one_kind logs fork (node fork.path l.index) Region End refl e region l.is_end in cc in
    let long = l.last in
    grind arith

-- into a lane
pub enter : (logs : Logs) (fork x : Node) (n s : ℕ) → IsLane logs fork n s x.path → IsThere logs x → HappensBefore logs fork x
enter logs fork x n s lane here =
    HappensBefore.step fork (node x.path 0) x
    (record {
      from_there = there logs fork Region (is_region logs fork n s x.path lane);
      to_there = omega arith;
      edge = Edge.fork (record { lane = n; span = s; forked = lane; first = refl });
    })
    (program_order logs (node x.path 0) x refl (omega arith) here)

-- the task of the path stands below the region
pub data IsBelow (logs : Logs) (region : Node) : List Step → Type 0 where
  child : (n s : ℕ) (path : List Step) → IsLane logs region n s path → IsBelow logs region path
  deeper : (fork : Node) (n s : ℕ) (path : List Step) → IsLane logs fork n s path → IsBelow logs region fork.path → IsBelow logs region path

pub below_region : (logs : Logs) (region : Node) (path : List Step) → IsBelow logs region path → HasKind logs region Region
below_region logs region _ (IsBelow.child n s path lane) = is_region logs region n s path lane
below_region logs region _ (IsBelow.deeper fork n s path lane below) = below_region logs region fork.path below

-- a region happens before all that stands below it
pub down : (logs : Logs) (region : Node) (path : List Step) → IsBelow logs region path → (x : Node) → x.path ≡ path → IsThere logs x → HappensBefore logs region x
down logs region _ (IsBelow.child n s path lane) x e here = enter logs region x n s (subst (λ (p : List Step). IsLane logs region n s p) (sym e) lane) here
down logs region _ (IsBelow.deeper fork n s path lane below) x e here =
    happens_before_trans logs region fork x
    (down logs region fork.path below fork refl (there logs fork Region (is_region logs fork n s path lane)))
    (enter logs fork x n s (subst (λ (p : List Step). IsLane logs fork n s p) (sym e) lane) here)

module _ (logs : Logs) (joined : AreJoined logs) where
  -- out of a lane
  leave : (fork x : Node) (n s : ℕ) → IsLane logs fork n s x.path → IsThere logs x → IsThere logs (node fork.path (fork.index + 1)) → HappensBefore logs x (node fork.path (fork.index + 1))
  leave fork x n s lane here more =
      let l = joined fork n s x.path lane more in
      let end = node x.path l.index in
      let end_there = there logs end End l.is_end in
      let long = l.last in
      happens_before_trans logs x end (node fork.path (fork.index + 1))
      (program_order logs x end refl (omega arith) end_there)
      (happens_before_edge logs end (node fork.path (fork.index + 1)) (record {
        from_there = end_there;
        to_there = more;
        edge = Edge.join (record { fork = fork; lane = n; span = s; forked = lane; ended = l.is_end; after = record { same_log = refl; after = refl } });
      }))

  -- where a task goes on after a region, the tasks below have ended
  ended : (region : Node) (path : List Step) → IsBelow logs region path → IsThere logs (node region.path (region.index + 1)) → LastOf logs path
  ended region _ (IsBelow.child n s path lane) more = joined region n s path lane more
  ended region _ (IsBelow.deeper fork n s path lane below) more =
      joined fork n s path lane (after_region logs fork (ended region fork.path below more) (is_region logs fork n s path lane))

  -- and all that they did happens before it
  pub out : (region : Node) (path : List Step) → IsBelow logs region path → IsThere logs (node region.path (region.index + 1)) → (x : Node) → x.path ≡ path → IsThere logs x
      → HappensBefore logs x (node region.path (region.index + 1))
  out region _ (IsBelow.child n s path lane) more x e here = leave region x n s (subst (λ (p : List Step). IsLane logs region n s p) (sym e) lane) here more
  out region _ (IsBelow.deeper fork n s path lane below) more x e here =
      let next : IsThere logs (node fork.path (fork.index + 1)) = after_region logs fork (ended region fork.path below more) (is_region logs fork n s path lane) in
      happens_before_trans logs x (node fork.path (fork.index + 1)) (node region.path (region.index + 1))
      (leave fork x n s (subst (λ (p : List Step). IsLane logs fork n s p) (sym e) lane) here next)
      (out region fork.path below more (node fork.path (fork.index + 1)) refl next)

-- over a barrier, from one lane of a team into another
pub over : (logs : Logs) (fork w met y : Node) (n m s : ℕ) → IsLane logs fork n s w.path → HasKind logs w Barrier → IsLane logs fork m s met.path → HasKind logs met Barrier
    → barriers_before logs w ≡ barriers_before logs met → met.path ≡ y.path → met.index < y.index → IsThere logs y → HappensBefore logs w y
over logs fork w met y n m s from reached to meets number same later y_there =
    let long : y.index < length (logs met.path) = subst (λ (p : List Step). y.index < length (logs p)) (sym same) y_there in
    HappensBefore.step w (node met.path (met.index + 1)) y
    (record {
      from_there = there logs w Barrier reached;
      to_there = omega arith;
      edge = Edge.barrier (record {
        fork = fork;
        span = s;
        from_lane = n;
        from_team = from;
        reached = reached;
        met = met;
        to_lane = m;
        to_team = to;
        meets = meets;
        same_number = number;
        after = record { same_log = refl; after = refl };
      });
    })
    (program_order logs (node met.path (met.index + 1)) y same (omega arith) y_there)
