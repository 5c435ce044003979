-- What happens before a record by logs does so by longer ones.
use Rattle.std.proofs.Common.{◌≡◌, ◌⊎◌, inl, inr, sym, ap, ◌∙◌, ℕ, ◌≤◌, List, [], ◌∷◌, ◌++◌, length, take, Some, arith, length-append}
use Rattle.std.specs.Prelude.{slice_get, map, reverse}
use Rattle.std.proofs.lemmas.List.{append-nil, take-append-le}
use Rattle.std.proofs.lemmas.Option.{slice_get_within}
use Rattle.sw_base.proofs.Lists.{get_more}
use Rattle.sw_base.specs.declared.path.Step.{Step}
use Rattle.log_format.specs.declared.record.Record.{Record}
use Rattle.log_format.specs.declared.record.Kind.{Kind}
use Rattle.race_model.specs.Listing.{lane_of}
use Rattle.race_model.specs.Trace.{Logs, Node, IsThere, HasKind, record_at, region_count, barrier_count}
use Rattle.race_model.specs.Order.{IsLane, Edge, HappensBefore}
use Rattle.race_model.specs.History.{IsReleased, released, release}
use Rattle.race_model.specs.Race.{held_after}

-- each log goes on in the other
abbrev pub GoesOn : Logs → Logs → Type 0
GoesOn logs full = (path : List Step) → (rest : List Record) × (full path ≡ logs path ++ rest)

module _ (logs full : Logs) (on : GoesOn logs full) where
  pub at_full : (x : Node) (r : Record) → record_at logs x ≡ Some r → record_at full x ≡ Some r
  at_full x r found = ap (λ (rs : List Record). slice_get rs x.index) (on x.path).1 ∙ get_more (logs x.path) (on x.path).0 x.index r found

  pub take_full : (x : Node) → x.index ≤ length (logs x.path) → take x.index (full x.path) ≡ take x.index (logs x.path)
  take_full x le = ap (λ (rs : List Record). take x.index rs) (on x.path).1 ∙ take-append-le x.index (logs x.path) (on x.path).0 le

  pub there_full : (x : Node) → IsThere logs x → IsThere full x
  there_full x here = let size = ap length (on x.path).1 ∙ length-append (logs x.path) (on x.path).0 in omega arith

  found_le : (x : Node) (r : Record) → record_at logs x ≡ Some r → x.index ≤ length (logs x.path)
  found_le x r found = let less = slice_get_within (logs x.path) x.index r found in omega arith

  pub lane_full : (fork : Node) (lane span : ℕ) (path : List Step) → IsLane logs fork lane span path → IsLane full fork lane span path
  lane_full fork lane span path is = record {
    event = is.event;
    found = at_full fork is.event is.found;
    region = is.region;
    spans = is.spans;
    in_span = is.in_span;
    child = is.child ∙ ap (λ (rs : List Record). lane_of fork.path (region_count rs) lane span) (sym (take_full fork (found_le fork is.event is.found)));
  }

  kind_full : (x : Node) (kind : Kind) → HasKind logs x kind → HasKind full x kind
  kind_full x kind has = record { event = has.event; found = at_full x has.event has.found; kind_is = has.kind_is }

  edge_full : (x y : Node) → Edge logs x y → Edge full x y
  edge_full x y (Edge.next e) = Edge.next e
  edge_full x y (Edge.fork e) = Edge.fork (record { lane = e.lane; span = e.span; forked = lane_full x e.lane e.span y.path e.forked; first = e.first })
  edge_full x y (Edge.join e) = Edge.join (record { fork = e.fork; lane = e.lane; span = e.span; forked = lane_full e.fork e.lane e.span x.path e.forked; ended = kind_full x _ e.ended; after = e.after })
  edge_full x y (Edge.barrier e) = Edge.barrier (record {
    fork = e.fork;
    span = e.span;
    from_lane = e.from_lane;
    from_team = lane_full e.fork e.from_lane e.span x.path e.from_team;
    reached = kind_full x _ e.reached;
    met = e.met;
    to_lane = e.to_lane;
    to_team = lane_full e.fork e.to_lane e.span e.met.path e.to_team;
    meets = kind_full e.met _ e.meets;
    same_number = ap (λ (rs : List Record). barrier_count rs) (take_full x (found_le x e.reached.event e.reached.found)) ∙ e.same_number
        ∙ ap (λ (rs : List Record). barrier_count rs) (sym (take_full e.met (found_le e.met e.meets.event e.meets.found)));
    after = e.after;
  })

  pub before_full : (x y : Node) → HappensBefore logs x y → HappensBefore full x y
  before_full x _ (HappensBefore.here x1) = HappensBefore.here x
  before_full x z (HappensBefore.step x1 y z1 e rest) =
      HappensBefore.step x y z (record { from_there = there_full x e.from_there; to_there = there_full y e.to_there; edge = edge_full x y e.edge }) (before_full y z rest)

-- logs go on where a task releases what it holds
pub released_on : (logs full : Logs) → IsReleased logs full → GoesOn logs full
released_on logs full is path = at (is path) where
  at : (full path ≡ logs path) ⊎ (full path ≡ released (logs path)) → (rest : List Record) × (full path ≡ logs path ++ rest)
  at (inl same) = ([], same ∙ sym (append-nil (logs path)))
  at (inr same) = (map release (reverse (held_after [] (logs path))), same)
