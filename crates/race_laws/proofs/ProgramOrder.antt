-- Happens-before is transitive, and each record happens before the later ones of its log.
use Rattle.std.proofs.Common.{◌≡◌, ℕ, zero, suc, ◌+◌, ◌≤◌, ◌-◌, List, refl, subst, arith}
use Rattle.sw_base.specs.declared.path.Step.{Step}
use Rattle.race_model.specs.Trace.{Logs, Node, IsThere}
use Rattle.race_model.specs.Order.{HasEdge, Edge, HappensBefore}

-- the record of this number in the log of this path
abbrev pub node : List Step → ℕ → Node
node path index = record { path = path; index = index }

pub happens_before_trans : (logs : Logs) (x y z : Node) → HappensBefore logs x y → HappensBefore logs y z → HappensBefore logs x z
happens_before_trans logs x y z (HappensBefore.here x') after = after
happens_before_trans logs x y z (HappensBefore.step x' w y' edge rest) after =
    HappensBefore.step _ _ _ edge (happens_before_trans logs w y z rest after)

-- an edge, and what happens before by it
pub happens_before_edge : (logs : Logs) (x y : Node) → HasEdge logs x y → HappensBefore logs x y
happens_before_edge logs x y edge = HappensBefore.step x y y edge (HappensBefore.here y)

-- the record that is d places later
later : (logs : Logs) (path : List Step) (d i j : ℕ) → i + d ≡ j → IsThere logs (node path j) → HappensBefore logs (node path i) (node path j)
later logs path zero i j e there = subst (λ (k : ℕ). HappensBefore logs (node path i) (node path k)) (let same : i ≡ j = omega arith in same) (HappensBefore.here (node path i))
later logs path (suc d) i j e there =
    HappensBefore.step (node path i) (node path (suc i)) (node path j)
    (record { from_there = omega arith; to_there = omega arith; edge = Edge.next (record { same_log = refl; after = omega arith }) })
    (later logs path d (suc i) j (omega arith) there)

-- program order
pub program_order : (logs : Logs) (x y : Node) → x.path ≡ y.path → x.index ≤ y.index → IsThere logs y → HappensBefore logs x y
program_order logs x y same before there =
    subst (λ (path : List Step). IsThere logs (node path y.index) → HappensBefore logs x (node path y.index)) same
    (later logs x.path (y.index - x.index) x.index y.index (omega arith)) there
