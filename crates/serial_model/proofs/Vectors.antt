-- The serial order on worked paths, and of records of which neither happens before the other.
use Rattle.std.proofs.Common.{◌≡◌, refl, sym, ap, ◌∙◌, subst, ◌↔◌, ℕ, ◌<◌, List, [], ◌∷◌, ◌++◌, arith}
use Rattle.sw_base.specs.declared.path.Step.{Step}
use Rattle.race_model.specs.Trace.{Logs, Node}
use Rattle.race_model.specs.Order.{HappensBefore}
use Rattle.race_model.specs.Race.{IsUnordered}
use Rattle.race_model.specs.History.{Entry}
use Rattle.serial_model.specs.Order.{ComesFirst, HasSmallerLane, IsInSerialOrder}

abbrev lane : ℕ → Step
lane number = record { region = 0; lane = number; span = 3 }

-- lane 1 comes before lane 2, with all below it
pub smaller_lane : HasSmallerLane (lane 1 ∷ []) (lane 2 ∷ [])
smaller_lane = record { shared = []; mine = lane 1; yours = lane 2; my_rest = []; your_rest = []; path_is = refl; other_is = refl; smaller = omega arith }

pub smaller_below : HasSmallerLane (lane 1 ∷ lane 0 ∷ lane 2 ∷ []) (lane 1 ∷ lane 1 ∷ lane 0 ∷ [])
smaller_below = record { shared = lane 1 ∷ []; mine = lane 0; yours = lane 1; my_rest = lane 2 ∷ []; your_rest = lane 0 ∷ []; path_is = refl; other_is = refl; smaller = omega arith }

lanes_are : (n m : ℕ) (xs ys : List Step) → lane n ∷ xs ≡ lane m ∷ ys → n ≡ m
lanes_are n m xs ys same = let steps : lane n ≡ lane m = cc in ap (λ (s : Step). s.lane) steps

-- not lane 2 before lane 1, nor a lane before itself; and where the paths part decides, not what is below it
module _ (n m : ℕ) (xs ys : List Step) (least : m < n) where
  pub greater_lane : HasSmallerLane (lane n ∷ xs) (lane m ∷ ys) → ⊥
  greater_lane h = by h.shared h.path_is h.other_is where
    by : (shared : List Step) → lane n ∷ xs ≡ shared ++ h.mine ∷ h.my_rest → lane m ∷ ys ≡ shared ++ h.yours ∷ h.your_rest → ⊥
    by [] one other =
        let mine : lane n ≡ h.mine = cc in
        let yours : lane m ≡ h.yours = cc in
        omega (arith, ap (λ (s : Step). s.lane) mine, ap (λ (s : Step). s.lane) yours, h.smaller)
    by (s ∷ shared) one other =
        let mine : lane n ≡ s = cc in
        let yours : lane m ≡ s = cc in
        omega (arith, ap (λ (t : Step). t.lane) mine, ap (λ (t : Step). t.lane) yours)

-- a task has no smaller lane than those of its own regions
pub no_lane_below : (path rest : List Step) → HasSmallerLane path (path ++ rest) → ⊥
no_lane_below [] rest h = by h.shared h.path_is where
  by : (shared : List Step) → [] ≡ shared ++ h.mine ∷ h.my_rest → ⊥
  by [] same = cc
  by (s ∷ shared) same = cc
no_lane_below (step ∷ path) rest h = by h.shared h.path_is h.other_is (λ below. no_lane_below path rest below) where
  by : (shared : List Step) → step ∷ path ≡ shared ++ h.mine ∷ h.my_rest → step ∷ path ++ rest ≡ shared ++ h.yours ∷ h.your_rest → (HasSmallerLane path (path ++ rest) → ⊥) → ⊥
  by [] one other later =
      let mine : step ≡ h.mine = cc in
      let yours : step ≡ h.yours = cc in
      omega (arith, ap (λ (s : Step). s.lane) (sym mine ∙ yours), h.smaller)
  by (s ∷ shared) one other later =
      later (record { shared = shared; mine = h.mine; yours = h.yours; my_rest = h.my_rest; your_rest = h.your_rest; path_is = cc; other_is = cc; smaller = h.smaller })

-- of records of which neither happens before the other, that in the smaller lane comes first, and no other
pub unordered_go_by_lanes : (logs : Logs) (x y : Node) → IsUnordered logs x y → ComesFirst logs x y ↔ HasSmallerLane x.path y.path
unordered_go_by_lanes logs x y u = ((λ first. by first), (λ smaller. ComesFirst.beside u.not_after smaller)) where
  by : ComesFirst logs x y → HasSmallerLane x.path y.path
  by (ComesFirst.before reaches) = absurd (u.not_before reaches)
  by (ComesFirst.beside not_after smaller) = smaller

-- a history in which they stand the other way isn't in serial order
pub reversed_lanes : (logs : Logs) (n m : ℕ) (xs ys : List Step) (x y : Entry) → m < n → x.node.path ≡ lane n ∷ xs → y.node.path ≡ lane m ∷ ys → IsUnordered logs x.node y.node
    → IsInSerialOrder logs (x ∷ y ∷ []) → ⊥
reversed_lanes logs n m xs ys x y least mine yours u order =
    greater_lane n m xs ys least
    (subst (λ (p : List Step). HasSmallerLane p (lane m ∷ ys)) mine
    (subst (λ (p : List Step). HasSmallerLane x.node.path p) yours ((unordered_go_by_lanes logs x.node y.node u).0 (order [] [] [] x y refl))))

-- a record that happens before another doesn't come behind it, whatever their lanes are
pub none_comes_back : (logs : Logs) (x y : Node) → HappensBefore logs y x → (HappensBefore logs x y → ⊥) → ComesFirst logs x y → ⊥
none_comes_back logs x y reaches not_before (ComesFirst.before back) = not_before back
none_comes_back logs x y reaches not_before (ComesFirst.beside not_after smaller) = not_after reaches
