-- Barrier intervals by a key that each has.
use Rattle.std.specs.Prelude.{◌≡◌, List, Contains, Some}
use Rattle.std.specs.Borrow.{Bor}
use Rattle.std.specs.BTreeMap.{BTreeMap, get}
use Rattle.std.specs.Global.{Vec}
use Rattle.std.specs.declared.cmp.Ordering.{Ordering}
use Rattle.log_segment.specs.declared.segment.Segment.{Segment}

-- one of the references is to this interval
pub record HasOne (own : Segment) (refs : List (Bor Segment)) : Type 0 where
  pub one : Bor Segment
  pub listed : Contains refs one
  pub same : one.now ≡ own

-- the interval is among those of the key
pub record IsFiled {K : Type 0} (cmp : K → K → Ordering) (filed : BTreeMap K (Vec (Bor Segment))) (key : K) (own : Segment) : Type 0 where
  pub found : Vec (Bor Segment)
  pub there : get cmp filed key ≡ Some found
  pub has : HasOne own found.items

-- each interval is among those of its key
abbrev pub AreFiled : {K : Type 0} → (K → K → Ordering) → (Segment → K) → BTreeMap K (Vec (Bor Segment)) → List Segment → Type 0
AreFiled cmp key filed all = (own : Segment) → Contains all own → IsFiled cmp filed (key own) own
