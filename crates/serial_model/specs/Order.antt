-- The serial order of the records of a run: what happens before another record comes first, and of two records of which neither happens
-- before the other the one in the smaller lane, at the step where the paths of their tasks part.
use Rattle.std.specs.Prelude.{◌≡◌, ℕ, ◌<◌, List, ◌∷◌, ◌++◌}
use Rattle.sw_base.specs.declared.path.Step.{Step}
use Rattle.race_model.specs.Trace.{Logs, Node}
use Rattle.race_model.specs.Order.{HappensBefore}
use Rattle.race_model.specs.History.{Entry, HasLegalHistory}

-- the paths part at a step, and the first has the smaller lane there
pub record HasSmallerLane (path other : List Step) : Type 0 where
  pub shared : List Step
  pub mine : Step
  pub yours : Step
  pub my_rest : List Step
  pub your_rest : List Step
  pub path_is : path ≡ shared ++ mine ∷ my_rest
  pub other_is : other ≡ shared ++ yours ∷ your_rest
  pub smaller : mine.lane < yours.lane

-- x comes before y in serial order
pub data ComesFirst (logs : Logs) (x y : Node) : Type 0 where
  before : HappensBefore logs x y → ComesFirst logs x y
  beside : (HappensBefore logs y x → ⊥) → HasSmallerLane x.path y.path → ComesFirst logs x y

-- each record of the history comes before all that follow it
abbrev pub IsInSerialOrder : Logs → List Entry → Type 0
IsInSerialOrder logs history =
    (before mid after : List Entry) (x y : Entry) → history ≡ before ++ x ∷ (mid ++ y ∷ after) → ComesFirst logs x.node y.node

-- the logs have a legal history in serial order, which ends in these words
pub record HasSerialHistory (logs : Logs) (address : ℕ → ℕ) (words : List ℕ) : Type 0 where
  pub legal : HasLegalHistory logs address words
  pub order : IsInSerialOrder legal.is_history.full legal.history
