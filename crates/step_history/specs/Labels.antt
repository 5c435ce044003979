-- Items with labels: what is told of each step, carried along where the steps are put in another order.
use Rattle.std.specs.Prelude.{◌≡◌, Bool, List, length, map, filter}
use Rattle.step_history.specs.declared.item.Item.{Item}
use Rattle.step_history.specs.History.{Name, name_eq}

pub record Labelled (X : Type 0) : Type 0 where
  pub step : Item
  pub label : X

-- the labelled items of one name
abbrev pub labelled_of : {X : Type 0} → Name → List (Labelled X) → List (Labelled X)
labelled_of {X} name items = filter (λ (x : Labelled X). name_eq x.step.name name) items

abbrev pub items_of : {X : Type 0} → List (Labelled X) → List Item
items_of {X} labelled = map (λ (x : Labelled X). x.step) labelled

-- a history of all names with the labels of each
pub record IsLabelling {X : Type 0} (log : List Item) (items : List (Labelled X)) : Type 0 where
  pub history : List (Labelled X)
  pub steps : items_of history ≡ log
  pub each : (name : Name) → labelled_of name history ≡ labelled_of name items
  pub counts : (test : Labelled X → Bool) → length (filter test history) ≡ length (filter test items)
