-- The value of an expression, from those of its parts.
use Rattle.std.proofs.Common.{◌≡◌, refl, ap, sym, subst, ℕ, List, ℤ, Option, Some, None, Result, Ok, Err}
use Rattle.std.specs.Prelude.{ok_or}
use Rattle.kernel_syntax.specs.declared.syntax.Op.{Op}
use Rattle.kernel_syntax.specs.Arithmetic.{applied, negated}
use Rattle.kernel_syntax.specs.Tree as tree
use Rattle.kernel_syntax.specs.Tree.{Term}
use Rattle.kernel_model.specs.declared.stop.StopWhy.TheVariants as reason
use Rattle.kernel_model.specs.State.{State, Outcome, Gives, and_then}
use Rattle.kernel_model.specs.Value.{Site, Element, element_at, loaded, read, operated, value}
use Rattle.kernel_model.specs.Effect.{Returned, Halted}
use Rattle.kernel_model.proofs.Effects.{makes-stays}
use Rattle.kernel_model.proofs.Equations.{value-Load, value-Neg, value-Binary}
use Rattle.serial_run.specs.declared.halt.Halt.{Halt}
use Rattle.serial_run.specs.declared.halt.Halt.TheVariants.{Stops}
use Rattle.serial_run.specs.Going.{SerialProgress, room_of, RanPart, RunsPart}
use Rattle.serial_run.proofs.Following.{made_still, goes_same, goes_stop, goes_then}
use Rattle.serial_run.specs.Placing.{ElementLayout}

module _ (layout : ElementLayout) (at : Site) (slots : List ℤ) where
  -- an element that isn't there, and one that is
  pub loads_none : (found : Option Element) (line site : ℕ) (p : SerialProgress) → found ≡ None → RanPart layout (loaded found line site) slots slots p p (Halted reason.Index line)
  loads_none found line site p is =
      made_still layout (loaded found line site) slots p (Halted reason.Index line)
      (makes-stays (loaded found line site) slots (room_of layout.bound p) (Halted reason.Index line) (λ s same full. ap (λ o. loaded o line site s) is))

  pub loads_some : (found : Option Element) (e : Element) (line site : ℕ) (old new : SerialProgress) (r : Result ℤ Halt) → found ≡ Some e
      → RunsPart layout (read e site line) slots slots old new r → RunsPart layout (loaded found line site) slots slots old new r
  loads_some found e line site old new r is goes =
      goes_same layout (read e site line) (loaded found line site) slots slots old new r (λ s. ap (λ o. loaded o line site s) is) goes

  module _ (array : ℕ) (index : Term) (line site : ℕ) (old mid : SerialProgress) where
    abbrev from_index : ℤ → State → Outcome ℤ
    from_index i s = loaded (element_at at.arrays array i) line site s

    pub load_stops : (why : Halt) → RunsPart layout (value at index) slots slots old mid (Err why) → RunsPart layout (value at (tree.Load array index line site)) slots slots old mid (Err why)
    load_stops why goes =
        goes_same layout _ (value at (tree.Load array index line site)) slots slots old mid (Err why) (value-Load at array index line site)
        (goes_stop layout (value at index) from_index slots slots old mid why goes)

    pub load_goes : (new : SerialProgress) (i : ℤ) (r : Result ℤ Halt) → RanPart layout (value at index) slots slots old mid (Returned i)
        → RunsPart layout (loaded (element_at at.arrays array i) line site) slots slots mid new r → RunsPart layout (value at (tree.Load array index line site)) slots slots old new r
    load_goes new i r made goes =
        goes_same layout _ (value at (tree.Load array index line site)) slots slots old new r (value-Load at array index line site)
        (goes_then layout (value at index) from_index slots slots slots old mid new i made r goes)

  module _ (operand : Term) (old new : SerialProgress) where
    pub neg_stops : (why : Halt) → RunsPart layout (value at operand) slots slots old new (Err why) → RunsPart layout (value at (tree.Neg operand)) slots slots old new (Err why)
    neg_stops why goes =
        goes_same layout _ (value at (tree.Neg operand)) slots slots old new (Err why) (value-Neg at operand)
        (goes_stop layout (value at operand) (λ (v : ℤ) (s : State). Gives (negated v) s) slots slots old new why goes)

    pub neg_goes : (v : ℤ) → RanPart layout (value at operand) slots slots old new (Returned v) → RanPart layout (value at (tree.Neg operand)) slots slots old new (Returned (negated v))
    neg_goes v made =
        goes_same layout _ (value at (tree.Neg operand)) slots slots old new (Ok (negated v)) (value-Neg at operand)
        (goes_then layout (value at operand) (λ (x : ℤ) (s : State). Gives (negated x) s) slots slots slots old new new v made (Ok (negated v))
        (made_still layout (λ (s : State). Gives (negated v) s) slots new (Returned (negated v))
        (makes-stays (λ (s : State). Gives (negated v) s) slots (room_of layout.bound new) (Returned (negated v)) (λ s same full. refl))))

  module _ (op : Op) (line : ℕ) (left right : Term) (old mid : SerialProgress) where
    abbrev after_left : ℤ → State → Outcome ℤ
    after_left x s = and_then (value at right s) (λ y t. operated (applied op x y) line t)

    pub left_stops : (why : Halt) → RunsPart layout (value at left) slots slots old mid (Err why) → RunsPart layout (value at (tree.Binary op line left right)) slots slots old mid (Err why)
    left_stops why goes =
        goes_same layout _ (value at (tree.Binary op line left right)) slots slots old mid (Err why) (value-Binary at op line left right)
        (goes_stop layout (value at left) after_left slots slots old mid why goes)

    module _ (new : SerialProgress) (x : ℤ) (made : RanPart layout (value at left) slots slots old mid (Returned x)) where
      after_first : (r : Result ℤ Halt) → RunsPart layout (after_left x) slots slots mid new r → RunsPart layout (value at (tree.Binary op line left right)) slots slots old new r
      after_first r goes =
          goes_same layout _ (value at (tree.Binary op line left right)) slots slots old new r (value-Binary at op line left right)
          (goes_then layout (value at left) after_left slots slots slots old mid new x made r goes)

      pub right_stops : (why : Halt) → RunsPart layout (value at right) slots slots mid new (Err why) → RunsPart layout (value at (tree.Binary op line left right)) slots slots old new (Err why)
      right_stops why goes =
          after_first (Err why) (goes_stop layout (value at right) (λ (y : ℤ) (s : State). operated (applied op x y) line s) slots slots mid new why goes)

      operates : (o : Option ℤ) → RunsPart layout (operated o line) slots slots new new (ok_or o (Stops reason.DivZero line))
      operates None =
          made_still layout (operated None line) slots new (Halted reason.DivZero line) (makes-stays (operated None line) slots (room_of layout.bound new) (Halted reason.DivZero line) (λ s same full. refl))
      operates (Some v) =
          made_still layout (operated (Some v) line) slots new (Returned v) (makes-stays (operated (Some v) line) slots (room_of layout.bound new) (Returned v) (λ s same full. refl))

      pub binary_goes : (y : ℤ) (r : Result ℤ Halt) → r ≡ ok_or (applied op x y) (Stops reason.DivZero line) → RanPart layout (value at right) slots slots mid new (Returned y)
          → RunsPart layout (value at (tree.Binary op line left right)) slots slots old new r
      binary_goes y r is made_right =
          after_first r
          (goes_then layout (value at right) (λ (z : ℤ) (s : State). operated (applied op x z) line s) slots slots slots mid new new y made_right r
          (subst (λ (q : Result ℤ Halt). RunsPart layout (operated (applied op x y) line) slots slots new new q) (sym is)
          (operates (applied op x y))))
