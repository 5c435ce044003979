-- The value of an expression, from those of its parts.
use Rattle.std.proofs.Common.{◌≡◌, refl, ap, sym, ◌∙◌, subst, ℕ, ◌-◌, List, [], ℤ, Option, Some, None, Result, Ok, Err, arith}
use Rattle.std.specs.Prelude.{ok_or}
use Rattle.log_format.specs.Limit.{record_limit}
use Rattle.kernel_syntax.specs.declared.syntax.Op.{Op}
use Rattle.kernel_syntax.specs.Arithmetic.{applied, negated}
use Rattle.kernel_syntax.specs.Tree as tree
use Rattle.kernel_syntax.specs.Tree.{Term}
use Rattle.kernel_model.specs.declared.stop.StopWhy.TheVariants as reason
use Rattle.kernel_model.specs.State.{State, Outcome, Gives, and_then, state_of}
use Rattle.kernel_model.specs.Growth.{Grows}
use Rattle.kernel_model.specs.Value.{Site, Element, element_at, loaded, read, operated, value}
use Rattle.kernel_model.specs.Effect.{Finish, Returned, Halted, Makes, adds}
use Rattle.kernel_model.proofs.Effects.{makes-stays, makes-Number}
use Rattle.kernel_model.proofs.Equations.{value-Load, value-Neg, value-Binary}
use Rattle.kernel_model.proofs.Growing.{grows-plain, value-grows}
use Rattle.kernel_model.proofs.Steps.{kept-loaded, kept-operated, kept-and_then}
use Rattle.history_model.specs.Work.{Rest}
use Rattle.shared_words.specs.Handles.{HandValue}
use Rattle.shared_words.specs.declared.view.View.{View}
use Rattle.execution_model.specs.Runs.{RunsRegions}
use Rattle.lane_runner.specs.declared.stop.Halt.{Halt}
use Rattle.lane_runner.specs.declared.stop.Stop.{Stop}
use Rattle.lane_runner.specs.declared.stop.Stop.TheVariants.{DivZero}
use Rattle.lane_runner.specs.World.{WorldValue}
use Rattle.shared_words.specs.declared.share.Share.{Share}
use Rattle.task_place.specs.Operands.{left_by, with_left}
use Rattle.task_place.proofs.Operands.{value-left, left-none, with-none}
use Rattle.lane_runner.proofs.Drawing.{draws_left}
use Rattle.lane_runner.specs.Going.{Progress, log_of, CanGo, ClosesAll, MadePast, Made, Goes, lane_answer}
use Rattle.lane_runner.proofs.Working.{done_none}
use Rattle.lane_runner.proofs.Releasing.{released_none}
use Rattle.lane_runner.proofs.Following.{goes_stop, goes_then, goes_same}
use Rattle.lane_runner.proofs.Ending.{ended_none}
use Rattle.lane_runner.proofs.Handing.{work_hands_none}

-- a lane that executed a part can go on
pub can_past : {A : Type 0} (bars : ℕ) (w : WorldValue) (part : State → Outcome A) (slots slots' : List ℤ) (old new : Progress) (finish : Finish A) → CanGo w old → MadePast bars w part slots slots' old new finish → CanGo w new
can_past bars w part slots slots' old new finish can m = record {
  belongs = record { here = ap (λ (h : HandValue View). h.table) m.done.hand ∙ can.belongs.here; there = ap (λ (h : HandValue View). h.there) m.done.hand };
  home = ap (λ (h : HandValue View). h.view.out) m.done.hand ∙ can.home;
  unrefused = m.unrefused;
  drawing = record { here = ap (λ (h : HandValue Share). h.table) m.done.draws.draws ∙ can.drawing.here; there = ap (λ (h : HandValue Share). h.there) m.done.draws.draws ∙ can.drawing.there };
  forks = let forks = can.forks in let more = m.done.forked in let told = m.done.told in let count = m.done.log.count in omega arith;
  enough = draws_left old.tally new.tally (log_of m.work) old.buffer.count new.buffer.count m.done.draws m.done.log.count can.enough;
}

pub can_follow : {A : Type 0} (w : WorldValue) (part : State → Outcome A) (slots slots' : List ℤ) (old new : Progress) (finish : Finish A) → CanGo w old → Made w part slots slots' old new finish → CanGo w new
can_follow w part slots slots' old new finish can m = can_past 0 w part slots slots' old new finish can m

closes_none : {A : Type 0} (finish : Finish A) → ClosesAll finish []
closes_none (Returned a) = refl
closes_none (Halted why line) = tt

-- a part that does nothing
pub made_still : {A : Type 0} (w : WorldValue) (part : State → Outcome A) (slots : List ℤ) (p : Progress) (finish : Finish A) → CanGo w p
    → Makes part slots (record_limit - p.buffer.count) (adds slots []) finish → Made w part slots slots p p finish
made_still w part slots p finish can m = record {
  work = Rest;
  forks = [];
  own = [];
  done = done_none w p can.belongs.there;
  released = released_none p.hand.view.held;
  closes = closes_none finish;
  ended = ended_none;
  handed = work_hands_none p p Rest refl refl;
  few = λ less. less;
  unrefused = can.unrefused;
  makes = m;
  regions = λ program is. RunsRegions.no_region;
}

-- an element that isn't there, and one that is
pub loads_none : (w : WorldValue) (found : Option Element) (line site : ℕ) (slots : List ℤ) (p : Progress) → CanGo w p → found ≡ None → Made w (loaded found line site) slots slots p p (Halted reason.Index line)
loads_none w found line site slots p can is =
    made_still w (loaded found line site) slots p (Halted reason.Index line) can
    (makes-stays (loaded found line site) slots (record_limit - p.buffer.count) (Halted reason.Index line) (λ s same full. ap (λ o. loaded o line site s) is))

pub loads_some : (w : WorldValue) (found : Option Element) (e : Element) (line site : ℕ) (slots : List ℤ) (old new : Progress) (r : Result ℤ Halt) → found ≡ Some e
    → Goes w (read e site line) slots slots old new r → Goes w (loaded found line site) slots slots old new r
loads_some w found e line site slots old new r is goes =
    subst (λ (o : Option Element). Goes w (loaded o line site) slots slots old new r) (sym is)
    (goes_same w (read e site line) (loaded (Some e) line site) slots slots old new (λ s. refl) r goes)

module _ (w : WorldValue) (at : Site) (slots : List ℤ) where
  pub load_stops : (array : ℕ) (index : Term) (line site : ℕ) (old new : Progress) (why : Halt) → Goes w (value at index) slots slots old new (Err why)
      → Goes w (value at (tree.Load array index line site)) slots slots old new (Err why)
  load_stops array index line site old new why goes =
      goes_same w _ (value at (tree.Load array index line site)) slots slots old new (value-Load at array index line site) (Err why)
      (goes_stop w (value at index) (λ (i : ℤ) (s : State). loaded (element_at at.arrays array i) line site s) slots slots old new why
      (λ i s. kept-loaded Grows grows-plain (element_at at.arrays array i) line site s) goes)

  pub load_goes : (array : ℕ) (index : Term) (line site : ℕ) (old mid new : Progress) (i : ℤ) (r : Result ℤ Halt) → Made w (value at index) slots slots old mid (Returned i)
      → Goes w (loaded (element_at at.arrays array i) line site) slots slots mid new r → Goes w (value at (tree.Load array index line site)) slots slots old new r
  load_goes array index line site old mid new i r made goes =
      goes_same w _ (value at (tree.Load array index line site)) slots slots old new (value-Load at array index line site) r
      (goes_then w (value at index) (λ (j : ℤ) (s : State). loaded (element_at at.arrays array j) line site s) slots slots slots old mid new i made r goes)

  pub neg_stops : (operand : Term) (old new : Progress) (why : Halt) → Goes w (value at operand) slots slots old new (Err why)
      → Goes w (value at (tree.Neg operand)) slots slots old new (Err why)
  neg_stops operand old new why goes =
      goes_same w _ (value at (tree.Neg operand)) slots slots old new (value-Neg at operand) (Err why)
      (goes_stop w (value at operand) (λ (v : ℤ) (s : State). Gives (negated v) s) slots slots old new why (λ v s. grows-plain.same s) goes)

  pub neg_goes : (operand : Term) (old new : Progress) (v : ℤ) → CanGo w old → Made w (value at operand) slots slots old new (Returned v)
      → Made w (value at (tree.Neg operand)) slots slots old new (Returned (negated v))
  neg_goes operand old new v can made =
      goes_same w _ (value at (tree.Neg operand)) slots slots old new (value-Neg at operand) (Ok (negated v))
      (goes_then w (value at operand) (λ (x : ℤ) (s : State). Gives (negated x) s) slots slots slots old new new v made (Ok (negated v))
      (made_still w (λ (s : State). Gives (negated v) s) slots new (Returned (negated v)) (can_follow w (value at operand) slots slots old new (Returned v) can made)
      (makes-stays (λ (s : State). Gives (negated v) s) slots (record_limit - new.buffer.count) (Returned (negated v)) (λ s same full. refl))))

  module _ (op : Op) (line : ℕ) (left right : Term) where
    after_left : ℤ → State → Outcome ℤ
    after_left x s = and_then (value at right s) (λ y t. operated (applied op x y) line t)

    left_grows : (x : ℤ) (s : State) → Grows s (state_of (after_left x s))
    unfolding after_left
    left_grows x s = kept-and_then Grows grows-plain s (value at right s) (λ y t. operated (applied op x y) line t) (value-grows at right s) (λ y t. kept-operated Grows grows-plain (applied op x y) line t)

    pub left_stops : (old new : Progress) (why : Halt) → Goes w (value at left) slots slots old new (Err why) → Goes w (value at (tree.Binary op line left right)) slots slots old new (Err why)
    unfolding after_left
    left_stops old new why goes =
        goes_same w _ (value at (tree.Binary op line left right)) slots slots old new (value-Binary at op line left right) (Err why)
        (goes_stop w (value at left) after_left slots slots old new why left_grows goes)

    module _ (x : ℤ) (old mid new : Progress) (made : Made w (value at left) slots slots old mid (Returned x)) where
      after_first : (r : Result ℤ Halt) → Goes w (after_left x) slots slots mid new r → Goes w (value at (tree.Binary op line left right)) slots slots old new r
      unfolding after_left
      after_first r goes =
          goes_same w _ (value at (tree.Binary op line left right)) slots slots old new (value-Binary at op line left right) r
          (goes_then w (value at left) after_left slots slots slots old mid new x made r goes)

      pub right_stops : (why : Halt) → Goes w (value at right) slots slots mid new (Err why) → Goes w (value at (tree.Binary op line left right)) slots slots old new (Err why)
      unfolding after_left
      right_stops why goes =
          after_first (Err why)
          (goes_stop w (value at right) (λ (y : ℤ) (s : State). operated (applied op x y) line s) slots slots mid new why (λ y s. kept-operated Grows grows-plain (applied op x y) line s) goes)

      operates : (y : ℤ) (o : Option ℤ) → CanGo w new → Goes w (operated o line) slots slots new new (lane_answer (ok_or o (DivZero line)))
      operates y None can =
          made_still w (operated None line) slots new (Halted reason.DivZero line) can (makes-stays (operated None line) slots (record_limit - new.buffer.count) (Halted reason.DivZero line) (λ s same full. refl))
      operates y (Some v) can =
          made_still w (operated (Some v) line) slots new (Returned v) can (makes-stays (operated (Some v) line) slots (record_limit - new.buffer.count) (Returned v) (λ s same full. refl))

      pub binary_goes : (y : ℤ) (r : Result ℤ Stop) → CanGo w mid → r ≡ ok_or (applied op x y) (DivZero line) → Made w (value at right) slots slots mid new (Returned y)
          → Goes w (value at (tree.Binary op line left right)) slots slots old new (lane_answer r)
      unfolding after_left
      binary_goes y r can is made_right =
          after_first (lane_answer r)
          (goes_then w (value at right) (λ (z : ℤ) (s : State). operated (applied op x z) line s) slots slots slots mid new new y made_right (lane_answer r)
          (subst (λ (q : Result ℤ Stop). Goes w (operated (applied op x y) line) slots slots new new (lane_answer q)) (sym is)
          (operates y (applied op x y) (can_follow w (value at right) slots slots mid new (Returned y) can made_right))))

-- a term's value from that of a left operand, so many levels below
module _ (w : WorldValue) (at : Site) (slots : List ℤ) (e : Term) (n : ℕ) where
  from_left : ℤ → State → Outcome ℤ
  from_left v s = value at (with_left e n v) s

  pub below_stops : (old new : Progress) (why : Halt) → Goes w (value at (left_by e n)) slots slots old new (Err why) → Goes w (value at e) slots slots old new (Err why)
  unfolding from_left
  below_stops old new why goes =
      goes_same w _ (value at e) slots slots old new (value-left at e n) (Err why)
      (goes_stop w (value at (left_by e n)) from_left slots slots old new why (λ v s. value-grows at (with_left e n v) s) goes)

  pub below_goes : (old mid new : Progress) (v : ℤ) (r : Result ℤ Halt) → Made w (value at (left_by e n)) slots slots old mid (Returned v)
      → Goes w (value at (with_left e n v)) slots slots mid new r → Goes w (value at e) slots slots old new r
  unfolding from_left
  below_goes old mid new v r made goes =
      goes_same w _ (value at e) slots slots old new (value-left at e n) r
      (goes_then w (value at (left_by e n)) from_left slots slots slots old mid new v made r goes)

-- and an operation's, from that of its own
module _ (w : WorldValue) (at : Site) (slots : List ℤ) where
  pub number_made : (v : ℤ) (p : Progress) → CanGo w p → Made w (value at (tree.Number v)) slots slots p p (Returned v)
  number_made v p can = made_still w (value at (tree.Number v)) slots p (Returned v) can (makes-Number at slots (record_limit - p.buffer.count) v)

  module _ (op : Op) (line : ℕ) (left right : Term) (v : ℤ) (old new : Progress) (can : CanGo w old) where
    pub operand_goes : (r : Result ℤ Halt) → Made w (value at left) slots slots old new (Returned v) → (last : Progress)
        → Goes w (value at (with_left (tree.Binary op line left right) 1 v)) slots slots new last r → Goes w (value at (tree.Binary op line left right)) slots slots old last r
    operand_goes r made last goes =
        below_goes w at slots (tree.Binary op line left right) 1 old new last v r
        (subst (λ (e : Term). Made w (value at e) slots slots old new (Returned v)) (sym (left-none left)) made) goes

    pub top_stops : (why : Halt) → Goes w (value at right) slots slots old new (Err why) → Goes w (value at (with_left (tree.Binary op line left right) 1 v)) slots slots old new (Err why)
    top_stops why goes =
        subst (λ (e : Term). Goes w (value at (tree.Binary op line e right)) slots slots old new (Err why)) (sym (with-none left v))
        (right_stops w at slots op line (tree.Number v) right v old old new (number_made v old can) why goes)

    pub top_goes : (y : ℤ) (r : Result ℤ Stop) → r ≡ ok_or (applied op v y) (DivZero line) → Made w (value at right) slots slots old new (Returned y)
        → Goes w (value at (with_left (tree.Binary op line left right) 1 v)) slots slots old new (lane_answer r)
    top_goes y r is made =
        subst (λ (e : Term). Goes w (value at (tree.Binary op line e right)) slots slots old new (lane_answer r)) (sym (with-none left v))
        (binary_goes w at slots op line (tree.Number v) right v old old new (number_made v old can) y r can is made)
