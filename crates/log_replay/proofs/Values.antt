-- The value of an expression, as far as it follows the log.
use Rattle.std.proofs.Common.{◌≡◌, refl, sym, subst, ℕ, ◌+◌, ℤ, pos, min, Option, Some, None, Result, Ok, Err}
use Rattle.std.specs.Prelude.{slice_index_or, ok_or}
use Rattle.sw_base.specs.Environment.{FolderState}
use Rattle.kernel_syntax.specs.declared.syntax.Op.{Op}
use Rattle.kernel_syntax.specs.Arithmetic.{applied, negated}
use Rattle.kernel_syntax.specs.Tree as tree
use Rattle.kernel_syntax.specs.Tree.{Term}
use Rattle.kernel_model.specs.State.{State, Outcome, Gives, and_then, state_of}
use Rattle.kernel_model.specs.declared.stop.StopWhy.TheVariants.{Index, DivZero}
use Rattle.kernel_model.specs.Growth.{Grows}
use Rattle.kernel_model.specs.Value.{Site, Element, element_at, loaded, operated, value}
use Rattle.kernel_model.proofs.Equations.{value-Slot, value-Load, value-Neg, value-Binary}
use Rattle.kernel_model.proofs.Growing.{grows-plain, value-grows}
use Rattle.kernel_model.proofs.Steps.{kept-and_then, kept-loaded, kept-operated}
use Rattle.log_replay.specs.Following.{Standing, Ends, FollowsPart, here}
use Rattle.log_replay.specs.declared.stray.Stray.{Stray}
use Rattle.log_replay.specs.declared.stray.Stray.TheVariants as stray
use Rattle.log_replay.proofs.Following.{follows_same, follows_then, follows_stop, follows_nothing}
use Rattle.log_replay.proofs.Stepping.{stops_off}

-- the record at which a task that stops leaves the log
abbrev pub next_number : Standing → ℕ
next_number x = min (x.count + 1) 4294967295

pub loads_none : (told : FolderState) (found : Option Element) (line site : ℕ) (old new : Standing) (e : Stray) → found ≡ None → e ≡ stray.Differs (next_number old) → FollowsPart told (loaded found line site) old new (Err e)
loads_none told found line site old new e none is = λ log done rest at.
    subst (λ (x : Stray). Ends told log (loaded found line site (here old done rest)) new (Err x)) (sym is)
    (subst (λ (o : Option Element). Ends told log (loaded o line site (here old done rest)) new (Err (stray.Differs (next_number old)))) (sym none)
    (stops_off ℤ told log done rest old at (next_number old) refl Index line))

pub loads_some : (told : FolderState) (found : Option Element) (e : Element) (line site : ℕ) (old new : Standing) (r : Result ℤ Stray) → found ≡ Some e → FollowsPart told (loaded (Some e) line site) old new r
    → FollowsPart told (loaded found line site) old new r
loads_some told found e line site old new r is follows = subst (λ (o : Option Element). FollowsPart told (loaded o line site) old new r) (sym is) follows

-- an operation, after its operands
operates : (told : FolderState) (o : Option ℤ) (line : ℕ) (x : Standing) → FollowsPart told (operated o line) x x (ok_or o (stray.Differs (next_number x)))
operates told None line x = λ log done rest at. stops_off ℤ told log done rest x at (next_number x) refl DivZero line
operates told (Some v) line x = follows_nothing told v x

pub slot_goes : (told : FolderState) (at : Site) (k : ℕ) (x : Standing) → FollowsPart told (value at (tree.Slot k)) x x (Ok (slice_index_or x.slots k (pos 0)))
slot_goes told at k x = λ log done rest is_at. record { done = done; rest = rest; at = is_at; gives = value-Slot at k (here x done rest) }

module _ (told : FolderState) (at : Site) (old : Standing) where
  module _ (array : ℕ) (index : Term) (line site : ℕ) where
    abbrev after_index : ℤ → State → Outcome ℤ
    after_index i s = loaded (element_at at.arrays array i) line site s

    pub load_stops : (mid : Standing) (e : Stray) → FollowsPart told (value at index) old mid (Err e) → FollowsPart told (value at (tree.Load array index line site)) old mid (Err e)
    load_stops mid e first =
        follows_same told _ (value at (tree.Load array index line site)) old mid (Err e) (value-Load at array index line site)
        (follows_stop told (value at index) after_index old mid mid e (λ i s. kept-loaded Grows grows-plain (element_at at.arrays array i) line site s) first)

    pub load_goes : (told' : FolderState) → told' ≡ told → (mid new : Standing) (i : ℤ) (r : Result ℤ Stray) → FollowsPart told (value at index) old mid (Ok i)
        → FollowsPart told' (loaded (element_at at.arrays array i) line site) mid new r → FollowsPart told (value at (tree.Load array index line site)) old new r
    load_goes told' same mid new i r first second =
        follows_same told _ (value at (tree.Load array index line site)) old new r (value-Load at array index line site)
        (follows_then told (value at index) after_index old told' same i mid new r first second)

  abbrev after_operand : ℤ → State → Outcome ℤ
  after_operand v s = Gives (negated v) s

  pub neg_stops : (operand : Term) (mid : Standing) (e : Stray) → FollowsPart told (value at operand) old mid (Err e) → FollowsPart told (value at (tree.Neg operand)) old mid (Err e)
  neg_stops operand mid e first =
      follows_same told _ (value at (tree.Neg operand)) old mid (Err e) (value-Neg at operand)
      (follows_stop told (value at operand) after_operand old mid mid e (λ v s. grows-plain.same s) first)

  pub neg_goes : (operand : Term) (mid : Standing) (v : ℤ) → FollowsPart told (value at operand) old mid (Ok v) → FollowsPart told (value at (tree.Neg operand)) old mid (Ok (negated v))
  neg_goes operand mid v first =
      follows_same told _ (value at (tree.Neg operand)) old mid (Ok (negated v)) (value-Neg at operand)
      (follows_then told (value at operand) after_operand old told refl v mid mid (Ok (negated v)) first (follows_nothing told (negated v) mid))

  module _ (op : Op) (line : ℕ) (left right : Term) where
    abbrev after_right : ℤ → ℤ → State → Outcome ℤ
    after_right x y s = operated (applied op x y) line s

    abbrev after_left : ℤ → State → Outcome ℤ
    after_left x s = and_then (value at right s) (after_right x)

    right_grows : (x y : ℤ) (s : State) → Grows s (state_of (after_right x y s))
    right_grows x y s = kept-operated Grows grows-plain (applied op x y) line s

    pub left_stops : (mid : Standing) (e : Stray) → FollowsPart told (value at left) old mid (Err e) → FollowsPart told (value at (tree.Binary op line left right)) old mid (Err e)
    left_stops mid e first =
        follows_same told _ (value at (tree.Binary op line left right)) old mid (Err e) (value-Binary at op line left right)
        (follows_stop told (value at left) after_left old mid mid e (λ x s. kept-and_then Grows grows-plain s (value at right s) (after_right x) (value-grows at right s) (right_grows x)) first)

    module _ (told' : FolderState) (same : told' ≡ told) (x : ℤ) (mid : Standing) (first : FollowsPart told (value at left) old mid (Ok x)) where
      left_then : (new : Standing) (r : Result ℤ Stray) → FollowsPart told' (after_left x) mid new r → FollowsPart told (value at (tree.Binary op line left right)) old new r
      left_then new r second =
          follows_same told _ (value at (tree.Binary op line left right)) old new r (value-Binary at op line left right)
          (follows_then told (value at left) after_left old told' same x mid new r first second)

      pub right_stops : (new : Standing) (e : Stray) → FollowsPart told' (value at right) mid new (Err e) → FollowsPart told (value at (tree.Binary op line left right)) old new (Err e)
      right_stops new e second = left_then new (Err e) (follows_stop told' (value at right) (after_right x) mid new new e (right_grows x) second)

      pub binary_goes : (y : ℤ) (new : Standing) (r : Result ℤ Stray) → FollowsPart told' (value at right) mid new (Ok y) → r ≡ ok_or (applied op x y) (stray.Differs (next_number new))
          → FollowsPart told (value at (tree.Binary op line left right)) old new r
      binary_goes y new r second is =
          left_then new r
          (follows_then told' (value at right) (after_right x) mid told' refl y new new r second
          (subst (FollowsPart told' (operated (applied op x y) line) new new) (sym is) (operates told' (applied op x y) line new)))
