-- How a task goes on: parts one after another.
use Rattle.std.proofs.Common.{◌≡◌, refl, ap, sym, ◌∙◌, subst, ℕ, ◌+◌, ◌-◌, ◌<◌, ◌≤◌, List, [], ◌∷◌, ◌++◌, length, ℤ, Result, Ok, Err, arith, append_assoc}
use Rattle.std.specs.List.{flat_map}
use Rattle.std.proofs.lemmas.List.{append-nil, length-append}
use Rattle.std.proofs.lemmas.Grind.{flat_map-append}
use Rattle.log_format.specs.Limit.{record_limit}
use Rattle.log_format.specs.declared.record.Record.{Record}
use Rattle.log_format.specs.Spelling.{spelling}
use Rattle.kernel_model.specs.declared.stop.StopWhy.{StopWhy}
use Rattle.kernel_model.specs.declared.stop.StopWhy.TheVariants as reason
use Rattle.kernel_model.specs.State.{State, Outcome, and_then, after}
use Rattle.kernel_model.specs.Effect.{Finish, Returned, Halted, Makes, adds}
use Rattle.kernel_model.proofs.Effects.{makes-same, makes-halt, makes-then}
use Rattle.serial_run.specs.declared.halt.Halt.{Halt}
use Rattle.serial_run.specs.declared.halt.Halt.TheVariants as halt
use Rattle.serial_run.specs.Going.{SerialProgress, room_of, Finds, words_after, ArePlain, Gains, RanPart, RunsOut, RunsPart, MayMake}
use Rattle.serial_run.specs.Placing.{Bound, OfLog, OfRun, ElementLayout}

pub finds_then : (layout : ElementLayout) (xs ys : List Record) (a b c : List ℕ) → Finds layout xs a b → Finds layout ys b c → Finds layout (xs ++ ys) a c
finds_then layout [] ys a b c one two = subst (λ (l : List ℕ). Finds layout ys l c) one two
finds_then layout (x ∷ xs) ys a b c one two = (one.0, finds_then layout xs ys (words_after layout x.kind x a) b c one.1 two)

pub plain_then : (xs ys : List Record) → ArePlain xs → ArePlain ys → ArePlain (xs ++ ys)
plain_then [] ys one two = two
plain_then (x ∷ xs) ys one two = (one.0, plain_then xs ys one.1 two)

pub gains_none : (layout : ElementLayout) (p : SerialProgress) → Gains layout p p []
gains_none layout p = record { log = sym (append-nil p.log); count = omega arith; finds = refl; left = omega arith }

pub gains_then : (layout : ElementLayout) (old mid new : SerialProgress) (xs ys : List Record) → Gains layout old mid xs → Gains layout mid new ys → Gains layout old new (xs ++ ys)
gains_then layout old mid new xs ys m n = record {
  log =
      n.log ∙ ap (λ (l : List ℕ). l ++ flat_map spelling ys) m.log ∙ append_assoc old.log (flat_map spelling xs) (flat_map spelling ys)
      ∙ ap (λ (l : List ℕ). old.log ++ l) (sym (flat_map-append spelling xs ys));
  count = omega (arith, length-append xs ys, m.count, n.count);
  finds = finds_then layout xs ys old.words mid.words new.words m.finds n.finds;
  left = omega (arith, length-append xs ys, m.left, n.left);
}

-- ---- room

room_after : (bound : Bound) (old new : SerialProgress) (n : ℕ) → new.count ≡ old.count + n → new.left + n ≡ old.left → room_of bound new ≡ room_of bound old - n
room_after OfLog old new n count left = omega (arith, count)
room_after OfRun old new n count left = omega (arith, count, left)

-- each record takes one of it
pub room_gained : (layout : ElementLayout) (old new : SerialProgress) (added : List Record) → Gains layout old new added → room_of layout.bound new ≡ room_of layout.bound old - length added
room_gained layout old new added g = room_after layout.bound old new (length added) g.count g.left

pub some_room : (bound : Bound) (p : SerialProgress) → MayMake p → 0 < room_of bound p
some_room OfLog p has = let h = has.below in omega arith
some_room OfRun p has = let h = has.below in let some = has.some in omega arith

-- a task whose log is full has none, and one of a run that may make no more
pub no_room : (bound : Bound) (p : SerialProgress) → record_limit ≤ p.count → room_of bound p ≡ 0
no_room OfLog p full = omega arith
no_room OfRun p full = omega arith

pub no_room_left : (bound : Bound) (p : SerialProgress) → bound ≡ OfRun → p.left ≡ 0 → room_of bound p ≡ 0
no_room_left OfLog p is none = absurd cc
no_room_left OfRun p is none = omega arith

-- what a task would put is told of another part
pub runs_out_so : {A B : Type 0} {layout : ElementLayout} {part : State → Outcome A} {other : State → Outcome B} {slots slots' others others' : List ℤ} {old old' new : SerialProgress}
    → ((line : ℕ) → RanPart layout part slots slots' old new (Halted reason.LogFull line) → RanPart layout other others others' old' new (Halted reason.LogFull line))
    → RunsOut layout part slots slots' old new → RunsOut layout other others others' old' new
runs_out_so so r = record { none = r.none; below = r.below; due = λ is. let d = r.due is in (d.0, so d.0 d.1) }

-- a part that does nothing
pub made_still : {A : Type 0} (layout : ElementLayout) (part : State → Outcome A) (slots : List ℤ) (p : SerialProgress) (finish : Finish A) →
    Makes part slots (room_of layout.bound p) (adds slots []) finish → RanPart layout part slots slots p p finish
made_still layout part slots p finish m = record { added = []; plain = tt; gains = gains_none layout p; makes = m }

-- the same part, told otherwise
pub made_same : {A : Type 0} (layout : ElementLayout) (part other : State → Outcome A) (slots slots' : List ℤ) (old new : SerialProgress) (finish : Finish A) →
    ((s : State) → other s ≡ part s) → RanPart layout part slots slots' old new finish → RanPart layout other slots slots' old new finish
made_same layout part other slots slots' old new finish same m = record {
  added = m.added;
  plain = m.plain;
  gains = m.gains;
  makes = makes-same part other slots (room_of layout.bound old) (adds slots' m.added) finish same m.makes;
}

pub goes_same : {A : Type 0} (layout : ElementLayout) (part other : State → Outcome A) (slots slots' : List ℤ) (old new : SerialProgress) (r : Result A Halt) →
    ((s : State) → other s ≡ part s) → RunsPart layout part slots slots' old new r → RunsPart layout other slots slots' old new r
goes_same layout part other slots slots' old new (Ok v) same m = made_same layout part other slots slots' old new (Returned v) same m
goes_same layout part other slots slots' old new (Err (halt.Stops why line)) same m = made_same layout part other slots slots' old new (Halted why line) same m
goes_same layout part other slots slots' old new (Err halt.Long) same m = runs_out_so (λ line. made_same layout part other slots slots' old new (Halted reason.LogFull line) same) m
goes_same layout part other slots slots' old new (Err halt.Refused) same m = tt
goes_same layout part other slots slots' old new (Err halt.Memory) same m = tt

-- a part that stops, whatever follows it
module _ {A B : Type 0} (layout : ElementLayout) (part : State → Outcome A) (next : A → State → Outcome B) (slots slots' : List ℤ) (old new : SerialProgress) where
  halts : (why : StopWhy) (line : ℕ) → RanPart layout part slots slots' old new (Halted why line) → RanPart layout (λ s. and_then (part s) next) slots slots' old new (Halted why line)
  halts why line m = record {
    added = m.added;
    plain = m.plain;
    gains = m.gains;
    makes = makes-halt part next slots (room_of layout.bound old) (adds slots' m.added) why line m.makes;
  }

  pub goes_stop : (why : Halt) → RunsPart layout part slots slots' old new (Err why) → RunsPart layout (λ s. and_then (part s) next) slots slots' old new (Err why)
  goes_stop (halt.Stops why line) m = halts why line m
  goes_stop halt.Long m = runs_out_so (λ line. halts reason.LogFull line) m
  goes_stop halt.Refused m = tt
  goes_stop halt.Memory m = tt

-- a part, and what follows it
module _ {A B : Type 0} (layout : ElementLayout) (part : State → Outcome A) (next : A → State → Outcome B) (slots mid_slots slots' : List ℤ) (old mid new : SerialProgress) (a : A)
    (one : RanPart layout part slots mid_slots old mid (Returned a)) where
  pub then_made : (finish : Finish B) → RanPart layout (next a) mid_slots slots' mid new finish → RanPart layout (λ s. and_then (part s) next) slots slots' old new finish
  then_made finish m = record {
    added = one.added ++ m.added;
    plain = plain_then one.added m.added one.plain m.plain;
    gains = gains_then layout old mid new one.added m.added one.gains m.gains;
    makes =
        let left = room_gained layout old mid one.added one.gains in
        makes-then part next slots (room_of layout.bound old) (adds mid_slots one.added) a (adds slots' m.added) finish one.makes
        (subst (λ (room : ℕ). Makes (next a) mid_slots room (adds slots' m.added) finish) left m.makes);
  }

  pub goes_then : (r : Result B Halt) → RunsPart layout (next a) mid_slots slots' mid new r → RunsPart layout (λ s. and_then (part s) next) slots slots' old new r
  goes_then (Ok v) m = then_made (Returned v) m
  goes_then (Err (halt.Stops why line)) m = then_made (Halted why line) m
  goes_then (Err halt.Long) m = runs_out_so (λ line. then_made (Halted reason.LogFull line)) m
  goes_then (Err halt.Refused) m = tt
  goes_then (Err halt.Memory) m = tt
