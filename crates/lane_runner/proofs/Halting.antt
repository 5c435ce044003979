-- What a lane notes of a stop tells why it doesn't go on.
use Rattle.std.proofs.Common.{◌≡◌, refl, ap, sym, ◌∙◌, arith, ℕ, List, ◌∷◌, ◌++◌, length, ℤ, Some, None, Result, Ok, Err}
use Rattle.std.specs.Prelude.{Bool, true, false, if◌then◌else◌}
use Rattle.std.specs.declared.cmp.Ordering.{Ordering}
use Rattle.std.specs.declared.cmp.Ordering.TheVariants.{Less, Equal, Greater}
use Rattle.std.specs.Ordering.{eq_by_cmp, is_eq}
use Rattle.std.proofs.lemmas.Cmp.{tied_itself}
use Rattle.std.proofs.lemmas.List.{length-append}
use Rattle.sw_base.specs.declared.path.Step.{Step}
use Rattle.sw_base.specs.Names.{path_cmp}
use Rattle.sw_base.specs.PathOrder.{path_cmp_total}
use Rattle.sw_base.proofs.Paths.{path_cmp_decides}
use Rattle.log_format.specs.declared.record.Record.{Record}
use Rattle.kernel_model.specs.State.{State, Outcome}
use Rattle.shared_words.specs.declared.view.View.{View}
use Rattle.lane_runner.specs.declared.stop.Halt.{Halt}
use Rattle.lane_runner.specs.declared.stop.Halt.TheVariants as halt
use Rattle.lane_runner.specs.declared.stop.Stop.{Stop}
use Rattle.lane_runner.specs.declared.stop.Stop.TheVariants as stop
use Rattle.lane_runner.specs.Going.{Progress, GoesPast, TakesOrHalts}
use Rattle.lane_runner.specs.Handed.{MaybeStop}
use Rattle.lane_runner.specs.Lane.{LaneValue, answer_due, halt_in, halt_of, noted}
use Rattle.lane_runner.specs.World.{WorldValue}

-- where a region of the lane at this path stopped, it wasn't the lane itself that did
abbrev pub IsApart : List Step → Result (Unit {0}) Halt → Type 0
IsApart path (Err (halt.Region at why)) = at ≡ path → ⊥
IsApart path _ = Unit {0}

-- ---- the path of the task that stopped

same_path : (path : List Step) → eq_by_cmp path_cmp path path ≡ true
same_path path = ap is_eq (tied_itself path_cmp_total path)

equal_of : (o : Ordering) → is_eq o ≡ true → o ≡ Equal
equal_of Less is = absurd (cc)
equal_of Equal is = refl
equal_of Greater is = absurd (cc)

-- paths that compare equal are equal
pub equal_paths : (at path : List Step) → eq_by_cmp path_cmp at path ≡ true → at ≡ path
equal_paths at path is = (path_cmp_decides at path).0 (equal_of (path_cmp at path) is)

other_path : (at path : List Step) → (at ≡ path → ⊥) → eq_by_cmp path_cmp at path ≡ false
other_path at path apart = by (eq_by_cmp path_cmp at path) refl where
  by : (b : Bool) → eq_by_cmp path_cmp at path ≡ b → b ≡ false
  by false is = refl
  by true is = absurd (apart (equal_paths at path is))

-- a path below another one isn't that one
longer : (path below at : List Step) (step : Step) → at ≡ path ++ step ∷ below → at ≡ path → ⊥
longer path below at step is same =
    let whole = ap (λ (p : List Step). length p) (sym same ∙ is) ∙ length-append path (step ∷ below) in
    absurd (omega (arith, whole))

-- ---- what is noted tells what was answered

own_noted : (path : List Step) (why : Stop) → halt_of path (Some (path, why)) ≡ Some (halt.Own why)
own_noted path why = ap (λ (b : Bool). Some (if b then halt.Own why else halt.Region path why)) (same_path path)

pub noted_tells : (path : List Step) (r : Result (Unit {0}) Halt) → IsApart path r → answer_due (halt_of path (noted path r)) ≡ r
noted_tells path (Ok u) apart = refl
noted_tells path (Err (halt.Own why)) apart = ap answer_due (own_noted path why)
noted_tells path (Err (halt.Region at why)) apart = ap (λ (b : Bool). Err (if b then halt.Own why else halt.Region at why)) (other_path at path apart)

-- who executed a part, or put a record, wasn't in its own region
pub goes_apart : (bars : ℕ) (w : WorldValue) (part : State → Outcome (Unit {0})) (slots slots' : List ℤ) (old new : Progress) (r : Result (Unit {0}) Halt) → GoesPast bars w part slots slots' old new r → IsApart old.buffer.path r
goes_apart bars w part slots slots' old new (Ok u) goes = tt
goes_apart bars w part slots slots' old new (Err (halt.Own why)) goes = tt
goes_apart bars w part slots slots' old new (Err (halt.Region at why)) goes =
    let inside = goes.stops.0.stopped.inside in longer old.buffer.path inside.below at _ inside.path_is

pub takes_apart : (event : Record) (after : View) (old new : Progress) (path : List Step) (r : Result (Unit {0}) Halt) → TakesOrHalts event after old new r → IsApart path r
takes_apart event after old new path (Ok u) takes = tt
takes_apart event after old new path (Err (halt.Own why)) takes = tt
takes_apart event after old new path (Err (halt.Region at why)) takes = absurd takes

-- ---- a lane that goes on

pub halt_none : (m : LaneValue) → m.stopped ≡ None → halt_in m ≡ None
halt_none m none = ap (λ (s : MaybeStop). halt_of m.path s) none

pub stopped_none : (m : LaneValue) → halt_in m ≡ None → m.stopped ≡ None
stopped_none m none = by m.stopped none where
  by : (s : MaybeStop) → halt_of m.path s ≡ None → s ≡ None
  by None is = refl
  by (Some stopped) is = absurd (cc)
