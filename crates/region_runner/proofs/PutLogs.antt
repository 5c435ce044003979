-- What the log of a task lacks of what it put: at most the unlocks of what it held at its end.
use Rattle.std.proofs.Common.{◌≡◌, subst, ℕ, List, [], ℤ, Result, Ok, Err}
use Rattle.std.specs.List.{flat_map}
use Rattle.log_format.specs.declared.record.Record.{Record}
use Rattle.race_model.specs.Trace.{barrier_count}
use Rattle.kernel_model.specs.State.{State, Outcome}
use Rattle.history_model.specs.Joined.{LastIsEnd}
use Rattle.history_model.specs.Work.{Work, work_records}
use Rattle.execution_model.specs.Runs.{AreReleased, works_log}
use Rattle.execution_laws.proofs.Prefixes.{barriers_same, ends_same}
use Rattle.lane_runner.specs.declared.stop.Stop.TheVariants as stop
use Rattle.lane_runner.specs.declared.stop.Halt.{Halt}
use Rattle.lane_runner.specs.declared.stop.Halt.TheVariants as halt
use Rattle.lane_runner.specs.Going.{Progress, HasReleased}
use Rattle.lane_runner.specs.World.{WorldValue}
use Rattle.region_runner.specs.Ran.{TaskGoes, in_one}
use Rattle.region_runner.proofs.Traced.{are_released, one_records}

-- it has all barriers, and the End
pub record IsPut (works : List Work) : Type 0 where
  pub bars : barrier_count (flat_map work_records works) ≡ barrier_count (works_log works)
  pub ends : LastIsEnd (flat_map work_records works) → LastIsEnd (works_log works)

is_put : (works : List Work) (own : List ℕ) → HasReleased [] (in_one works) own → IsPut works
is_put works own r =
    let released = subst (λ (rs : List Record). AreReleased rs) (one_records works) (are_released (in_one works) own r) in
    record {
      bars = barriers_same (λ path. works_log works) (λ path. flat_map work_records works) (λ path. released) [];
      ends = ends_same (λ path. works_log works) (λ path. flat_map work_records works) (λ path. released) [];
    }

pub goes_put : (w : WorldValue) (part : State → Outcome (Unit {0})) (slots slots' : List ℤ) (old new : Progress) (works : List Work) (r : Result (Unit {0}) Halt) → TaskGoes w part slots slots' old new works r → IsPut works
goes_put w part slots slots' old new works (Ok u) t = is_put works t.own t.released
goes_put w part slots slots' old new works (Err (halt.Own (stop.DivZero line))) t = is_put works t.own t.released
goes_put w part slots slots' old new works (Err (halt.Own (stop.Index line))) t = is_put works t.own t.released
goes_put w part slots slots' old new works (Err (halt.Own (stop.LogFull line))) t = is_put works t.own t.released
goes_put w part slots slots' old new works (Err (halt.Region path why)) t = is_put works t.own t.released
goes_put w part slots slots' old new works (Err (halt.Own (stop.Tasks line))) t = is_put works t.own t.released
goes_put w part slots slots' old new works (Err (halt.Own (stop.Trouble trouble))) (t, refused) = is_put works t.own t.released
