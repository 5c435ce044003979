-- How a lane stopped whose log refused nothing, by what it noted.
use Rattle.std.proofs.Common.{◌≡◌, refl, ap, sym, List, Some, None}
use Rattle.std.specs.Prelude.{Bool, true, false, if◌then◌else◌}
use Rattle.std.specs.Ordering.{eq_by_cmp}
use Rattle.sw_base.specs.declared.path.Step.{Step}
use Rattle.sw_base.specs.Names.{path_cmp}
use Rattle.lane_runner.specs.declared.stop.Halt.TheVariants as halt
use Rattle.lane_runner.specs.declared.stop.Stop.{Stop}
use Rattle.lane_runner.specs.declared.stop.Stop.TheVariants as stop
use Rattle.lane_runner.specs.Handed.{MaybeStop}
use Rattle.lane_runner.specs.Lane.{halt_of, stop_of}
use Rattle.lane_runner.proofs.Halting.{equal_paths}
use Rattle.region_runner.specs.Gathering.{lane_stop}

own_stop : (at path : List Step) (why : Stop) → at ≡ path → stop_of path (halt.Own why) ≡ (at, why)
own_stop at path (stop.DivZero line) same = ap (λ (p : List Step). (p, stop.DivZero line)) (sym same)
own_stop at path (stop.Index line) same = ap (λ (p : List Step). (p, stop.Index line)) (sym same)
own_stop at path (stop.LogFull line) same = ap (λ (p : List Step). (p, stop.LogFull line)) (sym same)
own_stop at path (stop.Tasks line) same = ap (λ (p : List Step). (p, stop.Tasks line)) (sym same)
own_stop at path (stop.Trouble trouble) same = ap (λ (p : List Step). (p, stop.Trouble trouble)) (sym same)

pub stop_unrefused : (path : List Step) (noted : MaybeStop) → noted ≡ lane_stop path (halt_of path noted) None
stop_unrefused path None = refl
stop_unrefused path (Some (at, why)) = by (eq_by_cmp path_cmp at path) refl where
  by : (same : Bool) → eq_by_cmp path_cmp at path ≡ same → Some (at, why) ≡ Some (stop_of path (if same then halt.Own why else halt.Region at why))
  by true is = ap Some (sym (own_stop at path why (equal_paths at path is)))
  by false is = refl
