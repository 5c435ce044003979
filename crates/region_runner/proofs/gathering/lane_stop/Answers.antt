use Rattle.std.proofs.Common.{◌≡◌, sym, subst, Option}
use Rattle.sw_base.specs.declared.trouble.Trouble.{Trouble}
use Rattle.lane_runner.specs.Lane.{halt_of}
use Rattle.region_runner.specs.Gathering.{lane_stop}
use Rattle.region_runner.proofs.NotedStops.{stop_unrefused}
use Rattle.region_runner.proofs.gathering.lane_stop.Goals as goal

pub returns-in_default-None : goal.returns-in_default-None
returns-in_default-None c =
    subst (λ (refused : Option Trouble). c.args.stopped ≡ lane_stop c.args.path.now (halt_of c.args.path.now c.args.stopped) refused) (sym c.in_default-None.is-1) (stop_unrefused c.args.path.now c.args.stopped)
