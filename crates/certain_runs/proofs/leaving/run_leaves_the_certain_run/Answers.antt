use Rattle.sw_base.specs.Environment.{Rose}
use Rattle.certain_runs.proofs.CertainCommand.{leaves_certain_run}
use Rattle.certain_runs.proofs.leaving.run_leaves_the_certain_run.Goals as goal

pub returns : goal.returns
returns c = λ before after kernel dir size old new status text words program run held certain due done.
    leaves_certain_run (Rose before after) kernel dir size old new text program held run words certain status due done
