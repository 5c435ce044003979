use Rattle.sw_base.specs.Environment.{Rose}
use Rattle.certain_runs.proofs.NeverStops.{never_stopped}
use Rattle.certain_runs.proofs.agreeing.certified_kernels_never_stop.Goals as goal

pub returns : goal.returns
returns c = λ before after kernel dir size old new told status answer text certify done due ended.
    never_stopped (Rose before after) kernel dir size old new told status answer text done due ended certify
