use Rattle.sw_base.specs.Environment.{Rose}
use Rattle.certain_runs.proofs.Certified.{as_certified}
use Rattle.certain_runs.proofs.agreeing.runs_are_as_certified.Goals as goal

pub returns : goal.returns
returns c = λ before after kernel dir size old new told status verdict text certify done due ended.
    as_certified (Rose before after) kernel dir size old new told status verdict text done due ended certify
