use Rattle.std.proofs.Common.{sym, ◌∙◌, subst, List}
use Rattle.std.proofs.lemmas.List.{append-nil}
use Rattle.serial_run.specs.declared.frame.Frame.{Frame}
use Rattle.serial_run.specs.Stepping.{Pauses, stand}
use Rattle.serial_run.proofs.Advancing.{pauses_popped}
use Rattle.serial_run.proofs.lane.SerialLane.step.Goals as goal

pub returns-in_default : goal.returns-in_default
returns-in_default c =
    let x = stand c.args.self.now c.args.memory.now in
    λ layout tells.
    subst (λ (l : List Frame). Pauses layout (record x { rest = l }) (stand c.finish.new.self c.finish.new.memory) c.finish.result) (sym (c.in_default.ensures.items ∙ append-nil c.pop.new.self.items))
    (c.finish.ensures layout)

pub returns : goal.returns
returns c =
    let x = stand c.args.self.now c.args.memory.now in
    λ layout tells.
    pauses_popped layout x c.pop.new.self.items c.in-Some.next c.in-Some.ensures.items (stand c.go_on.new.self c.go_on.new.memory) c.go_on.result (c.go_on.ensures layout tells)
