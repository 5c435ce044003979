use Rattle.std.proofs.Common.{arith}
use Rattle.task_place.proofs.Operands.{no_operation}
use Rattle.task_place.proofs.left.left_depth.Goals as goal

pub returns : goal.returns
returns c =
    let none = no_operation c.down.operand.now c.in_default.not-Binary in
    let fits = c.down.invariant.0 in
    let told = c.down.invariant.1 in
    omega (arith, none, told, fits)
