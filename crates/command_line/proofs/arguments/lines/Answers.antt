use Rattle.std.proofs.Common.{refl, rules, arith}
use Rattle.command_line.specs.Arguments.{IsNumber}
use Rattle.command_line.proofs.ArgumentLists.{same_number}
use Rattle.command_line.proofs.arguments.lines.Goals as goal

pub returns-then-high-low-clause-usage : goal.returns-then-high-low-clause-usage
returns-then-high-low-clause-usage c = λ n m low_is high_is in_order.
    let found : IsNumber c.args.low.now 1 4294967295 c.in-Some.low = search rules in
    let other_found : IsNumber c.args.high.now 1 4294967295 c.in-Some-2.high = search rules in
    let low = same_number c.args.low.now c.args.low.now 1 4294967295 n c.in-Some.low (omega arith) low_is found refl in
    let high = same_number c.args.high.now c.args.high.now 1 4294967295 m c.in-Some-2.high (omega arith) high_is other_found refl in
    omega (arith, low, high, in_order, c.if-high-low.true)
