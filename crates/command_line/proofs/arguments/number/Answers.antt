use Rattle.std.proofs.Common.{arith, ◌≡◌, ◌<◌, ◌^◌, Some}
use Rattle.command_line.proofs.arguments.number.Goals as goal

pub returns-in_default-clause-none : goal.returns-in_default-clause-none
returns-in_default-clause-none c = λ n is. let fits : n < 2 ^ 64 = omega arith in
    let read : c.parsed.result ≡ Some n = c.parsed.ensures n fits is.digits in grind (arith, read)
