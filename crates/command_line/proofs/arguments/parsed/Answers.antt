use Rattle.std.proofs.Common.{arith}
use Rattle.std.proofs.lemmas.Fmt.{parse-decimal}
use Rattle.command_line.proofs.arguments.parsed.Goals as goal

pub returns : goal.returns
returns c = λ n fits digits. let parsed = parse-decimal 64 n c.args.word.now c.parse.result fits fits digits c.parse.ensures.value.0 in grind (arith, parsed)
