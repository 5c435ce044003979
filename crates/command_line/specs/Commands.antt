-- What a command asks for.
use Rattle.command_line.specs.declared.arguments.Command.{Command}
use Rattle.command_line.specs.declared.arguments.Command.TheVariants.{Certify, Check, Confirm, Explain, Gen, Replay, Run, Show, Upgrade}
use Rattle.command_line.specs.Arguments.{Request, certify, check, confirm, explain, gen, replay, run, show, upgrade}

abbrev pub request_of : Command → Request
request_of (Check dir workers) = check dir.now workers
request_of (Run kernel dir size stays) = run kernel.now dir.now size
request_of (Replay kernel dir) = replay kernel.now dir.now
request_of (Show dir) = show dir.now
request_of (Gen rounds workers) = gen rounds workers
request_of (Upgrade dir new) = upgrade dir.now new.now
request_of (Explain dir low high) = explain dir.now low high
request_of (Confirm dir one other) = confirm dir.now one.row one.number other.row other.number
request_of (Certify kernel) = certify kernel.now
