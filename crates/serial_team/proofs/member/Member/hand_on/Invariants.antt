use Rattle.std.proofs.Common.{◌≡◌, ◌++◌, map}
use Rattle.serial_team.specs.Members.{whole_log}
use Rattle.serial_team.proofs.member.Member.hand_on.Given as goal

abbrev pub invariant-loop-log : goal.invariant-loop-log
invariant-loop-log l = record { so_far : map whole_log l.done.items ≡ map whole_log l.initial.done.items ++ map whole_log l.yielded }
