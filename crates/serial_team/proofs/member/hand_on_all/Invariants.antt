use Rattle.std.proofs.Common.{◌≡◌, ◌++◌, map}
use Rattle.std.specs.List.{flat_map}
use Rattle.serial_team.specs.Members.{all_idle, logs_of_member, whole_log}
use Rattle.serial_team.proofs.member.hand_on_all.Given as goal

abbrev pub invariant-loop-member : goal.invariant-loop-member
invariant-loop-member l = record { so_far : map whole_log l.done.items ≡ map whole_log l.initial.done.items ++ flat_map (logs_of_member l.at l.number) (all_idle l.yielded) }
