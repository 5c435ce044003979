use Rattle.std.proofs.Common.{length}
use Rattle.pair_compare.proofs.Members.{Taken}
use Rattle.pair_compare.proofs.parting.add_members.Given as goal

abbrev pub invariant-rest : goal.invariant-rest
invariant-rest l = Taken l.part l.runs l.rest l.initial.members.items l.members.items

abbrev pub decreases-rest : goal.decreases-rest
decreases-rest l = length l.rest
