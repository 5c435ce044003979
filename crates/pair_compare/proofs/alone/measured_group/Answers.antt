use Rattle.std.proofs.Common.{◌↔◌, List, subst}
use Rattle.pair_compare.specs.Conflict.{OneHas}
use Rattle.pair_compare.specs.Groups.{IsRunOf}
use Rattle.pair_compare.specs.declared.member.Member.{Member}
use Rattle.pair_compare.proofs.alone.measured_group.Goals as goal

pub returns : goal.returns
returns c run = subst (λ (ms : List Member). OneHas IsRunOf c.in_ok-members.members.items run ↔ OneHas IsRunOf ms run) c.deref.ensures.value (c.in_ok-members.ensures run)
