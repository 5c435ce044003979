use Rattle.std.proofs.Common.{List, subst}
use Rattle.std.specs.Prelude.{OnOk}
use Rattle.pair_compare.specs.Conflict.{GrowsBy, OneHas}
use Rattle.pair_compare.specs.Groups.{IsPartedPair, IsRunOf}
use Rattle.pair_compare.specs.Work.{IsTaskPair}
use Rattle.pair_compare.specs.declared.member.Member.{Member}
use Rattle.pair_compare.proofs.task.cut_group.Goals as goal

pub returns : goal.returns
returns c = subst (λ (ms : List Member). OnOk c.cut_at.result (GrowsBy (OneHas IsTaskPair c.args.tasks.now.items) (OneHas IsTaskPair c.cut_at.new.tasks.items) (IsPartedPair (OneHas IsRunOf ms)))) c.as_slice-members.ensures.value c.cut_at.ensures
