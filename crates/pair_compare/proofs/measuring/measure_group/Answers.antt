use Rattle.std.proofs.Common.{◌≡◌, ◌↔◌, ◌<◌, ℕ, List, get_or, length, rules, subst, sym}
use Rattle.pair_compare.specs.Conflict.{OneHas}
use Rattle.pair_compare.specs.Groups.{IsRunOf, IsSameMember}
use Rattle.pair_compare.specs.declared.member.Member.{Member}
use Rattle.pair_compare.proofs.Members.{restored, same_members}
use Rattle.pair_compare.proofs.measuring.measure_group.Goals as goal

pub returns : goal.returns
returns g c numbered =
    let olds = c.args.group.now.members.items in
    let news = c.measure_members.new.members in
    let lent : c.deref_mut.result.now ≡ olds = c.deref_mut.ensures.value in
    let count : length news ≡ length olds = search rules in
    let counted : c.args.group.now.members.len ≡ length olds = search rules in
    let each = subst (λ (ms : List Member). (i : ℕ) (d : Member) → i < length ms → IsSameMember (get_or ms i d) (get_or news i d)) lent c.measure_members.ensures.same in
    subst (λ (ms : List Member). OneHas IsRunOf ms numbered ↔ OneHas IsRunOf olds numbered) (sym (restored olds news c.args.group.now.members.len count counted)) (same_members olds news count each numbered)
