use Rattle.std.proofs.Common.{◌≡◌, ◌≤◌, List, length, rules, subst, arith}
use Rattle.stride_summary.specs.declared.run.Run.{Run}
use Rattle.pair_compare.proofs.Members.{Taken, nothing_left, taken_all, taken_more, taken_none}
use Rattle.pair_compare.proofs.parting.add_members.Goals as goal

pub rest-init : goal.rest-init
rest-init c = taken_none c.args.part c.args.runs.now c.args.members.now.items

pub rest-smaller : goal.rest-smaller
rest-smaller c =
    let some : 1 ≤ c.min.result = search rules in
    omega (arith, some, c.split_at.ensures.back_len)

pub rest-preserved : goal.rest-preserved
rest-preserved c = taken_more c.args.part c.args.runs.now c.split_at.result.0.now c.split_at.result.1.now c.args.members.now.items c.rest.members.items c.push.new.self.items c.new.result
    c.new.ensures.part c.new.ensures.runs c.in_ok-push.ensures.items
    (subst (λ (runs : List Run). Taken c.args.part c.args.runs.now runs c.args.members.now.items c.rest.members.items) c.split_at.ensures.by_index.0 c.rest.invariant)

pub returns : goal.returns
returns c =
    let none : length c.rest.rest.now ≡ 0 = search rules in
    taken_all c.args.part c.args.runs.now c.rest.rest.now c.args.members.now.items c.rest.members.items (nothing_left c.rest.rest.now none) c.rest.invariant
