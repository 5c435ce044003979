use Rattle.std.proofs.Common.{rules, ◌∙◌}
use Rattle.stride_summary.proofs.Alone.{others_set}
use Rattle.stride_summary.proofs.Storing.{HoldsSame-set, needed-kept}
use Rattle.stride_summary.proofs.summary.Summary.prepare.Goals as goal

pub returns-clause-same : goal.returns-clause-same
returns-clause-same c = HoldsSame-set c.args.self.now.stretches.items c.args.place c.index_mut.result.now c.widen.new.self (search rules) c.index_mut.ensures.value c.widen.ensures.key c.widen.ensures.addresses

pub invariant_of-self-clause-others : goal.invariant_of-self-clause-others
invariant_of-self-clause-others c = others_set c.args.self.now.singles.list.items c.args.self.now.stretches.items c.args.place c.index_mut.result.now c.widen.new.self (search rules) c.index_mut.ensures.value c.widen.ensures.key c.args.self.now.others

pub invariant_of-self-clause-counted : goal.invariant_of-self-clause-counted
invariant_of-self-clause-counted c = c.args.self.now.counted ∙ needed-kept c.args.self.now.stretches.items c.args.place c.index_mut.result.now c.widen.new.self (search rules) c.index_mut.ensures.value c.widen.ensures.limit
