use Rattle.stride_summary.proofs.Alone.{none_left, others_same}
use Rattle.stride_summary.proofs.summary.Summary.settle_singles.Goals as goal

pub invariant_of-self-clause-others : goal.invariant_of-self-clause-others
invariant_of-self-clause-others c = others_same c.args.self.now.singles.list.items c.settle.new.self.list.items c.args.self.now.stretches.items (λ s. (c.settle.ensures.same s).0) c.args.self.now.others

pub invariant_of-self-clause-early : goal.invariant_of-self-clause-early
invariant_of-self-clause-early c = λ less. none_left c.args.self.now.singles.list.items c.settle.new.self.list.items (λ s. (c.settle.ensures.same s).0) (c.args.self.now.early less)
