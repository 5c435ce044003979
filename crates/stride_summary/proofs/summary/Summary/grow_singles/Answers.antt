use Rattle.std.proofs.Common.{◌↔◌, List, Contains, subst, sym, ◌∙◌}
use Rattle.stride_summary.specs.declared.single.Single.{Single}
use Rattle.stride_summary.specs.Singles.{AreOthers}
use Rattle.stride_summary.proofs.summary.Summary.grow_singles.Goals as goal

pub invariant_of-self-2-clause-others : goal.invariant_of-self-2-clause-others
invariant_of-self-2-clause-others c =
    let mid = c.settle_singles.new.self in
    subst (λ (ss : List Single). AreOthers ss mid.stretches.items) (sym c.grow.ensures.items) mid.others

pub invariant_of-self-2-clause-early : goal.invariant_of-self-2-clause-early
invariant_of-self-2-clause-early c = λ less. c.grow.ensures.items ∙ c.settle_singles.new.self.early less

pub returns-clause-same : goal.returns-clause-same
returns-clause-same c s = subst (λ (ss : List Single). Contains ss s ↔ Contains c.args.self.now.singles.list.items s) (sym c.grow.ensures.items) (c.settle_singles.ensures.same s)
