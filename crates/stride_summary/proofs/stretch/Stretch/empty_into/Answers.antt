use Rattle.std.proofs.Common.{ℕ, List, subst}
use Rattle.stride_summary.specs.declared.key.Key.{Key}
use Rattle.stride_summary.specs.Spread.{AddsCuts}
use Rattle.stride_summary.proofs.stretch.Stretch.empty_into.Goals as goal

pub returns-clause-cuts : goal.returns-clause-cuts
returns-clause-cuts c = record {
  ascending = c.settle.new.self.addresses.items;
  rising = c.settle.ensures.ascending;
  same = c.settle.ensures.addresses;
  cuts = subst (λ (k : Key). AddsCuts k c.settle.new.self.addresses.items c.args.runs.now.items c.push_runs.new.runs.items) c.settle.ensures.key
      (subst (λ (xs : List ℕ). AddsCuts c.settle.new.self.key xs c.args.runs.now.items c.push_runs.new.runs.items) c.deref.ensures.value c.push_runs.ensures.cuts);
}
