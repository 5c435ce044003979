use Rattle.std.proofs.Common.{ap, subst, ◌∙◌, ◌<◌, length, set, rules}
use Rattle.std.proofs.lemmas.List.{get_or_default}
use Rattle.stride_summary.specs.declared.key.Key.{Key}
use Rattle.stride_summary.specs.declared.stretch.Stretch.{Stretch}
use Rattle.stride_summary.specs.Stretches.{HoldsOneMore}
use Rattle.stride_summary.proofs.Alone.{others_set}
use Rattle.stride_summary.proofs.Storing.{HoldsOneMore-set, needed-kept}
use Rattle.stride_summary.proofs.summary.Summary.add_at.Goals as goal

pub returns-clause-added : goal.returns-clause-added
returns-clause-added c d =
    let xs = c.args.self.now.stretches.items in
    let within : c.args.place < length xs = search rules in
    let was : Stretch = c.index_mut.result.now in
    let now : Stretch = c.put.new.self in
    subst (λ (k : Key). HoldsOneMore xs (set xs c.args.place now) k c.args.address)
    (ap (λ (s : Stretch). s.key) (c.index_mut.ensures.value ∙ get_or_default xs c.args.place was d within))
    (HoldsOneMore-set xs c.args.place was now c.args.address within c.index_mut.ensures.value c.put.ensures.key c.put.ensures.added)

pub invariant_of-self-clause-others : goal.invariant_of-self-clause-others
invariant_of-self-clause-others c = others_set c.args.self.now.singles.list.items c.args.self.now.stretches.items c.args.place c.index_mut.result.now c.put.new.self (search rules) c.index_mut.ensures.value c.put.ensures.key c.args.self.now.others

pub invariant_of-self-clause-counted : goal.invariant_of-self-clause-counted
invariant_of-self-clause-counted c = c.args.self.now.counted ∙ needed-kept c.args.self.now.stretches.items c.args.place c.index_mut.result.now c.put.new.self (search rules) c.index_mut.ensures.value c.put.ensures.limit
