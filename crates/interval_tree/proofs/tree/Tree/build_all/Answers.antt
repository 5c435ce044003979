use Rattle.std.proofs.Common.{◌∙◌, ap, arith, rules}
use Rattle.std.specs.List.{flat_map}
use Rattle.std.proofs.lemmas.List.{take_all}
use Rattle.std.proofs.lemmas.List.Sorted.{IsNonDecreasingBy-from_sort, answers_always}
use Rattle.interval_tree.specs.Order.{first_byte}
use Rattle.interval_tree.proofs.Shown.{pointed_byte, AreReaches-from_nothing, ascends-shown, IsInOrder-shown}
use Rattle.interval_tree.proofs.tree.Tree.build_all.Goals as goal

pub invariant_of-result : goal.invariant_of-result
invariant_of-result c = record {
  ascends = IsNonDecreasingBy-from_sort first_byte _ (ascends-shown c.sort_by_key.new.self.items (c.in_ok-sort_by_key.ensures.sorted pointed_byte (answers_always _ _ _ (λ f a r g h. search rules))));
  reached = AreReaches-from_nothing _ _ _ _ c.new-reaches.ensures.items c.deref.ensures.value c.in_ok-push_reaches.ensures.pushed;
}

pub returns : goal.returns
returns c = IsInOrder-shown _ c.loop-part.runs.items c.sort_by_key.new.self.items (c.loop-part.invariant ∙ ap (flat_map (λ p. p.now)) (take_all c.loop-part.part-index c.args.parts.now (omega arith))) c.sort_by_key.ensures.permutation
    (c.in_ok-sort_by_key.ensures.sorted pointed_byte (answers_always _ _ _ (λ f a r g h. search rules)))
    (c.sort_by_key.ensures.stable pointed_byte (answers_always _ _ _ (λ f a r g h. search rules)))
