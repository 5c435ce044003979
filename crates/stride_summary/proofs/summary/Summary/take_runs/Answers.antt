use Rattle.std.proofs.Common.{List, inl, inr, sym, subst, rules}
use Rattle.std.specs.List.Sorted.{IsNonDecreasingBy}
use Rattle.std.proofs.lemmas.List.Sorted.{IsNonDecreasingBy-from_sort, answers_always}
use Rattle.stride_summary.specs.declared.run.Run.{Run}
use Rattle.stride_summary.specs.declared.singles.Singles.{Singles}
use Rattle.stride_summary.specs.Singles.{HoldsSingle}
use Rattle.stride_summary.proofs.Emptying.{emptied-differ, emptied-holds, emptied-needed, emptied-told, none_single}
use Rattle.stride_summary.proofs.Finishing.{IsFinished, IsFinished-sorted}
use Rattle.stride_summary.proofs.summary.Summary.take_runs.Goals as goal

pub invariant_of-self-clause-keys : goal.invariant_of-self-clause-keys
invariant_of-self-clause-keys c = emptied-differ c.args.self.now.stretches.items c.empty_all.new.stretches.items c.empty_all.ensures.emptied c.args.self.now.keys

pub invariant_of-self-clause-told : goal.invariant_of-self-clause-told
invariant_of-self-clause-told c = emptied-told c.args.self.now.places c.args.self.now.stretches.items c.empty_all.new.stretches.items c.empty_all.ensures.emptied c.args.self.now.told

pub invariant_of-self-clause-counted : goal.invariant_of-self-clause-counted
invariant_of-self-clause-counted c = emptied-needed c.empty_all.new.stretches.items c.empty_all.ensures.emptied.emptied

pub invariant_of-self-clause-others : goal.invariant_of-self-clause-others
invariant_of-self-clause-others c = λ j d there a h. none_single c.empty_into.new.self.list.items _ a c.empty_into.ensures.none h

rising : (c : goal.After-forget_unless_used) → IsNonDecreasingBy (λ (r : Run). r.base) c.sort_unstable_by_key.new.self.items
rising c = IsNonDecreasingBy-from_sort (λ (r : Run). r.base) c.sort_unstable_by_key.new.self.items (c.sort_unstable_by_key.ensures.sorted (λ (r : Run). r.base) (answers_always _ _ _ (λ f a r g h. search rules)))

finished : (c : goal.After-forget_unless_used) → IsFinished c.args.self.now.stretches.items c.args.self.now.singles.list.items c.hand_out-runs.result.items
finished c =
    subst (λ (rs : List Run). IsFinished c.args.self.now.stretches.items c.args.self.now.singles.list.items rs) (sym c.hand_out-runs.ensures.same)
    (IsFinished-sorted c.args.self.now.stretches.items c.args.self.now.singles.list.items c.empty_all.new.runs.items c.empty_into.new.runs.items c.sort_unstable_by_key.new.self.items
    c.empty_all.ensures.done c.args.self.now.others c.empty_into.ensures.added c.sort_unstable_by_key.ensures.permutation (rising c))

pub returns-clause-ascends : goal.returns-clause-ascends
returns-clause-ascends c = subst (λ (rs : List Run). IsNonDecreasingBy (λ (r : Run). r.base) rs) (sym c.hand_out-runs.ensures.same) (rising c)

pub returns-clause-pairs : goal.returns-clause-pairs
returns-clause-pairs c = (finished c).pairs

pub returns-clause-apart : goal.returns-clause-apart
returns-clause-apart c = (finished c).apart

pub returns-clause-emptied : goal.returns-clause-emptied
returns-clause-emptied c = λ key address h. elim h [
  | inl held ↦ emptied-holds c.empty_all.new.stretches.items key address c.empty_all.ensures.emptied.emptied (c.forget_unless_used.ensures.stretches key address held)
  | inr alone ↦ none_single c.empty_into.new.self.list.items key address c.empty_into.ensures.none (subst (λ (s : Singles). HoldsSingle s.list.items key address) c.forget_unless_used.ensures.singles alone)
]
