use Rattle.std.proofs.Common.{◌≡◌, sym, subst, ◌∙◌, is_ok, vec_len, arith}
use Rattle.std.specs.Prelude.{All}
use Rattle.stride_summary.specs.declared.key.Key.{Key}
use Rattle.stride_summary.specs.declared.stretch.Stretch.{Stretch}
use Rattle.stride_summary.specs.Run.{access_key}
use Rattle.stride_summary.specs.Singles.{HoldsSingle}
use Rattle.stride_summary.proofs.Alone.{not_single, others_pushed}
use Rattle.stride_summary.proofs.Storing.{HoldsSame-pushed, KeysDiffer-pushed, needed-pushed}
use Rattle.stride_summary.proofs.summary.Summary.give_place.Goals as goal

pub invariant_of-self-2-clause-keys : goal.invariant_of-self-2-clause-keys
invariant_of-self-2-clause-keys c =
    KeysDiffer-pushed (is_ok c.add_key.result) c.args.self.now.stretches.items c.add_key.new.stretches.items c.new-stretch.result c.add_key.ensures.items c.args.self.now.keys
    (subst (λ (k : Key). All (λ (s : Stretch). s.key ≡ k → ⊥) c.args.self.now.stretches.items) (c.requires.key ∙ sym (c.new-stretch.ensures.key ∙ c.of.ensures)) ((c.args.self.now.told c.args.key).0 c.requires.fresh))

pub invariant_of-self-2-clause-counted : goal.invariant_of-self-2-clause-counted
invariant_of-self-2-clause-counted c =
    c.args.self.now.counted ∙ sym (needed-pushed (is_ok c.add_key.result) c.args.self.now.stretches.items c.add_key.new.stretches.items c.new-stretch.result c.add_key.ensures.items c.new-stretch.ensures.empty)

pub invariant_of-self-2-clause-others : goal.invariant_of-self-2-clause-others
invariant_of-self-2-clause-others c =
    let singles = c.args.self.now.singles.list.items in
    others_pushed (is_ok c.add_key.result) singles c.args.self.now.stretches.items c.add_key.new.stretches.items c.new-stretch.result c.add_key.ensures.items c.args.self.now.others
    (λ a h. not_single c.args.self.now.most (vec_len c.args.self.now.stretches) singles (access_key c.args.access.now) c.args.self.now.early c.requires.apart a
    (subst (λ (k : Key). HoldsSingle singles k a) (c.new-stretch.ensures.key ∙ c.of.ensures) h))

pub invariant_of-self-2-clause-early : goal.invariant_of-self-2-clause-early
invariant_of-self-2-clause-early c = λ less. c.args.self.now.early (omega (arith, less, c.add_key.ensures.more))

pub returns-clause-same : goal.returns-clause-same
returns-clause-same c = HoldsSame-pushed (is_ok c.add_key.result) c.args.self.now.stretches.items c.add_key.new.stretches.items c.new-stretch.result c.add_key.ensures.items c.new-stretch.ensures.none
