use Rattle.std.proofs.Common.{ℕ, ◌+◌, ◌-◌, ◌/◌, ◌<◌, List, length, ◌↔◌, Contains, ◌≡◌, ◌∙◌, rules, subst, sym, ap}
use Rattle.std.specs.Global.{Vec}
use Rattle.std.proofs.lemmas.List.{get_or_default}
use Rattle.stride_summary.specs.declared.stretch.Stretch.{Stretch}
use Rattle.stride_summary.proofs.Alone.{others_set}
use Rattle.stride_summary.proofs.Storing.{HoldsSame-set, needed-raised}
use Rattle.stride_summary.proofs.summary.Summary.raise.Goals as goal

pub invariant_of-self-2-clause-counted : goal.invariant_of-self-2-clause-counted
invariant_of-self-2-clause-counted c =
    let xs = c.args.self.now.stretches.items in
    let within : c.args.place < length xs = search rules in
    let was = c.index_mut.result.now in
    let shown : c.index.result.now ≡ was = c.index.ensures ∙ get_or_default xs c.args.place c.index.result.now was within ∙ sym c.index_mut.ensures.value in
    ap (λ (n : ℕ). n - c.half-before.result + c.half.result) c.args.self.now.counted
    ∙ needed-raised xs c.args.place was c.raise.new.self c.half-before.result c.half.result within c.index_mut.ensures.value
    (c.half-before.ensures ∙ ap (λ (s : Stretch). (s.limit + 1) / 2) shown) (c.half.ensures ∙ ap (λ (n : ℕ). (n + 1) / 2) (sym c.raise.ensures.limit))

pub returns-clause-same : goal.returns-clause-same
returns-clause-same c =
    let is : c.raise.new.self.addresses.items ≡ c.index_mut.result.now.addresses.items = ap (λ (v : Vec ℕ). v.items) c.raise.ensures.addresses in
    HoldsSame-set c.args.self.now.stretches.items c.args.place c.index_mut.result.now c.raise.new.self (search rules) c.index_mut.ensures.value c.raise.ensures.key
    (λ a. subst (λ (xs : List ℕ). Contains xs a ↔ Contains c.index_mut.result.now.addresses.items a) (sym is) ((λ h. h), (λ h. h)))

pub invariant_of-self-2-clause-others : goal.invariant_of-self-2-clause-others
invariant_of-self-2-clause-others c = others_set c.args.self.now.singles.list.items c.args.self.now.stretches.items c.args.place c.index_mut.result.now c.raise.new.self (search rules) c.index_mut.ensures.value c.raise.ensures.key c.args.self.now.others
