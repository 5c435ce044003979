use Rattle.std.proofs.Common.{◌≡◌, ◌≤◌, Bool, IsTrue, false, rules}
use Rattle.pair_compare.specs.Conflict.{OneHas}
use Rattle.pair_compare.specs.Fields.{IsApartPair}
use Rattle.pair_compare.specs.Groups.{IsGroupPair, pointed}
use Rattle.pair_compare.proofs.Members.{Adds-group, Adds-nothing, none_apart, none_differ}
use Rattle.pair_compare.proofs.divide.add_group.Goals as goal

not_so : {b : Bool} → IsTrue b → b ≡ false → ⊥
not_so h e = cc

pub returns-then-not-parts : goal.returns-then-not-parts
returns-then-not-parts c = Adds-nothing (OneHas IsGroupPair c.args.groups.now.items) (IsApartPair c.args.level c.args.field (pointed c.args.segments.now))
    (none_apart c.args.level c.args.field c.args.segments.now c.requires.alike (λ p. not_so (c.parts.ensures.1 p) c.if-not-parts.true))

pub returns-then-range : goal.returns-then-range
returns-then-range c =
    let same : c.args.range.1 ≤ c.args.range.0 = search rules in
    Adds-nothing (OneHas IsGroupPair c.args.groups.now.items) (IsApartPair c.args.level c.args.field (pointed c.args.segments.now))
    (λ pair h. none_differ c.args.level c.args.field c.args.range.0 c.args.range.1 c.args.segments.now pair c.requires.within same h)

pub returns : goal.returns
returns c = Adds-group c.args.level c.args.field c.args.segments.now c.requires.alike c.args.groups.now.items c.push.new.self.items _ (c.parts.ensures.0 c.if-not-parts.false) c.in_ok-members.ensures c.in_ok-push.ensures.items
