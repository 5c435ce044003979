use Rattle.std.proofs.Common.{◌≡◌, ◌<◌, ◌≤◌, ◌+◌, ◌-◌, ◌/◌, Bool, false, IsTrue, Bor, List, rules, subst, sym, arith}
use Rattle.std.proofs.lemmas.List.Sorted.{IsNonDecreasingBy-drop, IsNonDecreasingBy-take}
use Rattle.std.proofs.lemmas.Result.{on_ok_weaker}
use Rattle.log_segment.specs.declared.segment.Segment.{Segment}
use Rattle.pair_compare.specs.Conflict.{GrowsBy, OneHas}
use Rattle.pair_compare.specs.Fields.{AreInOrder, CanDivide, IsSamePair, label_value}
use Rattle.pair_compare.specs.Groups.{IsGroupPair, pointed}
use Rattle.pair_compare.proofs.Halving.{can_moved, grow_all, grow_halves, grow_moved, grow_same, left_half, right_half}
use Rattle.pair_compare.proofs.NextField.{ended_same, goes_on, next_can}
use Rattle.pair_compare.proofs.Members.{Adds-nothing}
use Rattle.pair_compare.proofs.divide.+divide.Goals as goal

pub returns-then-has_ended : goal.returns-then-has_ended
returns-then-has_ended t c = Adds-nothing (OneHas IsGroupPair c.args.groups.now.items) (IsSamePair c.args.level c.args.field (pointed c.args.members.now))
    (λ pair h. ended_same c.args.level c.args.range.0 c.args.range.1 c.args.field c.args.members.now pair c.requires.can (c.has_ended.ensures.0 c.if-has_ended.true) h.two)

not_so : {b : Bool} → IsTrue b → b ≡ false → ⊥
not_so h e = cc

pub add_group-requires : goal.add_group-requires
add_group-requires t c = next_can c.args.level c.args.range.0 c.args.range.1 c.extremes-range.result.0 c.extremes-range.result.1 c.args.field c.args.members.now c.next-level.result (search rules) (search rules) c.requires.can
    (λ e. not_so (c.has_ended.ensures.1 e) c.if-has_ended.false) c.next-level.ensures c.extremes-range.ensures.between

pub divide-requires : goal.divide-requires
divide-requires t c =
    let goes = goes_on c.args.level c.args.range.0 c.args.range.1 c.extremes-range.result.0 c.extremes-range.result.1 c.args.field c.args.members.now c.next-level.result (search rules) (search rules) c.requires.can
    (λ e. not_so (c.has_ended.ensures.1 e) c.if-has_ended.false) c.next-level.ensures c.extremes-range.ensures.between c.extremes-range.ensures.fits in
    (omega (arith, goes.less, c.decreases), (goes.can, (goes.few, λ less. absurd (omega (arith, less, c.if-range.true)))))

pub returns-then-range : goal.returns-then-range
returns-then-range t c =
    let low : c.args.range.1 ≤ c.args.range.0 = search rules in
    on_ok_weaker c.divide.result
    (λ same. grow_same c.args.level c.args.field c.args.range.0 c.args.range.1 c.args.members.now c.args.groups.now.items c.divide.new.groups.items c.requires.can.within low
    (grow_all c.next-level.result.0 c.next-level.result.1 (pointed c.args.members.now) c.args.groups.now.items c.add_group.new.groups.items c.divide.new.groups.items c.in_ok-add_group.ensures same)) c.divide.ensures

pub divide-requires-then-most-least : goal.divide-requires-then-most-least
divide-requires-then-most-least t c =
    let next = c.next-level.result in
    let low = c.extremes-range.result.0 in
    let high = c.extremes-range.result.1 in
    let goes = goes_on c.args.level c.args.range.0 c.args.range.1 low high c.args.field c.args.members.now next (search rules) (search rules) c.requires.can
    (λ e. not_so (c.has_ended.ensures.1 e) c.if-has_ended.false) c.next-level.ensures c.extremes-range.ensures.between c.extremes-range.ensures.fits in
    let can = subst (λ (refs : List (Bor Segment)). CanDivide next.0 next.1 low high refs) (sym c.as_slice.ensures.value) (can_moved next.0 low high next.1 c.args.members.now c.in_ok-ordered.ordered.items c.in_ok-ordered.ensures.same goes.can) in
    (omega (arith, goes.less, c.decreases), (can, (goes.few, λ less. subst (λ (refs : List (Bor Segment)). AreInOrder next.0 next.1 refs) (sym c.as_slice.ensures.value) c.in_ok-ordered.ensures.in_order)))

pub returns-then-most-least : goal.returns-then-most-least
returns-then-most-least t c =
    let low : c.args.range.1 ≤ c.args.range.0 = search rules in
    let next = c.next-level.result in
    on_ok_weaker c.divide-then-most-least.result
    (λ same. grow_same c.args.level c.args.field c.args.range.0 c.args.range.1 c.args.members.now c.args.groups.now.items c.divide-then-most-least.new.groups.items c.requires.can.within low
    (grow_all next.0 next.1 (pointed c.args.members.now) c.args.groups.now.items c.add_group.new.groups.items c.divide-then-most-least.new.groups.items c.in_ok-add_group.ensures
    (grow_moved next.0 next.1 c.args.members.now c.in_ok-ordered.ordered.items c.add_group.new.groups.items c.divide-then-most-least.new.groups.items c.in_ok-ordered.ensures.same
    (subst (λ (refs : List (Bor Segment)). GrowsBy (OneHas IsGroupPair c.add_group.new.groups.items) (OneHas IsGroupPair c.divide-then-most-least.new.groups.items) (IsSamePair next.0 next.1 (pointed refs))) c.as_slice.ensures.value same))))
    c.divide-then-most-least.ensures

pub divide-requires-2 : goal.divide-requires-2
divide-requires-2 t c =
    let wide : c.args.range.0 < c.args.range.1 = search rules in
    let middle = c.args.range.0 + (c.args.range.1 - c.args.range.0) / 2 in
    let less : c.args.range.0 + (c.args.range.1 - c.args.range.0) / 2 - c.args.range.0 < c.args.range.1 - c.args.range.0 = omega (arith, wide) in
    let n = c.count_up_to.result in
    let can = subst (λ (refs : List (Bor Segment)). CanDivide c.args.level c.args.field c.args.range.0 middle refs) (sym c.split_at.ensures.front)
    (left_half c.args.level c.args.range.0 c.args.range.1 middle n c.args.field c.args.members.now c.requires.can c.count_up_to.ensures) in (
      omega (arith, less, c.decreases),
      (
        can,
        (
          c.requires.few,
          λ w. subst (λ (refs : List (Bor Segment)). AreInOrder c.args.level c.args.field refs) (sym c.split_at.ensures.front)
              (IsNonDecreasingBy-take (λ s. label_value c.args.level c.args.field s.now.label) n c.args.members.now (c.requires.in_order wide)),
        ),
      ),
    )

pub divide-requires-3 : goal.divide-requires-3
divide-requires-3 t c =
    let wide : c.args.range.0 < c.args.range.1 = search rules in
    let middle = c.args.range.0 + (c.args.range.1 - c.args.range.0) / 2 in
    let less : c.args.range.1 - (c.args.range.0 + (c.args.range.1 - c.args.range.0) / 2 + 1) < c.args.range.1 - c.args.range.0 = omega (arith, wide) in
    let n = c.count_up_to.result in
    let can = subst (λ (refs : List (Bor Segment)). CanDivide c.args.level c.args.field (middle + 1) c.args.range.1 refs) (sym c.split_at.ensures.back)
    (right_half c.args.level c.args.range.0 c.args.range.1 middle n c.args.field c.args.members.now c.requires.can c.count_up_to.ensures) in (
      omega (arith, less, c.decreases),
      (
        can,
        (
          c.requires.few,
          λ w. subst (λ (refs : List (Bor Segment)). AreInOrder c.args.level c.args.field refs) (sym c.split_at.ensures.back)
              (IsNonDecreasingBy-drop (λ s. label_value c.args.level c.args.field s.now.label) n c.args.members.now (c.requires.in_order wide)),
        ),
      ),
    )

pub returns : goal.returns
returns t c =
    let g0 = c.args.groups.now.items in
    let g1 = c.divide-2.new.groups.items in
    let g2 = c.divide-3.new.groups.items in
    on_ok_weaker c.divide-3.result
    (λ right. grow_halves c.args.level (c.args.range.0 + (c.args.range.1 - c.args.range.0) / 2) c.count_up_to.result c.args.field c.args.members.now g0 g1 g2 c.count_up_to.ensures
    (subst (λ (refs : List (Bor Segment)). GrowsBy (OneHas IsGroupPair g0) (OneHas IsGroupPair g1) (IsSamePair c.args.level c.args.field (pointed refs))) c.split_at.ensures.front c.in_ok-divide.ensures)
    (subst (λ (refs : List (Bor Segment)). GrowsBy (OneHas IsGroupPair g1) (OneHas IsGroupPair g2) (IsSamePair c.args.level c.args.field (pointed refs))) c.split_at.ensures.back right))
    c.divide-3.ensures
