use Rattle.std.proofs.Common.{◌≡◌, ◌+◌, ◌-◌, ℕ, List, length, sym, subst, arith}
use Rattle.stride_summary.proofs.Holding.{on_err_from}
use Rattle.log_segment.specs.declared.segment.Segment.{Segment}
use Rattle.segment_groups.specs.Group.{label_at}
use Rattle.segment_groups.specs.Level.{AreGroups}
use Rattle.segment_groups.specs.Partners.{HandsOver}
use Rattle.segment_groups.specs.declared.level.Level.{Level}
use Rattle.segment_groups.proofs.Depths.{IsDeeper, all_depths, deepest_none, level_at, one_less_deep, stops_at_depth}
use Rattle.segment_groups.proofs.groups.Groups.partners.Goals as goal

groups_of : (segments viewed : List Segment) (levels items : List Level) → segments ≡ viewed → items ≡ levels → AreGroups segments levels → AreGroups viewed items
groups_of segments viewed levels items same listed groups = subst (λ (ss : List Segment). AreGroups ss items) same (subst (λ (ls : List Level). AreGroups segments ls) (sym listed) groups)

pub loop-level-init : goal.loop-level-init
loop-level-init g c =
    let groups = groups_of _ c.args.self.now _ c.deref-level-items.result.now c.self.view_is c.deref-level-items.ensures.value c.self.invariant in
    let count : length c.deref-level-items.result.now ≡ length c.deref-level-items.result.now - 0 = omega arith in
    subst (λ (n : ℕ). HandsOver g.V.Partner.took (IsDeeper n (label_at c.args.self.now) c.args.at) c.args.visit.now c.args.visit.now c.args.steps.now c.args.steps.now) count
    (deepest_none g.V.Partner.took c.args.self.now (length c.deref-level-items.result.now) c.args.at c.args.visit.now c.args.steps.now groups.deep)

pub loop-level-preserved : goal.loop-level-preserved
loop-level-preserved g c =
    let groups = groups_of _ c.args.self.now _ c.deref-level-items.result.now c.self.view_is c.deref-level-items.ensures.value c.self.invariant in
    let depth = length c.deref-level-items.result.now - c.loop-level.level-index in
    let is = level_at c.args.self.now c.deref-level-items.result.now c.loop-level.level-index c.level-item.result groups c.loop-level-test.true c.level-item.is in
    one_less_deep g.V.Partner.took (label_at c.args.self.now) depth (length c.deref-level-items.result.now - (c.loop-level.level-index + 1)) c.args.at c.args.visit.now c.loop-level.visit c.hand_over.new.visit
    c.args.steps.now c.loop-level.steps c.hand_over.new.steps is.lanes (omega (arith, c.loop-level-test.true)) c.loop-level.invariant (c.in_ok-hand_over.ensures.taken depth (label_at c.args.self.now) is)

pub returns-in_err-hand_over-clause-refused : goal.returns-in_err-hand_over-clause-refused
returns-in_err-hand_over-clause-refused g c =
    let groups = groups_of _ c.args.self.now _ c.deref-level-items.result.now c.self.view_is c.deref-level-items.ensures.value c.self.invariant in
    let depth = length c.deref-level-items.result.now - c.loop-level.level-index in
    let is = level_at c.args.self.now c.deref-level-items.result.now c.loop-level.level-index c.level-item.result groups c.loop-level-test.true c.level-item.is in
    on_err_from c.from_residual.result
    (stops_at_depth c.args.self.now groups.tree c.args.at g.V.Partner.took g.V.Partner.refused depth c.args.visit.now c.loop-level.visit c.hand_over.new.visit
    c.args.steps.now c.loop-level.steps c.hand_over.new.steps (omega (arith, c.loop-level-test.true)) c.loop-level.invariant (c.in_err-hand_over.ensures.refused depth (label_at c.args.self.now) is))

pub returns-clause-taken : goal.returns-clause-taken
returns-clause-taken g c =
    let groups = groups_of _ c.args.self.now _ c.deref-level-items.result.now c.self.view_is c.deref-level-items.ensures.value c.self.invariant in
    let root : length c.deref-level-items.result.now - c.loop-level.level-index ≡ 0 = omega (arith, c.loop-level-test.false) in
    all_depths c.args.self.now groups.tree c.args.at g.V.Partner.took c.args.visit.now c.loop-level.visit c.args.steps.now c.loop-level.steps
    (subst (λ (n : ℕ). HandsOver g.V.Partner.took (IsDeeper n (label_at c.args.self.now) c.args.at) c.args.visit.now c.loop-level.visit c.args.steps.now c.loop-level.steps) root c.loop-level.invariant)
