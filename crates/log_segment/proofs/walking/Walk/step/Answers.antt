use Rattle.std.proofs.Common.{◌≡◌, ◌∙◌, ◌-◌, List, length, ap, subst, arith}
use Rattle.race_model.specs.Segment.{Segment as Interval}
use Rattle.log_segment.specs.declared.walking.Walk.{Walk}
use Rattle.log_segment.specs.Walking.{AddsSegments}
use Rattle.log_segment.proofs.Following.{follows_access, follows_other, closed_region, closed_barrier, ends_region, ends_barrier, adds_ended, access_fits, access_sized, kind_access}
use Rattle.log_segment.proofs.OwnLevel.{own_raised, own_passed}
use Rattle.log_segment.proofs.walking.Walk.step.Goals as goal

pub access-requires-clause-size : goal.access-requires-clause-size
access-requires-clause-size c = access_sized c.args.next.now (kind_access c.args.next.now.kind c.in-Read.is) c.requires.size

pub access-requires-clause-end : goal.access-requires-clause-end
access-requires-clause-end c = access_fits c.args.next.now (kind_access c.args.next.now.kind c.in-Read.is) c.requires.address

pub returns-in_ok-access-in-Read-clause-follows : goal.returns-in_ok-access-in-Read-clause-follows
returns-in_ok-access-in-Read-clause-follows c = λ logs before begun next number held f.
    follows_access logs c.args.path.now before c.args.next.now next c.args.self.now c.access.new.self begun c.args.held.now (kind_access c.args.next.now.kind c.in-Read.is) held
    c.in_ok-access-in-Read.ensures.added c.in_ok-access-in-Read.ensures.same f

pub returns-in_ok-fork-in-Region-clause-own : goal.returns-in_ok-fork-in-Region-clause-own
returns-in_ok-fork-in-Region-clause-own c =
    let label : c.close.new.self.label ≡ c.args.self.now.label = ap (λ (w : Walk). w.label) c.in_ok-close-in-Region.ensures.same in
    own_raised c.args.self.now.label c.fork.new.self.label c.args.number
    (c.in_ok-fork-in-Region.ensures.levels ∙ ap length label)
    (λ above own e. c.in_ok-fork-in-Region.ensures.raised above own (label ∙ e)) c.requires.own

pub returns-in_ok-fork-in-Region-clause-follows : goal.returns-in_ok-fork-in-Region-clause-follows
returns-in_ok-fork-in-Region-clause-follows c = λ logs before begun next number held f.
    let k = c.in_ok-close-in-Region.ensures in
    let j = c.in_ok-fork-in-Region.ensures in
    let last : c.args.number - 1 ≡ length before = omega arith in
    closed_region logs c.args.path.now before c.args.next.now next c.args.self.now c.close.new.self c.fork.new.self begun (c.args.number - 1) c.in-Region.is last
    k.first k.summary k.same j.forks j.same j.raised f

pub returns-in_ok-fork-in-Region-clause-adds : goal.returns-in_ok-fork-in-Region-clause-adds
returns-in_ok-fork-in-Region-clause-adds c = λ logs before begun next number f.
    let k = c.in_ok-close-in-Region.ensures in
    let last : c.args.number - 1 ≡ length before = omega arith in
    subst (λ (is : List Interval). AddsSegments logs is c.args.found.now.items c.close.new.found.items) (ends_region c.args.next.now.kind c.args.path.now begun c.in-Region.is)
    (adds_ended logs c.args.path.now before c.args.self.now begun (c.args.number - 1) c.args.found.now.items c.close.new.found.items last k.empty k.added f)

pub returns-in_ok-close-in-Barrier-clause-own : goal.returns-in_ok-close-in-Barrier-clause-own
returns-in_ok-close-in-Barrier-clause-own c =
    let label : c.close-in-Barrier.new.self.label ≡ c.args.self.now.label = ap (λ (w : Walk). w.label) c.in_ok-close-in-Barrier.ensures.same in
    own_passed c.args.self.now.label c.pass.new.self.label c.args.number
    (c.pass.ensures.levels ∙ ap length label)
    (λ above own e. c.pass.ensures.raised above own (label ∙ e)) c.requires.own

pub returns-in_ok-close-in-Barrier-clause-follows : goal.returns-in_ok-close-in-Barrier-clause-follows
returns-in_ok-close-in-Barrier-clause-follows c = λ logs before begun next number held f.
    let k = c.in_ok-close-in-Barrier.ensures in
    let last : c.args.number - 1 ≡ length before = omega arith in
    closed_barrier logs c.args.path.now before c.args.next.now next c.args.self.now c.close-in-Barrier.new.self c.pass.new.self begun (c.args.number - 1) c.in-Barrier.is c.requires.lane last
    k.first k.summary k.same c.pass.ensures.same c.pass.ensures.raised f

pub returns-in_ok-close-in-Barrier-clause-adds : goal.returns-in_ok-close-in-Barrier-clause-adds
returns-in_ok-close-in-Barrier-clause-adds c = λ logs before begun next number f.
    let k = c.in_ok-close-in-Barrier.ensures in
    let last : c.args.number - 1 ≡ length before = omega arith in
    subst (λ (is : List Interval). AddsSegments logs is c.args.found.now.items c.close-in-Barrier.new.found.items) (ends_barrier c.args.next.now.kind c.args.path.now begun c.in-Barrier.is)
    (adds_ended logs c.args.path.now before c.args.self.now begun (c.args.number - 1) c.args.found.now.items c.close-in-Barrier.new.found.items last k.empty k.added f)

pub returns-in-Lock-clause-follows : goal.returns-in-Lock-clause-follows
returns-in-Lock-clause-follows c = λ logs before begun next number held f.
    follows_other logs c.args.path.now before c.args.next.now next c.args.self.now begun c.in-Lock.is f
