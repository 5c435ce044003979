use Rattle.std.proofs.Common.{◌<◌, ℕ, length, Option, subst, sym, rules}
use Rattle.stride_summary.proofs.Holding.{on_err_from}
use Rattle.segment_groups.specs.Level.{IsInLaterLane, IsMember}
use Rattle.segment_groups.proofs.Chains.{HasPassed, passed_more, passed_none}
use Rattle.segment_groups.proofs.Levels.{follow, handed_over, later_first, left_falls, next_first, next_within, stopped_at}
use Rattle.segment_groups.proofs.level.Level.hand_over.Goals as goal

pub chain-init : goal.chain-init
chain-init g c = λ depth labels is. passed_none g.V.Partner.took (IsInLaterLane depth labels c.args.at) c.index-cursor.result.now c.args.visit.now c.args.steps.now (later_first depth labels c.args.self.now is c.args.at c.index-cursor.result.now c.requires.within c.index-cursor.ensures)

pub index-cursor-requires-in-Some : goal.index-cursor-requires-in-Some
index-cursor-requires-in-Some g c =
    let level = c.requires.level in
    let within : c.in-Some.position < length c.args.self.now.next.items =
    next_within level.0 level.1 c.args.self.now level.2 c.args.at c.in-Some.position c.chain.cursor c.in-Some.is (c.chain.invariant level.0 level.1 level.2).next in
    search rules

pub chain-smaller : goal.chain-smaller
chain-smaller g c =
    let level = c.requires.level in
    let within = next_within level.0 level.1 c.args.self.now level.2 c.args.at c.in-Some.position c.chain.cursor c.in-Some.is (c.chain.invariant level.0 level.1 level.2).next in
    left_falls level.0 level.1 c.args.self.now level.2 c.in-Some.position c.chain.cursor c.index-cursor-in-Some.result.now c.in-Some.is within
    (next_first level.0 level.1 c.args.self.now level.2 c.in-Some.position c.index-cursor-in-Some.result.now within c.index-cursor-in-Some.ensures)

pub chain-preserved : goal.chain-preserved
chain-preserved g c = λ depth labels is.
    let so_far = subst (λ (o : Option ℕ). HasPassed g.V.Partner.took (IsInLaterLane depth labels c.args.at) o c.args.visit.now c.chain.visit c.args.steps.now c.chain.steps) c.in-Some.is (c.chain.invariant depth labels is) in
    let within = next_within depth labels c.args.self.now is c.args.at c.in-Some.position c.chain.cursor c.in-Some.is (c.chain.invariant depth labels is).next in
    subst (λ (n : ℕ). HasPassed g.V.Partner.took (IsInLaterLane depth labels c.args.at) c.index-cursor-in-Some.result.now c.args.visit.now c.take.new.self c.args.steps.now n) (sym c.tick.ensures)
    (passed_more g.V.Partner.took (IsInLaterLane depth labels c.args.at) (IsMember depth labels c.in-Some.position) c.in-Some.position c.index-cursor-in-Some.result.now c.args.visit.now c.chain.visit c.take.new.self c.args.steps.now c.chain.steps
    (follow depth labels c.args.self.now is c.args.at c.in-Some.position so_far.next)
    (next_first depth labels c.args.self.now is c.in-Some.position c.index-cursor-in-Some.result.now within c.index-cursor-in-Some.ensures)
    c.in_ok-take.ensures.taken so_far)

pub returns-in_err-take-clause-refused : goal.returns-in_err-take-clause-refused
returns-in_err-take-clause-refused g c = λ depth labels is. on_err_from c.from_residual.result
    (stopped_at g.V.Partner.took g.V.Partner.refused (IsInLaterLane depth labels c.args.at) c.chain.cursor c.in-Some.position c.args.visit.now c.chain.visit c.take.new.self c.args.steps.now c.chain.steps c.tick.new.self
    c.in-Some.is c.tick.ensures c.in_err-take.ensures.not_taken (c.chain.invariant depth labels is))

pub returns-clause-taken : goal.returns-clause-taken
returns-clause-taken g c = λ depth labels is.
    handed_over g.V.Partner.took (IsInLaterLane depth labels c.args.at) c.chain.cursor c.args.visit.now c.chain.visit c.args.steps.now c.chain.steps c.in_default.is (c.chain.invariant depth labels is)
