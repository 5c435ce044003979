use Rattle.std.proofs.Common.{◌≡◌, ◌∙◌, refl, inl, ◌+◌, ◌-◌, ◌*◌, List, ℕ, drop, length, ap, subst, arith}
use Rattle.std.proofs.lemmas.List.{drop-drop}
use Rattle.std.proofs.lemmas.Result.{err_from_is_err_and}
use Rattle.log_format.specs.declared.record.Why.TheVariants as why
use Rattle.log_format.specs.Table.{IsFirstFault, Spells}
use Rattle.log_walk.specs.declared.check.LogFault.TheVariants as fault
use Rattle.log_walk.specs.LogSoFar.{LogSoFar}
use Rattle.log_walk.specs.Rules.{log_task_of}
use Rattle.log_walk.specs.Unread.{unread}
use Rattle.log_walk.proofs.LogSoFar.{in_lane, log_next, log_refused}
use Rattle.log_walk.proofs.Steps.{walk_push}
use Rattle.log_walk.proofs.check.walk_ahead.Goals as goal

pub records-init : goal.records-init
records-init c = record {
  so = λ bytes rest opened label old so. so;
  rest = ap (λ (n : ℕ). drop n c.args.ahead.now) (let none : 0 ≡ 24 * (c.args.before - c.args.before) = omega arith in none);
  low = omega arith;
  high = c.requires.before;
  there = omega arith;
}

pub accept-requires-clause-segments : goal.accept-requires-clause-segments
accept-requires-clause-segments c =
    let known = c.records.invariant.so c.requires.so.0 c.requires.so.1 c.requires.so.2 c.requires.so.3 c.requires.so.4 c.requires.so.5 in
    known.checks.limit

pub accept-requires-clause-barriers : goal.accept-requires-clause-barriers
accept-requires-clause-barriers c =
    let known = c.records.invariant.so c.requires.so.0 c.requires.so.1 c.requires.so.2 c.requires.so.3 c.requires.so.4 c.requires.so.5 in
    omega (arith, known.checks.barriers)

pub accept-requires-clause-address : goal.accept-requires-clause-address
accept-requires-clause-address c =
    let spells : Spells c.args.format c.in-Some.bytes.now c.in-Ok.next = rw c.in-Ok.is at c.decode_as-read.ensures.found in
    spells.tabled.passes why.Address

pub returns-in-Err-clause-refused : goal.returns-in-Err-clause-refused
returns-in-Err-clause-refused c =
    let first : IsFirstFault c.args.format c.in-Some.bytes.now c.in-Err.why = rw c.in-Err.is at c.decode_as-read.ensures.fault in λ rest bytes opened label old given.
    let known = c.records.invariant.so bytes rest opened label old given in
    log_refused bytes rest (log_task_of c.args.task.now) opened label c.records.state c.records.walk c.records.rest.now old c.records.found.items c.records.after (unread c.records.rest.now rest) known refl c.in-Some.bytes.now (fault.Bad (c.records.after + 1) c.rule_of.result) c.records-test.true
    c.in-Some.ensures.cases.0 (omega (arith, c.in-Some.ensures.cases.2)) (refl, inl (record { fault = c.in-Err.why; rule_is = c.rule_of.ensures; first = first }))

pub returns-in_err-accept-clause-refused : goal.returns-in_err-accept-clause-refused
returns-in_err-accept-clause-refused c =
    let p = err_from_is_err_and c.from_residual.result c.from_residual.ensures.1 in
    let spells : Spells c.args.format c.in-Some.bytes.now c.in-Ok.next = rw c.in-Ok.is at c.decode_as-read.ensures.found in
    rw (p.1, p.2) (λ rest bytes opened label old given.
    let known = c.records.invariant.so bytes rest opened label old given in
    log_refused bytes rest (log_task_of c.args.task.now) opened label c.records.state c.records.walk c.records.rest.now old c.records.found.items c.records.after (unread c.records.rest.now rest) known refl c.in-Some.bytes.now c.in_err-accept.field-0.0 c.records-test.true
    c.in-Some.ensures.cases.0 (omega (arith, c.in-Some.ensures.cases.2)) (c.in_err-accept.ensures.refused c.args.format c.in-Some.bytes.now opened known.records spells known.checks.follows known.after (omega (arith, known.checks.count))))

pub step-requires-clause-own : goal.step-requires-clause-own
step-requires-clause-own c =
    let known = c.records.invariant.so c.requires.so.0 c.requires.so.1 c.requires.so.2 c.requires.so.3 c.requires.so.4 c.requires.so.5 in
    known.own

pub step-requires-clause-size : goal.step-requires-clause-size
step-requires-clause-size c =
    let spells : Spells c.args.format c.in-Some.bytes.now c.in-Ok.next = rw c.in-Ok.is at c.decode_as-read.ensures.found in
    spells.tabled.passes why.Size

pub step-requires-clause-address : goal.step-requires-clause-address
step-requires-clause-address c =
    let spells : Spells c.args.format c.in-Some.bytes.now c.in-Ok.next = rw c.in-Ok.is at c.decode_as-read.ensures.found in
    spells.tabled.passes why.Address

pub step-requires-clause-lane : goal.step-requires-clause-lane
step-requires-clause-lane c =
    let known = c.records.invariant.so c.requires.so.0 c.requires.so.1 c.requires.so.2 c.requires.so.3 c.requires.so.4 c.requires.so.5 in
    let keeps = c.in_ok-accept.ensures.keeps c.requires.so.2 known.records known.checks.follows known.after (omega (arith, known.checks.count)) in
    in_lane (log_task_of c.args.task.now) known.records c.in-Ok.next keeps

pub records-preserved : goal.records-preserved
records-preserved c =
    let spells : Spells c.args.format c.in-Some.bytes.now c.in-Ok.next = rw c.in-Ok.is at c.decode_as-read.ensures.found in
    let cases = c.in-Some.ensures.cases in
    record {
      so = λ bytes rest opened label old given.
          (let known = c.records.invariant.so bytes rest opened label old given in
          let checks = known.checks in
          let number : c.records.after + 1 ≡ length known.records + 1 = omega (arith, checks.count) in
          let follows = c.in_ok-accept.ensures.follows opened known.records checks.follows known.after number in
          log_next bytes rest (log_task_of c.args.task.now) opened label c.records.state c.records.walk c.records.rest.now old c.records.found.items c.records.after c.accept.new.state c.step.new.self c.in-Some.bytes.now c.in-Some.later.now c.step.new.found.items c.in-Ok.next known
          cases.0 cases.1 (record { spells = spells; breaks = c.in_ok-accept.ensures.keeps opened known.records checks.follows known.after number }) follows c.in_ok-accept.ensures.barriers c.in_ok-accept.ensures.limit c.in_ok-step.ensures.own
          (walk_push c.records.walk c.step.new.self known.records c.in-Ok.next known.after c.in_ok-step.ensures.forks c.in_ok-step.ensures.begun)
          (λ logs begun next. c.in_ok-step.ensures.follows logs known.records begun next number follows.held)
          (λ logs begun next. c.in_ok-step.ensures.adds logs known.records begun next number));
      rest = cases.1 ∙ ap (λ (bs : List ℕ). drop 24 bs) c.records.invariant.rest ∙ drop-drop 24 (24 * (c.records.after - c.args.before)) c.args.ahead.now
          ∙ ap (λ (n : ℕ). drop n c.args.ahead.now) (let next : 24 * (c.records.after - c.args.before) + 24 ≡ 24 * (c.records.after + 1 - c.args.before) = omega (arith, c.records.invariant.low) in next);
      low = omega (arith, c.records.invariant.low);
      high = omega (arith, c.records-test.true);
      there = omega (arith, c.records.invariant.there, c.records.invariant.low, cases.2);
    }

pub returns-in_default-clause-goes : goal.returns-in_default-clause-goes
returns-in_default-clause-goes c = λ rest bytes opened label old given.
    subst (λ (bs : List ℕ). LogSoFar c.args.format bytes (log_task_of c.args.task.now) opened label c.records.state c.records.walk (unread bs rest) old c.records.found.items c.records.after) c.records.invariant.rest
    (c.records.invariant.so bytes rest opened label old given)

pub returns-clause-goes : goal.returns-clause-goes
returns-clause-goes c = λ rest bytes opened label old given.
    subst (λ (bs : List ℕ). LogSoFar c.args.format bytes (log_task_of c.args.task.now) opened label c.records.state c.records.walk (unread bs rest) old c.records.found.items c.records.after) c.records.invariant.rest
    (c.records.invariant.so bytes rest opened label old given)
