use Rattle.std.proofs.Common.{refl, sym, ap, ◌∙◌, inr, arith, Bool}
use Rattle.log_walk.specs.declared.state.State.{State}
use Rattle.log_walk.specs.Check.{opens_by}
use Rattle.log_walk.specs.State.{with_counted}
use Rattle.log_walk.proofs.Steps.{follows_push}
use Rattle.log_walk.proofs.check.accept.Goals as goal

pub returns-in-Some-clause-refused : goal.returns-in-Some-clause-refused
returns-in-Some-clause-refused c = λ format bytes opened before spells follows after number.
    (refl, inr (record { r = c.args.next.now; spells = spells; breaks = c.in-Some.ensures.rules opened before follows (omega (arith, after.forks, c.len.ensures)) number }))

pub returns-then-not-count-clause-refused : goal.returns-then-not-count-clause-refused
returns-then-not-count-clause-refused c = λ format bytes opened before spells follows after number.
    let told = c.in_default.ensures.rules opened before follows (omega (arith, after.forks, c.len.ensures)) number in
    let full = c.if-not-count.ensures.full refl in (
      refl,
      record {
        r = c.args.next.now;
        spells = spells;
        breaks = told.0;
        full = omega (arith, full.0, ap (λ (s : State). s.segments) c.broken.ensures.same, follows.segments);
        opens = ap (λ (b : Bool). opens_by c.args.next.now.kind b) (sym after.begun ∙ sym c.is_open.ensures) ∙ full.1;
      },
    )

pub returns-clause-keeps : goal.returns-clause-keeps
returns-clause-keeps c = λ opened before follows after number.
    (c.in_default.ensures.rules opened before follows (omega (arith, after.forks, c.len.ensures)) number).0

pub returns-clause-follows : goal.returns-clause-follows
returns-clause-follows c = λ opened before follows after number.
    let told = c.in_default.ensures.rules opened before follows (omega (arith, after.forks, c.len.ensures)) number in
    follows_push c.args.state.now c.broken.new.self c.count.new.self c.args.walk.now opened before c.args.next.now follows after c.broken.ensures.same told.1 (c.if-not-count.ensures.counted refl ∙ ap (λ (b : Bool). with_counted c.broken.new.self c.args.next.now.kind b) c.is_open.ensures)
