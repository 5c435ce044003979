use Rattle.std.proofs.Common.{sym, subst, ℕ, Option}
use Rattle.region_runner.specs.LastPhase.{WentOn}
use Rattle.region_runner.proofs.LastPhase.{goes_with, goes_without, stops_before}
use Rattle.region_runner.proofs.ending.put_end.Goals as goal

pub returns-in_default : goal.returns-in_default
returns-in_default g c = record {
  went = λ w items before can last ran. subst (λ (end : Option ℕ). WentOn w items end before c.args.lane.now) (sym c.in_default.is) (goes_without w items before c.args.lane.now ran);
}

pub returns-then-not-goes : goal.returns-then-not-goes
returns-then-not-goes g c = record {
  went = λ w items before can last ran.
      subst (λ (end : Option ℕ). WentOn w items end before c.args.lane.now) (sym c.in-Some.is) (stops_before w items before c.args.lane.now ran c.in-Some.line (c.goes.ensures.halted c.if-not-goes.true));
}

pub returns : goal.returns
returns g c = record {
  went = λ w items before can last ran.
      subst (λ (end : Option ℕ). WentOn w items end before c.finish.new.self) (sym c.in-Some.is)
      (goes_with w items before c.args.lane.now ran c.in-Some.line c.finish.new.self can (last c.in-Some.line c.in-Some.is) (c.goes.ensures.goes c.if-not-goes.false) c.finish.ensures.puts);
}
