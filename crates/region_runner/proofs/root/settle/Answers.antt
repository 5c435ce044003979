use Rattle.std.proofs.Common.{sym, subst, Option, List}
use Rattle.region_runner.specs.Gathering.{ClosedValue, TookIn}
use Rattle.lane_runner.specs.Handed.{entries_of}
use Rattle.region_runner.specs.Root.{IsSettled}
use Rattle.region_runner.proofs.root.settle.Goals as goal

pub returns : goal.returns
returns g c =
    let after = entries_of {T = g.row.L.Denot} g.L.Log c.keep-draws.new.done.items in
    subst (λ (o : Option ClosedValue). IsSettled o after c.answer.result) (sym c.in-Some.is)
    (record {
      verdict = c.keep-draws.result.1;
      took = subst (λ (items : List _). TookIn c.in-Some.root (entries_of {T = g.row.L.Denot} g.L.Log items) after c.keep-draws.result.1)
          c.new-logs.ensures.items c.keep-draws.ensures.taken;
      answer = c.answer.ensures;
    })
