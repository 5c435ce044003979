use Rattle.std.proofs.Common.{subst}
use Rattle.flush_writer.specs.Held.{IsCounted, EndsPending}
use Rattle.flush_writer.proofs.Settling.{ends_again, ends_refused, ends_with_fault}
use Rattle.flush_writer.proofs.flusher.Flusher.finish.Goals as goal

pub returns-clause-again : goal.returns-clause-again
returns-clause-again g c =
    let settles = subst (λ h. EndsPending h c.brought-errand.result) c.self.view_is c.brought-errand.ensures.settles in
    ends_again g.L.Log.text g.L.Log.faults c.args.self c.brought-errand.result c.finish.result settles c.finish.ensures.again

pub returns-clause-refused : goal.returns-clause-refused
returns-clause-refused g c =
    let settles = subst (λ h. EndsPending h c.brought-errand.result) c.self.view_is c.brought-errand.ensures.settles in
    ends_refused g.L.Log.text g.L.Log.faults c.args.self c.brought-errand.result c.args.rest.bytes c.finish.result settles c.finish.ensures.again c.finish.ensures.refused

pub returns-clause-fault : goal.returns-clause-fault
returns-clause-fault g c =
    ends_with_fault g.L.Log.text g.L.Log.faults c.args.self c.args.rest.bytes c.finish.result
    (subst (λ h. IsCounted h) c.self.view_is c.self.invariant.1) (returns-clause-again g c) (returns-clause-refused g c)
