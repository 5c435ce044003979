use Rattle.std.proofs.Common.{Some, subst}
use Rattle.stride_summary.specs.declared.key.Key.{Key}
use Rattle.log_segment.specs.Walking.{GainsAccess}
use Rattle.log_segment.proofs.Gaining.{gains_one}
use Rattle.log_segment.proofs.AccessKinds.{atomic_is, write_is}
use Rattle.log_segment.proofs.walking.Walk.access.Goals as goal

pub returns-in_ok-add-clause-added : goal.returns-in_ok-add-clause-added
returns-in_ok-add-clause-added c =
    subst (λ (key : Key). GainsAccess c.args.self.now.summary (Some c.add.new.self) key c.args.event.now.addr)
    (λ i. record { write = write_is c.is_change.result c.args.event.now.kind c.is_change.ensures i; atomic = atomic_is c.is_update.result c.args.event.now.kind c.is_update.ensures i; size = c.args.event.now.size; site = c.args.event.now.site; line = c.args.event.now.line; held = c.args.held.now })
    (gains_one c.args.self.now.summary c.begin.new.self.summary _ c.add.new.self _ c.args.event.now.addr c.in_ok-begin.ensures.sums c.in-Some.is c.in_ok-add.ensures.added)
