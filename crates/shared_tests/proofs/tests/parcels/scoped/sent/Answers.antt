use Rattle.shared_tests.proofs.Turning.{out_after}
use Rattle.shared_tests.proofs.tests.parcels.scoped.sent.Goals as goal

pub collect-back-requires-clause-out : goal.collect-back-requires-clause-out
collect-back-requires-clause-out g c lifetimes bounds = (_, out_after _ _ 0 _ c.send.ensures c.requires.desk.1)
