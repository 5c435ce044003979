use Rattle.shared_tests.proofs.Turning.{out_after}
use Rattle.shared_tests.proofs.tests.parcels.turns.wait_at_desk.Goals as goal

pub collect-back-requires-clause-out : goal.collect-back-requires-clause-out
collect-back-requires-clause-out g c lifetimes bounds = (_, out_after c.args.desk _ 0 _ c.send.ensures c.requires.idle)
