use Rattle.shared_tests.proofs.Turning.{out_after}
use Rattle.shared_tests.proofs.tests.parcels.there_and_back.Goals as goal

pub collect-back-requires-clause-out : goal.collect-back-requires-clause-out
collect-back-requires-clause-out g c lifetimes bounds = (_, out_after c.args.desk _ 1 _ c.send.ensures c.requires.desk.1)
