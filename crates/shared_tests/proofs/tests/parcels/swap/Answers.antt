use Rattle.shared_tests.proofs.tests.parcels.swap.Goals as goal

pub collect-back-requires-clause-out : goal.collect-back-requires-clause-out
collect-back-requires-clause-out g c lifetimes bounds =
    let out = c.requires.out c.args.lane c.requires.lane in
    (out.sent, out.is)
