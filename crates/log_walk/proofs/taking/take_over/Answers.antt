use Rattle.log_walk.proofs.Taken.{ahead_walks}
use Rattle.log_walk.proofs.taking.take_over.Goals as goal

pub returns-clause-walks : goal.returns-clause-walks
returns-clause-walks c = λ format told dir rows trace row good stands found is place agrees.
    ahead_walks told dir rows c.args.stack.now c.push.new.self trace row c.args.read c.args.found.now.items c.append.new.self.items good stands found is place agrees c.in_ok-append.ensures.items
    (record { place = c.in_ok-push.ensures.place; segments = c.in_ok-push.ensures.segments; forks = c.in_ok-push.ensures.forks; barriers = c.in_ok-push.ensures.barriers })
