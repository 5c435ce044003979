use Rattle.flush_writer.proofs.Settling.{follows_settles}
use Rattle.flush_writer.proofs.flusher.brought.Goals as goal

pub returns-in-None-clause-settles : goal.returns-in-None-clause-settles
returns-in-None-clause-settles g c = follows_settles c.args.home c.args.writer.now c.in-None.is c.requires.placed c.collect.result c.collect.ensures.follows
