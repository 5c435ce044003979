use Rattle.std.proofs.Common.{rules}
use Rattle.event_buffer.proofs.Logging.{logs_put}
use Rattle.event_buffer.proofs.buffer.Buffer.put.Goals as goal

pub returns-clause-put : goal.returns-clause-put
returns-clause-put g c = search rules

pub returns-clause-records : goal.returns-clause-records
returns-clause-records g c = λ header records h. logs_put header c.args.self.now _ records c.args.event.now c.requires.room (returns-clause-put g c) h
