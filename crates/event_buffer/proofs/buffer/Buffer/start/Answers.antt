use Rattle.std.proofs.Common.{refl, ap}
use Rattle.event_block.specs.Contents.{Contents}
use Rattle.sw_base.specs.declared.files.TheConstants.{LOG_HEADER}
use Rattle.event_buffer.proofs.Logging.{logs_begin}
use Rattle.event_buffer.proofs.buffer.Buffer.start.Goals as goal

pub returns-clause-records : goal.returns-clause-records
returns-clause-records g c =
    let made = c.in_ok-flusher in
    let log = c.args.log in
    logs_begin LOG_HEADER (g.L.Log.dir log) (g.L.Log.path log) (g.L.Log.text log) c.args.size refl c.requires.empty made.flusher made.block.bytes made.ensures.started
    (ap (λ (k : Contents). k.bytes) made.ensures.block)
