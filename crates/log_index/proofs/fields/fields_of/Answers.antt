use Rattle.log_index.proofs.Spelled.{row_spelled}
use Rattle.log_index.proofs.fields.fields_of.Goals as goal

pub returns-clause-spelled : goal.returns-clause-spelled
returns-clause-spelled c =
    row_spelled c.args.bytes.now _ c.told-bytes c.fits-bytes c.from_be_bytes.ensures c.from_be_bytes-2.ensures c.steps_of.ensures.spelled c.from_be_bytes-3.ensures
