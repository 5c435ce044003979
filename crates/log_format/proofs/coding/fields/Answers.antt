use Rattle.std.proofs.Common.{refl}
use Rattle.log_format.proofs.Records.{spelled_by_fields}
use Rattle.log_format.proofs.coding.fields.Goals as goal

pub returns-clause-spelled : goal.returns-clause-spelled
returns-clause-spelled c =
    spelled_by_fields c.args.bytes.now _ c.told-bytes c.fits-bytes c.requires refl
    c.from_be_bytes.ensures c.from_be_bytes-2.ensures c.from_be_bytes-3.ensures c.from_be_bytes-4.ensures
