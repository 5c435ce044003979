use Rattle.std.proofs.Common.{arith, ap, length, length-take}
use Rattle.log_format.proofs.Records.{length-spelling}
use Rattle.log_reader.proofs.reader.first_record.Goals as goal

pub returns-in-None-clause-found : goal.returns-in-None-clause-found
returns-in-None-clause-found c = λ r tabled spelled. absurd (omega (arith, ap length spelled, length-take 24 c.args.bytes.now, length-spelling r, c.in-None.ensures.cases))
