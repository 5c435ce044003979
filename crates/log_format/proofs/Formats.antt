-- What the first format allows, the second does.
use Rattle.std.proofs.Common.{arith}
use Rattle.log_format.specs.declared.format.Format.TheVariants.{First, Second}
use Rattle.log_format.specs.declared.record.Record.{Record}
use Rattle.log_format.specs.declared.record.Why.{Why}
use Rattle.log_format.specs.declared.record.Why.TheVariants as why
use Rattle.log_format.specs.Table.{IsTabled, PassesTable}

pub tabled_second : (r : Record) → IsTabled First r → IsTabled Second r
tabled_second r tabled = record { fits = tabled.fits; passes = passes } where
  passes : (w : Why) → PassesTable Second r w
  passes why.Kind = let first : PassesTable First r why.Kind = tabled.passes why.Kind in omega arith
  passes why.Size = tabled.passes why.Size
  passes why.LineZero = tabled.passes why.LineZero
  passes why.Address = tabled.passes why.Address
  passes why.Span = tabled.passes why.Span
  passes why.Reserved = tabled.passes why.Reserved
