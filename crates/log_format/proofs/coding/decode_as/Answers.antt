use Rattle.std.proofs.Common.{rules, ap, Err, Ok}
use Rattle.log_format.specs.declared.record.Why.TheVariants as why
use Rattle.log_format.specs.Table.{Spells}
use Rattle.log_format.proofs.Records.{no_kind, kind_is_first, first_fault-unique, failed_not_spelled, spells-injective, spelled_no_fault}
use Rattle.log_format.proofs.coding.decode_as.Goals as goal

pub returns-in_default-clause-only : goal.returns-in_default-clause-only
returns-in_default-clause-only c = λ r spells. absurd (no_kind c.args.format c.args.bytes.now (search rules) r (spells.tabled.passes why.Kind) spells.spelled)

pub returns-in_default-clause-told : goal.returns-in_default-clause-told
returns-in_default-clause-told c = λ w fault. ap (λ v. Err v) (kind_is_first c.args.format c.args.bytes.now (search rules) w fault)

pub returns-in-Ok-clause-only : goal.returns-in-Ok-clause-only
returns-in-Ok-clause-only c = λ r spells.
    let found : Spells c.args.format c.args.bytes.now c.fields-record.result = search rules in
    ap (λ s. Ok s) (spells-injective c.args.format c.args.bytes.now c.fields-record.result r found spells)

pub returns-in-Ok-clause-told : goal.returns-in-Ok-clause-told
returns-in-Ok-clause-told c = λ w fault.
    let found : Spells c.args.format c.args.bytes.now c.fields-record.result = search rules in
    absurd (spelled_no_fault c.args.format c.args.bytes.now c.fields-record.result w found fault)

pub returns-in-Err-clause-only : goal.returns-in-Err-clause-only
returns-in-Err-clause-only c = λ r spells.
    absurd (failed_not_spelled c.args.format c.args.bytes.now c.fields-record.result r c.in-Err.why c.fields-record.ensures.fits c.fields-record.ensures.spelled c.in-Err.ensures.fails spells)

pub returns-in-Err-clause-told : goal.returns-in-Err-clause-told
returns-in-Err-clause-told c = λ w fault.
    ap (λ v. Err v) (first_fault-unique c.args.format c.args.bytes.now c.fields-record.result c.in-Err.why w c.fields-record.ensures.fits (search rules) c.fields-record.ensures.spelled c.in-Err.ensures.fails fault)
