use Rattle.race_model.specs.declared.why.IndexWhy.TheVariants.{Depth, Records}
use Rattle.log_index.specs.Rows.{raw_of_fields}
use Rattle.log_index.proofs.Parsing.{adds_row_as, fails_first_as}
use Rattle.log_index.proofs.rows.next_row.Goals as goal

pub row_of_fields-requires-clause-depth : goal.row_of_fields-requires-clause-depth
row_of_fields-requires-clause-depth c = c.in-Ok.ensures.passes Depth

pub row_of_fields-requires-clause-records : goal.row_of_fields-requires-clause-records
row_of_fields-requires-clause-records c = c.in-Ok.ensures.passes Records

pub returns-in-Ok-clause-adds : goal.returns-in-Ok-clause-adds
returns-in-Ok-clause-adds c =
    adds_row_as c.args.before.now (raw_of_fields c.fields_of-fields.result) c.in-Some.bytes.now c.args.rest.now c.row_of_fields.result.path c.row_of_fields.result.records
    c.requires.good c.if-before-eq-MAX_ROWS.false c.fields_of-fields.ensures.fits c.in-Some.ensures.cases.0 c.fields_of-fields.ensures.spelled c.in-Ok.ensures.passes c.row_of_fields.ensures.path c.row_of_fields.ensures.count

pub returns-in-Err-clause-fails : goal.returns-in-Err-clause-fails
returns-in-Err-clause-fails c =
    fails_first_as c.args.before.now (raw_of_fields c.fields_of-fields.result) c.in-Some.bytes.now c.args.rest.now c.in-Err.why
    c.if-before-eq-MAX_ROWS.false c.fields_of-fields.ensures.fits c.in-Some.ensures.cases.0 c.fields_of-fields.ensures.spelled c.in-Err.ensures.fails
