use Rattle.log_index.specs.Rows.{raw_of_fields}
use Rattle.log_index.proofs.RowTests.{not_both, order_fails, records_fail, all_pass}
use Rattle.log_index.proofs.rules.check.Goals as goal

pub returns-then-not-goes_on-clause-fails : goal.returns-then-not-goes_on-clause-fails
returns-then-not-goes_on-clause-fails c =
    order_fails c.args.before.now (raw_of_fields c.args.fields.now) (c.has_depth.ensures.0 c.if-not-has_depth.false)
    (c.have_spans.ensures.0 c.if-not-have_spans.false) (c.have_lanes.ensures.0 c.if-not-have_lanes.false)
    (λ begins. not_both (c.goes_on.ensures.1 begins) c.if-not-goes_on.true)

pub returns-then-not-has_records-clause-fails : goal.returns-then-not-has_records-clause-fails
returns-then-not-has_records-clause-fails c =
    records_fail c.args.before.now (raw_of_fields c.args.fields.now) (c.has_depth.ensures.0 c.if-not-has_depth.false)
    (c.have_spans.ensures.0 c.if-not-have_spans.false) (c.have_lanes.ensures.0 c.if-not-have_lanes.false) (c.goes_on.ensures.0 c.if-not-goes_on.false)
    (λ good. not_both (c.has_records.ensures.1 good) c.if-not-has_records.true)

pub returns-clause-passes : goal.returns-clause-passes
returns-clause-passes c =
    all_pass c.args.before.now (raw_of_fields c.args.fields.now) (c.has_depth.ensures.0 c.if-not-has_depth.false)
    (c.have_spans.ensures.0 c.if-not-have_spans.false) (c.have_lanes.ensures.0 c.if-not-have_lanes.false) (c.goes_on.ensures.0 c.if-not-goes_on.false)
    (c.has_records.ensures.0 c.if-not-has_records.false)
