use Rattle.std.proofs.Common.{◌≡◌, ℕ, ◌+◌, List, sym, subst, ap, ◌∙◌, arith}
use Rattle.std.specs.Prelude.{Vec}
use Rattle.std.specs.declared.alloc.Global.{Global}
use Rattle.std.proofs.lemmas.Option.{same_Some}
use Rattle.race_model.specs.Row.{Row}
use Rattle.race_model.specs.LogFault.{ListsSpans}
use Rattle.log_walk.proofs.RowReads.{row_read}
use Rattle.log_walk.proofs.SpanOrder.{Met, met_start, met_skip, met_push, met_all, met_under}
use Rattle.log_walk.proofs.spans.spans_of.Goals as goal
use Rattle.log_walk.proofs.spans.spans_of.Goals.{in-Some+in_ok-push, in_default}

pub rows-init : goal.rows-init
rows-init c =
    let found = row_read c.args.rows.now c.args.index c.index-rows-index.result _ c.requires.within c.index-rows-index.is c.task.view_is in
    subst (λ (spans : List ℕ). Met c.args.rows.now c.task.inside.path (c.args.index + 1) spans) (sym c.new-spans.ensures.items)
    (met_start c.args.rows.now c.args.index (record { path = c.task.inside.path; records = c.task.inside.records }) c.requires.rows found)

pub returns-then-not-is_under : goal.returns-then-not-is_under
returns-then-not-is_under c = λ task told.
    let found = row_read c.args.rows.now c.args.index c.index-rows-index.result _ c.requires.within c.index-rows-index.is c.task.view_is in
    let there = row_read c.args.rows.now c.rows.at c.index-rows-at.result _ c.rows-test.true c.index-rows-at.is c.row.view_is in
    let same : (record { path = c.task.inside.path; records = c.task.inside.records }) ≡ task = same_Some _ task (sym found ∙ told) in
    subst (λ (row : Row). ListsSpans c.args.rows.now row.path c.rows.spans.items) same
    (met_under c.args.rows.now c.args.index (record { path = c.task.inside.path; records = c.task.inside.records }) c.rows.at (record { path = c.row.inside.path; records = c.row.inside.records }) c.rows.spans.items c.requires.rows found (omega arith) there c.rows.invariant
    (λ under. let yes_it_is = c.is_under.ensures.1 under in cc (yes_it_is, c.if-not-is_under.true)))

pub rows-preserved : goal.rows-preserved
rows-preserved c =
    let there = row_read c.args.rows.now c.rows.at c.index-rows-at.result _ c.rows-test.true c.index-rows-at.is c.row.view_is in
    let P : List ℕ → Type 0 = λ spans. Met c.args.rows.now c.task.inside.path (c.rows.at + 1) spans in
    elim c.match-first_lane.branch [
      | in-Some+in_ok-push w ↦
          subst P (sym (ap (λ (v : Vec ℕ Global). v.items) w.spans-is ∙ w.in_ok-push.ensures.items))
          (met_push c.args.rows.now c.task.inside.path c.rows.at c.rows.spans.items (record { path = c.row.inside.path; records = c.row.inside.records }) w.in-Some.ensures.0 w.in-Some.span c.requires.rows there c.rows.invariant w.in-Some.ensures.1)
      | in_default w ↦
          subst P (sym (ap (λ (v : Vec ℕ Global). v.items) w.spans-is))
          (met_skip c.args.rows.now c.task.inside.path c.rows.at c.rows.spans.items (record { path = c.row.inside.path; records = c.row.inside.records }) there c.rows.invariant w.in_default.ensures)
    ]

pub returns : goal.returns
returns c = λ task told.
    let found = row_read c.args.rows.now c.args.index c.index-rows-index.result _ c.requires.within c.index-rows-index.is c.task.view_is in
    let same : (record { path = c.task.inside.path; records = c.task.inside.records }) ≡ task = same_Some _ task (sym found ∙ told) in
    subst (λ (row : Row). ListsSpans c.args.rows.now row.path c.rows.spans.items) same
    (met_all c.args.rows.now c.args.index (record { path = c.task.inside.path; records = c.task.inside.records }) c.rows.at c.rows.spans.items c.requires.rows found c.rows.invariant (omega arith))
