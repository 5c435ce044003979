use Rattle.std.proofs.Common.{◌≡◌, ◌∙◌, ◌++◌, List, All, ℕ, Some, rules, refl, sym, ap, subst, arith}
use Rattle.std.specs.Prelude.{slice_get}
use Rattle.std.proofs.lemmas.Result.{err_from_is_err_and}
use Rattle.sw_base.specs.Environment.{FolderState}
use Rattle.race_model.specs.Row.{Row}
use Rattle.log_segment.specs.declared.segment.Segment.{Segment}
use Rattle.log_walk.specs.Ahead.{IsAhead}
use Rattle.log_walk.specs.Stack.{WalksTask}
use Rattle.log_segment.specs.Regions.{IsUnderRegion}
use Rattle.log_walk.proofs.RowReads.{row_read}
use Rattle.log_walk.proofs.Sweeping.{RegionSoFar, region_none, region_next, region_stop, region_end, refuses_one}
use Rattle.log_walk.proofs.sweep.walk_region.Goals as goal

pub tasks-init : goal.tasks-init
tasks-init g c = record {
  so = λ trace stands. subst (λ (xs : List Segment). RegionSoFar c.args.format (g.F.Folder.state c.args.folder.now).content c.args.dir.now c.args.rows.now c.args.region trace c.args.stack.now c.args.stack.now.place xs) (sym c.new-found.ensures.items)
      (region_none (g.F.Folder.state c.args.folder.now).content c.args.dir.now c.args.rows.now c.args.region trace c.args.stack.now c.args.stack.now.place stands refl);
  read = c.requires.read;
  same = refl;
  no_fault = search rules;
}

pub returns-then-not-is_under-clause-walks : goal.returns-then-not-is_under-clause-walks
returns-then-not-is_under-clause-walks g c = λ trace stands regions.
    let read : slice_get c.args.rows.now c.tasks.index ≡ Some (record { path = c.row.inside.path; records = c.row.inside.records }) = row_read c.args.rows.now c.tasks.index c.index-rows-index.result _ c.tasks-test.true c.index-rows-index.is c.row.view_is in
    region_stop (g.F.Folder.state c.args.folder.now).content c.args.dir.now c.args.rows.now c.args.region trace c.tasks.stack c.tasks.index (record { path = c.row.inside.path; records = c.row.inside.records }) c.tasks.found.items (c.tasks.invariant.so trace stands) regions read
    (λ is_under. let yes_it_is = c.is_under.ensures.1 is_under in cc (yes_it_is, c.if-not-is_under.true))

pub walk_next-requires-clause-within : goal.walk_next-requires-clause-within
walk_next-requires-clause-within g c κs within =
    let so = c.tasks.invariant.so c.requires.fits.0 c.requires.fits.1 in
    omega (arith, so.stands.place, so.at_row, c.tasks-test.true)

pub walk_next-requires-clause-stands : goal.walk_next-requires-clause-stands
walk_next-requires-clause-stands g c κs within =
    let so = c.tasks.invariant.so c.requires.fits.0 c.requires.fits.1 in
    (c.requires.fits.0 ++ so.more, so.stands)

pub walk_next-requires-clause-ahead : goal.walk_next-requires-clause-ahead
walk_next-requires-clause-ahead g c κs within =
    subst (λ (s : FolderState). All (IsAhead c.args.format s.content c.args.dir.now c.args.rows.now) c.tasks.ahead.items) (sym c.tasks.invariant.same) c.tasks.invariant.read

pub returns-in_err-walk_next-clause-refused : goal.returns-in_err-walk_next-clause-refused
returns-in_err-walk_next-clause-refused g c = λ trace stands holds.
    let p = err_from_is_err_and c.from_residual.result c.from_residual.ensures.1 in
    let so = c.tasks.invariant.so trace stands in
    let mine : Row = record { path = c.row.inside.path; records = c.row.inside.records } in
    let read : slice_get c.args.rows.now c.tasks.index ≡ Some (record { path = c.row.inside.path; records = c.row.inside.records }) = row_read c.args.rows.now c.tasks.index c.index-rows-index.result _ c.tasks-test.true c.index-rows-index.is c.row.view_is in
    let at : slice_get c.args.rows.now c.tasks.stack.place ≡ Some mine = ap (λ (n : ℕ). slice_get c.args.rows.now n) (so.stands.place ∙ sym so.at_row) ∙ read in
    let refused = c.in_err-walk_next.ensures.refused (trace ++ so.more) mine so.stands at in
    rw (p.1, p.2) (
      refuses_one (IsUnderRegion c.args.region) c.row.inside.path c.in_err-walk_next.field-0.0 (c.is_under.ensures.0 (search (rules, c.if-not-is_under.false))) refused.0,
      λ content told. refused.1 content (ap (λ s. s.content) c.tasks.invariant.same ∙ told) (so.holds holds content told),
    )

pub tasks-preserved : goal.tasks-preserved
tasks-preserved g c =
    let mine : Row = record { path = c.row.inside.path; records = c.row.inside.records } in
    let read : slice_get c.args.rows.now c.tasks.index ≡ Some (record { path = c.row.inside.path; records = c.row.inside.records }) = row_read c.args.rows.now c.tasks.index c.index-rows-index.result _ c.tasks-test.true c.index-rows-index.is c.row.view_is in
    let under : IsUnderRegion c.args.region c.row.inside.path = c.is_under.ensures.0 (search (rules, c.if-not-is_under.false)) in
    record {
      so = λ trace stands.
          (let so = c.tasks.invariant.so trace stands in
          let at : slice_get c.args.rows.now c.tasks.stack.place ≡ Some mine = ap (λ (n : ℕ). slice_get c.args.rows.now n) (so.stands.place ∙ sym so.at_row) ∙ read in
          region_next (g.F.Folder.state c.args.folder.now).content c.args.dir.now c.args.rows.now c.args.region trace c.tasks.stack c.walk_next.new.stack c.tasks.index mine c.tasks.found.items c.walk_next.new.found.items so read under
          (subst (λ (s : FolderState). WalksTask c.args.format s.content c.args.dir.now c.args.rows.now c.walk_next.new.stack (trace ++ so.more) mine c.tasks.found.items c.walk_next.new.found.items) c.tasks.invariant.same
          (c.in_ok-walk_next.ensures.walks (trace ++ so.more) mine so.stands at)));
      read = subst (λ (s : FolderState). All (IsAhead c.args.format s.content c.args.dir.now c.args.rows.now) c.walk_next.new.ahead.items) c.tasks.invariant.same c.in_ok-walk_next.ensures.left;
      same = c.in_ok-walk_next.ensures.reads.same ∙ c.tasks.invariant.same;
      no_fault = search rules;
    }

pub returns-clause-walks : goal.returns-clause-walks
returns-clause-walks g c = λ trace stands regions.
    let so = c.tasks.invariant.so trace stands in
    region_end (g.F.Folder.state c.args.folder.now).content c.args.dir.now c.args.rows.now c.args.region trace c.tasks.stack c.tasks.index c.tasks.found.items so (omega arith) (omega (arith, stands.place, c.requires.ahead))
