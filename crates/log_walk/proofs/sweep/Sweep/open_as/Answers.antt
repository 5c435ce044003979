use Rattle.std.proofs.Common.{◌≡◌, ◌∙◌, List, ℕ, [], Some, refl, sym, ap, subst}
use Rattle.std.specs.Prelude.{slice_get}
use Rattle.std.proofs.lemmas.Result.{err_from_is_err_and}
use Rattle.sw_base.specs.Environment.{FolderState}
use Rattle.race_model.specs.Row.{Row}
use Rattle.race_model.specs.IndexFault.{AreRows, IsIndex}
use Rattle.log_segment.specs.declared.segment.Segment.{Segment}
use Rattle.log_walk.specs.Stack.{WalksTask}
use Rattle.log_walk.proofs.SweepMoves.{begins, begins_stack, root_row, first_row, walked_none, refuses_root}
use Rattle.log_walk.proofs.sweep.Sweep.open_as.Goals as goal

pub walk_log-requires-clause-stands : goal.walk_log-requires-clause-stands
walk_log-requires-clause-stands g c κs within =
    let good : AreRows c.deref.result.now = subst (λ (rs : List Row). AreRows rs) (sym c.deref.ensures.value) c.in_ok-rows.ensures.rows in
    ([], begins_stack c.deref.result.now c.in_ok-stack.stack good c.in_ok-stack.ensures.place c.in_ok-stack.ensures.segments)

pub returns-in_err-walk_log-clause-refused : goal.returns-in_err-walk_log-clause-refused
returns-in_err-walk_log-clause-refused g c =
    let p = err_from_is_err_and c.from_residual-in_err-walk_log.result c.from_residual-in_err-walk_log.ensures.1 in
    let good : AreRows c.deref.result.now = subst (λ (rs : List Row). AreRows rs) (sym c.deref.ensures.value) c.in_ok-rows.ensures.rows in
    let stands = begins_stack c.deref.result.now c.in_ok-stack.stack good c.in_ok-stack.ensures.place c.in_ok-stack.ensures.segments in
    let row = root_row c.deref.result.now good in
    let at : slice_get c.deref.result.now c.in_ok-stack.stack.place ≡ Some row.0 = ap (λ (n : ℕ). slice_get c.deref.result.now n) c.in_ok-stack.ensures.place ∙ row.1 in
    let refused = c.in_err-walk_log.ensures.refused [] row.0 stands at in
    rw (p.1, p.2) (
      refuses_root row.0.path c.in_err-walk_log.field-0.0 (first_row c.deref.result.now row.0 good row.1) refused.0,
      λ content told. refused.1 content (ap (λ s. s.content) c.in_ok-rows.ensures.reads.same ∙ told)
          (walked_none content.held c.args.dir.now c.deref.result.now (subst (λ (rs : List Row). IsIndex c.args.format content.held c.args.dir.now rs) (sym c.deref.ensures.value) (c.in_ok-rows.ensures.found content told))),
    )

pub returns-clause-begins : goal.returns-clause-begins
returns-clause-begins g c =
    let good : AreRows c.deref.result.now = subst (λ (rs : List Row). AreRows rs) (sym c.deref.ensures.value) c.in_ok-rows.ensures.rows in
    let stands = begins_stack c.deref.result.now c.in_ok-stack.stack good c.in_ok-stack.ensures.place c.in_ok-stack.ensures.segments in
    let row = root_row c.deref.result.now good in
    let at : slice_get c.deref.result.now c.in_ok-stack.stack.place ≡ Some row.0 = ap (λ (n : ℕ). slice_get c.deref.result.now n) c.in_ok-stack.ensures.place ∙ row.1 in
    let walks : WalksTask c.args.format (g.F.Folder.state c.read_index_as.new.folder).content c.args.dir.now c.deref.result.now c.walk_log.new.stack [] row.0 c.new-found.result.items c.walk_log.new.found.items =
    c.in_ok-walk_log.ensures.walks [] row.0 stands at in
    begins (g.F.Folder.state c.args.folder.now).content c.args.dir.now _ row.0 c.walk_log.new.found.items refl c.in_ok-rows.ensures.rows c.in_ok-from_str.ensures.ok refl refl
    (ap (λ (rs : List Row). slice_get rs 0) (sym c.deref.ensures.value) ∙ row.1)
    c.in_ok-rows.ensures.found
    (subst (λ (xs : List Segment). WalksTask c.args.format (g.F.Folder.state c.args.folder.now).content c.args.dir.now c.in_ok-rows.rows.items c.walk_log.new.stack [] row.0 xs c.walk_log.new.found.items) c.new-found.ensures.items
    (subst (λ (rs : List Row). WalksTask c.args.format (g.F.Folder.state c.args.folder.now).content c.args.dir.now rs c.walk_log.new.stack [] row.0 c.new-found.result.items c.walk_log.new.found.items) c.deref.ensures.value
    (subst (λ (s : FolderState). WalksTask c.args.format s.content c.args.dir.now c.deref.result.now c.walk_log.new.stack [] row.0 c.new-found.result.items c.walk_log.new.found.items) c.in_ok-rows.ensures.reads.same walks)))
