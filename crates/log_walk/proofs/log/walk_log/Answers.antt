use Rattle.std.proofs.Common.{◌≡◌, ◌≤◌, ℕ, List, Option, Some, length, sym, subst, ap, ◌∙◌}
use Rattle.std.specs.Prelude.{slice_get, unwrap_or}
use Rattle.std.specs.Global.{Vec}
use Rattle.std.proofs.lemmas.Option.{same_Some}
use Rattle.std.proofs.lemmas.Result.{err_from_is_err_and}
use Rattle.log_format.specs.Limit.{record_limit}
use Rattle.sw_base.specs.declared.path.Step.{Step}
use Rattle.race_model.specs.Row.{Row}
use Rattle.race_model.specs.IndexFault.{IsRow}
use Rattle.race_model.specs.Label.{Triple}
use Rattle.race_model.specs.Trace.{logs_of}
use Rattle.log_segment.specs.Stack.{HasFork}
use Rattle.log_walk.specs.declared.fault.WalkFault.{WalkFault}
use Rattle.log_walk.specs.Rules.{log_task_of}
use Rattle.log_walk.specs.Stack.{WalksTask}
use Rattle.log_walk.specs.Walk.{TellsFirstBad, RefusesLogOf}
use Rattle.log_walk.proofs.Forked.{next_fork, next_label, own_logs, row_at}
use Rattle.log_walk.proofs.NextStack.{walks_task}
use Rattle.log_walk.proofs.NextTask.{log_told, unread_told, unread_of, refused_of}
use Rattle.log_walk.proofs.RowReads.{row_read}
use Rattle.log_walk.proofs.log.walk_log.Goals as goal

pub returns-in_err-file-clause-refused : goal.returns-in_err-file-clause-refused
returns-in_err-file-clause-refused g c = λ trace row stands told_row.
    let mine : Row = record { path = c.row.inside.path; records = c.row.inside.records } in
    let read : slice_get c.args.rows.now c.args.stack.now.place ≡ Some (record { path = c.row.inside.path; records = c.row.inside.records }) = row_read c.args.rows.now c.args.stack.now.place c.index-rows-stack.result _ c.requires.within c.index-rows-stack.is c.row.view_is in
    let p = err_from_is_err_and c.from_residual.result c.from_residual.ensures.1 in
    let at = ap (λ (n : ℕ). slice_get c.args.rows.now n) (sym stands.place) ∙ read in
    let same : mine ≡ row = same_Some mine row (sym read ∙ told_row) in
    rw (p.1, p.2) (
      unread_of (g.F.Folder.state c.args.folder.now).content c.args.dir.now c.row.inside.path row.path c.in_err-file.field-0.0 (ap (λ (r : Row). r.path) same) c.in_err-file.ensures.unread,
      λ content told walked. unread_told (g.F.Folder.state c.args.folder.now).content content c.args.dir.now c.args.rows.now trace mine c.in_err-file.field-0.0 told walked at c.in_err-file.ensures.unread,
    )

pub first_label-label-requires : goal.first_label-label-requires
first_label-label-requires g c = λ above step is.
    let mine : Row = record { path = c.row.inside.path; records = c.row.inside.records } in
    let read : slice_get c.args.rows.now c.args.stack.now.place ≡ Some (record { path = c.row.inside.path; records = c.row.inside.records }) = row_read c.args.rows.now c.args.stack.now.place c.index-rows-stack.result _ c.requires.within c.index-rows-stack.is c.row.view_is in
    let trace = c.requires.stands.0 in
    let stands = c.requires.stands.1 in
    let at = ap (λ (n : ℕ). slice_get c.args.rows.now n) (sym stands.place) ∙ read in
    let fork = next_fork c.args.rows.now c.args.stack.now trace (logs_of trace) mine above step c.requires.rows stands.good (own_logs c.args.rows.now trace c.requires.rows stands.good) at (stands.forks mine at) is in
    subst (λ (fs : List (Vec (List Triple))). HasFork fs above step) (sym c.deref.ensures.value) fork.has

pub check_log-checked-requires-clause-records : goal.check_log-checked-requires-clause-records
check_log-checked-requires-clause-records g c κs within =
    let mine : Row = record { path = c.row.inside.path; records = c.row.inside.records } in
    let read : slice_get c.args.rows.now c.args.stack.now.place ≡ Some (record { path = c.row.inside.path; records = c.row.inside.records }) = row_read c.args.rows.now c.args.stack.now.place c.index-rows-stack.result _ c.requires.within c.index-rows-stack.is c.row.view_is in
    let is = c.in_ok-task.ensures.task mine read c.args.format c.requires.stands.0 c.requires.stands.1 in
    let row_is : IsRow mine = row_at c.args.rows.now c.args.stack.now.place mine c.requires.rows read in
    subst (λ (n : ℕ). n ≤ record_limit) (sym is.records) row_is.records.limit

pub check_log-checked-requires-clause-own : goal.check_log-checked-requires-clause-own
check_log-checked-requires-clause-own g c κs within =
    let mine : Row = record { path = c.row.inside.path; records = c.row.inside.records } in
    let read : slice_get c.args.rows.now c.args.stack.now.place ≡ Some (record { path = c.row.inside.path; records = c.row.inside.records }) = row_read c.args.rows.now c.args.stack.now.place c.index-rows-stack.result _ c.requires.within c.index-rows-stack.is c.row.view_is in
    let trace = c.requires.stands.0 in
    let stands = c.requires.stands.1 in
    let at = ap (λ (n : ℕ). slice_get c.args.rows.now n) (sym stands.place) ∙ read in
    let it = next_label c.args.rows.now c.args.stack.now trace (logs_of trace) mine c.first_label-label.result c.requires.rows stands.good (own_logs c.args.rows.now trace c.requires.rows stands.good) at (stands.forks mine at)
    c.first_label-label.ensures.root
    (λ above step labels fork e there forked. c.first_label-label.ensures.lane above step labels fork e (ap (λ (fs : List (Vec (List Triple))). slice_get fs (length above)) c.deref.ensures.value ∙ there) forked) in
    it.1

pub returns-in-Ok-clause-walks : goal.returns-in-Ok-clause-walks
returns-in-Ok-clause-walks g c = λ trace row stands told_row.
    let mine : Row = record { path = c.row.inside.path; records = c.row.inside.records } in
    let read : slice_get c.args.rows.now c.args.stack.now.place ≡ Some (record { path = c.row.inside.path; records = c.row.inside.records }) = row_read c.args.rows.now c.args.stack.now.place c.index-rows-stack.result _ c.requires.within c.index-rows-stack.is c.row.view_is in
    let at = ap (λ (n : ℕ). slice_get c.args.rows.now n) (sym stands.place) ∙ read in
    let same : mine ≡ row = same_Some mine row (sym read ∙ told_row) in
    subst (λ (r : Row). WalksTask c.args.format (g.F.Folder.state c.args.folder.now).content c.args.dir.now c.args.rows.now c.push.new.self trace r c.args.found.now.items c.check_log-checked.new.found.items) same
    (walks_task (g.F.Folder.state c.args.folder.now).content c.args.dir.now (g.F.File.File.rest c.in_ok-file.file) c.args.rows.now c.args.stack.now c.push.new.self trace mine c.in_ok-task.task c.first_label-label.result c.in-Ok.checked c.unwrap_or-barriers.result
    c.args.found.now.items c.check_log-checked.new.found.items c.requires.rows stands at (c.in_ok-task.ensures.task mine read c.args.format trace stands)
    (rw c.in-Ok.is at c.check_log-checked.ensures.good) c.in_ok-file.ensures.opens
    (λ logs has. (let it = next_label c.args.rows.now c.args.stack.now trace logs mine c.first_label-label.result c.requires.rows stands.good has at (stands.forks mine at) c.first_label-label.ensures.root
    (λ above step labels fork e there forked. c.first_label-label.ensures.lane above step labels fork e (ap (λ (fs : List (Vec (List Triple))). slice_get fs (length above)) c.deref.ensures.value ∙ there) forked) in it.0))
    (record { place = c.in_ok-push-in-Ok.ensures.place; segments = c.in_ok-push-in-Ok.ensures.segments; forks = c.in_ok-push-in-Ok.ensures.forks; barriers = c.in_ok-push-in-Ok.ensures.barriers })
    (λ n due. c.unwrap_or-barriers.ensures ∙ ap (λ (o : Option ℕ). unwrap_or o c.in-Ok.checked.barriers) due)
    (λ due. c.unwrap_or-barriers.ensures ∙ ap (λ (o : Option ℕ). unwrap_or o c.in-Ok.checked.barriers) due))

pub returns-clause-refused : goal.returns-clause-refused
returns-clause-refused g c = λ trace row stands told_row.
    let mine : Row = record { path = c.row.inside.path; records = c.row.inside.records } in
    let read : slice_get c.args.rows.now c.args.stack.now.place ≡ Some (record { path = c.row.inside.path; records = c.row.inside.records }) = row_read c.args.rows.now c.args.stack.now.place c.index-rows-stack.result _ c.requires.within c.index-rows-stack.is c.row.view_is in
    let at = ap (λ (n : ℕ). slice_get c.args.rows.now n) (sym stands.place) ∙ read in
    let same : mine ≡ row = same_Some mine row (sym read ∙ told_row) in (
      subst (λ (e : WalkFault). RefusesLogOf (λ (p : List Step). p ≡ row.path) e) (sym c.fault_of.ensures) (refused_of c.row.inside.path row.path c.in-Err.fault (ap (λ (r : Row). r.path) same)),
      λ content told walked. subst (λ (e : WalkFault). TellsFirstBad c.args.format content.held c.args.dir.now e) (sym c.fault_of.ensures)
          (log_told content.held c.args.dir.now c.args.rows.now trace mine (log_task_of c.in_ok-task.task) (c.in_ok-file.ensures.opens content told).0 c.args.stack.now.segments
          c.in-Err.fault walked at (c.in_ok-task.ensures.task mine read c.args.format trace stands)
          (c.in_ok-file.ensures.opens content told).1 stands.counted
          ((rw c.in-Err.is at c.check_log-checked.ensures.refused) (c.in_ok-file.ensures.opens content told).0 (c.in_ok-file.ensures.opens content told).2)),
    )
