use Rattle.std.proofs.Common.{◌≡◌, List, [], ◌∷◌, ◌++◌, ap, subst, sym, ◌∙◌}
use Rattle.std.proofs.lemmas.Result.{err_from_is_err_and}
use Rattle.race_model.specs.FirstBad.{row_of, rows_of}
use Rattle.race_model.specs.IndexFault.{AreRows}
use Rattle.race_model.specs.Row.{Row}
use Rattle.generated_run.specs.Generated.{generated, logs_of_lanes, root_task}
use Rattle.generated_run.proofs.Holding.{generated_rows}
use Rattle.generated_run.proofs.Putting.{all_put, first_broken, index_broken, later_broken, run_put}
use Rattle.generated_run.proofs.folder.generate.Goals as goal

pub returns-in_err-put_root-clause-refused : goal.returns-in_err-put_root-clause-refused
returns-in_err-put_root-clause-refused g c =
    let p = err_from_is_err_and c.from_residual.result c.from_residual.ensures.1 in
    rw (p.1) (first_broken c.args.dir.now root_task (logs_of_lanes c.args.rounds 8) _ _ c.in_err-put_root.ensures.refused)

pub returns-in_err-put_lanes-clause-refused : goal.returns-in_err-put_lanes-clause-refused
returns-in_err-put_lanes-clause-refused g c =
    let p = err_from_is_err_and c.from_residual-in_err-put_lanes.result c.from_residual-in_err-put_lanes.ensures.1 in
    rw (p.1) (later_broken c.args.dir.now root_task (logs_of_lanes c.args.rounds 8) _ _ _ c.in_ok-put_root.ensures.done c.in_err-put_lanes.ensures.refused)

pub write_index-requires-after_bounds : goal.write_index-requires-after_bounds
write_index-requires-after_bounds g c κs within =
    let rows : c.deref.result.now ≡ rows_of (generated c.args.rounds) =
    c.deref.ensures.value ∙ c.in_ok-put_lanes.ensures.row ∙ ap (λ (rows : List Row). rows ++ rows_of (logs_of_lanes c.args.rounds 8)) (c.in_ok-put_root.ensures.row ∙ ap (λ (rows : List Row). rows ++ row_of root_task ∷ []) c.new-rows.ensures.items) in
    subst AreRows (sym rows) (generated_rows c.args.rounds c.requires.0 c.requires.1)

pub returns-in_err-write_index-clause-refused : goal.returns-in_err-write_index-clause-refused
returns-in_err-write_index-clause-refused g c =
    let p = err_from_is_err_and c.from_residual-in_err-write_index.result c.from_residual-in_err-write_index.ensures.1 in
    let rows : c.deref.result.now ≡ rows_of (generated c.args.rounds) =
    c.deref.ensures.value ∙ c.in_ok-put_lanes.ensures.row ∙ ap (λ (rows : List Row). rows ++ rows_of (logs_of_lanes c.args.rounds 8)) (c.in_ok-put_root.ensures.row ∙ ap (λ (rows : List Row). rows ++ row_of root_task ∷ []) c.new-rows.ensures.items) in
    rw (p.1) (index_broken c.args.dir.now (generated c.args.rounds) _ _ _
    (all_put c.args.dir.now root_task (logs_of_lanes c.args.rounds 8) _ _ _ c.in_ok-put_root.ensures.done c.in_ok-put_lanes.ensures.done)
    (rw rows at c.in_err-write_index.ensures.refused))

pub returns-clause-done : goal.returns-clause-done
returns-clause-done g c =
    let rows : c.deref.result.now ≡ rows_of (generated c.args.rounds) =
    c.deref.ensures.value ∙ c.in_ok-put_lanes.ensures.row ∙ ap (λ (rows : List Row). rows ++ rows_of (logs_of_lanes c.args.rounds 8)) (c.in_ok-put_root.ensures.row ∙ ap (λ (rows : List Row). rows ++ row_of root_task ∷ []) c.new-rows.ensures.items) in
    run_put c.args.dir.now (generated c.args.rounds) _ _ _
    (all_put c.args.dir.now root_task (logs_of_lanes c.args.rounds 8) _ _ _ c.in_ok-put_root.ensures.done c.in_ok-put_lanes.ensures.done)
    (rw rows at c.in_ok-write_index.ensures.done)
