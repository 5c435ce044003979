use Rattle.std.proofs.Common.{codes, ◌≡◌, ap, sym, subst, ◌∙◌, List, [], ◌++◌, map}
use Rattle.race_model.specs.FirstBad.{rows_of}
use Rattle.race_model.specs.IndexFault.{AreRows}
use Rattle.race_model.specs.Row.{Row}
use Rattle.serial_team.specs.Members.{WholeLog, whole_log}
use Rattle.memory_environment.specs.MemFolder.{content_of, held_of, sealed_of}
use Rattle.certify.specs.Holding.{row_of_log}
use Rattle.certify.proofs.HeldRuns.{holds_tasks}
use Rattle.certify.proofs.Putting.{rows_spelled}
use Rattle.certify.proofs.holding.folder_of.Goals as goal

pub write_index-requires-after_bounds : goal.write_index-requires-after_bounds
write_index-requires-after_bounds c κs =
    let rows : c.deref.result.now ≡ rows_of c.requires.tasks =
    c.deref.ensures.value ∙ (c.in_ok-put_logs.ensures.rows ∙ (ap (λ (rs : List Row). rs ++ map row_of_log (map whole_log c.args.logs.items)) c.new-rows.ensures.items
    ∙ (ap (λ (ls : List WholeLog). map row_of_log ls) c.requires.logs_are ∙ rows_spelled c.requires.tasks))) in
    subst AreRows (sym rows) c.requires.rules.rows

pub returns-in-Ok : goal.returns-in-Ok
returns-in-Ok c =
    let rows : c.deref.result.now ≡ map row_of_log (map whole_log c.args.logs.items) =
    c.deref.ensures.value ∙ (c.in_ok-put_logs.ensures.rows ∙ ap (λ (rs : List Row). rs ++ map row_of_log (map whole_log c.args.logs.items)) c.new-rows.ensures.items) in
    holds_tasks (codes "c") (map whole_log c.args.logs.items) (record { held = held_of c.in_ok-folder.folder; sealed = sealed_of c.in_ok-folder.folder }) (content_of c.put_logs.new.folder) (content_of c.write_index.new.folder) c.deref.result.now rows c.in_ok-put_logs.ensures.content c.in-Ok.ensures.done
