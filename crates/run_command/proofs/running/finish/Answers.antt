use Rattle.std.proofs.Common.{◌≡◌, ◌∙◌, length, rules}
use Rattle.sw_base.specs.Environment.{Rose}
use Rattle.race_model.specs.FirstBad.{rows_of}
use Rattle.kernel_syntax.specs.Program.{program_of}
use Rattle.run_command.specs.Seals.{all_logged}
use Rattle.run_command.proofs.RunEnds.{entry_rows, run_refused, run_stored}
use Rattle.run_command.proofs.running.finish.Goals as goal

pub returns-in-Ok-clause-ends : goal.returns-in-Ok-clause-ends
returns-in-Ok-clause-ends g c = λ before file size root has.
    let logs = all_logged g.F.Log.Log.dir g.F.Log.Log.path g.F.Log.Log.text c.args.finished.logs.items in
    let rows : c.in-Ok.rows.items ≡ rows_of has.tasks =
    c.in-Ok.ensures.rows ∙ entry_rows (program_of c.args.kernel) c.args.dir.now size _ g.F.Log.Log.dir g.F.Log.Log.path g.F.Log.Log.text c.args.finished.logs.items c.args.finished.words.items has in
    let counted : c.len.result ≡ length c.in-Ok.rows.items = search rules in
    rw (counted, c.records_in.ensures, c.deref.ensures.value)
    (run_stored (Rose before (g.F.Folder.state c.store.new.folder).write_faults) file c.args.dir.now size root (program_of c.args.kernel) c.args.finished.words.items logs has _ _ c.in-Ok.rows.items rows c.in-Ok.ensures.stored)

pub returns-in-Err-clause-ends : goal.returns-in-Err-clause-ends
returns-in-Err-clause-ends g c = λ before file size root has.
    let logs = all_logged g.F.Log.Log.dir g.F.Log.Log.path g.F.Log.Log.text c.args.finished.logs.items in
    rw c.unwritten.ensures
    (run_refused (Rose before (g.F.Folder.state c.store.new.folder).write_faults) file c.args.dir.now size root (program_of c.args.kernel) c.args.finished.words.items logs has _ _ c.in-Err.trouble c.in-Err.ensures.refused)
