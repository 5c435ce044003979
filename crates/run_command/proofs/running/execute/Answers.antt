use Rattle.std.proofs.Common.{◌≡◌, ◌∙◌, ap, subst, Some, Option, List, ℕ}
use Rattle.std.specs.Option.{option_map}
use Rattle.sw_base.specs.Environment.{Text, empty_text}
use Rattle.kernel_syntax.specs.Program.{program_of}
use Rattle.lane_runner.specs.declared.stop.Stop.{Stop}
use Rattle.lane_runner.specs.Handed.{HandedEntry, entries_of}
use Rattle.region_runner.specs.Answer.{HasRun, HasStoppedRun}
use Rattle.run_command.specs.Seals.{all_logged}
use Rattle.run_command.proofs.RunEnds.{rose_more, run_rows}
use Rattle.run_command.proofs.running.execute.Goals as goal

pub finish-requires-after_bounds : goal.finish-requires-after_bounds
finish-requires-after_bounds g c κs within =
    run_rows (program_of c.args.kernel) _ _ _ g.F.Log.Log.dir g.F.Log.Log.path g.F.Log.Log.text c.in-Ok-run_in_teams.finished.logs.items c.in-Ok-run_in_teams.finished.words.items c.in-Ok-run_in_teams.ensures.answers.finished

pub returns-in-Ok-run_in_teams-clause-ends : goal.returns-in-Ok-run_in_teams-clause-ends
returns-in-Ok-run_in_teams-clause-ends g c = λ file old new can is.
    let program = program_of c.args.kernel in
    let words = c.in-Ok-run_in_teams.finished.words.items in
    let logs = all_logged g.F.Log.Log.dir g.F.Log.Log.path g.F.Log.Log.text c.in-Ok-run_in_teams.finished.logs.items in
    let told : g.F.Log.Log.text c.in-Ok.root ≡ Some empty_text = c.in-Ok.ensures.log_text ∙ ap (option_map (λ _. empty_text)) is in
    let here = subst (λ (dir : List ℕ). HasRun program dir c.args.size (g.F.Log.Log.text c.in-Ok.root) logs words) c.in-Ok.ensures.log_dir c.in-Ok-run_in_teams.ensures.answers.finished in
    let has = subst (λ (text : Option Text). HasRun program c.args.dir.now c.args.size text logs words) told here in
    c.finish.ensures.ends (g.F.Folder.state c.args.folder.now).write_faults file c.args.size empty_text has old new can (c.root.ensures.same ∙ is)

pub returns-in-Err-run_in_teams-clause-ends : goal.returns-in-Err-run_in_teams-clause-ends
returns-in-Err-run_in_teams-clause-ends g c = λ file old new can is.
    let program = program_of c.args.kernel in
    let stopped = c.in-Err-run_in_teams.stopped in
    let logs : List HandedEntry = entries_of g.F.Log.Log stopped.logs.items in
    let told : g.F.Log.Log.text c.in-Ok.root ≡ Some empty_text = c.in-Ok.ensures.log_text ∙ ap (option_map (λ _. empty_text)) is in
    let here = subst (λ (dir : List ℕ). HasStoppedRun program dir c.args.size (g.F.Log.Log.text c.in-Ok.root) logs stopped.path stopped.why stopped.words.items) c.in-Ok.ensures.log_dir c.in-Err-run_in_teams.ensures.answers.stopped in
    let has = subst (λ (text : Option Text). HasStoppedRun program c.args.dir.now c.args.size text logs stopped.path stopped.why stopped.words.items) told here in
    c.stop.ensures.ends (g.F.Folder.state c.args.folder.now).write_faults file program c.args.dir.now c.args.size empty_text c.root.ensures.cause.later has old new can (c.root.ensures.same ∙ is)

pub returns-in-Err-run_in_teams-clause-write_fault : goal.returns-in-Err-run_in_teams-clause-write_fault
returns-in-Err-run_in_teams-clause-write_fault g c = λ fault.
    let path = c.in-Err-run_in_teams.stopped.path in
    rose_more (g.F.Folder.state c.args.folder.now).write_faults _ _ c.root.ensures.cause.later
    (c.stop.ensures.write_fault (λ failed. c.in-Err-run_in_teams.ensures.answers.stopped.tell.failed path (ap (λ (why : Stop). Some (path, why)) failed)) fault)
