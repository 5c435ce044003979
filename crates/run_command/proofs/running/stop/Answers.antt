use Rattle.std.proofs.Common.{sym, ◌∙◌, ap}
use Rattle.sw_base.specs.Environment.{Rose}
use Rattle.sw_base.specs.declared.trouble.Trouble.{Trouble}
use Rattle.lane_runner.specs.declared.stop.Stop.TheVariants as stop
use Rattle.run_command.proofs.RunEnds.{faulty_rose, rose_more, stopped_ends, unsealed_ends, unwritten_failed}
use Rattle.run_command.proofs.SealedLogs.{faults_weaker}
use Rattle.run_command.proofs.running.stop.Goals as goal

pub returns-in-Ok-seal_all-clause-ends : goal.returns-in-Ok-seal_all-clause-ends
returns-in-Ok-seal_all-clause-ends g c = λ before file program dir size root below has.
    stopped_ends g.F.Log.Log.dir g.F.Log.Log.path g.F.Log.Log.text g.F.Log.Log.faults c.args.stopped.logs.items (Rose before (g.F.Folder.state c.seal_all.new.folder).write_faults)
    (faults_weaker g.F.Log.Log.faults _ _ _ (rose_more before _ _ below) c.in-Ok-seal_all.ensures.faulty)
    file dir size root program c.args.stopped.path c.args.stopped.why c.args.stopped.words.items has c.in-Ok.line c.in-Ok.why c.in-Ok.ensures _ _ c.in-Ok-seal_all.ensures.seals

pub returns-in-Ok-clause-ends : goal.returns-in-Ok-clause-ends
returns-in-Ok-clause-ends g c = λ before file program dir size root below has.
    rw c.unwritten.ensures
    (unsealed_ends g.F.Log.Log.dir g.F.Log.Log.path g.F.Log.Log.text g.F.Log.Log.faults c.args.stopped.logs.items (Rose before (g.F.Folder.state c.seal_all.new.folder).write_faults)
    (faults_weaker g.F.Log.Log.faults _ _ _ (rose_more before _ _ below) c.in-Err-seal_all.ensures.faulty)
    file dir size root program c.args.stopped.path c.args.stopped.why c.args.stopped.words.items has c.in-Ok.line c.in-Ok.why c.in-Ok.ensures _ _ c.in-Err-seal_all.trouble c.in-Err-seal_all.ensures.seals)

pub returns-clause-write_fault : goal.returns-clause-write_fault
returns-clause-write_fault g c = λ faulty is.
    let failed = unwritten_failed c.in-Err.trouble (sym c.unwritten-in-Err.ensures ∙ is) in
    faulty_rose g.F.Log.Log.dir g.F.Log.Log.path g.F.Log.Log.text g.F.Log.Log.faults c.args.stopped.logs.items _ c.discard_all.ensures.faulty c.args.stopped.path
    (faulty (c.in-Err.ensures ∙ ap (λ (t : Trouble). stop.Trouble t) failed))
