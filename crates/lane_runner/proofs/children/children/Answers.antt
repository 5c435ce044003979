use Rattle.std.proofs.Common.{rules}
use Rattle.lane_runner.proofs.NewLogs.{new_log, new_logs_more}
use Rattle.lane_runner.proofs.children.children.Goals as goal

pub returns-in_err-push-clause-records : goal.returns-in_err-push-clause-records
returns-in_err-push-clause-records g c = λ header records holds. c.child.ensures.records header records (c.loop-lane.invariant.records header records holds)

pub loop-lane-preserved : goal.loop-lane-preserved
loop-lane-preserved g c =
    let still = c.loop-lane.invariant.still in
    record {
      each =
          new_logs_more g.L.Log c.args.buffer.now c.args.number c.args.span c.loop-lane.logs.items c.in_ok-log.log c.loop-lane.lane c.push.new.self.items
          c.loop-lane.invariant.each c.loop-lane.invariant.count
          (new_log g.L.Log c.args.buffer.now c.loop-lane.buffer c.args.number c.args.span c.loop-lane.lane c.in_ok-log.log
          still.dir still.path still.tells
          c.in_ok-log.ensures.child_dir c.in_ok-log.ensures.child_path c.in_ok-log.ensures.child_text c.in_ok-log.ensures.child_faults)
          (search rules);
      count = search rules;
      still = search rules;
      waiting = search rules;
      unrefused = search rules;
      records = λ header records holds. c.child.ensures.records header records (c.loop-lane.invariant.records header records holds);
    }

pub returns-in_err-log-clause-records : goal.returns-in_err-log-clause-records
returns-in_err-log-clause-records g c = λ header records holds. c.child.ensures.records header records (c.loop-lane.invariant.records header records holds)
