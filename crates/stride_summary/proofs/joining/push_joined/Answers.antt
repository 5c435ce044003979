use Rattle.std.proofs.Common.{arith, rules}
use Rattle.stride_summary.proofs.Joined.{joining_end, joining_start, joining_step}
use Rattle.stride_summary.proofs.joining.push_joined.Goals as goal

pub rest-init : goal.rest-init
rest-init c = record { joining = joining_start c.args.singles.now c.args.runs.now.items c.requires.sized c.requires.ends; room = c.requires.room }

pub rest-preserved : goal.rest-preserved
rest-preserved c = record {
  joining = joining_step c.args.singles.now c.rest.rest.now c.split_at.result.1.now c.args.runs.now.items c.rest.runs.items c.push_reserved.new.self.items c.first_run-run.result c.requires.ascending c.rest.invariant.joining c.first_run-run.ensures c.split_at.ensures.back c.push_reserved.ensures.items;
  room = search (rules, arith);
}

pub returns : goal.returns
returns c = joining_end c.args.singles.now c.rest.rest.now c.args.runs.now.items c.rest.runs.items c.rest.invariant.joining (search rules)
