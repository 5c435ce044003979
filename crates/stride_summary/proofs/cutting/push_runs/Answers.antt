use Rattle.std.proofs.Common.{arith, rules}
use Rattle.stride_summary.proofs.Cuts.{IsCutting-step}
use Rattle.stride_summary.proofs.cutting.push_runs.Goals as goal

pub rest-preserved : goal.rest-preserved
rest-preserved c = record {
  cutting = IsCutting-step c.args.key.now c.args.addresses.now c.rest.rest.now c.split_at.result.1.now c.args.runs.now.items c.rest.runs.items c.push_reserved.new.self.items c.first_run.result c.min-count.result c.rest.invariant.cutting c.split_at.ensures.back (search rules) c.first_run.ensures.key c.first_run.ensures.addresses (omega arith) (omega arith) (λ two. omega (arith, c.even_count.ensures.two two));
  capacity = search rules;
}
