use Rattle.std.proofs.Common.{arith, rules}
use Rattle.stride_summary.proofs.Joined.{even_more}
use Rattle.stride_summary.proofs.joining.even_count.Goals as goal

pub even-preserved : goal.even-preserved
even-preserved c = record {
  some = omega arith;
  within = search (rules, arith);
  small = search (rules, arith);
  apart = search (rules, arith);
  even = even_more c.args.singles.now c.args.distance c.even.count c.even.invariant.even c.even.invariant.some (search (rules, arith));
}
