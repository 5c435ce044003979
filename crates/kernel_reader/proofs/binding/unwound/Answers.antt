use Rattle.std.proofs.Common.{rules, arith}
use Rattle.kernel_parser.specs.Trees.{tree_of}
use Rattle.kernel_reader.proofs.Rowing.{row-push}
use Rattle.kernel_reader.proofs.binding.unwound.Goals as goal

pub left-preserved : goal.left-preserved
left-preserved c =
    let pushed = row-push (tree_of c.deref-first.result.now) c.left.behind.items (record { op = c.in-Binary.op; line = c.in-Binary.line; right = c.deref.result }) in
    grind (arith, rules, pushed)
