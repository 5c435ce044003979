use Rattle.std.proofs.Common.{length, reverse}
use Rattle.kernel_parser.specs.Trees.{tree_of}
use Rattle.kernel_reader.proofs.Rowing.{parts, IsBegun}
use Rattle.kernel_reader.proofs.binding.Binder.+bind.Given as goal

abbrev pub decreases-bind : goal.decreases-bind
decreases-bind l = parts (tree_of l.tree.now)

abbrev pub invariant-behind : goal.invariant-behind
invariant-behind l = IsBegun (record { arrays = l.self.arrays.now; scope = reverse l.self.variables.now }) l.self.in_bound l.fn.site (tree_of l.fn.tree) l.behind.items l.bound l.next

abbrev pub decreases-behind : goal.decreases-behind
decreases-behind l = length l.behind.items
