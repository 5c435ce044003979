use Rattle.std.proofs.Common.{◌≡◌, ◌≤◌, ◌∷◌, [], length}
use Rattle.kernel_parser.specs.Trees.{tree_of}
use Rattle.kernel_reader.specs.Rows.{in_row}
use Rattle.kernel_reader.proofs.binding.unwound.Given as goal

abbrev pub invariant-left : goal.invariant-left
invariant-left l = record {
  row : in_row (tree_of l.first) l.behind.items ≡ in_row (tree_of l.fn.left) (l.fn.last ∷ []);
  some : 1 ≤ length l.behind.items;
}
