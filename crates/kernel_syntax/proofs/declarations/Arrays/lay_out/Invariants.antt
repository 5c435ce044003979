-- The arrays so far are laid out, and what is left of the layout begins at the base and the element that are next.
use Rattle.std.proofs.Common.{◌≡◌, ◌≤◌, ◌+◌, ◌*◌, take, drop, ◌++◌}
use Rattle.kernel_syntax.specs.Layout.{laid, laid_from, elements}
use Rattle.kernel_syntax.proofs.declarations.Arrays.lay_out.Given as goal

abbrev pub invariant-loop-array : goal.invariant-loop-array
invariant-loop-array l = record {
  done : l.array-items ≡ take l.array-index (laid l.initial.array-items) ++ drop l.array-index l.initial.array-items;
  left : drop l.array-index (laid l.initial.array-items) ≡ laid_from l.base l.first (drop l.array-index l.initial.array-items);
  counted : l.first ≡ elements (take l.array-index l.initial.array-items);
  near : l.base ≤ 4096 + 255 * l.first + 63 * l.array-index;
}
