use Rattle.std.proofs.Common.{◌≡◌, ◌≤◌, length}
use Rattle.std.specs.Prelude.{map}
use Rattle.kernel_syntax.specs.Layout.{elements}
use Rattle.kernel_parser.specs.Trees.{declaration_of}
use Rattle.kernel_reader.proofs.Declared.{AreLeft}
use Rattle.kernel_reader.proofs.declarations.declarations.Given as goal

abbrev pub invariant-declarations : goal.invariant-declarations
invariant-declarations l = record {
  left : AreLeft (map declaration_of l.fn.written) (map declaration_of l.rest) l.arrays l.mutexes;
  total_is : l.total ≡ elements l.arrays;
  small : l.total ≤ 1048576;
  few : length l.arrays ≤ 64;
  few_mutexes : length l.mutexes ≤ 63;
}

abbrev pub decreases-declarations : goal.decreases-declarations
decreases-declarations l = length l.rest
