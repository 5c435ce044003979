use Rattle.std.proofs.Common.{length}
use Rattle.kernel_parser.proofs.Declared.{LeavesDeclarations}
use Rattle.kernel_parser.proofs.kernel.declarations.Given as goal

abbrev pub invariant-declarations : goal.invariant-declarations
invariant-declarations l = LeavesDeclarations l.fn.tokens l.made.items l.rest

abbrev pub decreases-declarations : goal.decreases-declarations
decreases-declarations l = length l.rest
