use Rattle.std.proofs.Common.{◌+◌, ◌*◌, ◌≤◌, List, length}
use Rattle.kernel_text.specs.declared.token.Token.{Token}
use Rattle.kernel_text.specs.Grammar.{Tree}
use Rattle.kernel_parser.specs.Trees.{tree_of}
use Rattle.kernel_parser.specs.Parsing.{IsPart}
use Rattle.kernel_parser.proofs.Parts.{Grows}
use Rattle.kernel_parser.proofs.expression.+expression.Given as goal

abbrev pub decreases-operand : goal.decreases-operand
decreases-operand l = 4 * length l.tokens.now

abbrev pub decreases-sign : goal.decreases-sign
decreases-sign l = 4 * length l.tokens.now + 3

abbrev pub decreases-part : goal.decreases-part
decreases-part l = 4 * length l.tokens.now + 1

abbrev pub decreases-minus : goal.decreases-minus
decreases-minus l = 4 * length l.tokens.now + 2

abbrev pub decreases-group : goal.decreases-group
decreases-group l = 4 * length l.tokens.now + 2

abbrev pub decreases-name : goal.decreases-name
decreases-name l = 4 * length l.tokens.now + 2

abbrev pub invariant-part-operators : goal.invariant-part-operators
invariant-part-operators l = record {
  read : (t : Tree) (after : List Token) → IsPart l.fn.rank l.fn.levels l.fn.tokens t after → Grows l.fn.rank l.fn.levels t after (tree_of l.held) l.rest;
  shorter : length l.rest ≤ length l.fn.tokens;
}

abbrev pub decreases-part-operators : goal.decreases-part-operators
decreases-part-operators l = length l.rest
