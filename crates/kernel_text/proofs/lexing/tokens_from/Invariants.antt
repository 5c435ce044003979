use Rattle.std.proofs.Common.{◌≡◌, ◌≤◌, ◌+◌, length}
use Rattle.kernel_text.specs.Tokens.{tokens_from}
use Rattle.kernel_text.proofs.Scans.{with_tokens}
use Rattle.kernel_text.proofs.lexing.tokens_from.Given as goal

abbrev pub invariant-text : goal.invariant-text
invariant-text l = (with_tokens l.found.items (tokens_from l.line 0 l.rest) ≡ tokens_from 1 0 l.fn.bytes) × (l.line + length l.rest ≤ 65537)

abbrev pub decreases-text : goal.decreases-text
decreases-text l = length l.rest
