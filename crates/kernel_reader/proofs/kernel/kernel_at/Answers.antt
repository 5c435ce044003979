use Rattle.std.proofs.Common.{◌≡◌, ◌+◌, ◌<◌, ◌≤◌, List, length, arith}
use Rattle.kernel_text.specs.declared.token.Token.{Token}
use Rattle.kernel_text.specs.Grammar.{KernelTree, kernel_tokens}
use Rattle.kernel_parser.specs.Trees.{kernel_of}
use Rattle.kernel_reader.specs.Scope.{slots}
use Rattle.kernel_reader.specs.Resolve.{stmts_sites}
use Rattle.kernel_reader.proofs.Rooms.{kernel-room}
use Rattle.kernel_reader.proofs.kernel.kernel_at.Goals as goal

-- the tree that was made is that of the tokens
made-room : (ts : List Token) (k made : KernelTree) → length ts ≤ 65536 → ts ≡ kernel_tokens k → made ≡ k → stmts_sites made.body + slots made.body < 65536
made-room ts k made few is same = rw same (kernel-room k (rw (← is) few))

pub resolved-requires-clause-room : goal.resolved-requires-clause-room
resolved-requires-clause-room c = let k = c.requires.some in omega (arith, made-room c.args.tokens.now k.0 (kernel_of c.in-Ok.tree) c.requires.few k.1 (c.in-Ok.ensures k.0 k.1 k.2 k.3))

pub resolved-requires-clause-slots : goal.resolved-requires-clause-slots
resolved-requires-clause-slots c = let k = c.requires.some in omega (arith, made-room c.args.tokens.now k.0 (kernel_of c.in-Ok.tree) c.requires.few k.1 (c.in-Ok.ensures k.0 k.1 k.2 k.3))
