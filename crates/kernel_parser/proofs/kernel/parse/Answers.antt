use Rattle.std.proofs.Common.{◌≡◌, List, []}
use Rattle.std.proofs.lemmas.Result.{err_from_is_err_and}
use Rattle.kernel_text.specs.declared.token.Token.{Token}
use Rattle.kernel_text.specs.Grammar.{KernelTree, IsKernel, block, stmts_tokens}
use Rattle.kernel_text.specs.Faults.{IsShallow}
use Rattle.kernel_text.proofs.Levels.{shallow_is_low}
use Rattle.kernel_parser.specs.Trees.{declaration_of, stmts_of}
use Rattle.kernel_parser.specs.Parsing.{IsBlockRead}
use Rattle.kernel_parser.proofs.Rests.{only-fault}
use Rattle.kernel_parser.proofs.Declared.{kernel-is}
use Rattle.kernel_parser.proofs.kernel.parse.Goals as goal
use Rattle.std.specs.Prelude.{map}

main-block : (k : KernelTree) (us : List Token) → IsKernel k → IsShallow k → us ≡ block k.opened (stmts_tokens k.body) k.closed → IsBlockRead us k.opened k.body k.closed []
main-block k us d s us_is = record { levels = 31; parts = us_is; derives = d; shallow = (shallow_is_low k).1 s }

pub returns-in_err-body : goal.returns-in_err-body
returns-in_err-body c =
    let p = err_from_is_err_and c.from_residual-in_err-body.result c.from_residual-in_err-body.ensures.1 in
    λ k e d s.
    let q = c.in_ok-declarations.ensures.parsed k.declarations k.line (block k.opened (stmts_tokens k.body) k.closed) e in
    let m = c.skip-line.ensures.told _ _ q.1 in
    rw (p.1, p.2) (only-fault _ _ c.in_err-body.field-0.0 (c.in_err-body.ensures.parsed k.opened k.body k.closed [] (main-block k _ d s m.1)))

pub returns : goal.returns
returns c = λ k e d s.
    let q = c.in_ok-declarations.ensures.parsed k.declarations k.line (block k.opened (stmts_tokens k.body) k.closed) e in
    let m = c.skip-line.ensures.told _ _ q.1 in
    let r = c.in_ok-body.ensures.parsed k.opened k.body k.closed [] (main-block k _ d s m.1) in
    kernel-is k (map declaration_of c.in_ok-declarations.declarations.items) c.skip-line.result.0 c.in_ok-body.body.opened (stmts_of c.in_ok-body.body.stmts.items) c.in_ok-body.body.closed q.0 m.0 r.0 r.1 r.2
