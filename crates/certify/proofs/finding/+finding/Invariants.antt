use Rattle.std.proofs.Common.{◌≡◌, drop}
use Rattle.std.specs.Prelude.{slice_get}
use Rattle.kernel_syntax.specs.Program.{code_of}
use Rattle.certify.specs.Constructs.{construct_lines}
use Rattle.certify.proofs.finding.+finding.Given as goal

abbrev pub invariant-first_in-loop-stmt : goal.invariant-first_in-loop-stmt
invariant-first_in-loop-stmt l = slice_get (construct_lines (code_of (drop l.stmt-index l.stmt-items))) 0 ≡ slice_get (construct_lines (code_of l.fn.body.stmts.items)) 0
