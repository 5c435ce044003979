use Rattle.std.proofs.Common.{◌≡◌, drop}
use Rattle.kernel_syntax.specs.Program.{code_of}
use Rattle.kernel_model.specs.Lawful.{code_holds_work}
use Rattle.team_phases.proofs.unrolling.+working.Given as goal

abbrev pub invariant-has_work-loop-stmt : goal.invariant-has_work-loop-stmt
invariant-has_work-loop-stmt l = code_holds_work (code_of (drop l.stmt-index l.stmt-items)) ≡ code_holds_work (code_of l.fn.body.stmts.items)
