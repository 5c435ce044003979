use Rattle.std.proofs.Common.{sym, subst, List, arith}
use Rattle.kernel_syntax.specs.declared.syntax.Array.{Array}
use Rattle.kernel_syntax.specs.Layout.{ArePlaced, elements}
use Rattle.kernel_syntax.specs.Program.{program_of}
use Rattle.kernel_syntax.proofs.Placing.{bounded_arrays_are_placed}
use Rattle.run_tests.proofs.tests.serial_tasks.support.story.Goals as goal

pub new-place-requires : goal.new-place-requires
new-place-requires c = record {
  placed = subst (λ (arrays : List Array). ArePlaced arrays (elements arrays)) (sym c.as_slice-arrays.ensures) (bounded_arrays_are_placed (program_of c.in_ok-kernel.kernel) c.in_ok-kernel.ensures.bounded);
  within = omega (arith, c.if-number-team.false);
}
