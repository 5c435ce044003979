use Rattle.kernel_text.specs.Wanting.{stack_of}
use Rattle.kernel_text.proofs.Moving.{wanted}
use Rattle.kernel_text.proofs.UnfoldingStmts.{loop-takes}
use Rattle.kernel_text.proofs.judging.loop_move.Goals as goal

pub returns : goal.returns
returns c = wanted c.want_all.result _ _ _ _ _ (loop-takes c.args.level (stack_of c.args.stack.now.items) c.requires) c.want_all.ensures
