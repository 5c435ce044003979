use Rattle.kernel_text.specs.Wanting.{stack_of}
use Rattle.kernel_text.proofs.Moving.{wanted}
use Rattle.kernel_text.proofs.UnfoldingStmts.{update-takes}
use Rattle.kernel_text.proofs.judging.update_move.Goals as goal

pub returns : goal.returns
returns c = wanted c.want_all.result _ _ _ _ _ (update-takes c.args.level (stack_of c.args.stack.now.items) c.requires) c.want_all.ensures
