use Rattle.race_model.specs.Order.{HappensBefore}
use Rattle.race_laws.proofs.ProgramOrder.{happens_before_trans, program_order}
use Rattle.race_laws.proofs.LabelLaw.{happens_before_antisym, happens_before_index}
use Rattle.race_laws.proofs.labels.happens_before_is_an_order.Goals as goal

pub returns : goal.returns
returns c = record {
  reflexive = λ logs x. HappensBefore.here x;
  transitive = happens_before_trans;
  antisymmetric = λ logs x y tree. happens_before_antisym logs x y tree.tasks.forked;
  program_order = λ logs x y tree x_there y_there same.
      (happens_before_index logs x y tree x_there y_there same, λ le. program_order logs x y same le y_there);
}
