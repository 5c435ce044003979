use Rattle.std.proofs.lemmas.Result.{on_err_weaker}
use Rattle.log_listing.proofs.PrintedParts.{prefix_torn}
use Rattle.log_listing.proofs.printing.make_room.Goals as goal

pub returns-clause-refused : goal.returns-clause-refused
returns-clause-refused g c = λ text. on_err_weaker c.print_lines.result (λ torn. prefix_torn _ _ _ _ text c.print_lines.ensures.none torn) c.print_lines.ensures.refused
