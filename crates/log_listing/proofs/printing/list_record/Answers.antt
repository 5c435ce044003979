use Rattle.std.proofs.Common.{[]}
use Rattle.std.proofs.lemmas.Result.{on_err_weaker}
use Rattle.log_listing.specs.Listing.{record_line}
use Rattle.log_listing.proofs.PrintedParts.{prefix_lost, prints_then_prefix}
use Rattle.log_listing.proofs.printing.list_record.Goals as goal

pub returns-clause-refused : goal.returns-clause-refused
returns-clause-refused g c =
    on_err_weaker c.add_record.result (λ lost. prints_then_prefix _ _ _ _ _ _ [] (record_line c.args.number c.args.r.now) c.in_ok-make_room.ensures.done (prefix_lost _ _ _ _ lost)) c.add_record.ensures.lost
