use Rattle.std.proofs.Common.{[]}
use Rattle.std.proofs.lemmas.Result.{err_from_is_err_and}
use Rattle.log_listing.specs.Listing.{log_line}
use Rattle.log_listing.proofs.PrintedParts.{prefix_of}
use Rattle.log_listing.proofs.printing.list_name.Goals as goal

pub returns-in_err-line-clause-refused : goal.returns-in_err-line-clause-refused
returns-in_err-line-clause-refused g c =
    let p = err_from_is_err_and c.from_residual-in_err-line.result c.from_residual-in_err-line.ensures.1 in
    rw (p.1) (prefix_of _ _ _ _ [] (log_line c.args.path.now c.args.count) c.in_ok-make_room.ensures.done)
