use Rattle.std.proofs.Common.{length}
use Rattle.log_index.proofs.listing.+is_next_path.Given as goal

abbrev pub decreases-is_next_path : goal.decreases-is_next_path
decreases-is_next_path l = length l.path.now
