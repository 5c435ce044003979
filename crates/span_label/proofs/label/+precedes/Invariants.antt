use Rattle.std.proofs.Common.{length}
use Rattle.span_label.proofs.label.+precedes.Given as goal

abbrev pub decreases-precedes : goal.decreases-precedes
decreases-precedes l = length l.x.now
