use Rattle.std.proofs.Common.{rules}
use Rattle.shared_words.proofs.Steps.{loads_allowed}
use Rattle.shared_words.proofs.words.Words.load.Goals as goal

pub load-value-requires : goal.load-value-requires
load-value-requires c = (search rules, search rules, loads_allowed c.self.inside.table.shared.key _ _ _ c.args.word c.take-seat.ensures.rests.live (search rules))
