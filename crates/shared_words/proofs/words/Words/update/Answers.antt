use Rattle.std.proofs.Common.{rules}
use Rattle.shared_words.proofs.Steps.{updates_allowed}
use Rattle.shared_words.proofs.words.Words.update.Goals as goal

pub fetch_add-requires : goal.fetch_add-requires
fetch_add-requires c = (search rules, search rules, updates_allowed c.self.inside.table.shared.key _ _ _ c.args.word c.args.amount c.take-seat.ensures.rests.live (search rules))
