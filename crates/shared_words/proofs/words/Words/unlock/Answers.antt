use Rattle.std.proofs.Common.{rules}
use Rattle.shared_words.proofs.Steps.{unlocks_allowed}
use Rattle.shared_words.proofs.words.Words.unlock.Goals as goal

pub store-requires : goal.store-requires
store-requires c = (search rules, search rules, unlocks_allowed c.self.inside.table.shared.key _ _ _ c.args.mutex c.take-seat.ensures.rests.live (search rules) (search rules))
