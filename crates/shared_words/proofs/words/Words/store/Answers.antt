use Rattle.std.proofs.Common.{rules}
use Rattle.shared_words.proofs.Steps.{stores_allowed}
use Rattle.shared_words.proofs.words.Words.store.Goals as goal

pub store-requires : goal.store-requires
store-requires c = (search rules, search rules, stores_allowed c.self.inside.table.shared.key _ _ _ c.args.word c.args.value c.take-seat.ensures.rests.live (search rules))
