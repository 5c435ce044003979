use Rattle.std.proofs.Common.{rules}
use Rattle.shared_words.proofs.Steps.{locks_allowed}
use Rattle.shared_words.proofs.words.Words.lock.Goals as goal

pub compare_exchange-found-requires : goal.compare_exchange-found-requires
compare_exchange-found-requires g c = (search rules, search rules, locks_allowed c.self.inside.table.shared.key _ _ _ c.args.mutex (search rules) (search rules))
