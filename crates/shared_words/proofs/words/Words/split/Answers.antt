use Rattle.std.proofs.Common.{rules}
use Rattle.shared_words.proofs.Steps.{announces_allowed}
use Rattle.shared_words.proofs.Splitting.{splits_allowed}
use Rattle.shared_words.proofs.words.Words.split.Goals as goal

pub compare_exchange-requires : goal.compare_exchange-requires
compare_exchange-requires c = (search rules, search rules, announces_allowed c.self.inside.table.shared.key _ _ _ _ _ c.take-seat.ensures.rests.live)

pub split_seat-other-requires : goal.split_seat-other-requires
split_seat-other-requires c = (search rules, search rules, splits_allowed c.self.inside.table.shared.key _ _ (search rules))
