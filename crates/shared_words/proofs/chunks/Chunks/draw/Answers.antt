use Rattle.std.proofs.Common.{rules}
use Rattle.shared_words.proofs.Dealing.{draws_allowed}
use Rattle.shared_words.proofs.chunks.Chunks.draw.Goals as goal

pub fetch_add-number-requires : goal.fetch_add-number-requires
fetch_add-number-requires c = (search rules, search rules, draws_allowed c.self.inside.table.shared.key _ _ _ c.args.which c.take-seat.ensures.live (search rules) (search rules))
