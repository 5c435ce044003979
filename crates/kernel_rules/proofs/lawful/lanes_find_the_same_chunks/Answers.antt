use Rattle.kernel_rules.proofs.SameChunks.{same_chunks}
use Rattle.kernel_rules.proofs.lawful.lanes_find_the_same_chunks.Goals as goal

pub returns : goal.returns
returns c names team slots scoped even = same_chunks names team slots scoped even
