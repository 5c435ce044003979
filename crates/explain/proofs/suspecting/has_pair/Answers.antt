use Rattle.std.proofs.Common.{◌∙◌}
use Rattle.std.proofs.lemmas.Map.Views.{btree_set_contains_iff}
use Rattle.pair_compare.proofs.Inserts.{pair_exact, pair_total}
use Rattle.explain.proofs.suspecting.has_pair.Goals as goal

pub returns : goal.returns
returns c = λ racing.
    c.contains.ensures ∙ (btree_set_contains_iff pair_total pair_exact c.in_ok-pairs.pairs c.args.lines).1 ((c.in_ok-pairs.ensures c.args.lines).1 racing)
