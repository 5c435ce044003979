use Rattle.pair_compare.proofs.team.+deal.Given as goal

abbrev pub decreases-deal : goal.decreases-deal
decreases-deal l = l.workers
