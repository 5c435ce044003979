use Rattle.interval_tree.proofs.tree.+push_reaches.Given as goal

abbrev pub decreases-push_reaches : goal.decreases-push_reaches
decreases-push_reaches l = l.levels
