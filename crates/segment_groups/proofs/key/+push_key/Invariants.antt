use Rattle.segment_groups.proofs.key.+push_key.Given as goal

abbrev pub decreases-push_key : goal.decreases-push_key
decreases-push_key l = l.depth
