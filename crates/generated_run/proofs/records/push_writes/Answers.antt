use Rattle.generated_run.specs.Generated.{write_of}
use Rattle.generated_run.proofs.Pushing.{pushed_more}
use Rattle.generated_run.proofs.records.push_writes.Goals as goal

pub loop-round-preserved : goal.loop-round-preserved
loop-round-preserved c = pushed_more (write_of c.args.lane) _ _ _ _ c.loop-round.round c.loop-round.invariant c.write.ensures c.in_ok-push.ensures.items
