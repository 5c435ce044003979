use Rattle.std.proofs.Common.{◌≡◌, [], false, subst}
use Rattle.std.proofs.lemmas.List.Elements.{All-more}
use Rattle.pair_compare.specs.Work.{HasFound}
use Rattle.pair_compare.specs.declared.worker.Worker.{Worker}
use Rattle.pair_compare.proofs.Adds.{AddsPairs-next}
use Rattle.pair_compare.proofs.team.gather.Goals as goal

pub loop-worker-preserved : goal.loop-worker-preserved
loop-worker-preserved c = (
  AddsPairs-next [] c.loop-worker.pairs.keys c.unite.new.pairs.keys HasFound c.args.team.now c.loop-worker.worker-index c.worker-item.result c.loop-worker-test.true c.worker-item.is c.loop-worker.invariant.0 c.in_ok-unite.ensures.added,
  All-more (λ worker. worker.refused ≡ false) c.args.team.now c.loop-worker.worker-index c.worker-item.result c.loop-worker-test.true c.loop-worker.invariant.1
      (subst (λ (w : Worker). w.refused ≡ false) c.worker-item.is c.if-worker.false),
)
