use Rattle.std.proofs.Common.{List, rules, subst}
use Rattle.std.proofs.lemmas.List.{take_all}
use Rattle.pair_compare.specs.Conflict.{AddsPairs, OneHas}
use Rattle.pair_compare.specs.Sweeps.{IsReachedPair}
use Rattle.pair_compare.specs.declared.hull.Hull.{Hull}
use Rattle.pair_compare.proofs.Adds.{AddsPairs-next}
use Rattle.pair_compare.proofs.Swept.{reached_before, reached_none, reaches_none, settles_more, settles_none}
use Rattle.pair_compare.proofs.sweeping.meet_block.Goals as goal

pub returns-then-is_empty-clause-added : goal.returns-then-is_empty-clause-added
returns-then-is_empty-clause-added c = reaches_none c.args.from c.args.pairs.now.keys c.args.active.now c.args.block.now (c.is_empty.ensures c.if-is_empty.true)

pub loop-hull-init : goal.loop-hull-init
loop-hull-init c = record { active = settles_none c.args.active.now c.requires.kinds c.args.block.now; added = reached_none c.args.from c.args.pairs.now.keys c.args.active.now c.args.block.now }

pub loop-hull-preserved : goal.loop-hull-preserved
loop-hull-preserved c =
    let inv = c.loop-hull.invariant in
    record {
      active = settles_more c.args.block.now c.loop-hull.hull-index c.hull-item.result c.loop-hull-test.true c.hull-item.is c.args.active.now c.loop-hull.active c.step.new.active inv.active c.in_ok-step.ensures.active;
      added = AddsPairs-next c.args.pairs.now.keys c.loop-hull.pairs.keys c.step.new.pairs.keys (λ hull. IsReachedPair c.args.from hull c.args.active.now) c.args.block.now c.loop-hull.hull-index c.hull-item.result c.loop-hull-test.true c.hull-item.is inv.added
          (reached_before c.args.block.now c.loop-hull.hull-index c.hull-item.result c.loop-hull-test.true c.hull-item.is c.args.from c.args.active.now c.loop-hull.active c.loop-hull.pairs.keys c.step.new.pairs.keys c.requires.rising inv.active c.in_ok-step.ensures.added);
    }

pub returns-clause-added : goal.returns-clause-added
returns-clause-added c = subst (λ (hulls : List Hull). AddsPairs c.args.pairs.now.keys c.loop-hull.pairs.keys (OneHas (λ hull. IsReachedPair c.args.from hull c.args.active.now) hulls)) (search (rules, take_all)) c.loop-hull.invariant.added
