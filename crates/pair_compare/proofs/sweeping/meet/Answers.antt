use Rattle.std.proofs.Common.{◌≡◌, rules}
use Rattle.std.proofs.lemmas.Result.{on_ok_weaker}
use Rattle.pair_compare.proofs.Swept.{of_hulls}
use Rattle.pair_compare.proofs.sweeping.meet.Goals as goal

pub returns : goal.returns
returns c =
    let apart : c.args.a.now.part ≡ c.args.b.now.part → ⊥ = search rules in
    on_ok_weaker c.add_conflict.result (λ adds. of_hulls c.args.pairs.now.keys c.add_conflict.new.pairs.keys c.args.a.now c.args.b.now apart adds) c.add_conflict.ensures.added
