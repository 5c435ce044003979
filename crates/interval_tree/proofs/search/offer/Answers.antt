use Rattle.std.proofs.Common.{arith}
use Rattle.std.proofs.lemmas.Result.{on_err_weaker}
use Rattle.interval_tree.proofs.Searching.{reaches_yes}
use Rattle.interval_tree.proofs.Taking.{TakesUpTo-first}
use Rattle.interval_tree.proofs.search.offer.Goals as goal

pub returns-clause-refused : goal.returns-clause-refused
returns-clause-refused g c =
    let yes = reaches_yes c.args.lo c.args.hi c.args.run.now c.requires (omega arith) in
    on_err_weaker c.take.result (λ refused. rw yes (TakesUpTo-first _ _ _ _ _ refused)) c.take.ensures.not_taken
