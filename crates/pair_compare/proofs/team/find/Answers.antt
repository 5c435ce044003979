use Rattle.std.proofs.lemmas.Result.{IfOk-weaker}
use Rattle.pair_compare.proofs.Findings.{team_found}
use Rattle.pair_compare.proofs.team.find.Goals as goal

pub returns-clause-found : goal.returns-clause-found
returns-clause-found g c = IfOk-weaker c.gather.result _ _ (λ pairs both pair.
    let found = team_found c.args.team.now c.search_at_once.new.team pair c.search_at_once.ensures.count c.search_at_once.ensures.searched c.requires.fresh both.0 in
    (λ h. found.0 ((both.1 pair).0 h), λ h. (both.1 pair).1 (found.1 h))) c.gather.ensures.found
