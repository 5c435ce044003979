use Rattle.folder_races.proofs.Sweeping.{AddsPairs-listed}
use Rattle.folder_races.proofs.pairs.compare.Goals as goal

pub returns-clause-added : goal.returns-clause-added
returns-clause-added g c =
    let lists = rw c.deref.ensures.value at c.in_ok-found.ensures in
    AddsPairs-listed c.args.pairs.now.keys c.unite.new.pairs.keys c.in_ok-found.found.keys c.args.waiting.now.items lists c.in_ok-unite.ensures.added
