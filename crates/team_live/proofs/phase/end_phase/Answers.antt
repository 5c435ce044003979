use Rattle.std.proofs.Common.{rules, MutBor}
use Rattle.std.specs.Global.{Vec}
use Rattle.team_live.proofs.phase.end_phase.Goals as goal

pub meet-requires : goal.meet-requires
meet-requires g c =
    let accepted = λ (hand : MutBor g.row.H.Denot) (lanes : MutBor (Vec g.row.M.Denot)). c.requires.ends.accepted c.args.number hand c.requires.home.before lanes c.requires.number c.requires.home.count in
    let were = c.requires.home.were in
    let did = c.requires.home.each in
    search (rules, were, did, accepted)

pub returns-clause-count : goal.returns-clause-count
returns-clause-count g c = c.requires.ends.count _ _ _ _ _ _ _ c.requires.number c.requires.home.count c.requires.home.were c.requires.home.each c.meet.ensures

pub returns-clause-ran : goal.returns-clause-ran
returns-clause-ran g c = c.requires.ends.ends _ _ _ _ _ _ _ c.requires.number c.requires.home.count c.requires.home.were c.requires.home.each c.meet.ensures
