use Rattle.std.proofs.Common.{rules}
use Rattle.team_live.proofs.phase.begin_phase.Goals as goal

pub part-requires : goal.part-requires
part-requires g c =
    let number = c.requires.number in
    let count = c.requires.count in
    let stands = c.requires.stands in
    search (rules, number, count, stands, c.requires.begins.accepted)

pub returns-clause-count : goal.returns-clause-count
returns-clause-count g c = c.requires.begins.count _ _ _ _ _ c.requires.number c.requires.count c.requires.stands c.part.ensures

pub returns-clause-parted : goal.returns-clause-parted
returns-clause-parted g c = c.requires.begins.parts _ _ _ _ _ c.requires.number c.requires.count c.requires.stands c.part.ensures

pub returns-clause-may : goal.returns-clause-may
returns-clause-may g c =
    c.requires.begins.ready c.args.number c.part.new.arg2 c.part.new.arg3.items c.requires.number
    (c.requires.begins.count _ _ _ _ _ c.requires.number c.requires.count c.requires.stands c.part.ensures)
    (c.requires.begins.parts _ _ _ _ _ c.requires.number c.requires.count c.requires.stands c.part.ensures)
