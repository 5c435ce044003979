use Rattle.std.proofs.Common.{sym, ◌∙◌}
use Rattle.team_phases.proofs.StmtKinds.{not_drawn, for_drawn}
use Rattle.team_phases.proofs.phasing.is_drawing.Goals as goal

pub returns-in-For : goal.returns-in-For
returns-in-For c =
    c.is_dynamic.ensures
    ∙ sym (for_drawn c.args.stmt.now c.in-For.slot c.in-For.from c.in-For.to c.in-For.schedule c.in-For.nowait c.in-For.line c.in-For.end c.in-For.body c.in-For.is)

pub returns-in_default : goal.returns-in_default
returns-in_default c = sym (not_drawn c.args.stmt.now c.in_default.not-For)
