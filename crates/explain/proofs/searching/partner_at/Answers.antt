use Rattle.std.proofs.Common.{◌≡◌, List, length, ap, rules, sym, subst, ◌∙◌}
use Rattle.race_model.specs.Row.{Row}
use Rattle.explain.specs.Suspects.{HoldPartners}
use Rattle.explain.specs.declared.stretch.RecordRange.{RecordRange}
use Rattle.explain.proofs.Answering.{no_element}
use Rattle.explain.proofs.Logs.{log_of, path_of, row_of_place}
use Rattle.explain.proofs.Probing.{holds_partners}
use Rattle.explain.proofs.searching.partner_at.Goals as goal

pub returns-then-is_empty-clause-finds : goal.returns-then-is_empty-clause-finds
returns-then-is_empty-clause-finds g c = λ x told trace run all one in_x number_is tells other y byte later in_y races.
    let row = row_of_place c.args.rows.now c.args.first c.index-rows-first.result c.requires.first c.index-rows-first.is in
    let log = log_of x c.args.dir.now c.args.rows.now trace run c.args.first c.index-rows-first.result row in
    let path = path_of x c.args.dir.now trace c.args.first c.index-rows-first.result log one in_x ∙ sym (ap (λ (r : Row). r.path) c.row.view_is) in
    let held = holds_partners trace c.args.lines c.args.suspects.now run.keeps all c.args.first one c.args.one.now c.row.inside.path c.args.number c.in_ok-met.met.items in_x tells path number_is c.in_ok-met.ensures other y byte in_y races in
    no_element c.in_ok-met.met.items held.0 (let none : length c.in_ok-met.met.items ≡ 0 = search rules in none) held.1

pub returns-clause-finds : goal.returns-clause-finds
returns-clause-finds g c = λ x told trace run all one in_x number_is tells.
    let row = row_of_place c.args.rows.now c.args.first c.index-rows-first.result c.requires.first c.index-rows-first.is in
    let log = log_of x c.args.dir.now c.args.rows.now trace run c.args.first c.index-rows-first.result row in
    let path = path_of x c.args.dir.now trace c.args.first c.index-rows-first.result log one in_x ∙ sym (ap (λ (r : Row). r.path) c.row.view_is) in
    c.partner_of.ensures.finds x told trace run one in_x
    (subst (λ (l : List RecordRange). HoldPartners trace c.args.lines one l) (sym c.deref.ensures.value)
    (holds_partners trace c.args.lines c.args.suspects.now run.keeps all c.args.first one c.args.one.now c.row.inside.path c.args.number c.in_ok-met.met.items in_x tells path number_is c.in_ok-met.ensures))
    tells
