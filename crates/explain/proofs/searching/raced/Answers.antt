use Rattle.std.proofs.Common.{ap, sym, ◌∙◌, arith}
use Rattle.std.proofs.lemmas.Result.{IfOk-weaker}
use Rattle.race_model.specs.Row.{Row}
use Rattle.explain.proofs.Answering.{none_is_some, not_so}
use Rattle.explain.proofs.Logs.{log_of, path_of, row_of_place}
use Rattle.explain.proofs.OnLines.{told_lines, lines_told}
use Rattle.explain.proofs.searching.raced.Goals as goal

pub returns-then-not-are_lines-clause-races : goal.returns-then-not-are_lines-clause-races
returns-then-not-are_lines-clause-races g c = λ x told trace run one other one_in other_in number_is partners one_is other_is byte. (
  λ never. absurd (none_is_some byte never),
  λ on. absurd (not_so (c.are_lines.ensures.1 (lines_told trace c.args.lines one other c.args.one.now c.args.other.now one_is other_is byte on)) c.if-not-are_lines.true),
)

pub returns-then-not-has_record-clause-races : goal.returns-then-not-has_record-clause-races
returns-then-not-has_record-clause-races g c = λ x told trace run one other one_in other_in number_is partners one_is other_is byte. (
  λ never. absurd (none_is_some byte never),
  λ on.
      let row = row_of_place c.args.rows.now c.args.second c.index-rows-second.result c.requires.second c.index-rows-second.is in
      let log = log_of x c.args.dir.now c.args.rows.now trace run c.args.second c.index-rows-second.result row in
      let path = path_of x c.args.dir.now trace c.args.second c.index-rows-second.result log other other_in ∙ sym (ap (λ (r : Row). r.path) c.row.view_is) in
      let held = partners c.args.second other byte other_in on in
      let within = held.2 in
      let low = within.low in
      let high = within.high in
      absurd (not_so (c.has_record.ensures held.0 held.1 (record { path_is = within.path_is ∙ path; low = omega (arith, low, number_is); high = omega (arith, high, number_is) })) c.if-not-has_record.true),
)

pub returns-clause-races : goal.returns-clause-races
returns-clause-races g c = λ x told trace run one other one_in other_in number_is partners one_is other_is.
    IfOk-weaker c.race_of.result _ _
    (λ answer races byte. told_lines trace c.args.lines one other c.args.one.now c.args.other.now one_is other_is (c.are_lines.ensures.0 c.if-not-are_lines.false) answer byte (races byte))
    (c.race_of.ensures.races x told trace run one other one_in other_in one_is other_is)
