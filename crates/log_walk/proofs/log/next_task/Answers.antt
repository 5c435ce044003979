use Rattle.std.proofs.Common.{◌≡◌, ℕ, sym, subst, ap, ◌∙◌}
use Rattle.std.specs.Prelude.{slice_get}
use Rattle.std.proofs.lemmas.Option.{same_Some}
use Rattle.race_model.specs.Row.{Row}
use Rattle.log_walk.specs.GoodTrace.{AreTeamBarriers}
use Rattle.log_walk.proofs.RowReads.{row_read}
use Rattle.log_walk.proofs.StackMoves.{due_is, due_there}
use Rattle.log_walk.proofs.log.next_task.Goals as goal

pub due_barriers-requires : goal.due_barriers-requires
due_barriers-requires c = λ above step is from_one.
    let found = row_read c.args.rows.now c.args.stack.now.place c.index-rows-stack.result _ c.requires.within c.index-rows-stack.is c.row.view_is in
    let row : Row = record { path = c.row.inside.path; records = c.row.inside.records } in
    let stands = c.requires.stands.2 in
    due_there c.args.stack.now c.requires.stands.1 c.row.inside.path (stands.teams row (ap (λ (n : ℕ). slice_get c.args.rows.now n) (sym stands.place) ∙ found)) above step is from_one

pub returns : goal.returns
returns c =
    let found = row_read c.args.rows.now c.args.stack.now.place c.index-rows-stack.result _ c.requires.within c.index-rows-stack.is c.row.view_is in
    record {
      task = λ row told format trace stands.
          let same : (record { path = c.row.inside.path; records = c.row.inside.records }) ≡ row = same_Some _ row (sym found ∙ told) in
          let mine : Row = record { path = c.row.inside.path; records = c.row.inside.records } in
          record {
            path = c.copy.ensures.same ∙ ap (λ (r : Row). r.path) same;
            records = ap (λ (r : Row). r.records) same;
            spans = c.in_ok-spans_of.ensures row told;
            team = subst (λ (r : Row). AreTeamBarriers trace r.path c.due_barriers.result) same
                (due_is c.args.stack.now trace c.row.inside.path c.due_barriers.result (stands.teams mine (ap (λ (n : ℕ). slice_get c.args.rows.now n) (sym stands.place) ∙ found)) c.due_barriers.ensures);
          };
    }
