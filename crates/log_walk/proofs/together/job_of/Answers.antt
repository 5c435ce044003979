use Rattle.std.proofs.Common.{◌≡◌, ◌∙◌, ◌++◌, ◌∷◌, [], ℕ, All, List, Some, refl, sym, subst, arith, rules}
use Rattle.std.specs.Prelude.{Err, Ok, slice_get}
use Rattle.std.proofs.lemmas.Option.{none-some}
use Rattle.std.proofs.lemmas.List.Elements.{All-contains, Contains-push}
use Rattle.sw_base.specs.declared.path.Step.{Step}
use Rattle.race_model.specs.Row.{Row}
use Rattle.race_model.specs.IndexFault.{IsRow, IsStep}
use Rattle.log_walk.specs.declared.check.LogFault.TheVariants.{ReadFault}
use Rattle.log_walk.proofs.Forked.{row_at}
use Rattle.log_walk.proofs.RowReads.{row_read}
use Rattle.log_walk.proofs.Taken.{lane_own}
use Rattle.log_walk.proofs.Unread.{opened_file}
use Rattle.log_walk.proofs.together.job_of.Goals as goal

pub returns-clause-job : goal.returns-clause-job
returns-clause-job g c = λ format.
    let mine : Row = record { path = c.row.inside.path; records = c.row.inside.records } in
    let read : slice_get c.args.rows.now c.args.place ≡ Some mine = row_read c.args.rows.now c.args.place c.index-rows-place.result _ c.requires.within c.index-rows-place.is c.row.view_is in
    let path_is : c.row.inside.path ≡ c.in-Some.field-0-1.now ++ c.in-Some.step.now ∷ [] = sym c.steps.ensures.steps ∙ c.in-Some.ensures.cases.0 in
    let row_is : IsRow mine = row_at c.args.rows.now c.args.place mine c.requires.rows read in
    let file = c.in-Some-2.file in
    let zero : g.F.File.File.faults file ≡ 0 = rw c.in-Some-2.is at c.in_ok-file.ensures.file_faults in
    record {
      source = record {
        row = mine;
        listed = read;
        path = c.copy.ensures.same;
        records = refl;
        limit = row_is.records.limit;
        spans = c.in_ok-spans_of.ensures mine read;
        free = refl;
        own = lane_own c.args.fork.now c.fork-label.result c.in-Some.step.now
            (All-contains IsStep (c.in-Some.field-0-1.now ++ c.in-Some.step.now ∷ []) c.in-Some.step.now (subst (λ (p : List Step). All IsStep p) path_is row_is.steps) (Contains-push c.in-Some.field-0-1.now c.in-Some.step.now)) c.fork-label.ensures;
        room = c.requires.opened;
      };
      bytes = g.F.File.File.rest file;
      opens = λ content told.
          subst (λ (name : List ℕ). (bytes : List ℕ) × (content.held name ≡ Some bytes) × (g.F.File.File.rest file ≡ Some bytes)) (search rules)
          (opened_file g.F.File.File.rest file (content.held c.deref.result.now) ((rw c.in-Some-2.is at c.in_ok-file.ensures.rest) content told));
      fresh = λ _. (refl, search rules);
      good = λ checked is. absurd (none-some (Ok checked) is);
      counts = record { later = omega arith; cause = λ is. absurd (none-some (Err ReadFault) is); no_fault = λ _. zero };
    }
