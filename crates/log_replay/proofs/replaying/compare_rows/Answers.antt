use Rattle.std.proofs.Common.{rules, ◌≡◌, refl, ap, sym, ◌∙◌, subst, ℕ, ◌<◌, List, length, get_or, Option, Some, None, arith}
use Rattle.std.specs.Prelude.{slice_get}
use Rattle.std.specs.Global.{Vec}
use Rattle.std.proofs.lemmas.List.{length-map}
use Rattle.std.proofs.lemmas.Option.{slice_get_read}
use Rattle.sw_base.specs.declared.path.Step.{Step}
use Rattle.race_model.specs.FirstBad.{row_of, rows_of}
use Rattle.race_model.specs.Row.{Row}
use Rattle.race_model.specs.Trace.{Trace}
use Rattle.race_model.proofs.TraceLogs.{RowTask, task_in}
use Rattle.kernel_syntax.specs.Program.{program_of}
use Rattle.log_replay.specs.Ancestors.{ComparesTask, forks_kept}
use Rattle.log_replay.specs.Replaying.{DiffersFirst}
use Rattle.log_replay.specs.declared.forked.Forked.{Forked}
use Rattle.log_replay.proofs.AllTasks.{Compared, compared_all, compared_next, compared_none, compared_other, log_of_row}
use Rattle.log_replay.proofs.replaying.compare_rows.Goals as goal

pub rows-init : goal.rows-init
rows-init g c = record {
  compared = λ x told tasks same holds rules.
      subst (λ (k : List (Vec Forked)). Compared (program_of c.args.kernel.now) tasks (forks_kept k) 0) (sym c.new-kept.ensures.items)
      (compared_none (program_of c.args.kernel.now) tasks rules);
  same = refl;
  no_fault = search rules;
}

-- the task of a row
task_of_row : (tasks : Trace) (rows : List Row) (index : ℕ) (row : Row) → rows_of tasks ≡ rows → index < length rows → row ≡ get_or rows index row → RowTask tasks index row
task_of_row tasks rows index row same within is = task_in tasks index row (subst (λ (rs : List Row). slice_get rs index ≡ Some row) (sym same) (slice_get_read rows (length rows) index row refl within is))

pub rows-preserved : goal.rows-preserved
rows-preserved g c = record {
  compared = λ x told tasks same holds rules.
      let program = program_of c.args.kernel.now in
      let old = forks_kept c.rows.kept.items in
      let new = forks_kept c.compare_task.new.kept.items in
      let compared = c.rows.invariant.compared x told tasks same holds rules in
      let next = task_of_row tasks c.args.rows.now c.rows.row-index c.row-item.result same c.rows-test.true c.row-item.is in
      compared_next program tasks rules old c.rows.row-index compared next.task next.found new
      (log_of_row program tasks rules old c.rows.row-index compared next.task next.found x.held c.args.dir.now new None holds c.row-item.result next.row_is
      (λ logs keeps whole counted ahead fits.
      subst (λ (o : Option ℕ). ComparesTask program logs c.row-item.result.path old new o) c.in_default.is
      (c.in_ok-number.ensures.compares x (ap (λ s. s.content) c.rows.invariant.same ∙ told) logs keeps whole counted ahead fits)));
  same = c.in_ok-number.ensures.reads.same ∙ c.rows.invariant.same;
  no_fault = search rules;
}

pub returns-in-Some-clause-compares : goal.returns-in-Some-clause-compares
returns-in-Some-clause-compares g c = λ x told tasks same holds rules.
    let program = program_of c.args.kernel.now in
    let old = forks_kept c.rows.kept.items in
    let new = forks_kept c.compare_task.new.kept.items in
    let compared = c.rows.invariant.compared x told tasks same holds rules in
    let next = task_of_row tasks c.args.rows.now c.rows.row-index c.row-item.result same c.rows-test.true c.row-item.is in
    let path = sym (ap (λ (r : Row). r.path) (c.row.view_is ∙ next.row_is)) ∙ sym c.copy.ensures.same in
    subst (λ (p : List Step). DiffersFirst program tasks p c.in-Some.number) path
    (compared_other program tasks rules old c.rows.row-index compared next.task next.found c.in-Some.number
    (log_of_row program tasks rules old c.rows.row-index compared next.task next.found x.held c.args.dir.now new (Some c.in-Some.number) holds c.row-item.result next.row_is
    (λ logs keeps whole counted ahead fits.
    subst (λ (o : Option ℕ). ComparesTask program logs c.row-item.result.path old new o) c.in-Some.is
    (c.in_ok-number.ensures.compares x (ap (λ s. s.content) c.rows.invariant.same ∙ told) logs keeps whole counted ahead fits))))

pub returns-clause-compares : goal.returns-clause-compares
returns-clause-compares g c = λ x told tasks same holds rules.
    compared_all (program_of c.args.kernel.now) tasks rules (forks_kept c.rows.kept.items) c.rows.row-index (c.rows.invariant.compared x told tasks same holds rules)
    (omega (arith, c.rows-test.false, c.rows.auto.row-index-end, ap length same, length-map tasks row_of))
