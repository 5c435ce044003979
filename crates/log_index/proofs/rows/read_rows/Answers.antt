use Rattle.std.proofs.Common.{◌≡◌, ◌+◌, ◌++◌, ℕ, List, [], length, map, drop, ap, sym, subst, ◌∙◌}
use Rattle.std.proofs.lemmas.Result.{err_from_is_err_and}
use Rattle.sw_base.specs.Window.{file_of}
use Rattle.race_model.specs.declared.why.IndexWhy.{IndexWhy}
use Rattle.race_model.specs.Row.{Row, raw_of}
use Rattle.race_model.specs.IndexFault.{FailsIndexFirst}
use Rattle.log_index.specs.declared.row.IndexAnswer.TheVariants.{Bad}
use Rattle.log_index.specs.Rows.{IsFirstBadRow}
use Rattle.log_index.proofs.Ends.{stops_first, end_first, same_answer}
use Rattle.log_index.proofs.rows.read_rows.Goals as goal

pub returns-in_err-rows-clause-bad : goal.returns-in_err-rows-clause-bad
returns-in_err-rows-clause-bad g c =
    let p = err_from_is_err_and c.from_residual-in_err-rows.result c.from_residual-in_err-rows.ensures.1 in
    rw (p.1, p.2) (λ n why is x told.
    let file : List ℕ = file_of x c.args.name.now in
    let passed = c.in_ok-pass_header.ensures.passed c.if-not-branch.false x told in
    stops_first c.args.format file (drop 8 file) (passed.1 ∙ ap (λ (header : List ℕ). header ++ drop 8 file) c.index_header.ensures) n why (c.in_err-rows.ensures.bad n why is x (ap (λ s. s.content) c.in_ok-pass_header.ensures.reads.same ∙ told) passed.0))

pub returns-clause-bad : goal.returns-clause-bad
returns-clause-bad g c = λ n why is x told.
    let file : List ℕ = file_of x c.args.name.now in
    let passed = c.in_ok-pass_header.ensures.passed c.if-not-branch.false x told in
    let told_is : Bad n why ≡ Bad (length c.deref-in-Err.result.now + 1) c.in-Err.why = sym is ∙ c.bad_row.ensures in
    let parts : (n ≡ length c.deref-in-Err.result.now + 1) × (why ≡ c.in-Err.why) = same_answer told_is in
    let number : n ≡ length c.in_ok-rows.rows.items + 1 = parts.0 ∙ ap (λ (rows : List Row). length rows + 1) c.deref-in-Err.ensures.value in
    let fails : FailsIndexFirst (map raw_of c.in_ok-rows.rows.items) [] c.in-Err.why =
    subst (λ (rows : List Row). FailsIndexFirst (map raw_of rows) [] c.in-Err.why) c.deref.ensures.value c.in-Err.ensures.fails in
    let first : IsFirstBadRow c.args.format file (length c.in_ok-rows.rows.items + 1) c.in-Err.why =
    end_first c.args.format file (drop 8 file) (passed.1 ∙ ap (λ (header : List ℕ). header ++ drop 8 file) c.index_header.ensures) c.in_ok-rows.rows.items c.in-Err.why (c.in_ok-rows.ensures.rows x (ap (λ s. s.content) c.in_ok-pass_header.ensures.reads.same ∙ told) passed.0) fails in
    subst (λ (m : ℕ). IsFirstBadRow c.args.format file m why) (sym number) (subst (λ (w : IndexWhy). IsFirstBadRow c.args.format file (length c.in_ok-rows.rows.items + 1) w) (sym parts.1) first)
