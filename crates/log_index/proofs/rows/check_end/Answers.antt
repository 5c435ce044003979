use Rattle.std.proofs.Common.{◌∙◌}
use Rattle.log_index.proofs.Ends.{end_fails}
use Rattle.log_index.proofs.RowTests.{not_both}
use Rattle.log_index.proofs.LastRow.{no_rows}
use Rattle.log_index.proofs.rows.check_end.Goals as goal

pub returns-then-not-is_whole-clause-fails : goal.returns-then-not-is_whole-clause-fails
returns-then-not-is_whole-clause-fails c =
    end_fails c.args.rows.now (λ none. not_both (c.is_empty.ensures ∙ no_rows c.args.rows.now none) c.if-is_empty.false) (λ is. not_both (c.is_whole.ensures.1 is) c.if-not-is_whole.true)
