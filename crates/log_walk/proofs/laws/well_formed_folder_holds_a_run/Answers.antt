use Rattle.std.proofs.Common.{ℕ, List}
use Rattle.log_format.specs.declared.format.Format.{Format}
use Rattle.log_index.proofs.Decided.{HasRows, has_rows}
use Rattle.race_model.specs.BadPlace.{BadPlace, no_index, bad_row, missing_log, bad_record, too_many_segments}
use Rattle.race_model.specs.IndexFault.{IsBadIndexPlace}
use Rattle.race_model.specs.WellFormed.{IsWellFormed}
use Rattle.sw_base.specs.Environment.{Files}
use Rattle.sw_base.specs.Names.{index_name}
use Rattle.log_walk.proofs.HeldRun.{holds_run}
use Rattle.log_walk.proofs.laws.well_formed_folder_holds_a_run.Goals as goal

-- the index is bad nowhere
index_good : (format : Format) (files : Files) (dir : List ℕ) → IsWellFormed format files dir → (place : BadPlace) → IsBadIndexPlace format files dir place → ⊥
index_good format files dir good no_index bad = good no_index bad
index_good format files dir good (bad_row n why) bad = good (bad_row n why) bad
index_good format files dir good (missing_log row) bad = bad
index_good format files dir good (bad_record row n rule) bad = bad
index_good format files dir good (too_many_segments row n) bad = bad

pub returns : goal.returns
returns c format files dir small good =
    let has : HasRows format files dir = has_rows format files dir (small (index_name dir)) (index_good format files dir good) in
    let run = holds_run format files dir small good has.rows has.is_index in
    (run.trace, run.holds)
