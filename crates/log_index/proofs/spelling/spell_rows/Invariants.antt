use Rattle.std.proofs.Common.{◌≡◌, take}
use Rattle.log_format.specs.declared.format.TheConstants.{FORMAT}
use Rattle.race_model.specs.Row.{index_bytes}
use Rattle.log_index.proofs.spelling.spell_rows.Given as goal

abbrev pub invariant-loop-row : goal.invariant-loop-row
invariant-loop-row l = l.bytes.items ≡ index_bytes FORMAT ((take l.row-index l.rows))
