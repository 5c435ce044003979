use Rattle.log_index.proofs.Decided.{HasRows, has_rows}
use Rattle.log_index.proofs.laws.index_without_a_bad_place_is_well_formed.Goals as goal

pub returns : goal.returns
returns c format files dir small good =
    let has : HasRows format files dir = has_rows format files dir small good in
    (has.rows, has.is_index)
