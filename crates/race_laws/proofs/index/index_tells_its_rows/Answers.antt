use Rattle.race_laws.proofs.IndexRows.{index_once, put_is_index}
use Rattle.race_laws.proofs.index.index_tells_its_rows.Goals as goal

pub returns : goal.returns
returns c = record { once = λ format. index_once; put = λ format. put_is_index }
