use Rattle.witness_laws.proofs.Witnesses.{confirmed_both, least_both}
use Rattle.witness_laws.proofs.values.values_do_not_matter_to_witnesses.Goals as goal

pub returns : goal.returns
returns c = record {
  confirmed = λ trace other a i b j byte tree same. confirmed_both trace other a i b j byte tree same;
  least = λ trace other lines found tree same. least_both trace other lines found tree same;
}
