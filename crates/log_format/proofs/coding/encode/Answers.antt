use Rattle.log_format.proofs.Records.{pieces_spell}
use Rattle.log_format.proofs.coding.encode.Goals as goal

pub returns-clause-spelled : goal.returns-clause-spelled
returns-clause-spelled c =
    pieces_spell _ _ _ _ _ _ c.code_of.ensures c.to_be_bytes-site.ensures c.to_be_bytes-line.ensures c.to_be_bytes-addr.ensures c.to_be_bytes-value.ensures

pub returns-clause-spells : goal.returns-clause-spells
returns-clause-spells c = λ format tabled. record {
  tabled = tabled;
  spelled =
      pieces_spell _ _ _ _ _ _ c.code_of.ensures c.to_be_bytes-site.ensures c.to_be_bytes-line.ensures c.to_be_bytes-addr.ensures c.to_be_bytes-value.ensures;
}
