use Rattle.step_history.proofs.PrefixesOfHistories.{split_within, whole_within}
use Rattle.step_history.proofs.prefixes.prefixes_have_what_leads_to_them.Goals as goal

pub returns : goal.returns
returns c = record { down = split_within; up = whole_within }
