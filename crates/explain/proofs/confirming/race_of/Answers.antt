use Rattle.std.proofs.Common.{sym, ◌∙◌}
use Rattle.explain.proofs.Answering.{none_is_some}
use Rattle.explain.proofs.Witnesses.{only_unordered}
use Rattle.explain.proofs.confirming.race_of.Goals as goal

pub returns-in_default-clause-races : goal.returns-in_default-clause-races
returns-in_default-clause-races g c = λ x told trace run one other one_in other_in one_is other_is byte.
    (λ never. absurd (none_is_some byte never), λ both. absurd (none_is_some byte (sym c.in_default.is ∙ (c.conflict.ensures byte).1 both.0)))

pub returns-clause-races : goal.returns-clause-races
returns-clause-races g c = λ x told trace run one other one_in other_in one_is other_is byte.
    only_unordered c.conflict.result c.only_if.result c.in-Some.byte byte c.in_ok-unordered.unordered c.in-Some.is (c.conflict.ensures byte)
    (c.in_ok-unordered.ensures.unordered x told trace run one other one_in other_in one_is other_is) (c.only_if.ensures byte)
