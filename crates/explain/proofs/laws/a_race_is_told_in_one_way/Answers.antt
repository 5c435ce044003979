use Rattle.explain.proofs.OneWitness.{confirmed_once, least_once}
use Rattle.explain.proofs.laws.a_race_is_told_in_one_way.Goals as goal

pub returns-clause-least : goal.returns-clause-least
returns-clause-least c = λ trace lines found other one two. least_once trace lines found other one two

pub returns-clause-byte : goal.returns-clause-byte
returns-clause-byte c = λ trace a i b j byte other one two. confirmed_once trace a i b j byte other one two
