use Rattle.std.proofs.Common.{Option, refl, subst, rules}
use Rattle.log_format.specs.declared.record.Record.{Record}
use Rattle.log_reader.specs.Reading.{GivesNext}
use Rattle.log_replay.proofs.Stepping.{gives_took, none_is_left}
use Rattle.log_replay.proofs.lane.ReplayLane.next.Goals as goal

pub returns-in-Some-clause-takes : goal.returns-in-Some-clause-takes
returns-in-Some-clause-takes g c = λ log done rest at.
    gives_took (g.F.Folder.state c.args.folder.now) at.content at.is_told rest c.in-Some.next c.next.new.self _ _
    (subst (λ (o : Option Record). GivesNext at.content rest o c.next.new.self) c.in-Some.is (c.in_ok-next.ensures.gives at.content at.is_told rest at.stands))
    refl (search rules) refl refl

pub returns-in-None-clause-takes : goal.returns-in-None-clause-takes
returns-in-None-clause-takes g c = λ log done rest at.
    absurd (none_is_left at.content rest c.next.new.self
    (subst (λ (o : Option Record). GivesNext at.content rest o c.next.new.self) c.in-None.is (c.in_ok-next.ensures.gives at.content at.is_told rest at.stands)) at.ahead)
