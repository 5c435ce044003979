use Rattle.std.proofs.Common.{refl, ap, ◌∙◌, List, map}
use Rattle.std.specs.List.{each_same}
use Rattle.task_place.specs.declared.locals.Locals.{Locals}
use Rattle.serial_run.specs.declared.track.Track.{Track}
use Rattle.serial_team.specs.declared.member.TaskLog.{TaskLog}
use Rattle.serial_team.specs.Members.{whole_log}
use Rattle.serial_team.proofs.member.Member.begin.Goals as goal

pub returns-in-Ok : goal.returns-in-Ok
returns-in-Ok c = record {
  begins = record {
    at = c.in-Ok.ensures.place ∙ c.new-place.ensures;
    locals = ap (λ (l : Locals). l.slots.items) c.in-Ok.ensures.locals ∙ each_same c.args.locals.now.slots.items c.in_ok-clone.field-0.items c.in_ok-clone.ensures.cases.0;
    log = ap (λ (t : Track). t.log.items) c.in-Ok.ensures.track ∙ c.in_ok-log.ensures.items_if_clones_equal (λ x y e. e);
    none = ap (λ (t : Track). t.count) c.in-Ok.ensures.track;
    whole = λ s. c.in-Ok.ensures.whole (record { words = c.in_ok-log.log; left = 0 }) s;
    unforked = refl;
    none_below = ap (λ (l : List TaskLog). map whole_log l) c.new.ensures.items;
  };
  memory = tt;
}
