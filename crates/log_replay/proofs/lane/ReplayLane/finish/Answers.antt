use Rattle.std.proofs.Common.{◌≡◌, Option, refl, ◌∙◌, subst, rules, ap}
use Rattle.std.proofs.lemmas.Result.{err_from_is_err_and}
use Rattle.log_format.specs.declared.record.Record.{Record}
use Rattle.log_format.specs.declared.record.Kind.TheVariants as kind
use Rattle.log_reader.specs.Reading.{GivesNext}
use Rattle.kernel_model.specs.State.{event}
use Rattle.log_replay.specs.Forks.{standing}
use Rattle.log_replay.proofs.Tasks.{unread_end, other_end, last_end, early_end}
use Rattle.log_replay.proofs.lane.ReplayLane.finish.Goals as goal

pub returns-in_err-next-clause-ends : goal.returns-in_err-next-clause-ends
returns-in_err-next-clause-ends g c =
    let p = err_from_is_err_and c.from_residual.result c.from_residual.ensures.1 in
    rw (p.1, p.2) (λ log done rest at. unread_end (g.F.Folder.state c.args.folder.now) log done rest c.args.line (standing c.args.self.now) (standing c.next.new.self) c.in_err-next.field-0.0 (c.in_err-next.ensures.takes log done rest at))

pub returns-then-not-is_same-clause-ends : goal.returns-then-not-is_same-clause-ends
returns-then-not-is_same-clause-ends g c = λ log done rest at.
    let due : c.event-due.result ≡ event kind.End c.args.line 0 0 = c.event-due.ensures in
    other_end (g.F.Folder.state c.args.folder.now) log done rest (standing c.args.self.now) at c.in_ok-next.next (standing c.next.new.self) (c.in_ok-next.ensures.takes log done rest at) c.args.line c.next.new.self.count (λ is. let same = c.is_same.ensures.1 (is ∙ (let back : event kind.End c.args.line 0 0 ≡ c.event-due.result = cc due in back)) in cc (same, c.if-not-is_same.true)) refl

pub returns-in-Some-clause-ends : goal.returns-in-Some-clause-ends
returns-in-Some-clause-ends g c = λ log done rest at.
    let took = c.in_ok-next.ensures.takes log done rest at in
    let is : c.in_ok-next.next ≡ event kind.End c.args.line 0 0 = c.is_same.ensures.0 (search (rules, c.if-not-is_same.false)) ∙ c.event-due.ensures in
    rw c.stray.ensures (early_end (g.F.Folder.state c.args.folder.now) log done rest (standing c.args.self.now) at c.in_ok-next.next (standing c.next.new.self) (c.in_ok-next.ensures.takes log done rest at) c.args.line is c.next-2.new.self c.in-Some.field-0 _
    (subst (λ (o : Option Record). GivesNext at.content took.others o c.next-2.new.self) c.in-Some.is (c.in_ok-next-2.ensures.gives at.content (ap (λ s. s.content) c.next.ensures.reads.same ∙ at.is_told) took.others (took.stands at.content at.is_told))) refl)

pub returns-in-None-clause-ends : goal.returns-in-None-clause-ends
returns-in-None-clause-ends g c = λ log done rest at.
    let took = c.in_ok-next.ensures.takes log done rest at in
    let is : c.in_ok-next.next ≡ event kind.End c.args.line 0 0 = c.is_same.ensures.0 (search (rules, c.if-not-is_same.false)) ∙ c.event-due.ensures in
    (last_end (g.F.Folder.state c.args.folder.now) log done rest (standing c.args.self.now) at c.in_ok-next.next (standing c.next.new.self) (c.in_ok-next.ensures.takes log done rest at) c.args.line is c.next-2.new.self (subst (λ (o : Option Record). GivesNext at.content took.others o c.next-2.new.self) c.in-None.is (c.in_ok-next-2.ensures.gives at.content (ap (λ s. s.content) c.next.ensures.reads.same ∙ at.is_told) took.others (took.stands at.content at.is_told))), took.forks)
