use Rattle.std.proofs.Common.{◌≡◌, ap, sym, ◌∙◌, subst, ℤ, w64, to_z, of_z, rules}
use Rattle.std.proofs.lemmas.Int.{to_z-of_z}
use Rattle.log_format.specs.Fitting.{fitted}
use Rattle.kernel_model.specs.State.{put}
use Rattle.kernel_model.specs.Changing.{kind_of}
use Rattle.log_format.specs.declared.record.Kind.{Kind}
use Rattle.kernel_model.specs.Value.{access, element_at}
use Rattle.log_format.specs.declared.record.Record.{Record}
use Rattle.log_replay.specs.Following.{FollowsPart, IsMark}
use Rattle.log_replay.specs.Forks.{standing}
use Rattle.task_place.specs.Placing.{meant}
use Rattle.log_replay.proofs.Statements.{change_mark, changes_none, changes_some}
use Rattle.log_replay.proofs.lane.ReplayLane.put_value.Goals as goal

pub returns-in_default-clause-follows : goal.returns-in_default-clause-follows
returns-in_default-clause-follows g c =
    changes_none (g.F.Folder.state c.args.folder.now) (kind_of c.args.change) (element_at c.args.place.now.arrays c.args.array c.args.index) c.args.amount c.args.line c.args.site (standing c.args.self.now) (standing c.args.self.now) c.stray.result
    (ap (λ (z : ℤ). element_at c.args.place.now.arrays c.args.array z) (sym (to_z-of_z w64 c.args.index c.ranges.index)) ∙ c.in_default.ensures) c.stray.ensures

pub returns-clause-follows : goal.returns-clause-follows
returns-clause-follows g c =
    let e = meant c.in-Some.element in
    let number_is : to_z w64 (of_z w64 c.fit-fitted.result) ≡ fitted c.args.amount c.in-Some.element.width =
    to_z-of_z w64 c.fit-fitted.result (search rules) ∙ c.fit-fitted.ensures ∙ ap (λ (z : ℤ). fitted z c.in-Some.element.width) (to_z-of_z w64 c.args.amount c.ranges.amount) in
    changes_some (g.F.Folder.state c.args.folder.now) (kind_of c.args.change) (element_at c.args.place.now.arrays c.args.array c.args.index) e c.args.amount (to_z w64 (of_z w64 c.fit-fitted.result)) c.args.line c.args.site (standing c.args.self.now) (standing c.put.new.self) c.put.result
    (ap (λ (z : ℤ). element_at c.args.place.now.arrays c.args.array z) (sym (to_z-of_z w64 c.args.index c.ranges.index)) ∙ c.in-Some.ensures.is) number_is
    (subst (λ (r : Record). FollowsPart (g.F.Folder.state c.args.folder.now) (put r) (standing c.args.self.now) (standing c.put.new.self) c.put.result) (c.access-due.ensures ∙ ap (λ (k : Kind). access k e c.args.site c.args.line (to_z w64 (of_z w64 c.fit-fitted.result))) c.kind.ensures) c.put.ensures.follows)

pub put-requires : goal.put-requires
put-requires g c = (search rules, (search rules, (search rules, subst IsMark (sym (ap (λ (r : Record). r.kind) c.access-due.ensures ∙ c.kind.ensures)) (change_mark c.args.change))))
