use Rattle.std.proofs.Common.{[], ap, sym, ◌∙◌, subst, Ok, Err}
use Rattle.std.proofs.lemmas.Result.{err_from_is_err_and}
use Rattle.sw_base.specs.Environment.{FolderState}
use Rattle.kernel_syntax.specs.Program.{team_of}
use Rattle.kernel_model.specs.Value.{Site}
use Rattle.log_replay.specs.Following.{HasReadTo}
use Rattle.log_replay.specs.Forks.{standing}
use Rattle.log_replay.proofs.Tasks.{restarted, trouble_strays}
use Rattle.log_replay.proofs.comparing.follow.Goals as goal

pub returns-in_err-begun-clause-strays : goal.returns-in_err-begun-clause-strays
returns-in_err-begun-clause-strays g c =
    let p = err_from_is_err_and c.from_residual.result c.from_residual.ensures.1 in
    rw (p.1, p.2) (λ content told log whole counted ahead fits program arrays.
    trouble_strays program (record { team = team_of c.args.team.now; lane = c.args.lane; slots = c.args.slots.items }) log c.in_err-begun.field-0.0)

pub returns-in_err-task-clause-strays : goal.returns-in_err-task-clause-strays
returns-in_err-task-clause-strays g c =
    let p = err_from_is_err_and c.from_residual-in_err-task.result c.from_residual-in_err-task.ensures.1 in
    rw (p.1, p.2) (λ content told log whole counted ahead fits program arrays.
    restarted program (team_of c.args.team.now) c.args.lane c.new-place.result.lane c.args.slots.items c.in_ok-begun.begun.locals.slots.items log (standing c.task.new.self) (Err c.in_err-task.field-0.0)
    (ap (λ (s : Site). s.lane) c.new-place.ensures) c.in_ok-begun.ensures.slots
    (c.in_err-task.ensures.compares log (subst (λ (t : FolderState). HasReadTo t log [] log (standing c.in_ok-begun.begun)) (sym c.begin.ensures.reads.same) (c.in_ok-begun.ensures.begun content told log whole counted ahead fits))
    c.in_ok-begun.ensures.forks program (arrays ∙ sym (ap (λ (s : Site). s.arrays) c.new-place.ensures)) (sym (ap (λ (s : Site). s.span) c.new-place.ensures))))

pub returns-clause-followed : goal.returns-clause-followed
returns-clause-followed g c = λ content told log whole counted ahead fits program arrays.
    restarted program (team_of c.args.team.now) c.args.lane c.new-place.result.lane c.args.slots.items c.in_ok-begun.begun.locals.slots.items log (standing c.task.new.self) (Ok tt)
    (ap (λ (s : Site). s.lane) c.new-place.ensures) c.in_ok-begun.ensures.slots
    (c.in_ok-task.ensures.compares log (subst (λ (t : FolderState). HasReadTo t log [] log (standing c.in_ok-begun.begun)) (sym c.begin.ensures.reads.same) (c.in_ok-begun.ensures.begun content told log whole counted ahead fits))
    c.in_ok-begun.ensures.forks program (arrays ∙ sym (ap (λ (s : Site). s.arrays) c.new-place.ensures)) (sym (ap (λ (s : Site). s.span) c.new-place.ensures)))
