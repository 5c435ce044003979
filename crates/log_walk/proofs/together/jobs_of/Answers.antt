use Rattle.std.proofs.Common.{◌∙◌, All, List, sym, ap, subst}
use Rattle.std.specs.Prelude.{Vec}
use Rattle.std.specs.declared.alloc.Global.{Global}
use Rattle.std.proofs.lemmas.List.Elements.{All-push}
use Rattle.sw_base.specs.Environment.{FolderState}
use Rattle.log_format.specs.declared.format.Format.{Format}
use Rattle.log_walk.specs.Ahead.{IsJob}
use Rattle.log_walk.specs.declared.ahead.Job.{Job}
use Rattle.log_walk.proofs.together.jobs_of.Goals as goal
use Rattle.log_walk.proofs.together.jobs_of.Goals.{in-Some+in_ok-push, in_default}

pub loop-place-preserved : goal.loop-place-preserved
loop-place-preserved g c =
    let P : Format → Job g.row.F-File.Denot → Type 0 = λ format. IsJob g.F.File.File.rest g.F.File.File.faults format (g.F.Folder.state c.args.folder.now).content c.args.dir.now c.args.rows.now in
    record {
      so = λ format. elim c.match-branch-2.branch [
        | in-Some+in_ok-push w ↦
            subst (λ (xs : List (Job g.row.F-File.Denot)). All (P format) xs) (sym (ap (λ (v : Vec (Job g.row.F-File.Denot) Global). v.items) w.jobs-is ∙ w.in_ok-push.ensures.items))
            (All-push (P format) c.loop-place.jobs.items w.in-Some.job (c.loop-place.invariant.so format)
            (subst (λ (s : FolderState). IsJob g.F.File.File.rest g.F.File.File.faults format s.content c.args.dir.now c.args.rows.now w.in-Some.job) c.loop-place.invariant.same ((rw w.in-Some.is at c.in_ok-job.ensures.job) format)))
        | in_default w ↦ subst (λ (xs : List (Job g.row.F-File.Denot)). All (P format) xs) (sym (ap (λ (v : Vec (Job g.row.F-File.Denot) Global). v.items) w.jobs-is)) (c.loop-place.invariant.so format)
      ];
      same = c.job_of.ensures.reads.same ∙ c.loop-place.invariant.same;
      no_fault = c.in_ok-job.ensures.reads.no_fault (λ e. cc e) ∙ c.loop-place.invariant.no_fault;
    }
