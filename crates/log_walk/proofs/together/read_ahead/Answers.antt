use Rattle.std.proofs.Common.{All, List, drop, length, sym, subst, rules}
use Rattle.std.specs.Prelude.{IfOk}
use Rattle.std.proofs.lemmas.List.{take_at}
use Rattle.sw_base.specs.Environment.{FolderState}
use Rattle.log_walk.specs.Ahead.{IsAhead, IsJob}
use Rattle.log_walk.specs.declared.ahead.Job.{Job}
use Rattle.log_walk.proofs.together.read_ahead.Goals as goal

pub go_all-requires-clause-so : goal.go_all-requires-clause-so
go_all-requires-clause-so g c κs within =
    let told = (g.F.Folder.state c.args.folder.now).content in
    (told, c.args.dir.now, c.args.rows.now, subst (λ (xs : List (Job g.row.F-File.Denot)). All (IsJob g.F.File.File.rest g.F.File.File.faults c.args.format told c.args.dir.now c.args.rows.now) xs) (sym c.deref_mut.ensures.value) (c.in_ok-jobs.ensures.jobs c.args.format))

pub gather-requires-clause-so : goal.gather-requires-clause-so
gather-requires-clause-so g c κs within =
    let told = (g.F.Folder.state c.jobs_of.new.folder).content in
    let P : Job g.row.F-File.Denot → Type 0 = λ job. IsJob g.F.File.File.rest g.F.File.File.faults c.args.format told c.args.dir.now c.args.rows.now job in
    let new : List (Job g.row.F-File.Denot) = c.go_all.new.jobs in
    let opened = subst (λ (s : FolderState). All (IsJob g.F.File.File.rest g.F.File.File.faults c.args.format s.content c.args.dir.now c.args.rows.now) c.in_ok-jobs.jobs.items) (sym c.jobs_of.ensures.reads.same) (c.in_ok-jobs.ensures.jobs c.args.format) in
    let gone : All P new = c.go_all.ensures.goes told c.args.dir.now c.args.rows.now (subst (λ (xs : List (Job g.row.F-File.Denot)). All P xs) (sym c.deref_mut.ensures.value) opened) in
    (c.args.dir.now, c.args.rows.now, subst (λ (xs : List (Job g.row.F-File.Denot)). All P xs) (sym (take_at new (drop (length new) c.in_ok-jobs.jobs.items) c.in_ok-jobs.jobs.len (search rules))) gone)

pub returns-clause-ahead : goal.returns-clause-ahead
returns-clause-ahead g c =
    let told = (g.F.Folder.state c.jobs_of.new.folder).content in
    let P : Job g.row.F-File.Denot → Type 0 = λ job. IsJob g.F.File.File.rest g.F.File.File.faults c.args.format told c.args.dir.now c.args.rows.now job in
    let new : List (Job g.row.F-File.Denot) = c.go_all.new.jobs in
    let opened = subst (λ (s : FolderState). All (IsJob g.F.File.File.rest g.F.File.File.faults c.args.format s.content c.args.dir.now c.args.rows.now) c.in_ok-jobs.jobs.items) (sym c.jobs_of.ensures.reads.same) (c.in_ok-jobs.ensures.jobs c.args.format) in
    let gone : All P new = c.go_all.ensures.goes told c.args.dir.now c.args.rows.now (subst (λ (xs : List (Job g.row.F-File.Denot)). All P xs) (sym c.deref_mut.ensures.value) opened) in
    subst (λ (s : FolderState). IfOk c.gather.result (λ ahead. All (IsAhead c.args.format s.content c.args.dir.now c.args.rows.now) ahead.items)) c.jobs_of.ensures.reads.same
    (c.gather.ensures.ahead c.args.dir.now c.args.rows.now (subst (λ (xs : List (Job g.row.F-File.Denot)). All P xs) (sym (take_at new (drop (length new) c.in_ok-jobs.jobs.items) c.in_ok-jobs.jobs.len (search rules))) gone))
