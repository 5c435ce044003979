use Rattle.std.proofs.Common.{ℕ, ap, inl, inr, sym, ◌∙◌, subst}
use Rattle.std.specs.Prelude.{is_some}
use Rattle.std.proofs.lemmas.Option.{same_Some}
use Rattle.sw_base.specs.Environment.{Content, Rose, next_count}
use Rattle.kernel_syntax.specs.Program.{program_of}
use Rattle.run_command.specs.Run.{CameOut}
use Rattle.run_command.proofs.running.run.Goals as goal

pub returns-in-Ok-clause-only_runs_write : goal.returns-in-Ok-clause-only_runs_write
returns-in-Ok-clause-only_runs_write g c = λ old is none fault. none (program_of c.in-Ok.kernel) (c.in-Ok.ensures.can old is)

pub returns-in-Ok-clause-untouched : goal.returns-in-Ok-clause-untouched
returns-in-Ok-clause-untouched g c = λ old is none. absurd (none (program_of c.in-Ok.kernel) (c.in-Ok.ensures.can old is))

pub returns-in-Err-clause-came : goal.returns-in-Err-clause-came
returns-in-Err-clause-came g c = λ old is new now.
    subst (λ (d : Content). CameOut (Rose (g.F.Folder.state c.args.folder.now).write_faults (g.F.Folder.state c.begin.new.folder).write_faults) c.args.kernel.now c.args.dir.now c.args.size old d c.in-Err.outcome)
    (same_Some old new (sym is ∙ sym (ap (λ s. s.content) c.begin.ensures.reads.same) ∙ now)) (c.in-Err.ensures.came old is c.args.size _ _)

pub returns-in-Ok-clause-asks_once : goal.returns-in-Ok-clause-asks_once
returns-in-Ok-clause-asks_once g c = inr (c.execute.ensures.asks_once ∙ ap (λ s. next_count s.roots) c.begin.ensures.reads.same)

pub returns-in-Err-clause-asks_once : goal.returns-in-Err-clause-asks_once
returns-in-Err-clause-asks_once g c = inl (ap (λ s. s.roots) c.begin.ensures.reads.same)

pub returns-in-Ok-clause-came : goal.returns-in-Ok-clause-came
returns-in-Ok-clause-came g c = λ old is new now.
    subst (λ (n : ℕ). CameOut (Rose n (g.F.Folder.state c.execute.new.folder).write_faults) c.args.kernel.now c.args.dir.now c.args.size old new c.execute.result) (ap (λ s. s.write_faults) c.begin.ensures.reads.same)
    (c.execute.ensures.ends c.args.kernel.now old new (c.in-Ok.ensures.can old is) (ap (λ s. s.content) c.begin.ensures.reads.same ∙ is) now)

pub returns-in-Ok-clause-tells : goal.returns-in-Ok-clause-tells
returns-in-Ok-clause-tells g c = c.execute.ensures.tells ∙ ap (λ s. is_some s.content) c.begin.ensures.reads.same

pub returns-in-Ok-clause-write_fault : goal.returns-in-Ok-clause-write_fault
returns-in-Ok-clause-write_fault g c = λ is.
    subst (λ (n : ℕ). Rose n (g.F.Folder.state c.execute.new.folder).write_faults) (ap (λ s. s.write_faults) c.begin.ensures.reads.same) (c.execute.ensures.write_fault is)

pub returns-in-Ok-clause-no_fault : goal.returns-in-Ok-clause-no_fault
returns-in-Ok-clause-no_fault g c = λ done. c.execute.ensures.no_fault done ∙ ap (λ s. s.write_faults) c.begin.ensures.reads.same

pub returns-in-Err-clause-tells : goal.returns-in-Err-clause-tells
returns-in-Err-clause-tells g c = ap (λ s. is_some s.content) c.begin.ensures.reads.same

pub returns-in-Err-clause-no_fault : goal.returns-in-Err-clause-no_fault
returns-in-Err-clause-no_fault g c = λ _. ap (λ s. s.write_faults) c.begin.ensures.reads.same

pub returns-in-Err-clause-untouched : goal.returns-in-Err-clause-untouched
returns-in-Err-clause-untouched g c = λ _ _ _. c.begin.ensures.reads.same
