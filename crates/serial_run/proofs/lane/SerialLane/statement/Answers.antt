-- Each kind of statement.
use Rattle.std.proofs.Common.{ap, sym, ◌∙◌, subst}
use Rattle.kernel_syntax.specs.declared.syntax.Stmt.{Stmt}
use Rattle.kernel_syntax.specs.Program.{stmt_code}
use Rattle.kernel_syntax.specs.Tree as tree
use Rattle.kernel_syntax.specs.Tree.{Code, Done}
use Rattle.kernel_syntax.proofs.Equations.{stmt_code-Set, stmt_code-Store, stmt_code-If, stmt_code-Loop, stmt_code-Parallel, stmt_code-For, stmt_code-Barrier}
use Rattle.log_format.specs.declared.record.Kind.TheVariants as kind
use Rattle.kernel_model.specs.State.{put, event}
use Rattle.kernel_model.specs.Trace.{run}
use Rattle.kernel_model.proofs.Equations.{run-Barrier}
use Rattle.kernel_model.proofs.Joining.{after-done}
use Rattle.serial_run.specs.Stepping.{TakesPart, stand}
use Rattle.serial_run.proofs.Statements.{takes_same}
use Rattle.serial_run.proofs.lane.SerialLane.statement.Goals as goal

pub returns-in-Set : goal.returns-in-Set
returns-in-Set c = λ layout tells.
    subst (λ (x : Code). TakesPart layout (run c.args.self.now.place x) (stand c.args.self.now c.args.memory.now) (stand c.assign.new.self c.assign.new.memory) c.assign.result)
    (sym (ap (λ (s : Stmt). stmt_code s Done) c.in-Set.is ∙ stmt_code-Set c.in-Set.slot c.in-Set.value Done))
    (c.assign.ensures layout tells)

pub returns-in-Store : goal.returns-in-Store
returns-in-Store c = λ layout tells.
    subst (λ (x : Code). TakesPart layout (run c.args.self.now.place x) (stand c.args.self.now c.args.memory.now) (stand c.store.new.self c.store.new.memory) c.store.result)
    (sym (ap (λ (s : Stmt). stmt_code s Done) c.in-Store.is ∙ stmt_code-Store c.in-Store.array c.in-Store.index c.in-Store.value c.in-Store.line c.in-Store.site Done))
    (c.store.ensures layout tells)

pub returns-in-If : goal.returns-in-If
returns-in-If c = λ layout tells.
    subst (λ (x : Code). TakesPart layout (run c.args.self.now.place x) (stand c.args.self.now c.args.memory.now) (stand c.test.new.self c.test.new.memory) c.test.result)
    (sym (ap (λ (s : Stmt). stmt_code s Done) c.in-If.is ∙ stmt_code-If c.in-If.test c.in-If.yes c.in-If.no Done))
    (c.test.ensures layout tells)

pub returns-in-Loop : goal.returns-in-Loop
returns-in-Loop c = λ layout tells.
    subst (λ (x : Code). TakesPart layout (run c.args.self.now.place x) (stand c.args.self.now c.args.memory.now) (stand c.begin.new.self c.begin.new.memory) c.begin.result)
    (sym (ap (λ (s : Stmt). stmt_code s Done) c.in-Loop.is ∙ stmt_code-Loop c.in-Loop.slot c.in-Loop.from c.in-Loop.to c.in-Loop.body Done))
    (c.begin.ensures layout tells)

pub returns-in-Parallel : goal.returns-in-Parallel
returns-in-Parallel c = λ layout tells.
    subst (λ (x : Code). TakesPart layout (run c.args.self.now.place x) (stand c.args.self.now c.args.memory.now) (stand c.fork.new.self c.fork.new.memory) c.fork.result)
    (sym (ap (λ (s : Stmt). stmt_code s Done) c.in-Parallel.is ∙ stmt_code-Parallel c.in-Parallel.team Done))
    (c.fork.ensures layout)

pub returns-in-For : goal.returns-in-For
returns-in-For c = λ layout tells.
    subst (λ (x : Code). TakesPart layout (run c.args.self.now.place x) (stand c.args.self.now c.args.memory.now) (stand c.share.new.self c.share.new.memory) c.share.result)
    (sym (ap (λ (s : Stmt). stmt_code s Done) c.in-For.is ∙ stmt_code-For c.in-For.slot c.in-For.from c.in-For.to c.in-For.schedule c.in-For.nowait c.in-For.line c.in-For.end c.in-For.body Done))
    (c.share.ensures layout c.in-For.line tells)

pub returns-in-Barrier : goal.returns-in-Barrier
returns-in-Barrier c = λ layout tells.
    subst (λ (x : Code). TakesPart layout (run c.args.self.now.place x) (stand c.args.self.now c.args.memory.now) (stand c.meet.new.self c.meet.new.memory) c.meet.result)
    (sym (ap (λ (s : Stmt). stmt_code s Done) c.in-Barrier.is ∙ stmt_code-Barrier c.in-Barrier.line Done))
    (takes_same layout (put (event kind.Barrier c.in-Barrier.line 0 0)) (run c.args.self.now.place (tree.Barrier c.in-Barrier.line Done)) (λ s. run-Barrier c.args.self.now.place c.in-Barrier.line Done s ∙ after-done c.args.self.now.place (put (event kind.Barrier c.in-Barrier.line 0 0) s)) (stand c.args.self.now c.args.memory.now) (stand c.meet.new.self c.meet.new.memory) c.meet.result (c.meet.ensures layout))
