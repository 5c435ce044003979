use Rattle.std.proofs.Common.{rules, subst, MatchOption, ◌^◌, ◌<◌, ℕ, List}
use Rattle.log_walk.specs.Rules.{log_task_of, MayFork, CantFork}
use Rattle.log_walk.proofs.ByKind.{lock_told, unlock_told, barrier_told, region_told, end_told, other_told, lock_fits, unlock_fits, here}
use Rattle.log_walk.proofs.state.State.broken.Goals as goal

pub overflow_cast-next : goal.overflow_cast-next
overflow_cast-next c = let low : c.args.next.now.addr < 2 ^ 16 = lock_fits _ c.requires c.in-Lock.is in search rules

pub overflow_cast-next-in-Unlock : goal.overflow_cast-next-in-Unlock
overflow_cast-next-in-Unlock c = let low : c.args.next.now.addr < 2 ^ 16 = unlock_fits _ c.requires c.in-Unlock.is in search rules

pub returns-in-Lock-clause-rules : goal.returns-in-Lock-clause-rules
returns-in-Lock-clause-rules c = λ opened before follows count number.
    lock_told c.lock.result (log_task_of c.args.task.now) before c.args.next.now c.args.self.now.held c.lock.new.held follows.held c.in-Lock.is
    (here (log_task_of c.args.task.now) before c.args.next.now c.args.number number c.in_default.ensures) c.lock.ensures

pub returns-in-Unlock-clause-rules : goal.returns-in-Unlock-clause-rules
returns-in-Unlock-clause-rules c = λ opened before follows count number.
    unlock_told c.unlock.result (log_task_of c.args.task.now) before c.args.next.now c.args.self.now.held c.unlock.new.held follows.held c.in-Unlock.is
    (here (log_task_of c.args.task.now) before c.args.next.now c.args.number number c.in_default.ensures) c.unlock.ensures

pub returns-in-Barrier-clause-rules : goal.returns-in-Barrier-clause-rules
returns-in-Barrier-clause-rules c = λ opened before follows count number.
    barrier_told c.barrier.result (log_task_of c.args.task.now) before c.args.next.now c.args.self.now.held follows.held c.in-Barrier.is
    (here (log_task_of c.args.task.now) before c.args.next.now c.args.number number c.in_default.ensures) c.barrier.ensures

pub returns-in-Region-clause-rules : goal.returns-in-Region-clause-rules
returns-in-Region-clause-rules c = λ opened before follows count number.
    region_told c.region.result (log_task_of c.args.task.now) before c.args.next.now c.args.self.now.held c.args.regions follows.held count c.in-Region.is
    (here (log_task_of c.args.task.now) before c.args.next.now c.args.number number c.in_default.ensures) (subst (λ (spans : List ℕ). MatchOption c.region.result (MayFork c.args.self.now.held spans c.args.regions c.args.next.now.value) (CantFork c.args.self.now.held spans c.args.regions c.args.next.now.value)) c.deref.ensures.value c.region.ensures)

pub returns-in-End-clause-rules : goal.returns-in-End-clause-rules
returns-in-End-clause-rules c = λ opened before follows count number.
    end_told c.end.result (log_task_of c.args.task.now) before c.args.next.now c.args.self.now.held c.args.regions c.args.self.now.barriers follows.held count follows.barriers c.in-End.is
    (here (log_task_of c.args.task.now) before c.args.next.now c.args.number number c.in_default.ensures) c.end.ensures

pub returns-in-Read-clause-rules : goal.returns-in-Read-clause-rules
returns-in-Read-clause-rules c = λ opened before follows count number.
    other_told (log_task_of c.args.task.now) before c.args.next.now c.args.self.now.held follows.held c.in-Read.is
    (here (log_task_of c.args.task.now) before c.args.next.now c.args.number number c.in_default.ensures)
