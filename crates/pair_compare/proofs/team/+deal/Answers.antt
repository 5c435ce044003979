use Rattle.std.proofs.Common.{◌≡◌, ◌∙◌, ◌++◌, ◌+◌, ◌-◌, ◌*◌, ◌/◌, ◌≤◌, ℕ, suc, inl, inr, All, List, length, take, ap, rules, subst, sym, arith}
use Rattle.std.proofs.Math.Nat.{div-le_of_le-mul}
use Rattle.std.proofs.Math.Seq.{take-length}
use Rattle.std.proofs.lemmas.List.{length-take-le, take-take}
use Rattle.std.proofs.lemmas.List.Sums.{sum_by-append, sum_by-take-le}
use Rattle.std.proofs.lemmas.Result.{on_ok_weaker}
use Rattle.std.proofs.lemmas.List.Elements.{All-push}
use Rattle.pair_compare.specs.declared.worker.Worker.{Worker}
use Rattle.pair_compare.specs.Conflict.{GrowsBy, OneHas}
use Rattle.pair_compare.specs.Work.{HasNothing, HasShare, IsTaskPair, IsWorkerPair, total_runs}
use Rattle.pair_compare.specs.declared.task.Task.{Task}
use Rattle.pair_compare.proofs.Findings.{Adds-worker}
use Rattle.pair_compare.proofs.Shares.{left_over}
use Rattle.pair_compare.proofs.Tasks.{Adds-append}
use Rattle.pair_compare.proofs.team.+deal.Goals as goal

pub returns-then-workers-le1-clause-dealt : goal.returns-then-workers-le1-clause-dealt
returns-then-workers-le1-clause-dealt t c = Adds-worker c.args.team.now.items c.push.new.self.items c.new.result c.args.tasks.now c.new.ensures.tasks c.in_ok-push.ensures.items

pub returns-clause-dealt : goal.returns-clause-dealt
returns-clause-dealt t c =
    let whole : c.args.tasks.now ≡ c.split_at.result.0.now ++ c.split_at.result.1.now = search rules in
    let first = Adds-worker c.args.team.now.items c.push-2.new.self.items c.new-2.result c.split_at.result.0.now c.new-2.ensures.tasks c.in_ok-push-2.ensures.items in
    on_ok_weaker c.deal.result
    (λ then. subst (λ (ts : List Task). GrowsBy (OneHas IsWorkerPair c.args.team.now.items) (OneHas IsWorkerPair c.deal.new.team.items) (OneHas IsTaskPair ts)) (sym whole)
    (Adds-append (OneHas IsWorkerPair c.args.team.now.items) (OneHas IsWorkerPair c.push-2.new.self.items) (OneHas IsWorkerPair c.deal.new.team.items) IsTaskPair c.split_at.result.0.now c.split_at.result.1.now first then))
    c.deal.ensures.dealt

pub returns-clause-fresh : goal.returns-clause-fresh
returns-clause-fresh t c = λ fresh. c.deal.ensures.fresh (subst (λ (ws : List Worker). All HasNothing ws) (sym c.in_ok-push-2.ensures.items) (All-push HasNothing c.args.team.now.items c.new-2.result fresh c.new-2.ensures.fresh))

pub returns-then-workers-le1-clause-even : goal.returns-then-workers-le1-clause-even
returns-then-workers-le1-clause-even t c = λ most small fits old.
    let tasks = c.args.tasks.now in
    let part = sum_by-take-le (λ (task : Task). task.runs) tasks (length tasks - 1) in
    let few : c.args.workers * most ≤ most = grind (arith, c.if-workers-le1.true) in
    let own : HasShare most c.new.result = subst (λ (ts : List Task). total_runs (take (length ts - 1) ts) ≤ most) (sym c.new.ensures.tasks) (omega (arith, part, fits, few)) in
    subst (λ (ws : List Worker). All (HasShare most) ws) (sym c.in_ok-push.ensures.items) (All-push (HasShare most) c.args.team.now.items c.new.result old own)

pub returns-clause-even : goal.returns-clause-even
returns-clause-even t c = λ most small fits old.
    let tasks = c.args.tasks.now in
    let first = c.split_at.result.0.now in
    let rest = c.split_at.result.1.now in
    let number = c.share.result in
    let equal = c.runs_in.result / c.args.workers in
    let whole : tasks ≡ first ++ rest = search rules in
    let total : total_runs tasks ≡ total_runs first + total_runs rest = ap total_runs whole ∙ sum_by-append (λ (task : Task). task.runs) first rest in
    let counted : c.runs_in.result ≡ total_runs tasks = c.runs_in.ensures small in
    let equal_fits : equal ≤ most = div-le_of_le-mul c.args.workers (subst (λ (n : ℕ). n ≤ c.args.workers * most) (sym counted) fits) in
    let front : first ≡ take number tasks = c.split_at.ensures.front in
    let long : length first ≡ number = ap (λ (ts : List Task). length ts) front ∙ length-take-le number tasks c.share.ensures.within in
    let without_last : take (length first - 1) first ≡ take (number - 1) tasks =
    ap (λ (n : ℕ). take (n - 1) first) long ∙ ap (λ (ts : List Task). take (number - 1) ts) front ∙ take-take (number - 1) number tasks (omega arith) in
    let own : HasShare most c.new-2.result = subst (λ (ts : List Task). total_runs (take (length ts - 1) ts) ≤ most) (sym c.new-2.ensures.tasks)
    (subst (λ (ts : List Task). total_runs ts ≤ most) (sym without_last) (let before = c.share.ensures.before small in omega (arith, before, equal_fits))) in
    let left : total_runs rest ≤ (c.args.workers - 1) * most = elim (c.share.ensures.enough small) [
      | inl all ↦
          let same : total_runs first ≡ total_runs tasks = ap total_runs (front ∙ ap (λ (n : ℕ). take n tasks) all ∙ take-length tasks) in
          omega (arith, total, same)
      | inr enough ↦
          let taken : equal ≤ total_runs first = subst (λ (ts : List Task). equal ≤ total_runs ts) (sym front) enough in
          let workers : c.args.workers ≡ suc (c.args.workers - 1) = omega (arith, c.if-workers-le1.false) in
          let over = left_over (c.args.workers - 1) most (total_runs tasks) (total_runs first)
          (subst (λ (n : ℕ). total_runs tasks ≤ n * most) workers fits)
          (subst (λ (n : ℕ). n ≤ total_runs first) (ap (λ (n : ℕ). n / c.args.workers) counted ∙ ap (λ (n : ℕ). total_runs tasks / n) workers) taken) in
          omega (arith, total, over)
    ] in
    c.deal.ensures.even most (omega (arith, total, small)) left
    (subst (λ (ws : List Worker). All (HasShare most) ws) (sym c.in_ok-push-2.ensures.items) (All-push (HasShare most) c.args.team.now.items c.new-2.result old own))
