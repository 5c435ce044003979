use Rattle.std.proofs.Common.{◌<◌, ◌≤◌, ℕ, rules, subst}
use Rattle.std.proofs.lemmas.Result.{on_ok_weaker}
use Rattle.pair_compare.specs.Conflict.{GrowsBy, OneHas}
use Rattle.pair_compare.specs.Sweeps.{IsHullOf}
use Rattle.pair_compare.specs.Work.{IsMetStretch}
use Rattle.pair_compare.proofs.Reaching.{Adds-singly, Adds-whole}
use Rattle.pair_compare.proofs.collecting.add_run.Goals as goal

pub returns-then-run-task : goal.returns-then-run-task
returns-then-run-task c =
    let run = c.args.run.now in
    let task = c.args.task.now in
    let few : run.count ≤ task.singly = search rules in
    on_ok_weaker c.add_singly.result
    (λ grows. Adds-singly c.args.hulls.now.items c.add_singly.new.hulls.items task.singly task.low task.high c.args.part run few grows)
    c.add_singly.ensures

pub returns : goal.returns
returns c =
    let run = c.args.run.now in
    let task = c.args.task.now in
    let many : task.singly < run.count = search rules in
    on_ok_weaker c.add_stretch.result
    (λ grows. Adds-whole c.args.hulls.now.items c.add_stretch.new.hulls.items task.singly task.low task.high c.args.part run many
    (subst (λ (b : ℕ × ℕ). GrowsBy (OneHas IsHullOf c.args.hulls.now.items) (OneHas IsHullOf c.add_stretch.new.hulls.items) (IsMetStretch task.low task.high c.args.part run b)) (λ i. (c.low.ensures.value i, c.high.ensures.value i)) grows))
    c.add_stretch.ensures
