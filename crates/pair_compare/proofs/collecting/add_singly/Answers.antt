use Rattle.std.proofs.Common.{ℕ, subst}
use Rattle.pair_compare.specs.Conflict.{GrowsBy, OneHas}
use Rattle.pair_compare.specs.Sweeps.{IsHullOf}
use Rattle.pair_compare.specs.Work.{IsMetStretch}
use Rattle.pair_compare.proofs.Reaching.{Adds-place}
use Rattle.pair_compare.proofs.collecting.add_singly.Goals as goal

pub loop-place-preserved : goal.loop-place-preserved
loop-place-preserved c =
    let run = c.args.run.now in
    let task = c.args.task.now in
    let hulls = c.loop-place.hulls.items in
    let more = c.add_stretch.new.hulls.items in
    Adds-place c.args.hulls.now.items more task.singly task.low task.high c.args.part run hulls c.loop-place.place c.loop-place.invariant
    (subst (λ (b : ℕ × ℕ). GrowsBy (OneHas IsHullOf hulls) (OneHas IsHullOf more) (IsMetStretch task.low task.high c.args.part run b)) c.bytes_at.ensures.value c.in_ok-add_stretch.ensures)
