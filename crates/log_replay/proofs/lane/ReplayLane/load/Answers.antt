use Rattle.std.proofs.Common.{ap, sym, ◌∙◌, ℤ, w64}
use Rattle.std.proofs.lemmas.Int.{to_z-of_z}
use Rattle.kernel_model.specs.Value.{element_at}
use Rattle.log_replay.specs.Forks.{standing}
use Rattle.task_place.specs.Placing.{meant}
use Rattle.log_replay.proofs.Values.{loads_none, loads_some}
use Rattle.log_replay.proofs.lane.ReplayLane.load.Goals as goal

pub returns-in_default-clause-follows : goal.returns-in_default-clause-follows
returns-in_default-clause-follows g c =
    loads_none (g.F.Folder.state c.args.folder.now) (element_at c.args.place.now.arrays c.args.array c.args.index) c.args.line c.args.site (standing c.args.self.now) (standing c.args.self.now) c.stray.result
    (ap (λ (z : ℤ). element_at c.args.place.now.arrays c.args.array z) (sym (to_z-of_z w64 c.args.index c.ranges.index)) ∙ c.in_default.ensures) c.stray.ensures

pub returns-clause-follows : goal.returns-clause-follows
returns-clause-follows g c =
    loads_some (g.F.Folder.state c.args.folder.now) (element_at c.args.place.now.arrays c.args.array c.args.index) (meant c.in-Some.element) c.args.line c.args.site (standing c.args.self.now) (standing c.read.new.self) c.read.result
    (ap (λ (z : ℤ). element_at c.args.place.now.arrays c.args.array z) (sym (to_z-of_z w64 c.args.index c.ranges.index)) ∙ c.in-Some.ensures.is) c.read.ensures.follows
