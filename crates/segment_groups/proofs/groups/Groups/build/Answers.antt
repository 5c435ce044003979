use Rattle.std.proofs.Common.{◌-◌, arith}
use Rattle.segment_groups.proofs.TreeGroups.{lanes_ascend}
use Rattle.segment_groups.proofs.groups.Groups.build.Goals as goal

pub build-requires : goal.build-requires
build-requires c = lanes_ascend c.args.segments.now c.requires (c.levels_below-depth.result - c.loop-above.above) (omega (arith, c.loop-above-test.true))
