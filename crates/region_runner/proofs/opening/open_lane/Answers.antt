use Rattle.std.proofs.Common.{refl, ◌∙◌}
use Rattle.sw_base.specs.declared.trouble.Trouble.TheVariants.{Memory}
use Rattle.log_format.specs.declared.format.TheConstants.{FORMAT}
use Rattle.log_format.specs.Format.{log_header}
use Rattle.region_runner.proofs.OpenedLanes.{lane_begins, nothing_torn, refused_gives}
use Rattle.region_runner.proofs.opening.open_lane.Goals as goal

pub returns-in_default : goal.returns-in_default
returns-in_default g c = record {
  opens =
      refused_gives (record { dir = g.L.Log.dir c.args.log; size = c.args.size; tells = _ }) c.args.path c.torn.result _ c.args.draws Memory (g.L.Log.text c.args.log) c.torn.ensures refl refl c.requires.path refl c.requires.empty
      (nothing_torn (g.L.Log.text c.args.log) (log_header FORMAT)) refl (λ e. cc);
}

pub returns-in-Ok-start : goal.returns-in-Ok-start
returns-in-Ok-start g c = record {
  opens =
      lane_begins _ c.args.path c.args.locals.now.slots.items c.in-Ok.slots.items c.args.draws c.blank.result (g.L.Log.dir c.args.log) (g.L.Log.path c.args.log) (g.L.Log.text c.args.log) c.in-Ok-start.buffer.faults c.args.size c.in-Ok-start.buffer c.new-track.result
      c.new.result c.new.ensures c.new-track.ensures c.in-Ok-start.ensures.started c.in-Ok.ensures c.requires.path refl c.in-Ok-start.ensures.records;
}

pub returns-in-Err : goal.returns-in-Err
returns-in-Err g c = record {
  opens =
      refused_gives (record { dir = g.L.Log.dir c.args.log; size = c.args.size; tells = _ }) c.args.path c.torn-in-Err.result _ c.args.draws c.in-Err.trouble (g.L.Log.text c.args.log) c.torn-in-Err.ensures refl c.in-Err.ensures.given_back.0
      (c.in-Err.ensures.given_back.1 ∙ c.requires.path) refl c.requires.empty c.in-Err.ensures.torn refl c.in-Err.ensures.fault;
}
