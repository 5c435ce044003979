use Rattle.std.proofs.Common.{ℕ, subst, sym}
use Rattle.team_live.specs.Turns.{IsIdleDesk}
use Rattle.team_live.proofs.first.stay.Goals as goal

pub run_lanes-requires-clause-desk : goal.run_lanes-requires-clause-desk
run_lanes-requires-clause-desk g c κs within = subst (λ (n : ℕ). IsIdleDesk c.args.parcels.now n c.loop-number.desk) (sym c.begin_phase.ensures.count) c.loop-number.invariant.desk

pub end_phase-requires-clause-home : goal.end_phase-requires-clause-home
end_phase-requires-clause-home g c = record { before = c.begin_phase.new.lanes.items; count = c.begin_phase.ensures.count; were = c.begin_phase.ensures.parted; each = c.run_lanes.ensures.did }
