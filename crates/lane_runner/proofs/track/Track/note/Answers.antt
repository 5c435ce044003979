use Rattle.std.proofs.Common.{◌+◌, [], sym, ◌∙◌, subst, ◌++◌, ◌∷◌}
use Rattle.log_format.specs.declared.record.Record.{Record}
use Rattle.kernel_model.specs.State.{event}
use Rattle.event_buffer.specs.Logged.{HoldsRecords}
use Rattle.lane_runner.specs.Going.{Progress, HasRoomFor}
use Rattle.lane_runner.proofs.Putting.{took}
use Rattle.lane_runner.proofs.Working.{hand_still}
use Rattle.lane_runner.proofs.track.Track.note.Goals as goal

pub returns-clause-takes : goal.returns-clause-takes
returns-clause-takes g c =
    let room = subst (λ (p : Progress). HasRoomFor c.args.self.now p) (sym c.self.view_is) c.in_ok-ready.ensures.room in
    took (event c.args.kind c.args.line 0 0) c.args.self.now.hand.view c.args.self.now _ room.waits room.may_put.below room.may_put.unrefused
    (room.waits.hand ∙ hand_still c.args.self.now.hand c.requires.puts.there)
    c.put.ensures.put
    (λ header records holds. subst (λ (r : Record). HoldsRecords header c.put.new.self (records ++ r ∷ [])) c.event-event.ensures (c.put.ensures.records header records holds))
