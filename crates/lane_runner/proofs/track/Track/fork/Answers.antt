use Rattle.std.proofs.Common.{◌≡◌, ℕ, ◌+◌, ◌<◌, ◌≤◌, List, [], length, None, rules, ap, sym, ◌∙◌, subst, ◌++◌, ◌∷◌}
use Rattle.log_format.specs.Limit.{record_limit}
use Rattle.log_format.specs.declared.record.Record.{Record}
use Rattle.log_format.specs.declared.record.Kind.TheVariants as kind
use Rattle.kernel_model.specs.State.{event}
use Rattle.event_buffer.specs.Buffered.{Buffered, MayPut, IsStill}
use Rattle.event_buffer.specs.Logged.{HoldsRecords}
use Rattle.lane_runner.specs.Going.{Progress, HasRoomFor, Waits}
use Rattle.lane_runner.proofs.Handing.{same_place}
use Rattle.lane_runner.proofs.Putting.{took}
use Rattle.lane_runner.proofs.Working.{hand_still}
use Rattle.lane_runner.specs.Handed.{entries_of}
use Rattle.lane_runner.proofs.track.Track.fork.Goals as goal

module _ (old mid : Progress) (new : Buffered) (room : HasRoomFor old mid) (still : IsStill mid.buffer new) where
  may_still : new.waiting ≡ mid.buffer.waiting → new.refused ≡ None → MayPut new
  may_still waiting unrefused = record {
    unrefused = unrefused;
    below = subst (λ (n : ℕ). n < record_limit) (sym still.count) room.may_put.below;
    room =
        subst (λ (w : List ℕ). length w + 24 ≤ new.size) (sym waiting)
        (subst (λ (n : ℕ). length mid.buffer.waiting + 24 ≤ n) (sym still.size) room.may_put.room);
  }

  still_waits : ((header : List ℕ) (records : List Record) → HoldsRecords header mid.buffer records → HoldsRecords header new records) → Waits old (record mid { buffer = new })
  still_waits records = record {
    hand = room.waits.hand;
    records = λ header rs holds. records header rs (room.waits.records header rs holds);
    count = still.count ∙ room.waits.count;
    path = still.path ∙ room.waits.path;
    place = same_place mid.buffer new still ∙ room.waits.place;
    tally = room.waits.tally;
    done = room.waits.done;
  }

pub put-requires : goal.put-requires
put-requires g c =
    let room = subst (λ (p : Progress). HasRoomFor c.args.self.now p) (sym c.self.view_is) c.in_ok-ready.ensures.room in
    (search rules, (search rules, may_still c.args.self.now (record { hand = c.self.inside.hand; buffer = c.self.inside.buffer; tally = record { draws = c.self.inside.draws; next_loop = c.self.inside.next_loop; forked = c.self.inside.forked }; done = entries_of g.L.Log c.self.inside.done.items }) c.children.new.buffer room c.children.ensures.still c.children.ensures.waiting c.in-Ok.ensures.unrefused))

pub returns-in-Err-clause-takes : goal.returns-in-Err-clause-takes
returns-in-Err-clause-takes g c =
    let room = subst (λ (p : Progress). HasRoomFor c.args.self.now p) (sym c.self.view_is) c.in_ok-ready.ensures.room in (
      still_waits c.args.self.now (record { hand = c.self.inside.hand; buffer = c.self.inside.buffer; tally = record { draws = c.self.inside.draws; next_loop = c.self.inside.next_loop; forked = c.self.inside.forked }; done = entries_of g.L.Log c.self.inside.done.items }) c.children.new.buffer room c.children.ensures.still c.children.ensures.records,
      record { refused = c.in-Err.ensures.refused },
    )

pub returns-clause-takes : goal.returns-clause-takes
returns-clause-takes g c =
    let room = subst (λ (p : Progress). HasRoomFor c.args.self.now p) (sym c.self.view_is) c.in_ok-ready.ensures.room in
    let waits = still_waits c.args.self.now (record { hand = c.self.inside.hand; buffer = c.self.inside.buffer; tally = record { draws = c.self.inside.draws; next_loop = c.self.inside.next_loop; forked = c.self.inside.forked }; done = entries_of g.L.Log c.self.inside.done.items }) c.children.new.buffer room c.children.ensures.still c.children.ensures.records in
    took (event kind.Region c.args.line 0 c.args.span) c.args.self.now.hand.view c.args.self.now _ waits (subst (λ (n : ℕ). n < record_limit) (sym c.children.ensures.still.count) room.may_put.below) c.in-Ok.ensures.unrefused
    (room.waits.hand ∙ hand_still c.args.self.now.hand c.requires.puts.there)
    c.put.ensures.put
    (λ header records holds. subst (λ (r : Record). HoldsRecords header c.put.new.self (records ++ r ∷ [])) (c.event-event.ensures ∙ ap (λ (n : ℕ). event kind.Region c.args.line 0 n) c.from.ensures) (c.put.ensures.records header records holds))
