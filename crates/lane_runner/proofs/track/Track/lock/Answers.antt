use Rattle.std.proofs.Common.{refl, ℕ, ◌+◌, [], ap, sym, ◌∙◌, subst, ◌++◌, ◌∷◌}
use Rattle.log_format.specs.declared.record.Record.{Record}
use Rattle.log_format.specs.declared.record.Kind.TheVariants as kind
use Rattle.kernel_model.specs.State.{event}
use Rattle.event_buffer.specs.Logged.{HoldsRecords}
use Rattle.shared_words.specs.declared.view.View.{View}
use Rattle.shared_words.specs.Handles.{HandValue, with_view}
use Rattle.shared_words.specs.Views.{locked}
use Rattle.lane_runner.specs.Going.{Progress, HasRoomFor}
use Rattle.lane_runner.proofs.Putting.{took}
use Rattle.lane_runner.proofs.Sections.{can_taken}
use Rattle.lane_runner.proofs.track.Track.lock.Goals as goal

pub returns-clause-takes : goal.returns-clause-takes
returns-clause-takes g c =
    let room = subst (λ (p : Progress). HasRoomFor c.args.self.now p) (sym c.self.view_is) c.in_ok-ready.ensures.room in
    took (event kind.Lock c.args.line c.args.mutex 0) (locked c.args.self.now.hand.view c.args.mutex) c.args.self.now _ room.waits room.may_put.below room.may_put.unrefused
    (c.lock.ensures ∙ ap (λ (m : ℕ). with_view c.self.inside.hand (locked c.self.inside.hand.view m)) c.from.ensures ∙ ap (λ (h : HandValue View). with_view h (locked h.view c.args.mutex)) room.waits.hand)
    c.put.ensures.put
    (λ header records holds. subst (λ (r : Record). HoldsRecords header c.put.new.self (records ++ r ∷ [])) (c.event-event.ensures ∙ ap (λ (m : ℕ). event kind.Lock c.args.line m 0) c.from-2.ensures) (c.put.ensures.records header records holds))

pub returns-clause-can : goal.returns-clause-can
returns-clause-can g c = can_taken c.args.world.now (event kind.Lock c.args.line c.args.mutex 0) (locked c.args.self.now.hand.view c.args.mutex) c.args.self.now _ c.requires.can refl (returns-clause-takes g c)
