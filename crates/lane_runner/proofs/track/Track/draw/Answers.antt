use Rattle.std.proofs.Common.{◌≡◌, refl, ap, sym, ◌∙◌, subst, ℕ, ◌+◌, ◌<◌, ◌≤◌, min, true, [], ◌∷◌, ◌++◌, rules, arith}
use Rattle.std.proofs.lemmas.Result.{err_from_is_err_and}
use Rattle.log_format.specs.Limit.{record_limit}
use Rattle.log_format.specs.declared.record.Record.{Record}
use Rattle.log_format.specs.declared.record.Kind.TheVariants as kind
use Rattle.kernel_model.specs.State.{event}
use Rattle.kernel_model.specs.Trace.{draw}
use Rattle.kernel_model.specs.Effect.{Returned}
use Rattle.kernel_model.proofs.Effects.{makes-draw_full}
use Rattle.event_buffer.specs.Buffered.{Buffered}
use Rattle.event_buffer.specs.Logged.{HoldsRecords}
use Rattle.shared_words.specs.Draws.{drew}
use Rattle.lane_runner.specs.declared.stop.Halt.TheVariants as halt
use Rattle.lane_runner.specs.Drawing.{Tally}
use Rattle.lane_runner.specs.Going.{Progress, HasRoomFor, Made}
use Rattle.lane_runner.proofs.Stepping.{goes_unready}
use Rattle.lane_runner.proofs.Drawn.{draw_grows, draw_made, same_hand}
use Rattle.lane_runner.specs.Handed.{entries_of, log_place}
use Rattle.lane_runner.proofs.track.Track.draw.Goals as goal

pub returns-in_err-ready-clause-goes : goal.returns-in_err-ready-clause-goes
returns-in_err-ready-clause-goes g c =
    let p = err_from_is_err_and c.from_residual.result c.from_residual.ensures.1 in
    λ slots. rw (p.1, p.2)
    (goes_unready c.args.world.now (draw c.args.line c.args.chunks) slots c.args.line (draw_grows c.args.line c.args.chunks)
    (makes-draw_full c.args.line c.args.chunks slots) c.args.self.now c.ready.new.self (halt.Own c.in_err-ready.field-0.0) c.requires.can c.in_err-ready.ensures.room)

pub loop_after-self-inside-requires : goal.loop_after-self-inside-requires
loop_after-self-inside-requires g c =
    let room = subst (λ (p : Progress). HasRoomFor c.args.self.now p) (sym c.self.view_is) c.in_ok-ready.ensures.room in
    let same : c.self.inside.next_loop ≡ c.args.self.now.tally.next_loop = ap (λ (t : Tally). t.next_loop) room.waits.tally in
    let small = c.requires.counter.number in
    omega (arith, same, small)

pub returns-clause-goes : goal.returns-clause-goes
returns-clause-goes g c =
    let mid : Progress = record { hand = c.self.inside.hand; buffer = c.self.inside.buffer; tally = record { draws = c.self.inside.draws; next_loop = c.self.inside.next_loop; forked = c.self.inside.forked }; done = entries_of g.L.Log c.self.inside.done.items } in
    let new : Progress = record { hand = c.self.inside.hand; buffer = c.put.new.self; tally = record { draws = c.draw-number.new.hand; next_loop = c.loop_after-self-inside.result; forked = c.self.inside.forked }; done = entries_of g.L.Log c.self.inside.done.items } in
    let number : ℕ = c.draw-number.result in
    let room = subst (λ (p : Progress). HasRoomFor c.args.self.now p) (sym c.self.view_is) c.in_ok-ready.ensures.room in
    let least : c.min-drawn.result ≡ min number c.args.chunks = search rules in
    let there : c.self.inside.draws.there ≡ true = ap (λ (t : Tally). t.draws.there) room.waits.tally ∙ c.requires.can.drawing.there in
    λ slots. subst (λ (q : ℕ). Made c.args.world.now (draw c.args.line c.args.chunks) slots slots c.args.self.now new (Returned q)) (sym least)
    (draw_made c.args.world.now c.args.line c.args.chunks number c.requires.line c.args.self.now mid new c.requires.can.belongs.there room refl
    (c.draw-number.ensures.drawn ∙ same_hand c.self.inside.draws (drew c.self.inside.draws.view c.self.inside.next_loop number) there)
    (λ less. c.loop_after-self-inside.ensures.open (subst (λ (k : ℕ). k < c.args.chunks) (sym least) less))
    (λ past. c.loop_after-self-inside.ensures.closed (subst (λ (k : ℕ). c.args.chunks ≤ k) (sym least) past))
    refl refl (ap (λ (b : Buffered). b.refused) c.put.ensures.put ∙ room.may_put.unrefused)
    (record {
      records = λ header records holds. subst (λ (r : Record). HoldsRecords header c.put.new.self (records ++ r ∷ [])) (c.event-event.ensures ∙ ap (λ (k : ℕ). event kind.Chunk c.args.line k c.args.chunks) least) (c.put.ensures.records header records holds);
      count = ap (λ (b : Buffered). b.count) c.put.ensures.put;
      path = ap (λ (b : Buffered). b.path) c.put.ensures.put;
      place = ap log_place c.put.ensures.put;
    }) slots)

pub returns-clause-open : goal.returns-clause-open
returns-clause-open g c =
    let room = subst (λ (p : Progress). HasRoomFor c.args.self.now p) (sym c.self.view_is) c.in_ok-ready.ensures.room in
    λ less. c.loop_after-self-inside.ensures.open less ∙ ap (λ (t : Tally). t.next_loop) room.waits.tally

pub returns-clause-closed : goal.returns-clause-closed
returns-clause-closed g c =
    let room = subst (λ (p : Progress). HasRoomFor c.args.self.now p) (sym c.self.view_is) c.in_ok-ready.ensures.room in
    λ past. c.loop_after-self-inside.ensures.closed past ∙ ap (λ (t : Tally). t.next_loop + 1) room.waits.tally

pub returns-clause-below : goal.returns-clause-below
returns-clause-below g c =
    let room = subst (λ (p : Progress). HasRoomFor c.args.self.now p) (sym c.self.view_is) c.in_ok-ready.ensures.room in
    subst (λ (n : ℕ). n < record_limit) room.waits.count room.may_put.below

pub returns-clause-count : goal.returns-clause-count
returns-clause-count g c =
    let room = subst (λ (p : Progress). HasRoomFor c.args.self.now p) (sym c.self.view_is) c.in_ok-ready.ensures.room in
    ap (λ (b : Buffered). b.count) c.put.ensures.put ∙ ap (λ (n : ℕ). n + 1) room.waits.count
