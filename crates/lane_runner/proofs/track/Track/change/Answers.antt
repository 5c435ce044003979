use Rattle.std.proofs.Common.{refl, ap, sym, ◌∙◌, subst, ℕ, [], ◌∷◌, ◌++◌, ℤ, w64, to_z, of_z, rules}
use Rattle.std.proofs.lemmas.Result.{err_from_is_err_and}
use Rattle.std.proofs.lemmas.Int.{to_z-of_z}
use Rattle.log_format.specs.declared.record.Record.{Record}
use Rattle.log_format.specs.declared.record.Kind.{Kind}
use Rattle.event_buffer.specs.Buffered.{Buffered}
use Rattle.event_buffer.specs.Logged.{HoldsRecords}
use Rattle.kernel_model.specs.State.{State, put, to_bits}
use Rattle.kernel_model.specs.Value as model
use Rattle.kernel_model.specs.Changing.{kind_of}
use Rattle.kernel_model.proofs.Changing.{put_grows}
use Rattle.kernel_model.proofs.Effects.{makes-put_full}
use Rattle.task_place.specs.Placing.{meant}
use Rattle.lane_runner.specs.declared.stop.Halt.TheVariants as halt
use Rattle.lane_runner.specs.Going.{Progress, HasRoomFor}
use Rattle.lane_runner.proofs.Stepping.{goes_unready}
use Rattle.lane_runner.proofs.Accesses.{change_made}
use Rattle.lane_runner.specs.Handed.{entries_of, log_place}
use Rattle.lane_runner.proofs.track.Track.change.Goals as goal

pub returns-in_err-ready-clause-goes : goal.returns-in_err-ready-clause-goes
returns-in_err-ready-clause-goes g c =
    let p = err_from_is_err_and c.from_residual.result c.from_residual.ensures.1 in
    let event = model.access (kind_of c.args.change) (meant c.args.element.now) c.args.site c.args.line c.args.value in
    λ slots. rw (p.1, p.2)
    (goes_unready c.args.world.now (put event) slots c.args.line (λ (s : State). put_grows c.args.change event s refl)
    (makes-put_full event slots) c.args.self.now c.ready.new.self (halt.Own c.in_err-ready.field-0.0) c.requires.can c.in_err-ready.ensures.room)

pub returns-clause-goes : goal.returns-clause-goes
returns-clause-goes g c =
    let mid : Progress = record { hand = c.self.inside.hand; buffer = c.self.inside.buffer; tally = record { draws = c.self.inside.draws; next_loop = c.self.inside.next_loop; forked = c.self.inside.forked }; done = entries_of g.L.Log c.self.inside.done.items } in
    let new : Progress = record { hand = c.take_step.new.hand; buffer = c.put.new.self; tally = record { draws = c.self.inside.draws; next_loop = c.self.inside.next_loop; forked = c.self.inside.forked }; done = entries_of g.L.Log c.self.inside.done.items } in
    let bits : ℕ = c.cast_unsigned-bits.result in
    let room = subst (λ (p : Progress). HasRoomFor c.args.self.now p) (sym c.self.view_is) c.in_ok-ready.ensures.room in
    λ slots.
    change_made c.args.world.now c.args.element.now c.requires.stands c.args.line c.args.site bits c.requires.line (search rules) c.args.self.now mid new room
    (ap (λ (b : Buffered). b.refused) c.put.ensures.put ∙ room.may_put.unrefused) refl refl slots c.args.value (ap (λ (z : ℤ). to_bits z) (sym (to_z-of_z w64 c.args.value c.ranges.value)) ∙ sym c.cast_unsigned-bits.ensures) c.ranges.value c.requires.fits c.args.change c.take_step.ensures
    (record {
      records = λ header records holds. subst (λ (r : Record). HoldsRecords header c.put.new.self (records ++ r ∷ [])) (c.access-event.ensures ∙ ap (λ (k : Kind). model.access k (meant c.args.element.now) c.args.site c.args.line (to_z w64 (of_z w64 c.args.value))) c.kind.ensures
          ∙ ap (λ (b : ℕ). record { kind = kind_of c.args.change; size = c.args.element.now.width; site = c.args.site; line = c.args.line; addr = c.args.element.now.addr; value = b }) (sym c.cast_unsigned-bits.ensures)) (c.put.ensures.records header records holds);
      count = ap (λ (b : Buffered). b.count) c.put.ensures.put;
      path = ap (λ (b : Buffered). b.path) c.put.ensures.put;
      place = ap log_place c.put.ensures.put;
    })
