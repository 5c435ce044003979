use Rattle.std.proofs.Common.{◌≡◌, refl, ◌<◌, ◌^◌, ap, sym, ◌∙◌, subst, ℕ, ℤ, [], ◌∷◌, ◌++◌, w64, rules}
use Rattle.std.specs.Int.{cast_signed}
use Rattle.std.proofs.lemmas.Result.{err_from_is_err_and}
use Rattle.std.proofs.lemmas.Int.{to_z-of_z}
use Rattle.log_format.specs.declared.record.Record.{Record}
use Rattle.event_buffer.specs.Buffered.{Buffered}
use Rattle.event_buffer.specs.Logged.{HoldsRecords}
use Rattle.log_format.specs.Fitting.{fitted}
use Rattle.kernel_model.specs.State.{to_bits}
use Rattle.kernel_model.specs.Value.{read}
use Rattle.kernel_model.specs.Effect.{Returned}
use Rattle.kernel_model.proofs.Effects.{makes-read_full}
use Rattle.task_place.specs.Placing.{meant}
use Rattle.lane_runner.specs.declared.stop.Halt.TheVariants as halt
use Rattle.lane_runner.specs.Going.{Progress, Made, HasRoomFor}
use Rattle.lane_runner.proofs.Stepping.{goes_unready}
use Rattle.lane_runner.proofs.Accesses.{read_grows, read_event, read_made}
use Rattle.lane_runner.specs.Handed.{entries_of, log_place}
use Rattle.lane_runner.proofs.track.Track.read.Goals as goal

pub returns-in_err-ready-clause-goes : goal.returns-in_err-ready-clause-goes
returns-in_err-ready-clause-goes g c =
    let p = err_from_is_err_and c.from_residual.result c.from_residual.ensures.1 in
    λ slots. rw (p.1, p.2)
    (goes_unready c.args.world.now (read (meant c.args.element.now) c.args.site c.args.line) slots c.args.line (read_grows (meant c.args.element.now) c.args.site c.args.line)
    (makes-read_full (meant c.args.element.now) c.args.site c.args.line slots) c.args.self.now c.ready.new.self (halt.Own c.in_err-ready.field-0.0) c.requires.can c.in_err-ready.ensures.room)

pub returns-clause-goes : goal.returns-clause-goes
returns-clause-goes g c =
    let mid : Progress = record { hand = c.self.inside.hand; buffer = c.self.inside.buffer; tally = record { draws = c.self.inside.draws; next_loop = c.self.inside.next_loop; forked = c.self.inside.forked }; done = entries_of g.L.Log c.self.inside.done.items } in
    let new : Progress = record { hand = c.load-bits.new.hand; buffer = c.put.new.self; tally = record { draws = c.self.inside.draws; next_loop = c.self.inside.next_loop; forked = c.self.inside.forked }; done = entries_of g.L.Log c.self.inside.done.items } in
    let bits : ℕ = c.load-bits.result in
    let below : bits < 2 ^ 64 = search rules in
    let room = subst (λ (p : Progress). HasRoomFor c.args.self.now p) (sym c.self.view_is) c.in_ok-ready.ensures.room in
    let width = c.args.element.now.width in
    let value : cast_signed w64 (to_bits c.fit-found.result) ≡ fitted (cast_signed w64 bits) width =
    to_z-of_z w64 c.fit-found.result (search rules) ∙ c.fit-found.ensures ∙ ap (λ (z : ℤ). fitted z width) (to_z-of_z w64 c.cast_signed.result (search rules) ∙ c.cast_signed.ensures) in
    let told = c.access-event.ensures ∙ ap (λ (b : ℕ). read_event c.args.world.now c.args.element.now c.requires.stands c.args.line c.args.site bits c.requires.line below c.args.self.now mid new room
    (ap (λ (b : Buffered). b.refused) c.put.ensures.put ∙ room.may_put.unrefused) refl refl b) (ap (λ (z : ℤ). to_bits z) value) in
    λ slots. subst (λ (v : ℤ). Made c.args.world.now (read (meant c.args.element.now) c.args.site c.args.line) slots slots c.args.self.now new (Returned v)) (sym value)
    (read_made c.args.world.now c.args.element.now c.requires.stands c.args.line c.args.site bits c.requires.line below c.args.self.now mid new room
    (ap (λ (b : Buffered). b.refused) c.put.ensures.put ∙ room.may_put.unrefused) refl refl slots c.load-bits.ensures
    (record {
      records = λ header records holds. subst (λ (r : Record). HoldsRecords header c.put.new.self (records ++ r ∷ [])) told (c.put.ensures.records header records holds);
      count = ap (λ (b : Buffered). b.count) c.put.ensures.put;
      path = ap (λ (b : Buffered). b.path) c.put.ensures.put;
      place = ap log_place c.put.ensures.put;
    }))
