use Rattle.std.proofs.Common.{◌≡◌, ap, sym, ◌∙◌, subst, ℤ, w64, to_z, of_z, rules}
use Rattle.std.proofs.lemmas.Result.{err_from_is_err_and}
use Rattle.std.proofs.lemmas.Int.{to_z-of_z}
use Rattle.log_format.specs.declared.record.Record.{Record}
use Rattle.log_format.specs.declared.record.Kind.TheVariants as kind
use Rattle.log_format.specs.Fitting.{fitted}
use Rattle.kernel_model.specs.State.{from_bits}
use Rattle.kernel_model.specs.Value.{access, read}
use Rattle.kernel_model.specs.Effect.{Returned}
use Rattle.kernel_model.proofs.Effects.{makes-read_full}
use Rattle.serial_run.specs.Going.{SerialProgress, serial_progress, RanPart, LogsRecord}
use Rattle.task_place.specs.Placing.{meant}
use Rattle.serial_run.proofs.Stepping.{goes_full, read_made}
use Rattle.serial_run.proofs.track.Track.read.Goals as goal

pub returns-in_err-make_room : goal.returns-in_err-make_room
returns-in_err-make_room c =
    let p = err_from_is_err_and c.from_residual.result c.from_residual.ensures.1 in
    λ layout slots stands. rw (p.1, p.2)
    (goes_full layout (read (meant c.args.element.now) c.args.site c.args.line) slots (serial_progress c.args.self.now c.args.memory.now) c.args.line
    (makes-read_full (meant c.args.element.now) c.args.site c.args.line slots) c.in_err-make_room.field-0.0 c.in_err-make_room.ensures)

pub returns : goal.returns
returns c =
    let e = c.args.element.now in
    let old : SerialProgress = serial_progress c.args.self.now c.args.memory.now in
    let new : SerialProgress = serial_progress c.spell.new.self c.spell.new.memory in
    let value_is : to_z w64 (of_z w64 c.fit-value.result) ≡ fitted (from_bits c.load-bits.result) e.width =
    to_z-of_z w64 c.fit-value.result (search rules) ∙ c.fit-value.ensures ∙ ap (λ (z : ℤ). fitted z e.width) (to_z-of_z w64 c.cast_signed.result (search rules) ∙ c.cast_signed.ensures) in
    let due : c.access-due.result ≡ access kind.Read (meant e) c.args.site c.args.line (fitted (from_bits c.load-bits.result) e.width) =
    c.access-due.ensures ∙ ap (λ (z : ℤ). access kind.Read (meant e) c.args.site c.args.line z) value_is in
    λ layout slots stands.
    subst (λ (z : ℤ). RanPart layout (read (meant e) c.args.site c.args.line) slots slots old new (Returned z)) (sym value_is)
    (read_made layout slots old new c.in_ok-make_room.ensures e c.requires stands c.args.line c.args.site c.load-bits.result (search rules) c.load-bits.ensures
    (subst (λ (r : Record). LogsRecord r old new) due c.in_ok-spell.ensures.logs))
