use Rattle.std.proofs.Common.{◌≡◌, ap, sym, ◌∙◌, subst, ℕ, List, ℤ, w64, to_z, of_z, rules}
use Rattle.std.specs.Prelude.{slice_set}
use Rattle.std.proofs.lemmas.Result.{err_from_is_err_and}
use Rattle.std.proofs.lemmas.Int.{to_z-of_z}
use Rattle.log_format.specs.declared.record.Record.{Record}
use Rattle.log_format.specs.declared.record.Kind.TheVariants as kind
use Rattle.log_format.specs.Fitting.{fitted}
use Rattle.kernel_model.specs.State.{put, to_bits}
use Rattle.kernel_model.specs.Value.{access}
use Rattle.kernel_model.specs.Effect.{Returned}
use Rattle.kernel_model.proofs.Effects.{makes-put_full}
use Rattle.serial_run.specs.Going.{SerialProgress, serial_progress, RanPart, LogsRecord}
use Rattle.task_place.specs.Placing.{meant}
use Rattle.serial_run.proofs.Stepping.{goes_full, store_made}
use Rattle.serial_run.proofs.track.Track.store.Goals as goal

pub returns-in_err-make_room : goal.returns-in_err-make_room
returns-in_err-make_room c =
    let p = err_from_is_err_and c.from_residual.result c.from_residual.ensures.1 in
    let due = access kind.Write (meant c.args.element.now) c.args.site c.args.line (fitted c.args.value c.args.element.now.width) in
    λ layout slots stands. rw (p.1, p.2)
    (goes_full layout (put due) slots (serial_progress c.args.self.now c.args.memory.now) c.args.line (makes-put_full due slots) c.in_err-make_room.field-0.0 c.in_err-make_room.ensures)

pub returns : goal.returns
returns c =
    let e = c.args.element.now in
    let v = fitted c.args.value e.width in
    let old : SerialProgress = serial_progress c.args.self.now c.args.memory.now in
    let mid : SerialProgress = serial_progress c.spell.new.self c.spell.new.memory in
    let value_is : to_z w64 (of_z w64 c.fit-fitted.result) ≡ fitted c.args.value e.width =
    to_z-of_z w64 c.fit-fitted.result (search rules) ∙ c.fit-fitted.ensures ∙ ap (λ (z : ℤ). fitted z e.width) (to_z-of_z w64 c.args.value c.ranges.value) in
    let due : c.access-due.result ≡ access kind.Write (meant e) c.args.site c.args.line (fitted c.args.value e.width) =
    c.access-due.ensures ∙ ap (λ (z : ℤ). access kind.Write (meant e) c.args.site c.args.line z) value_is in
    let logs = subst (λ (r : Record). LogsRecord r old mid) due c.in_ok-spell.ensures.logs in
    let after : c.store.new.self.words.items ≡ slice_set old.words e.word (to_bits (fitted c.args.value e.width)) =
    c.store.ensures.words ∙ ap (λ (b : ℕ). slice_set mid.words e.word b) (c.cast_unsigned.ensures ∙ ap (λ (z : ℤ). to_bits z) value_is)
    ∙ ap (λ (l : List ℕ). slice_set l e.word (to_bits (fitted c.args.value e.width))) logs.words in
    λ layout slots stands.
    subst (λ (n : ℕ). RanPart layout (put (access kind.Write (meant e) c.args.site c.args.line (fitted c.args.value e.width))) slots slots old
    (record { log = mid.log; count = mid.count; words = c.store.new.self.words.items; left = n }) (Returned tt)) (sym c.store.ensures.left)
    (store_made layout slots old mid c.in_ok-make_room.ensures e c.requires stands c.args.line c.args.site c.args.value c.store.new.self.words.items after logs)
