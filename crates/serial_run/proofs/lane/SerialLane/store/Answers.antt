use Rattle.std.proofs.Common.{ap, sym, ◌∙◌, subst, ℤ, Ok, Err, w64, rules}
use Rattle.std.proofs.lemmas.Result.{err_from_is_err_and}
use Rattle.std.proofs.lemmas.Int.{to_z-of_z}
use Rattle.log_format.specs.declared.record.Kind.TheVariants as kind
use Rattle.log_format.specs.Fitting.{fitted}
use Rattle.kernel_syntax.specs.Program.{term_of}
use Rattle.kernel_model.specs.State.{put}
use Rattle.kernel_model.specs.Value.{element_at, access}
use Rattle.kernel_model.specs.declared.stop.StopWhy.TheVariants as reason
use Rattle.serial_run.specs.declared.halt.Halt.TheVariants as halt
use Rattle.serial_run.specs.Going.{serial_progress, RunsPart}
use Rattle.task_place.specs.Placing.{meant}
use Rattle.serial_run.specs.Stepping.{stand}
use Rattle.serial_run.proofs.Elements.{stands_at}
use Rattle.serial_run.proofs.Leading.{halts_goes, steps_made, stepped_still}
use Rattle.serial_run.proofs.Statements.{store, index_stops, value_stops, stores_none, stores_some}
use Rattle.serial_run.proofs.lane.SerialLane.store.Goals as goal

pub returns-in_err-at : goal.returns-in_err-at
returns-in_err-at c =
    let p = err_from_is_err_and c.from_residual.result c.from_residual.ensures.1 in
    let x = stand c.args.self.now c.args.memory.now in
    let mid = serial_progress c.value.new.self c.value.new.memory in
    λ layout tells. rw (p.1, p.2)
    (halts_goes layout (store layout x.at x.slots c.args.array (term_of c.args.index.now) (term_of c.args.value.now) c.args.line c.args.site x.progress) x (record x { progress = mid }) c.in_err-at.field-0.0
    (index_stops layout x.at x.slots c.args.array (term_of c.args.index.now) (term_of c.args.value.now) c.args.line c.args.site x.progress mid c.in_err-at.field-0.0 (c.in_err-at.ensures layout tells)))

pub returns-in_err-number : goal.returns-in_err-number
returns-in_err-number c =
    let p = err_from_is_err_and c.from_residual-in_err-number.result c.from_residual-in_err-number.ensures.1 in
    let x = stand c.args.self.now c.args.memory.now in
    let mid = serial_progress c.value.new.self c.value.new.memory in
    let new = serial_progress c.value-2.new.self c.value-2.new.memory in
    λ layout tells. rw (p.1, p.2)
    (halts_goes layout (store layout x.at x.slots c.args.array (term_of c.args.index.now) (term_of c.args.value.now) c.args.line c.args.site x.progress) x (record x { progress = new }) c.in_err-number.field-0.0
    (value_stops layout x.at x.slots c.args.array (term_of c.args.index.now) (term_of c.args.value.now) c.args.line c.args.site x.progress mid new c.in_ok-at.at (c.in_ok-at.ensures layout tells) c.in_err-number.field-0.0 (c.in_err-number.ensures layout tells)))

pub returns-in_default : goal.returns-in_default
returns-in_default c =
    let x = stand c.args.self.now c.args.memory.now in
    let mid = serial_progress c.value.new.self c.value.new.memory in
    let new = serial_progress c.value-2.new.self c.value-2.new.memory in
    λ layout tells.
    halts_goes layout (store layout x.at x.slots c.args.array (term_of c.args.index.now) (term_of c.args.value.now) c.args.line c.args.site x.progress) x (record x { progress = new }) (halt.Stops reason.Index c.args.line)
    (stores_none layout x.at x.slots c.args.array (term_of c.args.index.now) (term_of c.args.value.now) c.args.line c.args.site x.progress mid new c.in_ok-at.at (c.in_ok-at.ensures layout tells) c.in_ok-number.number (c.in_ok-number.ensures layout tells)
    (ap (λ (z : ℤ). element_at x.at.arrays c.args.array z) (sym (to_z-of_z w64 c.in_ok-at.at (search rules))) ∙ c.in_default.ensures))

pub returns-in_err-store : goal.returns-in_err-store
returns-in_err-store c =
    let p = err_from_is_err_and c.from_residual-in_err-store.result c.from_residual-in_err-store.ensures.1 in
    let x = stand c.args.self.now c.args.memory.now in
    let mid = serial_progress c.value.new.self c.value.new.memory in
    let new = serial_progress c.value-2.new.self c.value-2.new.memory in
    let last = serial_progress c.store.new.self c.store.new.memory in
    let e = c.in-Some.element in
    λ layout tells. rw (p.1, p.2)
    (halts_goes layout (store layout x.at x.slots c.args.array (term_of c.args.index.now) (term_of c.args.value.now) c.args.line c.args.site x.progress) x (record x { progress = last }) c.in_err-store.field-0.0
    (stores_some layout x.at x.slots c.args.array (term_of c.args.index.now) (term_of c.args.value.now) c.args.line c.args.site x.progress mid new c.in_ok-at.at (c.in_ok-at.ensures layout tells) c.in_ok-number.number (c.in_ok-number.ensures layout tells)
    e last (Err c.in_err-store.field-0.0) (ap (λ (z : ℤ). element_at x.at.arrays c.args.array z) (sym (to_z-of_z w64 c.in_ok-at.at (search rules))) ∙ c.in-Some.ensures.is)
    (subst (λ (z : ℤ). RunsPart layout (put (access kind.Write (meant e) c.args.site c.args.line (fitted z e.width))) x.slots x.slots new last (Err c.in_err-store.field-0.0)) (to_z-of_z w64 c.in_ok-number.number (search rules))
    (c.in_err-store.ensures layout x.slots (stands_at c.in-Some.ensures layout tells)))))

pub returns : goal.returns
returns c =
    let x = stand c.args.self.now c.args.memory.now in
    let mid = serial_progress c.value.new.self c.value.new.memory in
    let new = serial_progress c.value-2.new.self c.value-2.new.memory in
    let last = serial_progress c.store.new.self c.store.new.memory in
    let e = c.in-Some.element in
    λ layout tells. stepped_still x
    (steps_made layout x.at (store layout x.at x.slots c.args.array (term_of c.args.index.now) (term_of c.args.value.now) c.args.line c.args.site x.progress) x.slots x.slots x.progress last
    (stores_some layout x.at x.slots c.args.array (term_of c.args.index.now) (term_of c.args.value.now) c.args.line c.args.site x.progress mid new c.in_ok-at.at (c.in_ok-at.ensures layout tells) c.in_ok-number.number (c.in_ok-number.ensures layout tells)
    e last (Ok tt) (ap (λ (z : ℤ). element_at x.at.arrays c.args.array z) (sym (to_z-of_z w64 c.in_ok-at.at (search rules))) ∙ c.in-Some.ensures.is)
    (subst (λ (z : ℤ). RunsPart layout (put (access kind.Write (meant e) c.args.site c.args.line (fitted z e.width))) x.slots x.slots new last (Ok tt)) (to_z-of_z w64 c.in_ok-number.number (search rules))
    (c.in_ok-store.ensures layout x.slots (stands_at c.in-Some.ensures layout tells)))))
