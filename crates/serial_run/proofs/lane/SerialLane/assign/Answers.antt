use Rattle.std.proofs.Common.{ap, ◌∙◌, ℤ, w64, rules}
use Rattle.std.specs.Prelude.{slice_set}
use Rattle.std.proofs.lemmas.Result.{err_from_is_err_and}
use Rattle.std.proofs.lemmas.Int.{to_z-of_z}
use Rattle.kernel_syntax.specs.Program.{term_of}
use Rattle.kernel_syntax.specs.Tree as tree
use Rattle.kernel_syntax.specs.Tree.{Done}
use Rattle.kernel_model.specs.Trace.{run}
use Rattle.serial_run.specs.Going.{serial_progress}
use Rattle.serial_run.specs.Stepping.{stand}
use Rattle.serial_run.proofs.Leading.{halts_goes, stepped_still}
use Rattle.serial_run.proofs.Statements.{set_stops, set_steps}
use Rattle.serial_run.proofs.lane.SerialLane.assign.Goals as goal

pub returns-in_err-number : goal.returns-in_err-number
returns-in_err-number c =
    let p = err_from_is_err_and c.from_residual.result c.from_residual.ensures.1 in
    let x = stand c.args.self.now c.args.memory.now in
    λ layout tells. rw (p.1, p.2)
    (halts_goes layout (run x.at (tree.Set c.args.slot (term_of c.args.value.now) Done)) x (record x { progress = serial_progress c.value.new.self c.value.new.memory }) c.in_err-number.field-0.0
    (set_stops layout x.at x.slots c.args.slot (term_of c.args.value.now) x.progress (serial_progress c.value.new.self c.value.new.memory) c.in_err-number.field-0.0 (c.in_err-number.ensures layout tells)))

pub returns : goal.returns
returns c =
    let x = stand c.args.self.now c.args.memory.now in
    λ layout tells. stepped_still x
    (set_steps layout x.at x.slots c.args.slot (term_of c.args.value.now) x.progress (serial_progress c.value.new.self c.value.new.memory) c.in_ok-number.number c.set.new.self.slots.items
    (c.set.ensures ∙ ap (λ (z : ℤ). slice_set x.slots c.args.slot z) (to_z-of_z w64 c.in_ok-number.number (search rules)))
    (c.in_ok-number.ensures layout tells))
