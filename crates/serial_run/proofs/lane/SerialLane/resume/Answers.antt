use Rattle.std.proofs.Common.{sym, subst, ℕ, [], Err, Ok, Option, Some, None}
use Rattle.std.proofs.lemmas.Result.{err_from_is_err_and}
use Rattle.kernel_model.specs.Value.{Site}
use Rattle.serial_run.specs.declared.frame.Pause.{Pause}
use Rattle.serial_run.specs.Placing.{ElementLayout, TellsWords}
use Rattle.serial_run.specs.Stepping.{Stand, Advances, AdvancesTo, stand}
use Rattle.serial_run.proofs.Advancing.{advances_none, pauses_then}
use Rattle.serial_run.proofs.lane.SerialLane.resume.Goals as goal

still_tells : (layout : ElementLayout) (old mid : Stand) → Advances layout old mid [] [] → TellsWords old.at.arrays layout → TellsWords mid.at.arrays layout
still_tells layout old mid one tells = subst (λ (at : Site). TellsWords at.arrays layout) (sym one.at) tells

pub steps-init : goal.steps-init
steps-init c = record { advances = λ layout tells. advances_none layout (stand c.args.self.now c.args.memory.now) }

pub returns-in_err-pause : goal.returns-in_err-pause
returns-in_err-pause c =
    let p = err_from_is_err_and c.from_residual.result c.from_residual.ensures.1 in
    let old = stand c.args.self.now c.args.memory.now in
    let mid = stand c.steps.self c.steps.memory in
    λ layout tells. rw (p.1, p.2)
    (let one = c.steps.invariant.advances layout tells in
    pauses_then layout old mid (stand c.step.new.self c.step.new.memory) (Err c.in_err-pause.field-0.0) one (c.in_err-pause.ensures layout (still_tells layout old mid one tells)))

pub returns-in-Some : goal.returns-in-Some
returns-in-Some c =
    let old = stand c.args.self.now c.args.memory.now in
    let mid = stand c.steps.self c.steps.memory in
    let new = stand c.step.new.self c.step.new.memory in
    λ layout tells.
    let one = c.steps.invariant.advances layout tells in
    pauses_then layout old mid new (Ok (Some c.in-Some.pause)) one (subst (λ (o : Option Pause). AdvancesTo layout mid new o) c.in-Some.is (c.in_ok-pause.ensures layout (still_tells layout old mid one tells)))

pub steps-preserved : goal.steps-preserved
steps-preserved c =
    let old = stand c.args.self.now c.args.memory.now in
    let mid = stand c.steps.self c.steps.memory in
    let new = stand c.step.new.self c.step.new.memory in
    record {
      advances = λ layout tells.
          let one = c.steps.invariant.advances layout tells in
          pauses_then layout old mid new (Ok None) one (subst (λ (o : Option Pause). AdvancesTo layout mid new o) c.in_default.is (c.in_ok-pause.ensures layout (still_tells layout old mid one tells)));
    }
