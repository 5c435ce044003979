use Rattle.std.proofs.Common.{ap, sym, ◌∙◌, subst, List, [], ◌∷◌, ◌++◌, ℤ, w64, to_z, of_z, rules, append_assoc}
use Rattle.std.proofs.lemmas.Result.{err_from_is_err_and}
use Rattle.std.proofs.lemmas.Int.{to_z-of_z}
use Rattle.kernel_syntax.specs.Program.{term_of, code_of}
use Rattle.kernel_model.specs.Drawing.{turn_from}
use Rattle.kernel_model.specs.Iterations.{total_of}
use Rattle.kernel_model.specs.Trace.{shared}
use Rattle.serial_run.specs.declared.frame.Frame.{Frame}
use Rattle.serial_run.specs.Going.{serial_progress}
use Rattle.serial_run.specs.Resting.{end_frames}
use Rattle.serial_run.specs.Stepping.{StepsInto, stand}
use Rattle.task_place.specs.declared.locals.Locals.{Locals}
use Rattle.serial_run.specs.declared.track.Track.{Track}
use Rattle.serial_run.proofs.Leading.{halts_goes}
use Rattle.serial_run.proofs.Loops.{for_part, for_from_stops, for_to_stops, for_steps}
use Rattle.serial_run.proofs.lane.SerialLane.share.Goals as goal

pub returns-in_err-first : goal.returns-in_err-first
returns-in_err-first c =
    let p = err_from_is_err_and c.from_residual.result c.from_residual.ensures.1 in
    let x = stand c.args.self.now c.args.memory.now in
    let mid = serial_progress c.value.new.self c.value.new.memory in
    let from = term_of c.args.from.now in let to = term_of c.args.to.now in let body = code_of c.args.body.now.stmts.items in
    λ layout line tells. rw (p.1, p.2)
    (halts_goes layout (for_part layout x.at x.slots c.args.slot from to c.args.schedule c.args.nowait line c.args.end body x.progress mid) x (record x { progress = mid }) c.in_err-first.field-0.0
    (for_from_stops layout x.at x.slots c.args.slot from to c.args.schedule c.args.nowait line c.args.end body x.progress mid c.in_err-first.field-0.0 (c.in_err-first.ensures layout tells)))

pub returns-in_err-last : goal.returns-in_err-last
returns-in_err-last c =
    let p = err_from_is_err_and c.from_residual-in_err-last.result c.from_residual-in_err-last.ensures.1 in
    let x = stand c.args.self.now c.args.memory.now in
    let mid = serial_progress c.value.new.self c.value.new.memory in
    let new = serial_progress c.value-2.new.self c.value-2.new.memory in
    let from = term_of c.args.from.now in let to = term_of c.args.to.now in let body = code_of c.args.body.now.stmts.items in
    λ layout line tells. rw (p.1, p.2)
    (halts_goes layout (for_part layout x.at x.slots c.args.slot from to c.args.schedule c.args.nowait line c.args.end body x.progress mid) x (record x { progress = new }) c.in_err-last.field-0.0
    (for_to_stops layout x.at x.slots c.args.slot from to c.args.schedule c.args.nowait line c.args.end body x.progress mid new c.in_ok-first.first (c.in_ok-first.ensures layout tells) c.in_err-last.field-0.0 (c.in_err-last.ensures layout tells)))

pub returns : goal.returns
returns c =
    let x = stand c.args.self.now c.args.memory.now in
    let mid = serial_progress c.value.new.self c.value.new.memory in
    let new = serial_progress c.value-2.new.self c.value-2.new.memory in
    let from = term_of c.args.from.now in let to = term_of c.args.to.now in let body = code_of c.args.body.now.stmts.items in
    let a = c.in_ok-first.first in let b = c.in_ok-last.last in
    let pushed = end_frames c.args.nowait c.args.end ++ c.in-Some.frame ∷ [] in
    λ layout line tells. record {
      at = c.close.ensures.place;
      end = c.close.ensures.end;
      pushed = pushed;
      rest = c.in_ok-push.ensures.items ∙ ap (λ (l : List Frame). l ++ c.in-Some.frame ∷ []) c.in_ok-close.ensures.rest ∙ append_assoc x.rest (end_frames c.args.nowait c.args.end) (c.in-Some.frame ∷ []);
      steps =
          subst (λ (t : Track). StepsInto layout x.at (for_part layout x.at x.slots c.args.slot from to c.args.schedule c.args.nowait line c.args.end body x.progress mid) x.slots c.close.new.self.locals.slots.items x.progress (serial_progress t c.value-2.new.memory) pushed [] []) (sym c.close.ensures.track)
          (subst (λ (l : Locals). StepsInto layout x.at (for_part layout x.at x.slots c.args.slot from to c.args.schedule c.args.nowait line c.args.end body x.progress mid) x.slots l.slots.items x.progress new pushed [] []) (sym c.close.ensures.locals)
          (for_steps layout x.at x.slots c.args.slot from to c.args.schedule c.args.nowait line c.args.end body x.progress mid new a (c.in_ok-first.ensures layout tells) b c.in-Some.frame
          (λ s. c.in-Some.ensures line s
          ∙ ap (λ (z : ℤ). shared c.args.schedule x.at line (total_of z (to_z w64 (of_z w64 b))) (turn_from x.at body c.args.slot z) s) (to_z-of_z w64 a (search rules))
          ∙ ap (λ (z : ℤ). shared c.args.schedule x.at line (total_of a z) (turn_from x.at body c.args.slot a) s) (to_z-of_z w64 b (search rules)))
          (c.in_ok-last.ensures layout tells)));
    }
