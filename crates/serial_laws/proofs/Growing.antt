-- What is left of a task only adds records and regions.
use Rattle.std.proofs.Common.{refl, ℕ, List, [], ◌∷◌, ℤ}
use Rattle.log_format.specs.declared.record.Kind.TheVariants as kind
use Rattle.kernel_syntax.specs.Program.{code_of}
use Rattle.kernel_syntax.specs.Tree.{Code}
use Rattle.kernel_model.specs.Drawing.{turn_from}
use Rattle.kernel_model.specs.Growth.{Grows}
use Rattle.kernel_model.specs.Iterations.{total_of}
use Rattle.kernel_model.specs.State.{State, after, event, put, state_of}
use Rattle.kernel_model.specs.Value.{Site}
use Rattle.kernel_model.proofs.Growing.{grows-plain, grows-put, run-grows}
use Rattle.kernel_model.proofs.Steps.{Part, kept-after, kept-each, kept-turns}
use Rattle.serial_run.specs.declared.frame.Frame.{Frame}
use Rattle.serial_run.specs.declared.frame.Frame.TheVariants as frame
use Rattle.serial_run.specs.Resting.{dealt_from, frame_part, frames_rest}
use Rattle.serial_run.specs.Stepping.{Stand, stand_left}

turn_grows : (at : Site) (code : Code) (slot : ℕ) (from : ℤ) (k : ℕ) (s : State) → Grows s (state_of (turn_from at code slot from k s))
turn_grows at code slot from k s = grows-plain.chain s _ _ (grows-plain.assigns slot _ s) (run-grows at code _)

frame_grows : (at : Site) (f : Frame) (s : State) → Grows s (state_of (frame_part at f s))
frame_grows at (frame.Statements stmts) s = run-grows at (code_of stmts.now) s
frame_grows at (frame.Turns body slot next end) s =
    kept-turns Grows grows-plain (total_of next end) 0 (turn_from at (code_of body.now.stmts.items) slot next) s (turn_grows at (code_of body.now.stmts.items) slot next)
frame_grows at (frame.Chunks body slot from to chunk next) s =
    kept-each Grows grows-plain (dealt_from chunk (total_of from to) at.lane at.span next) (turn_from at (code_of body.now.stmts.items) slot from) s (turn_grows at (code_of body.now.stmts.items) slot from)
frame_grows at (frame.Barrier line) s = grows-put (event kind.Barrier line 0 0) s refl

rest_grows : (at : Site) (rest : List Frame) (then' : Part) → ((s : State) → Grows s (state_of (then' s))) → (s : State) → Grows s (state_of (frames_rest at rest then' s))
rest_grows at [] then' grows s = grows s
rest_grows at (f ∷ above) then' grows s = rest_grows at above (λ t. after (frame_part at f t) then') (λ t. kept-after Grows grows-plain t (frame_part at f t) then' (frame_grows at f t) grows) s

pub left_grows : (x : Stand) (s : State) → Grows s (state_of (stand_left x s))
left_grows x s = rest_grows x.at x.rest (put (event kind.End x.end 0 0)) (λ t. grows-put (event kind.End x.end 0 0) t refl) s
