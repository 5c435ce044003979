-- What is left of a task, as the meaning of kernels has it.
use Rattle.std.specs.Prelude.{ℕ, ◌-◌, ◌/◌, ◌%◌, ◌==◌, Bool, true, false, List, [], ◌∷◌, filter}
use Rattle.std.specs.List.{range_with_len}
use Rattle.kernel_syntax.specs.Program.{code_of}
use Rattle.log_format.specs.declared.record.Kind.TheVariants as kind
use Rattle.kernel_model.specs.Drawing.{turn_from}
use Rattle.kernel_model.specs.Iterations.{total_of}
use Rattle.kernel_model.specs.State.{State, Outcome, after, put, event}
use Rattle.kernel_model.specs.Trace.{run, turns, each}
use Rattle.kernel_model.specs.Value.{Site}
use Rattle.serial_run.specs.declared.frame.Frame.{Frame}
use Rattle.serial_run.specs.declared.frame.Frame.TheVariants as frame

-- the iterations from this one on that a lane has in a loop whose chunks are dealt in turn
abbrev pub dealt_from : ℕ → ℕ → ℕ → ℕ → ℕ → List ℕ
dealt_from chunk total lane span next = filter (λ i. (i / chunk) % span == lane) (range_with_len next (total - next))

-- what is executed for a frame
abbrev pub frame_part : Site → Frame → State → Outcome (Unit {0})
frame_part at (frame.Statements stmts) = run at (code_of stmts.now)
frame_part at (frame.Turns body slot next end) = turns (total_of next end) 0 (turn_from at (code_of body.now.stmts.items) slot next)
frame_part at (frame.Chunks body slot from to chunk next) =
    each (dealt_from chunk (total_of from to) at.lane at.span next) (turn_from at (code_of body.now.stmts.items) slot from)
frame_part at (frame.Barrier line) = put (event kind.Barrier line 0 0)

-- the frames, of which the last one is the next that goes on, and then this
abbrev pub frames_rest : Site → List Frame → (State → Outcome (Unit {0})) → State → Outcome (Unit {0})
frames_rest at [] then' s = then' s
frames_rest at (f ∷ above) then' s = frames_rest at above (λ t. after (frame_part at f t) then') s

-- the frame of the barrier at the end of a worksharing loop
abbrev pub end_frames : Bool → ℕ → List Frame
end_frames true end = []
end_frames false end = frame.Barrier end ∷ []
