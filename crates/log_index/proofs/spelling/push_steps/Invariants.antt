use Rattle.std.proofs.Common.{◌≡◌, ◌++◌, take}
use Rattle.std.specs.List.{flat_map}
use Rattle.race_model.specs.Row.{step_spelling}
use Rattle.log_index.proofs.spelling.push_steps.Given as goal

abbrev pub invariant-loop-step : goal.invariant-loop-step
invariant-loop-step l = l.bytes.items ≡ l.initial.bytes.items ++ flat_map step_spelling (take l.step-index l.steps)
