use Rattle.std.proofs.Common.{◌≡◌, ◌++◌, string_bytes, take}
use Rattle.std.specs.List.{flat_map}
use Rattle.std.specs.Prelude.{codes}
use Rattle.sw_base.specs.Names.{step_text}
use Rattle.sw_base.proofs.path.Path.bare_name.Given as goal

abbrev pub invariant-loop-step : goal.invariant-loop-step
invariant-loop-step l = string_bytes l.name ≡ codes "t" ++ flat_map step_text (take l.step-index l.step-items)
