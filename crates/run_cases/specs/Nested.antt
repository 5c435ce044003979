-- A run that stopped in a nested region, of this kernel: lane 1 of the inner team divides by 0, and lane 0 comes to the barrier; lane 1 of
-- the outer team stops, too.
--
--     array a i64 2
--     main {
--       parallel 2 {
--         if tid == 0 {
--           parallel 2 {
--             if tid { a[1] = 1 / 0 }
--             barrier
--           }
--         } else { a[2] = 1 }
--       }
--     }
use Rattle.std.specs.Prelude.{ℕ, List, [], ◌∷◌, pos, map}
use Rattle.sw_base.specs.declared.path.Step.{Step}
use Rattle.sw_base.specs.HandedLog.{HandedLog}
use Rattle.log_format.specs.declared.record.Kind.TheVariants as kind
use Rattle.kernel_syntax.specs.declared.syntax.Op.TheVariants.{Div}
use Rattle.kernel_syntax.specs.Program.{Program}
use Rattle.kernel_syntax.specs.Tree as tree
use Rattle.kernel_syntax.specs.Tree.{Code, Done}
use Rattle.race_model.specs.Trace.{Trace}
use Rattle.kernel_model.specs.State.{event}
use Rattle.run_command.specs.Run.{told_log}
use Rattle.run_cases.specs.TwoLanes as two
use Rattle.run_cases.specs.TwoLanes.{dir, is_first, team_path, size}

abbrev pub inner : Code
inner = tree.If tree.Tid (tree.Store 0 (tree.Number (pos 1)) (tree.Binary Div 6 (tree.Number (pos 1)) (tree.Number (pos 0))) 6 0 Done) Done (tree.Barrier 7 Done)

abbrev pub outer : Code
outer = tree.If (is_first 4) (tree.Parallel 2 5 8 inner Done) (tree.Store 0 (tree.Number (pos 2)) (tree.Number (pos 1)) 9 1 Done) Done

abbrev pub kernel : Program
kernel = record { arrays = two.kernel.arrays; mutexes = []; main = record { span = 1; line = 2; end = 11; body = tree.Parallel 2 3 10 outer Done }; slots = 0 }

-- a lane of the inner team
abbrev pub inner_path : ℕ → List Step
inner_path lane = record { region = 0; lane = 0; span = 2 } ∷ team_path lane

abbrev pub tasks : Trace
tasks =
    record { path = []; records = event kind.Region 3 0 2 ∷ [] }
    ∷ record { path = team_path 0; records = event kind.Region 5 0 2 ∷ [] }
    ∷ record { path = inner_path 0; records = event kind.Barrier 7 0 0 ∷ [] }
    ∷ record { path = inner_path 1; records = [] }
    ∷ record { path = team_path 1; records = [] }
    ∷ []

abbrev pub logs : List HandedLog
logs = map (told_log dir size) tasks
