-- A run of two lanes that stopped, of this kernel: after the first barrier lane 0 stops, since an index lies outside its array, and lane 1
-- copies what lane 0 wrote before it, and comes to the next barrier.
--
--     array a i64 2
--     main {
--       parallel 2 {
--         if tid == 0 { a[0] = 1 }
--         barrier
--         if tid == 0 { a[2] = 1 } else { a[1] = a[0] }
--         barrier
--         barrier
--       }
--     }
use Rattle.std.specs.Prelude.{ℕ, ◌==◌, if◌then◌else◌, List, [], ◌∷◌, pos, map}
use Rattle.sw_base.specs.declared.path.Step.{Step}
use Rattle.sw_base.specs.HandedLog.{HandedLog}
use Rattle.log_format.specs.declared.record.Record.{Record}
use Rattle.log_format.specs.declared.record.Kind.{Kind}
use Rattle.log_format.specs.declared.record.Kind.TheVariants as kind
use Rattle.kernel_syntax.specs.declared.syntax.Op.TheVariants.{Eq}
use Rattle.kernel_syntax.specs.Layout.{laid}
use Rattle.kernel_syntax.specs.Program.{Program}
use Rattle.kernel_syntax.specs.Tree as tree
use Rattle.kernel_syntax.specs.Tree.{Code, Done, Term}
use Rattle.race_model.specs.Trace.{TaskLog, Trace}
use Rattle.kernel_model.specs.State.{event}
use Rattle.run_command.specs.Run.{told_log}

abbrev pub is_first : ℕ → Term
is_first line = tree.Binary Eq line tree.Tid (tree.Number (pos 0))

-- a number stored to an element
abbrev pub store : ℕ → ℕ → Term → Code
store index site value = tree.Store 0 (tree.Number (pos index)) value 6 site Done

abbrev pub body : Code
body =
    tree.If (is_first 4) (tree.Store 0 (tree.Number (pos 0)) (tree.Number (pos 1)) 4 0 Done) Done
    (tree.Barrier 5 (tree.If (is_first 6) (store 2 1 (tree.Number (pos 1))) (store 1 3 (tree.Load 0 (tree.Number (pos 0)) 6 2)) (tree.Barrier 7 (tree.Barrier 8 Done))))

abbrev pub kernel : Program
kernel = record {
  arrays = laid (record { name = 97 ∷ []; width = 8; count = 2; base = 0; first = 0 } ∷ []);
  mutexes = [];
  main = record { span = 1; line = 2; end = 10; body = tree.Parallel 2 3 9 body Done };
  slots = 0;
}

abbrev pub accessed : Kind → ℕ → ℕ → ℕ → ℕ → Record
accessed k line site addr value = record { kind = k; size = 8; site = site; line = line; addr = addr; value = value }

-- lane 0 wrote a[0], and met lane 1
abbrev pub first_log : List Record
first_log = accessed kind.Write 4 0 4096 1 ∷ event kind.Barrier 5 0 0 ∷ []

-- lane 1 found this value in a[0], wrote it to a[1], and came to the next barrier
abbrev pub second_log : ℕ → List Record
second_log found = event kind.Barrier 5 0 0 ∷ accessed kind.Read 6 2 4096 found ∷ accessed kind.Write 6 3 4104 found ∷ event kind.Barrier 7 0 0 ∷ []

abbrev pub team_path : ℕ → List Step
team_path lane = record { region = 0; lane = lane; span = 2 } ∷ []

-- `main` forked the region, and put these records behind it
abbrev pub main_task : List Record → TaskLog
main_task more = record { path = []; records = event kind.Region 3 0 2 ∷ more }

abbrev pub lane_task : ℕ → List Record → TaskLog
lane_task lane records = record { path = team_path lane; records = records }

-- the tasks of a run in which `main` went on so, and lane 1 has this log
abbrev pub tasks_of : List Record → List Record → Trace
tasks_of more second = main_task more ∷ lane_task 0 first_log ∷ lane_task 1 second ∷ []

-- those of the run
abbrev pub tasks : Trace
tasks = tasks_of [] (second_log 1)

-- what they leave at each address: lane 0 wrote a[0], and lane 1 wrote a[1]
abbrev pub memory : ℕ → ℕ
memory addr = if 4104 == addr then 1 else if 4096 == addr then 1 else 0

-- the logs of the run in the folder `d`, from buffers of two records
abbrev pub dir : List ℕ
dir = 100 ∷ []

abbrev pub size : ℕ
size = 48

abbrev pub logs : List HandedLog
logs = map (told_log dir size) tasks
