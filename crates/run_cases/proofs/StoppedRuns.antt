-- What the runs by hand share.
use Rattle.std.proofs.Common.{◌≡◌, ap, ◌∙◌, subst, ℕ, zero, suc, ◌<◌, List, [], ◌∷◌, ◌++◌, refl, map, arith, rules}
use Rattle.log_format.specs.declared.record.Record.{Record}
use Rattle.log_format.specs.declared.record.Kind.TheVariants as kind
use Rattle.sw_base.specs.declared.path.Step.{Step}
use Rattle.race_model.specs.Listing.{IsListing}
use Rattle.race_model.specs.Trace.{Trace}
use Rattle.step_history.specs.History.{HasHistory}
use Rattle.kernel_model.specs.declared.stop.StopWhy.{StopWhy}
use Rattle.kernel_model.specs.declared.stop.StopWhy.TheVariants as because
use Rattle.kernel_syntax.specs.Program.{Program}
use Rattle.kernel_model.specs.Folder.{paths_of, root_start}
use Rattle.kernel_model.specs.Trace.{Stopped}
use Rattle.history_model.specs.Work.{Work}
use Rattle.history_model.specs.Did.{did}
use Rattle.history_model.specs.Joined.{IsJoined, LastIsEnd}
use Rattle.history_model.specs.Sound.{WordLayout, IsSound, HasAddresses, AreFitted}
use Rattle.execution_model.specs.Execution.{IsExecution}
use Rattle.execution_model.specs.Runs.{RunsTask, logged_tasks}
use Rattle.execution_laws.specs.Nesting.{NestsWithin}
use Rattle.execution_laws.proofs.TaskListing.{are_within}
use Rattle.execution_laws.proofs.Whole.{execution}
use Rattle.execution_model.specs.Elements.{layout_of, element_address}
use Rattle.region_runner.specs.Answer.{IsLeast}
use Rattle.execution_model.specs.Stops.{EndsTask, StopsAt}
use Rattle.run_command.specs.Run.{AreLeftLogs, AreStopped, IsLeftLog, told_log}
use Rattle.run_cases.specs.TwoLanes.{dir, kernel, size}

-- both kernels have this array
abbrev pub layout : WordLayout
layout = layout_of kernel.arrays

pub addresses : (one two : ℕ) → HasAddresses layout (one ∷ two ∷ [])
addresses one two zero less = (refl, search rules)
addresses one two (suc zero) less = (refl, search rules)
addresses one two (suc (suc n)) less = absurd (omega arith)

-- the logs of a tree of work that leaves these two words
pub executes : (program : Program) (tasks : Trace) (depth : ℕ) (work : Work) (one two : ℕ) → let words : List ℕ = one ∷ two ∷ [] in
    logged_tasks depth work ≡ tasks → IsSound layout work → IsJoined work → RunsTask program (root_start program) (work ∷ []) → NestsWithin depth work → AreFitted layout words words → HasHistory (did layout.word [] 0 work) words
    → IsExecution program tasks layout.address words
executes program tasks depth work one two same sound joined runs nests fitted history =
    let words : List ℕ = one ∷ two ∷ [] in
    subst (λ ts. IsExecution program ts layout.address words) same (execution program layout depth work sound joined runs (are_within depth work nests) words words (addresses one two) fitted history)

pub both_lanes : (P : ℕ → Type 0) → P 0 → P 1 → (lane : ℕ) → lane < 2 → P lane
both_lanes P first second zero less = first
both_lanes P first second (suc zero) less = second
both_lanes P first second (suc (suc n)) less = absurd (omega arith)

abbrev pub first_lane : List Step → ℕ
first_lane [] = 0
first_lane (step ∷ path) = step.lane

-- the last record, after this one
abbrev pub last_of : Record → List Record → Record
last_of r [] = r
last_of r (s ∷ records) = last_of s records

last_is : (r : Record) (prefix : List Record) (last : Record) → last_of r (prefix ++ last ∷ []) ≡ last
last_is r [] last = refl
last_is r (s ∷ prefix) last = last_is s prefix last

pub ends_last : (r : Record) (records : List Record) → LastIsEnd records → (last_of r records).kind ≡ kind.End
ends_last r records e = ap (λ (rs : List Record). (last_of r rs).kind) e.parts ∙ (ap (λ (x : Record). x.kind) (last_is r e.prefix e.last) ∙ e.ends)

all_whole : (path : List Step) (tasks : Trace) → AreLeftLogs ⊥ dir size path tasks (map (told_log dir size) tasks)
all_whole path [] = AreLeftLogs.no_task
all_whole path (t ∷ tasks) = AreLeftLogs.next t tasks (told_log dir size t) (map (told_log dir size) tasks) (IsLeftLog.whole refl) (all_whole path tasks)

-- a run that stopped as a trace tells, with whole logs
pub are_stopped : (program : Program) (tasks : Trace) (words : List ℕ) (path : List Step) (line : ℕ) (reason : StopWhy) → (reason ≡ because.Tasks → ⊥)
    → IsExecution program tasks (element_address program.arrays) words → IsListing (paths_of tasks) → EndsTask program tasks path (Stopped reason line) → IsLeast tasks path
    → AreStopped ⊥ program dir size (map (told_log dir size) tasks) path line reason
are_stopped program tasks words path line reason other execution listed ends least = record {
  tasks = tasks;
  words = words;
  execution = execution;
  listed = listed;
  logs_are = all_whole path tasks;
  stops = StopsAt.as_traced reason other ends;
  least = least;
}
