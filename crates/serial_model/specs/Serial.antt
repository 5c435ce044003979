-- Serial runs: of two records that are unordered the one in the smaller lane comes first, at the first step at which their paths differ.
-- That is the order in which a tree of work tells its steps (`did`): in each phase all lanes are split off, then lane 0 does its work and
-- is joined, then lane 1, and so on.
use Rattle.std.specs.Prelude.{◌≡◌, ℕ, ◌<◌, List, [], ◌∷◌, ◌++◌, length, slice_index, Some, None}
use Rattle.step_history.specs.declared.item.Item.{Item}
use Rattle.step_history.specs.declared.item.Deed.{Deed}
use Rattle.step_history.specs.declared.item.Deed.TheVariants.{Read, Lock, Unlock}
use Rattle.step_history.specs.History.{Name, value_at, holder}
use Rattle.race_model.specs.Trace.{logs_of}
use Rattle.kernel_syntax.specs.Program.{Program}
use Rattle.kernel_model.specs.Folder.{root_start}
use Rattle.history_model.specs.Work.{Work}
use Rattle.history_model.specs.Did.{did}
use Rattle.history_model.specs.Joined.{IsJoined, LastIsEnd}
use Rattle.history_model.specs.Sound.{WordLayout, IsSound, HasAddresses, AreFitted}
use Rattle.execution_model.specs.Runs.{RunsTask, logged_tasks}
use Rattle.execution_laws.specs.Nesting.{NestsWithin}

-- the step finds the words and mutexes as those before it left them
abbrev pub FindsWords : List Item → Name → Deed → Type 0
FindsWords before name (Read w x) = x ≡ value_at w before
FindsWords before name (Lock m) = holder m before ≡ None
FindsWords before name (Unlock m) = holder m before ≡ Some name
FindsWords before name _ = Unit {0}

abbrev pub FindSo : List Item → List Item → Type 0
FindSo before [] = Unit {0}
FindSo before (x ∷ xs) = FindsWords before x.name x.deed × FindSo (before ++ x ∷ []) xs

-- each step of the work finds what the steps before it left, in serial order
abbrev pub IsSerial : (ℕ → ℕ) → Work → Type 0
IsSerial word root = FindSo [] (did word [] 0 root)

-- these are the words that the steps leave
abbrev pub Leaves : (ℕ → ℕ) → Work → List ℕ → Type 0
Leaves word root memory = (w : ℕ) → w < length memory → slice_index memory w ≡ value_at w (did word [] 0 root)

-- The tree of work is that of a whole run of the kernel: its tasks have the traces of the kernel's, from the root down, and its root ended;
-- and these are the values of the elements in this memory.
pub record IsWorkOf (program : Program) (layout : WordLayout) (depth : ℕ) (root : Work) (memory words : List ℕ) : Type 0 where
  pub sound : IsSound layout root
  pub joined : IsJoined root
  pub runs : RunsTask program (root_start program) (root ∷ [])
  pub nests : NestsWithin depth root
  pub addresses : HasAddresses layout memory
  pub fitted : AreFitted layout memory words
  pub ended : LastIsEnd (logs_of (logged_tasks depth root) [])

-- Its steps find the words as they were left, and leave this memory.
pub record RunsSerially (program : Program) (layout : WordLayout) (depth : ℕ) (root : Work) (memory words : List ℕ) : Type 0 where
  pub work : IsWorkOf program layout depth root memory words
  pub serial : IsSerial layout.word root
  pub leaves : Leaves layout.word root memory
