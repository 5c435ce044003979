-- What is seen of a folder in memory.
use Rattle.std.specs.Prelude.{◌≡◌, ◌↔◌, if◌then◌else◌, ℕ, List, map, Option, Some, Vec, Contains, string_bytes}
use Rattle.std.specs.declared.alloc.Global.{Global}
use Rattle.std.specs.declared.string.String.{String}
use Rattle.std.specs.BTreeMap.{BTreeMap, get_by_text}
use Rattle.std.specs.Option.{option_map}
use Rattle.std.specs.Str.{bytes_eq}
use Rattle.sw_base.specs.Environment.{Content, Files, FolderState, Sealed, next_count}
use Rattle.memory_environment.specs.InMemory.{Counted, CountsCall}
use Rattle.memory_environment.specs.Plans.{Plan, plans_by}
use Rattle.memory_environment.specs.declared.folder.MemFolder.{MemFolder}
use Rattle.memory_environment.specs.declared.folder.SealedLog.{SealedLog}

-- the list under each name of a map
unfoldable pub held_by : {T : Type 0} → BTreeMap (String Global) (Vec T Global) → List ℕ → Option (List T)
held_by files name = option_map (λ list. list.items) (get_by_text files name)

-- the same with this list under this name
abbrev pub with_list : {T : Type 0} → List ℕ → List T → (List ℕ → Option (List T)) → List ℕ → Option (List T)
with_list name list lists = λ other. if bytes_eq name other then Some list else lists other

-- a name, and the lengths of the pieces
abbrev pub sealed_by : SealedLog → Sealed
sealed_by log = record { name = string_bytes log.name; lengths = log.lengths.items }

-- the files
abbrev pub held_of : MemFolder → Files
held_of folder = held_by folder.files

-- the logs that were sealed, in order
abbrev pub sealed_of : MemFolder → List Sealed
sealed_of folder = map sealed_by folder.sealed.items

-- both, which it tells
abbrev pub content_of : MemFolder → Option Content
content_of folder = Some (record { held = held_of folder; sealed = sealed_of folder })

-- how often `size`, `read` or `open_file` failed, or a file with faults came back
abbrev pub read_faults_of : MemFolder → ℕ
read_faults_of folder = folder.read_faults

-- how often a call that writes failed, or a log with faults came back
abbrev pub write_faults_of : MemFolder → ℕ
write_faults_of folder = folder.write_faults

-- how often `root` was called
abbrev pub roots_of : MemFolder → ℕ
roots_of folder = folder.roots

-- all that calls that only read leave
abbrev pub folder_state : MemFolder → FolderState
folder_state folder = record { content = content_of folder; write_faults = write_faults_of folder; roots = roots_of folder }

-- how many calls there were, those of `discard` and `close_file` left out
abbrev pub calls_of : MemFolder → ℕ
calls_of folder = folder.calls.made

-- the numbers of the calls that are to fail
abbrev pub failing_of : MemFolder → List ℕ
failing_of folder = folder.calls.failing.items

-- which calls are to fail on the logs that it makes, and which reads of the files that it opens, by their names
pub record Planned : Type 0 where
  pub logs : List Plan
  pub files : List ℕ → Option (List ℕ)

abbrev pub plans_of : MemFolder → Planned
plans_of folder = record { logs = plans_by folder.plans; files = held_by folder.file_plans }

-- its calls, with the faults of those that read
abbrev pub counted_reads : MemFolder → Counted
counted_reads folder = record { calls = calls_of folder; failing = failing_of folder; faults = read_faults_of folder }

-- the same with the faults of the others
abbrev pub counted_writes : MemFolder → Counted
counted_writes folder = record { calls = calls_of folder; failing = failing_of folder; faults = write_faults_of folder }

-- no call is counted, and none is a fault
pub record IsUncounted (old new : MemFolder) : Type 0 where
  pub reads : read_faults_of new ≡ read_faults_of old
  pub writes : write_faults_of new ≡ write_faults_of old
  pub roots : roots_of new ≡ roots_of old
  pub calls : calls_of new ≡ calls_of old
  pub same_plans : plans_of new ≡ plans_of old

-- only plans may differ
pub record IsSame (old new : MemFolder) : Type 0 where
  pub state : folder_state new ≡ folder_state old
  pub reads : read_faults_of new ≡ read_faults_of old
  pub calls : calls_of new ≡ calls_of old
  pub failing : failing_of new ≡ failing_of old

-- a call that reads, and whether it failed
pub record CountsRead (failed : Type 0) (old new : MemFolder) : Type 0 where
  pub counts : CountsCall failed (counted_reads old) (counted_reads new)
  pub same_plans : plans_of new ≡ plans_of old

-- another call, and whether it failed
pub record CountsWrite (failed : Type 0) (old new : MemFolder) : Type 0 where
  pub counts : CountsCall failed (counted_writes old) (counted_writes new)
  pub same_reads : read_faults_of new ≡ read_faults_of old
  pub same_plans : plans_of new ≡ plans_of old

-- a call that seals, and whether it failed; a log without a fault brings none
pub record CountsSeal (faultless failed : Type 0) (old new : MemFolder) : Type 0 where
  pub call : calls_of new ≡ next_count (calls_of old)
  pub fails : failed ↔ Contains (failing_of old) (next_count (calls_of old))
  pub no_fault : (failed → ⊥) → faultless → write_faults_of new ≡ write_faults_of old
  pub same_reads : read_faults_of new ≡ read_faults_of old
  pub same_failing : failing_of new ≡ failing_of old
  pub same_plans : plans_of new ≡ plans_of old
