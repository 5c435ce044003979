-- A sweep through a folder: the root's log first, and then one region of the root at a time.
use Rattle.std.specs.Prelude.{◌≡◌, ℕ, ◌+◌, ◌-◌, ◌<◌, ◌≤◌, List, [], ◌∷◌, ◌++◌, length, Contains, Option, Some, None, Result, Err, IfOk, IfErr, IfSome, IsErrOf, OnOk, slice_get}
use Rattle.std.specs.Global.{Vec}
use Rattle.std.specs.List.{AllZip}
use Rattle.sw_base.specs.declared.path.Step.{Step}
use Rattle.sw_base.specs.Environment.{Content, WhereTold}
use Rattle.log_format.specs.declared.format.Format.{Format}
use Rattle.race_model.specs.Row.{Row}
use Rattle.race_model.specs.IndexFault.{AreRows}
use Rattle.race_model.specs.FirstBad.{HoldsTrace, rows_of}
use Rattle.race_model.specs.KeepsRules.{KeepsRules}
use Rattle.race_model.specs.Segment.{segments_of}
use Rattle.race_model.specs.Trace.{TaskLog, Trace, Logs, logs_of}
use Rattle.race_model.specs.WellFormed.{IsWellFormed}
use Rattle.log_segment.specs.Intervals.{AreSegments, IsSegmentOf}
use Rattle.log_segment.specs.Regions.{IsUnderRegion}
use Rattle.log_segment.specs.OneTree.{StandInOneTree}
use Rattle.log_segment.specs.Walking.{AddsSegments, HasLogs}
use Rattle.log_segment.specs.declared.segment.Segment.{Segment}
use Rattle.log_walk.specs.GoodTrace.{IsGoodTrace}
use Rattle.log_walk.specs.Stack.{IsStackAfter}
use Rattle.log_walk.specs.Walk.{RefusesLogOf, TellsFirstBad, Walked}
use Rattle.log_walk.specs.declared.fault.WalkFault.{WalkFault}
use Rattle.log_walk.specs.declared.fault.WalkFault.TheVariants as fault
use Rattle.log_walk.specs.declared.stack.Stack.{Stack}
use Rattle.log_walk.specs.declared.sweep.Sweep.{Sweep}

abbrev pub IsRoot : List Step → Type 0
IsRoot path = path ≡ []

-- how many of the root's regions were given
abbrev pub regions_given : Sweep → ℕ
regions_given sweep = sweep.region

-- how many logs are ahead
abbrev pub logs_left : Sweep → ℕ
logs_left sweep = length sweep.rows - sweep.stack.place

-- a refusal was answered
abbrev pub HasRefused : Sweep → WalkFault → Type 0
HasRefused sweep refusal = sweep.refused ≡ Some refusal

-- a read failed in this call, and not in an earlier one of which the refusal stays
abbrev pub FailsNow : {T : Type 0} → Sweep → Result T WalkFault → Type 0
FailsNow sweep result = IsErrOf result fault.ReadFault × (HasRefused sweep fault.ReadFault → ⊥)

-- a refusal that tells a place tells one in the index or in the root's log
abbrev pub RefusesIndexOrRoot : WalkFault → Type 0
RefusesIndexOrRoot fault.NoIndex = Unit {0}
RefusesIndexOrRoot (fault.BadIndex row why) = Unit {0}
RefusesIndexOrRoot (fault.MissingLog path) = IsRoot path
RefusesIndexOrRoot (fault.BadRecord path number why) = IsRoot path
RefusesIndexOrRoot (fault.TooManySegments path number) = IsRoot path
RefusesIndexOrRoot fault.ReadFault = Unit {0}
RefusesIndexOrRoot fault.Memory = Unit {0}

-- the first tasks are the root and those under its first regions
pub record AreRegions (region : ℕ) (rows : List Row) (trace : Trace) : Type 0 where
  pub begun : 0 < length trace
  pub given : (k : ℕ) (row : Row) (m : ℕ) → slice_get rows k ≡ Some row → IsUnderRegion m row.path → k < length trace → m < region
  pub next : (row : Row) → slice_get rows (length trace) ≡ Some row → IsUnderRegion region row.path

-- these tasks were gone over, all of whole regions; where the folder tells its files, they are its tasks, and nothing in it
-- is bad before the next one
pub record HasSwept (format : Format) (told : Option Content) (dir : List ℕ) (sweep : Sweep) (trace : Trace) : Type 0 where
  pub format_is : sweep.format ≡ format
  pub dir_is : sweep.dir ≡ dir
  pub rows : AreRows sweep.rows
  pub good : IsGoodTrace format sweep.rows trace
  pub regions : AreRegions sweep.region sweep.rows trace
  pub stands : sweep.refused ≡ None → IsStackAfter format sweep.rows sweep.stack trace
  pub holds : WhereTold told (λ c. Walked format c.held dir sweep.rows trace)
  pub refusal : (e : WalkFault) → HasRefused sweep e → RefusesLogOf (IsUnderRegion sweep.region) e × WhereTold told (λ c. TellsFirstBad format c.held dir e)

-- some of the folder's tasks were gone over
abbrev pub IsUnderWay : Option Content → Sweep → Type 0
IsUnderWay told sweep = (format : Format) × (dir : List ℕ) × (trace : Trace) × HasSwept format told dir sweep trace

-- the logs of a region were gone over, and these are their segments
pub record WalksRegion (format : Format) (told : Option Content) (dir : List ℕ) (rows : List Row) (region : ℕ) (stack : Stack) (trace : Trace) (found : List Segment) : Type 0 where
  pub more : Trace
  pub some : 0 < length more
  pub stands : IsStackAfter format rows stack (trace ++ more)
  pub under : (k : ℕ) (row : Row) → slice_get rows k ≡ Some row → length trace ≤ k → k < length (trace ++ more) → IsUnderRegion region row.path
  pub past : (row : Row) → slice_get rows (length (trace ++ more)) ≡ Some row → IsUnderRegion region row.path → ⊥
  pub holds : WhereTold told (λ c. Walked format c.held dir rows trace) → WhereTold told (λ c. Walked format c.held dir rows (trace ++ more))
  pub adds : (logs : Logs) → HasLogs logs (trace ++ more) → AddsSegments logs (segments_of more) [] found

-- the trace has these tasks first, and then those of the other rows
pub record Completes (sweep : Sweep) (trace whole : Trace) : Type 0 where
  pub rows_are : rows_of whole ≡ sweep.rows
  pub rest : Trace
  pub parts : whole ≡ trace ++ rest

-- the segments of the tasks that were gone over last: they are those of each trace that goes on from there
pub record GivesSegments (sweep : Sweep) (trace more : Trace) (IsOne : List Step → Type 0) (found : List Segment) : Type 0 where
  pub tree : StandInOneTree found
  pub are : (whole : Trace) → Completes sweep (trace ++ more) whole → AreSegments (logs_of whole) IsOne found
  pub in_order : (whole : Trace) → Completes sweep (trace ++ more) whole → AllZip (IsSegmentOf (logs_of whole)) (segments_of more) found

-- the sweep began: the root's log was gone over
pub record BeginsSweep (format : Format) (told : Option Content) (dir : List ℕ) (sweep : Sweep) (found : List Segment) : Type 0 where
  pub root : TaskLog
  pub is_root : IsRoot root.path
  pub swept : HasSwept format told dir sweep (root ∷ [])
  pub none_given : regions_given sweep ≡ 0
  pub gives : GivesSegments sweep [] (root ∷ []) IsRoot found
  pub fresh : sweep.refused ≡ None

-- the logs of the root's next region were gone over
pub record GivesRegion (format : Format) (told : Option Content) (dir : List ℕ) (old new : Sweep) (trace : Trace) (found : List Segment) : Type 0 where
  pub more : Trace
  pub swept : HasSwept format told dir new (trace ++ more)
  pub rows : new.rows ≡ old.rows
  pub next : regions_given new ≡ regions_given old + 1
  pub fresh : new.refused ≡ None
  pub gives : GivesSegments new trace more (IsUnderRegion (regions_given old)) found

-- all were gone over before
pub record HasSweptAll (format : Format) (told : Option Content) (dir : List ℕ) (sweep : Sweep) (trace : Trace) : Type 0 where
  pub good : IsGoodTrace format sweep.rows trace
  pub keeps : KeepsRules format trace
  pub holds : WhereTold told (λ c. HoldsTrace format c.held dir trace)
  pub well_formed : WhereTold told (λ c. IsWellFormed format c.held dir)
  pub completes : Completes sweep trace trace
  pub under : (task : TaskLog) (m : ℕ) → Contains trace task → IsUnderRegion m task.path → m < regions_given sweep

-- what is answered of the root's next region: its segments, or that none is left, or a refusal, which stays
pub record AnswersNext (told : Option Content) (old new : Sweep) (result : Result (Option (Vec Segment)) WalkFault) : Type 0 where
  pub region : (format : Format) (dir : List ℕ) (trace : Trace) → HasSwept format told dir old trace
      → IfOk result (λ found. IfSome found (λ segments. GivesRegion format told dir old new trace segments.items))
  pub shrinks : IfOk result (λ found. IfSome found (λ _. logs_left new < logs_left old))
  pub all : (format : Format) (dir : List ℕ) (trace : Trace) → HasSwept format told dir old trace
      → IfOk result (λ found. found ≡ None → (new ≡ old) × HasSweptAll format told dir old trace)
  pub refused : (format : Format) (dir : List ℕ) (trace : Trace) → HasSwept format told dir old trace
      → IfErr result (λ e. HasRefused new e × RefusesLogOf (IsUnderRegion (regions_given old)) e × WhereTold told (λ c. TellsFirstBad format c.held dir e)
      × HasSwept format told dir new trace)
  pub unrefused : OnOk result ((e : WalkFault) → HasRefused new e → ⊥)
  pub again : (e : WalkFault) → HasRefused old e → result ≡ Err e
