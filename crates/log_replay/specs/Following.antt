-- How a task follows its log: what it has done is its trace so far, under the values that the log tells, as far as the log was read.
use Rattle.std.specs.Prelude.{◌≡◌, ◌⊎◌, ℕ, ◌+◌, ◌-◌, ◌≤◌, List, [], ◌∷◌, ◌++◌, length, min, ℤ, Option, Some, Result, Ok, Err}
use Rattle.log_format.specs.Limit.{record_limit}
use Rattle.sw_base.specs.Environment.{Content, FolderState}
use Rattle.log_format.specs.declared.record.Record.{Record}
use Rattle.log_format.specs.declared.record.Kind.{Kind}
use Rattle.log_format.specs.declared.record.Kind.TheVariants as kind
use Rattle.log_reader.specs.Reading.{Reading, StandsBefore}
use Rattle.kernel_model.specs.State.{State, Fork, Outcome, Gives, Stops, Wants, reads_of, chunks_of}
use Rattle.kernel_model.specs.Effect.{state_with}
use Rattle.log_replay.specs.Differing.{DiffersAt}
use Rattle.log_replay.specs.declared.stray.Stray.{Stray}
use Rattle.log_replay.specs.declared.stray.Stray.TheVariants as stray

-- what of a lane changes with each step: its locals, the regions that it forked, and how far its log was read
pub record Standing : Type 0 where
  pub slots : List ℤ
  pub forks : List Fork
  pub reading : Reading
  pub count : ℕ

-- an End is among the records
abbrev pub HasEnd : List Record → Type 0
HasEnd [] = ⊥
HasEnd (r ∷ rs) = (r.kind ≡ kind.End) ⊎ HasEnd rs

-- these records of the log were read, and these are left, with an End among them
pub record HasReadTo (told : FolderState) (log done rest : List Record) (x : Standing) : Type 0 where
  pub content : Content
  pub is_told : told.content ≡ Some content
  pub stands : StandsBefore content x.reading rest
  pub parts : log ≡ done ++ rest
  pub count : x.count ≡ length done
  pub ahead : HasEnd rest
  pub fits : length log ≤ record_limit

-- the state of the task, where what it did is what was read, and what it will read and draw is what is left
abbrev pub here : Standing → List Record → List Record → State
here x done rest = state_with x.slots done x.forks (record_limit - length done) (reads_of rest) (chunks_of rest)

-- the next record was read
pub record Took (told : FolderState) (rest : List Record) (r : Record) (old new : Standing) : Type 0 where
  pub others : List Record
  pub rest_is : rest ≡ r ∷ others
  pub stands : (content : Content) → told.content ≡ Some content → StandsBefore content new.reading others
  pub count : new.count ≡ min (old.count + 1) 4294967295
  pub slots : new.slots ≡ old.slots
  pub forks : new.forks ≡ old.forks

-- the record that comes next was read; there is one
abbrev pub TakesNext : FolderState → List Record → Standing → Standing → Result Record Stray → Type 0
TakesNext told rest old new (Ok r) = Took told rest r old new
TakesNext told rest old new (Err (stray.Differs number)) = ⊥
TakesNext told rest old new (Err _) = Unit {0}

-- the kinds of records in a task's statements that tell no value that the task takes from its log
abbrev pub IsMark : Kind → Type 0
IsMark kind.Write = Unit {0}
IsMark kind.Update = Unit {0}
IsMark kind.Lock = Unit {0}
IsMark kind.Unlock = Unit {0}
IsMark kind.Barrier = Unit {0}
IsMark kind.Region = Unit {0}
IsMark _ = ⊥

-- the records differ from the log at this one, whatever more is added to them
pub record Strays (records log : List Record) (number : ℕ) : Type 0 where
  pub before : List Record
  pub own : Record
  pub others : List Record
  pub theirs : Record
  pub rest : List Record
  pub records_are : records ≡ before ++ own ∷ others
  pub log_is : log ≡ before ++ theirs ∷ rest
  pub apart : own ≡ theirs → ⊥
  pub number_is : number ≡ length before + 1

-- a part of the trace has left the log at this record
abbrev pub IsOff : {A : Type 0} → List Record → ℕ → Outcome A → Type 0
IsOff log number (Gives a s) = Strays s.records log number
IsOff log number (Stops why line s) = DiffersAt s.records log number
IsOff log number (Wants s) = DiffersAt s.records log number

-- a part gave this value, and all that it did is in the log
pub record Reached {A : Type 0} (told : FolderState) (log : List Record) (outcome : Outcome A) (value : A) (x : Standing) : Type 0 where
  pub done : List Record
  pub rest : List Record
  pub at : HasReadTo told log done rest x
  pub gives : outcome ≡ Gives value (here x done rest)

-- how a part ends, by what is answered
abbrev pub Ends : {A : Type 0} → FolderState → List Record → Outcome A → Standing → Result A Stray → Type 0
Ends told log outcome new (Ok v) = Reached told log outcome v new
Ends told log outcome new (Err (stray.Differs number)) = IsOff log number outcome
Ends told log outcome new (Err _) = Unit {0}

-- the lane followed a part of its trace
abbrev pub FollowsPart : {A : Type 0} → FolderState → (State → Outcome A) → Standing → Standing → Result A Stray → Type 0
FollowsPart told part old new r = (log done rest : List Record) → HasReadTo told log done rest old → Ends told log (part (here old done rest)) new r
