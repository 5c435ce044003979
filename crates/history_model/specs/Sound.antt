-- When a tree of work is that of a fork-join run.
use Rattle.std.specs.Prelude.{◌≡◌, ◌⊎◌, ℕ, ◌<◌, List, length, slice_index}
use Rattle.log_format.specs.declared.record.Record.{Record}
use Rattle.log_format.specs.declared.record.Kind.TheVariants.{Write, Barrier, Region}
use Rattle.log_format.specs.Fitting.{IsWidth, fit, CanHave}
use Rattle.race_model.specs.Trace.{barrier_count}
use Rattle.race_model.specs.Race.{IsAccess}
use Rattle.history_model.specs.Work.{Work, Rest, Put, Fork, Phases, NoPhase, Phase, TeamWork, NoWork, Beside, work_records}
use Rattle.history_model.specs.Did.{lane_count_of}

-- where the elements lie: the word of an address, the address of a word, and the bytes of the element in a word
pub record WordLayout : Type 0 where
  pub word : ℕ → ℕ
  pub address : ℕ → ℕ
  pub width : ℕ → ℕ

-- each of these words has an address, and its element a width
abbrev pub HasAddresses : WordLayout → List ℕ → Type 0
HasAddresses layout words = (word : ℕ) → word < length words → (layout.word (layout.address word) ≡ word) × IsWidth (layout.width word)

-- these are the values of the elements in the words of a memory
pub record AreFitted (layout : WordLayout) (memory words : List ℕ) : Type 0 where
  pub count : length words ≡ length memory
  pub each : (word : ℕ) → word < length memory → slice_index words word ≡ fit (slice_index memory word) (layout.width word)

-- an access has the address of a word, and the bytes of the element there
pub record IsOfElement (layout : WordLayout) (r : Record) : Type 0 where
  pub address : layout.address (layout.word r.addr) ≡ r.addr
  pub size : r.size ≡ layout.width (layout.word r.addr)
  pub width : IsWidth r.size

-- a record that a task puts forks no region, an access is that of an element, and a value stored is one that the element can have
pub record IsSoundRecord (layout : WordLayout) (r : Record) : Type 0 where
  pub no_region : r.kind ≡ Region → ⊥
  pub element : IsAccess r → IsOfElement layout r
  pub stores : r.kind ≡ Write → CanHave r.size r.value

-- each lane passes one barrier
abbrev pub PassesBarrier : TeamWork → Type 0
PassesBarrier NoWork = Unit {0}
PassesBarrier (Beside work others) = (barrier_count (work_records work) ≡ 1) × PassesBarrier others

-- so in each of these phases
abbrev pub PassAllBarriers : Phases → Type 0
PassAllBarriers NoPhase = Unit {0}
PassAllBarriers (Phase team later) = PassesBarrier team × PassAllBarriers later

-- A barrier is the last that a task does in its phase. Each phase has all lanes of its team, and each but the last ends in
-- one barrier of each lane.
abbrev mutual
  pub IsSound : WordLayout → Work → Type 0
  IsSound layout Rest = Unit {0}
  IsSound layout (Put r more) = IsSoundRecord layout r × (r.kind ≡ Barrier → more ≡ Rest) × IsSound layout more
  IsSound layout (Fork line span phases more) = ArePhasesSound layout span phases × IsSound layout more

  pub ArePhasesSound : WordLayout → ℕ → Phases → Type 0
  ArePhasesSound layout span NoPhase = Unit {0}
  ArePhasesSound layout span (Phase team later) =
      (lane_count_of team ≡ span) × IsTeamSound layout team × ((later ≡ NoPhase) ⊎ PassesBarrier team) × ArePhasesSound layout span later

  pub IsTeamSound : WordLayout → TeamWork → Type 0
  IsTeamSound layout NoWork = Unit {0}
  IsTeamSound layout (Beside work others) = IsSound layout work × IsTeamSound layout others

-- no lane of the last phase passes a barrier there
abbrev pub PassesNone : TeamWork → Type 0
PassesNone NoWork = Unit {0}
PassesNone (Beside work others) = (barrier_count (work_records work) ≡ 0) × PassesNone others

abbrev pub EndWithoutBarrier : Phases → Type 0
EndWithoutBarrier NoPhase = Unit {0}
EndWithoutBarrier (Phase team NoPhase) = PassesNone team
EndWithoutBarrier (Phase team (Phase next later)) = EndWithoutBarrier (Phase next later)
