-- Runs on which the laws are tried: one to which all of them apply, and those that show what goes wrong where a premise doesn't hold.
use Rattle.std.specs.Prelude.{◌≡◌, ◌⊎◌, ℕ, Bool, true, false, not, ◌&&◌, ◌==◌, List, [], ◌∷◌, ◌++◌, Contains, map, Some}
use Rattle.sw_base.specs.declared.path.Step.{Step}
use Rattle.log_format.specs.declared.record.Record.{Record}
use Rattle.log_format.specs.declared.record.Kind.{Kind}
use Rattle.log_format.specs.declared.record.Kind.TheVariants.{Read, Write, Lock, Unlock, Barrier, Region, End}
use Rattle.race_model.specs.Listing.{lane_of}
use Rattle.race_model.specs.Trace.{Trace, Logs, Node, path_eq, record_at, barriers_before}
use Rattle.race_model.specs.Race.{IsAccess, HasByte, IsRacePair, held_at}
use Rattle.race_model.specs.ForkJoin.{IsForkJoin}
use Rattle.writer_laws.specs.Dropping.{only_kept}
use Rattle.writer_laws.specs.Guards.{Guarded, guarded}

-- two fork-join runs, and a race pair that the second one lacks
pub record LosesPair (logs others : Logs) : Type 0 where
  pub run : IsForkJoin logs
  pub other_run : IsForkJoin others
  pub pair : ℕ × ℕ
  pub has : IsRacePair logs pair
  pub lacks : IsRacePair others pair → ⊥

-- an access of eight bytes, with a value; a Lock or Unlock of a mutex; a Region of two lanes; another record
abbrev pub plain_access : Kind → ℕ → ℕ → ℕ → Record
plain_access kind line addr value = record { kind = kind; size = 8; site = 0; line = line; addr = addr; value = value }

abbrev pub of_mutex : Kind → ℕ → Record
of_mutex kind mutex = record { kind = kind; size = 0; site = 0; line = 1; addr = mutex; value = 0 }

abbrev pub fork : Record
fork = record { kind = Region; size = 0; site = 0; line = 1; addr = 0; value = 2 }

abbrev pub mark_of_kind : Kind → Record
mark_of_kind kind = record { kind = kind; size = 0; site = 0; line = 1; addr = 0; value = 0 }

-- the path of a lane of two, in a region of the root, and in a region of a lane
abbrev pub lane : ℕ → ℕ → List Step
lane region n = lane_of [] region n 2

abbrev pub inner_lane : List Step → ℕ → ℕ → List Step
inner_lane path region n = lane_of path region n 2

-- a run of two lanes
abbrev pub two_lanes : List Record → List Record → Trace
two_lanes first second = record { path = []; records = fork ∷ mark_of_kind End ∷ [] } ∷ record { path = lane 0 0; records = first } ∷ record { path = lane 0 1; records = second } ∷ []

-- all but one record is kept
abbrev pub all_but : List Step → ℕ → Node → Bool
all_but path index x = not (path_eq x.path path && (x.index == index))

-- what is asked of an access that stands for another one
pub data Premise : Type 0 where
  OfTask : Premise
  BetweenBarriers : Premise
  OfLine : Premise
  OfBytes : Premise
  OfKind : Premise
  UnderMutexes : Premise

abbrev pub IsMet : Premise → Logs → Node → Record → Node → Record → Type 0
IsMet OfTask logs x r y s = x.path ≡ y.path
IsMet BetweenBarriers logs x r y s = barriers_before logs x ≡ barriers_before logs y
IsMet OfLine logs x r y s = s.line ≡ r.line
IsMet OfBytes logs x r y s = (byte : ℕ) → HasByte r byte → HasByte s byte
IsMet OfKind logs x r y s = (s.kind ≡ r.kind) ⊎ ((r.kind ≡ Read) × (s.kind ≡ Write))
IsMet UnderMutexes logs x r y s = (m : ℕ) → Contains (held_at logs y) m → Contains (held_at logs x) m

-- an access that is kept meets all but one of them
pub record HasAllBut (p : Premise) (keep : Node → Bool) (logs : Logs) (x : Node) (r : Record) : Type 0 where
  pub place : Node
  pub event : Record
  pub found : record_at logs place ≡ Some event
  pub in_it : keep place ≡ true
  pub meets : (q : Premise) → (q ≡ p → ⊥) → IsMet q logs x r place event

-- accesses are left out for which such ones are kept
pub record DropsAllBut (p : Premise) (keep : Node → Bool) (logs others : Logs) : Type 0 where
  pub kept : (path : List Step) → others path ≡ only_kept (λ n. keep (record { path = path; index = n })) (logs path)
  pub accesses : (x : Node) (r : Record) → record_at logs x ≡ Some r → keep x ≡ false → IsAccess r
  pub each : (x : Node) (r : Record) → record_at logs x ≡ Some r → keep x ≡ false → HasAllBut p keep logs x r

-- without that one a pair is lost
pub record LosesWithout (p : Premise) : Type 0 where
  pub keep : Node → Bool
  pub logs : Logs
  pub others : Logs
  pub drops : DropsAllBut p keep logs others
  pub loses : LosesPair logs others

abbrev pub event_of : Guarded → Record
event_of g = g.event

-- two runs that differ in where mutexes are locked and unlocked alone
abbrev pub DifferInLocksAlone : Logs → Logs → Type 0
DifferInLocksAlone logs others = (path : List Step) → map event_of (guarded (logs path)) ≡ map event_of (guarded (others path))

-- a lock that is moved before an access
abbrev pub unlocked_access : Trace
unlocked_access = two_lanes
    (plain_access Write 5 100 0 ∷ of_mutex Lock 1 ∷ of_mutex Unlock 1 ∷ mark_of_kind End ∷ [])
    (of_mutex Lock 1 ∷ plain_access Read 7 100 0 ∷ of_mutex Unlock 1 ∷ mark_of_kind End ∷ [])

abbrev pub locked_access : Trace
locked_access = two_lanes
    (of_mutex Lock 1 ∷ plain_access Write 5 100 0 ∷ of_mutex Unlock 1 ∷ mark_of_kind End ∷ [])
    (of_mutex Lock 1 ∷ plain_access Read 7 100 0 ∷ of_mutex Unlock 1 ∷ mark_of_kind End ∷ [])

-- a region that is cut at a barrier where a mutex is held
abbrev pub held_over_barrier : Trace
held_over_barrier = two_lanes
    (of_mutex Lock 1 ∷ mark_of_kind Barrier ∷ plain_access Write 5 100 0 ∷ of_mutex Unlock 1 ∷ mark_of_kind End ∷ [])
    (mark_of_kind Barrier ∷ of_mutex Lock 1 ∷ plain_access Read 7 100 0 ∷ of_mutex Unlock 1 ∷ mark_of_kind End ∷ [])

abbrev pub cut_where_held : Trace
cut_where_held =
    record { path = []; records = fork ∷ fork ∷ mark_of_kind End ∷ [] }
    ∷ record { path = lane 0 0; records = of_mutex Lock 1 ∷ mark_of_kind End ∷ [] }
    ∷ record { path = lane 0 1; records = mark_of_kind End ∷ [] }
    ∷ record { path = lane 1 0; records = plain_access Write 5 100 0 ∷ of_mutex Unlock 1 ∷ mark_of_kind End ∷ [] }
    ∷ record { path = lane 1 1; records = of_mutex Lock 1 ∷ plain_access Read 7 100 0 ∷ of_mutex Unlock 1 ∷ mark_of_kind End ∷ [] }
    ∷ []

-- a region that is cut at a barrier of a team inside, which the other lane doesn't meet
abbrev pub team_inside : Trace
team_inside =
    record { path = []; records = fork ∷ mark_of_kind End ∷ [] }
    ∷ record { path = lane 0 0; records = fork ∷ mark_of_kind End ∷ [] }
    ∷ record { path = inner_lane (lane 0 0) 0 0; records = mark_of_kind Barrier ∷ plain_access Write 5 100 0 ∷ mark_of_kind End ∷ [] }
    ∷ record { path = inner_lane (lane 0 0) 0 1; records = mark_of_kind Barrier ∷ mark_of_kind End ∷ [] }
    ∷ record { path = lane 0 1; records = plain_access Read 7 100 0 ∷ mark_of_kind End ∷ [] }
    ∷ []

abbrev pub cut_inside : Trace
cut_inside =
    record { path = []; records = fork ∷ fork ∷ mark_of_kind End ∷ [] }
    ∷ record { path = lane 0 0; records = fork ∷ mark_of_kind End ∷ [] }
    ∷ record { path = inner_lane (lane 0 0) 0 0; records = mark_of_kind End ∷ [] }
    ∷ record { path = inner_lane (lane 0 0) 0 1; records = mark_of_kind End ∷ [] }
    ∷ record { path = lane 0 1; records = plain_access Read 7 100 0 ∷ mark_of_kind End ∷ [] }
    ∷ record { path = lane 1 0; records = fork ∷ mark_of_kind End ∷ [] }
    ∷ record { path = inner_lane (lane 1 0) 0 0; records = plain_access Write 5 100 0 ∷ mark_of_kind End ∷ [] }
    ∷ record { path = inner_lane (lane 1 0) 0 1; records = mark_of_kind End ∷ [] }
    ∷ record { path = lane 1 1; records = mark_of_kind End ∷ [] }
    ∷ []

-- a region that is split where its lanes meet no barrier
abbrev pub no_barrier : Trace
no_barrier = two_lanes (plain_access Write 5 100 0 ∷ mark_of_kind End ∷ []) (plain_access Read 7 100 0 ∷ mark_of_kind End ∷ [])

abbrev pub first_half : Trace
first_half = two_lanes (plain_access Write 5 100 0 ∷ mark_of_kind End ∷ []) (mark_of_kind End ∷ [])

abbrev pub second_half : Trace
second_half = two_lanes (mark_of_kind End ∷ []) (plain_access Read 7 100 0 ∷ mark_of_kind End ∷ [])

-- a Region with another span than its lanes
abbrev pub span_changed : Trace
span_changed =
    record { path = []; records = record { kind = Region; size = 0; site = 0; line = 1; addr = 0; value = 1 } ∷ mark_of_kind End ∷ [] }
    ∷ record { path = lane 0 0; records = mark_of_kind End ∷ [] }
    ∷ record { path = lane 0 1; records = mark_of_kind End ∷ [] }
    ∷ []

-- A run to which all laws apply: the root has accesses; lane 0 holds a mutex over a fork and a barrier, and writes the same bytes twice; it
-- forks a team before the barrier and one after it.
abbrev pub nested : List Record → List Record → List Record → Trace
nested root first second =
    record { path = []; records = root }
    ∷ record { path = lane 0 0; records = first }
    ∷ record { path = inner_lane (lane 0 0) 0 0; records = plain_access Write 6 100 0 ∷ mark_of_kind End ∷ [] }
    ∷ record { path = inner_lane (lane 0 0) 0 1; records = mark_of_kind End ∷ [] }
    ∷ record { path = inner_lane (lane 0 0) 1 0; records = plain_access Write 9 300 0 ∷ mark_of_kind End ∷ [] }
    ∷ record { path = inner_lane (lane 0 0) 1 1; records = plain_access Read 10 300 0 ∷ mark_of_kind End ∷ [] }
    ∷ record { path = lane 0 1; records = second }
    ∷ []

abbrev pub reader : List Record
reader = plain_access Read 7 100 0 ∷ mark_of_kind Barrier ∷ plain_access Read 11 200 0 ∷ mark_of_kind End ∷ []

abbrev pub whole_run : Trace
whole_run = nested (plain_access Write 3 400 7 ∷ fork ∷ plain_access Read 4 400 7 ∷ mark_of_kind End ∷ [])
    (of_mutex Lock 1 ∷ plain_access Write 5 100 7 ∷ fork ∷ plain_access Write 5 100 8 ∷ mark_of_kind Barrier ∷ fork ∷ plain_access Write 8 200 7 ∷ of_mutex Unlock 1 ∷ mark_of_kind End ∷ []) reader

abbrev pub without_root : Trace
without_root = nested (fork ∷ mark_of_kind End ∷ [])
    (of_mutex Lock 1 ∷ plain_access Write 5 100 7 ∷ fork ∷ plain_access Write 5 100 8 ∷ mark_of_kind Barrier ∷ fork ∷ plain_access Write 8 200 7 ∷ of_mutex Unlock 1 ∷ mark_of_kind End ∷ []) reader

abbrev pub without_repeated : Trace
without_repeated = nested (fork ∷ mark_of_kind End ∷ [])
    (of_mutex Lock 1 ∷ plain_access Write 5 100 7 ∷ fork ∷ mark_of_kind Barrier ∷ fork ∷ plain_access Write 8 200 7 ∷ of_mutex Unlock 1 ∷ mark_of_kind End ∷ []) reader

abbrev pub with_locks_moved : Trace
with_locks_moved = nested (fork ∷ mark_of_kind End ∷ [])
    (of_mutex Lock 1 ∷ plain_access Write 5 100 7 ∷ of_mutex Unlock 1 ∷ fork ∷ mark_of_kind Barrier ∷ fork ∷ of_mutex Lock 1 ∷ plain_access Write 8 200 7 ∷ of_mutex Unlock 1 ∷ mark_of_kind End ∷ []) reader

abbrev pub without_values : Trace
without_values = nested (fork ∷ mark_of_kind End ∷ [])
    (of_mutex Lock 1 ∷ plain_access Write 5 100 0 ∷ of_mutex Unlock 1 ∷ fork ∷ mark_of_kind Barrier ∷ fork ∷ of_mutex Lock 1 ∷ plain_access Write 8 200 0 ∷ of_mutex Unlock 1 ∷ mark_of_kind End ∷ []) reader

-- the team before the barrier, and the one after it, in a region of the root of this number
abbrev pub early_part : ℕ → Trace
early_part region =
    record { path = lane region 0; records = of_mutex Lock 1 ∷ plain_access Write 5 100 0 ∷ of_mutex Unlock 1 ∷ fork ∷ mark_of_kind End ∷ [] }
    ∷ record { path = inner_lane (lane region 0) 0 0; records = plain_access Write 6 100 0 ∷ mark_of_kind End ∷ [] }
    ∷ record { path = inner_lane (lane region 0) 0 1; records = mark_of_kind End ∷ [] }
    ∷ record { path = lane region 1; records = plain_access Read 7 100 0 ∷ mark_of_kind End ∷ [] }
    ∷ []

abbrev pub late_part : ℕ → Trace
late_part region =
    record { path = lane region 0; records = fork ∷ of_mutex Lock 1 ∷ plain_access Write 8 200 0 ∷ of_mutex Unlock 1 ∷ mark_of_kind End ∷ [] }
    ∷ record { path = inner_lane (lane region 0) 0 0; records = plain_access Write 9 300 0 ∷ mark_of_kind End ∷ [] }
    ∷ record { path = inner_lane (lane region 0) 0 1; records = plain_access Read 10 300 0 ∷ mark_of_kind End ∷ [] }
    ∷ record { path = lane region 1; records = plain_access Read 11 200 0 ∷ mark_of_kind End ∷ [] }
    ∷ []

abbrev pub cut_run : Trace
cut_run = record { path = []; records = fork ∷ fork ∷ mark_of_kind End ∷ [] } ∷ early_part 0 ++ late_part 1

abbrev pub first_folder : Trace
first_folder = record { path = []; records = fork ∷ mark_of_kind End ∷ [] } ∷ early_part 0

abbrev pub second_folder : Trace
second_folder = record { path = []; records = fork ∷ mark_of_kind End ∷ [] } ∷ late_part 0

-- the root's accesses aren't kept
abbrev pub no_root_access : Node → Bool
no_root_access x = all_but [] 0 x && all_but [] 2 x
