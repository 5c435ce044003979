-- Stretches of bytes in which the addresses of runs lie, and those that meet.
use Rattle.std.specs.Prelude.{◌≡◌, ◌⊎◌, ℕ, ◌+◌, ◌-◌, ◌<◌, ◌≤◌, List, Bool, false, true, nat_le, Contains, IsTrue}
use Rattle.stride_summary.specs.declared.run.Run.{Run}
use Rattle.stride_summary.specs.Run.{address_at, last_byte}
use Rattle.pair_compare.specs.Conflict.{IsLinesOf, IsRunConflict}
use Rattle.pair_compare.specs.declared.active.Active.{Active}
use Rattle.pair_compare.specs.declared.hull.Hull.{Hull}

-- a run, the number of its part, and a stretch of bytes
pub record Reach : Type 0 where
  pub part : ℕ
  pub run : Run
  pub low : ℕ
  pub high : ℕ

-- the first and the last byte at the address of a place of the run
abbrev pub bytes_at : Run → ℕ → ℕ × ℕ
bytes_at run place = (address_at run place, address_at run place + (run.size - 1))

-- a stretch of the run: the bytes at one address if it has at most so many, and else from its first byte to its last
pub data IsStretch (singly : ℕ) (run : Run) (bytes : ℕ × ℕ) : Type 0 where
  Single : (place : ℕ) → run.count ≤ singly → place < run.count → bytes ≡ bytes_at run place → IsStretch singly run bytes
  Whole : singly < run.count → bytes ≡ (run.base, last_byte run) → IsStretch singly run bytes

-- a reach of the run, which is of this part
pub record IsReachOf (singly part : ℕ) (run : Run) (reach : Reach) : Type 0 where
  pub of_part : reach.part ≡ part
  pub of_run : reach.run ≡ run
  pub stretch : IsStretch singly run (reach.low, reach.high)

-- the line pair of a conflict of two runs of different parts: the second begins where the first reaches, and not before a byte
pub record IsMetPair (from : ℕ) (Has : Reach → Type 0) (pair : ℕ × ℕ) : Type 0 where
  pub a : Reach
  pub b : Reach
  pub a_in : Has a
  pub b_in : Has b
  pub apart : a.part ≡ b.part → ⊥
  pub begins : a.low ≤ b.low
  pub reaches : b.low ≤ a.high
  pub late : from ≤ b.low
  pub lines : IsLinesOf a.run b.run pair

abbrev pub reach_of : Hull → Reach
reach_of hull = record { part = hull.part; run = hull.run.now; low = hull.low; high = hull.high }

abbrev pub IsHullOf : Hull → Reach → Type 0
IsHullOf hull reach = reach ≡ reach_of hull

-- the line pair of a conflict of two runs of different parts
pub record IsHullPair (a b : Hull) (pair : ℕ × ℕ) : Type 0 where
  pub apart : a.part ≡ b.part → ⊥
  pub lines : IsLinesOf a.run.now b.run.now pair

-- the hull doesn't end before the byte
abbrev pub reaches : ℕ → Hull → Bool
reaches byte hull = nat_le byte hull.high

-- one of the active hulls
abbrev pub IsActive : Active → Hull → Type 0
IsActive active hull = Contains active.reads.list.items hull ⊎ Contains active.updates.list.items hull ⊎ Contains active.writes.list.items hull

-- the reads don't write, and the updates are atomic
pub record AreOfKind (active : Active) : Type 0 where
  pub reads : (hull : Hull) → Contains active.reads.list.items hull → hull.run.now.write ≡ false
  pub updates : (hull : Hull) → Contains active.updates.list.items hull → hull.run.now.atomic ≡ true

-- only hulls that end before the byte were dropped, and where it is asked for all of them
pub record DropsBefore (low : ℕ) (every : Bool) (old new : List Hull) : Type 0 where
  pub kept : (other : Hull) → Contains old other → low ≤ other.high → Contains new other
  pub only : (other : Hull) → Contains new other → Contains old other
  pub ended : IsTrue every → (other : Hull) → Contains new other → low ≤ other.high

-- of what was active only hulls that end before this one were dropped, and all of them that conflict with it
pub record DropsEnded (hull : Hull) (old new : Active) : Type 0 where
  pub kept : (other : Hull) → IsActive old other → hull.low ≤ other.high → IsActive new other
  pub only : (other : Hull) → IsActive new other → IsActive old other
  pub ended : (other : Hull) → IsActive new other → IsRunConflict hull.run.now other.run.now → hull.low ≤ other.high
  pub kinds : AreOfKind new

-- one more hull is active
pub record AddsHull (hull : Hull) (old new : Active) : Type 0 where
  pub own : IsActive new hull
  pub kept : (other : Hull) → IsActive old other → IsActive new other
  pub only : (other : Hull) → IsActive new other → IsActive old other ⊎ (hull ≡ other)
  pub kinds : AreOfKind new

-- of what was active only what ends before one of the hulls was dropped
pub record DropsOnlyEnded (hulls : List Hull) (old new : Active) : Type 0 where
  pub kept : (other : Hull) (byte : ℕ) → IsActive old other → byte ≤ other.high → ((hull : Hull) → Contains hulls hull → hull.low ≤ byte) → IsActive new other
  pub only : (other : Hull) → IsActive new other → IsActive old other
  pub kinds : AreOfKind new

-- the hulls are active, too
pub record AddsHulls (hulls : List Hull) (old new : Active) : Type 0 where
  pub own : (hull : Hull) → Contains hulls hull → IsActive new hull
  pub kept : (other : Hull) → IsActive old other → IsActive new other
  pub only : (other : Hull) → IsActive new other → IsActive old other ⊎ Contains hulls other
  pub kinds : AreOfKind new

-- the hulls that a later one may meet are active, too
pub record OpensHulls (hulls later : List Hull) (old new : Active) : Type 0 where
  pub own : (hull other : Hull) → Contains hulls hull → Contains later other → IsActive new hull ⊎ (hull.high < other.low)
  pub kept : (other : Hull) → IsActive old other → IsActive new other
  pub only : (other : Hull) → IsActive new other → IsActive old other ⊎ Contains hulls other
  pub kinds : AreOfKind new

-- the line pair of the hull and an active one, where the hull doesn't begin before the byte
pub record IsActivePair (from : ℕ) (hull : Hull) (active : Active) (pair : ℕ × ℕ) : Type 0 where
  pub late : from ≤ hull.low
  pub other : Hull
  pub among : IsActive active other
  pub lines : IsHullPair hull other pair

-- the same of an active one that doesn't end before the hull
pub record IsReachedPair (from : ℕ) (hull : Hull) (active : Active) (pair : ℕ × ℕ) : Type 0 where
  pub two : IsActivePair from hull active pair
  pub meets : hull.low ≤ two.other.high
