-- Groups of segments in parts, and the conflicts of runs of different parts.
use Rattle.std.specs.Prelude.{◌≡◌, ◌↔◌, ℕ, List, map}
use Rattle.std.specs.Borrow.{Bor}
use Rattle.log_segment.specs.declared.segment.Segment.{Segment}
use Rattle.stride_summary.specs.declared.run.Run.{Run}
use Rattle.pair_compare.specs.Conflict.{IsLinesOf, OneHas}
use Rattle.pair_compare.specs.declared.group.Group.{Group}
use Rattle.pair_compare.specs.declared.member.Member.{Member}

-- the segments that are pointed to
abbrev pub pointed : List (Bor Segment) → List Segment
pointed refs = map (λ r. r.now) refs

-- the line pair of a conflict of two of some runs whose parts have different numbers
pub record IsPartedPair (Has : ℕ × Run → Type 0) (pair : ℕ × ℕ) : Type 0 where
  pub a : ℕ × Run
  pub b : ℕ × Run
  pub a_in : Has a
  pub b_in : Has b
  pub apart : a.0 ≡ b.0 → ⊥
  pub lines : IsLinesOf a.1 b.1 pair

-- a run with the number of its part
abbrev pub IsNumbered : ℕ → Run → ℕ × Run → Type 0
IsNumbered part run numbered = numbered ≡ (part, run)

-- one of the member's runs
abbrev pub IsRunOf : Member → ℕ × Run → Type 0
IsRunOf member numbered = OneHas (IsNumbered member.part) member.runs.now numbered

-- the line pair of a conflict of runs of members of different parts
abbrev pub IsGroupPair : Group → ℕ × ℕ → Type 0
IsGroupPair group pair = IsPartedPair (OneHas IsRunOf group.members.items) pair

-- the members have the same runs, of the same part
pub record IsSameMember (old new : Member) : Type 0 where
  pub part : new.part ≡ old.part
  pub runs : new.runs.now ≡ old.runs.now

-- the groups have the same runs
abbrev pub IsSameGroup : Group → Group → Type 0
IsSameGroup old new = (numbered : ℕ × Run) → OneHas IsRunOf new.members.items numbered ↔ OneHas IsRunOf old.members.items numbered

-- a call that measures keeps the group's runs
pub record KeepsGroup (old new : Group) : Type 0 where
  pub same : IsSameGroup old new
