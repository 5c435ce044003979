-- The numbers that hands draw from counters, one for each loop (OpenMP 5.2, worksharing loops with a dynamic schedule).
use Rattle.std.specs.Prelude.{◌≡◌, ℕ, ◌+◌, ◌-◌, ◌*◌, ◌≤◌, Bool, true, false, ◌==◌, nat_lt, if◌then◌else◌, List, [], ◌∷◌, ◌++◌, length, count_by, sum_by, slice_index}
use mathlib.Core.Option.{some}
use lib.ListN.{get_elem?}
use Rattle.atomic_table.specs.Table.{State, Me, Step}
use Rattle.shared_words.specs.declared.share.Share.{Share}

-- how often a hand may draw, and how often the first hand may be split
abbrev pub DRAWS : ℕ
DRAWS = 4194304

abbrev pub SPLITS : ℕ
SPLITS = 8388608

-- the numbers drawn for one loop, in order
abbrev pub numbers : ℕ → List (ℕ × ℕ) → List ℕ
numbers loop [] = []
numbers loop (d ∷ drawn) = if d.0 == loop then d.1 ∷ numbers loop drawn else numbers loop drawn

abbrev pub times : ℕ → List ℕ → ℕ
times x xs = count_by (λ (y : ℕ). y == x) xs

abbrev pub once_below : ℕ → ℕ → ℕ
once_below n x = if nat_lt x n then 1 else 0

-- they are the numbers below some number, each once
pub record AreEachOnce (xs : List ℕ) : Type 0 where
  pub limit : ℕ
  pub once : (x : ℕ) → times x xs ≡ once_below limit x

-- the hand that is made with the counters, a hand that is split off, and one that was joined
abbrev pub whole_share : Share
whole_share = record { first = true; live = true; splits = 0; out = 0; left = DRAWS; drawn = [] }

abbrev pub lent_share : Share
lent_share = record { first = false; live = true; splits = 0; out = 0; left = DRAWS; drawn = [] }

abbrev pub used_up : Share
used_up = record { first = false; live = false; splits = 0; out = 0; left = 0; drawn = [] }

abbrev pub IsLive : Share → Type 0
IsLive v = v.live ≡ true

-- what the calls do to a hand's share
abbrev pub drew : Share → ℕ → ℕ → Share
drew v loop number = record v { left = v.left - 1; drawn = v.drawn ++ (loop, number) ∷ [] }

abbrev pub lent : Share → Share
lent v = record v { splits = v.splits + 1; out = v.out + 1 }

abbrev pub regained : Share → Share → Share
regained v w = record v { out = v.out - 1; drawn = v.drawn ++ w.drawn }

-- it is the first hand, and all others are joined
pub record IsFirstAlone (v : Share) : Type 0 where
  pub first : v.first ≡ true
  pub none_out : v.out ≡ 0

-- of each loop the numbers below some number were drawn, each once
abbrev pub HasEachOnce : Share → Type 0
HasEachOnce v = (loop : ℕ) → AreEachOnce (numbers loop v.drawn)

abbrev Seen : Type 0
Seen = Me (Unit {0}) Share

-- the number found was drawn for the word's loop
pub record Drawing (step : Step (Unit {0})) (me : Seen) (found : ℕ) (after : Seen) : Type 0 where
  pub drawn : after ≡ (drew me.0 (step.word - 1) found, me.1)
  pub all : IsFirstAlone me.0 → HasEachOnce (drew me.0 (step.word - 1) found)

-- nothing happened, and who has all knows it
pub record Looking (step : Step (Unit {0})) (me : Seen) (found : ℕ) (after : Seen) : Type 0 where
  pub same : after ≡ me
  pub all : IsFirstAlone me.0 → HasEachOnce me.0

abbrev pub one_if : Bool → ℕ
one_if true = 1
one_if false = 0

-- 1 for a hand that was split off and isn't joined
abbrev pub is_lent : Share → ℕ
is_lent v = if v.first then 0 else one_if v.live

-- how often the number was drawn for the loop
abbrev pub drawn_times : ℕ → ℕ → Share → ℕ
drawn_times loop x v = times x (numbers loop v.drawn)

abbrev pub draw_count : Share → ℕ
draw_count v = length v.drawn

abbrev pub budget : Share → ℕ
budget v = length v.drawn + v.left

-- the share of one seat
pub record KeepsShare (views : List Share) (v : Share) : Type 0 where
  pub counted : v.first ≡ true → (sum_by is_lent views ≡ v.out) × (length views ≡ v.splits + 1)
  pub within : v.splits ≤ SPLITS
  pub empty : v.live ≡ false → (v.drawn ≡ []) × (v.first ≡ false)

-- The rule of the counters: word 0 is free, and each further word is the counter of a loop. Of each loop the numbers below its
-- counter were drawn, each once.
pub record Dealt (loops : ℕ) (s : State (Unit {0}) Share) : Type 0 where
  pub wide : length s.words ≡ 1 + loops
  pub once : (loop x : ℕ) → sum_by (drawn_times loop x) s.views ≡ once_below (slice_index s.words (1 + loop)) x
  pub bounded : (loop : ℕ) → slice_index s.words (1 + loop) ≤ sum_by draw_count s.views
  pub allowed : sum_by budget s.views ≤ DRAWS * length s.views
  pub short : length s.views ≤ SPLITS + 1
  pub one_first : sum_by (λ (v : Share). one_if v.first) s.views ≡ 1
  pub each : (id : ℕ) (v : Share) → get_elem? s.views id ≡ some v → KeepsShare s.views v
