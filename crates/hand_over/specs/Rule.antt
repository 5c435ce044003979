-- The rule of the table: each lane is at some stage, which no clause fixes, and its word, its slot, the desk and its place agree
-- on it. The desk has seat 0, and the place of a lane the seat with the number after it.
use Rattle.std.specs.Prelude.{◌≡◌, ℕ, zero, suc, ◌+◌, ◌<◌, ◌≤◌, true, false, length, slice_index, Option}
use mathlib.Core.Option.{some}
use lib.ListN.{get_elem?}
use Rattle.atomic_table.specs.Table.{State}
use Rattle.hand_over.specs.Stages.{Stage, Resting, Ended, word_of, home_of, turn_of, took_of, is_filling, IsSound}
use Rattle.hand_over.specs.Views.{turn_at, is_opened}
use Rattle.hand_over.specs.declared.view.View.{View}

module _ {A P : Type 0} where
  -- the desk knows the turns of the lanes whose places are made, and holds at most one slot
  pub record KnowsLanes (about : A) (count : ℕ) (stage : ℕ → Stage P) (v : View A P) : Type 0 where
    pub is_desk : v.is_desk ≡ true
    pub told : v.about ≡ about
    pub counted : suc (length v.turns) ≡ count
    pub turns : (lane : ℕ) → lane < length v.turns → turn_at v.turns lane ≡ turn_of (stage lane)
    pub opened : (lane : ℕ) → is_opened v.opened lane ≡ is_filling (stage lane)

  -- the place of this lane knows what it took, and what is closed has ended
  pub record KnowsLane (about : A) (stage : ℕ → Stage P) (lane : ℕ) (v : View A P) : Type 0 where
    pub isnt_desk : v.is_desk ≡ false
    pub told : v.about ≡ about
    pub own : v.lane ≡ lane
    pub took : v.took ≡ took_of (stage lane)
    pub closed : v.closed ≡ true → stage lane ≡ Ended

  abbrev pub Knows : A → ℕ → (ℕ → Stage P) → ℕ → View A P → Type 0
  Knows about count stage zero v = KnowsLanes about count stage v
  Knows about count stage (suc lane) v = KnowsLane about stage lane v

  pub record Kept (fits : A → P → Type 0) (follows : A → P → P → Type 0) (about : A) (s : State (Option P) (View A P)) : Type 0 where
    pub stage : ℕ → Stage P
    pub count : ℕ
    pub counted : length s.views ≡ count
    pub wide : length s.words ≡ length s.homes
    pub sound : (lane : ℕ) → IsSound fits follows about (stage lane)
    pub word : (lane : ℕ) → lane < length s.homes → slice_index s.words lane ≡ word_of (stage lane)
    pub home : (lane : ℕ) → lane < length s.homes → get_elem? s.homes lane ≡ some (home_of (stage lane))
    pub unmade : (lane : ℕ) → count ≤ lane + 1 → stage lane ≡ Resting
    pub each : (id : ℕ) (v : View A P) → get_elem? s.views id ≡ some v → Knows about count stage id v
