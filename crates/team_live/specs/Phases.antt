-- What a team does in its phases, by what its closures accept and what they give.
use Rattle.std.specs.Prelude.{◌≡◌, ℕ, ◌+◌, ◌<◌, Bool, true, false, List, length, slice_index_or}
use denote.Ref.{MutBor}
use Rattle.std.specs.Global.{Vec}

module _ {M : Type 0} where
  -- each lane may do its part of the phase
  abbrev pub EachMay : (ℕ → ℕ → M → Type 0) → ℕ → List M → Type 0
  EachMay may number lanes = (index : ℕ) (d : M) → index < length lanes → may number index (slice_index_or lanes index d)

  -- each lane did its part of the phase, and all are at their places
  pub record EachDid (did : ℕ → ℕ → M → M → Type 0) (number : ℕ) (before after : List M) : Type 0 where
    pub count : length after ≡ length before
    pub each : (index : ℕ) (d : M) → index < length before → did number index (slice_index_or before index d) (slice_index_or after index d)

  -- what a lane's thread may give back: the same lane, which did its part of the phase
  pub record IsBack (did : ℕ → ℕ → M → M → Type 0) (number index : ℕ) (lane : M) (number' index' : ℕ) (lane' : M) : Type 0 where
    pub same_number : number' ≡ number
    pub same_index : index' ≡ index
    pub done : did number index lane lane'

  -- The closure takes each lane that may do its part of a phase, and does it.
  pub record RunsTasks (accepts : ℕ → ℕ → MutBor M → Type 0) (gives : ℕ → ℕ → MutBor M → Unit {0} → MutBor M → Type 0) (may : ℕ → ℕ → M → Type 0) (did : ℕ → ℕ → M → M → Type 0) : Type 0 where
    pub accepted : (number index : ℕ) (lane : MutBor M) → may number index lane.now → accepts number index lane
    pub done : (number index : ℕ) (lane after : MutBor M) → may number index lane.now → gives number index lane tt after → did number index lane.now after.now

module _ {H M : Type 0} where
  -- The closure parts the lanes of a team of this many lanes before each of its phases: then each may do its part.
  pub record Begins (accepts : MutBor H → MutBor (Vec M) → Type 0) (gives : MutBor H → MutBor (Vec M) → Unit {0} → MutBor H → MutBor (Vec M) → Type 0) (span phases : ℕ) (stands parted : ℕ → H → List M → Type 0)
      (may : ℕ → ℕ → M → Type 0) : Type 0 where
    pub accepted : (number : ℕ) (hand : MutBor H) (lanes : MutBor (Vec M)) → number < phases → length lanes.now.items ≡ span → stands number hand.now lanes.now.items → accepts hand lanes
    pub count : (number : ℕ) (hand after : MutBor H) (lanes lanes' : MutBor (Vec M)) → number < phases → length lanes.now.items ≡ span → stands number hand.now lanes.now.items → gives hand lanes tt after lanes'
        → length lanes'.now.items ≡ span
    pub parts : (number : ℕ) (hand after : MutBor H) (lanes lanes' : MutBor (Vec M)) → number < phases → length lanes.now.items ≡ span → stands number hand.now lanes.now.items → gives hand lanes tt after lanes'
        → parted number after.now lanes'.now.items
    pub ready : (number : ℕ) (hand : H) (lanes : List M) → number < phases → length lanes ≡ span → parted number hand lanes → EachMay may number lanes

  -- how the team stands after the phase of this number, by whether it goes on
  abbrev pub After : (ℕ → H → List M → Type 0) → (ℕ → H → List M → Type 0) → ℕ → H → List M → Bool → Type 0
  After stands stopped number hand lanes true = stands (number + 1) hand lanes
  After stands stopped number hand lanes false = stopped number hand lanes

  -- The closure joins the lanes after each phase, when all have done their parts, and says whether the team goes on.
  pub record Ends (accepts : MutBor H → MutBor (Vec M) → Type 0) (gives : MutBor H → MutBor (Vec M) → Bool → MutBor H → MutBor (Vec M) → Type 0) (span phases : ℕ) (stands parted stopped : ℕ → H → List M → Type 0)
      (did : ℕ → ℕ → M → M → Type 0) : Type 0 where
    pub accepted : (number : ℕ) (hand : MutBor H) (before : List M) (lanes : MutBor (Vec M)) → number < phases → length before ≡ span → parted number hand.now before → EachDid did number before lanes.now.items → accepts hand lanes
    pub count : (number : ℕ) (goes : Bool) (hand after : MutBor H) (before : List M) (lanes lanes' : MutBor (Vec M)) → number < phases → length before ≡ span → parted number hand.now before → EachDid did number before lanes.now.items
        → gives hand lanes goes after lanes' → length lanes'.now.items ≡ span
    pub ends : (number : ℕ) (goes : Bool) (hand after : MutBor H) (before : List M) (lanes lanes' : MutBor (Vec M)) → number < phases → length before ≡ span → parted number hand.now before → EachDid did number before lanes.now.items
        → gives hand lanes goes after lanes' → After stands stopped number after.now lanes'.now.items goes

  -- What the closures of a team of this many lanes keep in each of its phases: the lanes are parted, do their parts, and are joined.
  pub record DoesPhases (task_accepts : ℕ → ℕ → MutBor M → Type 0) (task_gives : ℕ → ℕ → MutBor M → Unit {0} → MutBor M → Type 0) (part_accepts : MutBor H → MutBor (Vec M) → Type 0)
      (part_gives : MutBor H → MutBor (Vec M) → Unit {0} → MutBor H → MutBor (Vec M) → Type 0) (meet_accepts : MutBor H → MutBor (Vec M) → Type 0) (meet_gives : MutBor H → MutBor (Vec M) → Bool → MutBor H → MutBor (Vec M) → Type 0)
      (span phases : ℕ) (stands parted stopped : ℕ → H → List M → Type 0) (may : ℕ → ℕ → M → Type 0) (did : ℕ → ℕ → M → M → Type 0) : Type 0 where
    pub tasks : RunsTasks task_accepts task_gives may did
    pub begins : Begins part_accepts part_gives span phases stands parted may
    pub ends : Ends meet_accepts meet_gives span phases stands parted stopped did

  -- all lanes did their parts of the phase of this number, for which they were parted so
  pub record AreHome (parted : ℕ → H → List M → Type 0) (did : ℕ → ℕ → M → M → Type 0) (span number : ℕ) (hand : H) (lanes : List M) : Type 0 where
    pub before : List M
    pub count : length before ≡ span
    pub were : parted number hand before
    pub each : EachDid did number before lanes

  -- the team stopped in one of its phases
  pub record HasStopped (stopped : ℕ → H → List M → Type 0) (phases : ℕ) (hand : H) (lanes : List M) : Type 0 where
    pub number : ℕ
    pub within : number < phases
    pub is : stopped number hand lanes

  -- the team did all its phases, or stopped in one of them
  abbrev pub Ran : (ℕ → H → List M → Type 0) → (ℕ → H → List M → Type 0) → ℕ → H → List M → Bool → Type 0
  Ran stands stopped phases hand lanes true = stands phases hand lanes
  Ran stands stopped phases hand lanes false = HasStopped stopped phases hand lanes
