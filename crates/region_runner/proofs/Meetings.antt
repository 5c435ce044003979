-- What the closures of a team promise, by what they do with its hands.
use Rattle.std.proofs.Common.{◌≡◌, ◌∙◌, sym, subst, ℕ, ◌+◌, ◌<◌, List, length, map, slice_index_or, refl}
use Rattle.std.specs.Prelude.{Bool, true, false}
use Rattle.std.proofs.lemmas.List.{map-id}
use denote.Ref.{MutBor}
use Rattle.std.specs.Global.{Vec}
use Rattle.kernel_model.specs.declared.phase.Item.{Item}
use Rattle.shared_words.specs.declared.view.View.{View}
use Rattle.shared_words.specs.Handles.{Belongs, HandValue}
use Rattle.lane_runner.specs.Lane.{LaneValue}
use Rattle.team_live.specs.Phases.{After, Begins, EachDid, Ends, Ran}
use Rattle.region_runner.specs.Hands.{IsLaneHand}
use Rattle.region_runner.specs.Meeting.{MeetsSo, PartsHands}
use Rattle.region_runner.specs.Crew.{CrewValue}
use Rattle.region_runner.specs.Plan.{CanBegin, Did, IsParted, MayDo, PlanValue, StandsAt, LeavesOff, TeamValue, of_lane, of_lanes, of_step, team_of_plan}
use Rattle.region_runner.specs.Stands.{TeamRan}
use Rattle.region_runner.proofs.Plans.{all_home, goes_on, may_do, parted_belongs, stood_belongs, stops_at}

abbrev seen : LaneValue → LaneValue
seen m = m

-- lanes that are seen as they are
bare : (P : ℕ → HandValue View → List LaneValue → Type 0) (number : ℕ) (hand : HandValue View) (lanes : List LaneValue) → of_lanes seen P number hand lanes → P number hand lanes
bare P number hand lanes f = subst (λ (ms : List LaneValue). P number hand ms) (map-id lanes) f

veiled : (P : ℕ → HandValue View → List LaneValue → Type 0) (number : ℕ) (hand : HandValue View) (lanes : List LaneValue) → P number hand lanes → of_lanes seen P number hand lanes
veiled P number hand lanes f = subst (λ (ms : List LaneValue). P number hand ms) (sym (map-id lanes)) f

module _ (t : TeamValue) (can : CanBegin t) (n : ℕ) (span : n ≡ t.plan.crew.span) where
  pub team_begins : {accepts : MutBor (HandValue View) → MutBor (Vec LaneValue) → Type 0} {gives : MutBor (HandValue View) → MutBor (Vec LaneValue) → Unit {0} → MutBor (HandValue View) → MutBor (Vec LaneValue) → Type 0}
      → ((hand : MutBor (HandValue View)) (lanes : MutBor (Vec LaneValue)) → Belongs hand.now t.plan.ground.words.table → length lanes.now.items ≡ t.plan.crew.span → accepts hand lanes)
      → ((hand after : MutBor (HandValue View)) (lanes lanes' : MutBor (Vec LaneValue)) → gives hand lanes tt after lanes' → PartsHands t.plan.crew.span hand.now after.now lanes.now.items lanes'.now.items)
      → Begins accepts gives n (length t.plan.phases) (of_lanes seen (StandsAt t)) (of_lanes seen (IsParted t)) (of_lane seen (MayDo t.plan))
  team_begins accepted given = record {
    accepted = λ number hand lanes within count stands. accepted hand lanes (stood_belongs t can number within hand.now lanes.now.items (bare (StandsAt t) number hand.now lanes.now.items stands)) (count ∙ span);
    count = λ number hand after lanes lanes' within count stands gave. (given hand after lanes lanes' gave).count ∙ sym span;
    parts = λ number hand after lanes lanes' within count stands gave.
        veiled (IsParted t) number after.now lanes'.now.items
        (record { home = hand.now; prev = lanes.now.items; passed = (bare (StandsAt t) number hand.now lanes.now.items stands).passed within; parts = given hand after lanes lanes' gave });
    ready = λ number hand lanes within count parted index d less.
        may_do t can number within hand lanes (bare (IsParted t) number hand lanes parted) index d (subst (λ (m : ℕ). index < m) (count ∙ span) less);
  }

  pub team_ends : {accepts : MutBor (HandValue View) → MutBor (Vec LaneValue) → Type 0} {gives : MutBor (HandValue View) → MutBor (Vec LaneValue) → Bool → MutBor (HandValue View) → MutBor (Vec LaneValue) → Type 0}
      → ((hand : MutBor (HandValue View)) (lanes : MutBor (Vec LaneValue)) → Belongs hand.now t.plan.ground.words.table
      → ((k : ℕ) (d : LaneValue) → k < length lanes.now.items → IsLaneHand t.plan.ground.words.table hand.now.view.name (slice_index_or lanes.now.items k d).hand) → accepts hand lanes)
      → ((hand after : MutBor (HandValue View)) (lanes lanes' : MutBor (Vec LaneValue)) (goes : Bool) → gives hand lanes goes after lanes' → MeetsSo goes hand.now after.now lanes.now.items lanes'.now.items)
      → Ends accepts gives n (length t.plan.phases) (of_lanes seen (StandsAt t)) (of_lanes seen (IsParted t)) (of_lanes seen (LeavesOff t)) (of_step seen (Did t.plan))
  team_ends accepted given = record {
    accepted = λ number hand before lanes within count parted did.
        let were = bare (IsParted t) number hand.now before parted in
        accepted hand lanes (parted_belongs t can number within hand.now before were) (all_home t can number within hand.now before were lanes.now.items did);
    count = λ number goes hand after before lanes lanes' within count parted did gave. (given hand after lanes lanes' goes gave).joins.count ∙ did.count ∙ count;
    ends = λ number goes hand after before lanes lanes' within count parted did gave.
        by number goes hand.now after.now before lanes.now.items lanes'.now.items within (bare (IsParted t) number hand.now before parted) did (given hand after lanes lanes' goes gave);
  }
    where
      by : (number : ℕ) (goes : Bool) (hand after : HandValue View) (before lanes lanes' : List LaneValue) → number < length t.plan.phases → IsParted t number hand before → EachDid (Did t.plan) number before lanes → MeetsSo goes hand after lanes lanes'
          → After (of_lanes seen (StandsAt t)) (of_lanes seen (LeavesOff t)) number after lanes' goes
      by number true hand after before lanes lanes' within parted did meets =
          veiled (StandsAt t) (number + 1) after lanes' (goes_on t can number within hand before parted lanes did after lanes' meets.joins (meets.all refl))
      by number false hand after before lanes lanes' within parted did meets =
          veiled (LeavesOff t) number after lanes' (stops_at t can number within hand before parted lanes did after lanes' meets.joins (meets.some refl))

-- a team begins with the hand that was taken from its place
pub begun : (plan : PlanValue) (hand own : HandValue View) (lanes : List LaneValue) → own ≡ hand → CanBegin (team_of_plan plan hand lanes) → CanBegin (team_of_plan plan own (map seen lanes))
begun plan hand own lanes same can =
    subst (λ (h : HandValue View). CanBegin (team_of_plan plan h (map seen lanes))) (sym same) (subst (λ (ms : List LaneValue). CanBegin (team_of_plan plan hand ms)) (sym (map-id lanes)) can)

pub ran_bare : (crew : CrewValue) (items : List (List Item)) (line : ℕ) (hand own new : HandValue View) (before after : List LaneValue) → own ≡ hand → TeamRan crew items line own new (map seen before) (map seen after) → TeamRan crew items line hand new before after
ran_bare crew items line hand own new before after same ran =
    subst (λ (h : HandValue View). TeamRan crew items line h new before after) same
    (subst (λ (ms : List LaneValue). TeamRan crew items line own new ms after) (map-id before)
    (subst (λ (ms : List LaneValue). TeamRan crew items line own new (map seen before) ms) (map-id after) ran))

-- what a team did, whether it did all its phases or stopped
pub ran_so : {M : Type 0} (see : M → LaneValue) (t : TeamValue) (hand : HandValue View) (lanes : List M) (whole : Bool) → Ran (of_lanes see (StandsAt t)) (of_lanes see (LeavesOff t)) (length t.plan.phases) hand lanes whole
    → TeamRan t.plan.crew t.plan.phases t.plan.line t.hand hand t.lanes (map see lanes)
ran_so see t hand lanes true r = r.ran refl
ran_so see t hand lanes false r = r.is
