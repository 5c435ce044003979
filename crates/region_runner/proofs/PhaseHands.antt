-- The hands of a phase: a lane can go on with its own, and it comes home.
use Rattle.std.proofs.Common.{◌≡◌, refl, ap, sym, ◌∙◌, ℕ, zero, suc, ◌+◌, List, ◌∷◌, map, Option}
use Rattle.step_history.specs.History.{Name}
use Rattle.kernel_model.specs.declared.phase.Item.{Item}
use Rattle.kernel_model.specs.Parts.{bar_count}
use Rattle.kernel_model.specs.Phases.{part_of}
use Rattle.shared_words.specs.declared.view.View.{View}
use Rattle.shared_words.specs.Handles.{Belongs, HandValue}
use Rattle.shared_words.specs.Views.{parted, split_number}
use Rattle.lane_runner.specs.Going.{site}
use Rattle.lane_runner.proofs.Phases.{stays}
use Rattle.region_runner.specs.LastPhase.{WentOn, phase_part}
use Rattle.region_runner.specs.Crew.{CrewValue, world_of}
use Rattle.region_runner.specs.Hands.{IsLaneHand, lane_hand, parted_for}
use Rattle.lane_runner.specs.Lane.{CanGoOn, LaneValue, answer_due, halt_in, progress, with_hand}
use Rattle.region_runner.specs.Stands.{MayGoOn}

pub parted_name : (lane span count : ℕ) (v : View) → (parted_for lane span count v).name ≡ v.name
parted_name lane span zero v = refl
parted_name lane span (suc count) v = parted_name (suc lane) span count (parted v lane span)

pub can_go_on : (crew : CrewValue) (items : List Item) (lane : ℕ) (home : HandValue View) (m : LaneValue) → Belongs home crew.words.table → m.buffer.path ≡ m.path → MayGoOn crew items m → CanGoOn (world_of crew lane) items (with_hand m (lane_hand home lane))
can_go_on crew items lane home m belongs own may = record {
  going = may.going;
  own = own;
  can = record {
    belongs = record { here = belongs.here; there = refl };
    home = refl;
    unrefused = may.may.unrefused;
    drawing = may.may.drawing;
    enough = may.may.enough;
    forks = may.may.forks;
  };
  free = refl;
  counters = may.counters;
}

pub comes_home : (crew : CrewValue) (items : List Item) (end : Option ℕ) (lane : ℕ) (home : HandValue View) (m mid : LaneValue) → WentOn (world_of crew lane) items end (with_hand m (lane_hand home lane)) mid
    → (name : Name) → name ≡ home.view.name → IsLaneHand crew.words.table name mid.hand
comes_home crew items end lane home m mid went name is =
    let same : mid.hand.view.name ≡ (home.view.splits + lane) ∷ home.view.name =
    stays (λ v. v.name) (λ word v work. refl) (bar_count (map part_of items)) (world_of crew lane) (phase_part items end (site (world_of crew lane))) m.locals mid.locals (progress (with_hand m (lane_hand home lane))) (progress mid)
    (answer_due (halt_in mid)) went.goes in
    record {
      belongs = went.ready.free.belongs;
      split = same ∙ ap (λ (n : ℕ). n ∷ home.view.name) (sym (ap split_number same)) ∙ ap (λ (p : Name). split_number mid.hand.view.name ∷ p) (sym is);
      holds_none = went.ready.free.holds_none;
      none_out = went.ready.none_out;
    }
