-- What a lane is whose log was just opened.
use Rattle.std.proofs.Common.{◌≡◌, refl, ap, sym, ◌∙◌, subst, ℕ, ◌+◌, ◌≤◌, List, length, ℤ, arith}
use Rattle.std.proofs.lemmas.List.{length-append}
use Rattle.log_format.specs.Limit.{record_limit}
use Rattle.sw_base.specs.declared.path.Step.{Step}
use Rattle.race_model.specs.Listing.{lane_of}
use Rattle.event_buffer.specs.Buffered.{Buffered}
use Rattle.shared_words.specs.declared.share.Share.{Share}
use Rattle.shared_words.specs.Handles.{Belongs, HandValue}
use Rattle.lane_runner.specs.Drawing.{Tally}
use Rattle.lane_runner.specs.Handed.{LogPlace, log_place}
use Rattle.region_runner.specs.Begins.{LaneBegins}
use Rattle.region_runner.specs.Crew.{CrewValue}
use Rattle.region_runner.specs.Ground.{GroundValue, IsOurLane}
use Rattle.lane_runner.specs.Lane.{LaneValue}
use Rattle.region_runner.specs.Opening.{lent_hand}
use Rattle.region_runner.specs.Stands.{IsFresh}

-- it has executed nothing yet, and may draw as often as its log has room
pub task_fresh : (place : LogPlace) (path : List Step) (slots : List ℤ) (draws : HandValue Share) (crew : CrewValue) (m : LaneValue) → Belongs draws crew.chunks.table → record_limit ≤ draws.view.left → LaneBegins place path slots draws m → IsFresh crew m
task_fresh place path slots draws crew m belongs left b = record {
  going = b.going;
  may = record {
    unrefused = b.unrefused;
    drawing = subst (λ (t : Tally). Belongs t.draws crew.chunks.table) (sym b.tally) belongs;
    enough = subst (λ (t : Tally). record_limit ≤ t.draws.view.left + m.buffer.count) (sym b.tally) (omega (arith, left));
    forks = let f = ap (λ (t : Tally). t.forked) b.tally in omega (arith, f);
  };
  no_loop = ap (λ (t : Tally). t.next_loop) b.tally;
}

pub lane_fresh : (place : LogPlace) (path : List Step) (slots : List ℤ) (share : HandValue Share) (crew : CrewValue) (m : LaneValue) → share.table ≡ crew.chunks.table → LaneBegins place path slots (lent_hand share) m → IsFresh crew m
lane_fresh place path slots share crew m here b = task_fresh place path slots (lent_hand share) crew m (record { here = here; there = refl }) (omega arith) b

-- and its log is its own
pub lane_ours : (g : GroundValue) (depth : ℕ) (task : Buffered) (at : List Step) (number lane span : ℕ) (slots : List ℤ) (draws : HandValue Share) (m : LaneValue) → task.size ≡ g.size → length at + depth + 1 ≡ 4
    → LaneBegins (log_place task) (lane_of at number lane span) slots draws m → IsOurLane g depth m
lane_ours g depth task at number lane span slots draws m size deep b = record {
  path_is = b.own ∙ sym b.path_is;
  deep = let one = ap (λ (p : List Step). length p) b.path_is ∙ length-append at _ in omega (arith, one, deep);
  size_is = ap (λ (p : LogPlace). p.size) b.place_is ∙ size;
}
