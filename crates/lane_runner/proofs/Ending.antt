-- Works one after another: how their regions ended.
use Rattle.std.proofs.Common.{◌≡◌, ap, sym, ◌∙◌, subst, ℕ, ◌+◌, List, [], ◌∷◌, ◌++◌, length, Some, None, append_assoc, arith}
use Rattle.std.proofs.lemmas.List.{length-append}
use Rattle.sw_base.specs.declared.path.Step.{Step}
use Rattle.std.proofs.lemmas.List.Elements.{All-append, All-nil, All-cons}
use Rattle.history_model.proofs.Parts.{then_regions}
use Rattle.kernel_syntax.specs.declared.syntax.Array.{Array}
use Rattle.kernel_model.specs.State as model
use Rattle.history_model.specs.Work.{Work, Fork, RegionWork, work_regions, then_work}
use Rattle.history_model.specs.Joined.{PhasesEnd, ArePhasesJoined}
use Rattle.lane_runner.specs.Handed.{AreFew, log_place}
use Rattle.lane_runner.specs.Stopping.{HaveEnded, StopsRegion, StopsAtLast}
use Rattle.lane_runner.specs.declared.stop.Stop.{Stop}
use Rattle.lane_runner.specs.Going.{Progress, Cause, AtLog, AtRegion, AtTasks, AreFewBefore, StopsBy}
use Rattle.lane_runner.proofs.Handing.{few_before_then}

ended_both : (xs ys : List RegionWork) → HaveEnded xs → HaveEnded ys → HaveEnded (xs ++ ys)
ended_both xs ys x y = All-append (λ (r : RegionWork). PhasesEnd r.phases × ArePhasesJoined r.phases) xs ys x y

-- regions that ended, and then others of which the last stopped
stops_both : (arrays : List Array) (at : List Step) (number : ℕ) (path : List Step) (why : Stop) (earlier forks : List model.Fork) (xs ys : List RegionWork) → HaveEnded xs
    → StopsAtLast arrays at (number + length xs) path why forks ys → StopsAtLast arrays at number path why (earlier ++ forks) (xs ++ ys)
stops_both arrays at number path why earlier forks xs ys x y = record {
  earlier = earlier ++ y.earlier;
  fork = y.fork;
  forks_are = ap (λ (fs : List model.Fork). earlier ++ fs) y.forks_are ∙ sym (append_assoc earlier y.earlier (y.fork ∷ []));
  before = xs ++ y.before;
  region = y.region;
  regions_are = ap (λ (rs : List RegionWork). xs ++ rs) y.regions_are ∙ sym (append_assoc xs y.before (y.region ∷ []));
  span_is = y.span_is;
  ended = ended_both xs y.before x y.ended;
  joined = y.joined;
  stopped =
      subst (λ (n : ℕ). StopsRegion arrays at n path why y.fork y.region.phases)
      (let e : number + length xs + length y.before ≡ number + length (xs ++ y.before) = omega (arith, length-append xs y.before) in e) y.stopped;
}

pub ended_then : (work other : Work) → HaveEnded (work_regions work) → HaveEnded (work_regions other) → HaveEnded (work_regions (then_work work other))
ended_then work other x y = subst (λ (rs : List RegionWork). HaveEnded rs) (sym (then_regions work other)) (ended_both (work_regions work) (work_regions other) x y)

pub stops_then : (arrays : List Array) (old mid new : Progress) (cause : Cause) (earlier forks : List model.Fork) (work other : Work) → log_place mid.buffer ≡ log_place old.buffer → mid.buffer.path ≡ old.buffer.path → mid.tally.forked ≡ old.tally.forked + length (work_regions work)
    → HaveEnded (work_regions work) → (AreFew old.done → AreFew mid.done) → StopsBy arrays mid new cause forks (work_regions other) → StopsBy arrays old new cause (earlier ++ forks) (work_regions (then_work work other))
stops_then arrays old mid new AtLog earlier forks work other place path forked x few y = (ended_then work other x y.0, λ less. y.1 (few less))
stops_then arrays old mid new (AtTasks line) earlier forks work other place path forked x few y = (
  ended_then work other x y.0,
  y.1,
  subst (λ (rs : List RegionWork). AreFewBefore None old new rs) (sym (then_regions work other))
      (few_before_then None old mid new (work_regions work) (work_regions other) place path forked few y.2),
)
stops_then arrays old mid new (AtRegion path why) earlier forks work other place same forked x few y = (
  subst (λ (rs : List RegionWork). StopsAtLast arrays old.buffer.path old.tally.forked path why (earlier ++ forks) rs) (sym (then_regions work other))
      (stops_both arrays old.buffer.path old.tally.forked path why earlier forks (work_regions work) (work_regions other) x
      (subst (λ (n : ℕ). StopsAtLast arrays old.buffer.path n path why forks (work_regions other)) forked
      (subst (λ (at : List Step). StopsAtLast arrays at mid.tally.forked path why forks (work_regions other)) same y.0))),
  subst (λ (rs : List RegionWork). AreFewBefore (Some (path, why)) old new rs) (sym (then_regions work other))
      (few_before_then (Some (path, why)) old mid new (work_regions work) (work_regions other) place same forked few y.1),
)

-- no region
pub ended_none : HaveEnded []
ended_none = All-nil (λ (r : RegionWork). PhasesEnd r.phases × ArePhasesJoined r.phases)

pub ended_one : (region : RegionWork) → PhasesEnd region.phases → ArePhasesJoined region.phases → HaveEnded (region ∷ [])
ended_one region ends joined = All-cons (λ (r : RegionWork). PhasesEnd r.phases × ArePhasesJoined r.phases) region [] (ends, joined) ended_none
