-- Where tasks fork alike, records at the same places answer to one another.
use Rattle.std.proofs.Common.{◌≡◌, ℕ, ◌+◌, List, [], Some, refl, sym, ap, subst, arith, ◌∙◌}
use Rattle.std.specs.Prelude.{slice_get}
use Rattle.sw_base.specs.declared.path.Step.{Step}
use Rattle.log_format.specs.declared.record.Record.{Record}
use Rattle.log_format.specs.declared.record.Kind.TheVariants.{Region}
use Rattle.race_model.specs.Trace.{Logs, Node, IsThere, regions_before, barriers_before}
use Rattle.race_model.specs.Listing.{lane_of}
use Rattle.race_model.specs.Order.{IsLane}
use Rattle.race_model.specs.Race.{IsUnordered}
use Rattle.race_model.specs.ForkJoin.{IsForkJoin}
use Rattle.counted_order.proofs.Paths.{unordered_parts}
use Rattle.writer_laws.specs.Carrying.{Carries}
use Rattle.writer_laws.specs.Places.{ForkPlace, ForkAlike, IsAtPlace}
use Rattle.writer_laws.proofs.Forks.{fork_listed, find_fork}

-- the region of this number in the other run
pub record IsForkedToo (others : Logs) (path : List Step) (number barriers span : ℕ) : Type 0 where
  pub index : ℕ
  pub event : Record
  pub found : slice_get (others path) index ≡ Some event
  pub region : event.kind ≡ Region
  pub spans : event.value ≡ span
  pub same_number : number ≡ regions_before others (record { path = path; index = index })
  pub as_many : barriers ≡ barriers_before others (record { path = path; index = index })

pub forked_too : (logs others : Logs) → ForkAlike logs others → (fork : Node) (n s : ℕ) (child : List Step) → IsLane logs fork n s child
    → IsForkedToo others fork.path (regions_before logs fork) (barriers_before logs fork) s
forked_too logs others alike fork n s child lane =
    let listed = fork_listed 0 (logs fork.path) fork.index lane.event lane.found lane.region in
    let there = subst (λ (fs : List ForkPlace). slice_get fs (regions_before logs fork) ≡ Some (record { span = lane.event.value; barriers = 0 + barriers_before logs fork })) (alike fork.path) listed in
    let h = find_fork 0 (others fork.path) (regions_before logs fork) (record { span = lane.event.value; barriers = 0 + barriers_before logs fork }) there in
    let as_many = h.barriers_are in
    record {
      index = h.index;
      event = h.event;
      found = h.found;
      region = h.region;
      spans = h.spans ∙ lane.spans;
      same_number = sym h.number_is;
      as_many = omega arith;
    }

pub lane_too : (logs others : Logs) (fork : Node) (n s : ℕ) (path other : List Step) → IsLane logs fork n s path → path ≡ other
    → (f : IsForkedToo others fork.path (regions_before logs fork) (barriers_before logs fork) s) → IsLane others (record { path = fork.path; index = f.index }) n s other
lane_too logs others fork n s path other lane same f = record {
  event = f.event;
  found = f.found;
  region = f.region;
  spans = f.spans;
  in_span = lane.in_span;
  child = sym same ∙ (lane.child ∙ ap (λ (k : ℕ). lane_of fork.path k n s) f.same_number);
}

pub places_carry : (logs others : Logs) → ForkAlike logs others → Carries (IsAtPlace logs others) logs others
places_carry logs others alike = record {
  lanes = λ x v fork n s place lane.
      let f = forked_too logs others alike fork n s x.path lane in
      record {
        region = record { path = fork.path; index = f.index };
        lane = lane_too logs others fork n s x.path v.path lane place.same_task f;
        answers = record { same_task = refl; as_many = f.as_many };
      };
  teams = λ x y v w fork n m s place other mine yours as_many.
      let f = forked_too logs others alike fork n s x.path mine in
      record {
        region = record { path = fork.path; index = f.index };
        mine = lane_too logs others fork n s x.path v.path mine place.same_task f;
        yours = lane_too logs others fork m s y.path w.path yours other.same_task f;
        as_many = sym place.as_many ∙ (as_many ∙ other.as_many);
      };
}

pub alike_back : (logs others : Logs) → ForkAlike logs others → ForkAlike others logs
alike_back logs others alike path = sym (alike path)

pub place_back : (logs others : Logs) (x v : Node) → IsAtPlace logs others x v → IsAtPlace others logs v x
place_back logs others x v place = record { same_task = sym place.same_task; as_many = sym place.as_many }

-- all records of the root are ordered with everything
pub root_ordered : (logs : Logs) (x y : Node) → IsForkJoin logs → IsThere logs x → IsThere logs y → IsUnordered logs x y → x.path ≡ [] → ⊥
root_ordered logs x y tree x_there y_there unordered at_root =
    let p = unordered_parts logs x y tree x_there y_there unordered in
    none p.level p.parts.step (subst (λ (path : List Step). slice_get path p.level ≡ Some p.parts.step) at_root p.parts.mine)
  where
    none : (n : ℕ) (step : Step) → slice_get [] n ≡ Some step → ⊥
    none n step found = cc
