-- Tasks under other paths: records are unordered where those that they come from are, and the other way round.
use Rattle.std.proofs.Common.{◌≡◌, ℕ, ◌+◌, ◌<◌, List, length, Some, refl, sym, ap, subst, arith, ◌∙◌}
use Rattle.std.specs.Prelude.{slice_get}
use Rattle.std.proofs.lemmas.List.{same_from_push}
use Rattle.sw_base.specs.declared.path.Step.{Step}
use Rattle.log_format.specs.declared.record.Record.{Record}
use Rattle.log_format.specs.declared.record.Kind.TheVariants.{Region}
use Rattle.race_model.specs.Trace.{Logs, Node, IsThere, regions_before, barriers_before}
use Rattle.race_model.specs.Listing.{lane_of}
use Rattle.race_model.specs.Order.{IsLane}
use Rattle.race_model.specs.ForkJoin.{IsForkJoin, IsTask}
use Rattle.race_laws.proofs.Counts.{there}
use Rattle.race_laws.proofs.LabelPlace.{not_both_empty, is_region, same_region}
use Rattle.writer_laws.specs.Carrying.{Carries}
use Rattle.writer_laws.specs.Renumbering.{Numbers, IsFrom, ComesFrom, WereForks, KeepsTeams}
use Rattle.writer_laws.proofs.Forks.{fork_listed, find_fork}

-- a lane of the other run comes from a lane
pub record LaneFrom (number : Numbers) (path beside : List Step) (region lane span : ℕ) : Type 0 where
  pub above : List Step
  pub task : IsFrom number above beside
  pub parts : path ≡ lane_of above (number beside region) lane span

pub lane_from : (number : Numbers) (path other beside : List Step) (r n s : ℕ) → IsFrom number path other → other ≡ lane_of beside r n s → LaneFrom number path beside r n s
lane_from number _ _ beside r n s (IsFrom.root path other e f) is = absurd (not_both_empty other beside (record { region = r; lane = n; span = s }) f is)
lane_from number _ _ beside r n s (IsFrom.lane path other above q k m t task parts lane) is =
    let both = same_from_push q beside (record { region = k; lane = m; span = t }) (record { region = r; lane = n; span = s }) (sym lane ∙ is) in
    let region : k ≡ r = ap (λ (step : Step). step.region) both.1 in
    let number_of : m ≡ n = ap (λ (step : Step). step.lane) both.1 in
    let span : t ≡ s = ap (λ (step : Step). step.span) both.1 in
    record {
      above = above;
      task = subst (λ (p : List Step). IsFrom number above p) both.0 task;
      parts = parts ∙ λ i. lane_of above (number (both.0 i) (region i)) (number_of i) (span i);
    }

-- where a task comes from is one task
pub from_once : (number : Numbers) (p q other : List Step) → IsFrom number p other → IsFrom number q other → p ≡ q
from_once number _ q _ (IsFrom.root p other e f) task = at task
  where
    at : IsFrom number q other → p ≡ q
    at (IsFrom.root q other g h) = e ∙ sym g
    at (IsFrom.lane q other above beside r n s up parts lane) = absurd (not_both_empty other beside (record { region = r; lane = n; span = s }) f lane)
from_once number _ q _ (IsFrom.lane p other above beside r n s up parts lane) task =
    let l = lane_from number q other beside r n s task lane in
    parts ∙ (ap (λ (t : List Step). lane_of t (number beside r) n s) (from_once number above l.above beside up l.task) ∙ sym l.parts)

module _ (number : Numbers) (offset : List Step → ℕ) (logs others : Logs) (were : WereForks number offset logs others) (teams : KeepsTeams number offset logs others) where
  -- the region that a region of the other run was
  pub record WasRegion (path : List Step) (f : Node) (s : ℕ) : Type 0 where
    pub index : ℕ
    pub event : Record
    pub found : slice_get (logs path) index ≡ Some event
    pub region : event.kind ≡ Region
    pub spans : event.value ≡ s
    pub number_is : regions_before logs (record { path = path; index = index }) ≡ number f.path (regions_before others f)
    pub as_many : barriers_before logs (record { path = path; index = index }) ≡ barriers_before others f + offset f.path

  pub was_region : (path child : List Step) (f : Node) (n s : ℕ) → IsFrom number path f.path → IsLane others f n s child → WasRegion path f s
  was_region path child f n s task lane =
      let listed = fork_listed 0 (others f.path) f.index lane.event lane.found lane.region in
      let was = were path f.path (regions_before others f) (record { span = lane.event.value; barriers = 0 + barriers_before others f }) task listed in
      let h = find_fork 0 (logs path) (number f.path (regions_before others f)) (record { span = lane.event.value; barriers = (0 + barriers_before others f) + offset f.path }) was in
      let as_many = h.barriers_are in
      record {
        index = h.index;
        event = h.event;
        found = h.found;
        region = h.region;
        spans = h.spans ∙ lane.spans;
        number_is = h.number_is;
        as_many = omega arith;
      }

  pub was_lane : (path child old : List Step) (f : Node) (n s : ℕ) (was : WasRegion path f s) → IsLane others f n s child → old ≡ lane_of path (number f.path (regions_before others f)) n s
      → IsLane logs (record { path = path; index = was.index }) n s old
  was_lane path child old f n s was lane parts = record {
    event = was.event;
    found = was.found;
    region = was.region;
    spans = was.spans;
    in_span = lane.in_span;
    child = parts ∙ ap (λ (k : ℕ). lane_of path k n s) (sym was.number_is);
  }

  region_there : (f : Node) (n s : ℕ) (child : List Step) → IsLane others f n s child → IsThere others f
  region_there f n s child lane = there others f Region (is_region others f n s child lane)

  abbrev From : Node → Node → Type 0
  From x v = ComesFrom number offset logs others x v

  abbrev Back : Node → Node → Type 0
  Back v x = ComesFrom number offset logs others x v

  -- from the other run to this one
  pub carried_back : Carries Back others logs
  carried_back = record {
    lanes = λ v x f n s comes lane.
        let l = lane_from number x.path v.path f.path (regions_before others f) n s comes.task lane.child in
        let was = was_region l.above v.path f n s l.task lane in
        record {
          region = record { path = l.above; index = was.index };
          lane = was_lane l.above v.path x.path f n s was lane l.parts;
          answers = record { task = l.task; as_many = was.as_many; there = region_there f n s v.path lane };
        };
    teams = λ v w x y f n m s comes other mine yours as_many.
        let l = lane_from number x.path v.path f.path (regions_before others f) n s comes.task mine.child in
        let k = lane_from number y.path w.path f.path (regions_before others f) m s other.task yours.child in
        let same : k.above ≡ l.above = from_once number k.above l.above f.path k.task l.task in
        let was = was_region l.above v.path f n s l.task mine in
        let mine_many : barriers_before logs x ≡ barriers_before others v + offset v.path = comes.as_many in
        let yours_many : barriers_before logs y ≡ barriers_before others w + offset w.path = other.as_many in
        let even : offset v.path ≡ offset w.path = ap offset mine.child ∙ (teams.even f.path (regions_before others f) n m s ∙ ap offset (sym yours.child)) in
        record {
          region = record { path = l.above; index = was.index };
          mine = was_lane l.above v.path x.path f n s was mine l.parts;
          yours = was_lane l.above w.path y.path f m s was yours (k.parts ∙ ap (λ (p : List Step). lane_of p (number f.path (regions_before others f)) m s) same);
          as_many = omega arith;
        };
  }

  module _ (tree : IsForkJoin others) where
    -- the region of a task of the other run, where it comes from a lane of this region
    record HasRegionToo (fork : Node) (v : Node) (n s : ℕ) : Type 0 where
      region : Node
      lane : IsLane others region n s v.path
      task : IsFrom number fork.path region.path
      same_number : number region.path (regions_before others region) ≡ regions_before logs fork
      as_many : barriers_before logs fork ≡ barriers_before others region + offset region.path

    region_too : (x v fork : Node) (n s : ℕ) → From x v → IsLane logs fork n s x.path → HasRegionToo fork v n s
    region_too x v fork n s comes lane = at x.path v.path refl refl comes.task
      where
        at : (p q : List Step) → x.path ≡ p → v.path ≡ q → IsFrom number p q → HasRegionToo fork v n s
        at _ _ x_is v_is (IsFrom.root p q e f) = absurd (not_both_empty x.path fork.path (record { region = regions_before logs fork; lane = n; span = s }) (x_is ∙ e) lane.child)
        at _ _ x_is v_is (IsFrom.lane p q above beside r m t up parts is) =
            let both = same_from_push above fork.path (record { region = number beside r; lane = m; span = t }) (record { region = regions_before logs fork; lane = n; span = s }) (sym parts ∙ (sym x_is ∙ lane.child)) in
            let begun : 0 < length (others v.path) = let here = comes.there in omega arith in
            let forked = tree.tasks.forked beside (record { region = r; lane = m; span = t }) (subst (λ (path : List Step). IsTask others path) (v_is ∙ is) begun) in
            let f = forked.fork in
            let in_f : IsLane others f m t v.path = subst (λ (path : List Step). IsLane others f m t path) (sym (v_is ∙ is)) forked.lane in
            let in_lane : IsLane others f n s v.path = subst (λ (step : Step). IsLane others f step.lane step.span v.path) both.1 in_f in
            let r_is = same_from_push f.path beside (record { region = regions_before others f; lane = m; span = t }) (record { region = r; lane = m; span = t }) (sym in_f.child ∙ (v_is ∙ is)) in
            let task : IsFrom number fork.path f.path = subst (λ (path : List Step). IsFrom number path f.path) both.0 (subst (λ (path : List Step). IsFrom number above path) (sym forked.above) up) in
            let number_same : number f.path (regions_before others f) ≡ regions_before logs fork =
            (λ i. number (forked.above i) ((r_is.1 i).region)) ∙ ap (λ (step : Step). step.region) both.1 in
            let was = was_region fork.path v.path f n s task in_lane in
            let g : Node = record { path = fork.path; index = was.index } in
            let same : g ≡ fork = same_region logs g fork (record { event = was.event; found = was.found; kind_is = was.region }) (is_region logs fork n s x.path lane) refl (was.number_is ∙ number_same) in
            record {
              region = f;
              lane = in_lane;
              task = task;
              same_number = number_same;
              as_many = subst (λ (z : Node). barriers_before logs z ≡ barriers_before others f + offset f.path) same was.as_many;
            }

    pub carried : Carries From logs others
    carried = record {
      lanes = λ x v fork n s comes lane.
          let h = region_too x v fork n s comes lane in
          record { region = h.region; lane = h.lane; answers = record { task = h.task; as_many = h.as_many; there = region_there h.region n s v.path h.lane } };
      teams = λ x y v w fork n m s comes other mine yours as_many.
          let h = region_too x v fork n s comes mine in
          let k = region_too y w fork m s other yours in
          let mine_many : barriers_before logs x ≡ barriers_before others v + offset v.path = comes.as_many in
          let yours_many : barriers_before logs y ≡ barriers_before others w + offset w.path = other.as_many in
          let level : barriers_before others v + offset v.path ≡ barriers_before others w + offset w.path = sym mine_many ∙ (as_many ∙ yours_many) in
          let same : h.region ≡ k.region = teams.one fork.path v w h.region k.region n m s s h.task k.task h.lane k.lane comes.there other.there (h.same_number ∙ sym k.same_number) level in
          let beside : IsLane others h.region m s w.path = subst (λ (z : Node). IsLane others z m s w.path) (sym same) k.lane in
          let even : offset v.path ≡ offset w.path = ap offset h.lane.child ∙ (teams.even h.region.path (regions_before others h.region) n m s ∙ ap offset (sym beside.child)) in
          record { region = h.region; mine = h.lane; yours = beside; as_many = omega arith };
    }
