-- The tasks of a run with a region cut: where they come from, and that teams stay teams.
use Rattle.std.proofs.Common.{◌≡◌, ◌⊎◌, ℕ, suc, ◌+◌, ◌<◌, ◌≤◌, Bool, true, false, cond, List, [], ◌∷◌, ◌++◌, length, Some, refl, sym, ap, ap₂, subst, arith, ◌∙◌, inl, inr}
use Rattle.std.specs.Prelude.{slice_get, ◌==◌}
use Rattle.std.proofs.lemmas.List.{same_from_push}
use Rattle.std.proofs.lemmas.Option.{slice_get_within}
use Rattle.std.proofs.lemmas.List.Sums.{sum_by-take-le}
use Rattle.sw_base.specs.declared.path.Step.{Step}
use Rattle.sw_base.proofs.Lists.{get_more, get_right}
use Rattle.log_format.specs.declared.record.Record.{Record}
use Rattle.log_format.specs.declared.record.Kind.TheVariants.{Barrier, Region, End}
use Rattle.race_model.specs.Trace.{Logs, Node, regions_before, barriers_before, is_region_kind, is_barrier_kind, region_count, barrier_count}
use Rattle.race_model.specs.Listing.{lane_of}
use Rattle.race_model.specs.Order.{IsLane}
use Rattle.race_model.specs.ForkJoin.{IsTask}
use Rattle.race_laws.proofs.Counts.{there}
use Rattle.race_laws.proofs.LabelPlace.{not_both_empty, is_region, same_region}
use Rattle.writer_laws.specs.Places.{ForkPlace, forks, forks_from}
use Rattle.writer_laws.specs.Renumbering.{IsFrom, WereForks, KeepsTeams}
use Rattle.writer_laws.specs.Cutting.{undouble, cut_number, cut_offset, IsLaneCut, IsElsewhere, IsCut}
use Rattle.writer_laws.proofs.Forks.{fork_listed, region_step, barrier_step}
use Rattle.writer_laws.proofs.Numbers.{same_number, number_itself, other_number, not_next}
use Rattle.race_model.proofs.Counted.{barriers_both, regions_both}
use Rattle.writer_laws.proofs.CutForks.{forks_both, forks_length, raised, forks_raised, get_either, undoubled, undouble_once, undouble_early, undouble_late, some_fork, not_raised, no_fork}

-- a fork is one of the log's
pub region_within : (logs : Logs) (f : Node) (n s : ℕ) (child : List Step) → IsLane logs f n s child → regions_before logs f < region_count (logs f.path)
region_within logs f n s child lane =
    let listed = fork_listed 0 (logs f.path) f.index lane.event lane.found lane.region in
    let within : regions_before logs f < length (forks (logs f.path)) = slice_get_within (forks (logs f.path)) (regions_before logs f) _ listed in
    let long : length (forks (logs f.path)) ≡ region_count (logs f.path) = forks_length 0 (logs f.path) in
    omega arith

pub regions_of_first : (first : List Record) (ended : Record) (records : List Record) → records ≡ first ++ ended ∷ [] → ended.kind ≡ End → region_count records ≡ region_count first
regions_of_first first ended records is ends =
    let none : region_count (ended ∷ []) ≡ 0 = region_step ended [] ∙ rw ends refl in
    ap region_count is ∙ (regions_both first (ended ∷ []) ∙ (let sum : region_count first + region_count (ended ∷ []) ≡ region_count first = omega arith in sum))

pub barriers_of_first : (first : List Record) (ended : Record) (records : List Record) → records ≡ first ++ ended ∷ [] → ended.kind ≡ End → barrier_count records ≡ barrier_count first
barriers_of_first first ended records is ends =
    let none : barrier_count (ended ∷ []) ≡ 0 = barrier_step ended [] ∙ rw ends refl in
    ap barrier_count is ∙ (barriers_both first (ended ∷ []) ∙ (let sum : barrier_count first + barrier_count (ended ∷ []) ≡ barrier_count first = omega arith in sum))

module _ (k c span : ℕ) (logs others : Logs) (cut : IsCut k c span logs others) where
  abbrev pub early_lane : ℕ → List Step
  early_lane n = lane_of [] k n span

  abbrev pub late_lane : ℕ → List Step
  late_lane n = lane_of [] (suc k) n span

  -- the root's forks before and after
  abbrev pub fore : List ForkPlace
  fore = forks cut.before

  abbrev pub hind : List ForkPlace
  hind = forks_from (0 + barrier_count cut.before) cut.after

  abbrev pub doubled : ForkPlace
  doubled = record { span = span; barriers = 0 + barrier_count cut.before }

  one_fork : (r : Record) (rest : List Record) (b : ℕ) → r.kind ≡ Region → r.value ≡ span → forks_from b (r ∷ rest) ≡ record { span = span; barriers = b } ∷ forks_from b rest
  one_fork r rest b forks_it spans =
      let is : is_region_kind r.kind ≡ true = rw forks_it refl in
      let none : b + cond {A = ℕ} (is_barrier_kind r.kind) 1 0 ≡ b = rw forks_it (omega arith) in
      let here : forks_from b (r ∷ rest) ≡ record { span = r.value; barriers = b } ∷ forks_from (b + cond (is_barrier_kind r.kind) 1 0) rest = rw is refl in
      here ∙ ap₂ (λ (v : ℕ) (d : ℕ). record { span = v; barriers = b } ∷ forks_from d rest) spans none

  pub root_forks : forks (logs []) ≡ fore ++ doubled ∷ hind
  root_forks = ap forks cut.root ∙ (forks_both 0 cut.before (cut.region ∷ cut.after)
      ∙ ap (λ (fs : List ForkPlace). fore ++ fs) (one_fork cut.region cut.after (0 + barrier_count cut.before) cut.forks cut.spans))

  pub new_forks : forks (others []) ≡ fore ++ doubled ∷ doubled ∷ hind
  new_forks = ap forks cut.new_root ∙ (forks_both 0 cut.before (cut.region ∷ cut.again ∷ cut.after)
      ∙ ap (λ (fs : List ForkPlace). fore ++ fs) (one_fork cut.region (cut.again ∷ cut.after) (0 + barrier_count cut.before) cut.forks cut.spans
      ∙ ap (λ (fs : List ForkPlace). doubled ∷ fs) (one_fork cut.again cut.after (0 + barrier_count cut.before) cut.forks_again cut.spans_again)))

  pub fore_length : length fore ≡ k
  fore_length = forks_length 0 cut.before ∙ cut.number_is

  -- a lane of one of the two regions is one of their lanes
  pub record IsRealLane (n s : ℕ) : Type 0 where
    pub within : n < span
    pub same_span : s ≡ span

  two_seams : (r : ℕ) (f : ForkPlace) → (r ≡ k) ⊎ (r ≡ suc k) → slice_get (forks (others [])) r ≡ Some f → f.span ≡ span
  two_seams r f which found = at which (subst (λ (fs : List ForkPlace). slice_get fs r ≡ Some f) new_forks found)
    where
      at : (r ≡ k) ⊎ (r ≡ suc k) → slice_get (fore ++ doubled ∷ doubled ∷ hind) r ≡ Some f → f.span ≡ span
      at (inl is) has =
          let place : length fore + 0 ≡ r = (let long = fore_length in omega arith) in
          let here : slice_get (fore ++ doubled ∷ doubled ∷ hind) r ≡ Some doubled = subst (λ (i : ℕ). slice_get (fore ++ doubled ∷ doubled ∷ hind) i ≡ Some doubled) place (get_right fore (doubled ∷ doubled ∷ hind) 0) in
          let same : doubled ≡ f = cc in
          sym (ap (λ (g : ForkPlace). g.span) same)
      at (inr is) has =
          let place : length fore + 1 ≡ r = (let long = fore_length in omega arith) in
          let here : slice_get (fore ++ doubled ∷ doubled ∷ hind) r ≡ Some doubled = subst (λ (i : ℕ). slice_get (fore ++ doubled ∷ doubled ∷ hind) i ≡ Some doubled) place (get_right fore (doubled ∷ doubled ∷ hind) 1) in
          let same : doubled ≡ f = cc in
          sym (ap (λ (g : ForkPlace). g.span) same)

  pub real_lane : (f : Node) (n s : ℕ) (child : List Step) → IsLane others f n s child → f.path ≡ [] → (regions_before others f ≡ k) ⊎ (regions_before others f ≡ suc k) → IsRealLane n s
  real_lane f n s child lane at_root which =
      let listed = fork_listed 0 (others f.path) f.index lane.event lane.found lane.region in
      let same : lane.event.value ≡ span = two_seams (regions_before others f) (record { span = lane.event.value; barriers = 0 + barriers_before others f }) which
      (subst (λ (p : List Step). slice_get (forks (others p)) (regions_before others f) ≡ Some (record { span = lane.event.value; barriers = 0 + barriers_before others f })) at_root listed) in
      let spans = lane.spans in
      let less = lane.in_span in
      record { within = omega arith; same_span = sym spans ∙ same }

  -- where a task of the cut run is
  pub data Where (path other : List Step) : Type 0 where
    root : path ≡ [] → other ≡ [] → Where path other
    early : (n : ℕ) → n < span → path ≡ early_lane n → other ≡ early_lane n → Where path other
    late : (n : ℕ) → n < span → path ≡ early_lane n → other ≡ late_lane n → Where path other
    elsewhere : others other ≡ logs path → ((r : ℕ) → cut_number k others other r ≡ r) → cut_offset k c other ≡ 0 → Where path other

  lane_real : (step : Step) → IsTask others (step ∷ []) → (step.region ≡ k) ⊎ (step.region ≡ suc k) → IsRealLane step.lane step.span
  lane_real step task which =
      let forked = cut.only [] step task in
      let both = same_from_push forked.fork.path [] (record { region = regions_before others forked.fork; lane = step.lane; span = step.span }) step (sym forked.lane.child) in
      let number : regions_before others forked.fork ≡ step.region = ap (λ (t : Step). t.region) both.1 in
      real_lane forked.fork step.lane step.span (step ∷ []) forked.lane forked.above (by number which)
    where
      by : {r : ℕ} → r ≡ step.region → (step.region ≡ k) ⊎ (step.region ≡ suc k) → (r ≡ k) ⊎ (r ≡ suc k)
      by same (inl is) = inl (same ∙ is)
      by same (inr is) = inr (same ∙ is)

  pub from_root : (path : List Step) → IsFrom (cut_number k others) path [] → path ≡ []
  from_root _ (IsFrom.root path other e f) = e
  from_root _ (IsFrom.lane path other above beside r n s up parts is) = absurd (not_both_empty [] beside (record { region = r; lane = n; span = s }) refl is)

  pub differ_region : (r q n m s t : ℕ) → lane_of [] r n s ≡ lane_of [] q m t → r ≡ q
  differ_region r q n m s t e = ap (λ (step : Step). step.region) (same_from_push [] [] (record { region = r; lane = n; span = s }) (record { region = q; lane = m; span = t }) e).1

  -- the region of a lane
  record HasRegion (beside : List Step) (r : ℕ) (child : List Step) (n s : ℕ) : Type 0 where
    fork : Node
    above : fork.path ≡ beside
    number : regions_before others fork ≡ r
    lane : IsLane others fork n s child

  region_of : (beside : List Step) (r n s : ℕ) (child : List Step) → child ≡ lane_of beside r n s → IsTask others child → HasRegion beside r child n s
  region_of beside r n s child is task =
      let forked = cut.only beside (record { region = r; lane = n; span = s }) (subst (λ (p : List Step). IsTask others p) is task) in
      record {
        fork = forked.fork;
        above = forked.above;
        number = ap (λ (step : Step). step.region) (same_from_push forked.fork.path beside (record { region = regions_before others forked.fork; lane = n; span = s }) (record { region = r; lane = n; span = s }) (sym forked.lane.child)).1;
        lane = subst (λ (p : List Step). IsLane others forked.fork n s p) (sym is) forked.lane;
      }

  rest_of : (path above beside : List Step) (r n s : ℕ) → IsFrom (cut_number k others) above beside → path ≡ lane_of above (cut_number k others beside r) n s
      → IsTask others (lane_of beside r n s) → IsElsewhere k span (lane_of beside r n s) → others (lane_of beside r n s) ≡ logs path
  rest_of path above beside r n s up parts task is =
      let region = region_of beside r n s (lane_of beside r n s) refl task in
      cut.rest path (lane_of beside r n s) region.fork n s (IsFrom.lane path (lane_of beside r n s) above beside r n s up parts refl) region.lane is

  in_root : (path : List Step) (r n s : ℕ) → path ≡ lane_of [] (undouble k r) n s → IsTask others (lane_of [] r n s) → Where path (lane_of [] r n s)
  in_root path r n s parts task = at (r == suc k) (r == k) refl refl
    where
      at : (p q : Bool) → (r == suc k) ≡ p → (r == k) ≡ q → Where path (lane_of [] r n s)
      at true q is kept =
          let last : r ≡ suc k = same_number r (suc k) is in
          let real = lane_real (record { region = r; lane = n; span = s }) task (inr last) in
          let old : undouble k r ≡ k = ap (undouble k) last ∙ undouble_late k k (omega arith) in
          Where.late n real.within (parts ∙ ap₂ (λ (a b : ℕ). lane_of [] a n b) old real.same_span) (ap₂ (λ (a b : ℕ). lane_of [] a n b) last real.same_span)
      at false true is kept =
          let first : r ≡ k = same_number r k kept in
          let real = lane_real (record { region = r; lane = n; span = s }) task (inl first) in
          let old : undouble k r ≡ k = ap (undouble k) first ∙ undouble_early k k (omega arith) in
          Where.early n real.within (parts ∙ ap₂ (λ (a b : ℕ). lane_of [] a n b) old real.same_span) (ap₂ (λ (a b : ℕ). lane_of [] a n b) first real.same_span)
      at false false is kept = Where.elsewhere
          (rest_of path [] [] r n s (IsFrom.root [] [] refl refl) parts task (record {
            not_early = λ m within e. other_number r k kept (differ_region r k n m s span e);
            not_late = λ m within e. other_number r (suc k) is (differ_region r (suc k) n m s span e);
          }))
          (λ q. rw is refl)
          (rw is refl)

  pub too_long : (t u : Step) (rest : List Step) → IsElsewhere k span (t ∷ u ∷ rest)
  too_long t u rest = record {
    not_early = λ n within e. let lengths : length (t ∷ u ∷ rest) ≡ 1 = ap length e in omega arith;
    not_late = λ n within e. let lengths : length (t ∷ u ∷ rest) ≡ 1 = ap length e in omega arith;
  }

  in_lane : (path above beside : List Step) (r n s : ℕ) → IsFrom (cut_number k others) above beside → path ≡ lane_of above (cut_number k others beside r) n s
      → IsTask others (lane_of beside r n s) → Where path (lane_of beside r n s)
  in_lane path above [] r n s up parts task = in_root path r n s (parts ∙ ap (λ (p : List Step). lane_of p (undouble k r) n s) (from_root above up)) task
  in_lane path above (t ∷ []) r n s up parts task = Where.elsewhere (rest_of path above (t ∷ []) r n s up parts task (too_long t (record { region = r; lane = n; span = s }) [])) (λ q. refl) refl
  in_lane path above (t ∷ u ∷ rest) r n s up parts task = Where.elsewhere (rest_of path above (t ∷ u ∷ rest) r n s up parts task (too_long t u (rest ++ record { region = r; lane = n; span = s } ∷ []))) (λ q. refl) refl

  pub classify : (path other : List Step) → IsFrom (cut_number k others) path other → IsTask others other → Where path other
  classify _ _ (IsFrom.root path other e f) task = Where.root e f
  classify _ _ (IsFrom.lane path other above beside r n s up parts is) task =
      subst (λ (p : List Step). Where path p) (sym is) (in_lane path above beside r n s up parts (subst (λ (p : List Step). IsTask others p) is task))

  past_barrier : (b : ℕ) (r : Record) (rest : List Record) → r.kind ≡ Barrier → forks_from b (r ∷ rest) ≡ forks_from (b + 1) rest
  past_barrier b r rest meets = rw meets refl

  early_fork : (n : ℕ) → n < span → (r : ℕ) (f : ForkPlace) → slice_get (forks (others (early_lane n))) r ≡ Some f → slice_get (forks (logs (early_lane n))) r ≡ Some f
  early_fork n within r f found = at (cut.lanes n within)
    where
      at : IsLaneCut c (logs (early_lane n)) (others (early_lane n)) (others (late_lane n)) → slice_get (forks (logs (early_lane n))) r ≡ Some f
      at l =
          let b : ℕ = 0 + barrier_count l.first in
          let parts : forks (others (early_lane n)) ≡ forks l.first ++ forks_from b (l.ended ∷ []) = ap forks l.early_is ∙ forks_both 0 l.first (l.ended ∷ []) in
          let all : forks (logs (early_lane n)) ≡ forks l.first ++ forks_from b (l.barrier ∷ others (late_lane n)) = ap forks l.whole_is ∙ forks_both 0 l.first (l.barrier ∷ others (late_lane n)) in
          subst (λ (fs : List ForkPlace). slice_get fs r ≡ Some f) (sym all)
          (by (forks l.first) (forks_from b (l.ended ∷ [])) (forks_from b (l.barrier ∷ others (late_lane n))) (no_fork b l.ended l.at_end)
          (get_either (forks l.first) (forks_from b (l.ended ∷ [])) r f (subst (λ (fs : List ForkPlace). slice_get fs r ≡ Some f) parts found)))
        where
          nothing : (m : ℕ) → slice_get [] m ≡ Some f → ⊥
          nothing m has = cc

          by : (xs ys zs : List ForkPlace) → ys ≡ [] → ((r < length xs) × (slice_get xs r ≡ Some f)) ⊎ ((m : ℕ) × (r ≡ length xs + m) × (slice_get ys m ≡ Some f)) → slice_get (xs ++ zs) r ≡ Some f
          by xs ys zs none (inl (less, has)) = get_more xs zs r f has
          by xs ys zs none (inr (m, is, has)) = absurd (nothing m (subst (λ (fs : List ForkPlace). slice_get fs m ≡ Some f) none has))

  pub first_regions : (n : ℕ) (within : n < span) → region_count (others (early_lane n)) ≡ region_count (cut.lanes n within).first
  first_regions n within =
      let l = cut.lanes n within in
      let none : region_count (l.ended ∷ []) ≡ 0 = region_step l.ended [] ∙ rw l.at_end refl in
      ap region_count l.early_is ∙ (regions_both l.first (l.ended ∷ []) ∙ (let sum : region_count l.first + region_count (l.ended ∷ []) ≡ region_count l.first = omega arith in sum))

  late_fork : (n : ℕ) → n < span → (r : ℕ) (f : ForkPlace) → slice_get (forks (others (late_lane n))) r ≡ Some f
      → slice_get (forks (logs (early_lane n))) (r + region_count (others (early_lane n))) ≡ Some (raised f (suc c))
  late_fork n within r f found =
      let l = cut.lanes n within in
      let b : ℕ = 0 + barrier_count l.first in
      let all : forks (logs (early_lane n)) ≡ forks l.first ++ forks_from b (l.barrier ∷ others (late_lane n)) = ap forks l.whole_is ∙ forks_both 0 l.first (l.barrier ∷ others (late_lane n)) in
      let on : forks_from b (l.barrier ∷ others (late_lane n)) ≡ forks_from (0 + suc c) (others (late_lane n)) =
      past_barrier b l.barrier (others (late_lane n)) l.at_barrier ∙ ap (λ (d : ℕ). forks_from d (others (late_lane n))) (let passed = l.passed in let sum : b + 1 ≡ 0 + suc c = omega arith in sum) in
      let whole : forks (logs (early_lane n)) ≡ forks l.first ++ forks_from (0 + suc c) (others (late_lane n)) = all ∙ ap (λ (fs : List ForkPlace). forks l.first ++ fs) on in
      let long : length (forks l.first) ≡ region_count l.first = forks_length 0 l.first in
      let place : length (forks l.first) + r ≡ r + region_count (others (early_lane n)) = (let count = first_regions n within in omega arith) in
      subst (λ (fs : List ForkPlace). slice_get fs (r + region_count (others (early_lane n))) ≡ Some (raised f (suc c))) (sym whole)
      (subst (λ (i : ℕ). slice_get (forks l.first ++ forks_from (0 + suc c) (others (late_lane n))) i ≡ Some (raised f (suc c))) place
      (get_right (forks l.first) (forks_from (0 + suc c) (others (late_lane n))) r ∙ forks_raised 0 (suc c) (others (late_lane n)) r f found))

  pub were_forks : WereForks (cut_number k others) (cut_offset k c) logs others
  were_forks path other r f from found = at (classify path other from (some_fork 0 (others other) r f found))
    where
      at : Where path other → slice_get (forks (logs path)) (cut_number k others other r) ≡ Some (raised f (cut_offset k c other))
      at (Where.root p o) =
          subst (λ (w : List Step). slice_get (forks (logs path)) (cut_number k others w r) ≡ Some (raised f (cut_offset k c w))) (sym o)
          (subst (λ (w : List Step). slice_get (forks (logs w)) (undouble k r) ≡ Some (raised f 0)) (sym p)
          (subst (λ (fs : List ForkPlace). slice_get fs (undouble k r) ≡ Some (raised f 0)) (sym root_forks)
          (subst (λ (i : ℕ). slice_get (fore ++ doubled ∷ hind) (undouble i r) ≡ Some (raised f 0)) fore_length
          (undoubled fore hind doubled f r (subst (λ (fs : List ForkPlace). slice_get fs r ≡ Some f) new_forks (subst (λ (w : List Step). slice_get (forks (others w)) r ≡ Some f) o found)) ∙ ap Some (not_raised f)))))
      at (Where.early n within p o) =
          let number : cut_number k others (early_lane n) r ≡ r = rw (not_next k) refl in
          let offset : cut_offset k c (early_lane n) ≡ 0 = rw (not_next k) refl in
          let has = early_fork n within r f (subst (λ (w : List Step). slice_get (forks (others w)) r ≡ Some f) o found) in
          subst (λ (w : List Step). slice_get (forks (logs path)) (cut_number k others w r) ≡ Some (raised f (cut_offset k c w))) (sym o)
          (subst (λ (w : List Step). slice_get (forks (logs w)) (cut_number k others (early_lane n) r) ≡ Some (raised f (cut_offset k c (early_lane n)))) (sym p)
          (ap (λ (i : ℕ). slice_get (forks (logs (early_lane n))) i) number ∙ (has ∙ (ap Some (not_raised f) ∙ ap (λ (d : ℕ). Some (raised f d)) (sym offset)))))
      at (Where.late n within p o) =
          let number : cut_number k others (late_lane n) r ≡ r + region_count (others (early_lane n)) = rw (number_itself (suc k)) refl in
          let offset : cut_offset k c (late_lane n) ≡ suc c = rw (number_itself (suc k)) refl in
          let has = late_fork n within r f (subst (λ (w : List Step). slice_get (forks (others w)) r ≡ Some f) o found) in
          subst (λ (w : List Step). slice_get (forks (logs path)) (cut_number k others w r) ≡ Some (raised f (cut_offset k c w))) (sym o)
          (subst (λ (w : List Step). slice_get (forks (logs w)) (cut_number k others (late_lane n) r) ≡ Some (raised f (cut_offset k c (late_lane n)))) (sym p)
          (ap (λ (i : ℕ). slice_get (forks (logs (early_lane n))) i) number ∙ (has ∙ ap (λ (d : ℕ). Some (raised f d)) (sym offset))))
      at (Where.elsewhere is number offset) =
          let has : slice_get (forks (logs path)) r ≡ Some f = subst (λ (records : List Record). slice_get (forks records) r ≡ Some f) is found in
          ap (λ (i : ℕ). slice_get (forks (logs path)) i) (number r) ∙ (has ∙ (ap Some (not_raised f) ∙ ap (λ (d : ℕ). Some (raised f d)) (sym offset)))

  -- two tasks of one task are its parts before and after the cut
  record AreParts (other later : List Step) : Type 0 where
    lane : ℕ
    lane_span : ℕ
    before_cut : other ≡ lane_of [] k lane lane_span
    after_cut : later ≡ lane_of [] (suc k) lane lane_span

  abbrev AreOneOrTwo : List Step → ℕ → ℕ → Type 0
  AreOneOrTwo beside r q = (r ≡ q) ⊎ ((beside ≡ []) × (((r ≡ k) × (q ≡ suc k)) ⊎ ((r ≡ suc k) × (q ≡ k))))

  number_once : (beside : List Step) (r q : ℕ) → cut_number k others beside r ≡ cut_number k others beside q → AreOneOrTwo beside r q
  number_once [] r q e = at (undouble_once k r q e)
    where
      at : (r ≡ q) ⊎ ((r ≡ k) × (q ≡ suc k)) ⊎ ((r ≡ suc k) × (q ≡ k)) → AreOneOrTwo [] r q
      at (inl same) = inl same
      at (inr (inl two)) = inr (refl, inl two)
      at (inr (inr two)) = inr (refl, inr two)
  number_once (t ∷ []) r q e = at (t.region == suc k) e
    where
      at : (p : Bool) → cond p (r + region_count (others (lane_of [] k t.lane t.span))) r ≡ cond p (q + region_count (others (lane_of [] k t.lane t.span))) q
          → AreOneOrTwo (t ∷ []) r q
      at true same = inl (omega arith)
      at false same = inl same
  number_once (t ∷ u ∷ rest) r q e = inl e

  -- regions of the two parts have different numbers
  parts_apart : (f g : Node) (n s m t : ℕ) (child other : List Step) → IsLane others f n s child → IsLane others g m t other → AreParts f.path g.path
      → cut_number k others f.path (regions_before others f) ≡ cut_number k others g.path (regions_before others g) → ⊥
  parts_apart f g n s m t child other mine yours parts e =
      let first : cut_number k others f.path (regions_before others f) ≡ regions_before others f =
      ap (λ (w : List Step). cut_number k others w (regions_before others f)) parts.before_cut ∙ rw (not_next k) refl in
      let second : cut_number k others g.path (regions_before others g) ≡ regions_before others g + region_count (others (lane_of [] k parts.lane parts.lane_span)) =
      ap (λ (w : List Step). cut_number k others w (regions_before others g)) parts.after_cut ∙ rw (number_itself (suc k)) refl in
      let within = region_within others f n s child mine in
      let all : region_count (others f.path) ≡ region_count (others (lane_of [] k parts.lane parts.lane_span)) = ap (λ (w : List Step). region_count (others w)) parts.before_cut in
      omega arith

  task_of : (f : Node) (n s : ℕ) (child : List Step) → IsLane others f n s child → IsTask others f.path
  task_of f n s child lane = let here = there others f Region (is_region others f n s child lane) in omega arith

  same_or_parts : (path q other : List Step) → IsFrom (cut_number k others) path q → IsFrom (cut_number k others) path other → IsTask others q → IsTask others other
      → (q ≡ other) ⊎ AreParts q other ⊎ AreParts other q
  same_or_parts _ _ other (IsFrom.root path q e f) from q_task other_task = at from
    where
      at : IsFrom (cut_number k others) path other → (q ≡ other) ⊎ AreParts q other ⊎ AreParts other q
      at (IsFrom.root p o g h) = inl (f ∙ sym h)
      at (IsFrom.lane p o above beside r n s up parts is) = absurd (not_both_empty path above (record { region = cut_number k others beside r; lane = n; span = s }) e parts)
  same_or_parts _ _ other (IsFrom.lane path q above beside r n s up parts is) from q_task other_task = at from (λ next up2 a b. same_or_parts above beside next up up2 a b)
    where
      mine : HasRegion beside r q n s
      mine = region_of beside r n s q is q_task

      at : IsFrom (cut_number k others) path other
          → ((next : List Step) → IsFrom (cut_number k others) above next → IsTask others beside → IsTask others next → (beside ≡ next) ⊎ AreParts beside next ⊎ AreParts next beside)
          → (q ≡ other) ⊎ AreParts q other ⊎ AreParts other q
      at (IsFrom.root p o g h) rec = absurd (not_both_empty path above (record { region = cut_number k others beside r; lane = n; span = s }) g parts)
      at (IsFrom.lane p o above2 beside2 r2 n2 s2 up2 parts2 is2) rec =
          let both = same_from_push above above2 (record { region = cut_number k others beside r; lane = n; span = s }) (record { region = cut_number k others beside2 r2; lane = n2; span = s2 }) (sym parts ∙ parts2) in
          let number : cut_number k others beside r ≡ cut_number k others beside2 r2 = ap (λ (step : Step). step.region) both.1 in
          let lane : n ≡ n2 = ap (λ (step : Step). step.lane) both.1 in
          let spans : s ≡ s2 = ap (λ (step : Step). step.span) both.1 in
          let yours = region_of beside2 r2 n2 s2 other is2 other_task in
          by beside2 r2 n2 s2 is2 number lane spans yours
          (rec beside2 (subst (λ (w : List Step). IsFrom (cut_number k others) w beside2) (sym both.0) up2)
          (subst (λ (w : List Step). IsTask others w) mine.above (task_of mine.fork n s q mine.lane))
          (subst (λ (w : List Step). IsTask others w) yours.above (task_of yours.fork n2 s2 other yours.lane)))
        where
          by : (beside2 : List Step) (r2 n2 s2 : ℕ) → other ≡ lane_of beside2 r2 n2 s2 → cut_number k others beside r ≡ cut_number k others beside2 r2 → n ≡ n2 → s ≡ s2 → HasRegion beside2 r2 other n2 s2
              → (beside ≡ beside2) ⊎ AreParts beside beside2 ⊎ AreParts beside2 beside → (q ≡ other) ⊎ AreParts q other ⊎ AreParts other q
          by beside2 r2 n2 s2 is2 number lane spans yours (inl same) = further (number_once beside r r2 (number ∙ ap (λ (w : List Step). cut_number k others w r2) (sym same)))
            where
              further : AreOneOrTwo beside r r2 → (q ≡ other) ⊎ AreParts q other ⊎ AreParts other q
              further (inl region) = inl (is ∙ ((λ i. lane_of (same i) (region i) (lane i) (spans i)) ∙ sym is2))
              further (inr (none, inl two)) = inr (inl (record {
                lane = n;
                lane_span = s;
                before_cut = is ∙ ap₂ (λ (w : List Step) (a : ℕ). lane_of w a n s) none two.0;
                after_cut = is2 ∙ λ i. lane_of ((sym same ∙ none) i) (two.1 i) (sym lane i) (sym spans i);
              }))
              further (inr (none, inr two)) = inr (inr (record {
                lane = n;
                lane_span = s;
                before_cut = is2 ∙ λ i. lane_of ((sym same ∙ none) i) (two.1 i) (sym lane i) (sym spans i);
                after_cut = is ∙ ap₂ (λ (w : List Step) (a : ℕ). lane_of w a n s) none two.0;
              }))
          by beside2 r2 n2 s2 is2 number lane spans yours (inr (inl two)) = absurd (parts_apart mine.fork yours.fork n s n2 s2 q other mine.lane yours.lane
              (subst (λ (w : List Step). AreParts w yours.fork.path) (sym mine.above) (subst (λ (w : List Step). AreParts beside w) (sym yours.above) two))
              ((λ i. cut_number k others (mine.above i) (mine.number i)) ∙ (number ∙ sym (λ i. cut_number k others (yours.above i) (yours.number i)))))
          by beside2 r2 n2 s2 is2 number lane spans yours (inr (inr two)) = absurd (parts_apart yours.fork mine.fork n2 s2 n s other q yours.lane mine.lane
              (subst (λ (w : List Step). AreParts w mine.fork.path) (sym yours.above) (subst (λ (w : List Step). AreParts beside2 w) (sym mine.above) two))
              (sym ((λ i. cut_number k others (mine.above i) (mine.number i)) ∙ (number ∙ sym (λ i. cut_number k others (yours.above i) (yours.number i))))))

  -- a lane before the cut and one after it don't stand between the same barriers
  crossing : (v w f g : Node) (n m s t : ℕ) → f.path ≡ [] → g.path ≡ [] → regions_before others f ≡ k → regions_before others g ≡ suc k → IsLane others f n s v.path → IsLane others g m t w.path
      → barriers_before others v + cut_offset k c v.path ≡ barriers_before others w + cut_offset k c w.path → ⊥
  crossing v w f g n m s t f_root g_root f_is g_is mine yours level =
      let real = real_lane f n s v.path mine f_root (inl f_is) in
      let v_is : v.path ≡ early_lane n = mine.child ∙ λ i. lane_of (f_root i) (f_is i) n (real.same_span i) in
      let w_is : w.path ≡ lane_of [] (suc k) m t = yours.child ∙ λ i. lane_of (g_root i) (g_is i) m t in
      let v_offset : cut_offset k c v.path ≡ 0 = ap (cut_offset k c) v_is ∙ rw (not_next k) refl in
      let w_offset : cut_offset k c w.path ≡ suc c = ap (cut_offset k c) w_is ∙ rw (number_itself (suc k)) refl in
      let l = cut.lanes n real.within in
      let none : barrier_count (l.ended ∷ []) ≡ 0 = barrier_step l.ended [] ∙ rw l.at_end refl in
      let passed = l.passed in
      let all : barrier_count (others v.path) ≡ c = ap (λ (p : List Step). barrier_count (others p)) v_is ∙ (ap barrier_count l.early_is ∙ (barriers_both l.first (l.ended ∷ []) ∙ (let sum : barrier_count l.first + barrier_count (l.ended ∷ []) ≡ c = omega arith in sum))) in
      let most : barriers_before others v ≤ barrier_count (others v.path) = sum_by-take-le (λ (r : Record). cond (is_barrier_kind r.kind) 1 0) (others v.path) v.index in
      omega arith

  even_lanes : (path : List Step) (r n m s : ℕ) → cut_offset k c (lane_of path r n s) ≡ cut_offset k c (lane_of path r m s)
  even_lanes [] r n m s = refl
  even_lanes (t ∷ []) r n m s = refl
  even_lanes (t ∷ u ∷ rest) r n m s = refl

  one_region : (path : List Step) (v w f g : Node) (n m s t : ℕ) → IsFrom (cut_number k others) path f.path → IsFrom (cut_number k others) path g.path
      → IsLane others f n s v.path → IsLane others g m t w.path
      → cut_number k others f.path (regions_before others f) ≡ cut_number k others g.path (regions_before others g)
      → barriers_before others v + cut_offset k c v.path ≡ barriers_before others w + cut_offset k c w.path → f ≡ g
  one_region path v w f g n m s t from also mine yours number level =
      at (same_or_parts path f.path g.path from also (task_of f n s v.path mine) (task_of g m t w.path yours))
    where
      by : f.path ≡ g.path → AreOneOrTwo f.path (regions_before others f) (regions_before others g) → f ≡ g
      by same (inl region) = same_region others f g (is_region others f n s v.path mine) (is_region others g m t w.path yours) same region
      by same (inr (none, inl two)) = absurd (crossing v w f g n m s t none (sym same ∙ none) two.0 two.1 mine yours level)
      by same (inr (none, inr two)) = absurd (crossing w v g f m n t s (sym same ∙ none) none two.1 two.0 yours mine (sym level))

      at : (f.path ≡ g.path) ⊎ AreParts f.path g.path ⊎ AreParts g.path f.path → f ≡ g
      at (inl same) = by same (number_once f.path (regions_before others f) (regions_before others g) (number ∙ ap (λ (p : List Step). cut_number k others p (regions_before others g)) (sym same)))
      at (inr (inl two)) = absurd (parts_apart f g n s m t v.path w.path mine yours two number)
      at (inr (inr two)) = absurd (parts_apart g f m t n s w.path v.path yours mine two (sym number))

  pub keeps_teams : KeepsTeams (cut_number k others) (cut_offset k c) logs others
  keeps_teams = record {
    even = even_lanes;
    one = λ path v w f g n m s t from also mine yours v_there w_there number level. one_region path v w f g n m s t from also mine yours number level;
  }
