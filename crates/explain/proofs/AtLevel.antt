-- The barriers that a record's lane passed at a level: before the record, or before the Region through which it hangs.
use Rattle.std.proofs.Common.{◌≡◌, ◌⊎◌, ℕ, suc, ◌+◌, ◌-◌, ◌<◌, ◌≤◌, Bool, List, ◌∷◌, ◌++◌, length, take, drop, Option, Some, None, IsTrue, refl, sym, ap, subst, ◌∙◌, inl, inr, arith}
use Rattle.std.specs.Prelude.{◌↔◌, slice_get, IsSomeAnd, MatchOption}
use Rattle.std.proofs.lemmas.Option.{same_Some, slice_get_within}
use Rattle.sw_base.specs.declared.path.Step.{Step}
use Rattle.sw_base.specs.Environment.{Content}
use Rattle.log_format.specs.declared.record.Record.{Record}
use Rattle.race_model.specs.FirstBad.{row_of}
use Rattle.race_model.specs.ForkJoin.{IsForkJoin}
use Rattle.race_model.specs.Race.{IsUnordered}
use Rattle.race_model.specs.Row.{Row}
use Rattle.race_model.specs.Trace.{Trace, Logs, Node, IsThere, logs_of, region_count, regions_before, barriers_before}
use Rattle.race_model.proofs.TraceLogs.{find_task}
use Rattle.race_laws.proofs.FolderForkJoin.{fork_join}
use Rattle.race_laws.proofs.FolderRules.{parted}
use Rattle.counted_order.specs.Counting.{IsAbove}
use Rattle.counted_order.specs.Parting.{PartInLanes, ComesAfterBarriers}
use Rattle.counted_order.proofs.Above.{HangsFrom, split, same_level}
use Rattle.counted_order.proofs.Parted.{Level, level}
use Rattle.counted_order.proofs.Paths.{HangsAt, hangs_path, region_above, same_front, unordered_parts, parts_unordered}
use Rattle.explain.specs.Finding.{IsFound, FindsMarked}
use Rattle.explain.specs.Witness.{IsLaneAbove, HoldsListedRun}
use Rattle.explain.specs.declared.finding.Found.{Found}
use Rattle.explain.specs.declared.finding.Mark.TheVariants as mark
use Rattle.explain.proofs.Logs.{LogOf, row_at, seam, front, tells}

-- the record itself is in the lane
pub itself_passed : (logs : Logs) (x : Node) (depth own : ℕ) → depth < length x.path → length x.path ≤ depth + 1 → own ≡ barriers_before logs x → ComesAfterBarriers logs x depth own
itself_passed logs x depth own deep last is = record { above = x; part = IsAbove.itself x; deep = omega arith; passed = sym is }

-- the Region through which a record hangs
record Through (logs : Logs) (x : Node) (depth : ℕ) : Type 0 where
  above : Node
  here : IsThere logs above
  part : IsAbove logs above x
  deep : length above.path ≡ depth + 1
  hangs : HangsAt logs above x

through : (logs : Logs) (x : Node) (depth : ℕ) → IsForkJoin logs → IsThere logs x → depth + 1 < length x.path → Through logs x depth
through logs x depth tree here deep = at (level logs tree.tasks.forked (length x.path - (depth + 1)) x (depth + 1) (omega arith) here)
  where
    at : Level logs x (depth + 1) → Through logs x depth
    at l = by (split logs l.above x l.part)
      where
        by : (l.above ≡ x) ⊎ HangsFrom logs l.above x → Through logs x depth
        by (inl e) = absurd (let same : length l.above.path ≡ length x.path = ap (λ (w : Node). length w.path) e in let low = l.deep in omega arith)
        by (inr h) = record { above = l.above; here = l.here; part = l.part; deep = l.deep; hangs = hangs_path logs l.above h.fork x h.number h.span h.lane h.part }

-- the step after a beginning of the path
step_there : (path above : List Step) (first : Step) (rest : List Step) (depth : ℕ) (step : Step) → path ≡ above ++ first ∷ rest → length above ≡ depth
    → slice_get path depth ≡ Some step → first ≡ step
step_there path above first rest depth step parts deep found = same_Some first step (sym (seam path above rest first depth parts deep) ∙ found)

record ListsLane (rows : List Row) (path : List Step) (depth : ℕ) : Type 0 where
  place : ℕ
  row : Row
  listed : slice_get rows place ≡ Some row
  lane : IsLaneAbove path depth row.path

module _ (content : Content) (dir : List ℕ) (rows : List Row) (trace : Trace) (run : HoldsListedRun content dir rows trace) where
  pub tree : IsForkJoin (logs_of trace)
  tree = fork_join trace run.keeps

  -- the task above is listed
  lists_lane : (x : Node) (depth : ℕ) → IsThere (logs_of trace) x → depth + 1 < length x.path → ListsLane rows x.path depth
  lists_lane x depth here deep =
      let t = through (logs_of trace) x depth tree here deep in
      let there = t.here in
      let f = find_task trace t.above.path (omega arith) in
      record {
        place = f.index;
        row = row_of f.task;
        listed = ap (λ (l : List Row). slice_get l f.index) (sym run.rows_are) ∙ row_at trace f.index f.task f.found;
        lane = record {
          deep = ap length f.path_is ∙ t.deep;
          under = record { first = t.hangs.step; rest = t.hangs.rest; parts = t.hangs.parts ∙ ap (λ (p : List Step). p ++ t.hangs.step ∷ t.hangs.rest) (sym f.path_is) };
        };
      }

  pub lane_listed : (x : Node) (depth : ℕ) (path : List Step) → x.path ≡ path → IsThere (logs_of trace) x → depth + 1 < length path
      → ((place : ℕ) (row : Row) → slice_get rows place ≡ Some row → IsLaneAbove path depth row.path → ⊥) → ⊥
  lane_listed x depth path same here deep none =
      let l = lists_lane x depth here (subst (λ (p : List Step). depth + 1 < length p) (sym same) deep) in
      none l.place l.row l.listed (subst (λ (p : List Step). IsLaneAbove p depth l.row.path) same l.lane)

  module _ (x : Node) (here : IsThere (logs_of trace) x) (depth region : ℕ) (step : Step) (is_step : slice_get x.path (depth + 1) ≡ Some step) (number : step.region ≡ region)
      (place : ℕ) (row : Row) (log : LogOf content dir trace place row) (lane : IsLaneAbove x.path depth row.path) where
    first_is : lane.under.first ≡ step
    first_is = step_there x.path row.path lane.under.first lane.under.rest (depth + 1) step lane.under.parts lane.deep is_step

    found_passed : (found : Found) → IsFound (mark.Region region) log.task.records found → ComesAfterBarriers (logs_of trace) x depth found.barriers
    found_passed found f =
        let a : Node = record { path = log.task.path; index = length f.before } in
        let told = tells content dir trace place row log (mark.Region region) found f in
        let marked = f.marked in
        let first : take (length f.before) (logs_of trace log.task.path) ≡ f.before =
        ap (take (length f.before)) log.logs_are ∙ front log.task.records f.before f.after found.event (length f.before) f.parts refl in
        let regions : regions_before (logs_of trace) a ≡ lane.under.first.region =
        ap region_count first ∙ (marked.1 ∙ (sym number ∙ ap (λ (s : Step). s.region) (sym first_is))) in
        record {
          above = a;
          part = region_above (logs_of trace) a x lane.under.first lane.under.rest tree here
              (lane.under.parts ∙ ap (λ (p : List Step). p ++ lane.under.first ∷ lane.under.rest) log.path_is)
              (record { event = found.event; found = told.event; kind_is = marked.0 }) regions;
          deep = ap length (sym log.path_is) ∙ lane.deep;
          passed = sym told.barriers;
        }

    -- it is there
    not_none : FindsMarked (mark.Region region) log.task.records None → ⊥
    not_none none =
        let long : depth + 1 < length x.path = slice_get_within x.path (depth + 1) step is_step in
        let t = through (logs_of trace) x depth tree here long in
        let paths : t.above.path ≡ log.task.path =
        same_front t.above.path row.path (t.hangs.step ∷ t.hangs.rest) (lane.under.first ∷ lane.under.rest) (sym t.hangs.parts ∙ lane.under.parts) (t.deep ∙ sym lane.deep) ∙ log.path_is in
        let records : logs_of trace t.above.path ≡ log.task.records = ap (logs_of trace) paths ∙ log.logs_are in
        let is : t.hangs.step ≡ step = step_there x.path t.above.path t.hangs.step t.hangs.rest (depth + 1) step t.hangs.parts t.deep is_step in
        let event = t.hangs.region.event in
        let found : slice_get log.task.records t.above.index ≡ Some event = ap (λ (l : List Record). slice_get l t.above.index) (sym records) ∙ t.hangs.region.found in
        let regions : region_count (take t.above.index log.task.records) ≡ region =
        ap (λ (l : List Record). region_count (take t.above.index l)) (sym records) ∙ (sym t.hangs.number ∙ (ap (λ (s : Step). s.region) is ∙ number)) in
        none (take t.above.index log.task.records) (drop (suc t.above.index) log.task.records) event (parted log.task.records t.above.index event found) (t.hangs.region.kind_is, regions)

    pub region_passed : (answer : Option Found) (n : Option ℕ) → FindsMarked (mark.Region region) log.task.records answer → MatchOption answer (n ≡ None) (λ (one : Found). n ≡ Some one.barriers)
        → IsSomeAnd n (ComesAfterBarriers (logs_of trace) x depth)
    region_passed None n none is = absurd (not_none none)
    region_passed (Some found) n f is = subst (λ (o : Option ℕ). IsSomeAnd o (ComesAfterBarriers (logs_of trace) x depth)) (sym is) (found_passed found f)

-- the same of paths that are equal
pub exact_at : (parts : Option ℕ) (p q path other : List Step) → path ≡ p → other ≡ q → ((depth : ℕ) → (parts ≡ Some depth) ↔ PartInLanes p q depth)
    → (depth : ℕ) → (parts ≡ Some depth) ↔ PartInLanes path other depth
exact_at parts p q path other e f exact depth =
    subst (λ (r : List Step). (parts ≡ Some depth) ↔ PartInLanes r other depth) (sym e) (subst (λ (r : List Step). (parts ≡ Some depth) ↔ PartInLanes p r depth) (sym f) (exact depth))

passed_once : (logs : Logs) (x : Node) (depth n m : ℕ) → ComesAfterBarriers logs x depth n → ComesAfterBarriers logs x depth m → n ≡ m
passed_once logs x depth n m p q = sym p.passed ∙ (ap (barriers_before logs) (same_level logs p.above q.above x p.part q.part (p.deep ∙ sym q.deep)) ∙ q.passed)

module _ (logs : Logs) (x y : Node) (tree : IsForkJoin logs) (x_there : IsThere logs x) (y_there : IsThere logs y) (parts : Option ℕ)
    (exact : (depth : ℕ) → (parts ≡ Some depth) ↔ PartInLanes x.path y.path depth) where
  pub not_parted : parts ≡ None → IsUnordered logs x y → ⊥
  not_parted none u =
      let p = unordered_parts logs x y tree x_there y_there u in
      let some : parts ≡ Some p.level = (exact p.level).1 p.parts in
      cc

  pub told_unordered : (depth : ℕ) → parts ≡ Some depth → (mine yours : Option ℕ) → IsSomeAnd mine (ComesAfterBarriers logs x depth) → IsSomeAnd yours (ComesAfterBarriers logs y depth)
      → (so : Bool) → IsTrue so ↔ ((n : ℕ) × (mine ≡ Some n) × (yours ≡ Some n)) → IsTrue so ↔ IsUnordered logs x y
  told_unordered depth is None yours mine_passed yours_passed so as_many = absurd mine_passed
  told_unordered depth is (Some n) None mine_passed yours_passed so as_many = absurd yours_passed
  told_unordered depth is (Some n) (Some m) mine_passed yours_passed so as_many = (
    λ h. let both = as_many.0 h in
        let same : m ≡ n = same_Some m both.0 both.2 ∙ sym (same_Some n both.0 both.1) in
        parts_unordered logs x y tree x_there y_there (record {
          level = depth;
          barriers = n;
          parts = (exact depth).0 is;
          mine = mine_passed;
          yours = subst (λ (k : ℕ). ComesAfterBarriers logs y depth k) same yours_passed;
        }),
    λ u. let p = unordered_parts logs x y tree x_there y_there u in
        let depths : p.level ≡ depth = same_Some p.level depth (sym ((exact p.level).1 p.parts) ∙ is) in
        let mine = passed_once logs x depth n p.barriers mine_passed (subst (λ (d : ℕ). ComesAfterBarriers logs x d p.barriers) depths p.mine) in
        let yours = passed_once logs y depth m p.barriers yours_passed (subst (λ (d : ℕ). ComesAfterBarriers logs y d p.barriers) depths p.yours) in
        as_many.1 (p.barriers, ap Some mine, ap Some yours),
  )
