-- Mutexes nest in what is written where they do in the run.
use Rattle.std.proofs.Common.{◌≡◌, ◌⊎◌, ℕ, zero, suc, ◌+◌, append-nil, ◌<◌, List, [], ◌∷◌, ◌++◌, length, take, Some, refl, sym, ap, subst, arith, ◌∙◌, inl, inr}
use Rattle.std.specs.Prelude.{slice_get, Bool, Contains, ◌≢◌}
use Rattle.std.proofs.lemmas.Option.{slice_get_within}
use Rattle.sw_base.specs.declared.path.Step.{Step}
use Rattle.sw_base.proofs.Lists.{get_right}
use Rattle.log_format.specs.declared.format.Format.{Format}
use Rattle.log_format.specs.declared.record.Record.{Record}
use Rattle.log_format.specs.declared.record.Kind.{Kind}
use Rattle.log_format.specs.declared.record.Kind.TheVariants.{Barrier, Region, End}
use Rattle.race_model.specs.Trace.{Logs, Node, region_count}
use Rattle.race_model.specs.Listing.{lane_of}
use Rattle.race_model.specs.Race.{held_after, held_after_kind, held_at}
use Rattle.race_model.specs.ForkJoin.{IsForkJoin, IsTask}
use Rattle.race_model.proofs.Held.{held_after-append}
use Rattle.writer_laws.specs.Cutting.{cut_number, IsCut}
use Rattle.writer_laws.specs.Dropping.{Drops}
use Rattle.writer_laws.specs.Rules.{IsNestedRecord, AreNested, AreTabled}
use Rattle.writer_laws.specs.Splitting.{later_number, IsSplit}
use Rattle.writer_laws.specs.Values.{DifferInValues}
use Rattle.writer_laws.proofs.CutForks.{get_either}
use Rattle.writer_laws.proofs.CutRecords.{early_moved, late_moved, take_past}
use Rattle.writer_laws.proofs.CutTasks as tasks
use Rattle.writer_laws.proofs.Dropped.{keeps, leaves}
use Rattle.writer_laws.proofs.Kept.{IsPlaced, comes}
use Rattle.writer_laws.proofs.Origins.{HasOrigin, origin}
use Rattle.writer_laws.proofs.Split as splitting
use Rattle.writer_laws.proofs.Valued.{beside, all_back}

-- where accesses are left out
pub drops_nested : (keep : Node → Bool) (logs others : Logs) → Drops keep logs others → AreNested logs → AreNested others
drops_nested keep logs others drops nested x r found =
    let c = comes (keeps keep logs others drops x.path) (logs x.path) (leaves keep logs others drops x.path) x.index r (subst (λ (l : List Record). slice_get l x.index ≡ Some r) (drops.kept x.path) found) in
    let p = subst (λ (l : List Record). IsPlaced (logs x.path) l c.index x.index r) (sym (drops.kept x.path)) c.placed in
    subst (λ (held : List ℕ). IsNestedRecord held r) (p.same_held []) (nested (record { path = x.path; index = c.index }) r p.found)

pub drops_tabled : (format : Format) (keep : Node → Bool) (logs others : Logs) → Drops keep logs others → AreTabled format logs → AreTabled format others
drops_tabled format keep logs others drops tabled x r found =
    let c = comes (keeps keep logs others drops x.path) (logs x.path) (leaves keep logs others drops x.path) x.index r (subst (λ (l : List Record). slice_get l x.index ≡ Some r) (drops.kept x.path) found) in
    tabled (record { path = x.path; index = c.index }) r c.placed.found

-- where values are others
nested_same : (held : List ℕ) (r s : Record) → r.kind ≡ s.kind → r.addr ≡ s.addr → IsNestedRecord held r → IsNestedRecord held s
nested_same held r s kind addr n = record {
  once = λ is. subst (λ (a : ℕ). Contains held a → ⊥) addr (n.once (kind ∙ is));
  limit = λ is. n.limit (kind ∙ is);
  last = λ is. subst (λ (a : ℕ). ((outer : List ℕ) → held ≢ outer ++ a ∷ []) → ⊥) addr (n.last (kind ∙ is));
  none = subst (λ (k : Kind). (k ≡ Barrier) ⊎ (k ≡ Region) ⊎ (k ≡ End) → held ≢ [] → ⊥) kind n.none;
}

pub values_nested : (logs others : Logs) → DifferInValues logs others → AreNested logs → AreNested others
values_nested logs others same nested x r found =
    let b = beside (others x.path) (logs x.path) (all_back (logs x.path) (others x.path) (same x.path)) x.index r found in
    subst (λ (held : List ℕ). IsNestedRecord held r) (sym (b.same_held []))
    (nested_same (held_after [] (take x.index (logs x.path))) b.event r (sym b.same.kind) (sym b.same.addr) (nested x b.event b.found))

-- an End where no mutex is held, and a record that comes where a Region did
end_nested : (r : Record) → r.kind ≡ End → IsNestedRecord [] r
end_nested r ends = record {
  once = λ is. cc;
  limit = λ is. cc;
  last = λ is. cc;
  none = λ which some. some refl;
}

region_nested : (held : List ℕ) (r s : Record) → r.kind ≡ Region → s.kind ≡ Region → IsNestedRecord held r → IsNestedRecord held s
region_nested held r s mine yours n = record {
  once = λ is. cc;
  limit = λ is. cc;
  last = λ is. cc;
  none = λ which. n.none (inr (inl mine));
}

-- a record of a part of a log, at its place in the whole log
from_whole : (logs : Logs) → AreNested logs → (path : List Step) (whole : List Record) → logs path ≡ whole → (i : ℕ) (r : Record) → slice_get whole i ≡ Some r → IsNestedRecord (held_after [] (take i whole)) r
from_whole logs nested path whole is i r found =
    subst (λ (records : List Record). IsNestedRecord (held_after [] (take i records)) r) is
    (nested (record { path = path; index = i }) r (subst (λ (records : List Record). slice_get records i ≡ Some r) (sym is) found))

-- the mutexes held behind a record in the middle of a log
held_past : (first more : List Record) (b : Record) (j : ℕ) → held_after [] (take (length first + suc j) (first ++ b ∷ more)) ≡ held_after (held_after_kind b.kind b.addr (held_after [] first)) (take j more)
held_past first more b j = ap (held_after []) (take_past first more b j) ∙ held_after-append [] first (b ∷ take j more)

take_behind : (first more : List Record) (i : ℕ) → take (length first + i) (first ++ more) ≡ first ++ take i more
take_behind [] more i =
    let same : i ≡ 0 + i = omega arith in
    subst (λ (n : ℕ). take n more ≡ take i more) same refl
take_behind (x ∷ first) more i =
    let same : suc (length first + i) ≡ length (x ∷ first) + i = omega arith in
    subst (λ (n : ℕ). take n (x ∷ (first ++ more)) ≡ x ∷ (first ++ take i more)) same (ap (λ (l : List Record). x ∷ l) (take_behind first more i))

take_first : (first more : List Record) → take (length first + 0) (first ++ more) ≡ first
take_first first more = take_behind first more 0 ∙ append-nil first

module _ (k c span : ℕ) (logs others : Logs) (cut : IsCut k c span logs others) (tree : IsForkJoin logs) (nested : AreNested logs) where
  -- of the root, where the region is forked twice
  root_nested : (i : ℕ) (r : Record) → slice_get (cut.before ++ cut.region ∷ cut.again ∷ cut.after) i ≡ Some r → IsNestedRecord (held_after [] (take i (cut.before ++ cut.region ∷ cut.again ∷ cut.after))) r
  root_nested i r found = at (get_either cut.before (cut.region ∷ cut.again ∷ cut.after) i r found)
    where
      idle : (r : Record) → r.kind ≡ Region → held_after_kind r.kind r.addr (held_after [] cut.before) ≡ held_after [] cut.before
      idle r is = rw is refl

      at_region : IsNestedRecord (held_after [] cut.before) cut.region
      at_region =
          let n = from_whole logs nested [] (cut.before ++ cut.region ∷ cut.after) cut.root (length cut.before + 0) cut.region (get_right cut.before (cut.region ∷ cut.after) 0) in
          subst (λ (records : List Record). IsNestedRecord (held_after [] records) cut.region) (take_first cut.before (cut.region ∷ cut.after)) n

      at : ((i < length cut.before) × (slice_get cut.before i ≡ Some r)) ⊎ ((m : ℕ) × (i ≡ length cut.before + m) × (slice_get (cut.region ∷ cut.again ∷ cut.after) m ≡ Some r))
          → IsNestedRecord (held_after [] (take i (cut.before ++ cut.region ∷ cut.again ∷ cut.after))) r
      at (inl (less, has)) =
          let m = early_moved cut.before (cut.region ∷ cut.after) (cut.region ∷ cut.again ∷ cut.after) i r less has in
          subst (λ (ms : List ℕ). IsNestedRecord ms r) m.same_held (from_whole logs nested [] (cut.before ++ cut.region ∷ cut.after) cut.root i r m.found)
      at (inr (zero, is, has)) =
          subst (λ (n : ℕ). IsNestedRecord (held_after [] (take n (cut.before ++ cut.region ∷ cut.again ∷ cut.after))) r) (sym is)
          (subst (λ (records : List Record). IsNestedRecord (held_after [] records) r) (sym (take_first cut.before (cut.region ∷ cut.again ∷ cut.after)))
          (let same : cut.region ≡ r = cc in subst (λ (t : Record). IsNestedRecord (held_after [] cut.before) t) same at_region))
      at (inr (suc zero, is, has)) =
          let same : cut.again ≡ r = cc in
          let past : held_after [] (take (length cut.before + 1) (cut.before ++ cut.region ∷ cut.again ∷ cut.after)) ≡ held_after [] cut.before =
          held_past cut.before (cut.again ∷ cut.after) cut.region 0 ∙ idle cut.region cut.forks in
          subst (λ (n : ℕ). IsNestedRecord (held_after [] (take n (cut.before ++ cut.region ∷ cut.again ∷ cut.after))) r) (sym is)
          (subst (λ (ms : List ℕ). IsNestedRecord ms r) (sym past)
          (subst (λ (t : Record). IsNestedRecord (held_after [] cut.before) t) same (region_nested (held_after [] cut.before) cut.region cut.again cut.forks cut.forks_again at_region)))
      at (inr (suc (suc j), is, has)) =
          let old = from_whole logs nested [] (cut.before ++ cut.region ∷ cut.after) cut.root (length cut.before + suc j) r (get_right cut.before (cut.region ∷ cut.after) (suc j) ∙ has) in
          let before : held_after [] (take (length cut.before + suc j) (cut.before ++ cut.region ∷ cut.after)) ≡ held_after (held_after [] cut.before) (take j cut.after) =
          held_past cut.before cut.after cut.region j ∙ ap (λ (ms : List ℕ). held_after ms (take j cut.after)) (idle cut.region cut.forks) in
          let now : held_after [] (take (length cut.before + suc (suc j)) (cut.before ++ cut.region ∷ cut.again ∷ cut.after)) ≡ held_after (held_after [] cut.before) (take j cut.after) =
          held_past cut.before (cut.again ∷ cut.after) cut.region (suc j)
          ∙ (ap (λ (ms : List ℕ). held_after (held_after_kind cut.again.kind cut.again.addr ms) (take j cut.after)) (idle cut.region cut.forks)
          ∙ ap (λ (ms : List ℕ). held_after ms (take j cut.after)) (idle cut.again cut.forks_again)) in
          subst (λ (n : ℕ). IsNestedRecord (held_after [] (take n (cut.before ++ cut.region ∷ cut.again ∷ cut.after))) r) (sym is)
          (subst (λ (ms : List ℕ). IsNestedRecord ms r) (before ∙ sym now) old)

  early_nested : (n : ℕ) → n < span → (i : ℕ) (r : Record) → slice_get (others (lane_of [] k n span)) i ≡ Some r → IsNestedRecord (held_after [] (take i (others (lane_of [] k n span)))) r
  early_nested n within i r found =
      let l = cut.lanes n within in
      subst (λ (records : List Record). IsNestedRecord (held_after [] (take i records)) r) (sym l.early_is)
      (by l.first l.ended (l.barrier ∷ others (lane_of [] (suc k) n span)) l.whole_is l.at_end l.unlocked
      (get_either l.first (l.ended ∷ []) i r (subst (λ (records : List Record). slice_get records i ≡ Some r) l.early_is found)))
    where
      by : (first : List Record) (ended : Record) (more : List Record) → logs (lane_of [] k n span) ≡ first ++ more → ended.kind ≡ End → held_after [] first ≡ []
          → ((i < length first) × (slice_get first i ≡ Some r)) ⊎ ((m : ℕ) × (i ≡ length first + m) × (slice_get (ended ∷ []) m ≡ Some r)) → IsNestedRecord (held_after [] (take i (first ++ ended ∷ []))) r
      by first ended more whole ends unlocked (inl (less, has)) =
          let m = early_moved first more (ended ∷ []) i r less has in
          subst (λ (ms : List ℕ). IsNestedRecord ms r) m.same_held (from_whole logs nested (lane_of [] k n span) (first ++ more) whole i r m.found)
      by first ended more whole ends unlocked (inr (zero, is, has)) =
          let same : ended ≡ r = cc in
          subst (λ (n : ℕ). IsNestedRecord (held_after [] (take n (first ++ ended ∷ []))) r) (sym is)
          (subst (λ (records : List Record). IsNestedRecord (held_after [] records) r) (sym (take_first first (ended ∷ [])))
          (subst (λ (ms : List ℕ). IsNestedRecord ms r) (sym unlocked) (subst (λ (t : Record). IsNestedRecord [] t) same (end_nested ended ends))))
      by first ended more whole ends unlocked (inr (suc m, is, has)) = cc

  late_nested : (n : ℕ) → n < span → (i : ℕ) (r : Record) → slice_get (others (lane_of [] (suc k) n span)) i ≡ Some r → IsNestedRecord (held_after [] (take i (others (lane_of [] (suc k) n span)))) r
  late_nested n within i r found =
      let l = cut.lanes n within in
      let m = late_moved c l.first (others (lane_of [] (suc k) n span)) l.barrier i r l.at_barrier l.passed l.unlocked found in
      subst (λ (ms : List ℕ). IsNestedRecord ms r) m.same_held
      (from_whole logs nested (lane_of [] k n span) (l.first ++ l.barrier ∷ others (lane_of [] (suc k) n span)) l.whole_is (length l.first + suc i) r m.found)

  pub cut_nested : AreNested others
  cut_nested x r found = by (origin (cut_number k others) x.path)
    where
      task : IsTask others x.path
      task = let within = slice_get_within (others x.path) x.index r found in omega arith

      by : HasOrigin (cut_number k others) x.path → IsNestedRecord (held_at others x) r
      by o = at (tasks.classify k c span logs others cut o.path x.path o.from task)
        where
          at : tasks.Where k c span logs others cut o.path x.path → IsNestedRecord (held_at others x) r
          at (tasks.Where.root p e) =
              let parts : others x.path ≡ cut.before ++ cut.region ∷ cut.again ∷ cut.after = ap others e ∙ cut.new_root in
              subst (λ (records : List Record). IsNestedRecord (held_after [] (take x.index records)) r) (sym parts)
              (root_nested x.index r (subst (λ (records : List Record). slice_get records x.index ≡ Some r) parts found))
          at (tasks.Where.early n within p e) =
              subst (λ (w : List Step). IsNestedRecord (held_after [] (take x.index (others w))) r) (sym e)
              (early_nested n within x.index r (subst (λ (w : List Step). slice_get (others w) x.index ≡ Some r) e found))
          at (tasks.Where.late n within p e) =
              subst (λ (w : List Step). IsNestedRecord (held_after [] (take x.index (others w))) r) (sym e)
              (late_nested n within x.index r (subst (λ (w : List Step). slice_get (others w) x.index ≡ Some r) e found))
          at (tasks.Where.elsewhere is number offset) = from_whole logs nested o.path (others x.path) (sym is) x.index r found

module _ (logs one two : Logs) (tree : IsForkJoin logs) (split : IsSplit logs one two) (nested : AreNested logs) (unlocked : held_after [] split.before ≡ []) where
  abbrev k : ℕ
  k = region_count split.before

  pub first_nested : AreNested one
  first_nested x r found = by (origin (later_number 0) x.path)
    where
      task : IsTask one x.path
      task = let within = slice_get_within (one x.path) x.index r found in omega arith

      root : (i : ℕ) → ((i < length split.before) × (slice_get split.before i ≡ Some r)) ⊎ ((m : ℕ) × (i ≡ length split.before + m) × (slice_get (split.ended ∷ []) m ≡ Some r))
          → IsNestedRecord (held_after [] (take i (split.before ++ split.ended ∷ []))) r
      root i (inl (less, has)) =
          let m = early_moved split.before split.after (split.ended ∷ []) i r less has in
          subst (λ (ms : List ℕ). IsNestedRecord ms r) m.same_held (from_whole logs nested [] (split.before ++ split.after) split.root i r m.found)
      root i (inr (zero, is, has)) =
          let same : split.ended ≡ r = cc in
          subst (λ (n : ℕ). IsNestedRecord (held_after [] (take n (split.before ++ split.ended ∷ []))) r) (sym is)
          (subst (λ (records : List Record). IsNestedRecord (held_after [] records) r) (sym (take_first split.before (split.ended ∷ [])))
          (subst (λ (ms : List ℕ). IsNestedRecord ms r) (sym unlocked) (subst (λ (t : Record). IsNestedRecord [] t) same (end_nested split.ended split.ends))))
      root i (inr (suc m, is, has)) = cc

      by : HasOrigin (later_number 0) x.path → IsNestedRecord (held_at one x) r
      by o = at (splitting.classify 0 logs one tree (splitting.one_ends logs one two tree split) (splitting.one_level logs one two tree split) split.first_forked split.first_tasks (splitting.one_regions logs one two tree split) o.path x.path o.from task)
        where
          at : splitting.Where 0 logs one tree (splitting.one_ends logs one two tree split) (splitting.one_level logs one two tree split) split.first_forked split.first_tasks (splitting.one_regions logs one two tree split) o.path x.path → IsNestedRecord (held_at one x) r
          at (splitting.Where.root p e) =
              let parts : one x.path ≡ split.before ++ split.ended ∷ [] = ap one e ∙ split.first_root in
              subst (λ (records : List Record). IsNestedRecord (held_after [] (take x.index records)) r) (sym parts)
              (root x.index (get_either split.before (split.ended ∷ []) x.index r (subst (λ (records : List Record). slice_get records x.index ≡ Some r) parts found)))
          at (splitting.Where.kept deep same) = from_whole logs nested o.path (one x.path) (sym same) x.index r found

  pub second_nested : AreNested two
  second_nested x r found = by (origin (later_number k) x.path)
    where
      task : IsTask two x.path
      task = let within = slice_get_within (two x.path) x.index r found in omega arith

      root : (i : ℕ) → slice_get split.after i ≡ Some r → IsNestedRecord (held_after [] (take i split.after)) r
      root i has =
          let old = from_whole logs nested [] (split.before ++ split.after) split.root (length split.before + i) r (get_right split.before split.after i ∙ has) in
          subst (λ (ms : List ℕ). IsNestedRecord ms r)
          (ap (held_after []) (take_behind split.before split.after i) ∙ (held_after-append [] split.before (take i split.after) ∙ ap (λ (ms : List ℕ). held_after ms (take i split.after)) unlocked)) old

      by : HasOrigin (later_number k) x.path → IsNestedRecord (held_at two x) r
      by o = at (splitting.classify k logs two tree (splitting.two_ends logs one two tree split) (splitting.two_level logs one two tree split) split.second_forked split.second_tasks (splitting.two_regions logs one two tree split) o.path x.path o.from task)
        where
          at : splitting.Where k logs two tree (splitting.two_ends logs one two tree split) (splitting.two_level logs one two tree split) split.second_forked split.second_tasks (splitting.two_regions logs one two tree split) o.path x.path → IsNestedRecord (held_at two x) r
          at (splitting.Where.root p e) =
              let parts : two x.path ≡ split.after = ap two e ∙ split.second_root in
              subst (λ (records : List Record). IsNestedRecord (held_after [] (take x.index records)) r) (sym parts)
              (root x.index (subst (λ (records : List Record). slice_get records x.index ≡ Some r) parts found))
          at (splitting.Where.kept deep same) = from_whole logs nested o.path (two x.path) (sym same) x.index r found
