-- A run with a region of the root cut at a barrier has the same race pairs.
use Rattle.std.proofs.Common.{◌≡◌, ◌⊎◌, ◌↔◌, ℕ, zero, suc, ◌+◌, ◌<◌, ◌≤◌, Bool, true, false, cond, List, [], ◌∷◌, ◌++◌, length, take, Some, refl, sym, ap, subst, arith, ◌∙◌, inl, inr}
use Rattle.std.specs.Prelude.{slice_get, Contains, All, ◌==◌}
use Rattle.std.proofs.lemmas.Bool.{cases_lt}
use Rattle.std.proofs.lemmas.List.{length_push, length-append, same_from_push}
use Rattle.std.proofs.lemmas.Option.{slice_get_within}
use Rattle.sw_base.specs.declared.path.Step.{Step}
use Rattle.sw_base.proofs.Lists.{get_right}
use Rattle.log_format.specs.declared.record.Record.{Record}
use Rattle.log_format.specs.declared.record.Kind.TheVariants.{Barrier, Region, End}
use Rattle.race_model.specs.Trace.{Logs, Node, record_at, IsThere, regions_before, barriers_before, is_barrier_kind, region_count, barrier_count}
use Rattle.race_model.specs.Listing.{lane_of}
use Rattle.race_model.specs.Order.{IsLane}
use Rattle.race_model.specs.Race.{IsAccess, IsRacePair, held_at}
use Rattle.race_model.specs.ForkJoin.{IsForkJoin, IsTask, EndsOnce, WasForked}
use Rattle.race_model.proofs.TraceLogs.{record_there}
use Rattle.race_laws.proofs.LabelPlace.{HasLast, has_last}
use Rattle.writer_laws.specs.Places.{ForkPlace, forks}
use Rattle.writer_laws.specs.Renumbering.{IsFrom, ComesFrom}
use Rattle.writer_laws.specs.StandIns.{HasStandIn, IsReplaced}
use Rattle.writer_laws.specs.Cutting.{undouble, cut_number, cut_offset, IsLaneCut, IsElsewhere, IsCut}
use Rattle.writer_laws.proofs.Ends.{NoEnd, access_no_end, ends_here, ends_later, ends_after, ends_rest, ends_apart, some_record}
use Rattle.writer_laws.proofs.Forks.{fork_listed, find_fork, barrier_step}
use Rattle.writer_laws.proofs.Renumbered.{was_region, was_lane, carried, carried_back}
use Rattle.writer_laws.proofs.Numbers.{same_number, other_number, number_itself, number_not, not_next}
use Rattle.writer_laws.proofs.Origins.{HasOrigin, origin}
use Rattle.writer_laws.proofs.Replaced.{covers_itself, no_pair_lost}
use Rattle.writer_laws.proofs.Unordered.{root_ordered}
use Rattle.race_model.proofs.Counted.{barriers_both}
use Rattle.writer_laws.proofs.CutForks.{get_either, doubled_get, undouble_early, undouble_late}
use Rattle.writer_laws.proofs.CutRecords.{IsMoved, not_moved, early_moved, late_moved}
use Rattle.writer_laws.proofs.CutTasks as tasks

access_no_barrier : (r : Record) → IsAccess r → r.kind ≡ Barrier → ⊥
access_no_barrier r (inl read) meets = cc
access_no_barrier r (inr (inl write)) meets = cc
access_no_barrier r (inr (inr update)) meets = cc

module _ (k c span : ℕ) (logs others : Logs) (cut : IsCut k c span logs others) (tree : IsForkJoin logs) where
  abbrev Comes : Node → Node → Type 0
  Comes x v = ComesFrom (cut_number k others) (cut_offset k c) logs others x v

  abbrev Back : Node → Node → Type 0
  Back v x = ComesFrom (cut_number k others) (cut_offset k c) logs others x v

  abbrev node : List Step → ℕ → Node
  node path index = record { path = path; index = index }

  task_of : (x : Node) → IsThere others x → IsTask others x.path
  task_of x here = omega arith

  -- the cut run is a fork-join run again
  begun : (n : ℕ) → n < span → IsTask logs (lane_of [] k n span)
  begun n within =
      let l = cut.lanes n within in
      let long : length (logs (lane_of [] k n span)) ≡ length l.first + length (l.barrier ∷ others (lane_of [] (suc k) n span)) = ap length l.whole_is ∙ length-append l.first (l.barrier ∷ others (lane_of [] (suc k) n span)) in
      omega arith

  not_ended : (r : Record) → (r.kind ≡ Barrier) ⊎ (r.kind ≡ Region) → NoEnd r
  not_ended r (inl meets) ends = cc
  not_ended r (inr forks) ends = cc

  -- a log that begins with another record goes on
  goes_on : (r : Record) (records : List Record) → NoEnd r → EndsOnce (r ∷ records) → EndsOnce records
  goes_on r [] no_end e = absurd (no_end (at e.prefix refl))
    where
      at : (prefix : List Record) → e.prefix ≡ prefix → r.kind ≡ End
      at [] is =
          let parts : r ∷ [] ≡ e.last ∷ [] = e.parts ∙ ap (λ (l : List Record). l ++ e.last ∷ []) is in
          let same : r ≡ e.last = cc in
          ap (λ (t : Record). t.kind) same ∙ e.ends
      at (p ∷ prefix) is =
          let parts : r ∷ [] ≡ p ∷ (prefix ++ e.last ∷ []) = e.parts ∙ ap (λ (l : List Record). l ++ e.last ∷ []) is in
          let none : length (r ∷ []) ≡ length (p ∷ (prefix ++ e.last ∷ [])) = ap length parts in
          let long = length_push prefix e.last in
          absurd (omega arith)
  goes_on r (s ∷ records) no_end e = (ends_rest r (s ∷ records) e (omega arith)).1

  lane_parts : (n : ℕ) (within : n < span) → All NoEnd ((cut.lanes n within).first) × EndsOnce (others (lane_of [] (suc k) n span))
  lane_parts n within =
      let l = cut.lanes n within in
      let apart = ends_apart l.first (l.barrier ∷ others (lane_of [] (suc k) n span)) (subst EndsOnce l.whole_is (tree.ends.ended (lane_of [] k n span) (begun n within))) (omega arith) in
      (apart.0, goes_on l.barrier (others (lane_of [] (suc k) n span)) (not_ended l.barrier (inl l.at_barrier)) apart.1)

  early_ends : (n : ℕ) → n < span → EndsOnce (others (lane_of [] k n span))
  early_ends n within =
      let l = cut.lanes n within in
      subst EndsOnce (sym l.early_is) (ends_after l.first (l.ended ∷ []) (lane_parts n within).0 (ends_here l.ended l.at_end))

  root_ends : EndsOnce (others [])
  root_ends =
      let apart = ends_apart cut.before (cut.region ∷ cut.after) (subst EndsOnce cut.root (tree.ends.ended [] tree.tasks.root)) (omega arith) in
      let rest = goes_on cut.region cut.after (not_ended cut.region (inr cut.forks)) apart.1 in
      subst EndsOnce (sym cut.new_root) (ends_after cut.before (cut.region ∷ cut.again ∷ cut.after) apart.0
      (ends_later cut.region (cut.again ∷ cut.after) (not_ended cut.region (inr cut.forks)) (ends_later cut.again cut.after (not_ended cut.again (inr cut.forks_again)) rest)))

  ended_there : (other : List Step) → IsTask others other → EndsOnce (others other)
  ended_there other task = by (origin (cut_number k others) other)
    where
      by : HasOrigin (cut_number k others) other → EndsOnce (others other)
      by o = at (tasks.classify k c span logs others cut o.path other o.from task)
        where
          at : tasks.Where k c span logs others cut o.path other → EndsOnce (others other)
          at (tasks.Where.root p e) = subst (λ (w : List Step). EndsOnce (others w)) (sym e) root_ends
          at (tasks.Where.early n within p e) = subst (λ (w : List Step). EndsOnce (others w)) (sym e) (early_ends n within)
          at (tasks.Where.late n within p e) = subst (λ (w : List Step). EndsOnce (others w)) (sym e) (lane_parts n within).1
          at (tasks.Where.elsewhere is number offset) = subst EndsOnce (sym is) (tree.ends.ended o.path (subst (λ (records : List Record). 0 < length records) is task))

  -- which region of the cut run a fork is
  data ForkIs (fork : Node) : Type 0 where
    first_part : fork.path ≡ [] → regions_before others fork ≡ k → ForkIs fork
    second_part : fork.path ≡ [] → regions_before others fork ≡ suc k → ForkIs fork
    unchanged : ((n s : ℕ) (child : List Step) → IsLane others fork n s child → IsElsewhere k span child) → ForkIs fork

  fork_is : (fork : Node) → ForkIs fork
  fork_is fork = at fork.path refl
    where
      at : (path : List Step) → fork.path ≡ path → ForkIs fork
      at [] root = by (regions_before others fork == k) (regions_before others fork == suc k) refl refl
        where
          by : (p q : Bool) → (regions_before others fork == k) ≡ p → (regions_before others fork == suc k) ≡ q → ForkIs fork
          by true q is other = ForkIs.first_part root (same_number (regions_before others fork) k is)
          by false true is other = ForkIs.second_part root (same_number (regions_before others fork) (suc k) other)
          by false false is other = ForkIs.unchanged (λ n s child lane.
              let child_is : child ≡ lane_of [] (regions_before others fork) n s = lane.child ∙ ap (λ (w : List Step). lane_of w (regions_before others fork) n s) root in
              record {
                not_early = λ m within e. other_number (regions_before others fork) k is (tasks.differ_region k c span logs others cut (regions_before others fork) k n m s span (sym child_is ∙ e));
                not_late = λ m within e. other_number (regions_before others fork) (suc k) other (tasks.differ_region k c span logs others cut (regions_before others fork) (suc k) n m s span (sym child_is ∙ e));
              })
      at (t ∷ rest) deep = ForkIs.unchanged (λ n s child lane.
          let long : length child ≡ length (t ∷ rest) + 1 = ap length lane.child ∙ (length_push fork.path (record { region = regions_before others fork; lane = n; span = s }) ∙ ap (λ (w : List Step). length w + 1) deep) in
          record {
            not_early = λ m within e. let lengths : length child ≡ 1 = ap length e in omega arith;
            not_late = λ m within e. let lengths : length child ≡ 1 = ap length e in omega arith;
          })

  -- a lane of a region that isn't cut has the log that it had
  record WasLane (region : Node) (n s : ℕ) (child : List Step) : Type 0 where
    old : List Step
    lane : IsLane logs region n s old
    same : others child ≡ logs old

  record WasTeam (fork : Node) (s : ℕ) : Type 0 where
    region : Node
    each : (n : ℕ) (child : List Step) → IsLane others fork n s child → WasLane region n s child

  was_team : (fork : Node) (n s : ℕ) (child : List Step) → IsLane others fork n s child → ((n s : ℕ) (child : List Step) → IsLane others fork n s child → IsElsewhere k span child) → WasTeam fork s
  was_team fork n s child lane elsewhere = by (origin (cut_number k others) fork.path)
    where
      by : HasOrigin (cut_number k others) fork.path → WasTeam fork s
      by o =
          let was = was_region (cut_number k others) (cut_offset k c) logs others (tasks.were_forks k c span logs others cut) (tasks.keeps_teams k c span logs others cut) o.path child fork n s o.from lane in
          record {
            region = node o.path was.index;
            each = λ m beside there. record {
              old = lane_of o.path (cut_number k others fork.path (regions_before others fork)) m s;
              lane = was_lane (cut_number k others) (cut_offset k c) logs others (tasks.were_forks k c span logs others cut) (tasks.keeps_teams k c span logs others cut)
                  o.path beside (lane_of o.path (cut_number k others fork.path (regions_before others fork)) m s) fork m s was there refl;
              same = cut.rest (lane_of o.path (cut_number k others fork.path (regions_before others fork)) m s) beside fork m s
                  (IsFrom.lane (lane_of o.path (cut_number k others fork.path (regions_before others fork)) m s) beside o.path fork.path (regions_before others fork) m s o.from refl there.child)
                  there (elsewhere m s beside there);
            };
          }

  early_is : (fork : Node) (n s : ℕ) (child : List Step) → IsLane others fork n s child → fork.path ≡ [] → regions_before others fork ≡ k → (n < span) × (child ≡ lane_of [] k n span)
  early_is fork n s child lane root is =
      let real = tasks.real_lane k c span logs others cut fork n s child lane root (inl is) in
      (real.within, lane.child ∙ λ i. lane_of (root i) (is i) n (real.same_span i))

  late_is : (fork : Node) (n s : ℕ) (child : List Step) → IsLane others fork n s child → fork.path ≡ [] → regions_before others fork ≡ suc k → (n < span) × (child ≡ lane_of [] (suc k) n span)
  late_is fork n s child lane root is =
      let real = tasks.real_lane k c span logs others cut fork n s child lane root (inr is) in
      (real.within, lane.child ∙ λ i. lane_of (root i) (is i) n (real.same_span i))

  lane_there : (fork : Node) (n s : ℕ) (child : List Step) → IsLane others fork n s child → IsTask others child
  lane_there fork n s child lane = at (fork_is fork)
    where
      at : ForkIs fork → IsTask others child
      at (ForkIs.first_part root is) =
          let e = early_is fork n s child lane root is in
          some_record (others child) (subst (λ (w : List Step). EndsOnce (others w)) (sym e.1) (early_ends n e.0))
      at (ForkIs.second_part root is) =
          let e = late_is fork n s child lane root is in
          some_record (others child) (subst (λ (w : List Step). EndsOnce (others w)) (sym e.1) (lane_parts n e.0).1)
      at (ForkIs.unchanged elsewhere) =
          let team = was_team fork n s child lane elsewhere in
          let was = team.each n child lane in
          subst (λ (records : List Record). 0 < length records) (sym was.same) (tree.ends.lanes team.region n s was.old was.lane)

  -- the lanes of the region before the cut
  record HasOldRegion : Type 0 where
    fork : Node
    lane : (n : ℕ) → n < span → IsLane logs fork n span (lane_of [] k n span)

  old_region : HasOldRegion
  old_region =
      let long = tasks.fore_length k c span logs others cut in
      let place : length (tasks.fore k c span logs others cut) + 0 ≡ k = omega arith in
      let here : slice_get (tasks.fore k c span logs others cut ++ tasks.doubled k c span logs others cut ∷ tasks.hind k c span logs others cut) k ≡ Some (tasks.doubled k c span logs others cut) =
      subst (λ (i : ℕ). slice_get (tasks.fore k c span logs others cut ++ tasks.doubled k c span logs others cut ∷ tasks.hind k c span logs others cut) i ≡ Some (tasks.doubled k c span logs others cut)) place
      (get_right (tasks.fore k c span logs others cut) (tasks.doubled k c span logs others cut ∷ tasks.hind k c span logs others cut) 0) in
      let h = find_fork 0 (logs []) k (tasks.doubled k c span logs others cut) (subst (λ (l : List ForkPlace). slice_get l k ≡ Some (tasks.doubled k c span logs others cut)) (sym (tasks.root_forks k c span logs others cut)) here) in
      record {
        fork = node [] h.index;
        lane = λ n within. record { event = h.event; found = h.found; region = h.region; spans = h.spans; in_span = within; child = ap (λ (q : ℕ). lane_of [] q n span) (sym h.number_is) };
      }

  early_level : (n : ℕ) → n < span → barrier_count (others (lane_of [] k n span)) ≡ c
  early_level n within =
      let l = cut.lanes n within in
      let both : barrier_count (others (lane_of [] k n span)) ≡ barrier_count l.first + barrier_count (l.ended ∷ []) = ap barrier_count l.early_is ∙ barriers_both l.first (l.ended ∷ []) in
      let none : barrier_count (l.ended ∷ []) ≡ 0 = barrier_step l.ended [] ∙ rw l.at_end refl in
      let passed = l.passed in
      omega arith

  late_level : (n : ℕ) → n < span → barrier_count (logs (lane_of [] k n span)) ≡ c + (1 + barrier_count (others (lane_of [] (suc k) n span)))
  late_level n within =
      let l = cut.lanes n within in
      let both : barrier_count (logs (lane_of [] k n span)) ≡ barrier_count l.first + barrier_count (l.barrier ∷ others (lane_of [] (suc k) n span)) = ap barrier_count l.whole_is ∙ barriers_both l.first (l.barrier ∷ others (lane_of [] (suc k) n span)) in
      let one : barrier_count (l.barrier ∷ others (lane_of [] (suc k) n span)) ≡ 1 + barrier_count (others (lane_of [] (suc k) n span)) = barrier_step l.barrier (others (lane_of [] (suc k) n span)) ∙ rw l.at_barrier refl in
      let passed = l.passed in
      omega arith

  level_there : (fork : Node) (n m s : ℕ) (path beside : List Step) → IsLane others fork n s path → IsLane others fork m s beside → barrier_count (others path) ≡ barrier_count (others beside)
  level_there fork n m s path beside mine yours = at (fork_is fork)
    where
      at : ForkIs fork → barrier_count (others path) ≡ barrier_count (others beside)
      at (ForkIs.first_part root is) =
          let e = early_is fork n s path mine root is in
          let f = early_is fork m s beside yours root is in
          ap (λ (w : List Step). barrier_count (others w)) e.1 ∙ (early_level n e.0 ∙ (sym (early_level m f.0) ∙ ap (λ (w : List Step). barrier_count (others w)) (sym f.1)))
      at (ForkIs.second_part root is) =
          let e = late_is fork n s path mine root is in
          let f = late_is fork m s beside yours root is in
          let old = old_region in
          let same = tree.ends.same_barriers old.fork n m span (lane_of [] k n span) (lane_of [] k m span) (old.lane n e.0) (old.lane m f.0) in
          let one = late_level n e.0 in
          let two = late_level m f.0 in
          ap (λ (w : List Step). barrier_count (others w)) e.1
          ∙ ((let level : barrier_count (others (lane_of [] (suc k) n span)) ≡ barrier_count (others (lane_of [] (suc k) m span)) = omega arith in level) ∙ ap (λ (w : List Step). barrier_count (others w)) (sym f.1))
      at (ForkIs.unchanged elsewhere) =
          let team = was_team fork n s path mine elsewhere in
          let one = team.each n path mine in
          let two = team.each m beside yours in
          ap barrier_count one.same ∙ (tree.ends.same_barriers team.region n m s one.old two.old one.lane two.lane ∙ sym (ap barrier_count two.same))

  region_idle : (r : Record) (records : List Record) → r.kind ≡ Region → barrier_count (r ∷ records) ≡ barrier_count records
  region_idle r records forks =
      let none : cond {A = ℕ} (is_barrier_kind r.kind) 1 0 ≡ 0 = rw forks refl in
      let step = barrier_step r records in
      omega arith

  root_level : barrier_count (others []) ≡ 0
  root_level =
      let none = tree.ends.no_root_barrier in
      let both : barrier_count (logs []) ≡ barrier_count cut.before + barrier_count (cut.region ∷ cut.after) = ap barrier_count cut.root ∙ barriers_both cut.before (cut.region ∷ cut.after) in
      let now : barrier_count (others []) ≡ barrier_count cut.before + barrier_count (cut.region ∷ cut.again ∷ cut.after) = ap barrier_count cut.new_root ∙ barriers_both cut.before (cut.region ∷ cut.again ∷ cut.after) in
      let one : barrier_count (cut.region ∷ cut.after) ≡ barrier_count cut.after = region_idle cut.region cut.after cut.forks in
      let two : barrier_count (cut.region ∷ cut.again ∷ cut.after) ≡ barrier_count (cut.again ∷ cut.after) = region_idle cut.region (cut.again ∷ cut.after) cut.forks in
      let three : barrier_count (cut.again ∷ cut.after) ≡ barrier_count cut.after = region_idle cut.again cut.after cut.forks_again in
      omega arith

  pub other_tree : IsForkJoin others
  other_tree = record {
    tasks = record { root = some_record (others []) root_ends; forked = cut.only };
    ends = record { ended = ended_there; lanes = lane_there; same_barriers = level_there; no_root_barrier = root_level };
  }

  -- a record that was moved stands for itself, both ways
  comes_by : (path other : List Step) (barriers regions i j : ℕ) (r : Record) → IsFrom (cut_number k others) path other → cut_offset k c other ≡ barriers
      → IsMoved barriers regions (logs path) (others other) i j r → Comes (node path i) (node other j)
  comes_by path other barriers regions i j r from offset m = record {
    task = from;
    as_many = let many = m.as_many in omega arith;
    there = slice_get_within (others other) j r m.there;
  }

  back_by : (v : Node) (r : Record) (path : List Step) (barriers regions i : ℕ) → IsFrom (cut_number k others) path v.path → cut_offset k c v.path ≡ barriers
      → IsMoved barriers regions (logs path) (others v.path) i v.index r → HasStandIn Back others logs v r
  back_by v r path barriers regions i from offset m = record {
    place = node path i;
    event = r;
    found = m.found;
    answers = comes_by path v.path barriers regions i v.index r from offset m;
    covers = covers_itself r;
    mutexes = λ mutex held. subst (λ (ms : List ℕ). Contains ms mutex) m.same_held held;
  }

  early_offset : (n : ℕ) (other : List Step) → other ≡ lane_of [] k n span → cut_offset k c other ≡ 0
  early_offset n other is = ap (cut_offset k c) is ∙ rw (not_next k) refl

  late_offset : (n : ℕ) (other : List Step) → other ≡ lane_of [] (suc k) n span → cut_offset k c other ≡ suc c
  late_offset n other is = ap (cut_offset k c) is ∙ rw (number_itself (suc k)) refl

  back_stands : (v : Node) (r : Record) → record_at others v ≡ Some r → IsAccess r → (v.path ≡ [] → ⊥) → HasStandIn Back others logs v r
  back_stands v r found access not_root = by (origin (cut_number k others) v.path)
    where
      by : HasOrigin (cut_number k others) v.path → HasStandIn Back others logs v r
      by o = at (tasks.classify k c span logs others cut o.path v.path o.from (task_of v (record_there others v r found)))
        where
          at : tasks.Where k c span logs others cut o.path v.path → HasStandIn Back others logs v r
          at (tasks.Where.root p e) = absurd (not_root e)
          at (tasks.Where.early n within p e) =
              let l = cut.lanes n within in
              let parts : others v.path ≡ l.first ++ l.ended ∷ [] = ap others e ∙ l.early_is in
              let whole : logs o.path ≡ l.first ++ l.barrier ∷ others (lane_of [] (suc k) n span) = ap logs p ∙ l.whole_is in
              in_first l.first l.ended l.at_end parts (others (lane_of [] (suc k) n span)) l.barrier whole
              (get_either l.first (l.ended ∷ []) v.index r (subst (λ (records : List Record). slice_get records v.index ≡ Some r) parts found))
            where
              last : (e : Record) (m : ℕ) → slice_get (e ∷ []) m ≡ Some r → e.kind ≡ End → ⊥
              last e zero has ends = let same : e ≡ r = cc in access_no_end r access (sym (ap (λ (t : Record). t.kind) same) ∙ ends)
              last e (suc m) has ends = cc

              in_first : (first : List Record) (ended : Record) → ended.kind ≡ End → others v.path ≡ first ++ ended ∷ [] → (late : List Record) (barrier : Record) → logs o.path ≡ first ++ barrier ∷ late
                  → ((v.index < length first) × (slice_get first v.index ≡ Some r)) ⊎ ((m : ℕ) × (v.index ≡ length first + m) × (slice_get (ended ∷ []) m ≡ Some r)) → HasStandIn Back others logs v r
              in_first first ended ends parts late barrier whole (inl (less, has)) =
                  back_by v r o.path 0 0 v.index o.from (early_offset n v.path e)
                  (subst (λ (records : List Record). IsMoved 0 0 records (others v.path) v.index v.index r) (sym whole)
                  (subst (λ (records : List Record). IsMoved 0 0 (first ++ barrier ∷ late) records v.index v.index r) (sym parts) (early_moved first (barrier ∷ late) (ended ∷ []) v.index r less has)))
              in_first first ended ends parts late barrier whole (inr (m, is, has)) = absurd (last ended m has ends)
          at (tasks.Where.late n within p e) =
              let l = cut.lanes n within in
              let late : List Record = others (lane_of [] (suc k) n span) in
              let parts : others v.path ≡ others (lane_of [] (suc k) n span) = ap others e in
              let whole : logs o.path ≡ l.first ++ l.barrier ∷ others (lane_of [] (suc k) n span) = ap logs p ∙ l.whole_is in
              let has : slice_get (others (lane_of [] (suc k) n span)) v.index ≡ Some r = subst (λ (records : List Record). slice_get records v.index ≡ Some r) parts found in
              back_by v r o.path (suc c) (region_count l.first) (length l.first + suc v.index) o.from (late_offset n v.path e)
              (subst (λ (records : List Record). IsMoved (suc c) (region_count l.first) records (others v.path) (length l.first + suc v.index) v.index r) (sym whole)
              (subst (λ (records : List Record). IsMoved (suc c) (region_count l.first) (l.first ++ l.barrier ∷ others (lane_of [] (suc k) n span)) records (length l.first + suc v.index) v.index r) (sym parts)
              (late_moved c l.first (others (lane_of [] (suc k) n span)) l.barrier v.index r l.at_barrier l.passed l.unlocked has)))
          at (tasks.Where.elsewhere is number offset) =
              let same : others v.path ≡ logs o.path = is in
              back_by v r o.path 0 0 v.index o.from offset
              (subst (λ (records : List Record). IsMoved 0 0 records (others v.path) v.index v.index r) same (not_moved (others v.path) v.index r found))

  pub back_replaced : IsReplaced Back others logs
  back_replaced = record {
    carries = carried_back (cut_number k others) (cut_offset k c) logs others (tasks.were_forks k c span logs others cut) (tasks.keeps_teams k c span logs others cut);
    stand_ins = λ v w r found access w_there unordered. back_stands v r found access (root_ordered others v w other_tree (record_there others v r found) w_there unordered);
  }

  -- where a record is in the cut run
  record HasPart (x : Node) (r : Record) : Type 0 where
    place : Node
    found : record_at others place ≡ Some r
    answers : Comes x place
    number : cut_number k others place.path (regions_before others place) ≡ regions_before logs x
    same_held : held_at logs x ≡ held_at others place

  moved_part : (x : Node) (r : Record) (other : List Step) (barriers regions j : ℕ) → IsFrom (cut_number k others) x.path other → cut_offset k c other ≡ barriers
      → ((m : ℕ) → cut_number k others other m ≡ m + regions) → IsMoved barriers regions (logs x.path) (others other) x.index j r → HasPart x r
  moved_part x r other barriers regions j from offset number m = record {
    place = node other j;
    found = m.there;
    answers = comes_by x.path other barriers regions x.index j r from offset m;
    number = number (region_count (take j (others other))) ∙ sym m.numbers;
    same_held = m.same_held;
  }

  elsewhere_part : (x : Node) (r : Record) (other : List Step) (fork : Node) (n s : ℕ) → IsFrom (cut_number k others) x.path other → IsLane others fork n s other → IsElsewhere k span other → cut_offset k c other ≡ 0
      → ((m : ℕ) → cut_number k others other m ≡ m) → record_at logs x ≡ Some r → HasPart x r
  elsewhere_part x r other fork n s from lane is offset number found =
      moved_part x r other 0 0 x.index from offset (λ m. number m ∙ (let none : m ≡ m + 0 = omega arith in none))
      (subst (λ (records : List Record). IsMoved 0 0 (logs x.path) records x.index x.index r) (sym (cut.rest x.path other fork n s from lane is)) (not_moved (logs x.path) x.index r found))

  deep_elsewhere : (other : List Step) → 2 ≤ length other → IsElsewhere k span other
  deep_elsewhere other long = record {
    not_early = λ n within e. let lengths : length other ≡ 1 = ap length e in omega arith;
    not_late = λ n within e. let lengths : length other ≡ 1 = ap length e in omega arith;
  }

  deep_offset : (other : List Step) → 2 ≤ length other → cut_offset k c other ≡ 0
  deep_offset [] long = absurd (omega arith)
  deep_offset (t ∷ []) long = absurd (omega arith)
  deep_offset (t ∷ u ∷ rest) long = refl

  deep_number : (other : List Step) → 2 ≤ length other → (m : ℕ) → cut_number k others other m ≡ m
  deep_number [] long m = absurd (omega arith)
  deep_number (t ∷ []) long m = absurd (omega arith)
  deep_number (t ∷ u ∷ rest) long m = refl

  -- the root of the cut run has this region
  record HasRootRegion (new n s : ℕ) : Type 0 where
    fork : Node
    lane : IsLane others fork n s (lane_of [] new n s)

  root_region : (new n s b : ℕ) → n < s → slice_get (forks (others [])) new ≡ Some (record { span = s; barriers = b }) → HasRootRegion new n s
  root_region new n s b less has =
      let h = find_fork 0 (others []) new (record { span = s; barriers = b }) has in
      record {
        fork = node [] h.index;
        lane = record {
          event = h.event;
          found = h.found;
          region = h.region;
          spans = h.spans;
          in_span = less;
          child = ap (λ (q : ℕ). lane_of [] q n s) (sym h.number_is);
        };
      }

  -- a lane of another region of the root
  other_region : (x : Node) (r : Record) (old new n s : ℕ) → x.path ≡ lane_of [] old n s → undouble k new ≡ old → (new ≡ k → ⊥) → (new ≡ suc k → ⊥) → HasRootRegion new n s → record_at logs x ≡ Some r → HasPart x r
  other_region x r old new n s parts number not_k not_next region found =
      elsewhere_part x r (lane_of [] new n s) region.fork n s
      (IsFrom.lane x.path (lane_of [] new n s) [] [] new n s (IsFrom.root [] [] refl refl) (parts ∙ ap (λ (q : ℕ). lane_of [] q n s) (sym number)) refl)
      region.lane
      (record {
        not_early = λ m within e. not_k (tasks.differ_region k c span logs others cut new k n m s span e);
        not_late = λ m within e. not_next (tasks.differ_region k c span logs others cut new (suc k) n m s span e);
      })
      (rw (number_not new (suc k) not_next) refl)
      (λ m. rw (number_not new (suc k) not_next) refl)
      found

  -- a lane of the region that is cut
  this_region : (x : Node) (r : Record) (n : ℕ) → n < span → x.path ≡ lane_of [] k n span → record_at logs x ≡ Some r → (r.kind ≡ Barrier → ⊥) → HasPart x r
  this_region x r n within parts found no_barrier =
      let l = cut.lanes n within in
      let whole : logs x.path ≡ l.first ++ l.barrier ∷ others (lane_of [] (suc k) n span) = ap logs parts ∙ l.whole_is in
      by l whole (get_either l.first (l.barrier ∷ others (lane_of [] (suc k) n span)) x.index r (subst (λ (records : List Record). slice_get records x.index ≡ Some r) whole found))
    where
      last : (b : Record) → b.kind ≡ Barrier → slice_get (b ∷ others (lane_of [] (suc k) n span)) 0 ≡ Some r → ⊥
      last b meets has = let same : b ≡ r = cc in no_barrier (sym (ap (λ (t : Record). t.kind) same) ∙ meets)

      from : (new : ℕ) → undouble k new ≡ k → IsFrom (cut_number k others) x.path (lane_of [] new n span)
      from new number = IsFrom.lane x.path (lane_of [] new n span) [] [] new n span (IsFrom.root [] [] refl refl) (parts ∙ ap (λ (q : ℕ). lane_of [] q n span) (sym number)) refl

      by : (l : IsLaneCut c (logs (lane_of [] k n span)) (others (lane_of [] k n span)) (others (lane_of [] (suc k) n span))) → logs x.path ≡ l.first ++ l.barrier ∷ others (lane_of [] (suc k) n span)
          → ((x.index < length l.first) × (slice_get l.first x.index ≡ Some r)) ⊎ ((m : ℕ) × (x.index ≡ length l.first + m) × (slice_get (l.barrier ∷ others (lane_of [] (suc k) n span)) m ≡ Some r)) → HasPart x r
      by l whole (inl (less, has)) =
          moved_part x r (lane_of [] k n span) 0 0 x.index (from k (undouble_early k k (omega arith))) (early_offset n (lane_of [] k n span) refl)
          (λ m. rw (not_next k) (let none : m ≡ m + 0 = omega arith in none))
          (subst (λ (records : List Record). IsMoved 0 0 records (others (lane_of [] k n span)) x.index x.index r) (sym whole)
          (subst (λ (records : List Record). IsMoved 0 0 (l.first ++ l.barrier ∷ others (lane_of [] (suc k) n span)) records x.index x.index r) (sym l.early_is)
          (early_moved l.first (l.barrier ∷ others (lane_of [] (suc k) n span)) (l.ended ∷ []) x.index r less has)))
      by l whole (inr (zero, is, has)) = absurd (last l.barrier l.at_barrier has)
      by l whole (inr (suc j, is, has)) =
          moved_part x r (lane_of [] (suc k) n span) (suc c) (region_count l.first) j (from (suc k) (undouble_late k k (omega arith))) (late_offset n (lane_of [] (suc k) n span) refl)
          (λ m. rw (number_itself (suc k)) (ap (λ (q : ℕ). m + q) (counts l)))
          (subst (λ (i : ℕ). IsMoved (suc c) (region_count l.first) (logs x.path) (others (lane_of [] (suc k) n span)) i j r) (sym is)
          (subst (λ (records : List Record). IsMoved (suc c) (region_count l.first) records (others (lane_of [] (suc k) n span)) (length l.first + suc j) j r) (sym whole)
          (late_moved c l.first (others (lane_of [] (suc k) n span)) l.barrier j r l.at_barrier l.passed l.unlocked has)))
        where
          counts : (l : IsLaneCut c (logs (lane_of [] k n span)) (others (lane_of [] k n span)) (others (lane_of [] (suc k) n span))) → region_count (others (lane_of [] k n span)) ≡ region_count l.first
          counts l = tasks.regions_of_first l.first l.ended (others (lane_of [] k n span)) l.early_is l.at_end

  old_span : (f : Node) (n s : ℕ) (child : List Step) → IsLane logs f n s child → f.path ≡ [] → regions_before logs f ≡ k → s ≡ span
  old_span f n s child lane at_root is =
      let listed = fork_listed 0 (logs f.path) f.index lane.event lane.found lane.region in
      let at_k : slice_get (forks (logs [])) k ≡ Some (record { span = lane.event.value; barriers = 0 + barriers_before logs f }) =
      subst (λ (q : ℕ). slice_get (forks (logs [])) q ≡ Some (record { span = lane.event.value; barriers = 0 + barriers_before logs f })) is
      (subst (λ (p : List Step). slice_get (forks (logs p)) (regions_before logs f) ≡ Some (record { span = lane.event.value; barriers = 0 + barriers_before logs f })) at_root listed) in
      sym lane.spans ∙ same (record { span = lane.event.value; barriers = 0 + barriers_before logs f }) (subst (λ (fs : List ForkPlace). slice_get fs k ≡ Some (record { span = lane.event.value; barriers = 0 + barriers_before logs f })) (tasks.root_forks k c span logs others cut) at_k)
    where
      same : (f : ForkPlace) → slice_get (tasks.fore k c span logs others cut ++ tasks.doubled k c span logs others cut ∷ tasks.hind k c span logs others cut) k ≡ Some f → f.span ≡ span
      same f has =
          let fore = tasks.fore k c span logs others cut in
          let rest = tasks.doubled k c span logs others cut ∷ tasks.hind k c span logs others cut in
          let place : length (tasks.fore k c span logs others cut) + 0 ≡ k = (let long = tasks.fore_length k c span logs others cut in omega arith) in
          let here : slice_get (tasks.fore k c span logs others cut ++ tasks.doubled k c span logs others cut ∷ tasks.hind k c span logs others cut) k ≡ Some (tasks.doubled k c span logs others cut) =
          subst (λ (i : ℕ). slice_get (tasks.fore k c span logs others cut ++ tasks.doubled k c span logs others cut ∷ tasks.hind k c span logs others cut) i ≡ Some (tasks.doubled k c span logs others cut)) place
          (get_right (tasks.fore k c span logs others cut) (tasks.doubled k c span logs others cut ∷ tasks.hind k c span logs others cut) 0) in
          let equal : tasks.doubled k c span logs others cut ≡ f = cc in
          sym (ap (λ (g : ForkPlace). g.span) equal)

  in_root : (x : Node) (r : Record) (step : Step) → x.path ≡ step ∷ [] → WasForked logs [] step → record_at logs x ≡ Some r → (r.kind ≡ Barrier → ⊥) → HasPart x r
  in_root x r step parts forked found no_barrier = at (cases_lt step.region k) (cases_lt k step.region)
    where
      number : regions_before logs forked.fork ≡ step.region
      number = ap (λ (t : Step). t.region) (same_from_push forked.fork.path [] (record { region = regions_before logs forked.fork; lane = step.lane; span = step.span }) step (sym forked.lane.child)).1

      listed : slice_get (forks (logs [])) step.region ≡ Some (record { span = step.span; barriers = 0 + barriers_before logs forked.fork })
      listed =
          subst (λ (q : ℕ). slice_get (forks (logs [])) q ≡ Some (record { span = step.span; barriers = 0 + barriers_before logs forked.fork })) number
          (subst (λ (p : List Step). slice_get (forks (logs p)) (regions_before logs forked.fork) ≡ Some (record { span = step.span; barriers = 0 + barriers_before logs forked.fork })) forked.above
          (fork_listed 0 (logs forked.fork.path) forked.fork.index forked.lane.event forked.lane.found forked.lane.region
          ∙ ap (λ (v : ℕ). Some (record { span = v; barriers = 0 + barriers_before logs forked.fork })) forked.lane.spans))

      redoubled : (new : ℕ) → ((step.region < k) × (new ≡ step.region)) ⊎ ((k < step.region) × (new ≡ suc step.region)) → HasRootRegion new step.lane step.span
      redoubled new which = root_region new step.lane step.span (0 + barriers_before logs forked.fork) forked.lane.in_span
          (subst (λ (fs : List ForkPlace). slice_get fs new ≡ Some (record { span = step.span; barriers = 0 + barriers_before logs forked.fork })) (sym (tasks.new_forks k c span logs others cut))
          (doubled_get (tasks.fore k c span logs others cut) (tasks.hind k c span logs others cut) (tasks.doubled k c span logs others cut) (record { span = step.span; barriers = 0 + barriers_before logs forked.fork }) k step.region new
          (tasks.fore_length k c span logs others cut) which
          (subst (λ (fs : List ForkPlace). slice_get fs step.region ≡ Some (record { span = step.span; barriers = 0 + barriers_before logs forked.fork })) (tasks.root_forks k c span logs others cut) listed)))

      at : (step.region < k) ⊎ (k ≤ step.region) → (k < step.region) ⊎ (step.region ≤ k) → HasPart x r
      at (inl less) also = other_region x r step.region step.region step.lane step.span parts (undouble_early k step.region (omega arith)) (λ e. omega arith) (λ e. omega arith) (redoubled step.region (inl (less, refl))) found
      at (inr le) (inl more) = other_region x r step.region (suc step.region) step.lane step.span parts (undouble_late k step.region (omega arith)) (λ e. omega arith) (λ e. omega arith) (redoubled (suc step.region) (inr (more, refl))) found
      at (inr le) (inr ge) =
          let same : step.region ≡ k = omega arith in
          let spans : step.span ≡ span = old_span forked.fork step.lane step.span (step ∷ []) forked.lane forked.above (number ∙ same) in
          let within = forked.lane.in_span in
          this_region x r step.lane (omega arith) (parts ∙ λ i. lane_of [] (same i) step.lane (spans i)) found no_barrier

  parts_of : (d : ℕ) (x : Node) (r : Record) → length x.path < d → (x.path ≡ [] → ⊥) → record_at logs x ≡ Some r → (r.kind ≡ Barrier → ⊥) → HasPart x r
  parts_of zero x r less not_root found no_barrier = absurd (omega arith)
  parts_of (suc d) x r less not_root found no_barrier = at (has_last x.path) (parts_of d)
    where
      task : IsTask logs x.path
      task = let here = record_there logs x r found in omega arith

      region_no_barrier : (e : Record) → e.kind ≡ Region → e.kind ≡ Barrier → ⊥
      region_no_barrier e forks meets = cc

      by : (l : HasLast x.path) (prefix : List Step) → l.prefix ≡ prefix → ((y : Node) (e : Record) → length y.path < d → (y.path ≡ [] → ⊥) → record_at logs y ≡ Some e → (e.kind ≡ Barrier → ⊥) → HasPart y e) → HasPart x r
      by l [] is rec =
          let parts : x.path ≡ [] ++ l.last ∷ [] = l.parts ∙ ap (λ (p : List Step). p ++ l.last ∷ []) is in
          in_root x r l.last parts (tree.tasks.forked [] l.last (subst (λ (p : List Step). IsTask logs p) parts task)) found no_barrier
      by l (t ∷ rest) is rec =
          let forked = tree.tasks.forked l.prefix l.last (subst (λ (p : List Step). IsTask logs p) l.parts task) in
          let f = forked.fork in
          let shorter : length f.path < d =
          (let long : length x.path ≡ length l.prefix + 1 = ap length l.parts ∙ length_push l.prefix l.last in let same : length f.path ≡ length l.prefix = ap length forked.above in omega arith) in
          let deep : f.path ≡ [] → ⊥ = (λ e. let lengths : length (t ∷ rest) ≡ 0 = ap length (sym is ∙ (sym forked.above ∙ e)) in omega arith) in
          above f forked.lane.event l.last.lane l.last.span deep forked.lane.region forked.lane.spans forked.lane.in_span (l.parts ∙ forked.lane.child)
          (rec f forked.lane.event shorter deep forked.lane.found (region_no_barrier forked.lane.event forked.lane.region))
        where
          long_enough : (p q : List Step) (step : Step) → IsFrom (cut_number k others) p q → (p ≡ [] → ⊥) → 2 ≤ length (q ++ step ∷ [])
          long_enough p [] step from deep = absurd (deep (tasks.from_root k c span logs others cut p from))
          long_enough p (u ∷ q) step from deep = let long : length ((u ∷ q) ++ step ∷ []) ≡ length (u ∷ q) + 1 = length_push (u ∷ q) step in omega arith

          above : (f : Node) (e : Record) (n s : ℕ) → (f.path ≡ [] → ⊥) → e.kind ≡ Region → e.value ≡ s → n < s → x.path ≡ lane_of f.path (regions_before logs f) n s → HasPart f e → HasPart x r
          above f e n s deep forks_it spans within parts p =
              at_lane p.place (IsFrom.lane x.path (lane_of p.place.path (regions_before others p.place) n s) f.path p.place.path (regions_before others p.place) n s p.answers.task
              (parts ∙ ap (λ (q : ℕ). lane_of f.path q n s) (sym p.number)) refl)
              (record { event = e; found = p.found; region = forks_it; spans = spans; in_span = within; child = refl })
              (long_enough f.path p.place.path (record { region = regions_before others p.place; lane = n; span = s }) p.answers.task deep)
            where
              at_lane : (g : Node) → IsFrom (cut_number k others) x.path (lane_of g.path (regions_before others g) n s) → IsLane others g n s (lane_of g.path (regions_before others g) n s)
                  → 2 ≤ length (lane_of g.path (regions_before others g) n s) → HasPart x r
              at_lane g from lane long = elsewhere_part x r (lane_of g.path (regions_before others g) n s) g n s from lane
                  (deep_elsewhere (lane_of g.path (regions_before others g) n s) long) (deep_offset (lane_of g.path (regions_before others g) n s) long)
                  (deep_number (lane_of g.path (regions_before others g) n s) long) found

      at : (x.path ≡ []) ⊎ HasLast x.path → ((y : Node) (e : Record) → length y.path < d → (y.path ≡ [] → ⊥) → record_at logs y ≡ Some e → (e.kind ≡ Barrier → ⊥) → HasPart y e) → HasPart x r
      at (inl e) rec = absurd (not_root e)
      at (inr l) rec = by l l.prefix refl rec

  stands : (x : Node) (r : Record) → record_at logs x ≡ Some r → IsAccess r → (x.path ≡ [] → ⊥) → HasStandIn Comes logs others x r
  stands x r found access not_root =
      let p = parts_of (suc (length x.path)) x r (omega arith) not_root found (access_no_barrier r access) in
      record {
        place = p.place;
        event = r;
        found = p.found;
        answers = p.answers;
        covers = covers_itself r;
        mutexes = λ mutex held. subst (λ (ms : List ℕ). Contains ms mutex) (sym p.same_held) held;
      }

  pub replaced : IsReplaced Comes logs others
  replaced = record {
    carries = carried (cut_number k others) (cut_offset k c) logs others (tasks.were_forks k c span logs others cut) (tasks.keeps_teams k c span logs others cut) other_tree;
    stand_ins = λ x y r found access y_there unordered. stands x r found access (root_ordered logs x y tree (record_there logs x r found) y_there unordered);
  }

  pub cut_keeps_pairs : (pair : ℕ × ℕ) → IsRacePair logs pair ↔ IsRacePair others pair
  cut_keeps_pairs pair = (no_pair_lost Comes logs others tree replaced pair, no_pair_lost Back others logs other_tree back_replaced pair)
