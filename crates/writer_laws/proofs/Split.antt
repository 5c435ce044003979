-- The race pairs of a run are those of its parts.
use Rattle.std.proofs.Common.{◌≡◌, ◌⊎◌, ◌↔◌, ℕ, zero, suc, ◌+◌, ◌-◌, append-nil, ◌<◌, ◌≤◌, List, [], ◌∷◌, ◌++◌, length, take, Some, refl, sym, ap, subst, arith, ◌∙◌, inl, inr}
use Rattle.std.specs.Prelude.{slice_get, Contains, All}
use Rattle.std.proofs.lemmas.Bool.{cases_lt}
use Rattle.std.proofs.lemmas.List.{length_push, same_from_push}
use Rattle.std.proofs.lemmas.Option.{slice_get_within}
use Rattle.sw_base.specs.declared.path.Step.{Step}
use Rattle.sw_base.proofs.Lists.{get_left, get_more, get_right}
use Rattle.log_format.specs.declared.record.Record.{Record}
use Rattle.log_format.specs.declared.record.Kind.TheVariants.{Region}
use Rattle.race_model.specs.Trace.{Logs, Node, record_at, regions_before, barriers_before, region_count, barrier_count}
use Rattle.race_model.specs.Listing.{lane_of}
use Rattle.race_model.specs.Order.{IsLane}
use Rattle.race_model.specs.Race.{IsRacePair, held_after}
use Rattle.race_model.specs.ForkJoin.{IsForkJoin, IsTask, EndsOnce, WasForked}
use Rattle.race_model.proofs.TraceLogs.{record_there}
use Rattle.race_laws.proofs.LabelPlace.{HasLast, has_last, not_both_empty, is_region, same_region}
use Rattle.counted_order.proofs.Paths.{unordered_parts}
use Rattle.writer_laws.specs.Places.{ForkPlace, forks, forks_from}
use Rattle.writer_laws.specs.Renumbering.{IsFrom, AreForked, ComesFrom, WereForks, KeepsTeams}
use Rattle.writer_laws.specs.Splitting.{later_number, KeepsLogs, IsSplit}
use Rattle.writer_laws.specs.StandIns.{HasStandIn, IsReplaced}
use Rattle.writer_laws.proofs.Ends.{NoEnd, ends_here, ends_after, ends_apart, some_record}
use Rattle.writer_laws.proofs.Forks.{fork_listed, find_fork, barrier_step}
use Rattle.writer_laws.proofs.Renumbered.{was_region, was_lane, carried, carried_back}
use Rattle.writer_laws.proofs.Origins.{HasOrigin, origin}
use Rattle.writer_laws.proofs.Replaced.{covers_itself, pair_by, no_pair_lost}
use Rattle.race_model.proofs.Counted.{barriers_both}
use Rattle.writer_laws.proofs.CutForks.{forks_both, forks_length, raised, some_fork, not_raised, no_fork}
use Rattle.writer_laws.proofs.Unordered.{root_ordered}

-- no part begins in the middle of a task
abbrev no_offset : List Step → ℕ
no_offset path = 0

-- the number of the root's region that a path goes through
abbrev IsUnder : ℕ → List Step → Type 0
IsUnder region [] = ⊥
IsUnder region (step ∷ below) = step.region ≡ region

under_more : (region : ℕ) (path : List Step) (step : Step) → IsUnder region (path ++ step ∷ []) → (path ≡ [] → ⊥) → IsUnder region path
under_more region [] step is deep = absurd (deep refl)
under_more region (t ∷ path) step is deep = is

-- a part: its regions of the root are some of the run's
module _ (k : ℕ) (logs part : Logs) (tree : IsForkJoin logs) (root_ends : EndsOnce (part [])) (root_level : barrier_count (part []) ≡ 0) (part_forked : AreForked part) (tasks : KeepsLogs k logs part)
    (regions : (r : ℕ) (f : ForkPlace) → slice_get (forks (part [])) r ≡ Some f → slice_get (forks (logs [])) (r + k) ≡ Some f) where
  abbrev Comes : Node → Node → Type 0
  Comes x v = ComesFrom (later_number k) no_offset logs part x v

  abbrev Back : Node → Node → Type 0
  Back v x = ComesFrom (later_number k) no_offset logs part x v

  deep_number : (other : List Step) (r : ℕ) → (other ≡ [] → ⊥) → later_number k other r ≡ r
  deep_number [] r deep = absurd (deep refl)
  deep_number (t ∷ other) r deep = refl

  -- a task of the part is the root, or has the log that it had
  pub data Where (path other : List Step) : Type 0 where
    root : path ≡ [] → other ≡ [] → Where path other
    kept : (other ≡ [] → ⊥) → part other ≡ logs path → Where path other

  pub classify : (path other : List Step) → IsFrom (later_number k) path other → IsTask part other → Where path other
  classify _ _ (IsFrom.root path other e f) task = Where.root e f
  classify _ _ (IsFrom.lane path other above beside r n s up parts is) task =
      let forked = part_forked beside (record { region = r; lane = n; span = s }) (subst (λ (p : List Step). IsTask part p) is task) in
      let lane : IsLane part forked.fork n s other = subst (λ (p : List Step). IsLane part forked.fork n s p) (sym is) forked.lane in
      Where.kept (λ e. not_both_empty other beside (record { region = r; lane = n; span = s }) e is) (tasks path other forked.fork n s (IsFrom.lane path other above beside r n s up parts is) lane)

  were_forks : WereForks (later_number k) no_offset logs part
  were_forks path other r f from found = at (classify path other from (some_fork 0 (part other) r f found))
    where
      at : Where path other → slice_get (forks (logs path)) (later_number k other r) ≡ Some (raised f 0)
      at (Where.root p o) =
          subst (λ (w : List Step). slice_get (forks (logs path)) (later_number k w r) ≡ Some (raised f 0)) (sym o)
          (subst (λ (w : List Step). slice_get (forks (logs w)) (r + k) ≡ Some (raised f 0)) (sym p)
          (regions r f (subst (λ (w : List Step). slice_get (forks (part w)) r ≡ Some f) o found) ∙ ap Some (not_raised f)))
      at (Where.kept deep same) =
          ap (λ (i : ℕ). slice_get (forks (logs path)) i) (deep_number other r deep)
          ∙ (subst (λ (records : List Record). slice_get (forks records) r ≡ Some f) same found ∙ ap Some (not_raised f))

  number_once : (other : List Step) (r q : ℕ) → later_number k other r ≡ later_number k other q → r ≡ q
  number_once [] r q e = omega arith
  number_once (t ∷ other) r q e = e

  -- tasks that come from one are one
  from_one : (path q other : List Step) → IsFrom (later_number k) path q → IsFrom (later_number k) path other → q ≡ other
  from_one _ _ other (IsFrom.root path q e f) from = at from
    where
      at : IsFrom (later_number k) path other → q ≡ other
      at (IsFrom.root p o g h) = f ∙ sym h
      at (IsFrom.lane p o above beside r n s up parts is) = absurd (not_both_empty path above (record { region = later_number k beside r; lane = n; span = s }) e parts)
  from_one _ _ other (IsFrom.lane path q above beside r n s up parts is) from = at from (λ next up2. from_one above beside next up up2)
    where
      at : IsFrom (later_number k) path other → ((next : List Step) → IsFrom (later_number k) above next → beside ≡ next) → q ≡ other
      at (IsFrom.root p o g h) rec = absurd (not_both_empty path above (record { region = later_number k beside r; lane = n; span = s }) g parts)
      at (IsFrom.lane p o above2 beside2 r2 n2 s2 up2 parts2 is2) rec =
          let both = same_from_push above above2 (record { region = later_number k beside r; lane = n; span = s }) (record { region = later_number k beside2 r2; lane = n2; span = s2 }) (sym parts ∙ parts2) in
          let number : later_number k beside r ≡ later_number k beside2 r2 = ap (λ (step : Step). step.region) both.1 in
          let lane : n ≡ n2 = ap (λ (step : Step). step.lane) both.1 in
          let spans : s ≡ s2 = ap (λ (step : Step). step.span) both.1 in
          let same : beside ≡ beside2 = rec beside2 (subst (λ (w : List Step). IsFrom (later_number k) w beside2) (sym both.0) up2) in
          let region : r ≡ r2 = number_once beside r r2 (number ∙ ap (λ (w : List Step). later_number k w r2) (sym same)) in
          is ∙ ((λ i. lane_of (same i) (region i) (lane i) (spans i)) ∙ sym is2)

  keeps_teams : KeepsTeams (later_number k) no_offset logs part
  keeps_teams = record {
    even = λ path r n m s. refl;
    one = λ path v w f g n m s t from also mine yours v_there w_there number level.
        let same = from_one path f.path g.path from also in
        same_region part f g (is_region part f n s v.path mine) (is_region part g m t w.path yours) same
        (number_once f.path (regions_before part f) (regions_before part g) (number ∙ ap (λ (p : List Step). later_number k p (regions_before part g)) (sym same)));
  }

  -- a part is a fork-join run again
  ended_there : (other : List Step) → IsTask part other → EndsOnce (part other)
  ended_there other task = by (origin (later_number k) other)
    where
      by : HasOrigin (later_number k) other → EndsOnce (part other)
      by o = at (classify o.path other o.from task)
        where
          at : Where o.path other → EndsOnce (part other)
          at (Where.root p e) = subst (λ (w : List Step). EndsOnce (part w)) (sym e) root_ends
          at (Where.kept deep same) = subst EndsOnce (sym same) (tree.ends.ended o.path (subst (λ (records : List Record). 0 < length records) same task))

  -- the lane that a lane of the part was
  record WasLane (fork : Node) (region : Node) (n s : ℕ) (child : List Step) : Type 0 where
    old : List Step
    lane : IsLane logs region n s old
    same : part child ≡ logs old

  record WasTeam (fork : Node) (s : ℕ) : Type 0 where
    region : Node
    each : (n : ℕ) (child : List Step) → IsLane part fork n s child → WasLane fork region n s child

  was_team : (fork : Node) (n s : ℕ) (child : List Step) → IsLane part fork n s child → WasTeam fork s
  was_team fork n s child lane = by (origin (later_number k) fork.path)
    where
      by : HasOrigin (later_number k) fork.path → WasTeam fork s
      by o =
          let was = was_region (later_number k) no_offset logs part were_forks keeps_teams o.path child fork n s o.from lane in
          record {
            region = record { path = o.path; index = was.index };
            each = λ m beside there. record {
              old = lane_of o.path (later_number k fork.path (regions_before part fork)) m s;
              lane = was_lane (later_number k) no_offset logs part were_forks keeps_teams o.path beside (lane_of o.path (later_number k fork.path (regions_before part fork)) m s) fork m s was there refl;
              same = tasks (lane_of o.path (later_number k fork.path (regions_before part fork)) m s) beside fork m s
                  (IsFrom.lane (lane_of o.path (later_number k fork.path (regions_before part fork)) m s) beside o.path fork.path (regions_before part fork) m s o.from refl there.child) there;
            };
          }

  pub part_run : IsForkJoin part
  part_run = record {
    tasks = record { root = some_record (part []) root_ends; forked = part_forked };
    ends = record {
      ended = ended_there;
      lanes = λ fork n s path lane.
          let team = was_team fork n s path lane in
          let was = team.each n path lane in
          subst (λ (records : List Record). 0 < length records) (sym was.same) (tree.ends.lanes team.region n s was.old was.lane);
      same_barriers = λ fork n m s path beside mine yours.
          let team = was_team fork n s path mine in
          let one = team.each n path mine in
          let two = team.each m beside yours in
          ap barrier_count one.same ∙ (tree.ends.same_barriers team.region n m s one.old two.old one.lane two.lane ∙ sym (ap barrier_count two.same));
      no_root_barrier = root_level;
    };
  }

  comes_by : (path other : List Step) (i : ℕ) (r : Record) → IsFrom (later_number k) path other → part other ≡ logs path → slice_get (part other) i ≡ Some r
      → Comes (record { path = path; index = i }) (record { path = other; index = i })
  comes_by path other i r from same found = record {
    task = from;
    as_many = ap (λ (records : List Record). barrier_count (take i records)) (sym same) ∙ (let none : barrier_count (take i (part other)) ≡ barrier_count (take i (part other)) + 0 = omega arith in none);
    there = slice_get_within (part other) i r found;
  }

  pub back_replaced : IsReplaced Back part logs
  back_replaced = record {
    carries = carried_back (later_number k) no_offset logs part were_forks keeps_teams;
    stand_ins = λ v w r found access w_there unordered. stands v r found (root_ordered part v w part_run (record_there part v r found) w_there unordered);
  }
    where
      stands : (v : Node) (r : Record) → record_at part v ≡ Some r → (v.path ≡ [] → ⊥) → HasStandIn Back part logs v r
      stands v r found not_root = by (origin (later_number k) v.path)
        where
          by : HasOrigin (later_number k) v.path → HasStandIn Back part logs v r
          by o = at (classify o.path v.path o.from (let here = record_there part v r found in omega arith))
            where
              at : Where o.path v.path → HasStandIn Back part logs v r
              at (Where.root p e) = absurd (not_root e)
              at (Where.kept deep same) = record {
                place = record { path = o.path; index = v.index };
                event = r;
                found = subst (λ (records : List Record). slice_get records v.index ≡ Some r) same found;
                answers = comes_by o.path v.path v.index r o.from same found;
                covers = covers_itself r;
                mutexes = λ mutex held. subst (λ (records : List Record). Contains (held_after [] (take v.index records)) mutex) (sym same) held;
              }

  -- a record under one of the part's regions of the root
  record HasPart (x : Node) (r : Record) : Type 0 where
    other : List Step
    from : IsFrom (later_number k) x.path other
    same : part other ≡ logs x.path

  part_by : (x : Node) (r : Record) (beside above : List Step) (fork : Node) (n s : ℕ) → IsFrom (later_number k) above beside → fork.path ≡ beside → IsLane part fork n s (lane_of beside (regions_before part fork) n s)
      → x.path ≡ lane_of above (later_number k beside (regions_before part fork)) n s → HasPart x r
  part_by x r beside above fork n s up here lane parts =
      let from : IsFrom (later_number k) x.path (lane_of beside (regions_before part fork) n s) =
      IsFrom.lane x.path (lane_of beside (regions_before part fork) n s) above beside (regions_before part fork) n s up parts refl in
      record { other = lane_of beside (regions_before part fork) n s; from = from; same = tasks x.path (lane_of beside (regions_before part fork) n s) fork n s from lane }

  parts_of : (region : ℕ) → ((f : ForkPlace) → slice_get (forks (logs [])) (region + k) ≡ Some f → slice_get (forks (part [])) region ≡ Some f)
      → (d : ℕ) (x : Node) (r : Record) → length x.path < d → IsUnder (region + k) x.path → record_at logs x ≡ Some r → HasPart x r
  parts_of region has zero x r less under found = absurd (omega arith)
  parts_of region has (suc d) x r less under found = at (has_last x.path) (parts_of region has d)
    where
      task : IsTask logs x.path
      task = let here = record_there logs x r found in omega arith

      in_root : (step : Step) → x.path ≡ step ∷ [] → WasForked logs [] step → HasPart x r
      in_root step parts forked =
          let f = forked.fork in
          let number : regions_before logs f ≡ step.region =
          ap (λ (t : Step). t.region) (same_from_push f.path [] (record { region = regions_before logs f; lane = step.lane; span = step.span }) step (sym forked.lane.child)).1 in
          let is : step.region ≡ region + k = subst (λ (p : List Step). IsUnder (region + k) p) parts under in
          let fork : ForkPlace = record { span = step.span; barriers = 0 + barriers_before logs f } in
          let listed : slice_get (forks (logs [])) (region + k) ≡ Some (record { span = step.span; barriers = 0 + barriers_before logs f }) =
          subst (λ (q : ℕ). slice_get (forks (logs [])) q ≡ Some (record { span = step.span; barriers = 0 + barriers_before logs f })) (number ∙ is)
          (subst (λ (p : List Step). slice_get (forks (logs p)) (regions_before logs f) ≡ Some (record { span = step.span; barriers = 0 + barriers_before logs f })) forked.above
          (fork_listed 0 (logs f.path) f.index forked.lane.event forked.lane.found forked.lane.region
          ∙ ap (λ (v : ℕ). Some (record { span = v; barriers = 0 + barriers_before logs f })) forked.lane.spans)) in
          let h = find_fork 0 (part []) region (record { span = step.span; barriers = 0 + barriers_before logs f }) (has (record { span = step.span; barriers = 0 + barriers_before logs f }) listed) in
          part_by x r [] [] (record { path = []; index = h.index }) step.lane step.span (IsFrom.root [] [] refl refl) refl
          (record { event = h.event; found = h.found; region = h.region; spans = h.spans; in_span = forked.lane.in_span; child = refl })
          (parts ∙ λ i. record { region = (is ∙ ap (λ (q : ℕ). q + k) (sym h.number_is)) i; lane = step.lane; span = step.span } ∷ [])

      by : (l : HasLast x.path) (prefix : List Step) → l.prefix ≡ prefix → ((y : Node) (e : Record) → length y.path < d → IsUnder (region + k) y.path → record_at logs y ≡ Some e → HasPart y e) → HasPart x r
      by l [] is rec =
          let parts : x.path ≡ [] ++ l.last ∷ [] = l.parts ∙ ap (λ (p : List Step). p ++ l.last ∷ []) is in
          in_root l.last parts (tree.tasks.forked [] l.last (subst (λ (p : List Step). IsTask logs p) parts task))
      by l (t ∷ rest) is rec =
          let forked = tree.tasks.forked l.prefix l.last (subst (λ (p : List Step). IsTask logs p) l.parts task) in
          let f = forked.fork in
          let shorter : length f.path < d =
          (let long : length x.path ≡ length l.prefix + 1 = ap length l.parts ∙ length_push l.prefix l.last in let same : length f.path ≡ length l.prefix = ap length forked.above in omega arith) in
          let deep : l.prefix ≡ [] → ⊥ = (λ e. let lengths : length (t ∷ rest) ≡ 0 = ap length (sym is ∙ e) in omega arith) in
          let under_f : IsUnder (region + k) f.path = subst (λ (p : List Step). IsUnder (region + k) p) (sym forked.above)
          (under_more (region + k) l.prefix l.last (subst (λ (p : List Step). IsUnder (region + k) p) l.parts under) deep) in
          above f forked.lane.event l.last.lane l.last.span (λ e. deep (sym forked.above ∙ e)) forked.lane.found forked.lane.region forked.lane.spans forked.lane.in_span (l.parts ∙ forked.lane.child)
          (rec f forked.lane.event shorter under_f forked.lane.found)
        where
          above : (f : Node) (e : Record) (n s : ℕ) → (f.path ≡ [] → ⊥) → record_at logs f ≡ Some e → e.kind ≡ Region → e.value ≡ s → n < s → x.path ≡ lane_of f.path (regions_before logs f) n s → HasPart f e → HasPart x r
          above f e n s deep found forks_it spans within parts p =
              let g : Node = record { path = p.other; index = f.index } in
              let same_number : regions_before part (record { path = p.other; index = f.index }) ≡ regions_before logs f = ap (λ (records : List Record). region_count (take f.index records)) p.same in
              part_by x r p.other f.path (record { path = p.other; index = f.index }) n s p.from refl
              (record { event = e; found = subst (λ (records : List Record). slice_get records f.index ≡ Some e) (sym p.same) found; region = forks_it; spans = spans; in_span = within; child = refl })
              (parts ∙ ap (λ (q : ℕ). lane_of f.path q n s) (sym (deep_number p.other (regions_before part (record { path = p.other; index = f.index })) (not_root f.path p.other p.from deep) ∙ same_number)))
            where
              not_root : (path other : List Step) → IsFrom (later_number k) path other → (path ≡ [] → ⊥) → other ≡ [] → ⊥
              not_root _ _ (IsFrom.root path other e f) deep is = deep e
              not_root _ _ (IsFrom.lane path other above beside r n s up parts lane) deep is = not_both_empty other beside (record { region = r; lane = n; span = s }) is lane

      at : (x.path ≡ []) ⊎ HasLast x.path → ((y : Node) (e : Record) → length y.path < d → IsUnder (region + k) y.path → record_at logs y ≡ Some e → HasPart y e) → HasPart x r
      at (inl e) rec = absurd (subst (λ (p : List Step). IsUnder (region + k) p) e under)
      at (inr l) rec = by l l.prefix refl rec

  -- a pair under one of the part's regions of the root is a pair of the part
  pub part_pair : (region : ℕ) → ((f : ForkPlace) → slice_get (forks (logs [])) (region + k) ≡ Some f → slice_get (forks (part [])) region ≡ Some f)
      → (pair : ℕ × ℕ) (p : IsRacePair logs pair) → IsUnder (region + k) p.x.path → IsUnder (region + k) p.y.path → IsRacePair part pair
  part_pair region has pair p mine yours = pair_by Comes logs part tree (carried (later_number k) no_offset logs part were_forks keeps_teams part_run) pair p
      (stands p.x p.r p.race.left (parts_of region has (suc (length p.x.path)) p.x p.r (omega arith) mine p.race.left))
      (stands p.y p.s p.race.right (parts_of region has (suc (length p.y.path)) p.y p.s (omega arith) yours p.race.right))
    where
      stands : (x : Node) (r : Record) → record_at logs x ≡ Some r → HasPart x r → HasStandIn Comes logs part x r
      stands x r found h =
          let there : slice_get (part h.other) x.index ≡ Some r = subst (λ (records : List Record). slice_get records x.index ≡ Some r) (sym h.same) found in
          record {
            place = record { path = h.other; index = x.index };
            event = r;
            found = there;
            answers = comes_by x.path h.other x.index r h.from h.same there;
            covers = covers_itself r;
            mutexes = λ mutex held. subst (λ (records : List Record). Contains (held_after [] (take x.index records)) mutex) h.same held;
          }

-- two unordered records are under one region of the root
record ShareRegion (path other : List Step) : Type 0 where
  region : ℕ
  mine : IsUnder region path
  yours : IsUnder region other

share_region : (path other : List Step) (level : ℕ) (step beside : Step) → slice_get path level ≡ Some step → slice_get other level ≡ Some beside
    → take level path ≡ take level other → step.region ≡ beside.region → ShareRegion path other
share_region [] other level step beside mine yours shared same = cc
share_region (a ∷ path) [] level step beside mine yours shared same = cc
share_region (a ∷ path) (b ∷ other) zero step beside mine yours shared same =
    let first : a ≡ step = cc in
    let second : b ≡ beside = cc in
    record { region = a.region; mine = refl; yours = ap (λ (t : Step). t.region) second ∙ (sym same ∙ sym (ap (λ (t : Step). t.region) first)) }
share_region (a ∷ path) (b ∷ other) (suc level) step beside mine yours shared same =
    let heads : a ≡ b = cc in
    record { region = a.region; mine = refl; yours = sym (ap (λ (t : Step). t.region) heads) }

module _ (logs one two : Logs) (tree : IsForkJoin logs) (split : IsSplit logs one two) where
  abbrev fore : List ForkPlace
  fore = forks split.before

  abbrev k : ℕ
  k = region_count split.before

  fore_length : length fore ≡ k
  fore_length = forks_length 0 split.before

  root_forks : forks (logs []) ≡ fore ++ forks split.after
  root_forks =
      let none : barrier_count (logs []) ≡ 0 = tree.ends.no_root_barrier in
      let both : barrier_count (logs []) ≡ barrier_count split.before + barrier_count split.after = ap barrier_count split.root ∙ barriers_both split.before split.after in
      let zero_before : 0 + barrier_count split.before ≡ 0 = omega arith in
      ap forks split.root ∙ (forks_both 0 split.before split.after ∙ ap (λ (b : ℕ). fore ++ forks_from b split.after) zero_before)

  one_forks : forks (one []) ≡ fore
  one_forks = ap forks split.first_root ∙ (forks_both 0 split.before (split.ended ∷ [])
      ∙ (ap (λ (fs : List ForkPlace). fore ++ fs) (no_fork (0 + barrier_count split.before) split.ended split.ends) ∙ append-nil fore))

  two_forks : forks (two []) ≡ forks split.after
  two_forks = ap forks split.second_root

  pub one_regions : (r : ℕ) (f : ForkPlace) → slice_get (forks (one [])) r ≡ Some f → slice_get (forks (logs [])) (r + 0) ≡ Some f
  one_regions r f found =
      let place : r ≡ r + 0 = omega arith in
      subst (λ (fs : List ForkPlace). slice_get fs (r + 0) ≡ Some f) (sym root_forks)
      (subst (λ (i : ℕ). slice_get (fore ++ forks split.after) i ≡ Some f) place (get_more fore (forks split.after) r f (subst (λ (fs : List ForkPlace). slice_get fs r ≡ Some f) one_forks found)))

  pub two_regions : (r : ℕ) (f : ForkPlace) → slice_get (forks (two [])) r ≡ Some f → slice_get (forks (logs [])) (r + k) ≡ Some f
  two_regions r f found =
      let place : length fore + r ≡ r + k = (let long = fore_length in omega arith) in
      subst (λ (fs : List ForkPlace). slice_get fs (r + k) ≡ Some f) (sym root_forks)
      (subst (λ (i : ℕ). slice_get (fore ++ forks split.after) i ≡ Some f) place (get_right fore (forks split.after) r ∙ subst (λ (fs : List ForkPlace). slice_get fs r ≡ Some f) two_forks found))

  in_one : (r : ℕ) → r < k → (f : ForkPlace) → slice_get (forks (logs [])) (r + 0) ≡ Some f → slice_get (forks (one [])) r ≡ Some f
  in_one r less f found =
      let place : r + 0 ≡ r = omega arith in
      let within : r < length fore = (let long = fore_length in omega arith) in
      subst (λ (fs : List ForkPlace). slice_get fs r ≡ Some f) (sym one_forks)
      (sym (get_left fore (forks split.after) r within)
      ∙ subst (λ (i : ℕ). slice_get (fore ++ forks split.after) i ≡ Some f) place (subst (λ (fs : List ForkPlace). slice_get fs (r + 0) ≡ Some f) root_forks found))

  in_two : (r : ℕ) (f : ForkPlace) → slice_get (forks (logs [])) (r + k) ≡ Some f → slice_get (forks (two [])) r ≡ Some f
  in_two r f found =
      let place : r + k ≡ length fore + r = (let long = fore_length in omega arith) in
      subst (λ (fs : List ForkPlace). slice_get fs r ≡ Some f) (sym two_forks)
      (sym (get_right fore (forks split.after) r)
      ∙ subst (λ (i : ℕ). slice_get (fore ++ forks split.after) i ≡ Some f) place (subst (λ (fs : List ForkPlace). slice_get fs (r + k) ≡ Some f) root_forks found))

  apart : All NoEnd split.before × EndsOnce split.after
  apart = ends_apart split.before split.after (subst EndsOnce split.root (tree.ends.ended [] tree.tasks.root))
      (subst (λ (records : List Record). 0 < length records) split.second_root split.goes_on)

  pub one_ends : EndsOnce (one [])
  one_ends = subst EndsOnce (sym split.first_root) (ends_after split.before (split.ended ∷ []) apart.0 (ends_here split.ended split.ends))

  pub two_ends : EndsOnce (two [])
  two_ends = subst EndsOnce (sym split.second_root) apart.1

  no_barriers : barrier_count split.before + barrier_count split.after ≡ 0
  no_barriers = sym (barriers_both split.before split.after) ∙ (ap barrier_count (sym split.root) ∙ tree.ends.no_root_barrier)

  pub one_level : barrier_count (one []) ≡ 0
  one_level =
      let both : barrier_count (one []) ≡ barrier_count split.before + barrier_count (split.ended ∷ []) = ap barrier_count split.first_root ∙ barriers_both split.before (split.ended ∷ []) in
      let none : barrier_count (split.ended ∷ []) ≡ 0 = barrier_step split.ended [] ∙ (let end = split.ends in rw end refl) in
      let all = no_barriers in
      omega arith

  pub two_level : barrier_count (two []) ≡ 0
  two_level = let all = no_barriers in let same : barrier_count (two []) ≡ barrier_count split.after = ap barrier_count split.second_root in omega arith

  pub first_run : IsForkJoin one
  first_run = part_run 0 logs one tree one_ends one_level split.first_forked split.first_tasks one_regions

  pub second_run : IsForkJoin two
  second_run = part_run k logs two tree two_ends two_level split.second_forked split.second_tasks two_regions

  parted : (pair : ℕ × ℕ) → IsRacePair logs pair → IsRacePair one pair ⊎ IsRacePair two pair
  parted pair p =
      let u = unordered_parts logs p.x p.y tree (record_there logs p.x p.r p.race.left) (record_there logs p.y p.s p.race.right) p.race.unordered in
      by (share_region p.x.path p.y.path u.level u.parts.step u.parts.beside u.parts.mine u.parts.yours u.parts.shared u.parts.same_region)
    where
      by : ShareRegion p.x.path p.y.path → IsRacePair one pair ⊎ IsRacePair two pair
      by s = at (cases_lt s.region k)
        where
          at : (s.region < k) ⊎ (k ≤ s.region) → IsRacePair one pair ⊎ IsRacePair two pair
          at (inl less) =
              let place : s.region ≡ s.region + 0 = omega arith in
              inl (part_pair 0 logs one tree one_ends one_level split.first_forked split.first_tasks one_regions s.region (in_one s.region less) pair p
              (subst (λ (r : ℕ). IsUnder r p.x.path) place s.mine) (subst (λ (r : ℕ). IsUnder r p.y.path) place s.yours))
          at (inr le) =
              let place : s.region ≡ (s.region - k) + k = omega arith in
              inr (part_pair k logs two tree two_ends two_level split.second_forked split.second_tasks two_regions (s.region - k) (in_two (s.region - k)) pair p
              (subst (λ (r : ℕ). IsUnder r p.x.path) place s.mine) (subst (λ (r : ℕ). IsUnder r p.y.path) place s.yours))

  pub split_pairs : (pair : ℕ × ℕ) → IsRacePair logs pair ↔ (IsRacePair one pair ⊎ IsRacePair two pair)
  split_pairs pair = (parted pair, back)
    where
      back : IsRacePair one pair ⊎ IsRacePair two pair → IsRacePair logs pair
      back (inl p) = no_pair_lost (Back 0 logs one tree one_ends one_level split.first_forked split.first_tasks one_regions) one logs first_run (back_replaced 0 logs one tree one_ends one_level split.first_forked split.first_tasks one_regions) pair p
      back (inr p) = no_pair_lost (Back k logs two tree two_ends two_level split.second_forked split.second_tasks two_regions) two logs second_run (back_replaced k logs two tree two_ends two_level split.second_forked split.second_tasks two_regions) pair p
