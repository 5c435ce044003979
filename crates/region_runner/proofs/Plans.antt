-- A team from one of its phases to the next.
use Rattle.std.proofs.Common.{◌≡◌, refl, ap, sym, ◌∙◌, subst, ℕ, suc, ◌+◌, ◌-◌, ◌<◌, ◌≤◌, List, [], ◌∷◌, ◌++◌, length, map, take, drop, take_all, Option, Some, None, slice_index_or, arith}
use Rattle.std.specs.Prelude.{Bool, true, false, ◌==◌, if◌then◌else◌}
use Rattle.std.proofs.lemmas.Bool.{eqb-true, eqb-false}
use Rattle.std.proofs.lemmas.List.{get_or_append_left, length-append, take-append-drop}
use Rattle.std.proofs.lemmas.Option.{same_Some}
use Rattle.std.proofs.Math.Seq.{get_or-append_seam, take-suc}
use Rattle.kernel_model.specs.declared.phase.Item.{Item}
use Rattle.kernel_model.specs.Parts.{bar_count, drawn_count}
use Rattle.kernel_model.specs.Phases.{EndsInBar, part_of, parts_in}
use Rattle.shared_words.specs.declared.view.View.{View}
use Rattle.shared_words.specs.Handles.{Belongs, HandValue, with_view}
use Rattle.lane_runner.proofs.Phases.{no_bars}
use Rattle.lane_runner.specs.Lane.{CanGoOn, LaneValue, hand_view, with_hand}
use Rattle.team_live.specs.Phases.{EachDid}
use Rattle.region_runner.specs.Crew.{CrewValue, world_of}
use Rattle.region_runner.specs.Ground.{IsOurLane, IsOurPhase}
use Rattle.region_runner.specs.Hands.{IsLaneHand, joined_with, lane_hand}
use Rattle.region_runner.specs.LastPhase.{IsLast}
use Rattle.region_runner.specs.Meeting.{JoinsHands}
use Rattle.region_runner.specs.Plan.{CanBegin, Did, IsParted, IsPlan, MayDo, PlanValue, StandsAt, LeavesOff, TeamValue, end_at, items_at}
use Rattle.region_runner.specs.Stands.{AllGo, HasPassed, RanPhase, TeamRan}
use Rattle.region_runner.proofs.PhaseHands.{can_go_on, comes_home, parted_name}
use Rattle.region_runner.proofs.TeamLoop.{few_first, may_next, one_bar, own_next, passed_none, runs_all, stops_early}
use Rattle.region_runner.proofs.TeamSteps.{TeamSteps, team_steps}

module _ (p : PlanValue) (is : IsPlan p) where
  count : length p.phases ≡ length is.divided.earlier + 1
  count = ap (λ (ps : List (List Item)). length ps) is.divided.parts ∙ length-append is.divided.earlier (is.divided.last ∷ [])

  module _ (number : ℕ) (within : number < length p.phases) where
    pub lawful_at : IsOurPhase p.ground (4 - p.depth) (items_at p number)
    lawful_at = is.lawful number [] within

    next : take (number + 1) p.phases ≡ take number p.phases ++ items_at p number ∷ []
    next = ap (λ (k : ℕ). take k p.phases) (let e : number + 1 ≡ suc number = omega arith in e) ∙ take-suc p.phases number [] within

    few_next : drawn_count (parts_in (take number p.phases ++ items_at p number ∷ [])) ≤ p.crew.chunks.loops
    few_next = subst (λ (ps : List (List Item)). drawn_count (parts_in ps) ≤ p.crew.chunks.loops) next (few_first p.phases (number + 1) p.crew.chunks.loops is.counters)

    bar_at : number + 1 < length p.phases → bar_count (map part_of (items_at p number)) ≡ 1
    bar_at more =
        let inside : number < length is.divided.earlier = let n = count in omega (arith, more, n) in
        one_bar (items_at p number)
        (subst EndsInBar (sym (ap (λ (ps : List (List Item)). slice_index_or ps number []) is.divided.parts ∙ get_or_append_left is.divided.earlier (is.divided.last ∷ []) [] number inside))
        (is.divided.each number [] inside))

    last_at : number + 1 ≡ length p.phases → items_at p number ≡ is.divided.last
    last_at at =
        ap (λ (ps : List (List Item)). slice_index_or ps number []) is.divided.parts
        ∙ ap (λ (k : ℕ). slice_index_or (is.divided.earlier ++ is.divided.last ∷ []) k []) (let e : number ≡ length is.divided.earlier = let n = count in omega (arith, at, n) in e)
        ∙ get_or-append_seam is.divided.earlier is.divided.last [] []

    pub last_in : number + 1 ≡ length p.phases → IsLast (items_at p number) p.line
    last_in at = record { some = is.end; none = ap (λ (xs : List Item). bar_count (map part_of xs)) (last_at at) ∙ no_bars is.divided.last is.divided.none_in_last }

    end_by : (is_last : Bool) → (number + 1 == length p.phases) ≡ is_last → end_at p number ≡ (if is_last then Some p.line else None)
    end_by is_last e = ap (λ (b : Bool). if b then Some p.line else None) e

    pub ends_in : (line : ℕ) → end_at p number ≡ Some line → IsLast (items_at p number) line
    ends_in line e = by (number + 1 == length p.phases) refl where
      none : None ≡ Some line → ⊥
      none e = cc

      by : (is_last : Bool) → (number + 1 == length p.phases) ≡ is_last → IsLast (items_at p number) line
      by true at = subst (λ (n : ℕ). IsLast (items_at p number) n) (same_Some p.line line (sym (end_by true at) ∙ e)) (last_in (eqb-true (number + 1) (length p.phases) at))
      by false at = absurd (none (sym (end_by false at) ∙ e))

module _ (t : TeamValue) (can : CanBegin t) where
  pub stands_first : StandsAt t 0 t.hand t.lanes
  stands_first = record {
    passed = λ some. passed_none t.plan.crew t.hand t.lanes can.belongs.there can.count can.fresh;
    ran = λ none. absurd (let n = count t.plan can.plan in omega (arith, none, n));
  }

  same_table : t.plan.crew.words.table ≡ t.plan.ground.words.table
  same_table = ap (λ (v : CrewValue). v.words.table) can.plan.crew_is

  module _ (number : ℕ) (within : number < length t.plan.phases) where
    pub stood_belongs : (hand : HandValue View) (lanes : List LaneValue) → StandsAt t number hand lanes → Belongs hand t.plan.ground.words.table
    stood_belongs hand lanes stands = record {
      here = ap (λ (h : HandValue View). h.table) (stands.passed within).stands.did.hand ∙ can.belongs.here;
      there = ap (λ (h : HandValue View). h.there) (stands.passed within).stands.did.hand;
    }

    module _ (hand : HandValue View) (lanes : List LaneValue) (parted : IsParted t number hand lanes) where
      prev_count : length parted.prev ≡ t.plan.crew.span
      prev_count = parted.passed.stands.count

      home_belongs : Belongs parted.home t.plan.ground.words.table
      home_belongs = record {
        here = ap (λ (h : HandValue View). h.table) parted.passed.stands.did.hand ∙ can.belongs.here;
        there = ap (λ (h : HandValue View). h.there) parted.passed.stands.did.hand;
      }

      pub parted_belongs : Belongs hand t.plan.ground.words.table
      parted_belongs = record {
        here = ap (λ (h : HandValue View). h.table) parted.parts.hand ∙ home_belongs.here;
        there = ap (λ (h : HandValue View). h.there) parted.parts.hand;
      }

      pub may_do : (k : ℕ) (d : LaneValue) → k < t.plan.crew.span → MayDo t.plan number k (slice_index_or lanes k d)
      may_do k d less =
          let start = slice_index_or t.lanes k d in
          let m = slice_index_or parted.prev k d in
          let in_start : k < length t.lanes = let n = can.count in omega (arith, n, less) in
          let in_prev : k < length parted.prev = let n = prev_count in omega (arith, n, less) in
          let own = own_next t.plan.ground t.plan.depth t.plan.crew start m (take number t.plan.phases) None parted.passed.phases k (parted.passed.stands.lanes k d less) (can.own k d in_start) in
          record {
            within = within;
            lane = less;
            can =
                subst (λ (x : LaneValue). CanGoOn (world_of t.plan.crew k) (items_at t.plan number) x) (sym (parted.parts.given k d less))
                (can_go_on t.plan.crew (items_at t.plan number) k parted.home m (record { here = home_belongs.here ∙ sym same_table; there = home_belongs.there }) own.path_is
                (may_next t.plan.crew start m (take number t.plan.phases) parted.passed.phases k (items_at t.plan number) (parted.passed.stands.lanes k d less) (parted.passed.goes k d in_prev)
                (can.fresh k d in_start).no_loop (few_next t.plan can.plan number within)));
            own = subst (λ (x : LaneValue). IsOurLane t.plan.ground t.plan.depth x) (sym (parted.parts.given k d less)) (record { path_is = own.path_is; deep = own.deep; size_is = own.size_is });
          }

      module _ (mid : List LaneValue) (did : EachDid (Did t.plan) number lanes mid) where
        went : (k : ℕ) (d : LaneValue) → k < t.plan.crew.span → Did t.plan number k (with_hand (slice_index_or parted.prev k d) (lane_hand parted.home k)) (slice_index_or mid k d)
        went k d less =
            subst (λ (m : LaneValue). Did t.plan number k m (slice_index_or mid k d)) (parted.parts.given k d less)
            (did.each k d (let n = parted.parts.count in omega (arith, n, less)))

        pub all_home : (k : ℕ) (d : LaneValue) → k < length mid → IsLaneHand t.plan.ground.words.table hand.view.name (slice_index_or mid k d).hand
        all_home k d less =
            let inside : k < t.plan.crew.span = let n = parted.parts.count in let m = did.count in omega (arith, n, m, less) in
            let home = comes_home t.plan.crew (items_at t.plan number) (end_at t.plan number) k parted.home (slice_index_or parted.prev k d) (slice_index_or mid k d) (went k d inside) hand.view.name
            (ap (λ (h : HandValue View). h.view.name) parted.parts.hand ∙ parted_name 0 t.plan.crew.span t.plan.crew.span parted.home.view) in
            record {
              belongs = record { here = home.belongs.here ∙ same_table; there = home.belongs.there };
              split = home.split;
              holds_none = home.holds_none;
              none_out = home.none_out;
            }

        module _ (now : HandValue View) (after : List LaneValue) (joins : JoinsHands hand now mid after) where
          mid_count : length mid ≡ length parted.prev
          mid_count = did.count ∙ parted.parts.count ∙ sym prev_count

          ran : RanPhase t.plan.crew (items_at t.plan number) (end_at t.plan number) parted.home now parted.prev after
          ran = record {
            mid = mid;
            mid_count = mid_count;
            went = λ k d less. went k d (let n = prev_count in omega (arith, n, less));
            rests = parted.parts.rests can.plan.some;
            hand = joins.hand ∙ ap (λ (h : HandValue View). with_view h (joined_with (map hand_view mid) h.view)) parted.parts.hand;
            count = joins.count ∙ mid_count;
            same = λ k d less. joins.same k d (let n = mid_count in omega (arith, n, less));
          }

          steps : TeamSteps t.plan.crew (items_at t.plan number) (end_at t.plan number) t.hand now t.lanes after (take number t.plan.phases)
          steps =
              team_steps t.plan.crew (items_at t.plan number) (end_at t.plan number) t.hand parted.home now t.lanes parted.prev after (take number t.plan.phases) parted.passed.phases can.plan.some can.count
              parted.passed.stands parted.passed.goes ran (ends_in t.plan can.plan number within) can.none_out parted.passed.pass

          steps_by : (is_last : Bool) → (number + 1 == length t.plan.phases) ≡ is_last
              → TeamSteps t.plan.crew (items_at t.plan number) (if is_last then Some t.plan.line else None) t.hand now t.lanes after (take number t.plan.phases)
          steps_by is_last at =
              subst (λ (e : Option ℕ). TeamSteps t.plan.crew (items_at t.plan number) e t.hand now t.lanes after (take number t.plan.phases)) (end_by t.plan can.plan number within is_last at) steps

          more : (number + 1 == length t.plan.phases) ≡ false → number + 1 < length t.plan.phases
          more at = let other = eqb-false (number + 1) (length t.plan.phases) at in by_less other where
            by_less : (number + 1 ≡ length t.plan.phases → ⊥) → number + 1 < length t.plan.phases
            by_less other = omega (arith, other, within)

          whole : (number + 1 == length t.plan.phases) ≡ true → TeamRan t.plan.crew t.plan.phases t.plan.line t.hand now t.lanes after
          whole at =
              let last : number + 1 ≡ length t.plan.phases = eqb-true (number + 1) (length t.plan.phases) at in
              runs_all t.plan.crew (take number t.plan.phases) (items_at t.plan number) t.plan.phases t.plan.line t.hand now t.lanes after
              (sym (take_all (number + 1) t.plan.phases (omega (arith, last))) ∙ next t.plan can.plan number within) (steps_by true at)

          pub goes_on : AllGo after → StandsAt t (number + 1) now after
          goes_on goes = by (number + 1 == length t.plan.phases) refl where
            by : (is_last : Bool) → (number + 1 == length t.plan.phases) ≡ is_last → StandsAt t (number + 1) now after
            by true at = record {
              passed = λ less. absurd (let last = eqb-true (number + 1) (length t.plan.phases) at in omega (arith, last, less));
              ran = λ last. whole at;
            }
            by false at = record {
              passed = λ less.
                  subst (λ (ps : List (List Item)). HasPassed t.plan.crew ps t.hand now t.lanes after) (sym (next t.plan can.plan number within))
                  (record {
                    phases = (steps_by false at).phases;
                    stands = (steps_by false at).stands;
                    goes = goes;
                    pass = (steps_by false at).passes goes (bar_at t.plan can.plan number within less);
                  });
              ran = λ last. absurd (eqb-false (number + 1) (length t.plan.phases) at last);
            }

          pub stops_at : (AllGo after → ⊥) → LeavesOff t number now after
          stops_at some = by (number + 1 == length t.plan.phases) refl where
            by : (is_last : Bool) → (number + 1 == length t.plan.phases) ≡ is_last → LeavesOff t number now after
            by true at = whole at
            by false at =
                stops_early t.plan.crew t.plan.phases (take number t.plan.phases ++ items_at t.plan number ∷ []) (drop (number + 1) t.plan.phases) t.plan.line t.hand now t.lanes after (steps_by false at).phases
                (sym (take-append-drop (number + 1) t.plan.phases) ∙ ap (λ (ps : List (List Item)). ps ++ drop (number + 1) t.plan.phases) (next t.plan can.plan number within)) (steps_by false at).stands some
                (record { earlier = take number t.plan.phases; last = items_at t.plan number; parts = refl; bar = bar_at t.plan can.plan number within (more at) })
