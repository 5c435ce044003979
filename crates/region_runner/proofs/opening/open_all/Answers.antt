use Rattle.std.proofs.Common.{rules, ◌≡◌, ◌∙◌, refl, ap, sym, subst, ℕ, ◌+◌, List, [], ◌∷◌, ◌++◌, length, Result, slice_index_or, arith}
use Rattle.std.specs.Prelude.{is_some}
use Rattle.std.proofs.lemmas.List.{length_push}
use Rattle.std.proofs.lemmas.Iterator.Adapters.{YieldsList-from_vec}
use Rattle.std.proofs.lemmas.Iterator.Consumers.{YieldsList-turn, YieldsList-end}
use Rattle.sw_base.specs.declared.environment.Log.{Ghosts}
use Rattle.sw_base.specs.declared.path.Step.{Step}
use Rattle.race_model.specs.Listing.{lane_of}
use Rattle.shared_words.specs.declared.share.Share.{Share}
use Rattle.shared_words.specs.Handles.{Belongs, HandValue}
use Rattle.lane_runner.specs.Children.{IsNewLog}
use Rattle.lane_runner.specs.Handed.{LogPlace, log_place}
use Rattle.region_runner.specs.Gathering.{ClosedValue}
use Rattle.lane_runner.specs.Lane.{IsLanePath, LaneValue}
use Rattle.lane_runner.proofs.LanePaths.{lane_path}
use Rattle.region_runner.specs.Opening.{OpensAs, lent_hand, lent_to}
use Rattle.region_runner.proofs.OpenedLanes.{lent_more, lent_same, opens_more}
use Rattle.region_runner.proofs.opening.open_all.Goals as goal

pub loop-log-init : goal.loop-log-init
loop-log-init g c = record {
  lane = refl;
  count = ap (λ (xs : List (Result LaneValue ClosedValue)). length xs) c.new-opened.ensures.items;
  share = λ i. record { table = c.args.share.now.table; there = c.requires.share.there i; view = c.requires.whole i };
  opens = λ task path_is size_is new k d less. absurd (omega (arith, less));
}

pub child-own-requires : goal.child-own-requires
child-own-requires g c = c.requires.depth

pub split-draws-requires-clause-hand : goal.split-draws-requires-clause-hand
split-draws-requires-clause-hand g c =
    subst (λ (h : HandValue Share). Belongs h c.args.chunks.now.table) (sym c.loop-log.invariant.share) (record { here = c.requires.share.here; there = refl })

pub split-draws-requires-clause-first : goal.split-draws-requires-clause-first
split-draws-requires-clause-first g c = ap (λ (h : HandValue Share). h.view.first) c.loop-log.invariant.share

pub split-draws-requires-clause-splits : goal.split-draws-requires-clause-splits
split-draws-requires-clause-splits g c =
    let turn = YieldsList-turn (YieldsList-from_vec {s = c.into_iter-log-iterator.result} c.args.logs.items (search rules) (search rules)) c.loop-log.yielded c.loop-log.log-iterator c.loop-log.yielded_by c.next.result c.next.new.self c.in-Some.log c.in-Some.is c.next.ensures.steps in
    let splits : c.loop-log.share.view.splits ≡ length c.loop-log.yielded = ap (λ (h : HandValue Share). h.view.splits) c.loop-log.invariant.share in
    let count = c.requires.logs.new.count in
    let few = c.requires.span in
    let inside = turn.0 in
    omega (arith, splits, count, few, inside)

pub open_lane-requires-clause-size : goal.open_lane-requires-clause-size
open_lane-requires-clause-size g c κs within = c.size.ensures.bounds

pub open_lane-requires-clause-lane : goal.open_lane-requires-clause-lane
open_lane-requires-clause-lane g c κs within =
    let turn = YieldsList-turn (YieldsList-from_vec {s = c.into_iter-log-iterator.result} c.args.logs.items (search rules) (search rules)) c.loop-log.yielded c.loop-log.log-iterator c.loop-log.yielded_by c.next.result c.next.new.self c.in-Some.log c.in-Some.is c.next.ensures.steps in
    let lane = c.loop-log.invariant.lane in
    let count = c.requires.logs.new.count in
    let inside = turn.0 in
    subst IsLanePath (sym c.child-own.ensures) (lane_path c.args.at.now c.args.number c.loop-log.lane c.args.span (omega (arith, lane, count, inside)))

pub open_lane-requires-clause-path : goal.open_lane-requires-clause-path
open_lane-requires-clause-path g c κs within =
    let turn = YieldsList-turn (YieldsList-from_vec {s = c.into_iter-log-iterator.result} c.args.logs.items (search rules) (search rules)) c.loop-log.yielded c.loop-log.log-iterator c.loop-log.yielded_by c.next.result c.next.new.self c.in-Some.log c.in-Some.is c.next.ensures.steps in
    let seen : Ghosts g.row.L.Denot = g.L.Log in
    let is_new : IsNewLog {T = g.row.L.Denot} seen c.requires.logs.task c.args.number c.args.span (length c.loop-log.yielded) c.in-Some.log =
    subst (λ (log : g.row.L.Denot). IsNewLog {T = g.row.L.Denot} seen c.requires.logs.task c.args.number c.args.span (length c.loop-log.yielded) log) (sym turn.1) (c.requires.logs.new.each (length c.loop-log.yielded) c.in-Some.log turn.0) in
    is_new.path
    ∙ ap (λ (p : List Step). p ++ record { region = c.args.number; lane = length c.loop-log.yielded; span = c.args.span } ∷ []) c.requires.logs.path_is
    ∙ ap (λ (n : ℕ). c.args.at.now ++ record { region = c.args.number; lane = n; span = c.args.span } ∷ []) (sym c.loop-log.invariant.lane)
    ∙ sym c.child-own.ensures

pub open_lane-requires-clause-empty : goal.open_lane-requires-clause-empty
open_lane-requires-clause-empty g c κs within =
    let turn = YieldsList-turn (YieldsList-from_vec {s = c.into_iter-log-iterator.result} c.args.logs.items (search rules) (search rules)) c.loop-log.yielded c.loop-log.log-iterator c.loop-log.yielded_by c.next.result c.next.new.self c.in-Some.log c.in-Some.is c.next.ensures.steps in
    let seen : Ghosts g.row.L.Denot = g.L.Log in
    let is_new : IsNewLog {T = g.row.L.Denot} seen c.requires.logs.task c.args.number c.args.span (length c.loop-log.yielded) c.in-Some.log =
    subst (λ (log : g.row.L.Denot). IsNewLog {T = g.row.L.Denot} seen c.requires.logs.task c.args.number c.args.span (length c.loop-log.yielded) log) (sym turn.1) (c.requires.logs.new.each (length c.loop-log.yielded) c.in-Some.log turn.0) in
    is_new.empty

pub open_lane-requires-clause-no_faults : goal.open_lane-requires-clause-no_faults
open_lane-requires-clause-no_faults g c κs within =
    let turn = YieldsList-turn (YieldsList-from_vec {s = c.into_iter-log-iterator.result} c.args.logs.items (search rules) (search rules)) c.loop-log.yielded c.loop-log.log-iterator c.loop-log.yielded_by c.next.result c.next.new.self c.in-Some.log c.in-Some.is c.next.ensures.steps in
    let seen : Ghosts g.row.L.Denot = g.L.Log in
    let is_new : IsNewLog {T = g.row.L.Denot} seen c.requires.logs.task c.args.number c.args.span (length c.loop-log.yielded) c.in-Some.log =
    subst (λ (log : g.row.L.Denot). IsNewLog {T = g.row.L.Denot} seen c.requires.logs.task c.args.number c.args.span (length c.loop-log.yielded) log) (sym turn.1) (c.requires.logs.new.each (length c.loop-log.yielded) c.in-Some.log turn.0) in
    is_new.no_faults

pub overflow_add-lane : goal.overflow_add-lane
overflow_add-lane g c =
    let turn = YieldsList-turn (YieldsList-from_vec {s = c.into_iter-log-iterator.result} c.args.logs.items (search rules) (search rules)) c.loop-log.yielded c.loop-log.log-iterator c.loop-log.yielded_by c.next.result c.next.new.self c.in-Some.log c.in-Some.is c.next.ensures.steps in
    let lane = c.loop-log.invariant.lane in
    let count = c.requires.logs.new.count in
    let few = c.requires.span in
    let inside = turn.0 in
    omega (arith, lane, count, few, inside)

pub loop-log-preserved : goal.loop-log-preserved
loop-log-preserved g c =
    let seen : Ghosts g.row.L.Denot = g.L.Log in
    let turn = YieldsList-turn (YieldsList-from_vec {s = c.into_iter-log-iterator.result} c.args.logs.items (search rules) (search rules)) c.loop-log.yielded c.loop-log.log-iterator c.loop-log.yielded_by c.next.result c.next.new.self c.in-Some.log c.in-Some.is c.next.ensures.steps in
    let more : length (c.loop-log.yielded ++ c.in-Some.log ∷ []) ≡ length c.loop-log.yielded + 1 = length_push c.loop-log.yielded c.in-Some.log in
    let pushed : c.push.new.self.items ≡ c.loop-log.opened.items ++ c.open_lane.result ∷ [] = search rules in
    record {
      lane = ap (λ (n : ℕ). n + 1) c.loop-log.invariant.lane ∙ sym more;
      count = ap (λ (xs : List (Result LaneValue ClosedValue)). length xs) pushed ∙ length_push c.loop-log.opened.items c.open_lane.result ∙ ap (λ (n : ℕ). n + 1) c.loop-log.invariant.count ∙ sym more;
      share =
          lent_more (length c.loop-log.yielded) c.args.share.now c.loop-log.share c.split-draws.new.hand c.loop-log.invariant.share c.split-draws.ensures.kept
          ∙ ap (λ (n : ℕ). lent_to n c.args.share.now) (sym more);
      opens = λ task path_is size_is new k d less.
          subst (λ (xs : List (Result LaneValue ClosedValue)). OpensAs (log_place task) (lane_of c.args.at.now c.args.number k c.args.span) c.args.locals.now.slots.items (lent_hand c.args.share.now) (slice_index_or xs k d)) (sym pushed)
          (opens_more (log_place task) c.args.at.now c.args.number c.args.span c.args.locals.now.slots.items (lent_hand c.args.share.now) (length c.loop-log.yielded) c.loop-log.opened.items c.open_lane.result c.loop-log.invariant.count
          (c.loop-log.invariant.opens task path_is size_is new)
          (let is_new : IsNewLog {T = g.row.L.Denot} seen task c.args.number c.args.span (length c.loop-log.yielded) c.in-Some.log =
          subst (λ (log : g.row.L.Denot). IsNewLog {T = g.row.L.Denot} seen task c.args.number c.args.span (length c.loop-log.yielded) log) (sym turn.1) (new.each (length c.loop-log.yielded) c.in-Some.log turn.0) in
          let place : record { dir = g.L.Log.dir c.in-Some.log; size = c.size.result; tells = is_some (g.L.Log.text c.in-Some.log) } ≡ log_place task =
          λ i. record { dir = is_new.dir i; size = (c.size.ensures.is ∙ sym size_is) i; tells = is_new.tells i } in
          let own : c.child-own.result ≡ lane_of c.args.at.now c.args.number (length c.loop-log.yielded) c.args.span =
          c.child-own.ensures ∙ ap (λ (n : ℕ). lane_of c.args.at.now c.args.number n c.args.span) c.loop-log.invariant.lane in
          subst (λ (p : LogPlace). OpensAs p (lane_of c.args.at.now c.args.number (length c.loop-log.yielded) c.args.span) c.args.locals.now.slots.items (lent_hand c.args.share.now) c.open_lane.result) place
          (subst (λ (p : List Step). OpensAs (record { dir = g.L.Log.dir c.in-Some.log; size = c.size.result; tells = is_some (g.L.Log.text c.in-Some.log) }) p c.args.locals.now.slots.items (lent_hand c.args.share.now) c.open_lane.result) own
          (subst (λ (h : HandValue Share). OpensAs (record { dir = g.L.Log.dir c.in-Some.log; size = c.size.result; tells = is_some (g.L.Log.text c.in-Some.log) }) c.child-own.result c.args.locals.now.slots.items h c.open_lane.result)
          (lent_same (length c.loop-log.yielded) c.args.share.now c.loop-log.share c.split-draws.result c.loop-log.invariant.share c.split-draws.ensures.given) c.open_lane.ensures.opens)))
          k d (omega (arith, more, less)));
    }

pub returns-clause-count : goal.returns-clause-count
returns-clause-count g c =
    let end = YieldsList-end (YieldsList-from_vec {s = c.into_iter-log-iterator.result} c.args.logs.items (search rules) (search rules)) c.loop-log.yielded _ c.loop-log.yielded_by _ c.next.new.self c.in-None.is c.next.ensures.steps in
    c.loop-log.invariant.count ∙ end.1 ∙ c.requires.logs.new.count

pub returns-clause-share : goal.returns-clause-share
returns-clause-share g c =
    let end = YieldsList-end (YieldsList-from_vec {s = c.into_iter-log-iterator.result} c.args.logs.items (search rules) (search rules)) c.loop-log.yielded _ c.loop-log.yielded_by _ c.next.new.self c.in-None.is c.next.ensures.steps in
    c.loop-log.invariant.share ∙ ap (λ (n : ℕ). lent_to n c.args.share.now) (end.1 ∙ c.requires.logs.new.count)

pub returns-clause-opens : goal.returns-clause-opens
returns-clause-opens g c = λ task path_is size_is new k d less.
    let end = YieldsList-end (YieldsList-from_vec {s = c.into_iter-log-iterator.result} c.args.logs.items (search rules) (search rules)) c.loop-log.yielded _ c.loop-log.yielded_by _ c.next.new.self c.in-None.is c.next.ensures.steps in
    let whole = end.1 in
    let count = c.requires.logs.new.count in
    c.loop-log.invariant.opens task path_is size_is new k d (omega (arith, whole, count, less))
