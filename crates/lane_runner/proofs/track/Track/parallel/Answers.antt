use Rattle.std.proofs.Common.{Ok, Err, ◌≡◌, refl, ap, sym, ◌∙◌, subst, ℕ, ◌+◌, ◌<◌, ◌≤◌, List, [], length, ℤ, rules}
use Rattle.std.proofs.lemmas.List.{length-map}
use Rattle.std.proofs.lemmas.Result.{err_from_is_err_and}
use Rattle.log_format.specs.Limit.{task_limit}
use Rattle.sw_base.specs.declared.environment.Log.{Ghosts}
use Rattle.sw_base.specs.declared.closed_log.ClosedLog.{ClosedLog}
use Rattle.sw_base.specs.declared.path.Step.{Step}
use Rattle.log_format.specs.declared.record.Kind.TheVariants as kind
use Rattle.kernel_syntax.specs.Program.{team_of}
use Rattle.kernel_syntax.specs.Tree as tree
use Rattle.kernel_syntax.specs.Tree.{TeamTree}
use Rattle.kernel_model.specs.Effect.{Returned}
use Rattle.kernel_model.specs.State.{event}
use Rattle.kernel_model.specs.Trace.{run}
use Rattle.kernel_model.proofs.Growing.{run-grows}
use Rattle.kernel_model.proofs.RunEffects.{makes-Parallel_full}
use Rattle.shared_words.specs.declared.view.View.{View}
use Rattle.shared_words.specs.Handles.{HandValue}
use Rattle.lane_runner.specs.Children.{AreNewLogs}
use Rattle.lane_runner.specs.Drawing.{Tally}
use Rattle.lane_runner.specs.Forking.{Answer, RanRegion, IsReady}
use Rattle.lane_runner.specs.Going.{Progress, PutsRecord, Began, Made, AtRegion, AtTasks, site}
use Rattle.lane_runner.specs.declared.stop.Stop.{Stop}
use Rattle.lane_runner.specs.World.{WorldValue}
use Rattle.lane_runner.specs.Going.{CanGo}
use Rattle.lane_runner.proofs.Stepping.{goes_unready}
use Rattle.lane_runner.proofs.Regions.{region_made, region_began, region_crowded}
use Rattle.lane_runner.specs.Handed.{entry_of, entries_of}
use Rattle.lane_runner.proofs.track.Track.parallel.Goals as goal

-- the hand after the record of the fork
ready_after : (w : WorldValue) (team : TeamTree) (old a : Progress) → CanGo w old → old.hand.view.held ≡ [] → PutsRecord (event kind.Region team.line 0 team.span) old.hand.view old a → IsReady a.hand w.words
ready_after w team old a can free taken = record {
  free = record {
    belongs = record { here = ap (λ (h : HandValue View). h.table) taken.hand ∙ can.belongs.here; there = ap (λ (h : HandValue View). h.there) taken.hand };
    holds_none = ap (λ (h : HandValue View). h.view.held) taken.hand ∙ free;
  };
  none_out = ap (λ (h : HandValue View). h.view.out) taken.hand ∙ can.home;
}

-- what the region did, by the number that the task had before its record, and how the lane goes on
module _ {T : Type 0} {seen : Ghosts T} (w : WorldValue) (team : TeamTree) (some : 1 ≤ team.line) (slots : List ℤ) {old mid : Progress} (can : CanGo w old) (free : old.hand.view.held ≡ [])
    (taken : PutsRecord (event kind.Region team.line 0 team.span) old.hand.view old mid) {logs : List T} (fresh : AreNewLogs seen old.buffer old.tally.forked team.span logs) (after : HandValue View) (done : List (ClosedLog T)) (r : Answer)
    (ran : IsReady mid.hand w.words → AreNewLogs seen old.buffer mid.tally.forked team.span logs → RanRegion w team slots old.buffer mid.tally.forked mid.hand after mid.done (entries_of seen done) r) where
  abbrev new : Progress
  new = record { hand = after; buffer = mid.buffer; tally = record mid.tally { forked = mid.tally.forked + 1 }; done = entries_of seen done }

  ran_so : RanRegion w team slots old.buffer old.tally.forked mid.hand after mid.done (entries_of seen done) r
  ran_so =
      let number = ap (λ (t : Tally). t.forked) taken.tally in
      subst (λ (n : ℕ). RanRegion w team slots old.buffer n mid.hand after mid.done (entries_of seen done) r) number
      (ran (ready_after w team old mid can free taken) (subst (λ (n : ℕ). AreNewLogs seen old.buffer n team.span logs) (sym number) fresh))

  length_same : length (entries_of seen done) ≡ length done
  length_same = length-map done (entry_of seen)

  began : (path : List Step) (why : Stop) → r ≡ Err (path, why) → Began w (run (site w) (tree.Parallel team.span team.line team.end team.body tree.Done)) slots old new (AtRegion path why)
  began = region_began w (site w) team some slots old mid new r taken ran_so free refl refl

  crowded : (u : Unit {0}) → r ≡ Ok u → task_limit < length done → Began w (run (site w) (tree.Parallel team.span team.line team.end team.body tree.Done)) slots old new (AtTasks team.line)
  crowded u is many = region_crowded w (site w) team some slots old mid new r taken ran_so free refl refl u is (subst (λ (n : ℕ). task_limit < n) (sym length_same) many)

  made : (u : Unit {0}) → r ≡ Ok u → length done ≤ task_limit → Made w (run (site w) (tree.Parallel team.span team.line team.end team.body tree.Done)) slots slots old new (Returned tt)
  made u is few = region_made w (site w) team some slots old mid new r taken ran_so free refl refl u is (subst (λ (n : ℕ). n ≤ task_limit) (sym length_same) few)

pub region-requires : goal.region-requires
region-requires g c =
    let team : TeamTree = team_of c.args.team.now in
    let mid : Progress = record { hand = c.self.inside.hand; buffer = c.self.inside.buffer; tally = record { draws = c.self.inside.draws; next_loop = c.self.inside.next_loop; forked = c.self.inside.forked }; done = entries_of g.L.Log c.self.inside.done.items } in
    let taken = subst (λ (p : Progress). PutsRecord (event kind.Region team.line 0 team.span) c.args.self.now.hand.view c.args.self.now p) (sym c.self.view_is) c.in_ok-logs.ensures.takes in
    let ready = ready_after c.args.world.now team c.args.self.now mid c.requires.can c.requires.free taken in
    let new = c.in_ok-logs.ensures.logs in
    search (rules, ready, new, c.requires.runs.accepted)

pub returns-in_err-logs-clause-goes : goal.returns-in_err-logs-clause-goes
returns-in_err-logs-clause-goes g c =
    let p = err_from_is_err_and c.from_residual.result c.from_residual.ensures.1 in
    let team : TeamTree = team_of c.args.team.now in
    rw (p.1, p.2)
    (goes_unready c.args.world.now (run (site c.args.world.now) (tree.Parallel team.span team.line team.end team.body tree.Done)) c.args.locals.now.slots.items team.line
    (run-grows (site c.args.world.now) (tree.Parallel team.span team.line team.end team.body tree.Done))
    (makes-Parallel_full (site c.args.world.now) c.args.locals.now.slots.items 0 team tree.Done refl)
    c.args.self.now c.fork.new.self c.in_err-logs.field-0.0 c.requires.can c.in_err-logs.ensures.takes)

pub returns-in-Err-clause-goes : goal.returns-in-Err-clause-goes
returns-in-Err-clause-goes g c =
    let taken = subst (λ (p : Progress). PutsRecord (event kind.Region c.args.team.now.line 0 c.args.team.now.span) c.args.self.now.hand.view c.args.self.now p) (sym c.self.view_is) c.in_ok-logs.ensures.takes in
    began c.args.world.now (team_of c.args.team.now) c.requires.line c.args.locals.now.slots.items c.requires.can c.requires.free taken c.in_ok-logs.ensures.logs c.region.new.arg2 c.region.new.arg7.items c.region.result
    (λ ready logs. c.requires.runs.ran _ _ _ c.self.inside.forked _ _ _ _ _ refl ready logs c.region.ensures) c.in-Err.path c.in-Err.stop c.in-Err.is

pub returns-then-len-gt-TASK_LIMIT-clause-goes : goal.returns-then-len-gt-TASK_LIMIT-clause-goes
returns-then-len-gt-TASK_LIMIT-clause-goes g c =
    let taken = subst (λ (p : Progress). PutsRecord (event kind.Region c.args.team.now.line 0 c.args.team.now.span) c.args.self.now.hand.view c.args.self.now p) (sym c.self.view_is) c.in_ok-logs.ensures.takes in
    crowded c.args.world.now (team_of c.args.team.now) c.requires.line c.args.locals.now.slots.items c.requires.can c.requires.free taken c.in_ok-logs.ensures.logs c.region.new.arg2 c.region.new.arg7.items c.region.result
    (λ ready logs. c.requires.runs.ran _ _ _ c.self.inside.forked _ _ _ _ _ refl ready logs c.region.ensures) _ c.in_default.is (search rules)

pub returns-clause-goes : goal.returns-clause-goes
returns-clause-goes g c =
    let taken = subst (λ (p : Progress). PutsRecord (event kind.Region c.args.team.now.line 0 c.args.team.now.span) c.args.self.now.hand.view c.args.self.now p) (sym c.self.view_is) c.in_ok-logs.ensures.takes in
    made c.args.world.now (team_of c.args.team.now) c.requires.line c.args.locals.now.slots.items c.requires.can c.requires.free taken c.in_ok-logs.ensures.logs c.region.new.arg2 c.region.new.arg7.items c.region.result
    (λ ready logs. c.requires.runs.ran _ _ _ c.self.inside.forked _ _ _ _ _ refl ready logs c.region.ensures) _ c.in_default.is (search rules)
