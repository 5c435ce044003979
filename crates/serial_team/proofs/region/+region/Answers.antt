use Rattle.std.proofs.Common.{◌≡◌, ◌<◌, ◌+◌, ◌∙◌, ℕ, List, ap, sym, subst, refl, arith, length, get_or, Option, Some, Result, map, take, drop}
use Rattle.std.specs.Prelude.{IfOk, IsErr, slice_set}
use Rattle.std.proofs.lemmas.List.{drop_all, drop_more, length-map, length-set, get_or-set_other}
use Rattle.std.proofs.lemmas.Result.{err_from_is_err_and}
use Rattle.std.proofs.lemmas.List.Elements.{All-map}
use Rattle.sw_base.specs.declared.path.Step.{Step}
use Rattle.kernel_syntax.specs.declared.syntax.Array.{Array}
use Rattle.kernel_syntax.specs.Program.{team_of}
use Rattle.kernel_model.specs.Value.{Site}
use Rattle.serial_run.specs.declared.frame.Pause.{Pause}
use Rattle.serial_run.specs.Placing.{ElementLayout, TellsWords}
use Rattle.serial_run.specs.Stepping.{PausesAt, stand}
use Rattle.serial_team.specs.declared.member.Member.{Member}
use Rattle.serial_team.specs.declared.member.Stage.{Stage}
use Rattle.serial_team.specs.declared.member.Stage.TheVariants as stage
use Rattle.serial_team.specs.declared.stop.Stop.{Stop}
use Rattle.kernel_model.specs.declared.stop.StopWhy.TheVariants as reason
use Rattle.serial_team.specs.Stopping.{StopsPast, IfStopped, LaneLong, LaneStopped, LongBelow, PhasesLong, PhasesStopped, RegionLong, RegionStopped, StopsBelow, TeamWent}
use Rattle.serial_team.proofs.Stopped.{TeamFromSo, TeamLongFrom, TeamCame, came_runs, came_stops, long_here, long_in_region, phases_stop_here, phases_stop_more, so_ends, stop_so, told_is_err, stops_in_region, stops_more, stops_past_region, stops_too_many}
use Rattle.serial_team.specs.Members.{BeginTeam, Pool, whole_log, MemberValue, all_idle, idle_member, later, path_in, pool, seen}
use Rattle.serial_team.specs.Running.{GoesTo, RanBelow, DidPhase, RanTo}
use Rattle.serial_team.proofs.Going.{arrays_at, goes_more, goes_past_region, if_err, if_then, ran_to_barrier, ran_to_end, value_of}
use Rattle.serial_team.proofs.Phases.{PhaseFrom, phase_ends, phase_more, phases_last, phases_more}
use Rattle.serial_team.proofs.region.+region.Goals as goal
use Rattle.serial_team.proofs.region.+region.Goals.{run_phase-in-Err+else-not-is_of_task, run_phase-in_default}

pub advance-returns-in-Barrier : goal.advance-returns-in-Barrier
advance-returns-in-Barrier t c =
    let x = seen c.args.memory.now c.args.member.now in
    let s = stand c.resume.new.self.lane c.resume.new.memory in
    let same : seen c.resume.new.memory c.resume.new.self ≡ record x { stand = s } = ap (λ (m : Member). seen c.resume.new.memory m) c.resume.ensures.others in
    record {
      goes = λ layout tells own.
          let at = subst (λ (p : Pause). PausesAt layout x.stand s p) c.in-Barrier.is (c.in_ok-resume.ensures.pauses layout (subst (λ (l : List Array). TellsWords l layout) (sym own) tells)) in
          subst (λ (v : MemberValue). RanTo layout c.args.path.now x (record v { stage = stage.Waits })) (sym same) (ran_to_barrier layout c.args.path.now x s at.0 at.1);
      onward = λ layout tells own. tt;
      stops = λ layout tells own. tt;
    }

pub advance-returns-in-Ended : goal.advance-returns-in-Ended
advance-returns-in-Ended t c =
    let x = seen c.args.memory.now c.args.member.now in
    let s = stand c.resume.new.self.lane c.resume.new.memory in
    let same : seen c.resume.new.memory c.resume.new.self ≡ record x { stand = s } = ap (λ (m : Member). seen c.resume.new.memory m) c.resume.ensures.others in
    record {
      goes = λ layout tells own.
          let at = subst (λ (p : Pause). PausesAt layout x.stand s p) c.in-Ended.is (c.in_ok-resume.ensures.pauses layout (subst (λ (l : List Array). TellsWords l layout) (sym own) tells)) in
          subst (λ (v : MemberValue). RanTo layout c.args.path.now x (record v { stage = stage.Ended })) (sym same) (ran_to_end layout c.args.path.now x s at);
      onward = λ layout tells own. tt;
      stops = λ layout tells own. tt;
    }

pub advance-returns-in_ok-fork-in-Fork : goal.advance-returns-in_ok-fork-in-Fork
advance-returns-in_ok-fork-in-Fork t c =
    let x = seen c.args.memory.now c.args.member.now in
    let s = stand c.resume.new.self.lane c.resume.new.memory in
    let z = seen c.fork.new.memory c.fork.new.member in
    let team = team_of c.in-Fork.team.now in
    let same : seen c.resume.new.memory c.resume.new.self ≡ record x { stand = s } = ap (λ (m : Member). seen c.resume.new.memory m) c.resume.ensures.others in
    let at = λ (layout : ElementLayout) (tells : TellsWords c.args.arrays.now layout) (own : c.args.member.now.lane.place.arrays ≡ c.args.arrays.now).
    subst (λ (p : Pause). PausesAt layout x.stand s p) c.in-Fork.is (c.in_ok-resume.ensures.pauses layout (subst (λ (l : List Array). TellsWords l layout) (sym own) tells)) in
    let below = λ (layout : ElementLayout) (tells : TellsWords c.args.arrays.now layout).
    subst (λ (v : MemberValue). RanBelow layout c.args.path.now team c.args.arrays.now v z) same (c.in_ok-fork-in-Fork.ensures.ran layout tells) in
    record {
      goes = λ layout tells own.
          goes_past_region layout c.args.path.now x s team z c.args.arrays.now (below layout tells) (ap (λ (w : Site). w.arrays) (at layout tells own).at ∙ own) (at layout tells own);
      onward = λ layout tells own.
          stops_past_region layout c.args.path.now x s team z c.args.arrays.now (below layout tells) (ap (λ (w : Site). w.arrays) (at layout tells own).at ∙ own) (at layout tells own);
      stops = λ layout tells own. tt;
    }

pub go-returns-in-Some : goal.go-returns-in-Some
go-returns-in-Some t c = record {
  ran = λ layout tells own.
      let mid = seen c.steps.memory c.steps.member in
      let new = seen c.advance.new.memory c.advance.new.member in
      let before = c.steps.invariant.goes layout tells own in
      before.then' (record new { stage = c.in-Some.stage })
      (subst (λ (o : Option Stage). GoesTo layout c.args.path.now mid new o) c.in-Some.is (c.in_ok-stage.ensures.goes layout tells (ap (λ (w : Site). w.arrays) before.at ∙ own)));
  stops = λ layout tells own. tt;
}

pub go-steps-preserved : goal.go-steps-preserved
go-steps-preserved t c = record {
  goes = λ layout tells own.
      let x = seen c.args.memory.now c.args.member.now in
      let mid = seen c.steps.memory c.steps.member in
      let new = seen c.advance.new.memory c.advance.new.member in
      let before = c.steps.invariant.goes layout tells own in
      goes_more layout c.args.path.now x mid new before
      (subst (λ (o : Option Stage). GoesTo layout c.args.path.now mid new o) c.in_default.is (c.in_ok-stage.ensures.goes layout tells (ap (λ (w : Site). w.arrays) before.at ∙ own)));
  stops = λ layout tells own.
      let mid = seen c.steps.memory c.steps.member in
      let new = seen c.advance.new.memory c.advance.new.member in
      let before = c.steps.invariant.goes layout tells own in
      stops_more layout c.args.path.now (seen c.args.memory.now c.args.member.now) mid new (c.steps.invariant.stops layout tells own)
      (subst (λ (o : Option Stage). StopsPast layout c.args.path.now mid new o) c.in_default.is (c.in_ok-stage.ensures.onward layout tells (ap (λ (w : Site). w.arrays) before.at ∙ own)));
}

-- a lane that stopped is the one that stood there when the phase began
stopped_here : (layout : ElementLayout) (at : List Step) (number : ℕ) (q after : Pool) (e : Stop) (path : List Step) (m old : Member) → m ≡ old → path ≡ path_in at number (idle_member old)
    → IfStopped (LaneStopped layout path (later (idle_member m) q) after) (LaneLong layout path (later (idle_member m) q)) e
    → IfStopped (LaneStopped layout (path_in at number (idle_member old)) (later (idle_member old) q) after) (LaneLong layout (path_in at number (idle_member old)) (later (idle_member old) q)) e
stopped_here layout at number q after e path m old here path_is s =
    subst (λ (x : Member). IfStopped (LaneStopped layout (path_in at number (idle_member old)) (later (idle_member x) q) after) (LaneLong layout (path_in at number (idle_member old)) (later (idle_member x) q)) e) here
    (subst (λ (l : List Step). IfStopped (LaneStopped layout l (later (idle_member m) q) after) (LaneLong layout l (later (idle_member m) q)) e) path_is s)

pub run_phase-loop-member-preserved : goal.run_phase-loop-member-preserved
run_phase-loop-member-preserved t c =
    let inv = c.loop-member.invariant in
    let old = c.args.members.now in
    let now = c.loop-member.members in
    let n = c.loop-member.member-index in
    let item = c.member-item.result in
    let after = c.go.new.member in
    let within : n < length old = omega (arith, c.loop-member-test.true, inv.long) in
    let here : get_or now n item ≡ get_or old n item = inv.rest n item (omega arith) in
    let y = seen c.go.new.memory after in
    record {
      long = length-set now n after ∙ inv.long;
      rest = λ k d less. get_or-set_other now n k after d (omega arith) ∙ inv.rest k d (omega arith);
      ran = λ layout tells have.
          let So = PhaseFrom layout c.args.at.now c.args.number (all_idle old) (all_idle (drop n old)) (pool c.args.memory.now) (all_idle (take n now)) (pool c.loop-member.memory) in
          let Next = PhaseFrom layout c.args.at.now c.args.number (all_idle old) (all_idle (drop (n + 1) old)) (pool c.args.memory.now) (all_idle (take (n + 1) (slice_set now n after))) (pool c.go.new.memory) in
          let own : (get_or now n item).lane.place.arrays ≡ c.args.arrays.now = ap (λ (m : Member). m.lane.place.arrays) here ∙ arrays_at c.args.arrays.now old n item within have in
          elim c.match-go.branch [
            | run_phase-in-Err+else-not-is_of_task w ↦ subst (λ (r : Result (Unit {0}) Stop). IfOk r (λ _. Next)) (sym w.first-is) (if_err w.first_stop-first.result Next (subst (λ (r : Result (Unit {0}) Stop). IsErr r) (sym w.first_stop-first.ensures) (told_is_err c.loop-member.first w.in-Err.stop)))
            | run_phase-in_default w ↦
                let ran : RanTo layout c.path-path.result (seen c.loop-member.memory (get_or now n item)) y = value_of c.go.result (RanTo layout c.path-path.result (seen c.loop-member.memory (get_or now n item)) y) w.in_default.not-Err (c.go.ensures.ran layout tells own) in
                let path : c.path-path.result ≡ path_in c.args.at.now c.args.number (idle_member (get_or old n item)) = c.path-path.ensures ∙ ap (λ (m : Member). path_in c.args.at.now c.args.number (idle_member m)) here in
                let ran_here = subst (λ (m : Member). RanTo layout (path_in c.args.at.now c.args.number (idle_member (get_or old n item))) (later (idle_member m) (pool c.loop-member.memory)) y) here
                (subst (λ (p : List Step). RanTo layout p (seen c.loop-member.memory (get_or now n item)) y) path ran) in
                subst (λ (r : Result (Unit {0}) Stop). IfOk r (λ _. Next)) (sym w.first-is)
                (if_then c.loop-member.first So Next (λ so. phase_more layout c.args.at.now c.args.number old now (pool c.args.memory.now) (pool c.loop-member.memory) n item after within inv.long so y ran_here refl)
                (inv.ran layout tells have))
          ];
      came = λ layout tells have.
          let x = idle_member (get_or old n item) in
          let left = all_idle (drop (n + 1) old) in
          let p = pool c.args.memory.now in
          let q = pool c.loop-member.memory in
          let own : (get_or now n item).lane.place.arrays ≡ c.args.arrays.now = ap (λ (m : Member). m.lane.place.arrays) here ∙ arrays_at c.args.arrays.now old n item within have in
          let path : c.path-path.result ≡ path_in c.args.at.now c.args.number x = c.path-path.ensures ∙ ap (λ (m : Member). path_in c.args.at.now c.args.number (idle_member m)) here in
          let so = subst (λ (us : List MemberValue). TeamCame layout c.args.at.now c.args.number (all_idle old) us p q c.loop-member.first) (ap all_idle (drop_more old n item within)) (inv.came layout tells have) in
          elim c.match-go.branch [
            | run_phase-in-Err+else-not-is_of_task w ↦
                let e = w.in-Err.stop in
                let now_at = pool c.go.new.memory in
                subst (λ (r : Result (Unit {0}) Stop). TeamCame layout c.args.at.now c.args.number (all_idle old) left p now_at r) (sym (w.first-is ∙ w.first_stop-first.ensures))
                (came_stops layout c.args.at.now c.args.number (all_idle old) left x p q c.loop-member.first now_at e so
                (stopped_here layout c.args.at.now c.args.number q now_at e c.path-path.result (get_or now n item) (get_or old n item) here path (w.in-Err.ensures.stops layout tells own))
                (sym w.is_of_task.ensures ∙ w.if-not-is_of_task.false))
            | run_phase-in_default w ↦
                let ran : RanTo layout c.path-path.result (seen c.loop-member.memory (get_or now n item)) y = w.in_default.ensures.ran layout tells own in
                subst (λ (r : Result (Unit {0}) Stop). TeamCame layout c.args.at.now c.args.number (all_idle old) left p (pool c.go.new.memory) r) (sym w.first-is)
                (came_runs layout c.args.at.now c.args.number (all_idle old) left x p q c.loop-member.first y so
                (subst (λ (m : Member). RanTo layout (path_in c.args.at.now c.args.number x) (later (idle_member m) q) y) here
                (subst (λ (l : List Step). RanTo layout l (seen c.loop-member.memory (get_or now n item)) y) path ran)))
          ];
    }

pub run_phase-returns : goal.run_phase-returns
run_phase-returns t c =
    let inv = c.loop-member.invariant in
    let old = c.args.members.now in
    let now = c.loop-member.members in
    let n = c.loop-member.member-index in
    record {
      ran = λ layout tells have.
          if_then c.loop-member.first (PhaseFrom layout c.args.at.now c.args.number (all_idle old) (all_idle (drop n old)) (pool c.args.memory.now) (all_idle (take n now)) (pool c.loop-member.memory))
          (DidPhase layout c.args.at.now c.args.number (all_idle old) (pool c.args.memory.now) (all_idle now) (pool c.loop-member.memory))
          (phase_ends layout c.args.at.now c.args.number old (pool c.args.memory.now) now (pool c.loop-member.memory) n (omega (arith, c.loop-member-test.false, inv.long)) inv.long)
          (inv.ran layout tells have);
      stops = λ layout tells have.
          so_ends layout c.args.at.now c.args.number (all_idle old) (pool c.args.memory.now) (pool c.loop-member.memory) c.loop-member.first
          (subst (λ (us : List MemberValue). TeamFromSo layout c.args.at.now c.args.number (all_idle old) us (pool c.args.memory.now) (pool c.loop-member.memory) c.loop-member.first)
          (ap all_idle (drop_all n old (omega (arith, c.loop-member-test.false, inv.long)))) (inv.came layout tells have).goes);
    }

pub run_phases-returns-then-all_at : goal.run_phases-returns-then-all_at
run_phases-returns-then-all_at t c = record {
  ran = λ layout tells have.
      let from = c.phases.invariant.ran layout tells have in
      phases_last layout c.args.arrays.now c.args.at.now c.args.number (all_idle c.args.members.now) (pool c.args.memory.now) (all_idle c.phases.members) (all_idle c.run_phase.new.members) (pool c.phases.memory) (pool c.run_phase.new.memory) from
      (c.in_ok-run_phase.ensures.ran layout tells from.have)
      (All-map (λ (z : MemberValue). z.stage ≡ stage.Ended) idle_member c.run_phase.new.members (c.all_at.ensures c.if-all_at.true));
  stops = λ layout tells have. tt;
}

pub run_phases-phases-preserved : goal.run_phases-phases-preserved
run_phases-phases-preserved t c = record {
  ran = λ layout tells have.
      let from = c.phases.invariant.ran layout tells have in
      phases_more layout c.args.arrays.now c.args.at.now c.args.number (all_idle c.args.members.now) (pool c.args.memory.now) (all_idle c.phases.members) (all_idle c.run_phase.new.members) (pool c.phases.memory) (pool c.run_phase.new.memory) from
      (c.in_ok-run_phase.ensures.ran layout tells from.have)
      (All-map (λ (z : MemberValue). z.stage ≡ stage.Waits) idle_member c.run_phase.new.members (c.all_at-in-phases.ensures c.if-not-all_at.false));
  stops = λ layout tells have.
      let from = c.phases.invariant.ran layout tells have in
      phases_stop_more layout c.args.at.now c.args.number (all_idle c.args.members.now) (all_idle c.phases.members) (all_idle c.run_phase.new.members) (pool c.args.memory.now) (pool c.phases.memory) (pool c.run_phase.new.memory)
      (c.phases.invariant.stops layout tells have) (c.in_ok-run_phase.ensures.ran layout tells from.have)
      (All-map (λ (z : MemberValue). z.stage ≡ stage.Waits) idle_member c.run_phase.new.members (c.all_at-in-phases.ensures c.if-not-all_at.false));
}

-- ---- stops

pub advance-returns-in_err-resume-clause-stops : goal.advance-returns-in_err-resume-clause-stops
advance-returns-in_err-resume-clause-stops t c =
    let p = err_from_is_err_and c.from_residual.result c.from_residual.ensures.1 in
    λ layout tells own. rw (p.1, p.2) (c.in_err-resume.ensures.stops layout (subst (λ (l : List Array). TellsWords l layout) (sym own) tells))

pub advance-returns-in_err-fork-in-Fork-clause-stops : goal.advance-returns-in_err-fork-in-Fork-clause-stops
advance-returns-in_err-fork-in-Fork-clause-stops t c =
    let p = err_from_is_err_and c.from_residual-in_err-fork-in-Fork.result c.from_residual-in_err-fork-in-Fork.ensures.1 in
    let x = seen c.args.memory.now c.args.member.now in
    let s = stand c.resume.new.self.lane c.resume.new.memory in
    let there = seen c.resume.new.memory c.resume.new.self in
    let team = team_of c.in-Fork.team.now in
    let now = pool c.fork.new.memory in
    let same : record there { stand = x.stand } ≡ x = ap (λ (m : Member). record (seen c.resume.new.memory m) { stand = x.stand }) c.resume.ensures.others in
    λ layout tells own.
    let at = subst (λ (q : Pause). PausesAt layout x.stand s q) c.in-Fork.is (c.in_ok-resume.ensures.pauses layout (subst (λ (l : List Array). TellsWords l layout) (sym own) tells)) in
    rw (p.1, p.2)
    (stop_so (StopsBelow layout c.args.path.now team there now) (LaneStopped layout c.args.path.now x now) (LongBelow layout c.args.path.now team there) (LaneLong layout c.args.path.now x) c.in_err-fork-in-Fork.field-0.0
    (λ first f. subst (λ (v : MemberValue). LaneStopped layout c.args.path.now v now first) same (f x.stand at))
    (λ long f. subst (λ (v : MemberValue). LaneLong layout c.args.path.now v long) same (f x.stand at))
    (c.in_err-fork-in-Fork.ensures.stops layout tells (ap (λ (w : Site). w.arrays) at.at ∙ own)))

pub fork-returns-in_err-region-clause-stops : goal.fork-returns-in_err-region-clause-stops
fork-returns-in_err-region-clause-stops t c =
    let p = err_from_is_err_and c.from_residual.result c.from_residual.ensures.1 in
    let x = seen c.args.memory.now c.args.member.now in
    let team = team_of c.args.team.now in
    let now = pool c.region.new.memory in
    λ layout tells own.
    rw (p.1, p.2)
    (stop_so (RegionStopped layout c.args.arrays.now team x.stand.slots c.args.path.now x.forked (pool c.args.memory.now) now) (StopsBelow layout c.args.path.now team x now)
    (RegionLong layout c.args.arrays.now team x.stand.slots c.args.path.now x.forked (pool c.args.memory.now)) (LongBelow layout c.args.path.now team x) c.in_err-region.field-0.0
    (stops_in_region layout c.args.path.now x team c.args.arrays.now own (let deep = c.requires.deep in let some = c.if-depth-eq0.false in omega arith) now)
    (long_in_region layout c.args.path.now x team c.args.arrays.now own (let deep = c.requires.deep in let some = c.if-depth-eq0.false in omega arith) now)
    (c.in_err-region.ensures.stops layout tells))

pub fork-returns-then-len-gt-TASK_LIMIT-clause-stops : goal.fork-returns-then-len-gt-TASK_LIMIT-clause-stops
fork-returns-then-len-gt-TASK_LIMIT-clause-stops t c =
    let x = seen c.args.memory.now c.args.member.now in
    let team = team_of c.args.team.now in
    let now = pool c.region.new.memory in
    let logs = map whole_log c.region.new.done.items in
    λ layout tells own.
    subst (λ (q : List Step). StopsBelow layout c.args.path.now team x now (record { path = q; line = team.line; why = reason.Tasks })) (sym c.copy.ensures.same)
    (stops_too_many layout c.args.path.now x team c.args.arrays.now own (let deep = c.requires.deep in let some = c.if-depth-eq0.false in omega arith) now logs (c.in_ok-region.ensures.ran layout tells)
    (omega (arith, c.if-len-gt-TASK_LIMIT.true, c.len.ensures, length-map c.region.new.done.items whole_log)))

pub go-returns-in_err-stage-clause-stops : goal.go-returns-in_err-stage-clause-stops
go-returns-in_err-stage-clause-stops t c =
    let p = err_from_is_err_and c.from_residual.result c.from_residual.ensures.1 in
    let x = seen c.args.memory.now c.args.member.now in
    let mid = seen c.steps.memory c.steps.member in
    let now = pool c.advance.new.memory in
    λ layout tells own.
    let before = c.steps.invariant.goes layout tells own in
    rw (p.1, p.2)
    (stop_so (LaneStopped layout c.args.path.now mid now) (LaneStopped layout c.args.path.now x now) (LaneLong layout c.args.path.now mid) (LaneLong layout c.args.path.now x) c.in_err-stage.field-0.0
    ((c.steps.invariant.stops layout tells own).stops now) (c.steps.invariant.stops layout tells own).runs_out
    (c.in_err-stage.ensures.stops layout tells (ap (λ (w : Site). w.arrays) before.at ∙ own)))

pub region-returns-in_err-run_phases-clause-stops : goal.region-returns-in_err-run_phases-clause-stops
region-returns-in_err-run_phases-clause-stops t c =
    let p = err_from_is_err_and c.from_residual-in_err-run_phases.result c.from_residual-in_err-run_phases.ensures.1 in
    let xs = all_idle c.deref_mut.result.now in
    let team = team_of c.args.team.now in
    let begin = subst (λ (ms : List Member). BeginTeam c.args.arrays.now team c.args.locals.now.slots.items (all_idle ms)) (sym c.deref_mut.ensures.value) c.in_ok-members.ensures.begins in
    let old = pool c.args.memory.now in
    let now = pool c.run_phases.new.memory in
    λ layout tells.
    rw (p.1, p.2)
    (stop_so (PhasesStopped layout c.args.at.now c.args.number xs old now) (RegionStopped layout c.args.arrays.now team c.args.locals.now.slots.items c.args.at.now c.args.number old now)
    (PhasesLong layout c.args.at.now c.args.number xs old) (RegionLong layout c.args.arrays.now team c.args.locals.now.slots.items c.args.at.now c.args.number old) c.in_err-run_phases.field-0.0
    (λ first s. record { before = xs; begin = begin; stopped = s }) (λ long l. record { before = xs; begin = begin; runs_out = l })
    (c.in_err-run_phases.ensures.stops layout tells (λ k d less. ap (λ (w : Site). w.arrays) (begin.each k d (omega (arith, less, begin.count))).at)))

pub run_phases-returns-in_err-run_phase-clause-stops : goal.run_phases-returns-in_err-run_phase-clause-stops
run_phases-returns-in_err-run_phase-clause-stops t c =
    let p = err_from_is_err_and c.from_residual.result c.from_residual.ensures.1 in
    λ layout tells have.
    let from = c.phases.invariant.ran layout tells have in
    rw (p.1, p.2)
    (phases_stop_here layout c.args.at.now c.args.number (all_idle c.args.members.now) (all_idle c.phases.members) (pool c.args.memory.now) (pool c.phases.memory) (pool c.run_phase.new.memory) c.in_err-run_phase.field-0.0
    (c.phases.invariant.stops layout tells have) (c.in_err-run_phase.ensures.stops layout tells from.have))

pub run_phase-returns-then-not-is_of_task-clause-stops : goal.run_phase-returns-then-not-is_of_task-clause-stops
run_phase-returns-then-not-is_of_task-clause-stops t c = λ layout tells have.
    let inv = c.loop-member.invariant in
    let old = c.args.members.now in
    let now = c.loop-member.members in
    let n = c.loop-member.member-index in
    let item = c.member-item.result in
    let within : n < length old = omega (arith, c.loop-member-test.true, inv.long) in
    let here : get_or now n item ≡ get_or old n item = inv.rest n item (omega arith) in
    let x = idle_member (get_or old n item) in
    let p = pool c.args.memory.now in
    let q = pool c.loop-member.memory in
    let e = c.in-Err.stop in
    let now_at = pool c.go.new.memory in
    let own : (get_or now n item).lane.place.arrays ≡ c.args.arrays.now = ap (λ (m : Member). m.lane.place.arrays) here ∙ arrays_at c.args.arrays.now old n item within have in
    let path : c.path-path.result ≡ path_in c.args.at.now c.args.number x = c.path-path.ensures ∙ ap (λ (m : Member). path_in c.args.at.now c.args.number (idle_member m)) here in
    let from = subst (λ (us : List MemberValue). TeamLongFrom layout c.args.at.now c.args.number (all_idle old) us p q) (ap all_idle (drop_more old n item within)) (inv.came layout tells have).runs_out in
    long_here layout c.args.at.now c.args.number (all_idle old) (all_idle (drop (n + 1) old)) x p q now_at e (λ first. TeamWent layout c.args.at.now c.args.number (all_idle old) p now_at (Some first)) from
    (stopped_here layout c.args.at.now c.args.number q now_at e c.path-path.result (get_or now n item) (get_or old n item) here path (c.in-Err.ensures.stops layout tells own))
    (sym c.is_of_task.ensures ∙ c.if-not-is_of_task.true)
