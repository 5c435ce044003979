use Rattle.std.proofs.Common.{rules, ◌≡◌, ◌∙◌, ap, subst, sym, arith, ℕ, ◌+◌, ◌-◌, ◌<◌, List, length, map, slice_index_or, refl, [], None, Some, Err, false}
use Rattle.sw_base.specs.declared.environment.Log.{Ghosts}
use Rattle.sw_base.specs.declared.path.Step.{Step}
use Rattle.kernel_syntax.specs.Tree.{TeamTree}
use Rattle.shared_words.specs.Handles.{WordsValue, Belongs, HandValue}
use Rattle.lane_runner.specs.Children.{AreNewLogs}
use Rattle.lane_runner.specs.Handed.{entries_of, log_place}
use Rattle.lane_runner.specs.Forking.{IsReady, RanRegion}
use Rattle.region_runner.specs.LastPhase.{IsLast}
use Rattle.region_runner.specs.Crew.{CrewValue, world_of}
use Rattle.region_runner.specs.Lawful.{IsTeam, IsLawfulPhase}
use Rattle.region_runner.proofs.Forks.{phase_forks}
use Rattle.std.specs.Prelude.{slice_index_or, List, Vec}
use Rattle.lane_runner.specs.Lane.{Executed, LaneValue}
use Rattle.lane_runner.specs.World.{WorldValue}
use Rattle.region_runner.specs.Plan.{items_at, plan_of, team_of_plan}
use Rattle.region_runner.proofs.Plans.{last_in, stands_first}
use Rattle.region_runner.proofs.Meetings.{begun, ran_bare, team_begins, team_ends}
use Rattle.shared_words.specs.declared.view.View.{View}
use Rattle.std.proofs.lemmas.List.{get_or_default}
use Rattle.std.proofs.lemmas.Option.{same_Some}
use Rattle.kernel_model.specs.declared.phase.Item.{Item}
use Rattle.kernel_model.specs.Parts.{run_parts}
use Rattle.kernel_model.specs.Phases.{parts_in}
use Rattle.region_runner.specs.Stands.{TeamClosed}
use Rattle.std.specs.Global.{Global}
use Rattle.race_model.specs.Listing.{lane_of}
use Rattle.shared_words.specs.declared.share.Share.{Share}
use Rattle.kernel_syntax.specs.Program.{team_of}
use Rattle.kernel_model.specs.State.{State}
use Rattle.kernel_model.specs.Trace.{run}
use Rattle.kernel_model.specs.Value.{Site}
use Rattle.kernel_rules.proofs.SameChunks.{same_chunks}
use Rattle.lane_runner.specs.declared.stop.Stop.{Stop}
use Rattle.region_runner.specs.Gathering.{ClosedValue, Gathered}
use Rattle.region_runner.specs.Opening.{AreLanes, AreTorn, lent_hand}
use Rattle.region_runner.proofs.LawfulPhases.{phases_lawful}
use Rattle.lane_runner.proofs.NoRegion.{no_memory_for}
use Rattle.region_runner.proofs.NoRegion.{torn_region}
use Rattle.region_runner.proofs.OpenedTeam.{lane_fresh, lane_ours}
use Rattle.region_runner.proofs.ReturnedHands.{head_of, team_returned, torn_returned}
use Rattle.region_runner.proofs.TeamRegion.{closed_region}
use Rattle.region_runner.proofs.region.+region.Goals.{region-in-Team, region-in-Torn, run_part-else-number-phases, run_part-then-number-phases}
use mir.Syntax.{of_param}
use denote.Exit.{unseen}
use denote.Param.Send.{IsSync, Quiet-if, sendable}
use Rattle.std.proofs.Crossing as heap
use Rattle.lane_runner.proofs.lane.Lane.TheSendSync as lane_row
use Rattle.region_runner.proofs.crew.Crew.TheSendSync as crew_row
use Rattle.region_runner.proofs.ground.Ground.TheSendSync as ground_row
use Rattle.region_runner.proofs.Crossing.{phase_sync}
use Rattle.region_runner.proofs.region.+region.Goals as goal

pub run_task-run_phase-requires-clause-runs : goal.run_task-run_phase-requires-clause-runs
run_task-run_phase-requires-clause-runs g n c κs within =
    let own = c.requires.own in
    let deep : length c.path-path.result + c.args.depth ≡ 4 = subst (λ (p : List Step). length p + c.args.depth ≡ 4) (sym c.path-path.ensures.is) own.deep in
    let in_log : length c.args.lane.now.buffer.path ≡ length c.args.lane.now.path = ap (λ (p : List Step). length p) own.path_is in
    let mutexes = c.requires.phase.mutexes in
    let seen : Ghosts g.row.L.Denot = g.L.Log in
    phase_forks (world_of c.args.crew.now c.args.index) _ _ _ _ c.args.lane.now.buffer mutexes (4 - c.args.depth) c.args.phase.now c.world-world.ensures c.requires.phase.lawful
    (λ team inner. record {
      path = let d = own.deep in let i = inner.deeper in omega (arith, d, i, in_log);
      runs = record {
        accepted = λ hand locals number logs given done is ready new. (
          (let d = c.decreases in let i = inner.deeper in omega (arith, d, i)),
          (
            λ a m. m,
            (
              λ a m. m,
              (
                λ a m. m,
                (
                  (search rules),
                  (
                    (search rules),
                    (
                      ((search rules), (search rules), (search rules)),
                      (
                        ((search rules), (search rules)),
                        (
                          (let i = inner.deeper in omega (arith, i)),
                          (
                            deep,
                            (
                              record {
                                mutexes = mutexes;
                                locks = c.requires.phase.locks;
                                lawful = subst (λ (t : TeamTree). IsTeam mutexes (length c.path-path.result + 1) t) (sym is)
                                    (subst (λ (n : ℕ). IsTeam mutexes n team) (let e : 4 - c.args.depth + 1 ≡ length c.path-path.result + 1 = omega (arith, deep) in e) inner.lawful);
                              },
                              (
                                subst (λ (words : WordsValue). IsReady hand.now words) (ap (λ (v : CrewValue). v.words) c.requires.crew) ready,
                                (
                                  record {
                                    task = c.args.lane.now.buffer;
                                    path_is = own.path_is ∙ sym c.path-path.ensures.is;
                                    size_is = own.size_is;
                                    new = subst (λ (t : TeamTree). AreNewLogs {T = g.row.L.Denot} seen c.args.lane.now.buffer number t.span logs.items) (sym is) new;
                                  },
                                  ((search rules), (search rules), (search rules), (search rules)),
                                ),
                              ),
                            ),
                          ),
                        ),
                      ),
                    ),
                  ),
                ),
              ),
            ),
          ),
        );
        ran = λ hand after locals number logs given done now_done r is ready new gives.
            subst (λ (t : TeamTree). RanRegion (world_of c.args.crew.now c.args.index) t locals.now.slots.items c.args.lane.now.buffer number hand.now after.now (entries_of {T = g.row.L.Denot} seen done.now.items) (entries_of {T = g.row.L.Denot} seen now_done.now.items) r) is
            (gives.1 (world_of c.args.crew.now c.args.index) c.args.lane.now.buffer (ap (λ (v : CrewValue). v.arrays) c.requires.crew) (own.path_is ∙ sym c.path-path.ensures.is) own.size_is
            (subst (λ (t : TeamTree). AreNewLogs {T = g.row.L.Denot} seen c.args.lane.now.buffer number t.span logs.items) (sym is) new));
      };
    })

pub run_task-put_end-requires-clause-line : goal.run_task-put_end-requires-clause-line
run_task-put_end-requires-clause-line g n c κs within = λ line is. (c.requires.last line is).some

pub run_task-put_end-requires-clause-there : goal.run_task-put_end-requires-clause-there
run_task-put_end-requires-clause-there g n c κs within = λ goes. (c.run_phase.ensures.executed.can goes).belongs.there

pub run_task-put_end-requires-clause-unrefused : goal.run_task-put_end-requires-clause-unrefused
run_task-put_end-requires-clause-unrefused g n c κs within = λ goes. (c.run_phase.ensures.executed.can goes).unrefused

pub run_task-returns : goal.run_task-returns
run_task-returns g n c = record {
  went =
      c.put_end.ensures.went (world_of c.args.crew.now c.args.index) c.args.phase.now c.args.lane.now c.requires.can.can c.requires.last
      (subst (λ (w : WorldValue). Executed w c.args.phase.now c.args.lane.now c.run_phase.new.self) c.world-world.ensures c.run_phase.ensures.executed);
}

pub run_part-run_task-requires-clause-last : goal.run_part-run_task-requires-clause-last
run_part-run_task-requires-clause-last g n c κs within = λ line is.
    let plan = plan_of c.args.ground.now c.args.depth c.args.crew.now c.args.phases.now c.args.end in
    let same : items_at plan c.args.number ≡ c.index-phases-number.result =
    get_or_default c.args.phases.now c.args.number [] c.index-phases-number.result c.requires.may.within ∙ sym c.index-phases-number.is in
    elim c.if-number-phases.branch [
      | run_part-then-number-phases w ↦
          subst (λ (l : ℕ). IsLast c.index-phases-number.result l) (same_Some c.args.end line (sym w.line-is ∙ is))
          (subst (λ (items : List Item). IsLast items c.args.end) same (last_in plan c.requires.plan c.args.number c.requires.may.within (omega (arith, w.if-number-phases.true))))
      | run_part-else-number-phases w ↦ absurd (no_end (sym w.line-is ∙ is))
    ]
  where
    no_end : {l : ℕ} → None ≡ Some l → ⊥
    no_end e = cc

pub run_phases-go_through-home-requires-sync-T : goal.run_phases-go_through-home-requires-sync-T
run_phases-go_through-home-requires-sync-T g n c κs within =
    let sync : IsSync g.row.R = record { shared = c.requires.shared.shared } in
    let gate : IsSync g.row.G = record { shared = c.requires.gate_shared.shared } in
    search (sendable, heap.crosses, ground_row.the_sync, crew_row.the_sync, phase_sync) depth 40

pub run_phases-go_through-home-requires-send-M : goal.run_phases-go_through-home-requires-send-M
run_phases-go_through-home-requires-send-M g n c κs within =
    let lanes = lane_row.the_send _ g.L.Log c.requires.lanes_sent in
    record { owned = lanes.owned; leaving = λ k. Quiet-if (k (of_param 1)) unseen unseen (λ x w. tt) (λ x w. tt) }

pub run_phases-go_through-home-requires-clause-does : goal.run_phases-go_through-home-requires-clause-does
run_phases-go_through-home-requires-clause-does g n c κs within = record {
  tasks = record {
    accepted = λ number index lane may. (
      (let d = c.decreases in omega (arith, d)),
      (
        λ a m. m,
        (
          λ a m. m,
          (
            λ a m. m,
            (
              c.requires.lives.1,
              (
                c.requires.lives.1,
                (
                  c.requires.lives.0,
                  (
                    c.requires.lives.1,
                    (
                      (
                        record { shared = c.requires.shared.shared },
                        record { owned = c.requires.sent.owned; leaving = c.requires.sent.leaving },
                        record { owned = c.requires.lanes_sent.owned; leaving = c.requires.lanes_sent.leaving },
                      ),
                      (
                        (c.requires.lives.0, c.requires.lives.1),
                        (
                          c.requires.begin.plan,
                          (
                            may,
                            (
                              record { owned = c.requires.sent.owned; leaving = c.requires.sent.leaving },
                              record { owned = c.requires.lanes_sent.owned; leaving = c.requires.lanes_sent.leaving },
                              record { shared = c.requires.shared.shared },
                              record { shared = c.requires.gate_shared.shared },
                            ),
                          ),
                        ),
                      ),
                    ),
                  ),
                ),
              ),
            ),
          ),
        ),
      ),
    );
    done = λ number index lane after may gave. gave;
  };
  begins =
      team_begins (team_of_plan (plan_of c.args.ground.now c.args.depth c.args.crew.now c.args.phases.now c.args.end) c.replace-own.result (map (λ (m : LaneValue). m) c.args.lanes.items))
      (begun (plan_of c.args.ground.now c.args.depth c.args.crew.now c.args.phases.now c.args.end) c.args.hand.now c.replace-own.result c.args.lanes.items c.replace-own.ensures.value c.requires.begin) (length c.args.lanes.items) c.requires.begin.count
      (
      λ hand lanes belongs count. (
        c.requires.lives.1,
        (c.requires.lives.1, (belongs, (count, (record { owned = c.requires.lanes_sent.owned; leaving = λ k. Quiet-if (k (of_param 0)) unseen unseen (λ x w. tt) (λ x w. tt) }, record { shared = c.requires.gate_shared.shared })))),
      )) (λ hand after lanes lanes' gave. gave);
  ends =
      team_ends (team_of_plan (plan_of c.args.ground.now c.args.depth c.args.crew.now c.args.phases.now c.args.end) c.replace-own.result (map (λ (m : LaneValue). m) c.args.lanes.items))
      (begun (plan_of c.args.ground.now c.args.depth c.args.crew.now c.args.phases.now c.args.end) c.args.hand.now c.replace-own.result c.args.lanes.items c.replace-own.ensures.value c.requires.begin) (length c.args.lanes.items) c.requires.begin.count
      (
      λ hand lanes belongs home. (
        c.requires.lives.1,
        (c.requires.lives.1, (belongs, (home, (record { owned = c.requires.lanes_sent.owned; leaving = λ k. Quiet-if (k (of_param 0)) unseen unseen (λ x w. tt) (λ x w. tt) }, record { shared = c.requires.gate_shared.shared })))),
      )) (λ hand after lanes lanes' goes gave. gave);
}

pub run_phases-go_through-home-requires-clause-stands : goal.run_phases-go_through-home-requires-clause-stands
run_phases-go_through-home-requires-clause-stands g n c κs within =
    stands_first (team_of_plan (plan_of c.args.ground.now c.args.depth c.args.crew.now c.args.phases.now c.args.end) c.replace-own.result (map (λ (m : LaneValue). m) c.args.lanes.items))
    (begun (plan_of c.args.ground.now c.args.depth c.args.crew.now c.args.phases.now c.args.end) c.args.hand.now c.replace-own.result c.args.lanes.items c.replace-own.ensures.value c.requires.begin)

pub run_phases-returns : goal.run_phases-returns
run_phases-returns g n c = record {
  ran =
      ran_bare c.args.crew.now c.args.phases.now c.args.end c.args.hand.now c.replace-own.result c.go_through-home.result.0 c.args.lanes.items c.go_through-home.result.1.items c.replace-own.ensures.value c.go_through-home.ensures.ran;
}

pub run_team-run_phases-after-requires-clause-begin : goal.run_team-run_phases-after-requires-clause-begin
run_team-run_phases-after-requires-clause-begin g n c κs within = record {
  plan = record {
    crew_is = c.requires.crew;
    number = c.requires.number;
    some = c.requires.some;
    span = c.requires.span;
    lawful = c.requires.lawful;
    divided = c.requires.divided;
    counters = c.requires.counters;
    end = c.requires.end;
  };
  count = c.requires.count;
  belongs = c.requires.belongs;
  none_out = c.requires.none_out;
  fresh = c.requires.fresh;
  own = c.requires.own;
}

pub run_team-close_all-requires-clause-room : goal.run_team-close_all-requires-clause-room
run_team-close_all-requires-clause-room g n c κs within = let m = c.run_phases-after.ensures.ran.stands.count in let r = c.requires.room in omega (arith, m, r)

pub run_team-returns : goal.run_team-returns
run_team-returns g n c =
    let ran = c.run_phases-after.ensures.ran in
    record {
      closed = record {
        after = c.run_phases-after.result.items;
        ran = ran;
        count = c.close_all.ensures.count ∙ ran.stands.count;
        closes = λ k d e less. c.close_all.ensures.each k d e (let m = ran.stands.count in omega (arith, m, less));
      };
    }

pub region-returns-in_default : goal.region-returns-in_default
region-returns-in_default g n c = record {
  ran = λ w task arrays at size new.
      let before = entries_of {T = g.row.L.Denot} g.L.Log c.args.done.now.items in
      subst (λ (a : List Step × Stop). RanRegion w (team_of c.args.team.now) c.args.locals.now.slots.items task c.args.number c.args.hand.now c.args.hand.now before before (Err a)) (sym c.no_memory.ensures)
      (no_memory_for w (team_of c.args.team.now) c.args.locals.now.slots.items task c.args.number c.args.hand.now before before c.requires.ready.free.belongs.there (lane_of c.args.path.now c.args.number 0 c.args.team.now.span)
      (record { lane = 0; below = []; path_is = ap (λ (p : List Step). lane_of p c.args.number 0 c.args.team.now.span) (sym at) }) refl);
}

pub region-returns-in_default-drawn_in : goal.region-returns-in_default-drawn_in
region-returns-in_default-drawn_in g n c = record {
  ran = λ w task arrays at size new.
      let before = entries_of {T = g.row.L.Denot} g.L.Log c.args.done.now.items in
      subst (λ (a : List Step × Stop). RanRegion w (team_of c.args.team.now) c.args.locals.now.slots.items task c.args.number c.args.hand.now c.args.hand.now before before (Err a)) (sym c.no_memory-in_default-drawn_in.ensures)
      (no_memory_for w (team_of c.args.team.now) c.args.locals.now.slots.items task c.args.number c.args.hand.now before before c.requires.ready.free.belongs.there (lane_of c.args.path.now c.args.number 0 c.args.team.now.span)
      (record { lane = 0; below = []; path_is = ap (λ (p : List Step). lane_of p c.args.number 0 c.args.team.now.span) (sym at) }) refl);
}

pub region-returns-in_default-new : goal.region-returns-in_default-new
region-returns-in_default-new g n c = record {
  ran = λ w task arrays at size new.
      let before = entries_of {T = g.row.L.Denot} g.L.Log c.args.done.now.items in
      subst (λ (a : List Step × Stop). RanRegion w (team_of c.args.team.now) c.args.locals.now.slots.items task c.args.number c.args.hand.now c.args.hand.now before before (Err a)) (sym c.no_memory-in_default-new.ensures)
      (no_memory_for w (team_of c.args.team.now) c.args.locals.now.slots.items task c.args.number c.args.hand.now before before c.requires.ready.free.belongs.there (lane_of c.args.path.now c.args.number 0 c.args.team.now.span)
      (record { lane = 0; below = []; path_is = ap (λ (p : List Step). lane_of p c.args.number 0 c.args.team.now.span) (sym at) }) refl);
}

pub region-returns-in-Nothing : goal.region-returns-in-Nothing
region-returns-in-Nothing g n c = record {
  ran = λ w task arrays at size new.
      let before = entries_of {T = g.row.L.Denot} g.L.Log c.args.done.now.items in
      subst (λ (a : List Step × Stop). RanRegion w (team_of c.args.team.now) c.args.locals.now.slots.items task c.args.number c.args.hand.now c.args.hand.now before before (Err a)) (sym c.no_memory-in-Nothing.ensures)
      (no_memory_for w (team_of c.args.team.now) c.args.locals.now.slots.items task c.args.number c.args.hand.now before before c.requires.ready.free.belongs.there (lane_of c.args.path.now c.args.number 0 c.args.team.now.span)
      (record { lane = 0; below = []; path_is = ap (λ (p : List Step). lane_of p c.args.number 0 c.args.team.now.span) (sym at) }) refl);
}

pub region-run_team-lanes-requires-clause-lawful : goal.region-run_team-lanes-requires-clause-lawful
region-run_team-lanes-requires-clause-lawful g n c κs within = λ k d less.
    record {
      mutexes = c.requires.team.mutexes;
      locks = c.requires.team.locks;
      lawful =
          subst (λ (r : ℕ). IsLawfulPhase c.requires.team.mutexes r (slice_index_or c.deref-in-Team.result.now k d)) (let deep = c.requires.deep in let e : length c.args.path.now + 1 ≡ 4 - c.args.depth = omega (arith, deep) in e)
          (subst (λ (ps : List (List Item)). k < length ps → IsLawfulPhase c.requires.team.mutexes (length c.args.path.now + 1) (slice_index_or ps k d)) (sym c.deref-in-Team.ensures.value)
          (λ inside. phases_lawful c.requires.team.mutexes (length c.args.path.now + 1) (team_of c.args.team.now) c.in-Ok-Ok.phases.items c.requires.team.lawful c.in-Ok-Ok.ensures.parts c.in-Ok-Ok.ensures.divided k d inside) less);
    }

pub region-run_team-lanes-requires-clause-count : goal.region-run_team-lanes-requires-clause-count
region-run_team-lanes-requires-clause-count g n c κs within =
    (c.in-Team.ensures.opens c.requires.logs.task c.requires.logs.path_is c.requires.logs.size_is c.requires.logs.new).0.count ∙ sym (ap (λ (v : CrewValue). v.span) c.crew-crew.ensures)

pub region-run_team-lanes-requires-clause-fresh : goal.region-run_team-lanes-requires-clause-fresh
region-run_team-lanes-requires-clause-fresh g n c κs within = λ i d less.
    let opened = (c.in-Team.ensures.opens c.requires.logs.task c.requires.logs.path_is c.requires.logs.size_is c.requires.logs.new).0 in
    lane_fresh (log_place c.requires.logs.task) (lane_of c.args.path.now c.args.number i c.args.team.now.span) c.args.locals.now.slots.items c.in-Ok.share c.crew-crew.result (slice_index_or c.in-Team.lanes.items i d)
    (ap (λ (h : HandValue Share). h.table) c.in-Ok.ensures.hand ∙ sym (ap (λ (v : CrewValue). v.chunks.table) c.crew-crew.ensures)) (opened.each i d (let count = opened.count in omega (arith, less, count)))

pub region-run_team-lanes-requires-clause-own : goal.region-run_team-lanes-requires-clause-own
region-run_team-lanes-requires-clause-own g n c κs within = λ i d less.
    let opened = (c.in-Team.ensures.opens c.requires.logs.task c.requires.logs.path_is c.requires.logs.size_is c.requires.logs.new).0 in
    lane_ours c.args.ground.now c.args.depth c.requires.logs.task c.args.path.now c.args.number i c.args.team.now.span c.args.locals.now.slots.items (lent_hand c.in-Ok.share) (slice_index_or c.in-Team.lanes.items i d) c.requires.logs.size_is c.requires.deep
    (opened.each i d (let count = opened.count in omega (arith, less, count)))

pub region-gather-requires-clause-share : goal.region-gather-requires-clause-share
region-gather-requires-clause-share g n c κs within =
    let here = ap (λ (h : HandValue Share). h.table) c.in-Ok.ensures.hand in
    elim c.match-open.branch [
      | region-in-Team w ↦ subst (λ (h : HandValue Share). Belongs h c.in-Ok.chunks.table) (sym (w.in-Team.ensures.opens c.requires.logs.task c.requires.logs.path_is c.requires.logs.size_is c.requires.logs.new).1) (record { here = here; there = refl })
      | region-in-Torn w ↦ subst (λ (h : HandValue Share). Belongs h c.in-Ok.chunks.table) (sym (w.in-Torn.ensures.opens c.requires.logs.task c.requires.logs.path_is c.requires.logs.size_is c.requires.logs.new).1) (record { here = here; there = refl })
    ]

pub region-gather-requires-clause-first : goal.region-gather-requires-clause-first
region-gather-requires-clause-first g n c κs within =
    elim c.match-open.branch [
      | region-in-Team w ↦ ap (λ (h : HandValue Share). h.view.first) (w.in-Team.ensures.opens c.requires.logs.task c.requires.logs.path_is c.requires.logs.size_is c.requires.logs.new).1
      | region-in-Torn w ↦ ap (λ (h : HandValue Share). h.view.first) (w.in-Torn.ensures.opens c.requires.logs.task c.requires.logs.path_is c.requires.logs.size_is c.requires.logs.new).1
    ]

pub region-gather-requires-clause-own : goal.region-gather-requires-clause-own
region-gather-requires-clause-own g n c κs within = λ k d less.
    let here = ap (λ (h : HandValue Share). h.table) c.in-Ok.ensures.hand in
    elim c.match-open.branch [
      | region-in-Team w ↦
          let lanes = ap (λ (v : Vec ClosedValue Global). v.items) w.lanes-is in
          subst (λ (ls : List ClosedValue). Belongs (slice_index_or ls k d).draws c.in-Ok.chunks.table) (sym lanes)
          (team_returned w.crew-crew.result (team_of c.args.team.now) c.args.locals.now.slots.items w.deref-in-Team.result.now c.args.hand.now w.run_team-lanes.new.hand w.in-Team.lanes.items (log_place c.requires.logs.task) c.args.path.now c.args.number c.in-Ok.share
          w.run_team-lanes.result.items (ap (λ (v : CrewValue). v.span) w.crew-crew.ensures)
          (subst (λ (ps : List (List Item)). (at : Site) (s : State) → run_parts at (parts_in ps) s ≡ run at (team_of c.args.team.now).body s) (sym w.deref-in-Team.ensures.value) c.in-Ok-Ok.ensures.runs)
          w.run_team-lanes.ensures.closed (w.in-Team.ensures.opens c.requires.logs.task c.requires.logs.path_is c.requires.logs.size_is c.requires.logs.new).0 c.in-Ok.chunks.table here k d (subst (λ (ls : List ClosedValue). k < length ls) lanes less)).belongs
      | region-in-Torn w ↦
          let lanes = ap (λ (v : Vec ClosedValue Global). v.items) w.lanes-is in
          subst (λ (ls : List ClosedValue). Belongs (slice_index_or ls k d).draws c.in-Ok.chunks.table) (sym lanes)
          (torn_returned c.in-Ok.chunks.table (log_place c.requires.logs.task) c.args.path.now c.args.number c.args.team.now.span c.in-Ok.share w.in-Torn.lanes.items here (w.in-Torn.ensures.opens c.requires.logs.task c.requires.logs.path_is c.requires.logs.size_is c.requires.logs.new).0 k d (subst (λ (ls : List ClosedValue). k < length ls) lanes less)).belongs
    ]

pub region-gather-requires-clause-split : goal.region-gather-requires-clause-split
region-gather-requires-clause-split g n c κs within = λ k d less.
    let here = ap (λ (h : HandValue Share). h.table) c.in-Ok.ensures.hand in
    elim c.match-open.branch [
      | region-in-Team w ↦
          let lanes = ap (λ (v : Vec ClosedValue Global). v.items) w.lanes-is in
          subst (λ (ls : List ClosedValue). (slice_index_or ls k d).draws.view.first ≡ false) (sym lanes)
          (team_returned w.crew-crew.result (team_of c.args.team.now) c.args.locals.now.slots.items w.deref-in-Team.result.now c.args.hand.now w.run_team-lanes.new.hand w.in-Team.lanes.items (log_place c.requires.logs.task) c.args.path.now c.args.number c.in-Ok.share
          w.run_team-lanes.result.items (ap (λ (v : CrewValue). v.span) w.crew-crew.ensures)
          (subst (λ (ps : List (List Item)). (at : Site) (s : State) → run_parts at (parts_in ps) s ≡ run at (team_of c.args.team.now).body s) (sym w.deref-in-Team.ensures.value) c.in-Ok-Ok.ensures.runs)
          w.run_team-lanes.ensures.closed (w.in-Team.ensures.opens c.requires.logs.task c.requires.logs.path_is c.requires.logs.size_is c.requires.logs.new).0 c.in-Ok.chunks.table here k d (subst (λ (ls : List ClosedValue). k < length ls) lanes less)).split
      | region-in-Torn w ↦
          let lanes = ap (λ (v : Vec ClosedValue Global). v.items) w.lanes-is in
          subst (λ (ls : List ClosedValue). (slice_index_or ls k d).draws.view.first ≡ false) (sym lanes)
          (torn_returned c.in-Ok.chunks.table (log_place c.requires.logs.task) c.args.path.now c.args.number c.args.team.now.span c.in-Ok.share w.in-Torn.lanes.items here (w.in-Torn.ensures.opens c.requires.logs.task c.requires.logs.path_is c.requires.logs.size_is c.requires.logs.new).0 k d (subst (λ (ls : List ClosedValue). k < length ls) lanes less)).split
    ]

pub region-returns : goal.region-returns
region-returns g n c = record {
  ran = λ w task arrays at size new.
      let before = entries_of {T = g.row.L.Denot} g.L.Log c.args.done.now.items in
      let after = entries_of {T = g.row.L.Denot} g.L.Log c.gather.new.done.items in
      let team = team_of c.args.team.now in
      let slots = c.args.locals.now.slots.items in
      let lawful = c.requires.team.lawful in
      elim c.match-open.branch [
        | region-in-Team b ↦
            let lanes = ap (λ (v : Vec ClosedValue Global). v.items) b.lanes-is in
            let opened = b.in-Team.ensures.opens task at size new in
            subst (λ (h : HandValue View). RanRegion w team slots task c.args.number c.args.hand.now h before after c.gather.result) (sym b.hand-is)
            (closed_region w b.crew-crew.result team slots task c.args.number c.in-Ok.share c.open.new.share c.gather.new.share b.deref-in-Team.result.now c.args.hand.now b.run_team-lanes.new.hand b.in-Team.lanes.items c.match-open.lanes.items before after c.gather.result
            (arrays ∙ sym (ap (λ (v : CrewValue). v.arrays) b.crew-crew.ensures)) (ap (λ (v : CrewValue). v.span) b.crew-crew.ensures) lawful.span.some
            (subst (λ (ps : List (List Item)). (at : Site) (s : State) → run_parts at (parts_in ps) s ≡ run at team.body s) (sym b.deref-in-Team.ensures.value) c.in-Ok-Ok.ensures.runs)
            (subst (λ (ls : List ClosedValue). TeamClosed b.crew-crew.result b.deref-in-Team.result.now team.end c.args.hand.now b.run_team-lanes.new.hand b.in-Team.lanes.items ls) (sym lanes) b.run_team-lanes.ensures.closed)
            (subst (λ (p : List Step). AreLanes (log_place task) p c.args.number team.span slots c.in-Ok.share b.in-Team.lanes.items) (sym at) opened.0) (same_chunks lawful.names team slots lawful.scoped lawful.even) c.gather.ensures.gathered opened.1
            c.gather.ensures.share c.gather.ensures.all)
        | region-in-Torn b ↦
            let lanes = ap (λ (v : Vec ClosedValue Global). v.items) b.lanes-is in
            let opened = b.in-Torn.ensures.opens task at size new in
            let torn = subst (λ (ls : List ClosedValue). AreTorn (log_place task) c.args.path.now c.args.number team.span c.in-Ok.share ls) (sym lanes) opened.0 in
            let e = head_of c.match-open.lanes.items (let count = torn.count in let some = lawful.span.some in omega (arith, count, some)) in
            subst (λ (h : HandValue View). RanRegion w team slots task c.args.number c.args.hand.now h before after c.gather.result) (sym b.hand-is)
            (torn_region w team slots task c.args.number c.args.hand.now c.in-Ok.share c.match-open.lanes.items before after c.gather.result e c.requires.ready.free.belongs.there
            (subst (λ (p : List Step). AreTorn (log_place task) p c.args.number team.span c.in-Ok.share c.match-open.lanes.items) (sym at) torn)
            (subst (λ (n : ℕ). Gathered n (λ k. slice_index_or c.match-open.lanes.items k e) before after c.gather.result) torn.count (c.gather.ensures.gathered e)))
      ];
}
