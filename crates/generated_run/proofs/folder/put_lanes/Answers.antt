use Rattle.std.proofs.Common.{◌≡◌, ℕ, subst, ◌∙◌, arith}
use Rattle.std.specs.Option.{option_map}
use Rattle.std.proofs.lemmas.Result.{err_from_is_err_and}
use Rattle.generated_run.specs.Generated.{logs_of_lanes}
use Rattle.log_index.specs.Puts.{with_tasks}
use Rattle.generated_run.proofs.Putting.{lane_broken, put_more, rows_more}
use Rattle.generated_run.proofs.folder.put_lanes.Goals as goal

pub loop-lane-preserved : goal.loop-lane-preserved
loop-lane-preserved g c = record {
  content = put_more c.args.dir.now c.args.rounds c.loop-lane.lane _ _ _ c.loop-lane.invariant.content c.in_ok-put_lane.ensures.done;
  rows = rows_more c.args.rounds c.loop-lane.lane _ _ _ c.loop-lane.invariant.rows c.in_ok-put_lane.ensures.row;
  later = let later = c.put_lane.ensures.cause.later in let before = c.loop-lane.invariant.later in omega (arith, later, before);
  same_roots = c.put_lane.ensures.same_roots ∙ c.loop-lane.invariant.same_roots;
  same_reads = c.put_lane.ensures.same_reads ∙ c.loop-lane.invariant.same_reads;
}

pub returns-in_err-put_lane-clause-refused : goal.returns-in_err-put_lane-clause-refused
returns-in_err-put_lane-clause-refused g c =
    let p = err_from_is_err_and c.from_residual.result c.from_residual.ensures.1 in
    rw (p.1) (lane_broken c.args.dir.now c.args.rounds c.loop-lane.lane _ _ _ c.loop-lane-test.true c.loop-lane.invariant.content c.in_err-put_lane.ensures.refused)

pub returns-clause-done : goal.returns-clause-done
returns-clause-done g c =
    let last : c.loop-lane.lane ≡ 8 = omega (arith, c.loop-lane-test.false, c.loop-lane.auto.lane-end) in
    subst (λ (n : ℕ). (g.F.Folder.state c.loop-lane.folder).content ≡ option_map (with_tasks c.args.dir.now (logs_of_lanes c.args.rounds n)) (g.F.Folder.state c.args.folder.now).content) last c.loop-lane.invariant.content
