use Rattle.std.proofs.Common.{◌≡◌, ◌≤◌, All, List, false, true, rules, subst}
use Rattle.std.proofs.lemmas.List.{take_all}
use Rattle.stride_summary.specs.Run.{last_byte}
use Rattle.stride_summary.specs.declared.run.Run.{Run}
use Rattle.pair_compare.proofs.Members.{in_bounds_more, quiet_more}
use Rattle.pair_compare.proofs.member.measured.Goals as goal
use Rattle.pair_compare.proofs.member.measured.Goals.{then-writes, else-writes}

pub loop-run-preserved : goal.loop-run-preserved
loop-run-preserved c =
    let low_old : c.min-low.result ≤ c.loop-run.low = search rules in
    let low_own : c.min-low.result ≤ c.run-item.result.base = search rules in
    let high_old : c.loop-run.high ≤ c.max-high.result = search rules in
    let high_own : last_byte c.run-item.result ≤ c.max-high.result = search rules in (
      in_bounds_more c.args.runs.now c.loop-run.run-index c.run-item.result c.loop-run.low c.min-low.result c.loop-run.high c.max-high.result c.loop-run-test.true c.run-item.is low_old low_own high_old high_own c.loop-run.invariant.0,
      λ none. elim c.if-writes.branch [
        | then-writes w ↦ absurd (let e : c.if-writes.writes ≡ true = search rules in (cc))
        | else-writes w ↦ quiet_more c.args.runs.now c.loop-run.run-index c.run-item.result c.loop-run-test.true c.run-item.is (search rules) (c.loop-run.invariant.1 w.if-writes.false)
      ],
    )

pub invariant_of-result : goal.invariant_of-result
invariant_of-result c = record {
  within = subst (λ (runs : List Run). All (λ run. (c.loop-run.low ≤ run.base) × (last_byte run ≤ c.loop-run.high)) runs) (search (rules, take_all)) c.loop-run.invariant.0;
  quiet = λ none. subst (λ (runs : List Run). All (λ run. run.write ≡ false) runs) (search (rules, take_all)) (c.loop-run.invariant.1 none);
}
