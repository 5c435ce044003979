use Rattle.std.proofs.Common.{◌≡◌, ◌≤◌, ◌++◌, map, Bor, ℕ, flat_map}
use Rattle.sw_base.specs.Environment.{gained}
use Rattle.race_report.specs.Report.{race_line}
use Rattle.race_report.proofs.report.Given as goal

abbrev pub invariant-loop-pair : goal.invariant-loop-pair
invariant-loop-pair g l = record {
  left : map (λ (pair : Bor (ℕ × ℕ)). pair.now) l.yielded ++ l.pair-iterator ≡ l.pairs.keys;
  written : g.O.Out.written l.out ≡ gained (g.O.Out.written l.initial.out) (flat_map race_line (map (λ (pair : Bor (ℕ × ℕ)). pair.now) l.yielded));
  later : g.O.Out.faults l.initial.out ≤ g.O.Out.faults l.out;
}
