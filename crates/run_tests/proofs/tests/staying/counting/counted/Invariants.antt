use Rattle.std.proofs.Common.{◌≡◌, ◌+◌, ◌<◌}
use Rattle.std.specs.Prelude.{All}
use Rattle.run_tests.proofs.tests.staying.counting.counted.Given as goal

abbrev pub ghosts-in_phases-K-LaneKey : goal.ghosts-in_phases-K-LaneKey
ghosts-in_phases-K-LaneKey g a = record { may = λ number index lane. (number < a.phases) × (lane ≡ number); did = λ number index before after. after ≡ number + 1 }

abbrev pub ghosts-in_phases-K-TeamKey : goal.ghosts-in_phases-K-TeamKey
ghosts-in_phases-K-TeamKey g a = record {
  stands = λ number hand lanes. All (λ lane. lane ≡ number) lanes;
  parted = λ number hand lanes. All (λ lane. lane ≡ number) lanes;
  stopped = λ number hand lanes. ⊥;
}
