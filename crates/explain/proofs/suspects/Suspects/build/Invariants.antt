use Rattle.std.proofs.Common.{◌≡◌, ◌<◌, ℕ, Some}
use Rattle.std.specs.Prelude.{slice_get}
use Rattle.log_segment.specs.declared.segment.Segment.{Segment}
use Rattle.race_model.specs.Race.{pair_cmp}
use Rattle.sw_base.specs.Names.{path_cmp}
use Rattle.explain.specs.Filed.{IsFiled}
use Rattle.explain.specs.Suspects.{root_team}
use Rattle.explain.proofs.suspects.Suspects.build.Given as goal

abbrev pub invariant-loop-suspect : goal.invariant-loop-suspect
invariant-loop-suspect l = record {
  tasks : (k : ℕ) (own : Segment) → k < l.suspect-index → slice_get l.all k ≡ Some own → IsFiled path_cmp l.tasks own.path own;
  teams : (k : ℕ) (own : Segment) → k < l.suspect-index → slice_get l.all k ≡ Some own → IsFiled pair_cmp l.teams (root_team own.label) own;
}
