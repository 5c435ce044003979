use Rattle.std.proofs.Common.{◌≡◌, ◌<◌, ℕ, Some}
use Rattle.std.specs.Prelude.{slice_get}
use Rattle.explain.specs.Suspects.{IsRunWithin}
use Rattle.explain.specs.declared.stretch.RecordRange.{RecordRange}
use Rattle.explain.proofs.stretch.has_record.Given as goal

abbrev pub invariant-loop-stretch : goal.invariant-loop-stretch
invariant-loop-stretch l = (k : ℕ) (s : RecordRange) → k < l.stretch-index → slice_get l.stretches k ≡ Some s → IsRunWithin s.path s.first s.last l.path l.number → ⊥
