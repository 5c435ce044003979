-- Paths that compare equal are equal.
use Rattle.std.proofs.Common.{◌≡◌, List}
use Rattle.std.specs.Prelude.{◌↔◌}
use Rattle.std.specs.declared.cmp.Ordering.TheVariants.{Equal}
use Rattle.sw_base.specs.Names.{path_cmp}
use Rattle.sw_base.specs.declared.path.Step.{Step}
use Rattle.sw_base.proofs.Paths as paths

pub path_cmp_decides : (one other : List Step) → (path_cmp one other ≡ Equal) ↔ (one ≡ other)
path_cmp_decides = paths.path_cmp_decides
