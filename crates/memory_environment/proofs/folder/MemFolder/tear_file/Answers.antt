use Rattle.memory_environment.proofs.Prefixes.{leaves_prefix_half}
use Rattle.memory_environment.proofs.folder.MemFolder.tear_file.Goals as goal

pub returns-clause-torn : goal.returns-clause-torn
returns-clause-torn c =
    leaves_prefix_half c.hold.result _ _ _ _ _ _ _ c.hold.ensures.ok c.hold.ensures.err c.hold.ensures.same_sealed
