use Rattle.kernel_rules.proofs.LawfulFolder.{folder_keeps}
use Rattle.kernel_laws.proofs.Lawfulness.{kernels_are_lawful}
use Rattle.kernel_laws.proofs.laws.folders_of_kernels_keep_the_rules.Goals as goal

pub returns : goal.returns
returns c text program tasks kernel folder listing few = folder_keeps program (kernels_are_lawful text program kernel) tasks folder listing few
