use Rattle.kernel_rules.proofs.LawfulFolder.{folder_keeps}
use Rattle.kernel_rules.proofs.lawful.lawful_folder_keeps_the_rules.Goals as goal

pub returns : goal.returns
returns c program tasks lawful folder listing few = folder_keeps program lawful tasks folder listing few
