use Rattle.kernel_text.proofs.Few.{tokens_of-is}
use Rattle.kernel_reader.proofs.kernel.read_kernel.Goals as goal

pub kernel_of-requires-clause-short : goal.kernel_of-requires-clause-short
kernel_of-requires-clause-short c = let is = tokens_of-is c.args.text.now c.in-Ok.found.items c.in-Ok.ensures.found in is.0
