use Rattle.std.proofs.Common.{append_assoc}
use Rattle.folder_commands.proofs.texts.bad_row.Goals as goal

pub returns : goal.returns
returns c = simp append_assoc (cc (c.in_ok-format.ensures.ok, c.index_why-why.ensures))
