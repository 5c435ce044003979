use Rattle.folder_commands.proofs.OneReplay.{one_replay}
use Rattle.folder_commands.proofs.laws.a_replay_has_one_answer.Goals as goal

pub returns : goal.returns
returns c = λ files kernel dir status other text also one two. one_replay files kernel dir status other text also one two
