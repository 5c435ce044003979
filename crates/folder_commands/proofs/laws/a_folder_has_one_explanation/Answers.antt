use Rattle.folder_commands.proofs.OneExplanation.{one_explanation}
use Rattle.folder_commands.proofs.laws.a_folder_has_one_explanation.Goals as goal

pub returns : goal.returns
returns c = λ low high files dir status other text also one two. one_explanation low high files dir status other text also one two
