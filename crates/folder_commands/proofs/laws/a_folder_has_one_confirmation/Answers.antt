use Rattle.folder_commands.proofs.OneExplanation.{one_confirmation}
use Rattle.folder_commands.proofs.laws.a_folder_has_one_confirmation.Goals as goal

pub returns : goal.returns
returns c = λ a i b j files dir status other text also one two. one_confirmation a i b j files dir status other text also one two
