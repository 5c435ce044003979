use Rattle.step_history.proofs.SplitsAndHomes.{split_told, home_after, one_after_other}
use Rattle.step_history.proofs.order.hands_work_between_split_and_home.Goals as goal

pub returns : goal.returns
returns c = record {
  split = split_told;
  home = λ log n place x parent k legal found named. home_after log n x parent k legal found named place;
  order = one_after_other;
}
