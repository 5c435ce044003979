use Rattle.std.proofs.Common.{sym}
use Rattle.certain_runs.proofs.EndedRuns.{tasks_are, words_are}
use Rattle.certain_runs.proofs.ending.ended_runs_are_the_certain_run.Goals as goal

pub returns-clause-tasks : goal.returns-clause-tasks
returns-clause-tasks c = λ program run tasks words others lawful certain ended. tasks_are program lawful run words certain tasks others ended

pub returns-clause-words : goal.returns-clause-words
returns-clause-words c = λ program run tasks words others lawful certain ended. sym (words_are program lawful run words certain tasks others ended)
