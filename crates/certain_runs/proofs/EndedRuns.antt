-- A run that ended is the certain run, and has its words.
use Rattle.std.proofs.Common.{◌≡◌, sym, ◌∙◌, ℕ, List, [], ◌∷◌}
use Rattle.sw_base.specs.declared.path.Step.{Step}
use Rattle.race_model.specs.ForkJoin.{ListsTask}
use Rattle.race_model.specs.Trace.{Trace}
use Rattle.kernel_syntax.specs.Program.{Program}
use Rattle.kernel_model.specs.Lawful.{IsLawful}
use Rattle.run_command.specs.Run.{IsWholeRun}
use Rattle.certainty_model.specs.Certain as certainty
use Rattle.certainty_model.proofs.CertainRuns.{only_run, end_alike}
use Rattle.certainty_model.proofs.WholeRuns.{listed_starts, starts_listed}
use Rattle.execution_model.specs.Elements.{element_address}
use Rattle.certain_runs.specs.CertainRun.{IsCertainRun}
use Rattle.certain_runs.proofs.SameListing.{same_listing}

module _ (program : Program) (lawful : IsLawful program) (run : Trace) (words : List ℕ) (c : IsCertainRun program run words) (tasks : Trace) (others : List ℕ) (ended : IsWholeRun program tasks others) where
  is_run : certainty.IsRun program tasks
  is_run = record { traced = ended.traced; address = element_address program.arrays; words = others; history = ended.execution.history }

  same : certainty.AreSame program run tasks
  same = only_run program lawful run c.certain tasks is_run

  there : (path : List Step) → ListsTask run path → ListsTask tasks path
  there path lists =
      let s = listed_starts program lawful c.certain.fixed run c.certain.run.traced path lists in
      starts_listed program lawful c.certain.fixed tasks ended.traced path s.0 (same.starts path ∙ s.1)

  back : (path : List Step) → ListsTask tasks path → ListsTask run path
  back path lists =
      let s = listed_starts program lawful c.certain.fixed tasks ended.traced path lists in
      starts_listed program lawful c.certain.fixed run c.certain.run.traced path s.0 (sym (same.starts path) ∙ s.1)

  pub tasks_are : tasks ≡ run
  tasks_are = same_listing run tasks c.listed ended.listed there back same.logs

  pub words_are : words ≡ others
  words_are = end_alike program lawful run c.certain tasks is_run (element_address program.arrays) words others c.ends ended.execution.history (c.all ∙ sym ended.all)
