-- A run that ended is a whole one, which keeps every rule of a folder.
use Rattle.std.proofs.Common.{◌≡◌, subst, ℕ, ◌≤◌, List, length, arith}
use Rattle.std.proofs.lemmas.List.{length-map}
use Rattle.log_format.specs.declared.format.TheConstants.{FORMAT}
use Rattle.sw_base.specs.Environment.{Content}
use Rattle.race_model.specs.BadPlace.{BadPlace, IsTooMany}
use Rattle.race_model.specs.FirstBad.{IsBad, row_of}
use Rattle.race_model.specs.IndexFault.{max_rows}
use Rattle.race_model.specs.KeepsRules.{KeepsRules}
use Rattle.race_model.specs.Listing.{IsListing}
use Rattle.race_model.specs.Trace.{Trace}
use Rattle.kernel_syntax.specs.Program.{Program}
use Rattle.kernel_rules.proofs.LawfulFolder.{folder_keeps, row_paths}
use Rattle.kernel_laws.proofs.Lawfulness.{kernels_are_lawful}
use Rattle.region_runner.specs.Answer.{IsEndedRun}
use Rattle.run_command.specs.Run.{EndedRun, IsWholeRun}
use Rattle.run_command.proofs.RunFolder.{run_well_formed}

pub whole_run : (program : Program) (tasks : Trace) (words : List ℕ) → IsEndedRun program tasks words → IsWholeRun program tasks words
whole_run program tasks words run = record {
  traced = run.traced;
  listed = subst IsListing (row_paths tasks) run.rules.rows.lists;
  few = few;
  execution = run.execution;
  all = run.all;
}
  where
    few : length tasks ≤ max_rows
    few = let limit = run.rules.rows.limit in omega (arith, limit, length-map tasks row_of)

module _ (kernel dir : List ℕ) (size : ℕ) (old new : Content) (program : Program) (count records : ℕ) (words : List ℕ) (ended : EndedRun kernel dir size old new program count records words) where
  pub ended_rules : KeepsRules FORMAT ended.tasks
  ended_rules = folder_keeps program (kernels_are_lawful ended.can.holds.text program ended.can.holds.kernel) ended.tasks ended.run.traced ended.run.listed ended.run.few

  run : IsEndedRun program ended.tasks words
  run = record { traced = ended.run.traced; rules = ended_rules; execution = ended.run.execution; all = ended.run.all }

  pub ended_well_formed : (place : BadPlace) → IsBad FORMAT new.held dir place → IsTooMany place
  ended_well_formed place bad = run_well_formed program dir size ended.tasks words run old place (subst (λ (n : Content). IsBad FORMAT n.held dir place) ended.leaves bad)
