-- What the folder of a serial run tells of its kernel.
use Rattle.std.proofs.Common.{◌≡◌, ◌≤◌, ℕ, ◌+◌, List, [], ◌∷◌, map, length, Option, refl, sym, ap, subst, ◌∙◌, arith}
use Rattle.std.specs.Prelude.{Contains, sum_by}
use Rattle.std.proofs.lemmas.List.{length-map}
use Rattle.std.proofs.lemmas.List.Sums.{sum_by-cons}
use Rattle.sw_base.specs.declared.path.Step.{Step}
use Rattle.sw_base.specs.Environment.{Content}
use Rattle.log_format.specs.declared.format.TheConstants.{FORMAT}
use Rattle.race_model.specs.BadPlace.{too_many_segments}
use Rattle.race_model.specs.FirstBad.{segments_in}
use Rattle.race_model.specs.KeepsRules.{KeepsRules}
use Rattle.race_model.specs.LogFault.{max_segments}
use Rattle.race_model.specs.Race.{IsRacePair, Lists}
use Rattle.race_model.specs.Trace.{TaskLog, Trace, logs_of}
use Rattle.race_laws.proofs.FolderTrace.{trace_once}
use Rattle.log_walk.specs.Walk.{IsFirstIn}
use Rattle.kernel_syntax.specs.Program.{Program}
use Rattle.execution_model.specs.Elements.{layout_of}
use Rattle.folder_races.specs.Pairs.{AreFolderPairs}
use Rattle.serial_team.specs.Members.{WholeLog}
use Rattle.serial_laws.specs.SerialRuns.{spelled}
use Rattle.serial_laws.proofs.Certainty.{is_certain, is_ended, is_listed, is_run, keeps_rules}
use Rattle.certainty_model.specs.Certain.{IsCertain}
use Rattle.certainty_model.proofs.CertainRuns.{only_run}
use Rattle.certify.specs.Holding.{HoldsTasks, KeepRules}
use Rattle.certify.specs.Verdicts.{HasCertainRun, HasRaces, OpensOneTooMany, RunSpells, RunsTo, record_total}
use Rattle.folder_races.proofs.FewSegments.{few_segments}
use Rattle.certify.proofs.TooMany.{opens_the_first}
use Rattle.certify.specs.declared.certifying.TheConstants.{MOST_RECORDS}

counts_spelled : (tasks : Trace) → sum_by (λ (log : WholeLog). log.count) (map spelled tasks) ≡ record_total tasks
counts_spelled [] = refl
counts_spelled (task ∷ tasks) =
    sum_by-cons (λ (log : WholeLog). log.count) (spelled task) (map spelled tasks)
    ∙ (ap (λ (n : ℕ). length task.records + n) (counts_spelled tasks) ∙ sym (sum_by-cons (λ (t : TaskLog). length t.records) task tasks))

nothing_left : {X : Type 0} (xs : List X) → length xs ≡ 0 → xs ≡ []
nothing_left [] none = refl
nothing_left (x ∷ xs) none = absurd (omega (arith, none))

module _ (program : Program) (logs : List WholeLog) (words : List ℕ) (r : RunSpells program logs words) where
  abbrev tasks : Trace
  tasks = r.run.tasks

  rules : KeepsRules FORMAT tasks
  rules = keeps_rules program (layout_of program.arrays) MOST_RECORDS logs words r.lawful r.run

  pub keep_rules : KeepRules logs
  keep_rules = record { tasks = tasks; logs_are = r.run.logs_are; rules = rules }

  count : sum_by (λ (log : WholeLog). log.count) logs ≡ record_total tasks
  count = ap (λ (ls : List WholeLog). sum_by (λ (log : WholeLog). log.count) ls) r.run.logs_are ∙ counts_spelled tasks

  runs : RunsTo program tasks words
  runs = record {
    fixed = r.fixed;
    traced = (is_run program (layout_of program.arrays) tasks words r.run.run).traced;
    listed = is_listed program (layout_of program.arrays) tasks words r.run.run;
    history = is_ended program (layout_of program.arrays) tasks words r.run.run;
    all = r.run.run.all;
    few = r.run.few;
    made = r.ends.tasks;
    memory = r.ends.memory;
    goes = r.ends.goes;
    logs_are = sym r.ends.logs_are ∙ r.run.logs_are;
    words_are = r.ends.words_are;
  }

  module _ (dir : List ℕ) (told : Option Content) (held : HoldsTasks dir logs told) where
    -- the race pairs that were found are those of its tasks
    races : (pairs : List (ℕ × ℕ)) → AreFolderPairs told dir pairs → Lists (IsRacePair (logs_of tasks)) pairs
    races pairs found =
        subst (λ (trace : Trace). Lists (IsRacePair (logs_of trace)) pairs)
        (trace_once held.content.held dir found.trace tasks (found.holds held.content held.is) (held.holds tasks r.run.logs_are rules)) found.races

    -- so its records are compared
    few : (pairs : List (ℕ × ℕ)) → AreFolderPairs told dir pairs → segments_in tasks ≤ max_segments
    few pairs found = few_segments held.content.held dir tasks (held.holds tasks r.run.logs_are rules) (found.well_formed held.content held.is)

    pub has_races : (pairs : List (ℕ × ℕ)) → AreFolderPairs told dir pairs → (length pairs ≡ 0 → ⊥) → HasRaces program pairs
    has_races pairs found some = record { tasks = tasks; words = words; runs = runs; compared = few pairs found; races = races pairs found; some = λ none. some (ap length none) }

    pub has_certain_run : (pairs : List (ℕ × ℕ)) (n m : ℕ) → AreFolderPairs told dir pairs → length pairs ≡ 0 → n ≡ length logs → m ≡ sum_by (λ (log : WholeLog). log.count) logs
        → HasCertainRun program n m words
    unfolding runs
    has_certain_run pairs n m found none count_is sum_is = record {
      tasks = tasks;
      runs = runs;
      compared = few pairs found;
      certain = certain;
      only = λ other is_run. only_run program r.lawful tasks certain other is_run;
      count_is = count_is ∙ (ap length r.run.logs_are ∙ length-map tasks spelled);
      records_are = sum_is ∙ count;
    }
      where
        none_there : {pair : ℕ × ℕ} → (IsRacePair (logs_of tasks) pair → Contains pairs pair) → IsRacePair (logs_of tasks) pair → ⊥
        none_there {pair} lists races_so = let there = subst (λ (ps : List (ℕ × ℕ)). Contains ps pair) (nothing_left pairs none) (lists races_so) in absurd (omega (arith, there.1))

        certain : IsCertain program tasks
        certain = is_certain program (layout_of program.arrays) tasks words r.fixed r.run.run (λ pair races_so. none_there ((races pairs found).each pair).1 races_so)

    pub opens_too_many : (path : List Step) (number : ℕ) → IsFirstIn FORMAT held.content.held dir path (λ row. too_many_segments row number) → OpensOneTooMany program path number
    opens_too_many path number first = record {
      tasks = tasks;
      words = words;
      runs = runs;
      first = opens_the_first tasks held.content.held dir (held.holds tasks r.run.logs_are rules) path number first;
    }
