-- What `run` leaves and prints where it ends with status 0.
use Rattle.std.proofs.Common.{◌≡◌, ap, ap₂, sym, ◌∙◌, subst, ℕ, List, length, map}
use Rattle.std.specs.Prelude.{sum_by}
use Rattle.log_format.specs.declared.format.TheConstants.{FORMAT}
use Rattle.sw_base.specs.Environment.{Content, with_put}
use Rattle.sw_base.specs.HandedLog.{with_sealed}
use Rattle.sw_base.specs.Names.{index_name}
use Rattle.race_model.specs.FirstBad.{rows_of}
use Rattle.race_model.specs.Row.{index_bytes}
use Rattle.race_model.specs.Trace.{TaskLog, Trace}
use Rattle.kernel_syntax.specs.Program.{Program}
use Rattle.kernel_syntax.specs.declared.syntax.Array.{Array}
use Rattle.kernel_model.specs.Lawful.{IsLawful}
use Rattle.kernel_file.specs.Due.{KernelDue, no_kernel, of_kernel, refused_kernel}
use Rattle.kernel_file.specs.Holding.{HoldsKernel}
use Rattle.kernel_laws.proofs.Lawfulness.{kernels_are_lawful}
use Rattle.command_answer.specs.declared.status.TheConstants.{DONE}
use Rattle.run_command.specs.Run.{EndedRun, RunAnswer, RunDue, ended_so, index_there, stopped_so, told_log}
use Rattle.command_answer.specs.RunTexts.{run_text}
use Rattle.certain_runs.specs.CertainRun.{IsCertainRun}
use Rattle.certain_runs.specs.Leaving.{LeavesRun}
use Rattle.certain_runs.proofs.EndedRuns.{tasks_are, words_are}
use Rattle.certain_runs.proofs.Listed.{one_held}

module _ (rose : Type 0) (kernel dir : List ℕ) (size : ℕ) (old new : Content) (text : List ℕ) (program : Program) (held : HoldsKernel old.held kernel program)
    (run : Trace) (words : List ℕ) (c : IsCertainRun program run words) where
  ended : (p : Program) (count records : ℕ) (others : List ℕ) → program ≡ p → EndedRun kernel dir size old new p count records others → text ≡ run_text count records p.arrays others
      → LeavesRun dir size old new text program run words
  ended p count records others same e printed = record {
    leaves = e.leaves ∙ ap (λ (ts : Trace). with_put (index_name dir) (index_bytes FORMAT (rows_of ts)) (with_sealed (map (told_log dir size) ts) old)) is_run;
    tells =
        printed
        ∙ ap₂ (λ (n m : ℕ). run_text n m p.arrays others) (e.count_is ∙ ap (λ (ts : Trace). length ts) is_run) (e.records_are ∙ ap (λ (ts : Trace). sum_by (λ (task : TaskLog). length task.records) ts) is_run)
        ∙ ap₂ (λ (arrays : List Array) (ws : List ℕ). run_text (length run) (sum_by (λ (task : TaskLog). length task.records) run) arrays ws) (ap (λ (q : Program). q.arrays) (sym same)) (sym same_words);
  }
    where
      lawful : IsLawful p
      lawful = subst IsLawful same (kernels_are_lawful held.text program held.kernel)

      of_p : IsCertainRun p run words
      of_p = subst (λ (q : Program). IsCertainRun q run words) same c

      is_run : e.tasks ≡ run
      is_run = tasks_are p lawful run words of_p e.tasks others e.run

      same_words : words ≡ others
      same_words = words_are p lawful run words of_p e.tasks others e.run

  by_answer : (p : Program) (status : ℕ) → HoldsKernel old.held kernel p → RunAnswer rose kernel dir size old new p status text → status ≡ DONE → LeavesRun dir size old new text program run words
  by_answer p status holds (ended_so count records others e _ printed) done =
      ended p count records others (one_held held.text holds.text program p (sym held.held ∙ holds.held) held.kernel holds.kernel) e printed
  by_answer p status holds (index_there _ _ is _) done = let e = sym is ∙ done in absurd (cc e)
  by_answer p status holds (stopped_so _ _ _ _ is _) done = let e = sym is ∙ done in absurd (cc e)

  by_kernel : (status : ℕ) → KernelDue (RunAnswer rose kernel dir size old new) old.held kernel status text → status ≡ DONE → LeavesRun dir size old new text program run words
  by_kernel status (of_kernel p holds answer) done = by_answer p status holds answer done
  by_kernel status (no_kernel _ is _) done = let e = sym is ∙ done in absurd (cc e)
  by_kernel status (refused_kernel _ _ _ is _) done = let e = sym is ∙ done in absurd (cc e)

  pub leaves_certain_run : (status : ℕ) → RunDue rose kernel dir size old new status text → status ≡ DONE → LeavesRun dir size old new text program run words
  leaves_certain_run status due done = by_kernel status due.due done
