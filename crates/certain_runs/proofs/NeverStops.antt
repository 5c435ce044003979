-- A kernel that `certify` calls certain doesn't stop.
use Rattle.std.proofs.Common.{◌≡◌, ap, sym, ◌∙◌, subst, ℕ, ◌<◌, ◌≤◌, List, [], ◌∷◌, ◌++◌, length, arith}
use Rattle.std.proofs.lemmas.List.{length-append, length-map}
use Rattle.sw_base.specs.declared.path.Step.{Step}
use Rattle.sw_base.specs.Environment.{Content}
use Rattle.race_model.specs.ForkJoin.{ListsTask}
use Rattle.race_model.specs.Listing.{IsListing}
use Rattle.race_model.specs.FirstBad.{row_of, rows_of}
use Rattle.race_model.specs.IndexFault.{max_rows}
use Rattle.race_model.specs.Trace.{TaskLog, Trace}
use Rattle.kernel_model.specs.declared.stop.StopWhy.{StopWhy}
use Rattle.kernel_syntax.specs.Program.{Program}
use Rattle.kernel_model.specs.Folder.{paths_of}
use Rattle.kernel_model.specs.Lawful.{IsLawful}
use Rattle.kernel_file.specs.Due.{KernelDue, no_kernel, of_kernel, refused_kernel}
use Rattle.kernel_file.specs.Holding.{HoldsKernel}
use Rattle.kernel_laws.proofs.Lawfulness.{kernels_are_lawful}
use Rattle.log_walk.proofs.RowOrder.{PathBefore, path_trans, path_irreflexive, listing_sorted}
use Rattle.execution_model.specs.Elements.{element_address}
use Rattle.execution_model.specs.Execution.{IsExecution}
use Rattle.certainty_model.specs.Certain.{IsCertain}
use Rattle.certainty_model.proofs.CertainRuns.{of_execution, begins_run, never_stops}
use Rattle.certainty_model.proofs.WholeRuns.{starts_listed}
use Rattle.command_answer.specs.declared.status.TheConstants.{DONE, KERNEL_STOPPED}
use Rattle.run_command.specs.Run.{RunAnswer, RunDue, StoppedRun, ended_so, index_there, stopped_so}
use Rattle.execution_model.specs.Stops.{IsCrowded, StopsAt, as_traced, crowded}
use Rattle.certify.specs.Verdicts.{HasCertainRun, Tells}
use Rattle.certify.specs.declared.verdict.Verdict.{Verdict}
use Rattle.certify.specs.declared.verdict.Verdict.TheVariants as verdict
use Rattle.certify_command.specs.Certify.{CertifyDue, IsVerdictText}
use Rattle.certain_runs.proofs.Listed.{lists_member, member_lists, one_held, shorter}

many_parts : (before below after : List (List Step)) (path : List Step) → length below < length (before ++ path ∷ (below ++ after))
many_parts [] below after path = omega (arith, length-append below after)
many_parts (p ∷ before) below after path = let rest = many_parts before below after path in omega (arith, rest)

module _ (program : Program) (lawful : IsLawful program) (run : Trace) (certain : IsCertain program run) (listed : IsListing (paths_of run)) (limit : length (rows_of run) ≤ max_rows)
    (tasks : Trace) (words : List ℕ) (execution : IsExecution program tasks (element_address program.arrays) words) (in_order : IsListing (paths_of tasks)) where
  there : (path : List Step) → ListsTask tasks path → ListsTask run path
  there path lists =
      let b = begins_run program lawful run certain tasks (of_execution program tasks (element_address program.arrays) words execution) path lists in
      starts_listed program lawful certain.fixed run certain.run.traced path b.start b.in_run

  no_more : length (paths_of tasks) ≤ length (paths_of run)
  no_more = shorter PathBefore path_irreflexive path_trans (paths_of run) (paths_of tasks)
      (λ i j p q less first second. listing_sorted (paths_of tasks) i j p q in_order less first second)
      (λ i j p q less first second. listing_sorted (paths_of run) i j p q listed less first second)
      (λ p m. lists_member run p (there p (member_lists tasks p m)))

  not_crowded : (path : List Step) → IsCrowded path (paths_of tasks) → ⊥
  not_crowded path c =
      let parts : length (paths_of tasks) ≡ length (c.before ++ path ∷ (c.below ++ c.after)) = ap (λ (ps : List (List Step)). length ps) c.parts in
      omega (arith, c.many, many_parts c.before c.below c.after path, parts, no_more, limit, length-map run (λ (task : TaskLog). task.path), length-map run row_of)

  no_stop : (path : List Step) (line : ℕ) (reason : StopWhy) → StopsAt program tasks path line reason → ⊥
  no_stop path line reason (as_traced _ _ e) = never_stops program lawful run certain tasks (of_execution program tasks (element_address program.arrays) words execution) path e.start reason line e.listed e.starts e.traced
  no_stop path line _ (crowded _ _ many) = not_crowded path many

module _ (rose : Type 0) (kernel dir : List ℕ) (size : ℕ) (old new : Content) (told status : ℕ) (answer text : List ℕ) (done : told ≡ DONE) (due : RunDue rose kernel dir size old new status text) (ended : status ≡ KERNEL_STOPPED) where
  stopped : (program p : Program) (count records : ℕ) (words : List ℕ) → IsLawful program → HasCertainRun program count records words → (path : List Step) (line : ℕ) (reason : StopWhy)
      → StoppedRun rose kernel dir size old new p path line reason → program ≡ p → ⊥
  stopped program p count records words lawful has path line reason s same =
      let x = s.stopped in
      no_stop program lawful has.tasks has.certain has.runs.listed (omega (arith, has.runs.few, length-map has.tasks row_of))
      x.tasks x.words (subst (λ (q : Program). IsExecution q x.tasks (element_address q.arrays) x.words) (sym same) x.execution) x.listed
      path line reason (subst (λ (q : Program). StopsAt q x.tasks path line reason) (sym same) x.stops)

  of_certain : (program : Program) (count records : ℕ) (words : List ℕ) → HoldsKernel old.held kernel program → HasCertainRun program count records words → ⊥
  of_certain program count records words holds has = by due.due
    where
      answers : (p : Program) → HoldsKernel old.held kernel p → RunAnswer rose kernel dir size old new p status text → ⊥
      answers p also (stopped_so path line reason s _ _) =
          stopped program p count records words (kernels_are_lawful holds.text program holds.kernel) has path line reason s
          (one_held holds.text also.text program p (sym holds.held ∙ also.held) holds.kernel also.kernel)
      answers p also (index_there _ _ is _) = let e = sym is ∙ ended in absurd (cc e)
      answers p also (ended_so _ _ _ _ is _) = let e = sym is ∙ ended in absurd (cc e)

      by : KernelDue (RunAnswer rose kernel dir size old new) old.held kernel status text → ⊥
      by (of_kernel p also answer) = answers p also answer
      by (no_kernel _ is _) = let e = sym is ∙ ended in absurd (cc e)
      by (refused_kernel _ _ _ is _) = let e = sym is ∙ ended in absurd (cc e)

  by_verdict : (program : Program) (v : Verdict) → HoldsKernel old.held kernel program → Tells program v → IsVerdictText program.arrays v told answer → ⊥
  by_verdict program (verdict.Certain tasks records words) holds tells is = of_certain program tasks records words.items holds tells
  by_verdict program (verdict.Construct line) holds tells is = let status_is = sym is.status_is ∙ done in absurd cc
  by_verdict program (verdict.Long path number) holds tells is = let status_is = sym is.status_is ∙ done in absurd cc
  by_verdict program (verdict.Stopped path line why) holds tells is = let status_is = sym is.status_is ∙ done in absurd cc
  by_verdict program (verdict.Segments path number) holds tells is = let status_is = sym is.status_is ∙ done in absurd cc
  by_verdict program (verdict.Racy pairs) holds tells is = let status_is = sym is.status_is ∙ done in absurd cc

  pub never_stopped : CertifyDue old.held kernel told answer → ⊥
  never_stopped (no_kernel none status_is text_is) = let is = sym status_is ∙ done in absurd cc
  never_stopped (refused_kernel line why has status_is text_is) = let is = sym status_is ∙ done in absurd cc
  never_stopped (of_kernel program holds has) = by_verdict program has.verdict holds has.tells has.due
