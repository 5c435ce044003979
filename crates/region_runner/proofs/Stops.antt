-- Of a task that stopped below another one: how its trace ends.
use Rattle.std.proofs.Common.{◌≡◌, refl, ap, sym, ◌∙◌, subst, ℕ, ◌+◌, ◌<◌, List, [], ◌∷◌, ◌++◌, length, Some, arith, append_assoc}
use Rattle.std.specs.Prelude.{slice_get}
use Rattle.std.specs.List.{flat_map}
use Rattle.sw_base.specs.declared.path.Step.{Step}
use Rattle.sw_base.proofs.Lists.{get_seam}
use Rattle.log_format.specs.declared.record.Record.{Record}
use Rattle.kernel_syntax.specs.declared.syntax.Array.{Array}
use Rattle.kernel_syntax.specs.Program.{Program}
use Rattle.kernel_model.specs.State.{Fork}
use Rattle.kernel_model.specs.Trace.{Ending, Start}
use Rattle.kernel_model.specs.Folder.{own_trace}
use Rattle.history_model.specs.Work.{Work, RegionWork, work_regions}
use Rattle.execution_model.specs.Runs.{RunsRegions, works_log}
use Rattle.lane_runner.specs.declared.stop.Stop.{Stop}
use Rattle.lane_runner.specs.Stopping.{ending_for, EndsInLane, StopsAtLast, below as under}
use Rattle.lane_runner.specs.Going.{log_of}
use Rattle.region_runner.specs.Ran.{in_one}
use Rattle.region_runner.specs.Stopping.{EndsUnder}
use Rattle.region_runner.proofs.Traced.{TracesFirst, one_log, one_regions}

-- as many forks as regions, and the last region has the span of the last fork
lasts_meet : (program : Program) (earlier : List Fork) (fork : Fork) (before : List RegionWork) (region : RegionWork) → RunsRegions program (earlier ++ fork ∷ []) (before ++ region ∷ [])
    → (length earlier ≡ length before) × (region.span ≡ fork.team.span)
lasts_meet program [] fork [] region (RunsRegions.region f fs r rs span lanes drew rest) = (refl, span)
lasts_meet program [] fork (b ∷ before) region (RunsRegions.region f fs r rs span lanes drew rest) = absurd (none before rest) where
  none : (more : List RegionWork) → RunsRegions program [] (more ++ region ∷ []) → ⊥
  none [] runs = elim runs [ ]
  none (m ∷ more) runs = elim runs [ ]
lasts_meet program (e ∷ earlier) fork [] region (RunsRegions.region f fs r rs span lanes drew rest) = absurd (none earlier rest) where
  none : (more : List Fork) → RunsRegions program (more ++ fork ∷ []) [] → ⊥
  none [] runs = elim runs [ ]
  none (m ∷ more) runs = elim runs [ ]
lasts_meet program (e ∷ earlier) fork (b ∷ before) region (RunsRegions.region f fs r rs span lanes drew rest) =
    let more = lasts_meet program earlier fork before region rest in (ap (λ (n : ℕ). ℕ.suc n) more.0, more.1)

-- a task below one with these works stopped, in the region that it forked last
module _ (program : Program) (end : Ending) (start : Start) where
  pub task_stops : (arrays : List Array) (own path : List Step) (why : Stop) (forks : List Fork) (works : List Work) → program.arrays ≡ arrays → ending_for why ≡ Some end
      → StopsAtLast arrays own 0 path why forks (work_regions (in_one works)) → RunsRegions program forks (work_regions (in_one works)) → TracesFirst program start (log_of (in_one works)) forks → EndsUnder program end own path start works
  task_stops arrays own path why forks works same ending s runs first = record {
    at = record {
      rest = record { region = length s.before; lane = inner.lane; span = s.region.span } ∷ inner.below;
      path_is = inner.path_is ∙ ap (λ (n : ℕ). own ++ record { region = length s.before; lane = inner.lane; span = n } ∷ inner.below) (sym meet.1);
    };
    ends = under start works (length s.before) s.fork s.region inner.lane inner.below fork_is region_is (subst (λ (n : ℕ). inner.lane < n) (sym meet.1) inner.within) inner.ends;
  }
    where
      meet : (length s.earlier ≡ length s.before) × (s.region.span ≡ s.fork.team.span)
      meet = lasts_meet program s.earlier s.fork s.before s.region
          (subst (λ (fs : List Fork). RunsRegions program fs (s.before ++ s.region ∷ [])) s.forks_are (subst (λ (rs : List RegionWork). RunsRegions program forks rs) s.regions_are runs))

      inner : EndsInLane program end own (length s.before) path s.fork s.region.phases
      inner = subst (λ (n : ℕ). EndsInLane program end own n path s.fork s.region.phases) (let e : 0 + length s.before ≡ length s.before = omega arith in e)
          (s.stopped.traced program same end ending)

      fork_is : slice_get (own_trace program start (works_log works)).forks (length s.before) ≡ Some s.fork
      fork_is =
          ap (λ (rs : List Record). slice_get (own_trace program start rs).forks (length s.before)) (sym (one_log works))
          ∙ ap (λ (fs : List Fork). slice_get fs (length s.before)) (first.forks_are ∙ ap (λ (fs : List Fork). fs ++ first.later) s.forks_are ∙ append_assoc s.earlier (s.fork ∷ []) first.later)
          ∙ ap (λ (n : ℕ). slice_get (s.earlier ++ s.fork ∷ first.later) n) (sym meet.0)
          ∙ get_seam s.earlier s.fork first.later

      region_is : slice_get (flat_map work_regions works) (length s.before) ≡ Some s.region
      region_is = ap (λ (rs : List RegionWork). slice_get rs (length s.before)) (sym (one_regions works) ∙ s.regions_are) ∙ get_seam s.before s.region []
