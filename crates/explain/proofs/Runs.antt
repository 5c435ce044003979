-- The run of a folder that was swept through.
use Rattle.std.proofs.Common.{◌≡◌, List, ℕ, Option, Some, sym, subst, ◌∙◌}
use Rattle.std.specs.Prelude.{Result, IfErr}
use Rattle.std.proofs.lemmas.Result.{IfErr-weaker}
use Rattle.sw_base.specs.Environment.{Content, WhereTold}
use Rattle.log_format.specs.declared.format.TheConstants.{FORMAT}
use Rattle.log_walk.specs.Sweep.{HasSweptAll}
use Rattle.log_walk.specs.Walk.{TellsFirstBad}
use Rattle.log_walk.specs.declared.fault.WalkFault.{WalkFault}
use Rattle.log_walk.specs.declared.fault.WalkFault.TheVariants as fault
use Rattle.log_walk.specs.declared.sweep.Sweep.{Sweep}
use Rattle.race_laws.proofs.FolderTrace.{trace_once}
use Rattle.race_model.specs.FirstBad.{HoldsTrace}
use Rattle.race_model.specs.Row.{Row}
use Rattle.race_model.specs.Trace.{Trace}
use Rattle.explain.specs.Finding.{IsNoPlace}
use Rattle.explain.specs.Witness.{HoldsListedRun, WalksFolder}
use Rattle.explain.proofs.Answering.{on_ok_of}

module _ {told : Option Content} {dir : List ℕ} {sweep : Sweep} {all : Trace} (swept : HasSweptAll FORMAT told dir sweep all) (x : Content) (is : told ≡ Some x) where
  -- the trace that the folder holds is the one that was swept through
  pub same_trace : (trace : Trace) → HoldsTrace FORMAT x.held dir trace → trace ≡ all
  same_trace trace holds = trace_once x.held dir trace all holds (swept.holds x is)

  pub good_run : (rows : List Row) → sweep.rows ≡ rows → (trace : Trace) → HoldsTrace FORMAT x.held dir trace → HoldsListedRun x dir rows trace
  good_run rows same trace holds =
      subst (λ (t : Trace). HoldsListedRun x dir rows t) (sym (same_trace trace holds))
      (record { keeps = swept.keeps; logs = (swept.holds x is).logs; rows_are = swept.completes.rows_are ∙ same })

no_place : (told : Option Content) (dir : List ℕ) (e : WalkFault) → IsNoPlace e → WhereTold told (λ c. TellsFirstBad FORMAT c.held dir e)
no_place told dir fault.NoIndex never = absurd never
no_place told dir (fault.BadIndex row why) never = absurd never
no_place told dir (fault.MissingLog path) never = absurd never
no_place told dir (fault.BadRecord path number why) never = absurd never
no_place told dir (fault.TooManySegments path number) never = absurd never
no_place told dir fault.ReadFault so = λ x is. tt
no_place told dir fault.Memory so = λ x is. tt

-- what is answered after the sweep refuses no more than reads that fail
pub walks_folder : {T : Type 0} (told : Option Content) (dir : List ℕ) (sweep : Sweep) (trace : Trace) (result : Result T WalkFault) → HasSweptAll FORMAT told dir sweep trace → IfErr result IsNoPlace → WalksFolder told dir result
walks_folder told dir sweep trace result swept faults = record {
  holds = on_ok_of result (λ x is. (trace, swept.holds x is));
  well_formed = on_ok_of result swept.well_formed;
  refused = IfErr-weaker result IsNoPlace (λ e. WhereTold told (λ c. TellsFirstBad FORMAT c.held dir e)) (no_place told dir) faults;
}
