-- A run that stopped while a lane of its team had no record yet: its tasks are a tree, and no run that ended. A lane whose
-- region no record forked is in no tree.
use Rattle.std.proofs.Common.{◌≡◌, ℕ, zero, suc, ◌<◌, List, [], ◌∷◌, ◌++◌, refl, ap, subst, arith}
use Rattle.std.specs.Prelude.{slice_get, Some}
use Rattle.std.proofs.lemmas.List.{same_from_push}
use Rattle.std.proofs.lemmas.Option.{same_Some}
use Rattle.sw_base.specs.declared.path.Step.{Step}
use Rattle.log_format.specs.declared.record.Record.{Record}
use Rattle.log_format.specs.declared.record.Kind.TheVariants.{Write, Region}
use Rattle.race_model.specs.Trace.{Trace, logs_of}
use Rattle.race_model.specs.ForkJoin.{WasForked, IsForkJoin, IsTreeTrace, ListsTask}
use Rattle.race_laws.proofs.LabelPlace.{not_both_empty}
use Rattle.race_laws.proofs.ForkJoinExample.{made, access, lane_of}

abbrev stopped : Trace
stopped = record { path = []; records = made Region 2 ∷ [] } ∷ record { path = lane_of 0; records = access Write 8 5 100 ∷ [] } ∷ record { path = lane_of 1; records = [] } ∷ []

forked_lane : (n : ℕ) → n < 2 → (path : List Step) (step : Step) → lane_of n ≡ path ++ step ∷ [] → WasForked (logs_of stopped) path step
forked_lane n h path step same =
    let parts = same_from_push [] path (record { region = 0; lane = n; span = 2 }) step same in
    subst (λ (s : Step). WasForked (logs_of stopped) path s) parts.1
    (subst (λ (p : List Step). WasForked (logs_of stopped) p (record { region = 0; lane = n; span = 2 })) parts.0
    (record { fork = record { path = []; index = 0 }; above = refl; lane = record { event = made Region 2; found = refl; region = refl; spans = refl; in_span = h; child = refl } }))

forked_task : (path : List Step) (step : Step) → ListsTask stopped (path ++ step ∷ []) → WasForked (logs_of stopped) path step
forked_task path step (zero, within, is) = absurd (not_both_empty [] path step refl is)
forked_task path step (suc zero, within, is) = forked_lane 0 (omega arith) path step is
forked_task path step (suc (suc zero), within, is) = forked_lane 1 (omega arith) path step is
forked_task path step (suc (suc (suc n)), within, is) = absurd (omega arith)

pub stopped_is_tree : IsTreeTrace stopped
stopped_is_tree = record { root = (0, omega arith, refl); forked = forked_task }

pub stopped_has_not_ended : IsForkJoin (logs_of stopped) → ⊥
stopped_has_not_ended run =
    let none = run.ends.lanes (record { path = []; index = 0 }) 1 2 (lane_of 1) (record { event = made Region 2; found = refl; region = refl; spans = refl; in_span = omega arith; child = refl }) in
    absurd (omega arith)

-- the same with a lane that says another span than the record that forked it
abbrev misspanned : Trace
misspanned = record { path = []; records = made Region 2 ∷ [] } ∷ record { path = record { region = 0; lane = 0; span = 3 } ∷ []; records = [] } ∷ []

pub misspanned_is_no_tree : IsTreeTrace misspanned → ⊥
misspanned_is_no_tree tree = go (tree.forked [] (record { region = 0; lane = 0; span = 3 }) (1, omega arith, refl)) where
  go : WasForked (logs_of misspanned) [] (record { region = 0; lane = 0; span = 3 }) → ⊥
  go f = at f.fork.path f.fork.index f.above f.lane.event f.lane.found f.lane.spans where
    at : (path : List Step) (index : ℕ) → path ≡ [] → (event : Record) → slice_get (logs_of misspanned path) index ≡ Some event → event.value ≡ 3 → ⊥
    at path index above event found spans = by_index index event (subst (λ (p : List Step). slice_get (logs_of misspanned p) index ≡ Some event) above found) spans where
      by_index : (index : ℕ) (event : Record) → slice_get (made Region 2 ∷ []) index ≡ Some event → event.value ≡ 3 → ⊥
      by_index zero event found spans = let same : 2 ≡ event.value = ap (λ (r : Record). r.value) (same_Some (made Region 2) event found) in absurd (omega arith)
      by_index (suc n) event found spans = cc
