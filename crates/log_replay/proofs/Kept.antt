-- How a task starts, by the regions that are kept.
use Rattle.std.proofs.Common.{◌≡◌, refl, ap, sym, ◌∙◌, subst, ℕ, ◌+◌, List, [], ◌∷◌, ◌++◌, length, take, Option, Some, None, slice_get, arith, length-append}
use Rattle.std.specs.Prelude.{map}
use Rattle.std.specs.Global.{Vec}
use Rattle.std.proofs.lemmas.List.{take_at, take-map, map-append}
use Rattle.std.proofs.lemmas.Option.{same_Some, none-some}
use Rattle.sw_base.specs.declared.path.Step.{Step}
use Rattle.log_format.specs.declared.record.Record.{Record}
use Rattle.race_model.specs.Trace.{Logs}
use Rattle.kernel_syntax.specs.Program.{Program}
use Rattle.kernel_model.specs.State.{Fork}
use Rattle.kernel_model.specs.Trace.{Start}
use Rattle.kernel_model.specs.Folder.{own_trace, root_start, lane_start, start_at}
use Rattle.kernel_model.proofs.Starts.{at_root, at_lane}
use Rattle.log_replay.specs.Ancestors.{ComparesTask, GoesOn, IsFoundOf, KeepsForks, KeepsAllForks, forks_kept, trace_from}
use Rattle.log_replay.specs.Differing.{DiffersAt}
use Rattle.log_replay.specs.Following.{HasEnd}
use Rattle.log_replay.specs.Forks.{fork_of}
use Rattle.log_replay.specs.Task.{IsFollowed, StraysSo}
use Rattle.log_replay.specs.declared.stray.Stray.{Stray}
use Rattle.log_replay.specs.declared.stray.Stray.TheVariants as stray
use Rattle.log_replay.specs.declared.forked.Forked.{Forked}

no_steps : (path : List Step) → length path ≡ 0 → path ≡ []
no_steps [] is = refl
no_steps (s ∷ path) is = absurd (omega (arith, is))

module _ (program : Program) (logs : Logs) where
  -- the same regions and the same path
  pub kept_so : (kept other : List (Vec Forked)) (path same : List Step) → kept ≡ other → path ≡ same → KeepsAllForks program logs (forks_kept kept) path → KeepsAllForks program logs (forks_kept other) same
  kept_so kept other path same one two keeps =
      subst (λ (k : List (Vec Forked)). KeepsAllForks program logs (forks_kept k) same) one (subst (λ (p : List Step). KeepsAllForks program logs (forks_kept kept) p) two keeps)

  pub root_starts : (path : List Step) → length path ≡ 0 → Some (root_start program) ≡ start_at program logs path
  root_starts path is = sym (ap (λ (p : List Step). start_at program logs p) (no_steps path is) ∙ at_root program logs)

  module _ (kept : List (List Fork)) (path above : List Step) (step : Step) (is : path ≡ above ++ step ∷ []) (keeps : KeepsAllForks program logs kept path) where
    pub kept_above : KeepsForks program logs kept above (length above)
    kept_above =
        let more : length path ≡ length above + 1 = ap length is ∙ length-append above (step ∷ []) in
        subst (λ (p : List Step). KeepsForks program logs kept p (length above))
        (ap (λ (p : List Step). take (length above) p) is ∙ take_at above (step ∷ []) (length above) refl)
        (keeps (length above) (omega (arith, more)))

    pub lane_starts : (forks : List Fork) → slice_get kept (length above) ≡ Some forks → lane_start (slice_get forks step.region) step ≡ start_at program logs path
    lane_starts forks found =
        let k = kept_above in
        let same = same_Some forks (own_trace program k.start (logs above)).forks (sym found ∙ k.forks) in
        ap (λ (fs : List Fork). lane_start (slice_get fs step.region) step) same
        ∙ sym (at_lane program logs above k.start step k.starts)
        ∙ ap (λ (p : List Step). start_at program logs p) (sym is)

    pub some_kept : slice_get kept (length above) ≡ None → ⊥
    some_kept none = let k = kept_above in none-some (own_trace program k.start (logs above)).forks (sym none ∙ k.forks)

first_differs : (log : List Record) → HasEnd log → DiffersAt [] log 1
first_differs [] ahead = absurd ahead
first_differs (r ∷ rest) ahead = record { before = []; others = []; theirs = r; rest = rest; trace_is = refl; log_is = refl; apart = λ more same. cc same; number_is = refl }

-- ---- one task more

pub kept_next : (old new : List (Vec Forked)) (n : ℕ) (forks : Vec Forked) → new ≡ take n old ++ forks ∷ [] → forks_kept new ≡ take n (forks_kept old) ++ map fork_of forks.items ∷ []
kept_next old new n forks is =
    ap (λ (l : List (Vec Forked)). forks_kept l) is
    ∙ map-append (λ (f : Vec Forked). map fork_of f.items) (take n old) (forks ∷ [])
    ∙ ap (λ (l : List (List Fork)). l ++ map fork_of forks.items ∷ []) (sym (take-map (λ (f : Vec Forked). map fork_of f.items) n old))

module _ (program : Program) (logs : Logs) (path : List Step) where
  -- no task forks it
  pub none_differs : None ≡ start_at program logs path → HasEnd (logs path) → DiffersAt (trace_from program (start_at program logs path) (logs path)) (logs path) 1
  none_differs is ahead = subst (λ (o : Option Start). DiffersAt (trace_from program o (logs path)) (logs path) 1) is (first_differs (logs path) ahead)

  module _ (start : Start) (is : Some start ≡ start_at program logs path) where
    pub some_differs : (number : ℕ) → DiffersAt (own_trace program start (logs path)).records (logs path) number → DiffersAt (trace_from program (start_at program logs path) (logs path)) (logs path) number
    some_differs number differs = subst (λ (o : Option Start). DiffersAt (trace_from program o (logs path)) (logs path) number) is differs

    pub goes_on : (forks : List Fork) (old new : List (List Fork)) → IsFollowed program start (logs path) forks → new ≡ take (length path) old ++ forks ∷ [] → GoesOn program logs path old new
    goes_on forks old new followed kept = record {
      start = start;
      starts = sym is;
      traced = followed.traced;
      kept = kept ∙ ap (λ (fs : List Fork). take (length path) old ++ fs ∷ []) (sym followed.forks_are);
    }

    pub stray_found : (old new : List (List Fork)) (e : Stray) (found : Option ℕ) → IsFoundOf e found → StraysSo program start (logs path) e → ComparesTask program logs path old new found
    stray_found old new (stray.Differs number) found same strays = subst (λ (o : Option ℕ). ComparesTask program logs path old new o) (sym same) (some_differs number strays)
    stray_found old new stray.ReadFault found same strays = absurd same
    stray_found old new stray.Memory found same strays = absurd same
