-- A region none of whose lanes executed anything.
use Rattle.std.proofs.Common.{◌≡◌, refl, inl, ap, sym, ◌∙◌, subst, ℕ, zero, suc, ◌+◌, ◌==◌, true, List, [], ◌∷◌, ◌++◌, ℤ, Some, None, Err, arith}
use Rattle.std.specs.Prelude.{All, count_by, map, slice_get}
use Rattle.std.specs.List.{flat_map, range_with_len}
use Rattle.std.proofs.lemmas.List.{append-nil}
use Rattle.std.proofs.lemmas.List.Elements.{All-nil, All-cons}
use Rattle.std.proofs.lemmas.Option.{same_Some}
use Rattle.sw_base.specs.declared.path.Step.{Step}
use Rattle.sw_base.specs.declared.trouble.Trouble.TheVariants as trouble
use Rattle.log_format.specs.declared.record.Record.{Record}
use Rattle.race_model.specs.Draws.{closed_loops, loop_draws, times_drawn}
use Rattle.race_model.specs.Listing.{lane_of}
use Rattle.event_buffer.specs.Buffered.{Buffered}
use Rattle.kernel_syntax.specs.Tree.{TeamTree}
use Rattle.kernel_model.specs.Folder.{own_trace}
use Rattle.kernel_model.specs.Trace.{Ending}
use Rattle.shared_words.specs.declared.view.View.{View}
use Rattle.shared_words.specs.Handles.{HandValue, with_view}
use Rattle.history_model.specs.Work.{Phases, NoPhase, RegionWork, lane_works}
use Rattle.execution_model.specs.Execution.{DrewSome}
use Rattle.execution_model.specs.Runs.{RunsTask, RunsRegions, lane_begin, region_logs, works_log}
use Rattle.lane_runner.specs.declared.stop.Stop.{Stop}
use Rattle.lane_runner.specs.declared.stop.Stop.TheVariants as stop
use Rattle.lane_runner.specs.Forking.{Answer, EndsAs, RanRegion, stop_in}
use Rattle.lane_runner.specs.Handed.{HandedEntry, LogPlace, MaybeStop, IsForMemory, HandsOn, TaskHands, RegionsHand, LanesHand, log_place}
use Rattle.lane_runner.specs.Stopping.{IsInRegion}
use Rattle.lane_runner.specs.World.{WorldValue}
use Rattle.lane_runner.proofs.Working.{hand_still, view_same}

no_draws : (loop : ℕ) → loop_draws loop [] ≡ []
no_draws zero = refl
no_draws (suc k) = refl

drawn_none : (loop number : ℕ) (lanes : List ℕ) → times_drawn loop (map (λ (lane : ℕ). works_log []) lanes) number ≡ 0
drawn_none loop number [] = refl
drawn_none loop number (x ∷ lanes) =
    subst (λ (ns : List ℕ). count_by (λ (n : ℕ). n == number) (ns ++ flat_map (loop_draws loop) (map (λ (lane : ℕ). works_log []) lanes)) ≡ 0) (sym (no_draws loop))
    (drawn_none loop number lanes)

abbrev HasNone : ℕ → List Record → Type 0
HasNone loop records = (m : ℕ) → slice_get (closed_loops records) loop ≡ Some m → m ≡ 0

closed_none : (loop : ℕ) (lanes : List ℕ) → All (HasNone loop) (map (λ (lane : ℕ). works_log []) lanes)
closed_none loop [] = All-nil (HasNone loop)
closed_none loop (x ∷ lanes) = All-cons (HasNone loop) [] (map (λ (lane : ℕ). works_log []) lanes) (λ m found. cc) (closed_none loop lanes)

drew_none : (span loop : ℕ) → DrewSome (region_logs NoPhase span) loop
drew_none span loop = record {
  limit = 0;
  drew = record {
    once = λ number less. absurd (let no : ⊥ = omega (arith, less) in no);
    no_other = λ number past. drawn_none loop number (range_with_len 0 span);
    closed = closed_none loop (range_with_len 0 span);
  };
}

-- no lane hands on a log
lanes_none : (place : LogPlace) (stopped : MaybeStop) (path : List Step) (number : ℕ) (region : RegionWork) → IsForMemory stopped → region.phases ≡ NoPhase → (lane left : ℕ) → LanesHand place stopped path number region lane left []
lanes_none place stopped path number region none empty lane zero = LanesHand.no_lane path number region lane
lanes_none place stopped path number region none empty lane (suc left) =
    LanesHand.lane path number region lane left [] []
    (subst (λ (phases : Phases). TaskHands place stopped (lane_of path number lane region.span) (lane_works lane phases) []) (sym empty)
    (TaskHands.missing (lane_of path number lane region.span) [] [] none (RegionsHand.no_region (lane_of path number lane region.span) 0)))
    (lanes_none place stopped path number region none empty (suc lane) left)

module _ (w : WorldValue) (team : TeamTree) (slots : List ℤ) (task : Buffered) (number : ℕ) (hand : HandValue View) (before later : List HandedEntry) (there : hand.there ≡ true) where
  -- its logs and its answer are all that is to be told
  pub nothing_ran : (r : Answer) → EndsAs w.arrays task.path number (record { team = team; slots = slots }) NoPhase r → HandsOn (log_place task) (stop_in r) task.path number (record { span = team.span; phases = NoPhase } ∷ []) before later
      → RanRegion w team slots task number hand hand before later r
  nothing_ran r ends handed = record {
    phases = NoPhase;
    sound = tt;
    hand = hand_still hand there ∙ ap (λ (v : View). with_view hand v) (view_same hand.view hand.view.splits (hand.view.splits + 0) hand.view.items (hand.view.items ++ []) (omega arith) (sym (append-nil hand.view.items)));
    lanes = λ program is lane less.
        let start = lane_begin (record { team = team; slots = slots }) lane in
        RunsTask.runs start [] [] (own_trace program start []).forks (record { rest = (own_trace program start []).records; begins = refl }) (inl refl) refl RunsRegions.no_region;
    drawn = λ program is loop. drew_none team.span loop;
    joined = tt;
    ends = ends;
    handed = handed;
  }

  -- no memory was found for it
  pub no_memory_for : (path : List Step) → IsInRegion task.path number team.span path → later ≡ before → RanRegion w team slots task number hand hand before later (Err (path, stop.Trouble trouble.Memory))
  no_memory_for path inside kept =
      nothing_ran (Err (path, stop.Trouble trouble.Memory)) (record { inside = inside; traced = λ program same end some. absurd (no_end some); crowded = λ line is. absurd cc; least = λ other. absurd other })
      (record {
        added = [];
        grows = kept ∙ sym (append-nil before);
        hands =
            RegionsHand.region task.path number (record { span = team.span; phases = NoPhase }) [] [] []
            (lanes_none (log_place task) (Some (path, stop.Trouble trouble.Memory)) task.path number (record { span = team.span; phases = NoPhase }) refl refl 0 team.span) (RegionsHand.no_region task.path (number + 1));
        tell = record { failed = λ p told. absurd (other_trouble _ _ (same_Some _ _ told) refl refl); crowded = λ p line told. absurd (other_stop _ _ line (same_Some _ _ told) refl refl) };
      })
    where
      no_end : {end : Ending} → None ≡ Some end → ⊥
      no_end e = cc

      other_trouble : (a b : List Step × Stop) → a ≡ b → a.1 ≡ stop.Trouble trouble.Memory → b.1 ≡ stop.Trouble trouble.Failed → ⊥
      other_trouble a b e one two = let same_stop = ap (λ (x : List Step × Stop). x.1) e in cc

      other_stop : (a b : List Step × Stop) (line : ℕ) → a ≡ b → a.1 ≡ stop.Trouble trouble.Memory → b.1 ≡ stop.Tasks line → ⊥
      other_stop a b line e one two = let same_stop = ap (λ (x : List Step × Stop). x.1) e in cc
