-- Where no memory was found, all logs of a task may be missing.
use Rattle.std.proofs.Common.{ℕ, suc, ◌+◌, List, []}
use Rattle.std.specs.List.{flat_map}
use Rattle.sw_base.specs.declared.path.Step.{Step}
use Rattle.race_model.specs.Listing.{lane_of}
use Rattle.history_model.specs.Work.{Work, RegionWork, work_regions, lane_works}
use Rattle.lane_runner.specs.Handed.{HandedEntry, LogPlace, MaybeStop, IsForMemory, TaskHands, RegionsHand, LanesHand}

module _ (place : LogPlace) (stop other : MaybeStop) (wanted : IsForMemory other) where
  mutual
    task_missing : (path : List Step) (works : List Work) (es : List HandedEntry) → TaskHands place stop path works es → TaskHands place other path works []
    task_missing _ _ _ (TaskHands.given path works e below is hand) = TaskHands.missing path works [] wanted (hands_missing path 0 (flat_map work_regions works) below hand)
    task_missing _ _ _ (TaskHands.missing path works below none hand) = TaskHands.missing path works [] wanted (hands_missing path 0 (flat_map work_regions works) below hand)

    pub hands_missing : (path : List Step) (number : ℕ) (regions : List RegionWork) (es : List HandedEntry) → RegionsHand place stop path number regions es → RegionsHand place other path number regions []
    hands_missing _ _ _ _ (RegionsHand.no_region path number) = RegionsHand.no_region path number
    hands_missing _ _ _ _ (RegionsHand.region path number first regions mine others lanes later) =
        RegionsHand.region path number first regions [] [] (lanes_missing path number first 0 first.span mine lanes) (hands_missing path (number + 1) regions others later)

    lanes_missing : (path : List Step) (number : ℕ) (region : RegionWork) (lane left : ℕ) (es : List HandedEntry) → LanesHand place stop path number region lane left es → LanesHand place other path number region lane left []
    lanes_missing _ _ _ _ _ _ (LanesHand.no_lane path number region lane) = LanesHand.no_lane path number region lane
    lanes_missing _ _ _ _ _ _ (LanesHand.lane path number region lane left mine others hand later) =
        LanesHand.lane path number region lane left [] [] (task_missing (lane_of path number lane region.span) (lane_works lane region.phases) mine hand)
        (lanes_missing path number region (suc lane) left others later)
