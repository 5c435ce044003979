use Rattle.log_segment.specs.Regions.{IsUnderRegion}
use Rattle.pair_compare.proofs.FirstRegion.{all_regions, next_region, next_regions, no_region}
use Rattle.pair_compare.proofs.Races.{pairs_iff_races, pairs_iff_whole}
use Rattle.pair_compare.proofs.regions.pairs_are_races.Goals as goal

pub returns : goal.returns
returns c = record {
  whole = pairs_iff_whole;
  one_region = λ logs region segments pair tree are. pairs_iff_races logs (IsUnderRegion region) segments pair tree are;
  no_region = no_region;
  next_region = next_region;
  next_regions = next_regions;
  all_regions = all_regions;
}
