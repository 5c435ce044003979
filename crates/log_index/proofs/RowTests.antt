-- The first test that a row fails.
use Rattle.std.proofs.Common.{◌≡◌, Bool, true, false, List, [], ◌∷◌, ◌++◌, All, map, sym, ap, subst, ◌∙◌, ◌<◌, arith}
use Rattle.std.proofs.lemmas.List.{map-append}
use Rattle.sw_base.specs.declared.path.Step.{Step}
use Rattle.race_model.specs.declared.why.IndexWhy.{IndexWhy}
use Rattle.race_model.specs.declared.why.IndexWhy.TheVariants.{Old, Header, TooMany, Cut, Depth, Span, Lane, Order, Records}
use Rattle.race_model.specs.BadPlace.{index_rank}
use Rattle.race_model.specs.Row.{Row, RawRow, used, raw_of}
use Rattle.race_model.specs.Listing.{BeginsListing}
use Rattle.race_model.specs.IndexFault.{HasDepth, HasRegionSpan, HasLaneInSpan, HasRecords, RowPasses}
use Rattle.race_laws.proofs.IndexPlaces.{used-raws_of}
use Rattle.log_index.specs.Rows.{FailsTestFirst}
use Rattle.race_model.specs.Row.{row_path}

pub not_both : {b : Bool} → b ≡ true → b ≡ false → ⊥
not_both one other = cc

-- the paths up to a row, from the rows or as they stand in the file
pub paths_same : (before : List Row) (row : RawRow) → map used (map raw_of before ++ row ∷ []) ≡ map row_path before ++ used row ∷ []
paths_same before row = map-append used (map raw_of before) (row ∷ []) ∙ ap (λ (paths : List (List Step)). paths ++ used row ∷ []) (used-raws_of before)

module _ (before : List Row) (row : RawRow) (depth : HasDepth row) (spans : All HasRegionSpan (used row)) (lanes : All HasLaneInSpan (used row)) where
  pub order_fails : (BeginsListing (map row_path before ++ used row ∷ []) → ⊥) → FailsTestFirst (map raw_of before) row Order
  order_fails not = record { fails = λ begins. not (subst (λ (paths : List (List Step)). BeginsListing paths) (paths_same before row) begins); passed = passed } where
    passed : (other : IndexWhy) → index_rank other < 7 → RowPasses (map raw_of before) row other
    passed Old less = tt
    passed Header less = tt
    passed TooMany less = tt
    passed Cut less = tt
    passed Depth less = depth
    passed Span less = spans
    passed Lane less = lanes
    passed Order less = absurd (omega arith)
    passed Records less = absurd (omega arith)

  module _ (begins : BeginsListing (map row_path before ++ used row ∷ [])) where
    order : BeginsListing (map used (map raw_of before ++ row ∷ []))
    order = subst (λ (paths : List (List Step)). BeginsListing paths) (sym (paths_same before row)) begins

    pub records_fail : (HasRecords row.records → ⊥) → FailsTestFirst (map raw_of before) row Records
    records_fail not = record { fails = not; passed = passed } where
      passed : (other : IndexWhy) → index_rank other < 8 → RowPasses (map raw_of before) row other
      passed Old less = tt
      passed Header less = tt
      passed TooMany less = tt
      passed Cut less = tt
      passed Depth less = depth
      passed Span less = spans
      passed Lane less = lanes
      passed Order less = order
      passed Records less = absurd (omega arith)

    pub all_pass : HasRecords row.records → (why : IndexWhy) → RowPasses (map raw_of before) row why
    all_pass records Old = tt
    all_pass records Header = tt
    all_pass records TooMany = tt
    all_pass records Cut = tt
    all_pass records Depth = depth
    all_pass records Span = spans
    all_pass records Lane = lanes
    all_pass records Order = order
    all_pass records Records = records
