-- The first lanes of a task's regions, as they come in a listing.
use Rattle.std.proofs.Common.{◌≡◌, inl, inr, ℕ, zero, suc, ◌+◌, ◌<◌, ◌≤◌, List, [], ◌∷◌, ◌++◌, length, take, map, Some, refl, sym, ap, subst, ◌∙◌, arith, get_or}
use Rattle.std.specs.Prelude.{slice_get, Contains, Option, option_map}
use Rattle.std.proofs.lemmas.Bool.{cases_order}
use Rattle.std.proofs.lemmas.List.{take_more, take_all, length_push, length-map, get_or-map, same_from_push}
use Rattle.std.proofs.lemmas.Option.{same_Some, slice_get_within, slice_get-get_or, slice_get-map, get_or_from_slice_get}
use Rattle.sw_base.specs.declared.path.Step.{Step}
use Rattle.sw_base.specs.Names.{IsUnder}
use Rattle.race_model.specs.Row.{Row}
use Rattle.race_model.specs.Listing.{IsListing, lane_of}
use Rattle.race_model.specs.LogFault.{ListsRegion, ListsSpans}
use Rattle.race_model.specs.IndexFault.{AreRows}
use Rattle.race_laws.proofs.Listed.{AreSpans, HasSpans, spans_listed}
use Rattle.log_walk.proofs.RowOrder.{PathBefore, listing_sorted, listed_once, lane_not_before, step_trans, not_before_itself}
use Rattle.log_walk.proofs.SoFar.{below_or_at}

-- what lies between a task and a lane of its regions is under the task
pub between : (p q : List Step) (s : Step) → PathBefore p q → PathBefore q (p ++ s ∷ []) → IsUnder q p
between [] [] s one other = absurd one
between [] (t ∷ q) s one other = record { first = t; rest = q; parts = refl }
between (x ∷ p) [] s one other = absurd one
between (x ∷ p) (t ∷ q) s (inl one) (inl other) = absurd (not_before_itself x x refl (step_trans x t x one other))
between (x ∷ p) (t ∷ q) s (inl one) (inr (same, other)) = absurd (not_before_itself x t (sym same) one)
between (x ∷ p) (t ∷ q) s (inr (same, one)) (inl other) = absurd (not_before_itself t x (sym same) other)
between (x ∷ p) (t ∷ q) s (inr (same, one)) (inr (again, other)) =
    let rest = between p q s one other in
    record { first = rest.first; rest = rest.rest; parts = ap (λ (ts : List Step). t ∷ ts) rest.parts ∙ ap (λ (y : Step). y ∷ (p ++ rest.first ∷ rest.rest)) (sym same) }

-- a lane isn't listed before its task
pub not_before_above : (p : List Step) (s : Step) → PathBefore (p ++ s ∷ []) p → ⊥
not_before_above [] s before = before
not_before_above (x ∷ p) s (inl less) = not_before_itself x x refl less
not_before_above (x ∷ p) s (inr (same, less)) = not_before_above p s less

longer : (p : List Step) (s : Step) → p ++ s ∷ [] ≡ p → ⊥
longer p s same = absurd (omega (arith, ap (λ (q : List Step). length q) same, length_push p s))

abbrev pub row_path : Row → List Step
row_path row = row.path

abbrev pub paths_of : List Row → List (List Step)
paths_of rows = map row_path rows

-- the spans of the regions whose first lane stands before a place of the listing
pub record SpansSoFar (paths : List (List Step)) (path : List Step) (all : List ℕ) (at : ℕ) (spans : List ℕ) : Type 0 where
  pub prefix : spans ≡ take (length spans) all
  pub few : length spans ≤ length all
  pub seen : (region j span : ℕ) → slice_get paths j ≡ Some (lane_of path region 0 span) → j < at → region < length spans
  pub past : (region j span : ℕ) → slice_get paths j ≡ Some (lane_of path region 0 span) → region < length spans → j < at

-- before the first lane
pub spans_start : (paths : List (List Step)) (path : List Step) (all : List ℕ) (index : ℕ) → IsListing paths → slice_get paths index ≡ Some path → SpansSoFar paths path all (index + 1) []
spans_start paths path all index lists here = record {
  prefix = refl;
  few = omega arith;
  seen = λ region j span found before. absurd (elim (below_or_at j index before) [
    | inl less ↦ not_before_above path _ (listing_sorted paths j index _ path lists less found here)
    | inr same ↦ longer path _ (same_Some _ path (sym found ∙ ap (λ (k : ℕ). slice_get paths k) same ∙ here))
  ]);
  past = λ region j span found less. absurd (omega arith);
}

-- past a row that is no first lane
pub spans_skip : (paths : List (List Step)) (path : List Step) (all : List ℕ) (at : ℕ) (spans : List ℕ) (here : List Step) → SpansSoFar paths path all at spans → slice_get paths at ≡ Some here
    → ((region span : ℕ) → here ≡ lane_of path region 0 span → ⊥) → SpansSoFar paths path all (at + 1) spans
spans_skip paths path all at spans here so found other = record {
  prefix = so.prefix;
  few = so.few;
  seen = λ region j span lane before. elim (below_or_at j at before) [
    | inl less ↦ so.seen region j span lane less
    | inr same ↦ absurd (other region span (same_Some here _ (sym found ∙ ap (λ (k : ℕ). slice_get paths k) (sym same) ∙ lane)))
  ];
  past = λ region j span lane less. omega (arith, so.past region j span lane less);
}

-- a listed path has a place
pub place_of : (paths : List (List Step)) (p : List Step) → Contains paths p → (j : ℕ) × (slice_get paths j ≡ Some p)
place_of [] p (j, within, is) = absurd (omega arith)
place_of (q ∷ paths) p (zero, within, is) = (0, ap (λ (x : List Step). Some x) is)
place_of (q ∷ paths) p (suc j, within, is) = let at = place_of paths p (j, omega arith, is) in (suc at.0, at.1)

pub contains_at : (paths : List (List Step)) (j : ℕ) (p : List Step) → slice_get paths j ≡ Some p → Contains paths p
contains_at paths j p found = (j, slice_get_within paths j p found, get_or_from_slice_get paths j p p found)

-- the first lane of a later region isn't met before that of the next one
not_later : (paths : List (List Step)) (path : List Step) (all : List ℕ) (at : ℕ) (spans : List ℕ) (region span : ℕ) → IsListing paths → AreSpans paths path all → SpansSoFar paths path all at spans
    → slice_get paths at ≡ Some (lane_of path region 0 span) → length spans < region → region < length all → ⊥
not_later paths path all at spans region span lists are so found more inside =
    let next_span : ℕ = get_or all (length spans) 0 in
    let lane = place_of paths _ (are.lists (length spans) (get_or all (length spans) 0) (slice_get-get_or all (length spans) 0 (omega arith))) in
    elim (cases_order lane.0 at) [
      | inl same ↦
          let steps = (same_from_push path path _ _ (same_Some _ _ (sym lane.1 ∙ ap (λ (k : ℕ). slice_get paths k) same ∙ found))).1 in
          absurd (omega (arith, ap (λ (s : Step). s.region) steps))
      | inr either ↦ elim either [
        | inl less ↦ absurd (omega (arith, so.seen (length spans) lane.0 (get_or all (length spans) 0) lane.1 less))
        | inr later ↦
            lane_not_before path _ _ (λ before. elim before [ inl region ↦ absurd (omega arith) | inr lanes ↦ absurd (omega (arith, lanes.0)) ])
            (λ same. absurd (omega (arith, ap (λ (s : Step). s.region) same)))
            (listing_sorted paths at lane.0 _ _ lists later found lane.1)
      ]
    ]

-- a first lane is that of the next region
next_region : (paths : List (List Step)) (path : List Step) (all : List ℕ) (at : ℕ) (spans : List ℕ) (region span : ℕ) → IsListing paths → AreSpans paths path all → SpansSoFar paths path all at spans
    → slice_get paths at ≡ Some (lane_of path region 0 span) → region ≡ length spans
next_region paths path all at spans region span lists are so found = elim (cases_order region (length spans)) [
  | inl same ↦ same
  | inr either ↦ elim either [
    | inl less ↦ absurd (omega (arith, so.past region at span found less))
    | inr more ↦ absurd (not_later paths path all at spans region span lists are so found more (slice_get_within all region span (are.listed region 0 span (contains_at paths at _ found))))
  ]
]

-- past a first lane
pub spans_push : (paths : List (List Step)) (path : List Step) (all : List ℕ) (at : ℕ) (spans : List ℕ) (region span : ℕ) → IsListing paths → AreSpans paths path all → SpansSoFar paths path all at spans
    → slice_get paths at ≡ Some (lane_of path region 0 span) → SpansSoFar paths path all (at + 1) (spans ++ span ∷ [])
spans_push paths path all at spans region span lists are so found = pushed (next_region paths path all at spans region span lists are so found) (are.listed region 0 span (contains_at paths at _ found)) where
  pushed : region ≡ length spans → slice_get all region ≡ Some span → SpansSoFar paths path all (at + 1) (spans ++ span ∷ [])
  pushed number listed =
      let there : slice_get all (length spans) ≡ Some span = ap (λ (k : ℕ). slice_get all k) (sym number) ∙ listed in
      record {
        prefix = ap (λ (xs : List ℕ). xs ++ span ∷ []) so.prefix
            ∙ ap (λ (n : ℕ). take (length spans) all ++ n ∷ []) (sym (get_or_from_slice_get all (length spans) span span there))
            ∙ sym (take_more all (length spans) span (slice_get_within all (length spans) span there))
            ∙ ap (λ (n : ℕ). take n all) (sym (length_push spans span));
        few = omega (arith, length_push spans span, slice_get_within all (length spans) span there);
        seen = λ other j width lane before. elim (below_or_at j at before) [
          | inl less ↦ omega (arith, length_push spans span, so.seen other j width lane less)
          | inr same ↦
              let steps = (same_from_push path path _ _ (same_Some _ _ (sym lane ∙ ap (λ (k : ℕ). slice_get paths k) same ∙ found))).1 in
              omega (arith, length_push spans span, number, ap (λ (s : Step). s.region) steps)
        ];
        past = λ other j width lane less. elim (below_or_at other (length spans) (omega (arith, length_push spans span))) [
          | inl under ↦ omega (arith, so.past other j width lane under)
          | inr same ↦
              let width_is : width ≡ span = same_Some width span (sym (are.listed other 0 width (contains_at paths j _ lane)) ∙ ap (λ (k : ℕ). slice_get all k) same ∙ there) in
              let lanes : lane_of path other 0 width ≡ lane_of path region 0 span
              = ap (λ (n : ℕ). lane_of path n 0 width) (same ∙ sym number) ∙ ap (λ (n : ℕ). lane_of path region 0 n) width_is in
              let place : j ≡ at = listed_once paths j at (lane_of path region 0 span) lists (lane ∙ ap (λ (p : List Step). Some p) lanes) found in
              omega (arith, place)
        ];
      }

-- the rows that list a region, and the paths that do
lists_spans : (rows : List Row) (path : List Step) (all : List ℕ) → AreSpans (paths_of rows) path all → ListsSpans rows path all
lists_spans rows path all are region span = (to, from) where
  to : ListsRegion rows path region span → slice_get all region ≡ Some span
  to is = are.listed region is.lane span
      (is.listed.0, omega (arith, length-map rows row_path, is.listed.1), get_or-map row_path rows is.listed.0 is.row (lane_of path region is.lane span) is.listed.1 ∙ ap row_path is.listed.2 ∙ is.child)

  row_in : (xs : List Row) (p : List Step) → Contains (paths_of xs) p → (row : Row) × Contains xs row × (row.path ≡ p)
  row_in [] p (j, within, is) = absurd (omega arith)
  row_in (x ∷ xs) p (zero, within, is) = (x, (0, omega arith, refl), is)
  row_in (x ∷ xs) p (suc j, within, is) = let at = row_in xs p (j, omega arith, is) in (at.0, (suc at.1.0, omega (arith, at.1.1), at.1.2), at.2)

  from : slice_get all region ≡ Some span → ListsRegion rows path region span
  from found = let at = row_in rows (lane_of path region 0 span) (are.lists region span found) in record { lane = 0; row = at.0; listed = at.1; child = at.2 }

-- all regions were met
all_met : (rows : List Row) (path : List Step) (all : List ℕ) (at : ℕ) (spans : List ℕ) → AreSpans (paths_of rows) path all → SpansSoFar (paths_of rows) path all at spans
    → ((region j span : ℕ) → slice_get (paths_of rows) j ≡ Some (lane_of path region 0 span) → j < at) → ListsSpans rows path spans
all_met rows path all at spans are so met = subst (λ (xs : List ℕ). ListsSpans rows path xs) (sym same) (lists_spans rows path all are) where
  no_more : length spans < length all → ⊥
  no_more less =
      let lane = place_of (paths_of rows) _ (are.lists (length spans) (get_or all (length spans) 0) (slice_get-get_or all (length spans) 0 less)) in
      absurd (omega (arith, so.seen (length spans) lane.0 (get_or all (length spans) 0) lane.1 (met (length spans) lane.0 (get_or all (length spans) 0) lane.1)))

  all_of_them : length all ≤ length spans
  all_of_them = elim (cases_order (length spans) (length all)) [
    | inl even ↦ omega arith
    | inr either ↦ elim either [ inl less ↦ absurd (no_more less) | inr more ↦ omega arith ]
  ]

  same : spans ≡ all
  same = so.prefix ∙ take_all (length spans) all all_of_them

-- what the rows told so far, for the spans that they list
abbrev pub Met : List Row → List Step → ℕ → List ℕ → Type 0
Met rows path at spans = (all : List ℕ) → AreSpans (paths_of rows) path all → SpansSoFar (paths_of rows) path all at spans

has_spans : (rows : List Row) (index : ℕ) (task : Row) → AreRows rows → slice_get rows index ≡ Some task → HasSpans (paths_of rows) task.path
has_spans rows index task good found = spans_listed (paths_of rows) task.path good.lists (contains_at (paths_of rows) index task.path (slice_get-map row_path rows index ∙ ap (λ (o : Option Row). option_map row_path o) found))

pub path_found : (rows : List Row) (index : ℕ) (task : Row) → slice_get rows index ≡ Some task → slice_get (paths_of rows) index ≡ Some task.path
path_found rows index task found = slice_get-map row_path rows index ∙ ap (λ (o : Option Row). option_map row_path o) found

pub met_start : (rows : List Row) (index : ℕ) (task : Row) → AreRows rows → slice_get rows index ≡ Some task → Met rows task.path (index + 1) []
met_start rows index task good found all are = spans_start (paths_of rows) task.path all index good.lists (path_found rows index task found)

pub met_skip : (rows : List Row) (path : List Step) (at : ℕ) (spans : List ℕ) (here : Row) → slice_get rows at ≡ Some here → Met rows path at spans
    → ((region span : ℕ) → here.path ≡ lane_of path region 0 span → ⊥) → Met rows path (at + 1) spans
met_skip rows path at spans here found met other all are = spans_skip (paths_of rows) path all at spans here.path (met all are) (path_found rows at here found) other

pub met_push : (rows : List Row) (path : List Step) (at : ℕ) (spans : List ℕ) (here : Row) (region span : ℕ) → AreRows rows → slice_get rows at ≡ Some here → Met rows path at spans
    → here.path ≡ lane_of path region 0 span → Met rows path (at + 1) (spans ++ span ∷ [])
met_push rows path at spans here region span good found met lane all are =
    spans_push (paths_of rows) path all at spans region span good.lists are (met all are) (path_found rows at here found ∙ ap (λ (p : List Step). Some p) lane)

-- the rows end
pub met_all : (rows : List Row) (index : ℕ) (task : Row) (at : ℕ) (spans : List ℕ) → AreRows rows → slice_get rows index ≡ Some task → Met rows task.path at spans → length rows ≤ at → ListsSpans rows task.path spans
met_all rows index task at spans good found met ended =
    let has = has_spans rows index task good found in
    all_met rows task.path has.spans at spans has.are (met has.spans has.are) (λ region j span lane. omega (arith, slice_get_within (paths_of rows) j _ lane, length-map rows row_path))

-- a row that isn't under the task comes after all its lanes
pub met_under : (rows : List Row) (index : ℕ) (task : Row) (at : ℕ) (here : Row) (spans : List ℕ) → AreRows rows → slice_get rows index ≡ Some task → index < at → slice_get rows at ≡ Some here
    → Met rows task.path at spans → (IsUnder here.path task.path → ⊥) → ListsSpans rows task.path spans
met_under rows index task at here spans good found later there met outside =
    let has = has_spans rows index task good found in
    all_met rows task.path has.spans at spans has.are (met has.spans has.are) (λ region j span lane. elim (cases_order j at) [
      | inl same ↦
          absurd (outside (record { first = _; rest = []; parts = same_Some here.path _ (sym (path_found rows at here there) ∙ ap (λ (k : ℕ). slice_get (paths_of rows) k) (sym same) ∙ lane) }))
      | inr either ↦ elim either [
        | inl less ↦ less
        | inr more ↦
            absurd (outside (between task.path here.path _
            (listing_sorted (paths_of rows) index at task.path here.path good.lists later (path_found rows index task found) (path_found rows at here there))
            (listing_sorted (paths_of rows) at j here.path _ good.lists more (path_found rows at here there) lane)))
      ]
    ])
