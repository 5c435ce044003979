-- Two accesses that race are in tasks under one region of the root.
use Rattle.std.proofs.Common.{◌≡◌, ◌⊎◌, ◌↔◌, ℕ, ◌+◌, ◌%◌, ◌<◌, ◌≤◌, List, [], ◌∷◌, ◌++◌, Contains, inl, inr, refl, sym, ap, ◌∙◌, subst, arith}
use Rattle.sw_base.specs.declared.path.Step.{Step}
use Rattle.log_segment.specs.Intervals.{AreSegments}
use Rattle.log_segment.specs.Regions.{IsUnderRegion}
use Rattle.log_segment.specs.declared.segment.Segment.{Segment}
use Rattle.race_model.specs.ForkJoin.{IsForkJoin, IsTask}
use Rattle.race_model.specs.Label.{IsConcurrent, IsLabel, IsLabelBefore, Triple, lane_triple}
use Rattle.race_model.specs.Race.{IsRacePair}
use Rattle.race_model.specs.Trace.{Logs, Node, IsThere, regions_before}
use Rattle.race_laws.proofs.LabelLaw.{unordered_concurrent}
use Rattle.race_laws.proofs.LabelPlace.{label_exists}
use Rattle.std.proofs.lemmas.Bool.{cases_lt}
use Rattle.std.proofs.lemmas.List.Elements.{Contains-append_cases, Contains-append_left, Contains-append_right}
use Rattle.std.proofs.lemmas.Option.{slice_get_within}
use Rattle.pair_compare.proofs.Members.{concurrent_sym}
use Rattle.pair_compare.specs.Compare.{IsSegmentPair}
use Rattle.pair_compare.specs.Conflict.{AddsPairs}
use Rattle.pair_compare.specs.Regions.{IsRacePairAmong, IsRacePairBelow, IsUnderRegions}
use Rattle.pair_compare.proofs.Races.{pairs_iff_races}

abbrev root_triple : ℕ → Triple
root_triple regions = record { offset = regions; span = 1; barrier = 0 }

-- the label of a record under a region of the root
record InRegion (x : Node) (label : List Triple) : Type 0 where
  pub region : ℕ
  pub under : IsUnderRegion region x.path
  pub more : Triple
  pub rest : List Triple
  pub is : label ≡ root_triple region ∷ more ∷ rest

deeper : (x fork : Node) (step : Step) (t : Triple) (above : List Triple) → x.path ≡ fork.path ++ step ∷ [] → InRegion fork above → InRegion x (above ++ t ∷ [])
deeper x fork step t above path up = record {
  region = up.region;
  under = record { first = up.under.first; rest = up.under.rest ++ step ∷ []; parts = path ∙ ap (λ (p : List Step). p ++ step ∷ []) up.under.parts; region_is = up.under.region_is };
  more = up.more;
  rest = up.rest ++ t ∷ [];
  is = ap (λ (l : List Triple). l ++ t ∷ []) up.is;
}

just_under : (logs : Logs) (x fork : Node) (step : Step) (t : Triple) (above : List Triple) → x.path ≡ fork.path ++ step ∷ [] → step.region ≡ regions_before logs fork → fork.path ≡ [] → above ≡ root_triple (regions_before logs fork) ∷ []
    → InRegion x (above ++ t ∷ [])
just_under logs x fork step t above path number root is = record {
  region = regions_before logs fork;
  under = record { first = step; rest = []; parts = path ∙ ap (λ (p : List Step). p ++ step ∷ []) root; region_is = number };
  more = t;
  rest = [];
  is = ap (λ (l : List Triple). l ++ t ∷ []) is;
}

-- the label of the root's records is that of their regions
record InRootAt (logs : Logs) (x : Node) (label : List Triple) : Type 0 where
  pub root : x.path ≡ []
  pub is : label ≡ root_triple (regions_before logs x) ∷ []

first_of : (logs : Logs) (x : Node) (label : List Triple) → IsLabel logs x label → InRootAt logs x label ⊎ InRegion x label
first_of logs x _ (IsLabel.root x1 e) = inl (record { root = e; is = refl })
first_of logs x _ (IsLabel.lane fork x1 number span above h up) = at (first_of logs fork above up)
  where
    at : InRootAt logs fork above ⊎ InRegion fork above → InRootAt logs x (above ++ lane_triple logs x number span ∷ []) ⊎ InRegion x (above ++ lane_triple logs x number span ∷ [])
    at (inl root) = inr (just_under logs x fork (record { region = regions_before logs fork; lane = number; span = span }) (lane_triple logs x number span) above h.child refl root.root root.is)
    at (inr region) = inr (deeper x fork (record { region = regions_before logs fork; lane = number; span = span }) (lane_triple logs x number span) above h.child region)

-- labels whose first triples tell different regions are ordered
ordered_first : (m n : ℕ) (xs ys : List Triple) → m < n → IsLabelBefore (root_triple m ∷ xs) (root_triple n ∷ ys)
ordered_first m n xs ys less = IsLabelBefore.differ (root_triple m) (root_triple n) xs ys
    (λ e. let same : m ≡ n = ap (λ (t : Triple). t.offset) e in omega arith)
    (record { same_span = refl; earlier = inr (refl, less, residues m n) })
  where
    residues : (m n : ℕ) → m % 1 ≡ n % 1
    residues m n = omega arith

three : (m n : ℕ) → (m < n) ⊎ ((m ≡ n) ⊎ (n < m))
three m n = grind arith

-- a label with more triples comes later or in another region
root_ordered : (m n : ℕ) (more : Triple) (rest : List Triple) → IsConcurrent (root_triple m ∷ []) (root_triple n ∷ more ∷ rest) → ⊥
root_ordered m n more rest c = elim (three m n) [
  | inl less ↦ c.not_before (ordered_first m n [] (more ∷ rest) less)
  | inr other ↦ elim other [
    | inl same ↦ c.not_before (subst (λ (k : ℕ). IsLabelBefore (root_triple m ∷ []) (root_triple k ∷ more ∷ rest)) same (IsLabelBefore.same (root_triple m) [] (more ∷ rest) (IsLabelBefore.prefix more rest)))
    | inr greater ↦ c.not_after (ordered_first n m (more ∷ rest) [] greater)
  ]
]

both_root : (m n : ℕ) → IsConcurrent (root_triple m ∷ []) (root_triple n ∷ []) → ⊥
both_root m n c = elim (three m n) [
  | inl less ↦ c.not_before (ordered_first m n [] [] less)
  | inr other ↦ elim other [
    | inl same ↦ c.different (ap (λ (k : ℕ). root_triple k ∷ []) same)
    | inr greater ↦ c.not_after (ordered_first n m [] [] greater)
  ]
]

same_region : (m n : ℕ) (xs ys : List Triple) → IsConcurrent (root_triple m ∷ xs) (root_triple n ∷ ys) → m ≡ n
same_region m n xs ys c = elim (three m n) [
  | inl less ↦ absurd (c.not_before (ordered_first m n xs ys less))
  | inr other ↦ elim other [ inl same ↦ same | inr greater ↦ absurd (c.not_after (ordered_first n m ys xs greater)) ]
]

moved : (l k m n : List Triple) → l ≡ k → m ≡ n → IsConcurrent l m → IsConcurrent k n
moved l k m n e f c = subst (λ (j : List Triple). IsConcurrent j n) e (subst (λ (j : List Triple). IsConcurrent l j) f c)

-- the region of the root that both are under
pub record UnderOne (x y : Node) : Type 0 where
  pub region : ℕ
  pub left : IsUnderRegion region x.path
  pub right : IsUnderRegion region y.path

in_both : (logs : Logs) (x y : Node) (l m : List Triple) → InRootAt logs x l ⊎ InRegion x l → InRootAt logs y m ⊎ InRegion y m → IsConcurrent l m → UnderOne x y
in_both logs x y _ _ (inl a) (inl b) c = absurd (both_root (regions_before logs x) (regions_before logs y) (moved _ _ _ _ a.is b.is c))
in_both logs x y _ _ (inl a) (inr b) c = absurd (root_ordered (regions_before logs x) b.region b.more b.rest (moved _ _ _ _ a.is b.is c))
in_both logs x y _ _ (inr a) (inl b) c = absurd (root_ordered (regions_before logs y) a.region a.more a.rest (moved _ _ _ _ b.is a.is (concurrent_sym _ _ c)))
in_both logs x y _ _ (inr a) (inr b) c =
    let same : a.region ≡ b.region = same_region a.region b.region (a.more ∷ a.rest) (b.more ∷ b.rest) (moved _ _ _ _ a.is b.is c) in
    record { region = a.region; left = a.under; right = subst (λ (k : ℕ). IsUnderRegion k y.path) (sym same) b.under }

pub under_one : (logs : Logs) (x y : Node) (l m : List Triple) → IsLabel logs x l → IsLabel logs y m → IsConcurrent l m → UnderOne x y
under_one logs x y l m is_l is_m c = in_both logs x y l m (first_of logs x l is_l) (first_of logs y m is_m) c

task_of : (logs : Logs) (x : Node) → IsThere logs x → IsTask logs x.path
task_of logs x h = omega arith

-- two accesses that race are under one region
race_under_one : (logs : Logs) (pair : ℕ × ℕ) → IsForkJoin logs → (h : IsRacePair logs pair) → UnderOne h.x h.y
race_under_one logs pair tree h =
    let x_there : IsThere logs h.x = slice_get_within (logs h.x.path) h.x.index h.r h.race.left in
    let y_there : IsThere logs h.y = slice_get_within (logs h.y.path) h.y.index h.s h.race.right in
    let mine = label_exists logs h.x tree x_there in
    let yours = label_exists logs h.y tree y_there in
    under_one logs h.x h.y mine.label yours.label mine.is_label yours.is_label
    (unordered_concurrent logs h.x h.y mine.label yours.label tree x_there y_there mine.is_label yours.is_label h.race.unordered)

race_below : (logs : Logs) (regions : ℕ) (pair : ℕ × ℕ) → IsForkJoin logs → ((path : List Step) (region : ℕ) → IsTask logs path → IsUnderRegion region path → region < regions) → IsRacePair logs pair → IsRacePairBelow logs regions pair
race_below logs regions pair tree few h =
    let one = race_under_one logs pair tree h in
    record {
      region = one.region;
      below = few h.x.path one.region (task_of logs h.x (slice_get_within (logs h.x.path) h.x.index h.r h.race.left)) one.left;
      among = record { races = h; left = one.left; right = one.right };
    }

pub all_regions : (logs : Logs) (regions : ℕ) (pair : ℕ × ℕ) → IsForkJoin logs → ((path : List Step) (region : ℕ) → IsTask logs path → IsUnderRegion region path → region < regions) → IsRacePairBelow logs regions pair ↔ IsRacePair logs pair
all_regions logs regions pair tree few = (λ h. h.among.races, race_below logs regions pair tree few)

pub no_region : (logs : Logs) (pair : ℕ × ℕ) → IsRacePairBelow logs 0 pair → ⊥
no_region logs pair h = let below = h.below in omega arith

last_or_below : (k n : ℕ) → k < n + 1 → (k < n) ⊎ (k ≡ n)
last_or_below k n less = grind arith

first_number : List Step → ℕ
first_number [] = 0
first_number (step ∷ rest) = step.region

one_number : (m n : ℕ) (path : List Step) → IsUnderRegion m path → IsUnderRegion n path → m ≡ n
unfolding first_number
one_number m n path a b = sym a.region_is ∙ ap first_number (sym a.parts ∙ b.parts) ∙ b.region_is

-- no region, no segment
pub no_segments : (logs : Logs) (region : ℕ) → AreSegments logs (IsUnderRegions region region) []
no_segments logs region = record {
  each = λ segment listed key address pair. absurd (omega (arith, listed.1));
  all = λ x r one at access. let least = one.at_least in let below = one.below in absurd (omega arith);
}

-- and those of one region more
pub more_segments : (logs : Logs) (from region : ℕ) (segments more : List Segment) → from ≤ region → AreSegments logs (IsUnderRegions from region) segments → AreSegments logs (IsUnderRegion region) more
    → AreSegments logs (IsUnderRegions from (region + 1)) (segments ++ more)
more_segments logs from region segments more rising first second = record {
  each = λ segment listed key address pair. elim (Contains-append_cases segments more segment listed) [
    | inl old ↦
        let found = first.each segment old key address pair in
        let below = found.0.below in
        (record { region = found.0.region; at_least = found.0.at_least; below = omega arith; under = found.0.under }, found.1)
    | inr new ↦
        let found = second.each segment new key address pair in
        (record { region = region; at_least = rising; below = omega arith; under = found.0 }, found.1)
  ];
  all = λ x r one at access. elim (last_or_below one.region region one.below) [
    | inl earlier ↦
        let found = first.all x r (record { region = one.region; at_least = one.at_least; below = earlier; under = one.under }) at access in
        (found.0, Contains-append_left segments more found.0 found.1, found.2, found.3, found.4)
    | inr last ↦
        let found = second.all x r (subst (λ (k : ℕ). IsUnderRegion k x.path) last one.under) at access in
        (found.0, Contains-append_right segments more found.0 found.1, found.2, found.3, found.4)
  ];
}

among_below : (logs : Logs) (from to : ℕ) (pair : ℕ × ℕ) → IsForkJoin logs → IsRacePairAmong logs (IsUnderRegions from to) pair → IsRacePairBelow logs to pair
among_below logs from to pair tree among =
    let one = race_under_one logs pair tree among.races in
    record {
      region = one.region;
      below = subst (λ (k : ℕ). k < to) (one_number among.left.region one.region among.races.x.path among.left.under one.left) among.left.below;
      among = record { races = among.races; left = one.left; right = one.right };
    }

pub next_regions : (logs : Logs) (from to : ℕ) (segments : List Segment) (old new : List (ℕ × ℕ)) → IsForkJoin logs → from ≤ to → AreSegments logs (IsUnderRegions from to) segments
    → ((pair : ℕ × ℕ) → Contains old pair ↔ IsRacePairBelow logs from pair) → AddsPairs old new (IsSegmentPair segments)
    → (pair : ℕ × ℕ) → Contains new pair ↔ IsRacePairBelow logs to pair
next_regions logs from to segments old new tree rising are before adds pair = (
  λ h. elim (adds.only pair h) [
    | inl was ↦ (let b = (before pair).0 was in let below = b.below in record { region = b.region; below = omega arith; among = b.among })
    | inr found ↦ among_below logs from to pair tree ((pairs_iff_races logs (IsUnderRegions from to) segments pair tree are).0 found)
  ],
  λ h. elim (cases_lt h.region from) [
    | inl earlier ↦ adds.kept pair ((before pair).1 (record { region = h.region; below = earlier; among = h.among }))
    | inr later ↦ adds.added pair ((pairs_iff_races logs (IsUnderRegions from to) segments pair tree are).1 (record {
      races = h.among.races;
      left = record { region = h.region; at_least = later; below = h.below; under = h.among.left };
      right = record { region = h.region; at_least = later; below = h.below; under = h.among.right };
    }))
  ],
)

pub next_region : (logs : Logs) (region : ℕ) (segments : List Segment) (old new : List (ℕ × ℕ)) → IsForkJoin logs → AreSegments logs (IsUnderRegion region) segments
    → ((pair : ℕ × ℕ) → Contains old pair ↔ IsRacePairBelow logs region pair) → AddsPairs old new (IsSegmentPair segments)
    → (pair : ℕ × ℕ) → Contains new pair ↔ IsRacePairBelow logs (region + 1) pair
next_region logs region segments old new tree are before adds =
    next_regions logs region (region + 1) segments old new tree (omega arith) (more_segments logs region region [] segments (omega arith) (no_segments logs region) are) before adds
