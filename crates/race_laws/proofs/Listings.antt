-- A list of paths is a listing of a tree of tasks, or the prefix of one, exactly where each path is the next after the one before.
use Rattle.std.proofs.Common.{◌≡◌, ◌⊎◌, inl, inr, ℕ, zero, suc, ◌+◌, ◌-◌, ◌<◌, ◌≤◌, List, [], ◌∷◌, ◌++◌, All, refl, sym, ap, subst, ◌∙◌, arith, append_assoc}
use Rattle.std.proofs.lemmas.List.{append-nil}
use Rattle.std.proofs.lemmas.List.Elements.{All-nil, All-cons, All-head, All-tail}
use Rattle.sw_base.specs.declared.path.Step.{Step}
use Rattle.race_model.specs.Listing.{Task, Lanes, Ends, Forks, NoLane, Lane, lane_count, lane_of, under, lanes, listing, IsListing, BeginsListing, IsLastLane, IsNextLane, IsFirstLane, IsNextRegion, IsNextPath}

-- each path is the next after the one before
abbrev pub IsChain : List Step → List (List Step) → Type 0
IsChain path [] = Unit {0}
IsChain path (next ∷ paths) = IsNextPath path next × IsChain next paths

-- a chain whose last path has the property
abbrev pub EndsIn : (List Step → Type 0) → List Step → List (List Step) → Type 0
EndsIn P path [] = P path
EndsIn P path (next ∷ paths) = IsNextPath path next × EndsIn P next paths

-- a common prefix doesn't matter to what is next
along : (path below : List Step) (step : Step) → IsNextPath below (step ∷ []) → IsNextPath (path ++ below) (path ++ step ∷ [])
along [] below step next = next
along (p ∷ []) below step next = (refl, next)
along (p ∷ q ∷ path) below step next = (refl, along (q ∷ path) below step next)

-- the path is that of the task, before its first region, or the last under a region of the task
data HasDone (path : List Step) (region : ℕ) (prev : List Step) : Type 0 where
  starts : region ≡ 0 → prev ≡ path → HasDone path region prev
  closed : (step : Step) (below : List Step) → prev ≡ path ++ step ∷ below → IsLastLane step → All IsLastLane below → step.region + 1 ≡ region → HasDone path region prev

next_region : (path : List Step) (region span : ℕ) (prev : List Step) → HasDone path region prev → 1 ≤ span → IsNextPath prev (lane_of path region 0 span)
next_region path region span prev (starts is_zero is_path) some =
    let first : IsNextPath [] (record { region = region; lane = 0; span = span } ∷ []) = record { region_is = is_zero; lane = refl; some = some } in
    let there : IsNextPath (path ++ []) (lane_of path region 0 span) = along path [] (record { region = region; lane = 0; span = span }) first in
    subst (λ (p : List Step). IsNextPath p (lane_of path region 0 span)) (append-nil path ∙ sym is_path) there
next_region path region span prev (closed step below is_path last lasts number) some =
    let on : IsNextRegion step (record { region = region; lane = 0; span = span }) = record { last = last; first = record { region_is = sym number; lane = refl; some = some } } in
    subst (λ (p : List Step). IsNextPath p (lane_of path region 0 span)) (sym is_path)
    (along path (step ∷ below) (record { region = region; lane = 0; span = span }) (lasts, inr on))

-- the path is the last under a lane of a region of the task
record HasLane (path : List Step) (region lane span : ℕ) (prev : List Step) : Type 0 where
  below : List Step
  is_path : prev ≡ lane_of path region lane span ++ below
  lasts : All IsLastLane below

in_lane : (path : List Step) (region lane span n : ℕ) (prev : List Step) → HasDone (lane_of path region lane span) n prev → HasLane path region lane span prev
in_lane path region lane span n prev (starts is_zero is_path) =
    record { below = []; is_path = is_path ∙ sym (append-nil (lane_of path region lane span)); lasts = All-nil IsLastLane }
in_lane path region lane span n prev (closed step below is_path last lasts number) =
    record { below = step ∷ below; is_path = is_path; lasts = All-cons IsLastLane step below last lasts }

next_lane : (path : List Step) (region lane span : ℕ) (prev : List Step) → HasLane path region lane span prev → lane + 1 < span → IsNextPath prev (lane_of path region (lane + 1) span)
next_lane path region lane span prev at more =
    let from : Step = record { region = region; lane = lane; span = span } in
    let to : Step = record { region = region; lane = lane + 1; span = span } in
    let on : IsNextLane from to = record { region = refl; span = refl; lane = refl; within = more } in
    let there : IsNextPath (path ++ from ∷ at.below) (path ++ to ∷ []) = along path (from ∷ at.below) to (at.lasts, inl on) in
    subst (λ (p : List Step). IsNextPath p (path ++ to ∷ [])) (sym (at.is_path ∙ append_assoc path (from ∷ []) at.below)) there

last_lane : (path : List Step) (region lane span : ℕ) (prev : List Step) → HasLane path region lane span prev → lane + 1 ≡ span → HasDone path (region + 1) prev
last_lane path region lane span prev at last =
    closed (record { region = region; lane = lane; span = span }) at.below (at.is_path ∙ append_assoc path (record { region = region; lane = lane; span = span } ∷ []) at.below) last at.lasts refl

-- what is under a task is a chain, and so is what goes on after it
module _ (P : List Step → Type 0) where
  mutual
    under_chain : (task : Task) (path : List Step) (region : ℕ) (prev : List Step) (rest : List (List Step)) → HasDone path region prev
        → ((n : ℕ) (last : List Step) → HasDone path n last → EndsIn P last rest) → EndsIn P prev (under path region task ++ rest)
    under_chain Ends path region prev rest done goes = goes region prev done
    under_chain (Forks first others after) path region prev rest done goes =
        let span : ℕ = 1 + lane_count others in
        let here : List Step = lane_of path region 0 span in
        let next : IsNextPath prev here = next_region path region span prev done (omega arith) in
        let tail : List (List Step) = lanes path region 1 span others ++ (under path (region + 1) after ++ rest) in
        let more : EndsIn P here (under here 0 first ++ tail) = under_chain first here 0 here tail (starts refl refl)
        (λ n last in_first. lanes_chain others path region 0 span last (under path (region + 1) after ++ rest) (in_lane path region 0 span n last in_first) (omega arith)
        (λ end done_here. under_chain after path (region + 1) end rest done_here goes)) in
        let same : under here 0 first ++ tail ≡ ((under here 0 first ++ lanes path region 1 span others) ++ under path (region + 1) after) ++ rest =
        sym (append_assoc (under here 0 first ++ lanes path region 1 span others) (under path (region + 1) after) rest ∙ append_assoc (under here 0 first) (lanes path region 1 span others) (under path (region + 1) after ++ rest)) in
        (next, subst (λ (ps : List (List Step)). EndsIn P here ps) same more)

    lanes_chain : (others : Lanes) (path : List Step) (region lane span : ℕ) (prev : List Step) (rest : List (List Step)) → HasLane path region lane span prev → lane + 1 + lane_count others ≡ span
        → ((last : List Step) → HasDone path (region + 1) last → EndsIn P last rest) → EndsIn P prev (lanes path region (lane + 1) span others ++ rest)
    lanes_chain NoLane path region lane span prev rest at count goes = goes prev (last_lane path region lane span prev at (omega arith))
    lanes_chain (Lane first others) path region lane span prev rest at count goes =
        let here : List Step = lane_of path region (lane + 1) span in
        let next : IsNextPath prev here = next_lane path region lane span prev at (omega arith) in
        let tail : List (List Step) = lanes path region (lane + 1 + 1) span others ++ rest in
        let more : EndsIn P here (under here 0 first ++ tail) = under_chain first here 0 here tail (starts refl refl)
        (λ n last in_first. lanes_chain others path region (lane + 1) span last rest (in_lane path region (lane + 1) span n last in_first) (omega arith) goes) in
        (next, subst (λ (ps : List (List Step)). EndsIn P here ps) (sym (append_assoc (under here 0 first) (lanes path region (lane + 1 + 1) span others) rest)) more)

-- what is still ahead of a path in a listing: what is under its task, and beside each of its steps the other lanes of that
-- region and what the task above does after it
data Future : Type 0 where
  Below : (task : Task) → Future
  Beside : (inside : Future) → (others : Lanes) → (after : Task) → Future

abbrev ahead : List Step → List Step → Future → List (List Step)
ahead above [] (Below task) = under above 0 task
ahead above [] (Beside inside others after) = []
ahead above (step ∷ path) (Below task) = []
ahead above (step ∷ path) (Beside inside others after) =
    ahead (above ++ step ∷ []) path inside ++ lanes above step.region (step.lane + 1) step.span others ++ under above (step.region + 1) after

-- it has as many other lanes beside each step as the step's span says
abbrev IsFor : List Step → Future → Type 0
IsFor [] (Below task) = Unit {0}
IsFor [] (Beside inside others after) = ⊥
IsFor (step ∷ path) (Below task) = ⊥
IsFor (step ∷ path) (Beside inside others after) = (step.lane + 1 + lane_count others ≡ step.span) × IsFor path inside

-- nothing is ahead of a path of last lanes
closing : List Step → Future
closing [] = Below Ends
closing (step ∷ path) = Beside (closing path) NoLane Ends

closing_for : (path : List Step) → All IsLastLane path → IsFor path (closing path)
unfolding closing
closing_for [] lasts = tt
closing_for (step ∷ path) lasts =
    let last : step.lane + 1 ≡ step.span = All-head IsLastLane step path lasts in
    (omega arith, closing_for path (All-tail IsLastLane step path lasts))

closing_ahead : (above path : List Step) → ahead above path (closing path) ≡ []
unfolding closing
closing_ahead above [] = refl
closing_ahead above (step ∷ path) = rw (closing_ahead (above ++ step ∷ []) path) refl

-- what was ahead of the path before
record Before (above path next : List Step) (future : Future) : Type 0 where
  was : Future
  was_for : IsFor path was
  lists : ahead above path was ≡ (above ++ next) ∷ ahead above next future

step_is : (step : Step) (region lane span : ℕ) → step.region ≡ region → step.lane ≡ lane → step.span ≡ span → step ≡ record { region = region; lane = lane; span = span }
step_is step region lane span r l s =
    ap (λ (n : ℕ). let it : Step = record { region = n; lane = step.lane; span = step.span } in it) r
    ∙ ap (λ (n : ℕ). let it : Step = record { region = region; lane = n; span = step.span } in it) l
    ∙ ap (λ (n : ℕ). let it : Step = record { region = region; lane = lane; span = n } in it) s

-- the listing from a lane on
abbrev from_lane : List Step → Step → Task → Lanes → Task → List (List Step)
from_lane above step task others after =
    (above ++ step ∷ []) ∷ (under (above ++ step ∷ []) 0 task ++ lanes above step.region (step.lane + 1) step.span others ++ under above (step.region + 1) after)

before_first : (above : List Step) (step : Step) (future : Future) → IsFirstLane 0 step → IsFor (step ∷ []) future → Before above [] (step ∷ []) future
before_first above step (Below task) first is_for = absurd is_for
before_first above step (Beside (Beside inside others after) lanes_after after_all) first is_for = absurd is_for.1
before_first above step (Beside (Below task) others after) first is_for =
    let is : step ≡ record { region = 0; lane = 0; span = 1 + lane_count others } = step_is step 0 0 (1 + lane_count others) first.region_is first.lane (omega arith) in
    record { was = Below (Forks task others after); was_for = tt; lists = ap (λ (s : Step). from_lane above s task others after) (sym is) }

before_next : (above : List Step) (step : Step) (below : List Step) (next : Step) (future : Future) → All IsLastLane below → IsNextLane step next ⊎ IsNextRegion step next → IsFor (next ∷ []) future
    → Before above (step ∷ below) (next ∷ []) future
before_next above step below next (Below task) lasts goes is_for = absurd is_for
before_next above step below next (Beside (Beside inside others after) lanes_after after_all) lasts goes is_for = absurd is_for.1
before_next above step below next (Beside (Below task) others after) lasts (inl on) is_for =
    let is : next ≡ record { region = step.region; lane = step.lane + 1; span = step.span } = step_is next step.region (step.lane + 1) step.span on.region on.lane on.span in
    let count : step.lane + 1 + (1 + lane_count others) ≡ step.span = omega (arith, on.lane, on.span, is_for.0) in
    record {
      was = Beside (closing below) (Lane task others) after;
      was_for = (count, closing_for below lasts);
      lists = rw (closing_ahead (above ++ step ∷ []) below) (ap (λ (s : Step). from_lane above s task others after) (sym is));
    }
before_next above step below next (Beside (Below task) others after) lasts (inr on) is_for =
    let is : next ≡ record { region = step.region + 1; lane = 0; span = 1 + lane_count others } = step_is next (step.region + 1) 0 (1 + lane_count others) on.first.region_is on.first.lane (omega (arith, on.first.lane, is_for.0)) in
    let last : step.lane + 1 ≡ step.span = on.last in
    record {
      was = Beside (closing below) NoLane (Forks task others after);
      was_for = (omega arith, closing_for below lasts);
      lists = rw (closing_ahead (above ++ step ∷ []) below) (ap (λ (s : Step). from_lane above s task others after) (sym is));
    }

before : (above path next : List Step) (future : Future) → IsNextPath path next → IsFor next future → Before above path next future
before above path [] future goes is_for = absurd goes
before above [] (next ∷ []) future goes is_for = before_first above next future goes is_for
before above (step ∷ below) (next ∷ []) future goes is_for = before_next above step below next future goes.0 goes.1 is_for
before above [] (next ∷ more ∷ others) future goes is_for = absurd goes
before above (step ∷ below) (next ∷ more ∷ deeper) (Below task) goes is_for = absurd is_for
before above (step ∷ below) (next ∷ more ∷ deeper) (Beside inside others after) goes is_for =
    let rest : Before (above ++ next ∷ []) below (more ∷ deeper) inside = before (above ++ next ∷ []) below (more ∷ deeper) inside goes.1 is_for.1 in
    let beside : List (List Step) = lanes above next.region (next.lane + 1) next.span others ++ under above (next.region + 1) after in
    let tail : List (List Step) = lanes above next.region (next.lane + 1) next.span others in
    let last : List (List Step) = under above (next.region + 1) after in
    let path_is : (above ++ next ∷ []) ++ more ∷ deeper ≡ above ++ next ∷ more ∷ deeper = append_assoc above (next ∷ []) (more ∷ deeper) in
    let it : Before above (next ∷ below) (next ∷ more ∷ deeper) (Beside inside others after) = record {
      was = Beside rest.was others after;
      was_for = (is_for.0, rest.was_for);
      lists = ap (λ (ps : List (List Step)). (ps ++ tail) ++ last) rest.lists
          ∙ ap (λ (p : List Step). p ∷ ((ahead (above ++ next ∷ []) (more ∷ deeper) inside ++ tail) ++ last)) path_is;
    } in
    subst (λ (s : Step). Before above (s ∷ below) (next ∷ more ∷ deeper) (Beside inside others after)) (sym goes.0) it

-- a chain up to a path of last lanes is all that was ahead of its first path
record Whole (path : List Step) (paths : List (List Step)) : Type 0 where
  future : Future
  is_for : IsFor path future
  lists : ahead [] path future ≡ paths

whole : (path : List Step) (paths : List (List Step)) → EndsIn (All IsLastLane) path paths → Whole path paths
whole path [] lasts = record { future = closing path; is_for = closing_for path lasts; lists = closing_ahead [] path }
whole path (next ∷ paths) (goes, more) =
    let rest : Whole next paths = whole next paths more in
    let was : Before [] path next rest.future = before [] path next rest.future goes rest.is_for in
    record { future = was.was; is_for = was.was_for; lists = was.lists ∙ ap (λ (ps : List (List Step)). next ∷ ps) rest.lists }

-- as many lanes that fork nothing
idle : ℕ → Lanes
idle zero = NoLane
idle (suc n) = Lane Ends (idle n)

idle_count : (n : ℕ) → lane_count (idle n) ≡ n
unfolding idle
idle_count zero = refl
idle_count (suc n) = omega (arith, idle_count n)

abbrev IsWithin : Step → Type 0
IsWithin step = step.lane < step.span

-- what may be ahead of a path
spare : List Step → Future
spare [] = Below Ends
spare (step ∷ path) = Beside (spare path) (idle (step.span - (step.lane + 1))) Ends

spare_for : (path : List Step) → All IsWithin path → IsFor path (spare path)
unfolding spare
spare_for [] within = tt
spare_for (step ∷ path) within =
    let here : step.lane < step.span = All-head IsWithin step path within in
    (omega (arith, idle_count (step.span - (step.lane + 1))), spare_for path (All-tail IsWithin step path within))

-- a chain has lanes below spans
next_within : (path next : List Step) → IsNextPath path next → All IsWithin path → All IsWithin next
next_within path [] goes within = absurd goes
next_within [] (next ∷ []) goes within = All-cons IsWithin next [] (omega (arith, goes.lane, goes.some)) (All-nil IsWithin)
next_within (step ∷ below) (next ∷ []) goes within = All-cons IsWithin next [] (here goes.1) (All-nil IsWithin) where
  here : IsNextLane step next ⊎ IsNextRegion step next → IsWithin next
  here (inl on) = on.within
  here (inr on) = omega (arith, on.first.lane, on.first.some)
next_within [] (next ∷ more ∷ others) goes within = absurd goes
next_within (step ∷ below) (next ∷ more ∷ deeper) goes within =
    All-cons IsWithin next (more ∷ deeper)
    (subst (λ (s : Step). IsWithin s) goes.0 (All-head IsWithin step below within))
    (next_within below (more ∷ deeper) goes.1 (All-tail IsWithin step below within))

-- every chain is a prefix of what may be ahead of its first path
record Prefix (path : List Step) (paths : List (List Step)) : Type 0 where
  future : Future
  is_for : IsFor path future
  rest : List (List Step)
  lists : ahead [] path future ≡ paths ++ rest

prefix : (path : List Step) (paths : List (List Step)) → All IsWithin path → IsChain path paths → Prefix path paths
prefix path [] within chain = record { future = spare path; is_for = spare_for path within; rest = ahead [] path (spare path); lists = refl }
prefix path (next ∷ paths) within (goes, more) =
    let after : Prefix next paths = prefix next paths (next_within path next goes within) more in
    let was : Before [] path next after.future = before [] path next after.future goes after.is_for in
    record { future = was.was; is_for = was.was_for; rest = after.rest; lists = was.lists ∙ ap (λ (ps : List (List Step)). next ∷ ps) after.lists }

-- a listing is the root, and then a chain that ends in last lanes
pub listing_of_chain : (paths : List (List Step)) → EndsIn (All IsLastLane) [] paths → IsListing ([] ∷ paths)
listing_of_chain paths chain = of_whole (whole [] paths chain) where
  of_future : (future : Future) → IsFor [] future → ahead [] [] future ≡ paths → IsListing ([] ∷ paths)
  of_future (Below task) is_for lists = record { root = task; lists = ap (λ (ps : List (List Step)). [] ∷ ps) lists }
  of_future (Beside inside others after) is_for lists = absurd is_for

  of_whole : Whole [] paths → IsListing ([] ∷ paths)
  of_whole all = of_future all.future all.is_for all.lists

pub chain_of_listing : (paths : List (List Step)) → IsListing ([] ∷ paths) → EndsIn (All IsLastLane) [] paths
chain_of_listing paths is =
    let lists : under [] 0 is.root ++ [] ≡ paths = append-nil (under [] 0 is.root) ∙ cc (is.lists) in
    subst (λ (ps : List (List Step)). EndsIn (All IsLastLane) [] ps) lists
    (under_chain (All IsLastLane) is.root [] 0 [] [] (starts refl refl) ends) where
      ends : (n : ℕ) (last : List Step) → HasDone [] n last → All IsLastLane last
      ends n last (starts is_zero is_path) = subst (λ (p : List Step). All IsLastLane p) (sym is_path) (All-nil IsLastLane)
      ends n last (closed step below is_path here lasts number) = subst (λ (p : List Step). All IsLastLane p) (sym is_path) (All-cons IsLastLane step below here lasts)

-- a prefix of a -- is the root, and then a chain
pub begins_of_chain : (paths : List (List Step)) → IsChain [] paths → BeginsListing ([] ∷ paths)
begins_of_chain paths chain = of_prefix (prefix [] paths (All-nil IsWithin) chain) where
  of_future : (future : Future) (rest : List (List Step)) → IsFor [] future → ahead [] [] future ≡ paths ++ rest → BeginsListing ([] ∷ paths)
  of_future (Below task) rest is_for lists = record { root = task; rest = rest; lists = ap (λ (ps : List (List Step)). [] ∷ ps) lists }
  of_future (Beside inside others after) rest is_for lists = absurd is_for

  of_prefix : Prefix [] paths → BeginsListing ([] ∷ paths)
  of_prefix all = of_future all.future all.rest all.is_for all.lists

chain_prefix : (path : List Step) (paths rest : List (List Step)) → EndsIn (λ _. Unit {0}) path (paths ++ rest) → IsChain path paths
chain_prefix path [] rest chain = tt
chain_prefix path (next ∷ paths) rest (goes, more) = (goes, chain_prefix next paths rest more)

pub chain_of_begins : (paths : List (List Step)) → BeginsListing ([] ∷ paths) → IsChain [] paths
chain_of_begins paths is =
    let lists : under [] 0 is.root ++ [] ≡ paths ++ is.rest = append-nil (under [] 0 is.root) ∙ cc (is.lists) in
    chain_prefix [] paths is.rest
    (subst (λ (ps : List (List Step)). EndsIn (λ _. Unit {0}) [] ps) lists
    (under_chain (λ _. Unit {0}) is.root [] 0 [] [] (starts refl refl) (λ n last done. tt)))

-- a prefix of a -- begins with the root
pub begins_at_root : (path : List Step) (paths : List (List Step)) → BeginsListing (path ∷ paths) → path ≡ []
begins_at_root path paths is = cc (is.lists)

lists_at_root : (path : List Step) (paths : List (List Step)) → IsListing (path ∷ paths) → path ≡ []
lists_at_root path paths is = cc (is.lists)

pub begins_one : (path : List Step) → path ≡ [] → BeginsListing (path ∷ [])
begins_one path root = subst (λ (p : List Step). BeginsListing (p ∷ [])) (sym root) (begins_of_chain [] tt)

chain_less : (first : List Step) (paths : List (List Step)) (path next : List Step) → IsChain first (paths ++ path ∷ next ∷ []) → IsChain first (paths ++ path ∷ []) × IsNextPath path next
chain_less first [] path next (goes, more) = ((goes, tt), more.0)
chain_less first (p ∷ paths) path next (goes, more) =
    let rest : IsChain p (paths ++ path ∷ []) × IsNextPath path next = chain_less p paths path next more in
    ((goes, rest.0), rest.1)

chain_more : (first : List Step) (paths : List (List Step)) (path next : List Step) → IsChain first (paths ++ path ∷ []) → IsNextPath path next → IsChain first (paths ++ path ∷ next ∷ [])
chain_more first [] path next (goes, more) on = (goes, (on, tt))
chain_more first (p ∷ paths) path next (goes, more) on = (goes, chain_more p paths path next more on)

ends_more : (P : List Step → Type 0) (first : List Step) (paths : List (List Step)) (path : List Step) → IsChain first (paths ++ path ∷ []) → P path → EndsIn P first (paths ++ path ∷ [])
ends_more P first [] path (goes, more) last = (goes, last)
ends_more P first (p ∷ paths) path (goes, more) last = (goes, ends_more P p paths path more last)

ends_less : (P : List Step → Type 0) (first : List Step) (paths : List (List Step)) (path : List Step) → EndsIn P first (paths ++ path ∷ []) → IsChain first (paths ++ path ∷ []) × P path
ends_less P first [] path (goes, last) = ((goes, tt), last)
ends_less P first (p ∷ paths) path (goes, more) =
    let rest : IsChain p (paths ++ path ∷ []) × P path = ends_less P p paths path more in
    ((goes, rest.0), rest.1)

-- a prefix of a listing goes on with the next path after its last, and with no other
pub begins_less : (paths : List (List Step)) (path next : List Step) → BeginsListing (paths ++ path ∷ next ∷ []) → BeginsListing (paths ++ path ∷ []) × IsNextPath path next
begins_less [] path next is =
    let root : path ≡ [] = begins_at_root path (next ∷ []) is in
    let chain : IsChain [] (next ∷ []) = chain_of_begins (next ∷ []) (subst (λ (p : List Step). BeginsListing (p ∷ next ∷ [])) root is) in
    (begins_one path root, subst (λ (p : List Step). IsNextPath p next) (sym root) chain.0)
begins_less (p ∷ paths) path next is =
    let root : p ≡ [] = begins_at_root p (paths ++ path ∷ next ∷ []) is in
    let chain : IsChain [] (paths ++ path ∷ []) × IsNextPath path next = chain_less [] paths path next (chain_of_begins (paths ++ path ∷ next ∷ []) (subst (λ (q : List Step). BeginsListing (q ∷ (paths ++ path ∷ next ∷ []))) root is)) in
    (subst (λ (q : List Step). BeginsListing (q ∷ (paths ++ path ∷ []))) (sym root) (begins_of_chain (paths ++ path ∷ []) chain.0), chain.1)

pub begins_more : (paths : List (List Step)) (path next : List Step) → BeginsListing (paths ++ path ∷ []) → IsNextPath path next → BeginsListing (paths ++ path ∷ next ∷ [])
begins_more [] path next is on =
    let root : path ≡ [] = begins_at_root path [] is in
    subst (λ (p : List Step). BeginsListing (p ∷ next ∷ [])) (sym root) (begins_of_chain (next ∷ []) (subst (λ (p : List Step). IsNextPath p next) root on, tt))
begins_more (p ∷ paths) path next is on =
    let root : p ≡ [] = begins_at_root p (paths ++ path ∷ []) is in
    let chain : IsChain [] (paths ++ path ∷ []) = chain_of_begins (paths ++ path ∷ []) (subst (λ (q : List Step). BeginsListing (q ∷ (paths ++ path ∷ []))) root is) in
    subst (λ (q : List Step). BeginsListing (q ∷ (paths ++ path ∷ next ∷ []))) (sym root) (begins_of_chain (paths ++ path ∷ next ∷ []) (chain_more [] paths path next chain on))

-- it is whole where its last path is one of last lanes
pub lists_more : (paths : List (List Step)) (path : List Step) → BeginsListing (paths ++ path ∷ []) → All IsLastLane path → IsListing (paths ++ path ∷ [])
lists_more [] path is lasts =
    let root : path ≡ [] = begins_at_root path [] is in
    subst (λ (p : List Step). IsListing (p ∷ [])) (sym root) (listing_of_chain [] (All-nil IsLastLane))
lists_more (p ∷ paths) path is lasts =
    let root : p ≡ [] = begins_at_root p (paths ++ path ∷ []) is in
    let chain : IsChain [] (paths ++ path ∷ []) = chain_of_begins (paths ++ path ∷ []) (subst (λ (q : List Step). BeginsListing (q ∷ (paths ++ path ∷ []))) root is) in
    subst (λ (q : List Step). IsListing (q ∷ (paths ++ path ∷ []))) (sym root) (listing_of_chain (paths ++ path ∷ []) (ends_more (All IsLastLane) [] paths path chain lasts))

pub lists_less : (paths : List (List Step)) (path : List Step) → IsListing (paths ++ path ∷ []) → All IsLastLane path
lists_less [] path is = subst (λ (p : List Step). All IsLastLane p) (sym (lists_at_root path [] is)) (All-nil IsLastLane)
lists_less (p ∷ paths) path is =
    let root : p ≡ [] = lists_at_root p (paths ++ path ∷ []) is in
    (ends_less (All IsLastLane) [] paths path (chain_of_listing (paths ++ path ∷ []) (subst (λ (q : List Step). IsListing (q ∷ (paths ++ path ∷ []))) root is))).1

-- a listing begins a listing, and has a path
pub lists_begins : (paths : List (List Step)) → IsListing paths → BeginsListing paths
lists_begins paths is = record { root = is.root; rest = []; lists = is.lists ∙ sym (append-nil paths) }

pub begins_shorter : (paths more : List (List Step)) → BeginsListing (paths ++ more) → BeginsListing paths
begins_shorter paths more is = record { root = is.root; rest = more ++ is.rest; lists = is.lists ∙ append_assoc paths more is.rest }

pub lists_some : IsListing [] → ⊥
lists_some is = cc (is.lists)

pub begins_none : BeginsListing []
begins_none = record { root = Ends; rest = listing Ends; lists = refl }
