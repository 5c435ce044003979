-- A team in the loop over its phases.
use Rattle.std.proofs.Common.{◌≡◌, inl, inr, refl, ap, sym, ◌∙◌, subst, ℕ, ◌+◌, ◌<◌, ◌≤◌, List, [], ◌∷◌, ◌++◌, length, map, take, drop, Option, Some, None, slice_index_or, arith}
use Rattle.std.specs.Prelude.{All, Bool, true, false, nat_lt}
use Rattle.std.proofs.lemmas.Bool.{ltb-true, ltb-false}
use Rattle.std.proofs.lemmas.List.{append-nil, get_or_default, length-append, take-append-drop}
use Rattle.std.proofs.Math.Seq.{get_or-append_seam}
use Rattle.std.proofs.lemmas.List.Elements.{All-nil, All-cons, All-head, All-tail}
use Rattle.sw_base.specs.declared.path.Step.{Step}
use Rattle.kernel_model.specs.declared.phase.Item.{Item}
use Rattle.kernel_model.specs.declared.phase.Item.TheVariants as item
use Rattle.kernel_model.specs.Parts.{bar_count, drawn_count, is_bar}
use Rattle.kernel_model.specs.Phases.{AreDivided, EndsInBar, IsNoBar, part_of, parts_in}
use Rattle.history_model.proofs.Parts.{count_cons}
use Rattle.shared_words.specs.declared.view.View.{View}
use Rattle.shared_words.specs.Handles.{HandValue}
use Rattle.history_model.specs.Work.{Phases, NoPhase}
use Rattle.lane_runner.specs.Going.{site}
use Rattle.lane_runner.proofs.Bodies.{log_still}
use Rattle.lane_runner.proofs.Phases.{no_bars}
use Rattle.lane_runner.proofs.Halting.{halt_none}
use Rattle.region_runner.specs.LastPhase.{IsLast}
use Rattle.region_runner.specs.Crew.{CrewValue, world_of}
use Rattle.region_runner.specs.Ground.{GroundValue, IsOurLane}
use Rattle.lane_runner.specs.Lane.{LaneValue, answer_due, progress}
use Rattle.region_runner.specs.Ran.{TaskGoes, task_part}
use Rattle.region_runner.specs.Stands.{AllGo, HasLastBar, HasPassed, IsFresh, LaneStands, MayGoOn, TeamRan, TeamStands}
use Rattle.lane_runner.specs.declared.stop.Halt.{Halt}
use Rattle.region_runner.proofs.RegionLanes.{parts_both}
use Rattle.region_runner.proofs.Standing.{drawn_after, drawn_both, ran_none}
use Rattle.region_runner.proofs.TeamPhases.{none_did}
use Rattle.region_runner.proofs.TeamSteps.{TeamSteps}

-- a lane before its first phase
pub stands_first : (crew : CrewValue) (lane : ℕ) (m : LaneValue) → IsFresh crew m → LaneStands crew m [] None NoPhase lane m
stands_first crew lane m f = record {
  path = refl;
  last = progress m;
  up = record { buffer = refl; tally = refl; done = refl };
  goes =
      subst (λ (h : Option Halt). TaskGoes (world_of crew lane) (task_part (site (world_of crew lane)) [] None) m.locals m.locals (progress m) (progress m) [] (answer_due h)) (sym (halt_none m f.going))
      (ran_none (world_of crew lane) (site (world_of crew lane)) m.locals (progress m) f.may.unrefused);
  log = log_still m.buffer;
  loops = λ goes. omega arith;
  may = λ goes. f.may;
  passes = λ goes. refl;
  ends = λ line none goes. absurd (no_line none);
  behind = λ h is. absurd (no_halt (sym (halt_none m f.going) ∙ is));
}
  where
    no_line : {line : ℕ} → None ≡ Some line → ⊥
    no_line e = cc

    no_halt : {h : Halt} → None ≡ Some h → ⊥
    no_halt e = cc

pub passed_none : (crew : CrewValue) (hand : HandValue View) (before : List LaneValue) → hand.there ≡ true → length before ≡ crew.span → ((k : ℕ) (d : LaneValue) → k < length before → IsFresh crew (slice_index_or before k d))
    → HasPassed crew [] hand hand before before
passed_none crew hand before there count fresh = record {
  phases = NoPhase;
  stands = record {
    count = count;
    did = none_did crew.arrays crew.span hand there;
    lanes = λ k d less. stands_first crew k (slice_index_or before k d) (fresh k d (omega (arith, count, less)));
  };
  goes = λ k d less. (fresh k d less).going;
  pass = tt;
}

-- ---- the barriers and the counters of phases

bars_after : (before : List Item) (line : ℕ) → All IsNoBar before → bar_count (map part_of (before ++ item.Bar line ∷ [])) ≡ 1
bars_after [] line none = refl
bars_after (x ∷ before) line none =
    let whole = count_cons is_bar (part_of x) (map part_of (before ++ item.Bar line ∷ [])) in
    let one = no_bars (x ∷ []) (All-cons IsNoBar x [] (All-head IsNoBar x before none) (All-nil IsNoBar)) in
    let rest = bars_after before line (All-tail IsNoBar x before none) in
    omega (arith, whole, one, rest)

pub one_bar : (items : List Item) → EndsInBar items → bar_count (map part_of items) ≡ 1
one_bar items ends = ap (λ (xs : List Item). bar_count (map part_of xs)) ends.parts ∙ bars_after ends.before ends.line ends.only

-- the last phase of all, and those before it
pub snoc_same : {A : Type 0} (xs ys : List A) (x y : A) → xs ++ x ∷ [] ≡ ys ++ y ∷ [] → (xs ≡ ys) × (x ≡ y)
snoc_same [] [] x y same = (refl, cc)
snoc_same [] (b ∷ ys) x y same = absurd (none ys (tail same)) where
  tail : x ∷ [] ≡ b ∷ ys ++ y ∷ [] → [] ≡ ys ++ y ∷ []
  tail e = cc

  none : (zs : List _) → [] ≡ zs ++ y ∷ [] → ⊥
  none [] e = cc
  none (z ∷ zs) e = cc
snoc_same (a ∷ xs) [] x y same = absurd (none xs (tail same)) where
  tail : a ∷ xs ++ x ∷ [] ≡ y ∷ [] → xs ++ x ∷ [] ≡ []
  tail e = cc

  none : (zs : List _) → zs ++ x ∷ [] ≡ [] → ⊥
  none [] e = cc
  none (z ∷ zs) e = cc
snoc_same (a ∷ xs) (b ∷ ys) x y same = let rest = snoc_same xs ys x y (tail same) in (cc, rest.1) where
  tail : a ∷ xs ++ x ∷ [] ≡ b ∷ ys ++ y ∷ [] → xs ++ x ∷ [] ≡ ys ++ y ∷ []
  tail e = cc

-- ---- what is asked of a lane before the next phase

pub may_next : (crew : CrewValue) (start m : LaneValue) (done : List (List Item)) (phases : Phases) (k : ℕ) (items : List Item) → LaneStands crew start done None phases k m → m.stopped ≡ None → start.tally.next_loop ≡ 0
    → drawn_count (parts_in (done ++ items ∷ [])) ≤ crew.chunks.loops → MayGoOn crew items m
may_next crew start m done phases k items stands going first few = record {
  going = going;
  may = stands.may going;
  counters = let so_far = stands.loops going in let more = drawn_after done items in omega (arith, so_far, more, first, few);
}

pub own_next : (g : GroundValue) (depth : ℕ) (crew : CrewValue) (start m : LaneValue) (done : List (List Item)) (end : Option ℕ) (phases : Phases) (k : ℕ) → LaneStands crew start done end phases k m → IsOurLane g depth start → IsOurLane g depth m
own_next g depth crew start m done end phases k stands own = record {
  path_is = stands.log.path ∙ own.path_is ∙ sym stands.path;
  deep = subst (λ (p : List Step). length p + depth ≡ 4) (sym stands.path) own.deep;
  size_is = stands.log.size ∙ own.size_is;
}

-- the counters suffice for the first of the phases
pub few_first : (phases : List (List Item)) (n loops : ℕ) → drawn_count (parts_in phases) ≤ loops → drawn_count (parts_in (take n phases)) ≤ loops
few_first phases n loops few =
    let whole = ap (λ (ps : List (List Item)). drawn_count (parts_in ps)) (sym (take-append-drop n phases)) ∙ ap drawn_count (parts_both (take n phases) (drop n phases)) ∙ drawn_both (parts_in (take n phases)) (parts_in (drop n phases)) in
    omega (arith, whole, few)

-- ---- how the loop ends

pub stops_early : (crew : CrewValue) (items done left : List (List Item)) (line : ℕ) (old new : HandValue View) (before after : List LaneValue) (phases : Phases) → items ≡ done ++ left → TeamStands crew done None phases old new before after → (AllGo after → ⊥)
    → HasLastBar done → TeamRan crew items line old new before after
stops_early crew items done left line old new before after phases is stands some bar = record {
  done = done;
  left = left;
  is = is;
  end = None;
  end_is = inl refl;
  phases = phases;
  stands = stands;
  ends = λ all. absurd (some all);
  early = λ none. bar;
}

pub runs_all : (crew : CrewValue) (earlier : List (List Item)) (last : List Item) (items : List (List Item)) (line : ℕ) (old new : HandValue View) (before after : List LaneValue) → items ≡ earlier ++ last ∷ [] → TeamSteps crew last (Some line) old new before after earlier
    → TeamRan crew items line old new before after
runs_all crew earlier last items line old new before after is steps = record {
  done = earlier ++ last ∷ [];
  left = [];
  is = is ∙ sym (append-nil (earlier ++ last ∷ []));
  end = Some line;
  end_is = inr (refl, refl);
  phases = steps.phases;
  stands = steps.stands;
  ends = λ all. steps.ends line refl all;
  early = λ none. absurd cc;
}

-- one lane more goes on
pub all_more : (lanes : List LaneValue) (n : ℕ) (m : LaneValue) → n < length lanes → m ≡ slice_index_or lanes n m → ((k : ℕ) (d : LaneValue) → k < n → (slice_index_or lanes k d).stopped ≡ None) → m.stopped ≡ None
    → (k : ℕ) (d : LaneValue) → k < n + 1 → (slice_index_or lanes k d).stopped ≡ None
all_more lanes n m inside is so_far goes k d less = by (nat_lt k n) refl where
  by : (below : Bool) → nat_lt k n ≡ below → (slice_index_or lanes k d).stopped ≡ None
  by true below = so_far k d (ltb-true k n below)
  by false below =
      let same : k ≡ n = let past = ltb-false k n below in omega (arith, past, less) in
      ap (λ (j : ℕ). (slice_index_or lanes j d).stopped) same ∙ ap (λ (x : LaneValue). x.stopped) (get_or_default lanes n d m inside) ∙ ap (λ (x : LaneValue). x.stopped) (sym is) ∙ goes

-- ---- the last phase

module _ (phases earlier : List (List Item)) (last : List Item) (parts : phases ≡ earlier ++ last ∷ []) where
  pub last_has : (P : List Item → Type 0) → All P phases → P last
  last_has P all =
      subst P (ap (λ (ps : List (List Item)). slice_index_or ps (length earlier) last) parts ∙ get_or-append_seam earlier last [] last)
      (all (length earlier) last (let count = ap (λ (ps : List (List Item)). length ps) parts ∙ length-append earlier (last ∷ []) in omega (arith, count)))

  pub last_ends : AreDivided phases → (line : ℕ) → 1 ≤ line → IsLast last line
  last_ends divided line some =
      let same = (snoc_same earlier divided.earlier last divided.last (sym parts ∙ divided.parts)).1 in
      record { some = some; none = subst (λ (x : List Item). bar_count (map part_of x) ≡ 0) (sym same) (no_bars divided.last divided.none_in_last) }
