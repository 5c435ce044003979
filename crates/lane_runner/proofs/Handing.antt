-- What regions hand on, one after another.
use Rattle.std.proofs.Common.{◌≡◌, refl, ap, sym, ◌∙◌, subst, ℕ, suc, ◌+◌, List, [], ◌∷◌, ◌++◌, length, replicate, Some, None, inr, append_assoc, arith}
use Rattle.std.proofs.lemmas.List.{append-nil, length-append, length-replicate}
use Rattle.std.proofs.lemmas.List.Elements.{Contains-append_right}
use Rattle.std.specs.List.{flat_map}
use Rattle.sw_base.specs.declared.path.Step.{Step}
use Rattle.sw_base.specs.Environment.{Text}
use Rattle.history_model.proofs.Parts.{then_regions}
use Rattle.log_format.specs.declared.record.Record.{Record}
use Rattle.race_model.specs.Listing.{lane_of}
use Rattle.history_model.specs.Work.{Work, Rest, RegionWork, work_regions, then_work}
use Rattle.event_buffer.specs.Buffered.{Buffered, IsStill}
use Rattle.lane_runner.specs.Handed.{HandedEntry, LogPlace, MaybeStop, IsForMemory, IsTrouble, MayLack, KeepsRecords, IsEntryOf, TaskHands, RegionsHand, LanesHand, HasFaultyLog, HasCrowdedTask, TellStop, HandsOn, AreFew, log_place}
use Rattle.lane_runner.specs.Going.{Progress, WorkHandsOn, AreFewBefore}

-- what a region that stopped so hands on, one may that stopped otherwise: where all that may lack or be missing there may here
module _ (place : LogPlace) (stop other : MaybeStop) (memory : IsForMemory stop → IsForMemory other) where
  -- under this path
  abbrev pub MayLackToo : List Step → Type 0
  MayLackToo path = (rest : List Step) (faults : ℕ) → MayLack stop (path ++ rest) faults → MayLack other (path ++ rest) faults

  lacks_too : (path : List Step) → MayLackToo path → (faults : ℕ) → MayLack stop path faults → MayLack other path faults
  lacks_too path too faults = subst (λ (p : List Step). MayLack stop p faults → MayLack other p faults) (append-nil path) (too [] faults)

  lane_lacks : (path : List Step) (number lane span : ℕ) → MayLackToo path → MayLackToo (lane_of path number lane span)
  lane_lacks path number lane span too = λ rest faults.
      let step : Step = record { region = number; lane = lane; span = span } in
      subst (λ (p : List Step). MayLack stop p faults → MayLack other p faults) (sym (append_assoc path (step ∷ []) rest)) (too (step ∷ rest) faults)

  keeps_weaker : (path : List Step) → MayLackToo path → (records : List Record) (size faults : ℕ) (text : Text) → KeepsRecords stop path records size faults text → KeepsRecords other path records size faults text
  keeps_weaker path too records size faults text (KeepsRecords.whole all) = KeepsRecords.whole all
  keeps_weaker path too records size faults text (KeepsRecords.torn lacks prefix) = KeepsRecords.torn (lacks_too path too faults lacks) prefix

  -- where nothing lacks in the other, the one ended: else what lies far enough below its path may lack
  ended_too : (path : List Step) → MayLackToo path → other ≡ None → stop ≡ None
  ended_too path too ended = by stop refl where
    step : Step
    step = record { region = 0; lane = 0; span = 0 }

    by : (s : MaybeStop) → stop ≡ s → s ≡ None
    by None is = refl
    by (Some stopped) is =
        let below = replicate (suc (length stopped.0)) step in
        let longer : (path ++ below ≡ stopped.0) → IsTrouble stopped.1 = λ same.
        absurd (let e = ap (λ (p : List Step). length p) same in let l = length-append path below in let r = length-replicate (suc (length stopped.0)) step in omega (arith, e, l, r)) in
        absurd (subst (λ (s : MaybeStop). MayLack s (path ++ below) 1) ended (too below 1 (subst (λ (s : MaybeStop). MayLack s (path ++ below) 1) (sym is) (inr (omega arith, longer)))))

  entry_weaker : (path : List Step) → MayLackToo path → (records : List Record) (e : HandedEntry) → IsEntryOf place stop path records e → IsEntryOf place other path records e
  entry_weaker path too records e is = record {
    task = is.task;
    dir = is.dir;
    own = is.own;
    tells = is.tells;
    count = is.count;
    keeps = λ text told. keeps_weaker path too records place.size e.faults text (is.keeps text told);
    faultless = λ ended. is.faultless (ended_too path too ended);
  }

  mutual
    pub task_weaker : (path : List Step) (works : List Work) (entries : List HandedEntry) → TaskHands place stop path works entries → MayLackToo path → TaskHands place other path works entries
    task_weaker _ _ _ (TaskHands.given path works e below is hand) too =
        TaskHands.given path works e below (entry_weaker path too _ e is) (regions_weaker path 0 (flat_map work_regions works) below hand too)
    task_weaker _ _ _ (TaskHands.missing path works below none hand) too = TaskHands.missing path works below (memory none) (regions_weaker path 0 (flat_map work_regions works) below hand too)

    pub regions_weaker : (path : List Step) (number : ℕ) (regions : List RegionWork) (entries : List HandedEntry) → RegionsHand place stop path number regions entries → MayLackToo path
        → RegionsHand place other path number regions entries
    regions_weaker _ _ _ _ (RegionsHand.no_region path number) too = RegionsHand.no_region path number
    regions_weaker _ _ _ _ (RegionsHand.region path number first regions mine others lanes later) too =
        RegionsHand.region path number first regions mine others (lanes_weaker path number first 0 first.span mine lanes too) (regions_weaker path (number + 1) regions others later too)

    pub lanes_weaker : (path : List Step) (number : ℕ) (region : RegionWork) (lane left : ℕ) (entries : List HandedEntry) → LanesHand place stop path number region lane left entries → MayLackToo path
        → LanesHand place other path number region lane left entries
    lanes_weaker _ _ _ _ _ _ (LanesHand.no_lane path number region lane) too = LanesHand.no_lane path number region lane
    lanes_weaker _ _ _ _ _ _ (LanesHand.lane path number region lane left mine others hand later) too =
        LanesHand.lane path number region lane left mine others (task_weaker _ _ mine hand (lane_lacks path number lane region.span too)) (lanes_weaker path number region (suc lane) left others later too)

-- ---- why a region stopped

pub tell_none : (entries : List HandedEntry) → TellStop None entries
tell_none entries = record { failed = λ path is. absurd cc; crowded = λ path line is. absurd cc }

faulty_later : (path : List Step) (xs ys : List HandedEntry) → HasFaultyLog path ys → HasFaultyLog path (xs ++ ys)
faulty_later path xs ys has = record { log = has.log; is = Contains-append_right xs ys has.log has.is; task = has.task; faulty = has.faulty }

crowded_later : (path : List Step) (xs ys : List HandedEntry) → HasCrowdedTask path ys → HasCrowdedTask path (xs ++ ys)
crowded_later path xs ys has = record {
  before = xs ++ has.before;
  own = has.own;
  below = has.below;
  after = has.after;
  parts = ap (λ (es : List HandedEntry). xs ++ es) has.parts ∙ sym (append_assoc xs has.before (has.own ∷ (has.below ++ has.after)));
  task = has.task;
  under = has.under;
  many = has.many;
}

pub tell_later : (stop : MaybeStop) (xs ys : List HandedEntry) → TellStop stop ys → TellStop stop (xs ++ ys)
tell_later stop xs ys tell = record {
  failed = λ path is. faulty_later path xs ys (tell.failed path is);
  crowded = λ path line is. crowded_later path xs ys (tell.crowded path line is);
}

module _ (place : LogPlace) (stop : MaybeStop) where
  pub regions_both : (path : List Step) (number : ℕ) (xs ys : List RegionWork) (es fs : List HandedEntry) → RegionsHand place stop path number xs es → RegionsHand place stop path (number + length xs) ys fs
      → RegionsHand place stop path number (xs ++ ys) (es ++ fs)
  regions_both _ _ _ ys _ fs (RegionsHand.no_region path number) later =
      subst (λ (n : ℕ). RegionsHand place stop path n ys fs) (let e : number + 0 ≡ number = omega arith in e) later
  regions_both _ _ _ ys _ fs (RegionsHand.region path number x xs mine others lanes rest) later =
      subst (λ (all : List HandedEntry). RegionsHand place stop path number (x ∷ (xs ++ ys)) all) (sym (append_assoc mine others fs))
      (RegionsHand.region path number x (xs ++ ys) mine (others ++ fs) lanes
      (regions_both path (number + 1) xs ys others fs rest
      (subst (λ (n : ℕ). RegionsHand place stop path n ys fs) (let e : number + length (x ∷ xs) ≡ number + 1 + length xs = omega arith in e) later)))

  -- regions that ended, and then others
  pub hand_then : (path : List Step) (number : ℕ) (xs ys : List RegionWork) (a b c : List HandedEntry) → HandsOn place None path number xs a b → HandsOn place stop path (number + length xs) ys b c → HandsOn place stop path number (xs ++ ys) a c
  hand_then path number xs ys a b c x y = record {
    added = x.added ++ y.added;
    grows = y.grows ∙ ap (λ (es : List HandedEntry). es ++ y.added) x.grows ∙ append_assoc a x.added y.added;
    hands = regions_both path number xs ys x.added y.added (regions_weaker place None stop (λ none. absurd none) path number xs x.added x.hands (λ rest faults none. absurd none)) y.hands;
    tell = tell_later stop x.added y.added y.tell;
  }

-- ---- works

pub hand_none : (place : LogPlace) (path : List Step) (number : ℕ) (entries : List HandedEntry) → HandsOn place None path number [] entries entries
hand_none place path number entries = record { added = []; grows = sym (append-nil entries); hands = RegionsHand.no_region path number; tell = tell_none [] }

pub same_place : (old new : Buffered) → IsStill old new → log_place new ≡ log_place old
same_place old new still = λ i. record { dir = still.dir i; size = still.size i; tells = still.tells i }

pub work_hands : (stop : MaybeStop) (old a b new : Progress) (work other : Work) → log_place a.buffer ≡ log_place old.buffer → a.buffer.path ≡ old.buffer.path → a.tally.forked ≡ old.tally.forked
    → a.done ≡ old.done → new.done ≡ b.done → work_regions other ≡ work_regions work → WorkHandsOn stop a b work → WorkHandsOn stop old new other
work_hands stop old a b new work other place path forked before after regions hands =
    subst (λ (es : List HandedEntry). HandsOn (log_place old.buffer) stop old.buffer.path old.tally.forked (work_regions other) old.done es) (sym after)
    (subst (λ (es : List HandedEntry). HandsOn (log_place old.buffer) stop old.buffer.path old.tally.forked (work_regions other) es b.done) before
    (subst (λ (rs : List RegionWork). HandsOn (log_place old.buffer) stop old.buffer.path old.tally.forked rs a.done b.done) (sym regions)
    (subst (λ (n : ℕ). HandsOn (log_place old.buffer) stop old.buffer.path n (work_regions work) a.done b.done) forked
    (subst (λ (at : List Step). HandsOn (log_place old.buffer) stop at a.tally.forked (work_regions work) a.done b.done) path
    (subst (λ (p : LogPlace). HandsOn p stop a.buffer.path a.tally.forked (work_regions work) a.done b.done) place hands)))))

-- a work without a region
pub work_hands_none : (old new : Progress) (work : Work) → new.done ≡ old.done → work_regions work ≡ [] → WorkHandsOn None old new work
work_hands_none old new work same none = work_hands None old old old new Rest work refl refl refl refl same none (hand_none (log_place old.buffer) old.buffer.path old.tally.forked old.done)

-- a work whose regions ended, and another
pub work_hands_then : (stop : MaybeStop) (old mid new : Progress) (one two : Work) → log_place mid.buffer ≡ log_place old.buffer → mid.buffer.path ≡ old.buffer.path
    → mid.tally.forked ≡ old.tally.forked + length (work_regions one) → WorkHandsOn None old mid one → WorkHandsOn stop mid new two → WorkHandsOn stop old new (then_work one two)
work_hands_then stop old mid new one two place path forked first second =
    subst (λ (rs : List RegionWork). HandsOn (log_place old.buffer) stop old.buffer.path old.tally.forked rs old.done new.done) (sym (then_regions one two))
    (hand_then (log_place old.buffer) stop old.buffer.path old.tally.forked (work_regions one) (work_regions two) old.done mid.done new.done first
    (subst (λ (n : ℕ). HandsOn (log_place old.buffer) stop old.buffer.path n (work_regions two) mid.done new.done) forked
    (subst (λ (at : List Step). HandsOn (log_place old.buffer) stop at mid.tally.forked (work_regions two) mid.done new.done) path
    (subst (λ (p : LogPlace). HandsOn p stop mid.buffer.path mid.tally.forked (work_regions two) mid.done new.done) place second))))

-- between steps that hand on nothing
pub few_between : (old a b new : List HandedEntry) → a ≡ old → new ≡ b → (AreFew a → AreFew b) → AreFew old → AreFew new
few_between old a b new before after few less = subst (λ (es : List HandedEntry). AreFew es) (sym after) (few (subst (λ (es : List HandedEntry). AreFew es) (sym before) less))

pub few_still : (old new : List HandedEntry) → new ≡ old → AreFew old → AreFew new
few_still old new same less = subst (λ (es : List HandedEntry). AreFew es) (sym same) less

-- regions that ended, and then others, of which all but the last brought few
pub few_before_then : (stop : MaybeStop) (old mid new : Progress) (xs ys : List RegionWork) → log_place mid.buffer ≡ log_place old.buffer → mid.buffer.path ≡ old.buffer.path
    → mid.tally.forked ≡ old.tally.forked + length xs → (AreFew old.done → AreFew mid.done) → AreFewBefore stop mid new ys → AreFewBefore stop old new (xs ++ ys)
few_before_then stop old mid new xs ys place path forked few y = record {
  before = xs ++ y.before;
  last = y.last;
  regions_are = ap (λ (rs : List RegionWork). xs ++ rs) y.regions_are ∙ sym (append_assoc xs y.before (y.last ∷ []));
  earlier = y.earlier;
  few = λ less. y.few (few less);
  handed =
      subst (λ (n : ℕ). HandsOn (log_place old.buffer) stop old.buffer.path n (y.last ∷ []) y.earlier new.done)
      (let e : mid.tally.forked + length y.before ≡ old.tally.forked + length (xs ++ y.before) = omega (arith, forked, length-append xs y.before) in e)
      (subst (λ (at : List Step). HandsOn (log_place old.buffer) stop at (mid.tally.forked + length y.before) (y.last ∷ []) y.earlier new.done) path
      (subst (λ (p : LogPlace). HandsOn p stop mid.buffer.path (mid.tally.forked + length y.before) (y.last ∷ []) y.earlier new.done) place y.handed));
}

-- between steps that hand on nothing
pub few_before_between : (stop : MaybeStop) (old a b new : Progress) (regions : List RegionWork) → log_place a.buffer ≡ log_place old.buffer → a.buffer.path ≡ old.buffer.path
    → a.tally.forked ≡ old.tally.forked → a.done ≡ old.done → new.done ≡ b.done → AreFewBefore stop a b regions → AreFewBefore stop old new regions
few_before_between stop old a b new regions place path forked before after y =
    few_before_then stop old a new [] regions place path (let e : a.tally.forked ≡ old.tally.forked + 0 = omega (arith, forked) in e) (few_still old.done a.done before)
    (record {
      before = y.before;
      last = y.last;
      regions_are = y.regions_are;
      earlier = y.earlier;
      few = y.few;
      handed = subst (λ (es : List HandedEntry). HandsOn (log_place a.buffer) stop a.buffer.path (a.tally.forked + length y.before) (y.last ∷ []) y.earlier es) (sym after) y.handed;
    })
