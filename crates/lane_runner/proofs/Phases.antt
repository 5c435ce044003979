-- The items of a phase, one after another.
use Rattle.std.proofs.Common.{◌≡◌, refl, ap, sym, ◌∙◌, subst, ℕ, ◌+◌, ◌-◌, ◌<◌, ◌≤◌, Bool, List, [], ◌∷◌, ◌++◌, length, take, drop, get_or, cond, ℤ, Result, Ok, Err, inl, inr, ◌⊎◌, arith}
use Rattle.std.specs.Prelude.{map, All}
use Rattle.std.proofs.lemmas.List.{length-append, map-append, take_more, drop_more, take-append-drop, take-append-le}
use Rattle.std.proofs.lemmas.List.Elements.{All-head, All-tail, All-take, All-get_or}
use Rattle.std.proofs.lemmas.List.Sums.{sum_by-append}
use Rattle.log_format.specs.Limit.{record_limit}
use Rattle.log_format.specs.declared.record.Kind.TheVariants as kind
use Rattle.kernel_model.specs.declared.phase.Item.{Item}
use Rattle.kernel_model.specs.declared.phase.Item.TheVariants as item
use Rattle.kernel_model.specs.State.{State, Outcome, after, event, state_of}
use Rattle.kernel_model.specs.Growth.{Grows}
use Rattle.kernel_model.specs.Value.{Site}
use Rattle.kernel_model.specs.Parts.{Part, Set, Run, Bar, run_part, run_parts, is_bar, bar_count, is_drawn, drawn_count}
use Rattle.kernel_model.specs.Phases.{part_of, EndsInBar, IsNoBar}
use Rattle.kernel_model.specs.Effect.{Returned}
use Rattle.kernel_model.proofs.Effects.{makes-stays}
use Rattle.kernel_model.proofs.Growing.{grows-plain, grows-put, run-grows}
use Rattle.kernel_model.proofs.Joining.{after-nothing, run_parts-append}
use Rattle.kernel_model.proofs.Steps.{kept-after}
use Rattle.shared_words.specs.declared.view.View.{View}
use Rattle.shared_words.specs.Handles.{HandValue, with_view}
use Rattle.history_model.specs.Work.{Work}
use Rattle.lane_runner.specs.declared.stop.Stop.TheVariants as stop
use Rattle.lane_runner.specs.declared.stop.Halt.{Halt}
use Rattle.lane_runner.specs.declared.stop.Halt.TheVariants as halt
use Rattle.execution_model.specs.Elements.{element_word}
use Rattle.lane_runner.specs.World.{WorldValue}
use Rattle.lane_runner.specs.Going.{Progress, CanGo, worked, Made, MadePast, GoesPast, Goes}
use Rattle.lane_runner.proofs.Following.{past_same, goes_same}
use Rattle.lane_runner.proofs.Running.{after_past, after_goes, after_stop}
use Rattle.lane_runner.specs.Phase.{IsItem, IsPhase}
use Rattle.lane_runner.proofs.Values.{can_follow, made_still}
use Rattle.lane_runner.proofs.Noting.{past_stop}

-- ---- what parts mean, one after another

part_grows : (at : Site) (part : Part) (s : State) → Grows s (state_of (run_part at part s))
part_grows at (Set slot value) s = grows-plain.assigns slot value s
part_grows at (Run code) s = run-grows at code s
part_grows at (Bar line) s = grows-put (event kind.Barrier line 0 0) s refl

pub parts_grow : (at : Site) (parts : List Part) (s : State) → Grows s (state_of (run_parts at parts s))
parts_grow at [] s = grows-plain.same s
parts_grow at (part ∷ parts) s = kept-after Grows grows-plain s (run_part at part s) (run_parts at parts) (part_grows at part s) (parts_grow at parts)

-- ---- where barriers stand

abbrev one_if : Bool → ℕ
one_if b = cond b 1 0

abbrev none_and : Bool → ℕ
none_and b = 0 + one_if b

pub no_bars : (items : List Item) → All IsNoBar items → bar_count (map part_of items) ≡ 0
no_bars [] none = refl
no_bars (x ∷ items) none =
    let first : bar_count (part_of x ∷ []) ≡ 0 = ap none_and (All-head IsNoBar x items none) in
    let rest = no_bars items (All-tail IsNoBar x items none) in
    let sum : bar_count (map part_of (x ∷ items)) ≡ bar_count (part_of x ∷ []) + bar_count (map part_of items) =
    sum_by-append (λ (p : Part). one_if (is_bar p)) (part_of x ∷ []) (map part_of items) in
    omega (arith, sum, first, rest)

-- before each item of a phase stands no barrier
no_bars_before : (items : List Item) (i : ℕ) → i < length items → EndsInBar items ⊎ All IsNoBar items → bar_count (map part_of (take i items)) ≡ 0
no_bars_before items i within (inl ends) =
    let short : i ≤ length ends.before = (let long = ap (λ (xs : List Item). length xs) ends.parts ∙ length-append ends.before (item.Bar ends.line ∷ []) in omega (arith, long, within)) in
    ap (λ (xs : List Item). bar_count (map part_of xs)) (ap (λ (xs : List Item). take i xs) ends.parts ∙ take-append-le i ends.before (item.Bar ends.line ∷ []) short)
    ∙ no_bars (take i ends.before) (All-take IsNoBar i ends.before ends.only)
no_bars_before items i within (inr none) = no_bars (take i items) (All-take IsNoBar i items none)

-- ---- one item more

-- an item of the phase, by its place
pub record IsItemAt (items : List Item) (i : ℕ) (x : Item) : Type 0 where
  within : i < length items
  is : x ≡ get_or items i x

pub item_at : (others items : List Item) (i : ℕ) (x : Item) → others ≡ items → i < length others → x ≡ get_or others i x → IsItemAt items i x
item_at others items i x same within is = record {
  within = subst (λ (xs : List Item). i < length xs) same within;
  is = subst (λ (xs : List Item). x ≡ get_or xs i x) same is;
}

module _ (items : List Item) (i : ℕ) (x : Item) (this : IsItemAt items i x) where
  pub item_has : (P : Item → Type 0) → All P items → P x
  item_has P all = subst P (sym this.is) (All-get_or P items i x this.within all)

  pub item_is : (locks : ℕ) → IsPhase locks items → IsItem locks x
  item_is locks phase = item_has (λ (y : Item). IsItem locks y) phase.0

  parts_more : map part_of (take (i + 1) items) ≡ map part_of (take i items) ++ part_of x ∷ []
  parts_more =
      ap (λ (xs : List Item). map part_of xs) (take_more items i x this.within ∙ ap (λ (y : Item). take i items ++ y ∷ []) (sym this.is))
      ∙ map-append part_of (take i items) (x ∷ [])

  parts_split : map part_of items ≡ map part_of (take i items) ++ part_of x ∷ map part_of (drop (i + 1) items)
  parts_split =
      ap (λ (xs : List Item). map part_of xs)
      (sym (take-append-drop i items) ∙ ap (λ (l : List Item). take i items ++ l) (drop_more items i x this.within ∙ ap (λ (y : Item). y ∷ drop (i + 1) items) (sym this.is)))
      ∙ map-append part_of (take i items) (x ∷ drop (i + 1) items)

  pub drawn_more : drawn_count (map part_of (take (i + 1) items)) ≡ drawn_count (map part_of (take i items)) + drawn_count (part_of x ∷ [])
  drawn_more =
      ap (λ (ps : List Part). drawn_count ps) parts_more
      ∙ sum_by-append (λ (p : Part). one_if (is_drawn p)) (map part_of (take i items)) (part_of x ∷ [])

  pub drawn_within : drawn_count (map part_of (take i items)) + drawn_count (part_of x ∷ []) ≤ drawn_count (map part_of items)
  drawn_within =
      let all = ap (λ (ps : List Part). drawn_count ps) parts_split ∙ sum_by-append (λ (p : Part). one_if (is_drawn p)) (map part_of (take i items)) (part_of x ∷ map part_of (drop (i + 1) items)) in
      let later = sum_by-append (λ (p : Part). one_if (is_drawn p)) (part_of x ∷ []) (map part_of (drop (i + 1) items)) in
      omega (arith, all, later)

  -- the items before it, where no more than the last of the phase is a barrier
  module _ (w : WorldValue) (at : Site) (slots mid_slots : List ℤ) (old mid : Progress) (phase : IsPhase w.words.locks items)
      (before : MadePast (bar_count (map part_of (take i items))) w (run_parts at (map part_of (take i items))) slots mid_slots old mid (Returned tt)) where
    none : bar_count (map part_of (take i items)) ≡ 0
    none = no_bars_before items i this.within phase.1

    plain_before : Made w (run_parts at (map part_of (take i items))) slots mid_slots old mid (Returned tt)
    plain_before = subst (λ (n : ℕ). MadePast n w (run_parts at (map part_of (take i items))) slots mid_slots old mid (Returned tt)) none before

    pub can_before : CanGo w old → CanGo w mid
    can_before can = can_follow w (run_parts at (map part_of (take i items))) slots mid_slots old mid (Returned tt) can plain_before

    bars_more : bar_count (map part_of (take (i + 1) items)) ≡ bar_count (part_of x ∷ [])
    bars_more =
        let sum = ap (λ (ps : List Part). bar_count ps) parts_more ∙ sum_by-append (λ (p : Part). one_if (is_bar p)) (map part_of (take i items)) (part_of x ∷ []) in
        omega (arith, sum, none)

    pub phase_next : (slots' : List ℤ) (new : Progress) → MadePast (bar_count (part_of x ∷ [])) w (run_part at (part_of x)) mid_slots slots' mid new (Returned tt)
        → MadePast (bar_count (map part_of (take (i + 1) items))) w (run_parts at (map part_of (take (i + 1) items))) slots slots' old new (Returned tt)
    phase_next slots' new made =
        subst (λ (n : ℕ). MadePast n w (run_parts at (map part_of (take (i + 1) items))) slots slots' old new (Returned tt)) (sym bars_more)
        (subst (λ (ps : List Part). MadePast (bar_count (part_of x ∷ [])) w (run_parts at ps) slots slots' old new (Returned tt)) (sym parts_more)
        (past_same w _ (run_parts at (map part_of (take i items) ++ part_of x ∷ [])) slots slots' old new
        (λ s. run_parts-append at (map part_of (take i items)) (part_of x ∷ []) s) (bar_count (part_of x ∷ [])) (Ok tt)
        (after_past w (run_parts at (map part_of (take i items))) (run_parts at (part_of x ∷ [])) slots (bar_count (part_of x ∷ [])) mid_slots slots' old mid new (Ok tt) plain_before
        (past_same w (run_part at (part_of x)) (run_parts at (part_of x ∷ [])) mid_slots slots' mid new (λ s. after-nothing (run_part at (part_of x) s)) (bar_count (part_of x ∷ [])) (Ok tt) made))))

    pub phase_stop : (slots' : List ℤ) (new : Progress) (why : Halt) → GoesPast (bar_count (part_of x ∷ [])) w (run_part at (part_of x)) mid_slots slots' mid new (Err why)
        → GoesPast (bar_count (map part_of items)) w (run_parts at (map part_of items)) slots slots' old new (Err why)
    phase_stop slots' new why goes =
        let later : List Part = map part_of (drop (i + 1) items) in
        past_stop 0 (bar_count (map part_of items)) w (run_parts at (map part_of items)) slots slots' old new why
        (subst (λ (ps : List Part). Goes w (run_parts at ps) slots slots' old new (Err why)) (sym parts_split)
        (goes_same w _ (run_parts at (map part_of (take i items) ++ part_of x ∷ later)) slots slots' old new
        (λ s. run_parts-append at (map part_of (take i items)) (part_of x ∷ later) s) (Err why)
        (after_goes w (run_parts at (map part_of (take i items))) (run_parts at (part_of x ∷ later)) slots mid_slots slots' old mid new (Err why) plain_before
        (after_stop w (run_part at (part_of x)) (run_parts at later) mid_slots slots' mid new why (parts_grow at later)
        (past_stop (bar_count (part_of x ∷ [])) 0 w (run_part at (part_of x)) mid_slots slots' mid new why goes)))))

-- no item yet
pub phase_begins : (w : WorldValue) (at : Site) (slots : List ℤ) (p : Progress) → CanGo w p → Made w (run_parts at []) slots slots p p (Returned tt)
phase_begins w at slots p can = made_still w (run_parts at []) slots p (Returned tt) can (makes-stays (run_parts at []) slots (record_limit - p.buffer.count) (Returned tt) (λ s same full. refl))

-- ---- what stays

-- a hand's place among the others, which no work changes
module _ {T : Type 0} (seen : View → T) (still : (word : ℕ → ℕ) (v : View) (work : Work) → seen (worked word v work) ≡ seen v)
    (bars : ℕ) (w : WorldValue) (part : State → Outcome (Unit {0})) (slots slots' : List ℤ) (old new : Progress) where
  by_work : (work : Work) → new.hand ≡ with_view old.hand (worked (element_word w.arrays) old.hand.view work) → seen new.hand.view ≡ seen old.hand.view
  by_work work is = ap (λ (h : HandValue View). seen h.view) is ∙ still (element_word w.arrays) old.hand.view work

  pub stays : (r : Result (Unit {0}) Halt) → GoesPast bars w part slots slots' old new r → seen new.hand.view ≡ seen old.hand.view
  stays (Ok u) m = by_work m.work m.done.hand
  stays (Err (halt.Own (stop.DivZero line))) m = by_work m.work m.done.hand
  stays (Err (halt.Own (stop.Index line))) m = by_work m.work m.done.hand
  stays (Err (halt.Own (stop.LogFull line))) m = by_work m.work m.done.hand
  stays (Err (halt.Region path why)) m = by_work m.work m.done.hand
  stays (Err (halt.Own (stop.Tasks line))) m = by_work m.work m.done.hand
  stays (Err (halt.Own (stop.Trouble trouble))) (m, refused) = by_work m.work m.done.hand

module _ (bars : ℕ) (w : WorldValue) (part : State → Outcome (Unit {0})) (slots slots' : List ℤ) (old new : Progress) (r : Result (Unit {0}) Halt) (goes : GoesPast bars w part slots slots' old new r) where
  pub held_stays : new.hand.view.held ≡ old.hand.view.held
  held_stays = stays (λ v. v.held) (λ word v work. refl) bars w part slots slots' old new r goes

  pub out_stays : new.hand.view.out ≡ old.hand.view.out
  out_stays = stays (λ v. v.out) (λ word v work. refl) bars w part slots slots' old new r goes
