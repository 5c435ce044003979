-- Critical sections: the steps on the mutex with what is done between them, by which the section ends or is left at a stop.
use Rattle.std.proofs.Common.{◌≡◌, refl, inr, ap, sym, ◌∙◌, subst, ⊎_elim, ℕ, ◌+◌, ◌-◌, ◌<◌, ◌≤◌, Bool, true, false, not, List, [], ◌∷◌, ◌++◌, length, ℤ, Some, None, Err, append_assoc, arith}
use Rattle.std.specs.Prelude.{map, filter, reverse, All, ◌==◌}
use Rattle.std.proofs.lemmas.List.{append-nil, reverse-append, map-append, length-append}
use Rattle.std.proofs.lemmas.List.Elements.{All-head, All-tail, filter-append}
use Rattle.log_format.specs.Limit.{record_limit, task_limit}
use Rattle.log_format.specs.declared.record.Record.{Record}
use Rattle.log_format.specs.declared.record.Kind.TheVariants as kind
use Rattle.kernel_syntax.specs.Tree as tree
use Rattle.kernel_syntax.specs.Tree.{Code}
use Rattle.kernel_model.specs.declared.stop.StopWhy.{StopWhy}
use Rattle.kernel_model.specs.declared.stop.StopWhy.TheVariants as reason
use Rattle.kernel_model.specs.State.{State, Fork, Outcome, after, and_then, put, event, state_of}
use Rattle.kernel_model.specs.Value.{Site}
use Rattle.kernel_model.specs.Trace.{run}
use Rattle.kernel_model.specs.Effect.{Effect, Returned, Halted, Makes, adds, then_effect}
use Rattle.kernel_model.proofs.Effects.{makes-put, makes-put_full, makes-same}
use Rattle.kernel_model.specs.Growth.{Grows}
use Rattle.kernel_model.proofs.Growing.{grows-plain, grows-steps, run-grows}
use Rattle.kernel_model.proofs.Steps.{kept-put, kept-after}
use Rattle.kernel_model.proofs.Joining.{after-done}
use Rattle.kernel_model.proofs.RunEffects.{makes-after, makes-after_halt, makes-Critical}
use Rattle.race_model.specs.Trace.{barrier_count}
use Rattle.race_model.specs.Race.{held_after}
use Rattle.race_model.specs.History.{release}
use Rattle.step_history.specs.declared.item.Item.{Item}
use Rattle.step_history.specs.declared.item.Deed.TheVariants as deed
use Rattle.step_history.specs.History.{item}
use Rattle.shared_words.specs.declared.view.View.{View}
use Rattle.shared_words.specs.Handles.{HandValue, Belongs, with_view}
use Rattle.shared_words.specs.Views.{locked, unlocked}
use Rattle.history_model.specs.Work.{Work, Rest, Put, RegionWork, work_records, work_regions, then_work}
use Rattle.history_model.specs.Did.{split_count, did}
use Rattle.history_model.specs.Sound.{IsSoundRecord}
use Rattle.history_model.proofs.Parts.{then_records, then_splits, then_did, then_sound, then_regions}
use Rattle.execution_model.specs.Runs.{RunsRegions}
use Rattle.event_buffer.specs.Buffered.{Buffered}
use Rattle.event_buffer.specs.Logged.{HoldsRecords}
use Rattle.sw_base.specs.declared.path.Step.{Step}
use Rattle.race_model.proofs.Held.{held_after-append}
use Rattle.kernel_syntax.specs.declared.syntax.Array.{Array}
use Rattle.lane_runner.specs.declared.stop.Stop.TheVariants as stop
use Rattle.lane_runner.specs.declared.stop.Halt.{Halt}
use Rattle.lane_runner.specs.declared.stop.Halt.TheVariants as halt
use Rattle.lane_runner.specs.Drawing.{Tally, HasDrawn}
use Rattle.lane_runner.proofs.Drawing.{drew_none, drew_nothing, drew_then}
use Rattle.execution_model.specs.Elements.{element_word, layout_of}
use Rattle.lane_runner.specs.World.{WorldValue}
use Rattle.lane_runner.specs.Handed.{HandedEntry, MaybeStop, log_place}
use Rattle.lane_runner.proofs.Handing.{work_hands, few_between, few_before_between}
use Rattle.lane_runner.specs.Going.{Progress, CanGo, HasDone, HasReleased, GainsRecords, Cause, AtLog, AtRegion, AtTasks, stop_by, WorkHandsOn, EndsBy, StopsBy, log_of, worked, BeginsPart, effect_of, Made, Began, Goes, PutsRecord}
use Rattle.lane_runner.proofs.Working.{log_then, no_access, view_same, gains_then, barriers_later}
use Rattle.lane_runner.specs.Stopping.{HaveEnded, StopsAtLast}
use Rattle.lane_runner.proofs.Stepping.{put_first}
use Rattle.lane_runner.proofs.Following.{after_is}
use Rattle.lane_runner.proofs.Beginning.{begins_then, begins_same}

-- the work of a section: a lock, what is done, and an unlock, which has line 0 where no log has it
abbrev pub section : ℕ → ℕ → ℕ → Work → Work
section mutex line end body = Put (event kind.Lock line mutex 0) (then_work body (Put (event kind.Unlock end mutex 0) Rest))

-- ---- the hand

section_view : (word : ℕ → ℕ) (v : View) (mutex line end : ℕ) (body : Work) → unlocked (worked word (locked v mutex) body) mutex ≡ worked word v (section mutex line end body)
section_view word v mutex line end body =
    view_same v (v.splits + split_count body) (v.splits + split_count (section mutex line end body))
    (((v.items ++ item v.name (deed.Lock mutex) ∷ []) ++ did word v.name v.splits body) ++ item v.name (deed.Unlock mutex) ∷ [])
    (v.items ++ did word v.name v.splits (section mutex line end body))
    (let sum = then_splits body (Put (event kind.Unlock end mutex 0) Rest) in omega (arith, sum))
    (append_assoc (v.items ++ item v.name (deed.Lock mutex) ∷ []) (did word v.name v.splits body) (item v.name (deed.Unlock mutex) ∷ [])
    ∙ append_assoc v.items (item v.name (deed.Lock mutex) ∷ []) (did word v.name v.splits body ++ item v.name (deed.Unlock mutex) ∷ [])
    ∙ ap (λ (items : List Item). v.items ++ (item v.name (deed.Lock mutex) ∷ items)) (sym (then_did word v.name v.splits body (Put (event kind.Unlock end mutex 0) Rest))))

section_hand : (word : ℕ → ℕ) (a b c d : HandValue View) (mutex line end : ℕ) (body : Work) → b ≡ with_view a (locked a.view mutex) → c ≡ with_view b (worked word b.view body) → d ≡ with_view c (unlocked c.view mutex)
    → d ≡ with_view a (worked word a.view (section mutex line end body))
section_hand word a b c d mutex line end body first second third =
    third
    ∙ ap (λ (h : HandValue View). with_view h (unlocked h.view mutex)) second
    ∙ ap (λ (h : HandValue View). with_view h (unlocked (worked word h.view body) mutex)) first
    ∙ ap (λ (v : View). with_view a v) (section_view word a.view mutex line end body)

-- ---- what is held

-- one mutex more is held
held_more : (mutex : ℕ) (h : List ℕ) → reverse h ++ mutex ∷ [] ≡ reverse (mutex ∷ h)
held_more mutex h = sym (reverse-append (mutex ∷ []) h)

other_kept : (x mutex : ℕ) → x < mutex → filter (λ (o : ℕ). not (o == mutex)) (x ∷ []) ≡ x ∷ []
other_kept x mutex less = rw (ap (λ (b : Bool). not b) (differs x mutex less)) refl
  where
    differs : (x mutex : ℕ) → x < mutex → (x == mutex) ≡ false
    differs x mutex less = grind arith

others_kept : (mutex : ℕ) (h : List ℕ) → All (λ (o : ℕ). o < mutex) h → filter (λ (o : ℕ). not (o == mutex)) (reverse h) ≡ reverse h
others_kept mutex [] all = refl
others_kept mutex (x ∷ h) all =
    ap (λ (l : List ℕ). filter (λ (o : ℕ). not (o == mutex)) l) (sym (held_more x h))
    ∙ filter-append (λ (o : ℕ). not (o == mutex)) (reverse h) (x ∷ [])
    ∙ ap (λ (l : List ℕ). l ++ filter (λ (o : ℕ). not (o == mutex)) (x ∷ [])) (others_kept mutex h (All-tail (λ (o : ℕ). o < mutex) x h all))
    ∙ ap (λ (l : List ℕ). reverse h ++ l) (other_kept x mutex (All-head (λ (o : ℕ). o < mutex) x h all))
    ∙ held_more x h

itself_gone : (mutex : ℕ) → filter (λ (o : ℕ). not (o == mutex)) (mutex ∷ []) ≡ []
itself_gone mutex = rw (ap (λ (b : Bool). not b) (same mutex)) refl
  where
    same : (mutex : ℕ) → (mutex == mutex) ≡ true
    same mutex = grind arith

-- after the unlock those are held that were held before
given_back : (mutex : ℕ) (h : List ℕ) → All (λ (o : ℕ). o < mutex) h → filter (λ (o : ℕ). not (o == mutex)) (reverse (mutex ∷ h)) ≡ reverse h
given_back mutex h all =
    ap (λ (l : List ℕ). filter (λ (o : ℕ). not (o == mutex)) l) (sym (held_more mutex h))
    ∙ filter-append (λ (o : ℕ). not (o == mutex)) (reverse h) (mutex ∷ [])
    ∙ ap (λ (l : List ℕ). l ++ filter (λ (o : ℕ). not (o == mutex)) (mutex ∷ [])) (others_kept mutex h all)
    ∙ ap (λ (l : List ℕ). reverse h ++ l) (itself_gone mutex)
    ∙ append-nil (reverse h)

module _ (mutex line end : ℕ) (some : 1 ≤ line) (body : Work) where
  abbrev tail_log : List Record
  tail_log = log_of (Put (event kind.Unlock end mutex 0) Rest)

  section_log : log_of (section mutex line end body) ≡ event kind.Lock line mutex 0 ∷ (log_of body ++ tail_log)
  section_log =
      put_first (event kind.Lock line mutex 0) (then_work body (Put (event kind.Unlock end mutex 0) Rest)) some
      ∙ ap (λ (rs : List Record). event kind.Lock line mutex 0 ∷ rs) (log_then body (Put (event kind.Unlock end mutex 0) Rest))

  section_records : work_records (section mutex line end body) ≡ event kind.Lock line mutex 0 ∷ (work_records body ++ event kind.Unlock end mutex 0 ∷ [])
  section_records = ap (λ (rs : List Record). event kind.Lock line mutex 0 ∷ rs) (then_records body (Put (event kind.Unlock end mutex 0) Rest))

  held_within : (h own : List ℕ) → HasReleased (mutex ∷ h) body own
      → held_after (reverse h) (log_of (section mutex line end body)) ≡ held_after (reverse (own ++ mutex ∷ h)) tail_log
  held_within h own r =
      ap (λ (rs : List Record). held_after (reverse h) rs) section_log
      ∙ held_after-append (reverse h ++ mutex ∷ []) (log_of body) tail_log
      ∙ ap (λ (held : List ℕ). held_after (held_after held (log_of body)) tail_log) (held_more mutex h)
      ∙ ap (λ (held : List ℕ). held_after held tail_log) r.held

-- who holds a mutex forks no region
apart_within : (mutex : ℕ) (body : Work) (h own : List ℕ) → HasReleased (mutex ∷ h) body own → work_regions body ≡ []
apart_within mutex body h own r = ⊎_elim (λ none. cc) (λ none. none) r.apart

section_is_apart : (mutex line end : ℕ) (body : Work) (h own : List ℕ) → HasReleased (mutex ∷ h) body own → work_regions (section mutex line end body) ≡ []
section_is_apart mutex line end body h own r =
    then_regions body (Put (event kind.Unlock end mutex 0) Rest) ∙ append-nil (work_regions body) ∙ apart_within mutex body h own r

-- a section that ends holds no more than before it
released_at_end : (mutex line end : ℕ) (some : 1 ≤ line) (at_end : 1 ≤ end) (body : Work) (h : List ℕ) → All (λ (o : ℕ). o < mutex) h → HasReleased (mutex ∷ h) body [] → HasReleased h (section mutex line end body) []
released_at_end mutex line end some at_end body h all r = record {
  records =
      section_records mutex line end some body
      ∙ ap (λ (rs : List Record). event kind.Lock line mutex 0 ∷ (rs ++ event kind.Unlock end mutex 0 ∷ [])) (r.records ∙ append-nil (log_of body))
      ∙ ap (λ (rs : List Record). event kind.Lock line mutex 0 ∷ (log_of body ++ rs)) (sym (put_first (event kind.Unlock end mutex 0) Rest at_end))
      ∙ sym (section_log mutex line end some body)
      ∙ sym (append-nil (log_of (section mutex line end body)));
  held =
      held_within mutex line end some body h [] r
      ∙ ap (λ (rs : List Record). held_after (reverse (mutex ∷ h)) rs) (put_first (event kind.Unlock end mutex 0) Rest at_end)
      ∙ given_back mutex h all;
  apart = inr (section_is_apart mutex line end body h [] r);
}

-- a section that is left at a stop releases its own mutex last
released_at_stop : (mutex line : ℕ) (some : 1 ≤ line) (body : Work) (h own : List ℕ) → HasReleased (mutex ∷ h) body own → HasReleased h (section mutex line 0 body) (own ++ mutex ∷ [])
released_at_stop mutex line some body h own r = record {
  records =
      section_records mutex line 0 some body
      ∙ ap (λ (rs : List Record). event kind.Lock line mutex 0 ∷ (rs ++ release mutex ∷ [])) r.records
      ∙ ap (λ (rs : List Record). event kind.Lock line mutex 0 ∷ rs) (append_assoc (log_of body) (map release own) (release mutex ∷ []))
      ∙ ap (λ (rs : List Record). event kind.Lock line mutex 0 ∷ (log_of body ++ rs)) (sym (map-append release own (mutex ∷ [])))
      ∙ ap (λ (rs : List Record). rs ++ map release (own ++ mutex ∷ [])) (sym (ap (λ (rs : List Record). event kind.Lock line mutex 0 ∷ rs) (append-nil (log_of body))))
      ∙ ap (λ (rs : List Record). rs ++ map release (own ++ mutex ∷ [])) (sym (section_log mutex line 0 some body));
  held =
      held_within mutex line 0 some body h own r
      ∙ ap (λ (l : List ℕ). reverse l) (sym (append_assoc own (mutex ∷ []) h));
  apart = inr (section_is_apart mutex line 0 body h own r);
}

-- ---- what was done

lock_sound : (w : WorldValue) (mutex line : ℕ) → IsSoundRecord (layout_of w.arrays) (event kind.Lock line mutex 0)
lock_sound w mutex line = no_access (layout_of w.arrays) (event kind.Lock line mutex 0) (λ is. cc) (λ is. cc) (λ is. cc) (λ is. cc)

unlock_sound : (w : WorldValue) (mutex line : ℕ) → IsSoundRecord (layout_of w.arrays) (event kind.Unlock line mutex 0)
unlock_sound w mutex line = no_access (layout_of w.arrays) (event kind.Unlock line mutex 0) (λ is. cc) (λ is. cc) (λ is. cc) (λ is. cc)

module _ (w : WorldValue) (mutex line end : ℕ) (some : 1 ≤ line) (old a b new : Progress) (body : Work) (taken : PutsRecord (event kind.Lock line mutex 0) (locked old.hand.view mutex) old a)
    (hand_is : new.hand ≡ with_view b.hand (unlocked b.hand.view mutex)) (log_is : GainsRecords b.buffer new.buffer (log_of (Put (event kind.Unlock end mutex 0) Rest)))
    (tally_is : HasDrawn b.tally new.tally (log_of (Put (event kind.Unlock end mutex 0) Rest))) (unlocked_forks : new.tally.forked ≡ b.tally.forked) where
  section_done : HasDone w a b body → HasDone w old new (section mutex line end body)
  section_done done = record {
    hand = section_hand (element_word w.arrays) old.hand a.hand b.hand new.hand mutex line end body taken.hand done.hand hand_is;
    log = subst (λ (rs : List Record). GainsRecords old.buffer new.buffer rs) (sym (section_log mutex line end some body))
        (gains_then old.buffer a.buffer new.buffer (event kind.Lock line mutex 0 ∷ []) (log_of body ++ log_of (Put (event kind.Unlock end mutex 0) Rest))
        taken.log
        (gains_then a.buffer b.buffer new.buffer (log_of body) (log_of (Put (event kind.Unlock end mutex 0) Rest)) done.log log_is));
    draws = subst (λ (rs : List Record). HasDrawn old.tally new.tally rs) (sym (section_log mutex line end some body))
        (drew_then old.tally a.tally new.tally (event kind.Lock line mutex 0 ∷ []) (log_of body ++ log_of (Put (event kind.Unlock end mutex 0) Rest))
        (subst (λ (t : Tally). HasDrawn old.tally t (event kind.Lock line mutex 0 ∷ [])) (sym taken.tally) (drew_nothing old.tally (event kind.Lock line mutex 0) refl))
        (drew_then a.tally b.tally new.tally (log_of body) (log_of (Put (event kind.Unlock end mutex 0) Rest)) done.draws tally_is));
    forked =
        let first = ap (λ (t : Tally). t.forked) taken.tally in
        let same = ap (λ (rs : List RegionWork). length rs) (then_regions body (Put (event kind.Unlock end mutex 0) Rest) ∙ append-nil (work_regions body)) in
        let within = done.forked in
        omega (arith, first, same, within, unlocked_forks);
    told =
        let same = ap (λ (rs : List RegionWork). length rs) (then_regions body (Put (event kind.Unlock end mutex 0) Rest) ∙ append-nil (work_regions body)) in
        let records = ap (λ (rs : List Record). length rs) (section_log mutex line end some body) in
        let within = done.told in
        omega (arith, same, records, within, length-append (log_of body) (log_of (Put (event kind.Unlock end mutex 0) Rest)));
    sound = (
      lock_sound w mutex line,
      (λ is. cc),
      then_sound (layout_of w.arrays) body (Put (event kind.Unlock end mutex 0) Rest) done.sound (unlock_sound w mutex end, (λ is. cc), tt) done.barriers,
    );
    barriers =
        barriers_later 0 (event kind.Lock line mutex 0 ∷ []) (work_records (then_work body (Put (event kind.Unlock end mutex 0) Rest))) refl
        (ap (λ (rs : List Record). barrier_count rs) (then_records body (Put (event kind.Unlock end mutex 0) Rest)) ∙ barriers_later 0 (work_records body) (event kind.Unlock end mutex 0 ∷ []) done.barriers refl);
  }

  held_is : a.hand.view.held ≡ mutex ∷ old.hand.view.held
  held_is = ap (λ (h : HandValue View). h.view.held) taken.hand

  section_forks_no_region : work_regions (section mutex line end body) ≡ work_regions body
  section_forks_no_region = then_regions body (Put (event kind.Unlock end mutex 0) Rest) ∙ append-nil (work_regions body)

  section_regions : (P : List RegionWork → Type 0) → P (work_regions body) → P (work_regions (section mutex line end body))
  section_regions P holds = subst P (sym section_forks_no_region) holds

  room_left : record_limit - a.buffer.count ≡ record_limit - old.buffer.count - 1
  room_left = let count = taken.log.count in omega arith

  some_room : 0 < record_limit - old.buffer.count
  some_room = let below = taken.below in omega arith

-- the regions forked in a section
section_hands : (stop : MaybeStop) (mutex line end : ℕ) (old a b new : Progress) → PutsRecord (event kind.Lock line mutex 0) (locked old.hand.view mutex) old a → (body : Work) → new.done ≡ b.done
    → WorkHandsOn stop a b body → WorkHandsOn stop old new (section mutex line end body)
section_hands stop mutex line end old a b new taken body same hands =
    work_hands stop old a b new body (section mutex line end body) taken.log.place taken.log.path (ap (λ (t : Tally). t.forked) taken.tally) taken.done same
    (then_regions body (Put (event kind.Unlock end mutex 0) Rest) ∙ append-nil (work_regions body)) hands

-- ---- the meaning of a section after its lock

unlock_grows : (mutex end : ℕ) (s : State) → Grows s (state_of (put (event kind.Unlock end mutex 0) s))
unlock_grows mutex end s = kept-put Grows grows-plain (event kind.Unlock end mutex 0) s (λ room is. grows-steps.marks (event kind.Unlock end mutex 0) room s is tt)

abbrev pub section_rest : Site → Code → ℕ → ℕ → State → Outcome (Unit {0})
section_rest at code mutex end s = after (run at code s) (λ (t : State). after (put (event kind.Unlock end mutex 0) t) (run at tree.Done))

abbrev pub unlocking : Site → ℕ → ℕ → State → Outcome (Unit {0})
unlocking at mutex end s = after (put (event kind.Unlock end mutex 0) s) (run at tree.Done)

pub unlocking_grows : (at : Site) (mutex end : ℕ) (s : State) → Grows s (state_of (after (put (event kind.Unlock end mutex 0) s) (run at tree.Done)))
unlocking_grows at mutex end s =
    kept-after Grows grows-plain s (put (event kind.Unlock end mutex 0) s) (run at tree.Done) (unlock_grows mutex end s) (run-grows at tree.Done)

pub full_at_unlock : (at : Site) (slots : List ℤ) (mutex end : ℕ) → Makes (λ s. after (put (event kind.Unlock end mutex 0) s) (run at tree.Done)) slots 0 (adds slots []) (Halted reason.LogFull end)
full_at_unlock at slots mutex end = makes-after_halt (put (event kind.Unlock end mutex 0)) (run at tree.Done) slots 0 (adds slots []) reason.LogFull end (makes-put_full (event kind.Unlock end mutex 0) slots)

-- ---- sections that end

module _ (w : WorldValue) (at : Site) (code : Code) (mutex line end : ℕ) (some : 1 ≤ line) (at_end : 1 ≤ end) (slots slots' : List ℤ) (old a b new : Progress) where
  abbrev unlock_then : State → Outcome (Unit {0})
  unlock_then s = after (put (event kind.Unlock end mutex 0) s) (run at tree.Done)

  unlocks : (k : ℕ) → 0 < k → Makes unlock_then slots' k (adds slots' (event kind.Unlock end mutex 0 ∷ [])) (Returned tt)
  unlocks k left =
      makes-same (put (event kind.Unlock end mutex 0)) unlock_then slots' k (adds slots' (event kind.Unlock end mutex 0 ∷ [])) (Returned tt)
      (λ s. after-done at (put (event kind.Unlock end mutex 0) s)) (makes-put (event kind.Unlock end mutex 0) slots' k left refl refl)

  pub section_ends : All (λ (o : ℕ). o < mutex) old.hand.view.held → PutsRecord (event kind.Lock line mutex 0) (locked old.hand.view mutex) old a → Made w (run at code) slots slots' a b (Returned tt)
      → PutsRecord (event kind.Unlock end mutex 0) (unlocked b.hand.view mutex) b new → Made w (run at (tree.Critical mutex line end code tree.Done)) slots slots' old new (Returned tt)
  section_ends all taken m given = record {
    work = section mutex line end m.work;
    forks = m.forks;
    own = [];
    done = section_done w mutex line end some old a b new m.work taken given.hand gained tallied forked m.done;
    released =
        released_at_end mutex line end some at_end m.work old.hand.view.held all
        (subst (λ (l : List ℕ). HasReleased (mutex ∷ old.hand.view.held) m.work l) m.closes
        (subst (λ (h : List ℕ). HasReleased h m.work m.own) (held_is w mutex line end some old a b new m.work taken given.hand gained tallied forked) m.released));
    closes = refl;
    ended = section_regions w mutex line end some old a b new m.work taken given.hand gained tallied forked (λ rs. HaveEnded rs) m.ended;
    handed = section_hands None mutex line end old a b new taken m.work given.done m.handed;
    few = few_between old.done a.done b.done new.done taken.done given.done m.few;
    unrefused = given.unrefused;
    makes =
        subst (λ (e : Effect). Makes (run at (tree.Critical mutex line end code tree.Done)) slots (record_limit - old.buffer.count) e (Returned tt)) effect_is
        (makes-Critical at slots (record_limit - old.buffer.count) mutex line end code tree.Done (effect_of slots' m.work m.forks) (adds slots' (event kind.Unlock end mutex 0 ∷ [])) (Returned tt)
        (some_room w mutex line end some old a b new m.work taken given.hand gained tallied forked)
        (subst (λ (k : ℕ). Makes (run at code) slots k (effect_of slots' m.work m.forks) (Returned tt)) (room_left w mutex line end some old a b new m.work taken given.hand gained tallied forked)
        m.makes)
        (unlocks (record_limit - old.buffer.count - 1 - length (log_of m.work)) (let first = taken.log.count in let body = m.done.log.count in let below = given.below in omega arith)));
    regions = λ program is. section_regions w mutex line end some old a b new m.work taken given.hand gained tallied forked (λ rs. RunsRegions program m.forks rs) (m.regions program is);
  }
    where
      forked : new.tally.forked ≡ b.tally.forked
      forked = ap (λ (t : Tally). t.forked) given.tally

      tallied : HasDrawn b.tally new.tally (log_of (Put (event kind.Unlock end mutex 0) Rest))
      tallied =
          subst (λ (rs : List Record). HasDrawn b.tally new.tally rs) (sym (put_first (event kind.Unlock end mutex 0) Rest at_end))
          (subst (λ (t : Tally). HasDrawn b.tally t (event kind.Unlock end mutex 0 ∷ [])) (sym given.tally) (drew_nothing b.tally (event kind.Unlock end mutex 0) refl))

      gained : GainsRecords b.buffer new.buffer (log_of (Put (event kind.Unlock end mutex 0) Rest))
      gained = subst (λ (rs : List Record). GainsRecords b.buffer new.buffer rs) (sym (put_first (event kind.Unlock end mutex 0) Rest at_end)) given.log

      log_is : event kind.Lock line mutex 0 ∷ (log_of m.work ++ event kind.Unlock end mutex 0 ∷ []) ≡ log_of (section mutex line end m.work)
      log_is =
          ap (λ (rs : List Record). event kind.Lock line mutex 0 ∷ (log_of m.work ++ rs)) (sym (put_first (event kind.Unlock end mutex 0) Rest at_end))
          ∙ sym (section_log mutex line end some m.work)

      effect_is : then_effect (adds slots (event kind.Lock line mutex 0 ∷ [])) (then_effect (effect_of slots' m.work m.forks) (adds slots' (event kind.Unlock end mutex 0 ∷ [])))
          ≡ effect_of slots' (section mutex line end m.work) m.forks
      effect_is = λ i. record { slots = slots'; added = log_is i; forks = append-nil m.forks i }

-- ---- sections that are left at a stop

no_last : (before : List RegionWork) (region : RegionWork) → before ++ region ∷ [] ≡ [] → ⊥
no_last [] region is = cc
no_last (b ∷ before) region is = cc

-- regions of a task that took a lock before
stops_from : (arrays : List Array) (old a b new : Progress) (cause : Cause) (forks : List Fork) (regions : List RegionWork) {event : Record} {after : View} → PutsRecord event after old a → new.done ≡ b.done
    → StopsBy arrays a b cause forks regions → StopsBy arrays old new cause forks regions
stops_from arrays old a b new AtLog forks regions taken same stops = (stops.0, few_between old.done a.done b.done new.done taken.done same stops.1)
stops_from arrays old a b new (AtTasks line) forks regions taken same stops = (
  stops.0,
  subst (λ (es : List HandedEntry). task_limit < length es) (sym same) stops.1,
  few_before_between None old a b new regions taken.log.place taken.log.path (ap (λ (t : Tally). t.forked) taken.tally) taken.done same stops.2,
)
stops_from arrays old a b new (AtRegion path why) forks regions taken same stops = (
  subst (λ (at : List Step). StopsAtLast arrays at old.tally.forked path why forks regions) taken.log.path
      (subst (λ (t : Tally). StopsAtLast arrays a.buffer.path t.forked path why forks regions) taken.tally stops.0),
  few_before_between (Some (path, why)) old a b new regions taken.log.place taken.log.path (ap (λ (t : Tally). t.forked) taken.tally) taken.done same stops.1,
)

module _ (w : WorldValue) (part inner : State → Outcome (Unit {0})) (mutex line : ℕ) (some : 1 ≤ line) (slots slots' : List ℤ) (old a b new : Progress)
    (same : (s : State) → part s ≡ after (put (event kind.Lock line mutex 0) s) inner)
    (taken : PutsRecord (event kind.Lock line mutex 0) (locked old.hand.view mutex) old a) (hand_is : new.hand ≡ with_view b.hand (unlocked b.hand.view mutex)) (buffer_is : new.buffer ≡ b.buffer) (same_tally : new.tally ≡ b.tally) (done_is : new.done ≡ b.done) where
  abbrev lock_record : Record
  lock_record = event kind.Lock line mutex 0

  forked : new.tally.forked ≡ b.tally.forked
  forked = ap (λ (t : Tally). t.forked) same_tally

  tallied : HasDrawn b.tally new.tally (log_of (Put (release mutex) Rest))
  tallied = subst (λ (t : Tally). HasDrawn b.tally t []) (sym same_tally) (drew_none b.tally)

  gained : GainsRecords b.buffer new.buffer (log_of (Put (release mutex) Rest))
  gained = record {
    records = λ header records holds. subst (λ (rs : List Record). HoldsRecords header new.buffer rs) (sym (append-nil records)) (subst (λ (x : Buffered). HoldsRecords header x records) (sym buffer_is) holds);
    count = ap (λ (x : Buffered). x.count) buffer_is ∙ (let e : b.buffer.count ≡ b.buffer.count + 0 = omega arith in e);
    path = ap (λ (x : Buffered). x.path) buffer_is;
    place = ap log_place buffer_is;
  }

  left_log : (work : Work) → lock_record ∷ log_of work ≡ log_of (section mutex line 0 work)
  left_log work = ap (λ (rs : List Record). lock_record ∷ rs) (sym (append-nil (log_of work))) ∙ sym (section_log mutex line 0 some work)

  left_released : (work : Work) (own : List ℕ) → HasReleased a.hand.view.held work own → HasReleased old.hand.view.held (section mutex line 0 work) (own ++ mutex ∷ [])
  left_released work own r =
      released_at_stop mutex line some work old.hand.view.held own
      (subst (λ (h : List ℕ). HasReleased h work own) (held_is w mutex line 0 some old a b new work taken hand_is gained tallied forked) r)

  left_halts : (why : StopWhy) (at_line : ℕ) → Made w inner slots slots' a b (Halted why at_line) → Made w part slots slots' old new (Halted why at_line)
  left_halts why at_line m = record {
    work = section mutex line 0 m.work;
    forks = m.forks;
    own = m.own ++ mutex ∷ [];
    done = section_done w mutex line 0 some old a b new m.work taken hand_is gained tallied forked m.done;
    released = left_released m.work m.own m.released;
    closes = tt;
    ended = section_regions w mutex line 0 some old a b new m.work taken hand_is gained tallied forked (λ rs. HaveEnded rs) m.ended;
    handed = section_hands None mutex line 0 old a b new taken m.work done_is m.handed;
    few = few_between old.done a.done b.done new.done taken.done done_is m.few;
    unrefused = ap (λ (x : Buffered). x.refused) buffer_is ∙ m.unrefused;
    makes =
        makes-same (λ s. after (put lock_record s) inner) part slots (record_limit - old.buffer.count) (effect_of slots' (section mutex line 0 m.work) m.forks) (Halted why at_line) same
        (subst (λ (rs : List Record). Makes (λ s. after (put lock_record s) inner) slots (record_limit - old.buffer.count) (record { slots = slots'; added = rs; forks = m.forks }) (Halted why at_line)) (left_log m.work)
        (makes-after (put lock_record) inner slots (record_limit - old.buffer.count) (adds slots (lock_record ∷ [])) (effect_of slots' m.work m.forks) (Halted why at_line)
        (makes-put lock_record slots (record_limit - old.buffer.count) (some_room w mutex line 0 some old a b new m.work taken hand_is gained tallied forked) refl refl)
        (subst (λ (k : ℕ). Makes inner slots k (effect_of slots' m.work m.forks) (Halted why at_line)) (room_left w mutex line 0 some old a b new m.work taken hand_is gained tallied forked)
        m.makes)));
    regions = λ program is. section_regions w mutex line 0 some old a b new m.work taken hand_is gained tallied forked (λ rs. RunsRegions program m.forks rs) (m.regions program is);
  }

  -- no region was forked in the section
  left_ends : (cause : Cause) (forks : List Fork) (work : Work) (own : List ℕ) → HasReleased a.hand.view.held work own → StopsBy w.arrays a b cause forks (work_regions work)
      → EndsBy cause (own ++ mutex ∷ []) (log_of (section mutex line 0 work))
  left_ends AtLog forks work own r stops = tt
  left_ends (AtRegion path why) forks work own r stops =
      let none = apart_within mutex work old.hand.view.held own (subst (λ (h : List ℕ). HasReleased h work own) (held_is w mutex line 0 some old a b new work taken hand_is gained tallied forked) r) in
      absurd (no_last stops.1.before stops.1.last (sym stops.1.regions_are ∙ none))
  left_ends (AtTasks at_line) forks work own r stops =
      let none = apart_within mutex work old.hand.view.held own (subst (λ (h : List ℕ). HasReleased h work own) (held_is w mutex line 0 some old a b new work taken hand_is gained tallied forked) r) in
      absurd (no_last stops.2.before stops.2.last (sym stops.2.regions_are ∙ none))

  left_begins : (cause : Cause) → Began w inner slots a b cause → Began w part slots old new cause
  left_begins cause m = record {
    work = section mutex line 0 m.work;
    forks = m.forks;
    own = m.own ++ mutex ∷ [];
    done = section_done w mutex line 0 some old a b new m.work taken hand_is gained tallied forked m.done;
    released = left_released m.work m.own m.released;
    ends = left_ends cause m.forks m.work m.own m.released m.stops;
    stops = section_regions w mutex line 0 some old a b new m.work taken hand_is gained tallied forked (λ rs. StopsBy w.arrays old new cause m.forks rs) (stops_from w.arrays old a b new cause m.forks (work_regions m.work) taken done_is m.stops);
    handed = section_hands (stop_by cause) mutex line 0 old a b new taken m.work done_is m.handed;
    begins =
        begins_same (λ s. and_then (put lock_record s) (λ u t. inner t)) part slots (record_limit - old.buffer.count) (log_of (section mutex line 0 m.work)) m.forks (λ s. same s ∙ after_is (put lock_record s) inner)
        (subst (λ (rs : List Record). BeginsPart (λ s. and_then (put lock_record s) (λ u t. inner t)) slots (record_limit - old.buffer.count) rs m.forks) (left_log m.work)
        (begins_then (put lock_record) (λ u t. inner t) slots (record_limit - old.buffer.count) (adds slots (lock_record ∷ [])) tt (log_of m.work) m.forks
        (makes-put lock_record slots (record_limit - old.buffer.count) (some_room w mutex line 0 some old a b new m.work taken hand_is gained tallied forked) refl refl)
        (subst (λ (k : ℕ). BeginsPart inner slots k (log_of m.work) m.forks) (room_left w mutex line 0 some old a b new m.work taken hand_is gained tallied forked)
        m.begins)));
    regions = λ program is. section_regions w mutex line 0 some old a b new m.work taken hand_is gained tallied forked (λ rs. RunsRegions program m.forks rs) (m.regions program is);
  }

  pub section_left : (why : Halt) → Goes w inner slots slots' a b (Err why) → Goes w part slots slots' old new (Err why)
  section_left (halt.Own (stop.DivZero at_line)) m = left_halts reason.DivZero at_line m
  section_left (halt.Own (stop.Index at_line)) m = left_halts reason.Index at_line m
  section_left (halt.Own (stop.LogFull at_line)) m = left_halts reason.LogFull at_line m
  section_left (halt.Region path why) m = left_begins (AtRegion path why) m
  section_left (halt.Own (stop.Tasks at_line)) m = left_begins (AtTasks at_line) m
  section_left (halt.Own (stop.Trouble trouble)) (m, refused) = (left_begins AtLog m, record { refused = λ other. ap (λ (x : Buffered). x.refused) buffer_is ∙ refused.refused other })

-- a lane that put a record after its step can go on
pub can_taken : (w : WorldValue) (event : Record) (after : View) (old new : Progress) → CanGo w old → after.out ≡ old.hand.view.out → PutsRecord event after old new → CanGo w new
can_taken w event after old new can same taken = record {
  home = ap (λ (h : HandValue View). h.view.out) taken.hand ∙ same ∙ can.home;
  belongs = record { here = ap (λ (h : HandValue View). h.table) taken.hand ∙ can.belongs.here; there = ap (λ (h : HandValue View). h.there) taken.hand };
  unrefused = taken.unrefused;
  drawing = subst (λ (t : Tally). Belongs t.draws w.chunks.table) (sym taken.tally) can.drawing;
  forks = let forks = can.forks in let count = taken.log.count in let same = ap (λ (t : Tally). t.forked) taken.tally in omega arith;
  enough = let enough = can.enough in let count = taken.log.count in let left : new.tally.draws.view.left ≡ old.tally.draws.view.left = ap (λ (t : Tally). t.draws.view.left) taken.tally in omega arith;
}
