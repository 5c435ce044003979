-- One step of a lane, with its record.
use Rattle.std.proofs.Common.{◌≡◌, ◌≢◌, refl, inr, ap, sym, ◌∙◌, subst, ℕ, ◌+◌, ◌-◌, ◌<◌, ◌≤◌, Bool, true, false, not, List, [], ◌∷◌, ◌++◌, ℤ, None, Result, Ok, Err, arith}
use Rattle.std.specs.Prelude.{OnOk, ◌==◌, map, reverse}
use Rattle.std.proofs.lemmas.List.{append-nil}
use Rattle.log_format.specs.Limit.{record_limit}
use Rattle.log_format.specs.declared.record.Record.{Record}
use Rattle.kernel_model.specs.declared.stop.StopWhy.TheVariants as reason
use Rattle.kernel_model.specs.State.{State, Outcome, state_of, number_drawn}
use Rattle.kernel_model.specs.Growth.{Grows}
use Rattle.kernel_model.specs.Effect.{Returned, Halted, Makes, adds}
use Rattle.step_history.specs.declared.item.Deed.{Deed}
use Rattle.step_history.specs.History.{item}
use Rattle.shared_words.specs.declared.view.View.{View}
use Rattle.shared_words.specs.Handles.{HandValue, with_view}
use Rattle.shared_words.specs.Views as hand
use Rattle.history_model.specs.Work.{Work, Rest, Put, logged}
use Rattle.history_model.specs.Did.{deeds_of}
use Rattle.history_model.specs.Sound.{IsSoundRecord}
use Rattle.race_model.specs.Trace.{is_barrier_kind}
use Rattle.race_model.specs.Race.{held_after, held_after_kind}
use Rattle.execution_model.specs.Runs.{RunsRegions}
use Rattle.event_buffer.specs.Logged.{HoldsRecords}
use Rattle.event_buffer.specs.declared.fault.BufferFault.{BufferFault}
use Rattle.lane_runner.specs.declared.stop.Stop.TheVariants as stop
use Rattle.lane_runner.specs.declared.stop.Halt.{Halt}
use Rattle.lane_runner.specs.declared.stop.Halt.TheVariants as halt
use Rattle.lane_runner.specs.Drawing.{Tally, HasDrawn}
use Rattle.lane_runner.proofs.Drawing.{drew_none, drew_nothing}
use Rattle.execution_model.specs.Elements.{element_word, layout_of}
use Rattle.lane_runner.specs.World.{WorldValue}
use Rattle.lane_runner.specs.Going.{Progress, CanGo, log_of, worked, GainsRecords, HasDone, Made, Goes, Waits, HasRoomFor, MakesRoom}
use Rattle.lane_runner.proofs.Working.{done_none, view_same}
use Rattle.lane_runner.proofs.Beginning.{begins_none}
use Rattle.lane_runner.proofs.Releasing.{released_none}
use Rattle.lane_runner.proofs.Ending.{ended_none}
use Rattle.lane_runner.proofs.Handing.{work_hands_none, few_still}

pub not_refused : (P : Type 0) (r : Result (Unit {0}) BufferFault) → ((f : BufferFault) → r ≢ Err f) → OnOk r P → P
not_refused P (Ok u) no' h = h
not_refused P (Err f) no' h = absurd (no' f refl)

-- ---- no place for the record

waits_done : (w : WorldValue) (old new : Progress) → old.hand.there ≡ true → Waits old new → HasDone w old new Rest
waits_done w old new there waits =
    let still = done_none w old there in
    record {
      hand = waits.hand ∙ still.hand;
      log = record {
        records = λ header records holds. subst (λ (rs : List Record). HoldsRecords header new.buffer rs) (sym (append-nil records)) (waits.records header records holds);
        count = let same = waits.count in omega arith;
        path = waits.path;
        place = waits.place;
      };
      draws = subst (λ (t : Tally). HasDrawn old.tally t []) (sym waits.tally) (drew_none old.tally);
      forked = let same = ap (λ (t : Tally). t.forked) waits.tally in omega (arith, same);
      told = omega arith;
      sound = tt;
      barriers = refl;
    }

module _ (w : WorldValue) {A : Type 0} (part : State → Outcome A) (slots : List ℤ) (line : ℕ) (grows : (s : State) → Grows s (state_of (part s)))
    (full : Makes part slots 0 (adds slots []) (Halted reason.LogFull line)) where
  at_full : (old new : Progress) (at_line : ℕ) → CanGo w old → at_line ≡ line → record_limit ≤ old.buffer.count → new ≡ old → Made w part slots slots old new (Halted reason.LogFull at_line)
  at_full old new at_line can line_is most same =
      subst (λ (p : Progress). Made w part slots slots old p (Halted reason.LogFull at_line)) (sym same)
      (subst (λ (n : ℕ). Made w part slots slots old old (Halted reason.LogFull n)) (sym line_is)
      (record {
        work = Rest;
        forks = [];
        own = [];
        done = done_none w old can.belongs.there;
        released = released_none old.hand.view.held;
        closes = tt;
        ended = ended_none;
        handed = work_hands_none old old Rest refl refl;
        few = λ less. less;
        unrefused = can.unrefused;
        makes = subst (λ (room : ℕ). Makes part slots room (adds slots []) (Halted reason.LogFull line)) (let none_left : 0 ≡ record_limit - old.buffer.count = omega arith in none_left) full;
        regions = λ program is. RunsRegions.no_region;
      }))

  -- the stop of a record that has no place
  pub goes_unready : (old new : Progress) (why : Halt) → CanGo w old → MakesRoom line old new (Err why) → Goes w part slots slots old new (Err why)
  goes_unready old new (halt.Own (stop.LogFull at_line)) can (line_is, most, same) = at_full old new at_line can line_is most same
  goes_unready old new (halt.Own (stop.Trouble trouble)) can (waits, refused) = (
    record {
      work = Rest;
      forks = [];
      own = [];
      done = waits_done w old new can.belongs.there waits;
      released = released_none old.hand.view.held;
      ends = tt;
      stops = (ended_none, few_still old.done new.done waits.done);
      handed = work_hands_none old new Rest waits.done refl;
      begins = begins_none part slots (record_limit - old.buffer.count) grows;
      regions = λ program is. RunsRegions.no_region;
    },
    refused,
  )
  goes_unready old new (halt.Own (stop.DivZero at_line)) can room = absurd room
  goes_unready old new (halt.Own (stop.Index at_line)) can room = absurd room
  goes_unready old new (halt.Region path why) can room = absurd room
  goes_unready old new (halt.Own (stop.Tasks at_line)) can room = absurd room

-- ---- one record

not_zero : (line : ℕ) → 1 ≤ line → (line == 0) ≡ false
not_zero line some = grind arith

pub is_put_one : (line : ℕ) → 1 ≤ line → not (line == 0) ≡ true
is_put_one line some = ap (λ (b : Bool). not b) (not_zero line some)

pub put_first : (event : Record) (more : Work) → 1 ≤ event.line → log_of (Put event more) ≡ logged event ∷ log_of more
put_first event more some = rw (is_put_one event.line some) refl

pub put_one : (event : Record) → 1 ≤ event.line → log_of (Put event Rest) ≡ logged event ∷ []
put_one event some = rw (is_put_one event.line some) refl

-- the log tells it as it was put
pub put_same : (event : Record) → 1 ≤ event.line → logged event ≡ event → log_of (Put event Rest) ≡ event ∷ []
put_same event some same = put_one event some ∙ ap (λ (r : Record). r ∷ []) same

worked_one : (word : ℕ → ℕ) (v : View) (event : Record) (deed : Deed) → deeds_of word event.kind event ≡ deed ∷ [] → hand.did v deed ≡ worked word v (Put event Rest)
worked_one word v event deed is =
    view_same v v.splits (v.splits + 0) (v.items ++ item v.name deed ∷ []) (v.items ++ (map (item v.name) (deeds_of word event.kind event) ++ [])) (omega arith)
    (ap (λ (deeds : List Deed). v.items ++ (map (item v.name) deeds ++ [])) (sym is))

-- a record that was put, once there was room
pub gains_after : (old mid new : Progress) (event : Record) → HasRoomFor old mid → GainsRecords mid.buffer new.buffer (event ∷ []) → GainsRecords old.buffer new.buffer (event ∷ [])
gains_after old mid new event room gains = record {
  records = λ header before holds. gains.records header before (room.waits.records header before holds);
  count = let same = room.waits.count in let count = gains.count in omega arith;
  path = gains.path ∙ room.waits.path;
  place = gains.place ∙ room.waits.place;
}

module _ (w : WorldValue) (old mid new : Progress) (event : Record) (deed : Deed) where
  one_done : HasRoomFor old mid → new.hand ≡ with_view mid.hand (hand.did mid.hand.view deed) → deeds_of (element_word w.arrays) event.kind event ≡ deed ∷ []
      → GainsRecords mid.buffer new.buffer (logged event ∷ []) → 1 ≤ event.line → IsSoundRecord (layout_of w.arrays) event → is_barrier_kind event.kind ≡ false → new.tally ≡ mid.tally → number_drawn event.kind event.addr ≡ None
      → HasDone w old new (Put event Rest)
  one_done room hand_is deeds gains some sound plain tally none = record {
    hand = hand_is
        ∙ ap (λ (h : HandValue View). with_view h (hand.did h.view deed)) room.waits.hand
        ∙ ap (λ (v : View). with_view old.hand v) (worked_one (element_word w.arrays) old.hand.view event deed deeds);
    log = subst (λ (rs : List Record). GainsRecords old.buffer new.buffer rs) (sym (put_one event some)) (gains_after old mid new (logged event) room gains);
    draws = subst (λ (rs : List Record). HasDrawn old.tally new.tally rs) (sym (put_one event some))
        (subst (λ (t : Tally). HasDrawn old.tally t (logged event ∷ [])) (sym (tally ∙ room.waits.tally)) (drew_nothing old.tally (logged event) none));
    forked = let same = ap (λ (t : Tally). t.forked) (tally ∙ room.waits.tally) in omega (arith, same);
    told = omega arith;
    sound = (sound, (λ is. refl), tt);
    barriers = rw plain refl;
  }

  -- the record was put, and its step taken
  pub made_one : {A : Type 0} (part : State → Outcome A) (slots : List ℤ) (a : A) → HasRoomFor old mid → new.hand ≡ with_view mid.hand (hand.did mid.hand.view deed)
      → deeds_of (element_word w.arrays) event.kind event ≡ deed ∷ [] → new.buffer.refused ≡ None → GainsRecords mid.buffer new.buffer (logged event ∷ [])
      → 1 ≤ event.line → IsSoundRecord (layout_of w.arrays) event → is_barrier_kind event.kind ≡ false
      → new.tally ≡ mid.tally → new.done ≡ mid.done → number_drawn event.kind event.addr ≡ None → ((held : List ℕ) → held_after_kind event.kind event.addr held ≡ held) → ((room : ℕ) → 0 < room → Makes part slots room (adds slots (logged event ∷ [])) (Returned a)) → Made w part slots slots old new (Returned a)
  made_one part slots a room hand_is deeds unrefused gains some sound plain tally same none holds makes = record {
    work = Put event Rest;
    forks = [];
    own = [];
    done = one_done room hand_is deeds gains some sound plain tally none;
    released = record {
      records = sym (put_one event some) ∙ sym (append-nil (log_of (Put event Rest)));
      held = ap (λ (rs : List Record). held_after (reverse old.hand.view.held) rs) (put_one event some) ∙ holds (reverse old.hand.view.held);
      apart = inr refl;
    };
    closes = refl;
    ended = ended_none;
    handed = work_hands_none old new (Put event Rest) (same ∙ room.waits.done) refl;
    few = few_still old.done new.done (same ∙ room.waits.done);
    unrefused = unrefused;
    makes =
        let below = room.may_put.below in
        let count = room.waits.count in
        subst (λ (rs : List Record). Makes part slots (record_limit - old.buffer.count) (adds slots rs) (Returned a)) (sym (put_one event some))
        (makes (record_limit - old.buffer.count) (omega (arith, below, count)));
    regions = λ program is. RunsRegions.no_region;
  }
