-- Records that no step on the shared words belongs to: a barrier, and the end of a task.
use Rattle.std.proofs.Common.{◌≡◌, refl, inr, ap, sym, ◌∙◌, subst, ℕ, ◌-◌, ◌≤◌, false, List, [], ◌∷◌, ℤ, None, Result, Ok, Err, arith}
use Rattle.std.specs.Prelude.{OnOk, reverse}
use Rattle.std.proofs.lemmas.List.{append-nil}
use Rattle.log_format.specs.Limit.{record_limit}
use Rattle.log_format.specs.declared.record.Record.{Record}
use Rattle.log_format.specs.declared.record.Kind.TheVariants as kind
use Rattle.kernel_model.specs.State.{State, Outcome, put, event, number_drawn, value_read}
use Rattle.kernel_model.specs.Effect.{Returned, Makes, adds}
use Rattle.kernel_model.proofs.Effects.{makes-put, makes-put_full}
use Rattle.kernel_model.proofs.Growing.{grows-put}
use Rattle.race_model.specs.Trace.{barrier_count, is_region_kind}
use Rattle.race_model.specs.Race.{held_after, held_after_kind}
use Rattle.shared_words.specs.Handles.{with_view}
use Rattle.history_model.specs.Work.{Rest, Put, logged}
use Rattle.history_model.specs.Did.{deeds_of}
use Rattle.history_model.specs.Sound.{IsSoundRecord}
use Rattle.execution_model.specs.Runs.{RunsRegions}
use Rattle.lane_runner.specs.declared.stop.Stop.TheVariants as stop
use Rattle.lane_runner.specs.declared.stop.Halt.{Halt}
use Rattle.lane_runner.specs.declared.stop.Halt.TheVariants as halt
use Rattle.lane_runner.specs.Drawing.{Tally, HasDrawn}
use Rattle.execution_model.specs.Elements.{element_word, layout_of}
use Rattle.lane_runner.specs.World.{WorldValue}
use Rattle.lane_runner.specs.Going.{Progress, CanGo, GainsRecords, HasDonePast, MadePast, GoesPast, PutsRecord, TakesOrHalts, log_of}
use Rattle.lane_runner.proofs.Drawing.{drew_nothing}
use Rattle.lane_runner.proofs.Working.{no_access, worked_put_nothing}
use Rattle.lane_runner.proofs.Stepping.{put_one, put_same, goes_unready}
use Rattle.lane_runner.proofs.Values.{can_past}
use Rattle.lane_runner.proofs.Ending.{ended_none}
use Rattle.lane_runner.proofs.Handing.{work_hands_none, few_still}

-- who doesn't go on passed no barrier
pub past_stop : {A : Type 0} (bars other : ℕ) (w : WorldValue) (part : State → Outcome A) (slots slots' : List ℤ) (old new : Progress) (why : Halt)
    → GoesPast bars w part slots slots' old new (Err why) → GoesPast other w part slots slots' old new (Err why)
past_stop bars other w part slots slots' old new (halt.Own (stop.DivZero line)) goes = goes
past_stop bars other w part slots slots' old new (halt.Own (stop.Index line)) goes = goes
past_stop bars other w part slots slots' old new (halt.Own (stop.LogFull line)) goes = goes
past_stop bars other w part slots slots' old new (halt.Region path why) goes = goes
past_stop bars other w part slots slots' old new (halt.Own (stop.Tasks line)) goes = goes
past_stop bars other w part slots slots' old new (halt.Own (stop.Trouble trouble)) goes = goes

-- such a record, which is that of so many barriers
pub record IsNote (w : WorldValue) (event : Record) (bars : ℕ) : Type 0 where
  some : 1 ≤ event.line
  count : barrier_count (event ∷ []) ≡ bars
  deeds : deeds_of (element_word w.arrays) event.kind event ≡ []
  unread : value_read event.kind event.value ≡ None
  undrawn : number_drawn event.kind event.addr ≡ None
  region : is_region_kind event.kind ≡ false
  same : logged event ≡ event
  sound : IsSoundRecord (layout_of w.arrays) event
  holds : (held : List ℕ) → held_after_kind event.kind event.addr held ≡ held

pub barrier_note : (w : WorldValue) (line : ℕ) → 1 ≤ line → IsNote w (event kind.Barrier line 0 0) 1
barrier_note w line some = record {
  some = some;
  count = refl;
  deeds = refl;
  unread = refl;
  undrawn = refl;
  region = refl;
  same = refl;
  sound = no_access (layout_of w.arrays) (event kind.Barrier line 0 0) (λ is. cc) (λ is. cc) (λ is. cc) (λ is. cc);
  holds = λ held. refl;
}

pub end_note : (w : WorldValue) (line : ℕ) → 1 ≤ line → IsNote w (event kind.End line 0 0) 0
end_note w line some = record {
  some = some;
  count = refl;
  deeds = refl;
  unread = refl;
  undrawn = refl;
  region = refl;
  same = refl;
  sound = no_access (layout_of w.arrays) (event kind.End line 0 0) (λ is. cc) (λ is. cc) (λ is. cc) (λ is. cc);
  holds = λ held. refl;
}

module _ (w : WorldValue) (event : Record) (bars : ℕ) (note : IsNote w event bars) (slots : List ℤ) (old new : Progress) where
  note_done : PutsRecord event old.hand.view old new → HasDonePast bars w old new (Put event Rest)
  note_done taken = record {
    hand = taken.hand ∙ ap (λ v. with_view old.hand v) (worked_put_nothing (element_word w.arrays) old.hand.view event note.deeds);
    log = subst (λ (rs : List Record). GainsRecords old.buffer new.buffer rs) (sym (put_same event note.some note.same)) taken.log;
    draws = subst (λ (rs : List Record). HasDrawn old.tally new.tally rs) (sym (put_same event note.some note.same))
        (subst (λ (t : Tally). HasDrawn old.tally t (event ∷ [])) (sym taken.tally) (drew_nothing old.tally event note.undrawn));
    forked = let same = ap (λ (t : Tally). t.forked) taken.tally in omega (arith, same);
    told = omega arith;
    sound = (note.sound, (λ is. refl), tt);
    barriers = note.count;
  }

  pub note_made : PutsRecord event old.hand.view old new → (m : MadePast bars w (put event) slots slots old new (Returned tt)) × (m.work ≡ Put event Rest)
  note_made taken = (
    record {
      work = Put event Rest;
      forks = [];
      own = [];
      done = note_done taken;
      released = record {
        records = sym (put_one event note.some) ∙ sym (append-nil (log_of (Put event Rest)));
        held = ap (λ (rs : List Record). held_after (reverse old.hand.view.held) rs) (put_same event note.some note.same) ∙ note.holds (reverse old.hand.view.held);
        apart = inr refl;
      };
      closes = refl;
      ended = ended_none;
      handed = work_hands_none old new (Put event Rest) taken.done refl;
      few = few_still old.done new.done taken.done;
      unrefused = taken.unrefused;
      makes =
          subst (λ (rs : List Record). Makes (put event) slots (record_limit - old.buffer.count) (adds slots rs) (Returned tt)) (sym (put_same event note.some note.same))
          (makes-put event slots (record_limit - old.buffer.count) (let below = taken.below in omega arith) note.unread note.undrawn);
      regions = λ program is. RunsRegions.no_region;
    },
    refl,
  )

  -- the record was put, or has no place
  pub note_goes : (r : Result (Unit {0}) Halt) → CanGo w old → TakesOrHalts event old.hand.view old new r → GoesPast bars w (put event) slots slots old new r
  note_goes (Ok u) can taken = (note_made taken).0
  note_goes (Err why) can room =
      past_stop 0 bars w (put event) slots slots old new why
      (goes_unready w (put event) slots event.line (λ s. grows-put event s note.region) (makes-put_full event slots) old new why can room)

  pub note_can : (r : Result (Unit {0}) Halt) → CanGo w old → TakesOrHalts event old.hand.view old new r → OnOk r (CanGo w new)
  note_can (Ok u) can taken = can_past bars w (put event) slots slots old new (Returned tt) can (note_made taken).0
  note_can (Err why) can room = tt
