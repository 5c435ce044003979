-- A phase, and the End that a lane puts after the last one.
use Rattle.std.proofs.Common.{◌≡◌, ◌≢◌, refl, ap, sym, ◌∙◌, subst, ℕ, List, map, ℤ, Option, Some, None, Result, Ok, Err}
use Rattle.std.specs.Prelude.{OnOk}
use Rattle.std.proofs.lemmas.Option.{same_Some}
use Rattle.log_format.specs.declared.record.Kind.TheVariants as kind
use Rattle.kernel_model.specs.declared.phase.Item.{Item}
use Rattle.kernel_model.specs.Parts.{bar_count, run_parts}
use Rattle.kernel_model.specs.Phases.{part_of}
use Rattle.kernel_model.specs.State.{event, put}
use Rattle.kernel_model.specs.Effect.{Returned}
use Rattle.kernel_model.proofs.Growing.{grows-put}
use Rattle.shared_words.specs.declared.view.View.{View}
use Rattle.shared_words.specs.Handles.{HandValue, WordsValue}
use Rattle.history_model.specs.Work.{Rest, Put, work_records, then_work}
use Rattle.history_model.proofs.Parts.{then_records}
use Rattle.lane_runner.specs.declared.stop.Stop.TheVariants as stop
use Rattle.lane_runner.specs.declared.stop.Halt.{Halt}
use Rattle.lane_runner.specs.declared.stop.Halt.TheVariants as halt
use Rattle.lane_runner.specs.Drawing.{Tally}
use Rattle.lane_runner.specs.Forking.{IsReady}
use Rattle.lane_runner.specs.Going.{Progress, CanGo, GoesPast, MadePast, PutsRecord, TakesOrHalts, site}
use Rattle.lane_runner.specs.Lane.{Executed, LaneValue, PutsEnd, answer_due, halt_in, progress}
use Rattle.lane_runner.specs.World.{WorldValue}
use Rattle.lane_runner.proofs.Bodies.{log_later}
use Rattle.lane_runner.proofs.Halting.{halt_none, stopped_none}
use Rattle.lane_runner.proofs.Noting.{end_note, note_can, note_made, note_goes, past_stop}
use Rattle.lane_runner.proofs.Running.{after_made, after_past, after_stop}
use Rattle.lane_runner.proofs.Values.{can_past}
use Rattle.lane_runner.proofs.Working.{hand_still}
use Rattle.region_runner.specs.LastPhase.{HasPutEnd, IsLast, WentOn, phase_part}

module _ (w : WorldValue) (items : List Item) (slots slots' : List ℤ) (old mid new : Progress) where
  -- who doesn't go on puts no End
  pub phase_stops : (end : Option ℕ) (why : Halt) → GoesPast (bar_count (map part_of items)) w (run_parts (site w) (map part_of items)) slots slots' old new (Err why)
      → GoesPast (bar_count (map part_of items)) w (phase_part items end (site w)) slots slots' old new (Err why)
  phase_stops None why goes = goes
  phase_stops (Some line) why goes =
      past_stop 0 (bar_count (map part_of items)) w (phase_part items (Some line) (site w)) slots slots' old new why
      (after_stop w (run_parts (site w) (map part_of items)) (put (event kind.End line 0 0)) slots slots' old new why (λ s. grows-put (event kind.End line 0 0) s refl)
      (past_stop (bar_count (map part_of items)) 0 w (run_parts (site w) (map part_of items)) slots slots' old new why goes))

  module _ (line : ℕ) (last : IsLast items line) (can : CanGo w old) (made : MadePast (bar_count (map part_of items)) w (run_parts (site w) (map part_of items)) slots slots' old mid (Returned tt)) where
    plain : MadePast 0 w (run_parts (site w) (map part_of items)) slots slots' old mid (Returned tt)
    plain = subst (λ (bars : ℕ). MadePast bars w (run_parts (site w) (map part_of items)) slots slots' old mid (Returned tt)) last.none made

    can_end : CanGo w mid
    can_end = can_past 0 w (run_parts (site w) (map part_of items)) slots slots' old mid (Returned tt) can plain

    pub end_goes : (r : Result (Unit {0}) Halt) → TakesOrHalts (event kind.End line 0 0) mid.hand.view mid new r
        → GoesPast (bar_count (map part_of items)) w (phase_part items (Some line) (site w)) slots slots' old new r
    end_goes r takes =
        subst (λ (bars : ℕ). GoesPast bars w (phase_part items (Some line) (site w)) slots slots' old new r) (sym last.none)
        (after_past w (run_parts (site w) (map part_of items)) (put (event kind.End line 0 0)) slots 0 slots' slots' old mid new r plain
        (note_goes w (event kind.End line 0 0) 0 (end_note w line last.some) slots' mid new r can_end takes))

    pub end_ends : (r : Result (Unit {0}) Halt) → TakesOrHalts (event kind.End line 0 0) mid.hand.view mid new r → OnOk r (HasPutEnd w items line slots slots' old new)
    end_ends (Err why) takes = tt
    end_ends (Ok u) takes =
        let note = note_made w (event kind.End line 0 0) 0 (end_note w line last.some) slots' mid new takes in
        let both = after_made w (run_parts (site w) (map part_of items)) (put (event kind.End line 0 0)) slots slots' slots' old mid new plain note.0 in
        record {
          made = both.0;
          last = record {
            prefix = work_records plain.work;
            last = event kind.End line 0 0;
            parts = ap work_records (both.1 ∙ ap (then_work plain.work) note.1) ∙ then_records plain.work (Put (event kind.End line 0 0) Rest);
            ends = refl;
          };
        }

-- who put its End, or had no place for it, may split off hands as before
still_ready : (line : ℕ) (words : WordsValue) (old new : Progress) (r : Result (Unit {0}) Halt) → TakesOrHalts (event kind.End line 0 0) old.hand.view old new r → IsReady old.hand words → IsReady new.hand words
still_ready line words old new (Ok u) takes ready = subst (λ (h : HandValue View). IsReady h words) (hand_still old.hand ready.free.belongs.there ∙ sym takes.hand) ready
still_ready line words old new (Err (halt.Own (stop.DivZero at))) takes ready = absurd takes
still_ready line words old new (Err (halt.Own (stop.Index at))) takes ready = absurd takes
still_ready line words old new (Err (halt.Own (stop.LogFull at))) takes ready = subst (λ (p : Progress). IsReady p.hand words) (sym takes.2) ready
still_ready line words old new (Err (halt.Region path why)) takes ready = absurd takes
still_ready line words old new (Err (halt.Own (stop.Tasks at))) takes ready = absurd takes
still_ready line words old new (Err (halt.Own (stop.Trouble trouble))) takes ready = subst (λ (h : HandValue View). IsReady h words) (sym takes.0.hand) ready

-- ---- a lane in a phase

module _ (w : WorldValue) (items : List Item) (old mid : LaneValue) (ran : Executed w items old mid) where
  -- it isn't the last one
  pub goes_without : WentOn w items None old mid
  goes_without = record {
    path = ran.path;
    goes = ran.goes;
    ended = λ line is none. absurd (no_line is);
    log = ran.log;
    loops = ran.loops;
    ready = ran.ready;
    can = ran.can;
  }
    where
      no_line : {line : ℕ} → None ≡ Some line → ⊥
      no_line e = cc

  -- it is, and the lane doesn't go on
  pub stops_before : (line : ℕ) → mid.stopped ≢ None → WentOn w items (Some line) old mid
  stops_before line halted = record {
    path = ran.path;
    goes = by (halt_in mid) (λ none. halted (stopped_none mid none)) ran.goes;
    ended = λ other is none. absurd (halted none);
    log = ran.log;
    loops = ran.loops;
    ready = ran.ready;
    can = ran.can;
  }
    where
      by : (h : Option Halt) → h ≢ None → GoesPast (bar_count (map part_of items)) w (run_parts (site w) (map part_of items)) old.locals mid.locals (progress old) (progress mid) (answer_due h)
          → GoesPast (bar_count (map part_of items)) w (phase_part items (Some line) (site w)) old.locals mid.locals (progress old) (progress mid) (answer_due h)
      by None some goes = absurd (some refl)
      by (Some why) some goes = phase_stops w items old.locals mid.locals (progress old) (progress mid) (progress mid) (Some line) why goes

  -- it is, and the lane puts its End, or its log has no place for it
  pub goes_with : (line : ℕ) (new : LaneValue) → CanGo w (progress old) → IsLast items line → mid.stopped ≡ None → PutsEnd line mid new → WentOn w items (Some line) old new
  goes_with line new can last going puts = record {
    path = puts.path ∙ ran.path;
    goes =
        subst (λ (slots : List ℤ). GoesPast (bar_count (map part_of items)) w (phase_part items (Some line) (site w)) old.locals slots (progress old) (progress new) (answer_due (halt_in new))) (sym puts.locals)
        (end_goes w items old.locals mid.locals (progress old) (progress mid) (progress new) line last can made (answer_due (halt_in new)) puts.takes);
    ended = λ other is none.
        subst (λ (l : ℕ). HasPutEnd w items l old.locals new.locals (progress old) (progress new)) (same_Some line other is)
        (subst (λ (slots : List ℤ). HasPutEnd w items line old.locals slots (progress old) (progress new)) (sym puts.locals)
        (subst (λ (h : Option Halt). OnOk (answer_due h) (HasPutEnd w items line old.locals mid.locals (progress old) (progress new))) (halt_none new none)
        (end_ends w items old.locals mid.locals (progress old) (progress mid) (progress new) line last can made (answer_due (halt_in new)) puts.takes)));
    log = log_later old.buffer mid.buffer new.buffer ran.log puts.log;
    loops = λ none. ap (λ (t : Tally). t.next_loop) (taken none).tally ∙ ran.loops going;
    ready = still_ready line w.words (progress mid) (progress new) (answer_due (halt_in new)) puts.takes ran.ready;
    can = λ none.
        subst (λ (h : Option Halt). OnOk (answer_due h) (CanGo w (progress new))) (halt_none new none)
        (note_can w (event kind.End line 0 0) 0 (end_note w line last.some) mid.locals (progress mid) (progress new) (answer_due (halt_in new)) (ran.can going) puts.takes);
  }
    where
      made : MadePast (bar_count (map part_of items)) w (run_parts (site w) (map part_of items)) old.locals mid.locals (progress old) (progress mid) (Returned tt)
      made = subst (λ (h : Option Halt). GoesPast (bar_count (map part_of items)) w (run_parts (site w) (map part_of items)) old.locals mid.locals (progress old) (progress mid) (answer_due h)) (halt_none mid going) ran.goes

      taken : new.stopped ≡ None → PutsRecord (event kind.End line 0 0) mid.hand.view (progress mid) (progress new)
      taken none = subst (λ (h : Option Halt). TakesOrHalts (event kind.End line 0 0) mid.hand.view (progress mid) (progress new) (answer_due h)) (halt_none new none) puts.takes
