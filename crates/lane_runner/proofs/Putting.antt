-- A step of the hand and its record, once there is room.
use Rattle.std.proofs.Common.{◌≡◌, ap, ◌∙◌, subst, ℕ, ◌+◌, ◌<◌, List, [], ◌∷◌, ◌++◌, None}
use Rattle.log_format.specs.Limit.{record_limit}
use Rattle.log_format.specs.declared.record.Record.{Record}
use Rattle.event_buffer.specs.Buffered.{Buffered}
use Rattle.event_buffer.specs.Logged.{HoldsRecords}
use Rattle.shared_words.specs.declared.view.View.{View}
use Rattle.shared_words.specs.Handles.{HandValue, with_view}
use Rattle.lane_runner.specs.Going.{Progress, PutsRecord, Waits}
use Rattle.lane_runner.specs.Handed.{log_place}

pub took : (event : Record) (view : View) (old mid : Progress) {hand : HandValue View} {buffer : Buffered} {waiting : List ℕ} → Waits old mid → mid.buffer.count < record_limit → mid.buffer.refused ≡ None → hand ≡ with_view old.hand view
    → buffer ≡ record mid.buffer { waiting = waiting; count = mid.buffer.count + 1 }
    → ((header : List ℕ) (records : List Record) → HoldsRecords header mid.buffer records → HoldsRecords header buffer (records ++ event ∷ []))
    → PutsRecord event view old (record mid { hand = hand; buffer = buffer })
took event view old mid waits below unrefused hand_is put holds = record {
  hand = hand_is;
  log = record {
    records = λ header records before. holds header records (waits.records header records before);
    count = ap (λ (b : Buffered). b.count) put ∙ ap (λ (n : ℕ). n + 1) waits.count;
    path = ap (λ (b : Buffered). b.path) put ∙ waits.path;
    place = ap log_place put ∙ waits.place;
  };
  below = subst (λ (n : ℕ). n < record_limit) waits.count below;
  tally = waits.tally;
  done = waits.done;
  unrefused = ap (λ (b : Buffered). b.refused) put ∙ unrefused;
}
