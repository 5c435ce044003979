-- A draw of a lane, with its record.
use Rattle.std.proofs.Common.{◌≡◌, refl, inr, ap, sym, ◌∙◌, subst, ℕ, suc, ◌+◌, ◌-◌, ◌<◌, ◌≤◌, min, true, List, [], ◌∷◌, ℤ, None, ⊎_elim, arith}
use Rattle.std.specs.Prelude.{reverse}
use Rattle.std.proofs.lemmas.List.{append-nil}
use Rattle.std.proofs.lemmas.Bool.{cases_lt}
use Rattle.log_format.specs.Limit.{record_limit}
use Rattle.log_format.specs.declared.record.Record.{Record}
use Rattle.log_format.specs.declared.record.Kind.TheVariants as kind
use Rattle.kernel_model.specs.State.{State, event, state_of}
use Rattle.kernel_model.specs.Trace.{draw}
use Rattle.kernel_model.specs.Growth.{Grows}
use Rattle.kernel_model.specs.Effect.{Returned, Makes, adds}
use Rattle.kernel_model.proofs.Effects.{makes-draw}
use Rattle.kernel_model.proofs.Growing.{grows-plain}
use Rattle.kernel_model.proofs.Steps.{kept-draw}
use Rattle.race_model.specs.Race.{held_after}
use Rattle.shared_words.specs.declared.share.Share.{Share}
use Rattle.shared_words.specs.Handles.{HandValue, with_view}
use Rattle.shared_words.specs.Draws.{drew}
use Rattle.history_model.specs.Work.{Rest, Put}
use Rattle.execution_model.specs.Runs.{RunsRegions}
use Rattle.execution_model.specs.Elements.{element_word, layout_of}
use Rattle.lane_runner.specs.World.{WorldValue}
use Rattle.lane_runner.specs.Drawing.{Tally, TellDraws, HasDrawn}
use Rattle.lane_runner.specs.Going.{Progress, GainsRecords, HasRoomFor, Made, log_of}
use Rattle.lane_runner.proofs.Working.{hand_still, no_access, worked_put_nothing}
use Rattle.lane_runner.proofs.Stepping.{put_one, gains_after}
use Rattle.lane_runner.proofs.Ending.{ended_none}
use Rattle.lane_runner.proofs.Handing.{work_hands_none, few_still}

pub draw_grows : (line n : ℕ) (s : State) → Grows s (state_of (draw line n s))
draw_grows line n s = kept-draw Grows grows-plain line n s

pub same_hand : (h : HandValue Share) (v : Share) → h.there ≡ true → with_view h v ≡ record h { view = v }
same_hand h v there = λ i. record { table = h.table; there = sym there i; view = v }

module _ (w : WorldValue) (line n number : ℕ) (some : 1 ≤ line) (old mid new : Progress) (there : old.hand.there ≡ true) (room : HasRoomFor old mid)
    (hand_is : new.hand ≡ mid.hand) (draws_are : new.tally.draws ≡ record mid.tally.draws { view = drew mid.tally.draws.view mid.tally.next_loop number })
    (opened : min number n < n → new.tally.next_loop ≡ mid.tally.next_loop) (closed : n ≤ min number n → new.tally.next_loop ≡ mid.tally.next_loop + 1)
    (forked : new.tally.forked ≡ mid.tally.forked) (done_is : new.done ≡ mid.done) (unrefused : new.buffer.refused ≡ None) (gains : GainsRecords mid.buffer new.buffer (event kind.Chunk line (min number n) n ∷ [])) where
  abbrev told : Record
  told = event kind.Chunk line (min number n) n

  tells : TellDraws old.tally.next_loop (told ∷ []) ((old.tally.next_loop, number) ∷ []) new.tally.next_loop
  tells = ⊎_elim below past (cases_lt number n)
    where
      same : mid.tally.next_loop ≡ old.tally.next_loop
      same = ap (λ (t : Tally). t.next_loop) room.waits.tally

      below : number < n → TellDraws old.tally.next_loop (told ∷ []) ((old.tally.next_loop, number) ∷ []) new.tally.next_loop
      below less =
          let least : min number n ≡ number = omega arith in
          subst (λ (k : ℕ). TellDraws old.tally.next_loop (told ∷ []) ((old.tally.next_loop, number) ∷ []) k) (sym (opened (omega (arith, least)) ∙ same))
          (TellDraws.draw old.tally.next_loop old.tally.next_loop number told [] [] refl least less (TellDraws.no_record old.tally.next_loop))

      past : n ≤ number → TellDraws old.tally.next_loop (told ∷ []) ((old.tally.next_loop, number) ∷ []) new.tally.next_loop
      past more =
          let least : min number n ≡ n = omega arith in
          let after : new.tally.next_loop ≡ suc old.tally.next_loop = closed (omega (arith, least)) ∙ (let e : mid.tally.next_loop + 1 ≡ suc old.tally.next_loop = omega (arith, same) in e) in
          subst (λ (k : ℕ). TellDraws old.tally.next_loop (told ∷ []) ((old.tally.next_loop, number) ∷ []) k) (sym after)
          (TellDraws.closing old.tally.next_loop (suc old.tally.next_loop) number told [] [] refl least more (TellDraws.no_record (suc old.tally.next_loop)))

  has_drawn : HasDrawn old.tally new.tally (told ∷ [])
  has_drawn = record {
    drawn = (old.tally.next_loop, number) ∷ [];
    draws = draws_are ∙ ap (λ (t : Tally). record t.draws { view = drew t.draws.view t.next_loop number }) room.waits.tally;
    tells = tells;
  }

  pub draw_made : (slots : List ℤ) → Made w (draw line n) slots slots old new (Returned (min number n))
  draw_made slots = record {
    work = Put told Rest;
    forks = [];
    own = [];
    done = record {
      hand = hand_is ∙ room.waits.hand ∙ hand_still old.hand there ∙ ap (λ v. with_view old.hand v) (worked_put_nothing (element_word w.arrays) old.hand.view told refl);
      log = subst (λ (rs : List Record). GainsRecords old.buffer new.buffer rs) (sym (put_one told some)) (gains_after old mid new told room gains);
      draws = subst (λ (rs : List Record). HasDrawn old.tally new.tally rs) (sym (put_one told some)) has_drawn;
      forked = let same = forked ∙ ap (λ (t : Tally). t.forked) room.waits.tally in omega (arith, same);
      told = omega arith;
      sound = (no_access (layout_of w.arrays) told (λ is. cc) (λ is. cc) (λ is. cc) (λ is. cc), (λ is. refl), tt);
      barriers = refl;
    };
    released = record {
      records = sym (put_one told some) ∙ sym (append-nil (log_of (Put told Rest)));
      held = ap (λ (rs : List Record). held_after (reverse old.hand.view.held) rs) (put_one told some);
      apart = inr refl;
    };
    closes = refl;
    ended = ended_none;
    handed = work_hands_none old new (Put told Rest) (done_is ∙ room.waits.done) refl;
    few = few_still old.done new.done (done_is ∙ room.waits.done);
    unrefused = unrefused;
    makes =
        let below = room.may_put.below in
        let same = room.waits.count in
        subst (λ (rs : List Record). Makes (draw line n) slots (record_limit - old.buffer.count) (adds slots rs) (Returned (min number n))) (sym (put_one told some))
        (makes-draw line n slots (record_limit - old.buffer.count) (min number n) (omega (arith, below, same)) (omega arith));
    regions = λ program is. RunsRegions.no_region;
  }
