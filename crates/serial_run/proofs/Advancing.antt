-- A task goes on with what is left of it, until it stands still or stops.
use Rattle.std.proofs.Common.{◌≡◌, refl, ap, sym, ◌∙◌, subst, ℕ, ◌-◌, List, [], ◌∷◌, ◌++◌, length, ℤ, Option, Some, None, Result, Ok, Err, arith, append_assoc}
use Rattle.std.proofs.lemmas.List.{append-nil, length-append}
use Rattle.log_format.specs.declared.record.Record.{Record}
use Rattle.log_format.specs.declared.record.Kind.TheVariants as kind
use Rattle.kernel_syntax.specs.Program.{team_of}
use Rattle.kernel_model.specs.declared.stop.StopWhy.{StopWhy}
use Rattle.kernel_model.specs.declared.stop.StopWhy.TheVariants as reason
use Rattle.kernel_model.specs.State.{State, Fork, Outcome, Gives, after, put, event, reads_of, chunks_of}
use Rattle.kernel_model.specs.Effect.{Halted, state_with, finished}
use Rattle.kernel_model.specs.Value.{Site}
use Rattle.kernel_model.proofs.Effects.{reads_of-append, chunks_of-append}
use Rattle.kernel_model.proofs.Joining.{after-nothing}
use Rattle.serial_run.specs.declared.frame.Frame.{Frame}
use Rattle.serial_run.specs.declared.frame.Pause.{Pause}
use Rattle.serial_run.specs.declared.frame.Pause.TheVariants as pause
use Rattle.serial_run.specs.declared.halt.Halt.{Halt}
use Rattle.serial_run.specs.declared.halt.Halt.TheVariants as halt
use Rattle.serial_run.specs.Going.{room_of, ArePlain, RanPart, LogsRecord, MayMake}
use Rattle.serial_run.specs.Resting.{frame_part, frames_rest}
use Rattle.serial_run.specs.Stepping.{Stand, Leads, Stepped, TakesPart, HaltsSo, Advances, Finishes, Pauses, stand_left}
use Rattle.serial_run.proofs.Following.{room_gained, runs_out_so, gains_then, plain_then}
use Rattle.serial_run.proofs.Leading.{Part, leads_none, leads_then, adds_none, adds_then, adds_mark, leads_put}
use Rattle.serial_run.proofs.Statements.{halts_first, halts_same}
use Rattle.serial_run.specs.Placing.{ElementLayout}

pub rest_append : (at : Site) (xs ys : List Frame) (then' : Part) (s : State) → frames_rest at (xs ++ ys) then' s ≡ frames_rest at ys (frames_rest at xs then') s
rest_append at [] ys then' s = refl
rest_append at (x ∷ xs) ys then' s = rest_append at xs ys (λ t. after (frame_part at x t) then') s

abbrev end_of : Stand → Part
end_of x = put (event kind.End x.end 0 0)

-- ---- one frame

module _ (layout : ElementLayout) (old : Stand) (others : List Frame) (f : Frame) (rest_is : old.rest ≡ others ++ f ∷ []) where
  left_is : (s : State) → stand_left old s ≡ after (frame_part old.at f s) (frames_rest old.at others (end_of old))
  left_is s = ap (λ (l : List Frame). frames_rest old.at l (end_of old) s) rest_is ∙ rest_append old.at others (f ∷ []) (end_of old) s

  advances_popped : (new : Stand) (mark : List Record) (forks : List Fork) → Stepped layout (frame_part old.at f) (record old { rest = others }) new mark forks → Advances layout old new mark forks
  advances_popped new mark forks x = record {
    at = x.at;
    end = x.end;
    makes = x.steps.makes;
    leads = λ records before reads chunks.
        let st = state_with new.slots (records ++ x.steps.makes.added) (before ++ forks) (room_of layout.bound new.progress) reads chunks in
        left_is (state_with old.slots records before (room_of layout.bound old.progress) (reads_of x.steps.makes.added ++ reads) (chunks_of x.steps.makes.added ++ chunks))
        ∙ x.steps.leads (frames_rest old.at others (end_of old)) records before reads chunks
        ∙ sym (rest_append old.at others x.pushed (end_of old) st)
        ∙ ap (λ (l : List Frame). frames_rest old.at l (end_of old) st) (sym x.rest)
        ∙ ap (λ (w : Site). frames_rest w new.rest (end_of old) st) (sym x.at)
        ∙ ap (λ (n : ℕ). frames_rest new.at new.rest (put (event kind.End n 0 0)) st) (sym x.end);
  }

  pub pauses_popped : (new : Stand) (r : Result (Option Pause) Halt) → TakesPart layout (frame_part old.at f) (record old { rest = others }) new r → Pauses layout old new r
  pauses_popped new (Ok None) x = advances_popped new [] [] x
  pauses_popped new (Ok (Some pause.Barrier)) x = (x.0, advances_popped new (event kind.Barrier x.0 0 0 ∷ []) [] x.1)
  pauses_popped new (Ok (Some (pause.Fork team))) x =
      advances_popped new (event kind.Region team.now.line 0 team.now.span ∷ []) (record { team = team_of team.now; slots = new.slots } ∷ []) x
  pauses_popped new (Ok (Some pause.Ended)) x = absurd x
  pauses_popped new (Err why) x =
      halts_same layout (λ s. after (frame_part old.at f s) (frames_rest old.at others (end_of old))) (stand_left old) left_is old new why
      (halts_first layout old.at (frame_part old.at f) (frames_rest old.at others (end_of old)) old (record old { rest = others }) new why refl refl x)

-- ---- its End

pub finishes : (layout : ElementLayout) (old new : Stand) → old.rest ≡ [] → new.at ≡ old.at → new.end ≡ old.end → new.slots ≡ old.slots → MayMake old.progress → LogsRecord (event kind.End old.end 0 0) old.progress new.progress → Finishes layout old new
finishes layout old new none at end slots room logs =
    let due = event kind.End old.end 0 0 in
    record {
      at = at;
      end = end;
      makes = adds_mark layout old.at due old.slots old.progress new.progress room logs tt refl refl refl;
      leads =
          subst (λ (l : List ℤ). Leads (stand_left old) old.slots (room_of layout.bound old.progress) (λ s. Gives tt s) l (room_of layout.bound new.progress) (due ∷ []) []) (sym slots)
          (λ records before reads chunks.
          let st = state_with old.slots records before (room_of layout.bound old.progress) (reads_of (due ∷ []) ++ reads) (chunks_of (due ∷ []) ++ chunks) in
          ap (λ (l : List Frame). frames_rest old.at l (end_of old) st) none
          ∙ sym (after-nothing (put due st))
          ∙ leads_put layout old.at due old.slots old.progress new.progress room logs tt refl refl refl (λ s. Gives tt s) records before reads chunks);
    }

-- ---- one after another

advances_then : (layout : ElementLayout) (old mid new : Stand) (mark : List Record) (forks : List Fork) → Advances layout old mid [] [] → Advances layout mid new mark forks → Advances layout old new mark forks
advances_then layout old mid new mark forks one two = record {
  at = two.at ∙ one.at;
  end = two.end ∙ one.end;
  makes = adds_then layout old.progress mid.progress new.progress mark one.makes two.makes;
  leads =
      leads_then (stand_left old) (stand_left mid) (stand_left new) old.slots mid.slots new.slots (room_of layout.bound old.progress) (room_of layout.bound mid.progress) (room_of layout.bound new.progress) one.makes.added two.makes.added [] forks one.leads two.leads;
}

finishes_then : (layout : ElementLayout) (old mid new : Stand) → Advances layout old mid [] [] → Finishes layout mid new → Finishes layout old new
finishes_then layout old mid new one two = record {
  at = two.at ∙ one.at;
  end = two.end ∙ one.end;
  makes =
      let both = adds_then layout old.progress mid.progress new.progress (event kind.End mid.end 0 0 ∷ []) one.makes two.makes in
      record {
        plain = both.plain;
        plain_is = both.plain_is;
        added = both.added;
        added_is = both.added_is ∙ ap (λ (n : ℕ). both.plain ++ event kind.End n 0 0 ∷ []) one.end;
        within = both.within;
        gains = both.gains;
      };
  leads =
      leads_then (stand_left old) (stand_left mid) (λ s. Gives tt s) old.slots mid.slots new.slots (room_of layout.bound old.progress) (room_of layout.bound mid.progress) (room_of layout.bound new.progress) one.makes.added two.makes.added [] [] one.leads two.leads;
}

module _ (layout : ElementLayout) (old mid new : Stand) (one : Advances layout old mid [] []) (why : StopWhy) (line : ℕ) (m : RanPart layout (stand_left mid) mid.slots new.slots mid.progress new.progress (Halted why line)) where
  made_then : RanPart layout (stand_left old) old.slots new.slots old.progress new.progress (Halted why line)
  made_then =
      let xs = one.makes.added in
      let ys = m.added in
      record {
        added = xs ++ ys;
        plain = plain_then xs ys (subst ArePlain (sym (one.makes.added_is ∙ append-nil one.makes.plain)) one.makes.plain_is) m.plain;
        gains = gains_then layout old.progress mid.progress new.progress xs ys one.makes.gains m.gains;
        makes = record {
          within = omega (arith, length-append xs ys, one.makes.within, m.makes.within, room_gained layout old.progress mid.progress xs one.makes.gains);
          makes = λ records forks reads chunks.
              let left : room_of layout.bound mid.progress - length ys ≡ room_of layout.bound old.progress - length (xs ++ ys) =
              omega (arith, length-append xs ys, room_gained layout old.progress mid.progress xs one.makes.gains) in
              ap (λ (l : List ℤ). stand_left old (state_with old.slots records forks (room_of layout.bound old.progress) l (chunks_of (xs ++ ys) ++ chunks)))
              (ap (λ (l : List ℤ). l ++ reads) (reads_of-append xs ys) ∙ append_assoc (reads_of xs) (reads_of ys) reads)
              ∙ ap (λ (l : List ℕ). stand_left old (state_with old.slots records forks (room_of layout.bound old.progress) (reads_of xs ++ (reads_of ys ++ reads)) l))
              (ap (λ (l : List ℕ). l ++ chunks) (chunks_of-append xs ys) ∙ append_assoc (chunks_of xs) (chunks_of ys) chunks)
              ∙ one.leads records forks (reads_of ys ++ reads) (chunks_of ys ++ chunks)
              ∙ m.makes.makes (records ++ xs) (forks ++ []) reads chunks
              ∙ ap (λ (l : List Record). finished (Halted why line) (state_with new.slots l ((forks ++ []) ++ []) (room_of layout.bound mid.progress - length ys) reads chunks)) (append_assoc records xs ys)
              ∙ ap (λ (l : List Fork). finished (Halted why line) (state_with new.slots (records ++ (xs ++ ys)) l (room_of layout.bound mid.progress - length ys) reads chunks)) (append-nil (forks ++ []))
              ∙ ap (λ (n : ℕ). finished (Halted why line) (state_with new.slots (records ++ (xs ++ ys)) (forks ++ []) n reads chunks)) left;
        };
      }

halts_then : (layout : ElementLayout) (old mid new : Stand) (why : Halt) → Advances layout old mid [] [] → HaltsSo layout (stand_left mid) mid new why → HaltsSo layout (stand_left old) old new why
halts_then layout old mid new (halt.Stops why line) one m = made_then layout old mid new one why line m
halts_then layout old mid new halt.Long one m = runs_out_so (λ line. made_then layout old mid new one reason.LogFull line) m
halts_then layout old mid new halt.Refused one m = tt
halts_then layout old mid new halt.Memory one m = tt

pub advances_none : (layout : ElementLayout) (x : Stand) → Advances layout x x [] []
advances_none layout x = record { at = refl; end = refl; makes = adds_none layout x.progress; leads = leads_none (stand_left x) x.slots (room_of layout.bound x.progress) }

pub pauses_then : (layout : ElementLayout) (old mid new : Stand) (r : Result (Option Pause) Halt) → Advances layout old mid [] [] → Pauses layout mid new r → Pauses layout old new r
pauses_then layout old mid new (Ok None) one x = advances_then layout old mid new [] [] one x
pauses_then layout old mid new (Ok (Some pause.Barrier)) one x = (x.0, advances_then layout old mid new (event kind.Barrier x.0 0 0 ∷ []) [] one x.1)
pauses_then layout old mid new (Ok (Some (pause.Fork team))) one x =
    advances_then layout old mid new (event kind.Region team.now.line 0 team.now.span ∷ []) (record { team = team_of team.now; slots = new.slots } ∷ []) one x
pauses_then layout old mid new (Ok (Some pause.Ended)) one x = finishes_then layout old mid new one x
pauses_then layout old mid new (Err why) one x = halts_then layout old mid new why one x
