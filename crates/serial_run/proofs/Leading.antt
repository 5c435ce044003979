-- A task goes on with a part of what is left: from the effects of the parts.
use Rattle.std.proofs.Common.{◌≡◌, refl, ap, sym, ◌∙◌, ℕ, ◌+◌, ◌-◌, ◌<◌, List, [], ◌∷◌, ◌++◌, length, ℤ, w64, to_z, of_z, FitsSigned, Err, None, arith, append_assoc}
use Rattle.std.specs.Prelude.{slice_set}
use Rattle.std.proofs.lemmas.Int.{to_z-of_z}
use Rattle.std.proofs.lemmas.List.{append-nil, length-append}
use Rattle.log_format.specs.declared.record.Record.{Record}
use Rattle.kernel_syntax.specs.Tree.{Done}
use Rattle.kernel_model.specs.State.{State, Fork, Outcome, and_then, after, put, assign, reads_of, chunks_of, value_read, number_drawn}
use Rattle.kernel_model.specs.Effect.{Returned, state_with, adds}
use Rattle.kernel_model.specs.Effect as effect
use Rattle.kernel_model.specs.Trace.{run}
use Rattle.kernel_model.specs.Value.{Site}
use Rattle.kernel_model.proofs.Effects.{reads_of-append, chunks_of-append, makes-put}
use Rattle.kernel_model.proofs.Equations.{run-Done}
use Rattle.serial_run.specs.declared.frame.Frame.{Frame}
use Rattle.serial_run.specs.declared.halt.Halt.{Halt}
use Rattle.serial_run.specs.declared.halt.Halt.TheVariants as halt
use Rattle.serial_run.specs.Going.{SerialProgress, room_of, FindsValue, words_after, Gains, RanPart, RunsPart, LogsRecord, MayMake}
use Rattle.serial_run.specs.Resting.{frames_rest}
use Rattle.serial_run.specs.Stepping.{Stand, Leads, Adds, StepsInto, Stepped, HaltsSo}
use Rattle.serial_run.proofs.Following.{room_gained, some_room, gains_none, gains_then, plain_then}
use Rattle.serial_run.proofs.Stepping.{gains_one}
use Rattle.serial_run.specs.Placing.{ElementLayout}

abbrev pub Part : Type 0
Part = State → Outcome (Unit {0})

-- what is made of two numbers that were kept in words
pub both_are : {A : Type 0} (F : ℤ → ℤ → A) (a b : ℤ) → FitsSigned w64 a → FitsSigned w64 b → F (to_z w64 (of_z w64 a)) (to_z w64 (of_z w64 b)) ≡ F a b
both_are F a b a_fits b_fits = ap (λ (z : ℤ). F z (to_z w64 (of_z w64 b))) (to_z-of_z w64 a a_fits) ∙ ap (λ (z : ℤ). F a z) (to_z-of_z w64 b b_fits)

-- a part that was executed, with nothing left of it
pub stepped_still : {layout : ElementLayout} {part : Part} {mark : List Record} {forks : List Fork} (x : Stand) {slots : List ℤ} {p : SerialProgress}
    → StepsInto layout x.at part x.slots slots x.progress p [] mark forks → Stepped layout part x (record x { slots = slots; progress = p }) mark forks
stepped_still x steps = record { at = refl; end = refl; pushed = []; rest = sym (append-nil x.rest); steps = steps }

-- one with two frames left, which were pushed one after the other
pub stepped_two : {layout : ElementLayout} {part : Part} {mark : List Record} {forks : List Fork} (x : Stand) (f g : Frame) {slots : List ℤ} {p : SerialProgress} {mid rest : List Frame} → mid ≡ x.rest ++ f ∷ [] → rest ≡ mid ++ g ∷ []
    → StepsInto layout x.at part x.slots slots x.progress p (f ∷ g ∷ []) mark forks → Stepped layout part x (record x { slots = slots; progress = p; rest = rest }) mark forks
stepped_two x f g one two steps = record {
  at = refl;
  end = refl;
  pushed = f ∷ g ∷ [];
  rest = two ∙ ap (λ (l : List Frame). l ++ g ∷ []) one ∙ append_assoc x.rest (f ∷ []) (g ∷ []);
  steps = steps;
}

pub leads_none : (part : Part) (slots : List ℤ) (room : ℕ) → Leads part slots room part slots room [] []
leads_none part slots room = λ records before reads chunks.
    ap (λ (l : List Record). part (state_with slots l before room reads chunks)) (sym (append-nil records))
    ∙ ap (λ (l : List Fork). part (state_with slots (records ++ []) l room reads chunks)) (sym (append-nil before))

pub leads_then : (p q r : Part) (s t u : List ℤ) (a b c : ℕ) (xs ys : List Record) (fs gs : List Fork) → Leads p s a q t b xs fs → Leads q t b r u c ys gs → Leads p s a r u c (xs ++ ys) (fs ++ gs)
leads_then p q r s t u a b c xs ys fs gs one two = λ records before reads chunks.
    ap (λ (l : List ℤ). p (state_with s records before a l (chunks_of (xs ++ ys) ++ chunks)))
    (ap (λ (l : List ℤ). l ++ reads) (reads_of-append xs ys) ∙ append_assoc (reads_of xs) (reads_of ys) reads)
    ∙ ap (λ (l : List ℕ). p (state_with s records before a (reads_of xs ++ (reads_of ys ++ reads)) l))
    (ap (λ (l : List ℕ). l ++ chunks) (chunks_of-append xs ys) ∙ append_assoc (chunks_of xs) (chunks_of ys) chunks)
    ∙ one records before (reads_of ys ++ reads) (chunks_of ys ++ chunks)
    ∙ two (records ++ xs) (before ++ fs) reads chunks
    ∙ ap (λ (l : List Record). r (state_with u l ((before ++ fs) ++ gs) c reads chunks)) (append_assoc records xs ys)
    ∙ ap (λ (l : List Fork). r (state_with u (records ++ (xs ++ ys)) l c reads chunks)) (append_assoc before fs gs)

module _ (slots slots' : List ℤ) (room room' : ℕ) (added : List Record) (rooms : room' ≡ room - length added) where
  -- a part that was executed, and what follows it
  pub leads_made : (part then' : Part) → effect.Makes part slots room (adds slots' added) (Returned tt) → Leads (λ s. after (part s) then') slots room then' slots' room' added []
  leads_made part then' m = λ records before reads chunks.
      ap (λ o. after o then') (m.makes records before reads chunks)
      ∙ ap (λ (n : ℕ). then' (state_with slots' (records ++ added) (before ++ []) n reads chunks)) (sym rooms)

  pub leads_value : {A : Type 0} (part : State → Outcome A) (next : A → Part) (then' : Part) (a : A) → effect.Makes part slots room (adds slots' added) (Returned a)
      → Leads (λ s. after (and_then (part s) next) then') slots room (λ s. after (next a s) then') slots' room' added []
  leads_value part next then' a m = λ records before reads chunks.
      ap (λ o. after (and_then o next) then') (m.makes records before reads chunks)
      ∙ ap (λ (n : ℕ). after (next a (state_with slots' (records ++ added) (before ++ []) n reads chunks)) then') (sym rooms)

-- ---- records

abbrev pub adds_none : (layout : ElementLayout) (p : SerialProgress) → Adds layout p p []
adds_none layout p = record { plain = []; plain_is = tt; added = []; added_is = refl; within = omega arith; gains = gains_none layout p }

abbrev pub adds_then : (layout : ElementLayout) (old mid new : SerialProgress) (mark : List Record) → Adds layout old mid [] → Adds layout mid new mark → Adds layout old new mark
adds_then layout old mid new mark one two = record {
  plain = one.plain ++ two.plain;
  plain_is = plain_then one.plain two.plain one.plain_is two.plain_is;
  added = one.added ++ two.added;
  added_is =
      ap (λ (l : List Record). l ++ two.added) (one.added_is ∙ append-nil one.plain) ∙ ap (λ (l : List Record). one.plain ++ l) two.added_is
      ∙ sym (append_assoc one.plain two.plain mark);
  within = omega (arith, length-append one.added two.added, one.within, two.within, room_gained layout old mid one.added one.gains);
  gains = gains_then layout old mid new one.added two.added one.gains two.gains;
}

abbrev pub adds_made : {A : Type 0} (layout : ElementLayout) (part : State → Outcome A) (slots slots' : List ℤ) (old new : SerialProgress) (a : A) → RanPart layout part slots slots' old new (Returned a) → Adds layout old new []
adds_made layout part slots slots' old new a m = record { plain = m.added; plain_is = m.plain; added = m.added; added_is = sym (append-nil m.added); within = m.makes.within; gains = m.gains }

-- ---- parts

module _ (layout : ElementLayout) (at : Site) where
  pub steps_same : (part other : Part) (slots slots' : List ℤ) (old new : SerialProgress) (pushed : List Frame) (mark : List Record) (forks : List Fork) → ((s : State) → other s ≡ part s)
      → StepsInto layout at part slots slots' old new pushed mark forks → StepsInto layout at other slots slots' old new pushed mark forks
  steps_same part other slots slots' old new pushed mark forks same x = record {
    makes = x.makes;
    leads = λ then' records before reads chunks.
        ap (λ o. after o then') (same (state_with slots records before (room_of layout.bound old) (reads_of x.makes.added ++ reads) (chunks_of x.makes.added ++ chunks)))
        ∙ x.leads then' records before reads chunks;
  }

  -- frames are pushed
  pub steps_push : (part : Part) (slots : List ℤ) (p : SerialProgress) (pushed : List Frame) → ((then' : Part) (s : State) → after (part s) then' ≡ frames_rest at pushed then' s)
      → StepsInto layout at part slots slots p p pushed [] []
  steps_push part slots p pushed same = record {
    makes = adds_none layout p;
    leads = λ then' records before reads chunks.
        same then' (state_with slots records before (room_of layout.bound p) reads chunks) ∙ leads_none (frames_rest at pushed then') slots (room_of layout.bound p) records before reads chunks;
  }

  -- a part that was executed
  pub steps_made : (part : Part) (slots slots' : List ℤ) (old new : SerialProgress) → RanPart layout part slots slots' old new (Returned tt) → StepsInto layout at part slots slots' old new [] [] []
  steps_made part slots slots' old new m = record {
    makes = adds_made layout part slots slots' old new tt m;
    leads = λ then'. leads_made slots slots' (room_of layout.bound old) (room_of layout.bound new) m.added (room_gained layout old new m.added m.gains) part then' m.makes;
  }

  -- a value, and what is done with it
  pub steps_then : {A : Type 0} (first : State → Outcome A) (next : A → Part) (slots mid_slots slots' : List ℤ) (old mid new : SerialProgress) (pushed : List Frame) (mark : List Record) (forks : List Fork) (a : A)
      → RanPart layout first slots mid_slots old mid (Returned a) → StepsInto layout at (next a) mid_slots slots' mid new pushed mark forks
      → StepsInto layout at (λ s. and_then (first s) next) slots slots' old new pushed mark forks
  steps_then first next slots mid_slots slots' old mid new pushed mark forks a one two = record {
    makes = adds_then layout old mid new mark (adds_made layout first slots mid_slots old mid a one) two.makes;
    leads = λ then'.
        leads_then (λ s. after (and_then (first s) next) then') (λ s. after (next a s) then') (frames_rest at pushed then') slots mid_slots slots' (room_of layout.bound old) (room_of layout.bound mid) (room_of layout.bound new) one.added two.makes.added [] forks
        (leads_value slots mid_slots (room_of layout.bound old) (room_of layout.bound mid) one.added (room_gained layout old mid one.added one.gains) first next then' a one.makes) (two.leads then');
  }

  -- a variable is set
  pub steps_assign : (slot : ℕ) (v : ℤ) (slots : List ℤ) (p : SerialProgress) → StepsInto layout at (λ s. run at Done (assign slot v s)) slots (slice_set slots slot v) p p [] [] []
  steps_assign slot v slots p = record {
    makes = adds_none layout p;
    leads = λ then' records before reads chunks.
        ap (λ o. after o then') (run-Done at (state_with (slice_set slots slot v) records before (room_of layout.bound p) reads chunks))
        ∙ leads_none then' (slice_set slots slot v) (room_of layout.bound p) records before reads chunks;
  }

  -- a record that is no access
  module _ (due : Record) (slots : List ℤ) (old new : SerialProgress) (room : MayMake old) (logs : LogsRecord due old new) (finds : FindsValue layout due.kind due old.words) (same : words_after layout due.kind due old.words ≡ old.words)
      (none : value_read due.kind due.value ≡ None) (none' : number_drawn due.kind due.addr ≡ None) where
    pub gains : Gains layout old new (due ∷ [])
    gains = gains_one layout due old new new.words finds (logs.words ∙ sym same) logs

    pub some : 0 < room_of layout.bound old
    some = some_room layout.bound old room

    abbrev pub adds_mark : Adds layout old new (due ∷ [])
    adds_mark = record { plain = []; plain_is = tt; added = due ∷ []; added_is = refl; within = omega (arith, some); gains = gains }

    pub leads_put : (then' : Part) → Leads (λ s. after (put due s) then') slots (room_of layout.bound old) then' slots (room_of layout.bound new) (due ∷ []) []
    leads_put then' = leads_made slots slots (room_of layout.bound old) (room_of layout.bound new) (due ∷ []) (room_gained layout old new (due ∷ []) gains) (put due) then' (makes-put due slots (room_of layout.bound old) some none none')

    pub steps_put : StepsInto layout at (put due) slots slots old new [] (due ∷ []) []
    steps_put = record { makes = adds_mark; leads = leads_put }

-- how a part that stops is told of a task
pub halts_goes : (layout : ElementLayout) (part : Part) (old new : Stand) (why : Halt) → RunsPart layout part old.slots new.slots old.progress new.progress (Err why) → HaltsSo layout part old new why
halts_goes layout part old new (halt.Stops why line) m = m
halts_goes layout part old new halt.Long m = m
halts_goes layout part old new halt.Refused m = tt
halts_goes layout part old new halt.Memory m = tt
