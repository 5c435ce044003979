-- Statements, from what their expressions made.
use Rattle.std.proofs.Common.{◌≡◌, refl, ap, sym, ◌∙◌, subst, append_assoc, ℕ, zero, suc, ◌<◌, List, [], ◌∷◌, ◌++◌, ℤ, pos, negsuc, Option, Some, None, Result, Ok, Err}
use Rattle.std.specs.Prelude.{slice_set}
use Rattle.std.proofs.lemmas.List.{append-nil}
use Rattle.log_format.specs.Limit.{record_limit}
use Rattle.log_format.specs.declared.record.Kind.TheVariants as kind
use Rattle.log_format.specs.declared.record.Record.{Record}
use Rattle.log_format.specs.Fitting.{fitted}
use Rattle.kernel_syntax.specs.Program.{team_of}
use Rattle.kernel_syntax.specs.Tree as tree
use Rattle.kernel_syntax.specs.Tree.{Term, Code, TeamTree, Done}
use Rattle.kernel_model.specs.declared.change.Change.TheVariants.{Store}
use Rattle.kernel_model.specs.Drawing.{turn_from}
use Rattle.kernel_model.specs.Iterations.{total_of}
use Rattle.kernel_model.specs.State as model
use Rattle.kernel_model.specs.declared.stop.StopWhy.{StopWhy}
use Rattle.kernel_model.specs.declared.stop.StopWhy.TheVariants as reason
use Rattle.kernel_model.specs.State.{State, Fork, and_then, after, assign, put, event, reads_of, chunks_of}
use Rattle.kernel_model.specs.Effect.{Returned, Halted, state_with, adds}
use Rattle.kernel_model.specs.Trace.{run, branch, turns, changed, forked}
use Rattle.kernel_model.specs.Value.{Site, element_at, access, value}
use Rattle.kernel_model.proofs.Changing.{run-changing}
use Rattle.kernel_model.proofs.Effects.{makes-stays}
use Rattle.kernel_model.proofs.Equations.{run-Done, run-Set, run-If, run-Loop, run-Parallel}
use Rattle.kernel_model.proofs.RunEffects.{makes-after_halt}
use Rattle.kernel_model.proofs.Joining.{after-after, after-same, after-done}
use Rattle.serial_run.specs.declared.frame.Frame.{Frame}
use Rattle.serial_run.specs.declared.frame.Pause.{Pause}
use Rattle.serial_run.specs.declared.frame.Pause.TheVariants as pause
use Rattle.serial_run.specs.declared.halt.Halt.{Halt}
use Rattle.serial_run.specs.declared.halt.Halt.TheVariants as halt
use Rattle.task_place.specs.declared.place.Element.{Element}
use Rattle.serial_run.specs.Going.{SerialProgress, room_of, RanPart, RunsPart, LogsRecord, MayMake, Marks}
use Rattle.serial_run.specs.Placing.{ElementLayout}
use Rattle.task_place.specs.Placing.{meant}
use Rattle.serial_run.specs.Resting.{frame_part}
use Rattle.serial_run.specs.Stepping.{Stand, StepsInto, Stepped, TakesPart, HaltsSo}
use Rattle.serial_run.proofs.Following.{no_room, no_room_left, runs_out_so, made_still, made_same, goes_same, goes_stop, goes_then}
use Rattle.serial_run.proofs.Leading.{Part, adds_mark, leads_put, steps_same, steps_push, steps_then, steps_assign}

module _ (layout : ElementLayout) (at : Site) (slots : List ℤ) where
  -- ---- a variable is set
  module _ (slot : ℕ) (e : Term) (old new : SerialProgress) where
    pub set_stops : (why : Halt) → RunsPart layout (value at e) slots slots old new (Err why) → RunsPart layout (run at (tree.Set slot e Done)) slots slots old new (Err why)
    set_stops why goes =
        goes_same layout _ (run at (tree.Set slot e Done)) slots slots old new (Err why) (run-Set at slot e Done)
        (goes_stop layout (value at e) (λ (v : ℤ) (s : State). run at Done (assign slot v s)) slots slots old new why goes)

    pub set_steps : (v : ℤ) (slots' : List ℤ) → slots' ≡ slice_set slots slot v → RanPart layout (value at e) slots slots old new (Returned v) → StepsInto layout at (run at (tree.Set slot e Done)) slots slots' old new [] [] []
    set_steps v slots' is made =
        subst (λ (l : List ℤ). StepsInto layout at (run at (tree.Set slot e Done)) slots l old new [] [] []) (sym is)
        (steps_same layout at _ (run at (tree.Set slot e Done)) slots (slice_set slots slot v) old new [] [] [] (run-Set at slot e Done)
        (steps_then layout at (value at e) (λ (x : ℤ) (s : State). run at Done (assign slot x s)) slots slots (slice_set slots slot v) old new new [] [] [] v made
        (steps_assign layout at slot v slots new)))

  -- ---- a store
  module _ (array : ℕ) (index e : Term) (line site : ℕ) (old : SerialProgress) where
    abbrev pub store : Part
    store = run at (tree.Store array index e line site Done)

    abbrev of_value : ℤ → ℤ → Part
    of_value i v s = after (changed kind.Write (element_at at.arrays array i) v line site s) (run at Done)

    abbrev of_index : ℤ → Part
    of_index i s = and_then (value at e s) (of_value i)

    store_is : (s : State) → store s ≡ and_then (value at index s) of_index
    store_is = run-changing Store at array index e line site Done

    pub index_stops : (mid : SerialProgress) (why : Halt) → RunsPart layout (value at index) slots slots old mid (Err why) → RunsPart layout store slots slots old mid (Err why)
    index_stops mid why goes = goes_same layout _ store slots slots old mid (Err why) store_is (goes_stop layout (value at index) of_index slots slots old mid why goes)

    module _ (mid new : SerialProgress) (i : ℤ) (first : RanPart layout (value at index) slots slots old mid (Returned i)) where
      from_index : (last : SerialProgress) (r : Result (Unit {0}) Halt) → RunsPart layout (of_index i) slots slots mid last r → RunsPart layout store slots slots old last r
      from_index last r goes =
          goes_same layout _ store slots slots old last r store_is (goes_then layout (value at index) of_index slots slots slots old mid last i first r goes)

      pub value_stops : (why : Halt) → RunsPart layout (value at e) slots slots mid new (Err why) → RunsPart layout store slots slots old new (Err why)
      value_stops why goes = from_index new (Err why) (goes_stop layout (value at e) (of_value i) slots slots mid new why goes)

      module _ (v : ℤ) (second : RanPart layout (value at e) slots slots mid new (Returned v)) where
        from_value : (last : SerialProgress) (r : Result (Unit {0}) Halt) → RunsPart layout (changed kind.Write (element_at at.arrays array i) v line site) slots slots new last r → RunsPart layout store slots slots old last r
        from_value last r goes =
            from_index last r
            (goes_then layout (value at e) (of_value i) slots slots slots mid new last v second r
            (goes_same layout (changed kind.Write (element_at at.arrays array i) v line site) (of_value i v) slots slots new last r
            (λ s. after-done at (changed kind.Write (element_at at.arrays array i) v line site s)) goes))

        pub stores_none : element_at at.arrays array i ≡ None → RunsPart layout store slots slots old new (Err (halt.Stops reason.Index line))
        stores_none is =
            from_value new (Err (halt.Stops reason.Index line))
            (made_still layout (changed kind.Write (element_at at.arrays array i) v line site) slots new (Halted reason.Index line)
            (makes-stays (changed kind.Write (element_at at.arrays array i) v line site) slots (room_of layout.bound new) (Halted reason.Index line)
            (λ s same full. ap (λ o. changed kind.Write o v line site s) is)))

        pub stores_some : (found : Element) (last : SerialProgress) (r : Result (Unit {0}) Halt) → element_at at.arrays array i ≡ Some (meant found)
            → RunsPart layout (put (access kind.Write (meant found) site line (fitted v found.width))) slots slots new last r → RunsPart layout store slots slots old last r
        stores_some found last r is goes =
            from_value last r
            (goes_same layout (put (access kind.Write (meant found) site line (fitted v found.width))) (changed kind.Write (element_at at.arrays array i) v line site) slots slots new last r
            (λ s. ap (λ o. changed kind.Write o v line site s) is) goes)

  -- ---- a test
  module _ (test : Term) (if_true if_false : Code) (old new : SerialProgress) where
    abbrev test_part : Part
    test_part = run at (tree.If test if_true if_false Done)

    abbrev of_test : ℤ → Part
    of_test v s = after (branch v (run at if_true) (run at if_false) s) (run at Done)

    pub test_stops : (why : Halt) → RunsPart layout (value at test) slots slots old new (Err why) → RunsPart layout test_part slots slots old new (Err why)
    test_stops why goes = goes_same layout _ test_part slots slots old new (Err why) (run-If at test if_true if_false Done) (goes_stop layout (value at test) of_test slots slots old new why goes)

    branch_is : (v : ℤ) (code : Code) → (v ≡ pos 0 → code ≡ if_false) → ((v ≡ pos 0 → ⊥) → code ≡ if_true) → (s : State) → branch v (run at if_true) (run at if_false) s ≡ run at code s
    branch_is (pos zero) code zero_is other s = ap (λ (c : Code). run at c s) (sym (zero_is refl))
    branch_is (pos (suc n)) code zero_is other s = ap (λ (c : Code). run at c s) (sym (other (λ is. cc)))
    branch_is (negsuc n) code zero_is other s = ap (λ (c : Code). run at c s) (sym (other (λ is. cc)))

    pub test_steps : (v : ℤ) (f : Frame) (code : Code) → ((s : State) → frame_part at f s ≡ run at code s) → (v ≡ pos 0 → code ≡ if_false) → ((v ≡ pos 0 → ⊥) → code ≡ if_true)
        → RanPart layout (value at test) slots slots old new (Returned v) → StepsInto layout at test_part slots slots old new (f ∷ []) [] []
    test_steps v f code frame_is zero_is other made =
        steps_same layout at _ test_part slots slots old new (f ∷ []) [] [] (run-If at test if_true if_false Done)
        (steps_then layout at (value at test) of_test slots slots slots old new new (f ∷ []) [] [] v made
        (steps_push layout at (of_test v) slots new (f ∷ [])
        (λ then' s. ap (λ o. after o then') (after-done at (branch v (run at if_true) (run at if_false) s) ∙ branch_is v code zero_is other s ∙ sym (frame_is s)))))

  -- ---- a loop
  module _ (slot : ℕ) (from to : Term) (body : Code) (old mid : SerialProgress) where
    abbrev loop_part : Part
    loop_part = run at (tree.Loop slot from to body Done)

    abbrev of_bounds : ℤ → ℤ → Part
    of_bounds a b s = after (turns (total_of a b) 0 (turn_from at body slot a) s) (run at Done)

    abbrev of_from : ℤ → Part
    of_from a s = and_then (value at to s) (of_bounds a)

    pub from_stops : (why : Halt) → RunsPart layout (value at from) slots slots old mid (Err why) → RunsPart layout loop_part slots slots old mid (Err why)
    from_stops why goes = goes_same layout _ loop_part slots slots old mid (Err why) (run-Loop at slot from to body Done) (goes_stop layout (value at from) of_from slots slots old mid why goes)

    module _ (new : SerialProgress) (a : ℤ) (first : RanPart layout (value at from) slots slots old mid (Returned a)) where
      pub to_stops : (why : Halt) → RunsPart layout (value at to) slots slots mid new (Err why) → RunsPart layout loop_part slots slots old new (Err why)
      to_stops why goes =
          goes_same layout _ loop_part slots slots old new (Err why) (run-Loop at slot from to body Done)
          (goes_then layout (value at from) of_from slots slots slots old mid new a first (Err why) (goes_stop layout (value at to) (of_bounds a) slots slots mid new why goes))

      pub loop_steps : (b : ℤ) (f : Frame) → ((s : State) → frame_part at f s ≡ turns (total_of a b) 0 (turn_from at body slot a) s) → RanPart layout (value at to) slots slots mid new (Returned b)
          → StepsInto layout at loop_part slots slots old new (f ∷ []) [] []
      loop_steps b f frame_is second =
          steps_same layout at _ loop_part slots slots old new (f ∷ []) [] [] (run-Loop at slot from to body Done)
          (steps_then layout at (value at from) of_from slots slots slots old mid new (f ∷ []) [] [] a first
          (steps_then layout at (value at to) (of_bounds a) slots slots slots mid new new (f ∷ []) [] [] b second
          (steps_push layout at (of_bounds a b) slots new (f ∷ [])
          (λ then' s. ap (λ o. after o then') (after-done at (turns (total_of a b) 0 (turn_from at body slot a) s) ∙ sym (frame_is s))))))

  -- ---- a region
  module _ (team : TeamTree) (old new : SerialProgress) (room : MayMake old) (logs : LogsRecord (event kind.Region team.line 0 team.span) old new) where
    abbrev fork_part : Part
    fork_part = run at (tree.Parallel team.span team.line team.end team.body Done)

    abbrev after_fork : Part → Part
    after_fork then' s = after (run at Done (forked team s)) then'

    pub fork_steps : StepsInto layout at fork_part slots slots old new [] (event kind.Region team.line 0 team.span ∷ []) (record { team = team; slots = slots } ∷ [])
    fork_steps = record {
      makes = adds_mark layout at (event kind.Region team.line 0 team.span) slots old new room logs tt refl refl refl;
      leads = λ then' records before reads chunks.
          ap (λ o. after o then') (run-Parallel at team.span team.line team.end team.body Done (state_with slots records before (room_of layout.bound old) reads chunks))
          ∙ after-after (put (event kind.Region team.line 0 team.span) (state_with slots records before (room_of layout.bound old) reads chunks)) (λ s. run at Done (forked team s)) then'
          ∙ leads_put layout at (event kind.Region team.line 0 team.span) slots old new room logs tt refl refl refl (after_fork then') records before reads chunks
          ∙ ap (λ o. after o then') (run-Done at (state_with slots (records ++ event kind.Region team.line 0 team.span ∷ []) ((before ++ []) ++ record { team = team; slots = slots } ∷ []) (room_of layout.bound new) reads chunks))
          ∙ ap (λ (l : List Fork). then' (state_with slots (records ++ event kind.Region team.line 0 team.span ∷ []) (l ++ record { team = team; slots = slots } ∷ []) (room_of layout.bound new) reads chunks)) (append-nil before);
    }

-- a mark for which there is no room
full_made : (layout : ElementLayout) (due : Record) (part : Part) (old new : Stand) → new.slots ≡ old.slots → ((s : State) (room : s.room ≡ 0) → part s ≡ model.Stops reason.LogFull due.line s)
    → room_of layout.bound old.progress ≡ 0 → new.progress ≡ old.progress → RanPart layout part old.slots new.slots old.progress new.progress (Halted reason.LogFull due.line)
full_made layout due part old new slots full none same =
    subst (λ (l : List ℤ). RanPart layout part old.slots l old.progress new.progress (Halted reason.LogFull due.line)) (sym slots)
    (subst (λ (p : SerialProgress). RanPart layout part old.slots old.slots old.progress p (Halted reason.LogFull due.line)) (sym same)
    (made_still layout part old.slots old.progress (Halted reason.LogFull due.line)
    (makes-stays part old.slots (room_of layout.bound old.progress) (Halted reason.LogFull due.line) (λ s slots_are room. full s (room ∙ none)))))

-- a mark that isn't put
pub halts_marks : (layout : ElementLayout) (due : Record) (part : Part) (old new : Stand) (why : Halt) → new.slots ≡ old.slots
    → ((s : State) (room : s.room ≡ 0) → part s ≡ model.Stops reason.LogFull due.line s)
    → Marks due old.progress new.progress (Err why) → HaltsSo layout part old new why
halts_marks layout due part old new (halt.Stops reason.DivZero line) slots full m = absurd m
halts_marks layout due part old new (halt.Stops reason.Index line) slots full m = absurd m
halts_marks layout due part old new (halt.Stops reason.Tasks line) slots full m = absurd m
halts_marks layout due part old new (halt.Stops reason.LogFull line) slots full m =
    subst (λ (n : ℕ). RanPart layout part old.slots new.slots old.progress new.progress (Halted reason.LogFull n)) (sym m.0)
    (full_made layout due part old new slots full (no_room layout.bound old.progress m.1) m.2)
halts_marks layout due part old new halt.Long slots full m = record {
  none = ap (λ (p : SerialProgress). p.left) m.2 ∙ m.0;
  below = subst (λ (p : SerialProgress). p.count < record_limit) (sym m.2) m.1;
  due = λ is. (due.line, full_made layout due part old new slots full (no_room_left layout.bound old.progress is m.0) m.2);
}
halts_marks layout due part old new halt.Refused slots full m = tt
halts_marks layout due part old new halt.Memory slots full m = tt

-- ---- statements of a list

module _ (layout : ElementLayout) (at : Site) (part later : Part) where
  abbrev both : Part
  both s = after (part s) later

  after_halts : (why : StopWhy) (line : ℕ) (slots slots' : List ℤ) (old new : SerialProgress) → RanPart layout part slots slots' old new (Halted why line) → RanPart layout both slots slots' old new (Halted why line)
  after_halts why line slots slots' old new m = record {
    added = m.added;
    plain = m.plain;
    gains = m.gains;
    makes = makes-after_halt part later slots (room_of layout.bound old) (adds slots' m.added) why line m.makes;
  }

  so_first : (old old' new : Stand) (why : StopWhy) (line : ℕ) → old'.slots ≡ old.slots → old'.progress ≡ old.progress → RanPart layout part old'.slots new.slots old'.progress new.progress (Halted why line)
      → RanPart layout both old.slots new.slots old.progress new.progress (Halted why line)
  so_first old old' new why line slots progress m =
      subst (λ (p : SerialProgress). RanPart layout both old.slots new.slots p new.progress (Halted why line)) progress
      (subst (λ (l : List ℤ). RanPart layout both l new.slots old'.progress new.progress (Halted why line)) slots (after_halts why line old'.slots new.slots old'.progress new.progress m))

  pub halts_first : (old old' new : Stand) (why : Halt) → old'.slots ≡ old.slots → old'.progress ≡ old.progress → HaltsSo layout part old' new why → HaltsSo layout both old new why
  halts_first old old' new (halt.Stops why line) slots progress m = so_first old old' new why line slots progress m
  halts_first old old' new halt.Long slots progress m = runs_out_so (λ line. so_first old old' new reason.LogFull line slots progress) m
  halts_first old old' new halt.Refused slots progress m = tt
  halts_first old old' new halt.Memory slots progress m = tt

  -- the part is executed with the frame of what comes later below it
  pub stepped_first : (f : Frame) (old old' new : Stand) (mark : List Record) (forks : List Fork) → ((s : State) → frame_part at f s ≡ later s) → old.at ≡ at → old' ≡ record old { rest = old.rest ++ f ∷ [] }
      → Stepped layout part old' new mark forks → Stepped layout both old new mark forks
  stepped_first f old old' new mark forks is at_is with_f x =
      let y = subst (λ (z : Stand). Stepped layout part z new mark forks) with_f x in
      record {
        at = y.at;
        end = y.end;
        pushed = f ∷ y.pushed;
        rest = y.rest ∙ append_assoc old.rest (f ∷ []) y.pushed;
        steps = record {
          makes = y.steps.makes;
          leads = λ then' records before reads chunks.
              let st = state_with old.slots records before (room_of layout.bound old.progress) (reads_of y.steps.makes.added ++ reads) (chunks_of y.steps.makes.added ++ chunks) in
              after-after (part st) later then'
              ∙ after-same (part st) (λ t. after (later t) then') (λ t. after (frame_part old.at f t) then')
              (λ t. ap (λ o. after o then') (sym (is t) ∙ ap (λ (w : Site). frame_part w f t) (sym at_is)))
              ∙ y.steps.leads (λ t. after (frame_part old.at f t) then') records before reads chunks;
        };
      }

  pub takes_first : (f : Frame) (old old' new : Stand) (r : Result (Option Pause) Halt) → ((s : State) → frame_part at f s ≡ later s) → old.at ≡ at → old' ≡ record old { rest = old.rest ++ f ∷ [] }
      → TakesPart layout part old' new r → TakesPart layout both old new r
  takes_first f old old' new (Ok None) is at_is with_f x = stepped_first f old old' new [] [] is at_is with_f x
  takes_first f old old' new (Ok (Some pause.Barrier)) is at_is with_f x = (x.0, stepped_first f old old' new (event kind.Barrier x.0 0 0 ∷ []) [] is at_is with_f x.1)
  takes_first f old old' new (Ok (Some (pause.Fork team))) is at_is with_f x =
      stepped_first f old old' new (event kind.Region team.now.line 0 team.now.span ∷ []) (record { team = team_of team.now; slots = new.slots } ∷ []) is at_is with_f x
  takes_first f old old' new (Ok (Some pause.Ended)) is at_is with_f x = x
  takes_first f old old' new (Err why) is at_is with_f x = halts_first old old' new why (ap (λ (z : Stand). z.slots) with_f) (ap (λ (z : Stand). z.progress) with_f) x

-- the same part, told otherwise
module _ (layout : ElementLayout) (part other : Part) (same : (s : State) → other s ≡ part s) where
  stepped_same : (old new : Stand) (mark : List Record) (forks : List Fork) → Stepped layout part old new mark forks → Stepped layout other old new mark forks
  stepped_same old new mark forks x = record {
    at = x.at;
    end = x.end;
    pushed = x.pushed;
    rest = x.rest;
    steps = steps_same layout old.at part other old.slots new.slots old.progress new.progress x.pushed mark forks same x.steps;
  }

  pub halts_same : (old new : Stand) (why : Halt) → HaltsSo layout part old new why → HaltsSo layout other old new why
  halts_same old new (halt.Stops why line) m = made_same layout part other old.slots new.slots old.progress new.progress (Halted why line) same m
  halts_same old new halt.Long m = runs_out_so (λ line. made_same layout part other old.slots new.slots old.progress new.progress (Halted reason.LogFull line) same) m
  halts_same old new halt.Refused m = tt
  halts_same old new halt.Memory m = tt

  pub takes_same : (old new : Stand) (r : Result (Option Pause) Halt) → TakesPart layout part old new r → TakesPart layout other old new r
  takes_same old new (Ok None) x = stepped_same old new [] [] x
  takes_same old new (Ok (Some pause.Barrier)) x = (x.0, stepped_same old new (event kind.Barrier x.0 0 0 ∷ []) [] x.1)
  takes_same old new (Ok (Some (pause.Fork team))) x = stepped_same old new (event kind.Region team.now.line 0 team.now.span ∷ []) (record { team = team_of team.now; slots = new.slots } ∷ []) x
  takes_same old new (Ok (Some pause.Ended)) x = x
  takes_same old new (Err why) x = halts_same old new why x
