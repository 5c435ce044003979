-- Loops: their turns, and a lane's share of them.
use Rattle.std.proofs.Common.{◌≡◌, refl, ap, sym, ◌∙◌, subst, arith, ℕ, zero, suc, ◌+◌, ◌-◌, ◌<◌, ◌≤◌, Bool, true, false, cond, List, [], ◌∷◌, ◌++◌, ℤ, pos, negsuc, ◌+ℤ◌, ◌-ℤ◌, ◌≤ℤ◌, Err}
use Rattle.std.specs.Prelude.{slice_set, ◌==◌, ◌/◌, ◌%◌, not, filter}
use Rattle.std.specs.List.{range_with_len}
use Rattle.std.proofs.lemmas.Int.{ints}
use Rattle.kernel_syntax.specs.declared.syntax.Schedule.{Schedule}
use Rattle.kernel_syntax.specs.Share.{even_share_of}
use Rattle.kernel_syntax.specs.Tree as tree
use Rattle.kernel_syntax.specs.Tree.{Term, Code, Done}
use Rattle.log_format.specs.declared.record.Kind.TheVariants as kind
use Rattle.kernel_model.specs.Drawing.{turn_from}
use Rattle.kernel_model.specs.Iterations.{total_of, count_of, even_iterations}
use Rattle.kernel_model.specs.State.{State, and_then, after, assign, put, event}
use Rattle.kernel_model.specs.Effect.{Returned, state_with}
use Rattle.kernel_model.specs.Trace.{run, turns, each, shared, loop_end}
use Rattle.kernel_model.specs.Value.{Site, value}
use Rattle.kernel_model.proofs.Equations.{run-For}
use Rattle.kernel_model.proofs.Joining.{after-after, after-same, after-done}
use Rattle.kernel_model.proofs.Turns.{each-range}
use Rattle.serial_run.specs.declared.frame.Frame.{Frame}
use Rattle.serial_run.specs.declared.halt.Halt.{Halt}
use Rattle.serial_run.specs.Going.{SerialProgress, room_of, RanPart, RunsPart}
use Rattle.serial_run.specs.Resting.{frame_part, frames_rest, dealt_from, end_frames}
use Rattle.serial_run.specs.Stepping.{StepsInto}
use Rattle.serial_run.proofs.Following.{goes_same, goes_stop, goes_then}
use Rattle.serial_run.proofs.Leading.{Part, leads_none, adds_none, steps_same, steps_push, steps_then}
use Rattle.serial_run.specs.Placing.{ElementLayout}

-- ---- how many turns there are

count_none : (d : ℤ) → d ≤ℤ pos 0 → count_of d ≡ 0
count_none (pos zero) none = refl
count_none (pos (suc n)) none = absurd (omega (arith, ints, none))
count_none (negsuc n) none = refl

pub total_none : (a b : ℤ) → b ≤ℤ a → total_of a b ≡ 0
total_none a b past = count_none (b -ℤ a) (omega (arith, ints, past))

total_is : (a b : ℤ) (n : ℕ) → b ≡ a +ℤ pos n → total_of a b ≡ n
total_is a b n is = ap count_of (let e : b -ℤ a ≡ pos n = omega (arith, ints, is) in e)

module _ (at : Site) (body : Code) (slot : ℕ) where
  -- turns counted from another value on
  pub shift : (n k i : ℕ) (a : ℤ) (s : State) → turns n (k + i) (turn_from at body slot a) s ≡ turns n i (turn_from at body slot (a +ℤ pos k)) s
  shift zero k i a s = refl
  shift (suc n) k i a s =
      let value_is : a +ℤ pos (k + i) ≡ (a +ℤ pos k) +ℤ pos i = omega (arith, ints) in
      let next : suc (k + i) ≡ k + suc i = omega arith in
      ap (λ (z : ℤ). after (run at body (assign slot z s)) (turns n (suc (k + i)) (turn_from at body slot a))) value_is
      ∙ after-same (run at body (assign slot ((a +ℤ pos k) +ℤ pos i) s)) (turns n (suc (k + i)) (turn_from at body slot a)) (turns n (suc i) (turn_from at body slot (a +ℤ pos k)))
      (λ t. ap (λ (j : ℕ). turns n j (turn_from at body slot a) t) next ∙ shift n k (suc i) a t)

  -- an even share
  pub even_is : (from : ℤ) (total : ℕ) (share : ℕ × ℕ) (next end : ℤ) → share ≡ even_share_of total at.lane at.span → next ≡ from +ℤ pos share.0 → end ≡ from +ℤ pos (share.0 + share.1)
      → (s : State) → turns (total_of next end) 0 (turn_from at body slot next) s ≡ each (even_iterations total at.lane at.span) (turn_from at body slot from) s
  even_is from total share next end is next_is end_is s =
      let count : total_of next end ≡ share.1 = total_is next end share.1 (let e : end ≡ next +ℤ pos share.1 = omega (arith, ints, next_is, end_is) in e) in
      let first : share.0 ≡ share.0 + 0 = omega arith in
      ap (λ (n : ℕ). turns n 0 (turn_from at body slot next) s) count
      ∙ ap (λ (z : ℤ). turns share.1 0 (turn_from at body slot z) s) next_is
      ∙ sym (shift share.1 share.0 0 from s)
      ∙ ap (λ (n : ℕ). turns share.1 n (turn_from at body slot from) s) (sym first)
      ∙ sym (each-range share.0 share.1 (turn_from at body slot from) s)
      ∙ ap (λ (p : ℕ × ℕ). each (range_with_len p.0 p.1) (turn_from at body slot from) s) is

  -- the next turn, and then the others
  pub turn_steps : (layout : ElementLayout) (slots slots' : List ℤ) (p : SerialProgress) (next end : ℤ) (f g : Frame) → slots' ≡ slice_set slots slot next → total_of next end ≡ suc (total_of (next +ℤ pos 1) end)
      → ((s : State) → frame_part at f s ≡ turns (total_of (next +ℤ pos 1) end) 0 (turn_from at body slot (next +ℤ pos 1)) s) → ((s : State) → frame_part at g s ≡ run at body s)
      → StepsInto layout at (λ s. turns (total_of next end) 0 (turn_from at body slot next) s) slots slots' p p (f ∷ g ∷ []) [] []
  turn_steps layout slots slots' p next end f g slots_are more f_is g_is =
      subst (λ (l : List ℤ). StepsInto layout at (λ s. turns (total_of next end) 0 (turn_from at body slot next) s) slots l p p (f ∷ g ∷ []) [] []) (sym slots_are)
      (record {
        makes = adds_none layout p;
        leads = λ then' records before reads chunks.
            let st = state_with slots records before (room_of layout.bound p) reads chunks in
            let st' = state_with (slice_set slots slot next) records before (room_of layout.bound p) reads chunks in
            let m = total_of (next +ℤ pos 1) end in
            let value_is : next +ℤ pos 0 ≡ next = omega (arith, ints) in
            ap (λ (n : ℕ). after (turns n 0 (turn_from at body slot next) st) then') more
            ∙ after-after (turn_from at body slot next 0 st) (turns m 1 (turn_from at body slot next)) then'
            ∙ ap (λ (z : ℤ). after (run at body (assign slot z st)) (λ t. after (turns m 1 (turn_from at body slot next) t) then')) value_is
            ∙ after-same (run at body st') (λ t. after (turns m 1 (turn_from at body slot next) t) then') (λ t. after (frame_part at f t) then')
            (λ t. ap (λ o. after o then') (shift m 1 0 next t ∙ sym (f_is t)))
            ∙ ap (λ o. after o (λ t. after (frame_part at f t) then')) (sym (g_is st'))
            ∙ leads_none (frames_rest at (f ∷ g ∷ []) then') (slice_set slots slot next) (room_of layout.bound p) records before reads chunks;
      })

-- ---- a worksharing loop

module _ (layout : ElementLayout) (at : Site) (slots : List ℤ) (slot : ℕ) (from to : Term) (schedule : Schedule) (nowait : Bool) (line end : ℕ) (body : Code) (old mid : SerialProgress) where
  abbrev pub for_part : Part
  for_part = run at (tree.For slot from to schedule nowait line end body Done)

  abbrev of_bounds : ℤ → ℤ → Part
  of_bounds a b s = after (shared schedule at line (total_of a b) (turn_from at body slot a) s) (λ t. after (loop_end nowait end t) (run at Done))

  abbrev of_from : ℤ → Part
  of_from a s = and_then (value at to s) (of_bounds a)

  pub for_from_stops : (why : Halt) → RunsPart layout (value at from) slots slots old mid (Err why) → RunsPart layout for_part slots slots old mid (Err why)
  for_from_stops why goes =
      goes_same layout _ for_part slots slots old mid (Err why) (run-For at slot from to schedule nowait line end body Done) (goes_stop layout (value at from) of_from slots slots old mid why goes)

  module _ (new : SerialProgress) (a : ℤ) (first : RanPart layout (value at from) slots slots old mid (Returned a)) where
    pub for_to_stops : (why : Halt) → RunsPart layout (value at to) slots slots mid new (Err why) → RunsPart layout for_part slots slots old new (Err why)
    for_to_stops why goes =
        goes_same layout _ for_part slots slots old new (Err why) (run-For at slot from to schedule nowait line end body Done)
        (goes_then layout (value at from) of_from slots slots slots old mid new a first (Err why) (goes_stop layout (value at to) (of_bounds a) slots slots mid new why goes))

    pub for_steps : (b : ℤ) (f : Frame) → ((s : State) → frame_part at f s ≡ shared schedule at line (total_of a b) (turn_from at body slot a) s) → RanPart layout (value at to) slots slots mid new (Returned b)
        → StepsInto layout at for_part slots slots old new (end_frames nowait end ++ f ∷ []) [] []
    for_steps b f frame_is second =
        steps_same layout at _ for_part slots slots old new (end_frames nowait end ++ f ∷ []) [] [] (run-For at slot from to schedule nowait line end body Done)
        (steps_then layout at (value at from) of_from slots slots slots old mid new (end_frames nowait end ++ f ∷ []) [] [] a first
        (steps_then layout at (value at to) (of_bounds a) slots slots slots mid new new (end_frames nowait end ++ f ∷ []) [] [] b second
        (steps_push layout at (of_bounds a b) slots new (end_frames nowait end ++ f ∷ []) (pushed nowait))))
      where
        pushed : (w : Bool) (then' : Part) (s : State) → after (after (shared schedule at line (total_of a b) (turn_from at body slot a) s) (λ t. after (loop_end w end t) (run at Done))) then' ≡ frames_rest at (end_frames w end ++ f ∷ []) then' s
        pushed true then' s = ap (λ o. after o then') (after-done at (shared schedule at line (total_of a b) (turn_from at body slot a) s) ∙ sym (frame_is s))
        pushed false then' s =
            after-after (shared schedule at line (total_of a b) (turn_from at body slot a) s) (λ t. after (put (event kind.Barrier end 0 0) t) (run at Done)) then'
            ∙ after-same (shared schedule at line (total_of a b) (turn_from at body slot a) s) (λ t. after (after (put (event kind.Barrier end 0 0) t) (run at Done)) then') (λ t. after (put (event kind.Barrier end 0 0) t) then')
            (λ t. ap (λ o. after o then') (after-done at (put (event kind.Barrier end 0 0) t)))
            ∙ ap (λ o. after o (λ t. after (put (event kind.Barrier end 0 0) t) then')) (sym (frame_is s))

-- ---- chunks that are dealt in turn

module _ (at : Site) (body : Code) (slot : ℕ) (from : ℤ) (chunk total next : ℕ) where
  abbrev dealt : ℕ → List ℕ
  dealt n = dealt_from chunk total at.lane at.span n

  abbrev own : Bool
  own = (next / chunk) % at.span == at.lane

  pub dealt_none : total ≤ next → dealt next ≡ []
  dealt_none past =
      let none : total - next ≡ 0 = omega arith in
      ap (λ (n : ℕ). filter (λ i. (i / chunk) % at.span == at.lane) (range_with_len next n)) none

  dealt_next : next < total → dealt next ≡ cond own (next ∷ dealt (next + 1)) (dealt (next + 1))
  dealt_next less =
      let some : total - next ≡ suc (total - (next + 1)) = omega arith in
      ap (λ (n : ℕ). filter (λ i. (i / chunk) % at.span == at.lane) (range_with_len next n)) some

  not_true : (b : Bool) → not b ≡ true → b ≡ false
  not_true false is = refl
  not_true true is = sym is

  not_false : (b : Bool) → not b ≡ false → b ≡ true
  not_false true is = refl
  not_false false is = sym is

  pub past_steps : (layout : ElementLayout) (slots : List ℤ) (p : SerialProgress) → total ≤ next → StepsInto layout at (λ s. each (dealt next) (turn_from at body slot from) s) slots slots p p [] [] []
  past_steps layout slots p past =
      steps_push layout at (λ s. each (dealt next) (turn_from at body slot from) s) slots p [] (λ then' s. ap (λ (l : List ℕ). after (each l (turn_from at body slot from) s) then') (dealt_none past))

  module _ (layout : ElementLayout) (slots : List ℤ) (p : SerialProgress) (f : Frame) (less : next < total) (f_is : (s : State) → frame_part at f s ≡ each (dealt (next + 1)) (turn_from at body slot from) s) where
    pub skip_steps : not own ≡ true → StepsInto layout at (λ s. each (dealt next) (turn_from at body slot from) s) slots slots p p (f ∷ []) [] []
    skip_steps other =
        steps_push layout at (λ s. each (dealt next) (turn_from at body slot from) s) slots p (f ∷ [])
        (λ then' s. ap (λ (l : List ℕ). after (each l (turn_from at body slot from) s) then') (dealt_next less ∙ ap (λ (b : Bool). cond b (next ∷ dealt (next + 1)) (dealt (next + 1))) (not_true own other))
        ∙ ap (λ o. after o then') (sym (f_is s)))

    pub own_steps : (slots' : List ℤ) (g : Frame) → not own ≡ false → slots' ≡ slice_set slots slot (from +ℤ pos next) → ((s : State) → frame_part at g s ≡ run at body s)
        → StepsInto layout at (λ s. each (dealt next) (turn_from at body slot from) s) slots slots' p p (f ∷ g ∷ []) [] []
    own_steps slots' g mine slots_are g_is =
        subst (λ (l : List ℤ). StepsInto layout at (λ s. each (dealt next) (turn_from at body slot from) s) slots l p p (f ∷ g ∷ []) [] []) (sym slots_are)
        (record {
          makes = adds_none layout p;
          leads = λ then' records before reads chunks.
              let st = state_with slots records before (room_of layout.bound p) reads chunks in
              let st' = state_with (slice_set slots slot (from +ℤ pos next)) records before (room_of layout.bound p) reads chunks in
              ap (λ (l : List ℕ). after (each l (turn_from at body slot from) st) then') (dealt_next less ∙ ap (λ (b : Bool). cond b (next ∷ dealt (next + 1)) (dealt (next + 1))) (not_false own mine))
              ∙ after-after (turn_from at body slot from next st) (each (dealt (next + 1)) (turn_from at body slot from)) then'
              ∙ after-same (run at body st') (λ t. after (each (dealt (next + 1)) (turn_from at body slot from) t) then') (λ t. after (frame_part at f t) then') (λ t. ap (λ o. after o then') (sym (f_is t)))
              ∙ ap (λ o. after o (λ t. after (frame_part at f t) then')) (sym (g_is st'))
              ∙ leads_none (frames_rest at (f ∷ g ∷ []) then') (slice_set slots slot (from +ℤ pos next)) (room_of layout.bound p) records before reads chunks;
        })
