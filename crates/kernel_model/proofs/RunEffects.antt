-- The effects of statements and of whole tasks, from the effects of their parts.
use Rattle.std.proofs.Common.{◌≡◌, refl, append_assoc, ap, sym, ◌∙◌, subst, ℕ, ◌-◌, ◌<◌, List, [], ◌∷◌, ◌++◌, length, ℤ}
use Rattle.std.specs.Prelude.{slice_set}
use Rattle.std.proofs.lemmas.List.{append-nil}
use Rattle.log_format.specs.Limit.{record_limit}
use Rattle.kernel_syntax.specs.Program.{Program}
use Rattle.kernel_syntax.specs.Tree as tree
use Rattle.kernel_syntax.specs.Tree.{Term, Code, TeamTree}
use Rattle.log_format.specs.declared.record.Kind.TheVariants as kind
use Rattle.kernel_model.specs.State.{State, Outcome, Gives, Stops, Wants, and_then, after, put, event, assign, reads_of, chunks_of, state_of}
use Rattle.kernel_model.specs.declared.stop.StopWhy.{StopWhy}
use Rattle.kernel_model.specs.declared.stop.StopWhy.TheVariants.{LogFull}
use Rattle.kernel_model.specs.Value.{Site}
use Rattle.kernel_model.specs.Trace.{run, turns, forked, task, Start, site_of, Ending, Ended, Stopped, trace_of}
use Rattle.kernel_model.specs.Effect.{Effect, Finish, Returned, Halted, finished, state_with, Makes, then_effect, adds, MakesRun}
use Rattle.kernel_model.specs.Folder.{own_trace}
use Rattle.kernel_model.proofs.Equations.{run-Done, run-Parallel, run-Critical}
use Rattle.kernel_model.proofs.Effects.{makes-same, makes-halt, makes-then, makes-stays, makes-put, makes-put_full}

after-is : (m : Outcome (Unit {0})) (next : State → Outcome (Unit {0})) → after m next ≡ and_then m (λ _. next)
after-is (Gives a s) next = refl
after-is (Stops why line s) next = refl
after-is (Wants s) next = refl

module _ (part next : State → Outcome (Unit {0})) (slots : List ℤ) (room : ℕ) (one : Effect) where
  -- a part that stops, and a part that another follows
  pub makes-after_halt : (why : StopWhy) (line : ℕ) → Makes part slots room one (Halted why line) →
      Makes (λ s. after (part s) next) slots room one (Halted why line)
  makes-after_halt why line m =
      makes-same _ _ slots room one (Halted why line) (λ s. after-is (part s) next) (makes-halt part (λ _. next) slots room one why line m)

  pub makes-after : (more : Effect) (finish : Finish (Unit {0})) → Makes part slots room one (Returned tt) →
      Makes next one.slots (room - length one.added) more finish → Makes (λ s. after (part s) next) slots room (then_effect one more) finish
  makes-after more finish m n =
      makes-same _ _ slots room (then_effect one more) finish (λ s. after-is (part s) next)
      (makes-then part (λ _. next) slots room one tt more finish m n)

-- a local is set, and then a part goes on
pub makes-assign : (part : State → Outcome (Unit {0})) (slot : ℕ) (v : ℤ) (slots : List ℤ) (room : ℕ) (effect : Effect) (finish : Finish (Unit {0})) →
    Makes part (slice_set slots slot v) room effect finish → Makes (λ s. part (assign slot v s)) slots room effect finish
makes-assign part slot v slots room effect finish m = record {
  within = m.within;
  makes = λ records forks reads chunks. m.makes records forks reads chunks;
}

-- ---- lists of turns

-- ---- numbered turns

module _ (turn : ℕ → State → Outcome (Unit {0})) (slots : List ℤ) (room i : ℕ) where
  pub makes-turns_none : Makes (turns 0 i turn) slots room (adds slots []) (Returned tt)
  makes-turns_none = makes-stays (turns 0 i turn) slots room (Returned tt) (λ s same full. refl)

-- ---- statements

module _ (at : Site) (slots : List ℤ) (room : ℕ) where
  pub makes-Done : MakesRun at tree.Done slots room (adds slots []) (Returned tt)
  makes-Done = makes-stays _ slots room (Returned tt) (λ s same full. run-Done at s)

  -- ---- statements with bodies

  module _ (team : TeamTree) (rest : Code) where
    -- a region is forked after its record, with the locals at that point
    makes-forked : (more : Effect) (finish : Finish (Unit {0})) (k : ℕ) → MakesRun at rest slots k more finish →
        Makes (λ s. run at rest (forked team s)) slots k
        (record more { forks = record { team = team; slots = slots } ∷ more.forks }) finish
    makes-forked more finish k m = record {
      within = m.within;
      makes = λ records forks reads chunks.
          m.makes records (forks ++ record { team = team; slots = slots } ∷ []) reads chunks
          ∙ ap (λ f. finished finish (state_with more.slots (records ++ more.added) f (k - length more.added) reads chunks))
          (append_assoc forks (record { team = team; slots = slots } ∷ []) more.forks);
    }

    pub makes-Parallel : (more : Effect) (finish : Finish (Unit {0})) → 0 < room → MakesRun at rest slots (room - 1) more finish →
        MakesRun at (tree.Parallel team.span team.line team.end team.body rest) slots room
        (record {
          slots = more.slots;
          added = event kind.Region team.line 0 team.span ∷ more.added;
          forks = record { team = team; slots = slots } ∷ more.forks;
        }) finish
    makes-Parallel more finish some m =
        makes-same _ _ slots room _ finish (run-Parallel at team.span team.line team.end team.body rest)
        (makes-after _ (λ s. run at rest (forked team s)) slots room (adds slots (event kind.Region team.line 0 team.span ∷ []))
        (record more { forks = record { team = team; slots = slots } ∷ more.forks }) finish
        (makes-put (event kind.Region team.line 0 team.span) slots room some refl refl)
        (makes-forked more finish (room - 1) m))

    pub makes-Parallel_full : room ≡ 0 →
        MakesRun at (tree.Parallel team.span team.line team.end team.body rest) slots room (adds slots []) (Halted LogFull team.line)
    makes-Parallel_full full =
        makes-same _ _ slots room _ (Halted LogFull team.line) (run-Parallel at team.span team.line team.end team.body rest)
        (makes-after_halt _ (λ s. run at rest (forked team s)) slots room (adds slots []) LogFull team.line
        (subst (λ k. Makes (put (event kind.Region team.line 0 team.span)) slots k (adds slots []) (Halted LogFull team.line)) (sym full)
        (makes-put_full (event kind.Region team.line 0 team.span) slots)))

  module _ (mutex line end : ℕ) (body rest : Code) where
    pub makes-Critical_full : room ≡ 0 → MakesRun at (tree.Critical mutex line end body rest) slots room (adds slots []) (Halted LogFull line)
    makes-Critical_full full =
        makes-same _ _ slots room _ (Halted LogFull line) (run-Critical at mutex line end body rest)
        (makes-after_halt _ _ slots room (adds slots []) LogFull line
        (subst (λ k. Makes (put (event kind.Lock line mutex 0)) slots k (adds slots []) (Halted LogFull line)) (sym full)
        (makes-put_full (event kind.Lock line mutex 0) slots)))

    -- the Lock, the body, the Unlock and what follows
    pub makes-Critical : (one more : Effect) (finish : Finish (Unit {0})) → 0 < room → MakesRun at body slots (room - 1) one (Returned tt) →
        Makes (λ s. after (put (event kind.Unlock end mutex 0) s) (run at rest)) one.slots (room - 1 - length one.added) more finish →
        MakesRun at (tree.Critical mutex line end body rest) slots room
        (then_effect (adds slots (event kind.Lock line mutex 0 ∷ [])) (then_effect one more)) finish
    makes-Critical one more finish some m n =
        makes-same _ _ slots room _ finish (run-Critical at mutex line end body rest)
        (makes-after _ _ slots room (adds slots (event kind.Lock line mutex 0 ∷ [])) (then_effect one more) finish
        (makes-put (event kind.Lock line mutex 0) slots room some refl refl)
        (makes-after (run at body) _ slots (room - 1) one more finish m n))
    -- ---- loops that a team shares

-- ---- whole tasks

abbrev pub end_of : Finish (Unit {0}) → Ending
end_of (Returned a) = Ended
end_of (Halted why line) = Stopped why line

-- how a task's trace is made from the outcome of all its parts
trace_of-finished : (finish : Finish (Unit {0})) (s : State) →
    trace_of (finished finish s) (state_of (finished finish s)) ≡ record { records = s.records; forks = s.forks; end = end_of finish }
trace_of-finished (Returned a) s = refl
trace_of-finished (Halted why line) s = refl

module _ (program : Program) (start : Start) where
  abbrev pub parts : State → Outcome (Unit {0})
  parts s = after (run (site_of program start) start.team.body s) (put (event kind.End start.team.end 0 0))

  pub own_trace-is : (e : Effect) (finish : Finish (Unit {0})) → Makes parts start.slots record_limit e finish →
      own_trace program start e.added ≡ record { records = e.added; forks = e.forks; end = end_of finish }
  unfolding task
  own_trace-is e finish m =
      ap (λ l. trace_of (parts (state_with start.slots [] [] record_limit l (chunks_of e.added))) (state_of (parts (state_with start.slots [] [] record_limit l (chunks_of e.added)))))
      (sym (append-nil (reads_of e.added)))
      ∙ ap (λ l. trace_of (parts (state_with start.slots [] [] record_limit (reads_of e.added ++ []) l)) (state_of (parts (state_with start.slots [] [] record_limit (reads_of e.added ++ []) l))))
      (sym (append-nil (chunks_of e.added)))
      ∙ ap (λ o. trace_of o (state_of o)) (m.makes [] [] [] [])
      ∙ trace_of-finished finish (state_with e.slots ([] ++ e.added) ([] ++ e.forks) (record_limit - length e.added) [] [])
