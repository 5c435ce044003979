-- How a lane goes on: lists of statements, and the statements that have some.
use Rattle.std.proofs.Common.{◌≡◌, ◌≢◌, refl, ap, ◌∙◌, subst, ℕ, suc, ◌+◌, ◌-◌, ◌<◌, List, [], ◌∷◌, ◌++◌, ℤ, pos, Result, Ok, Err, arith}
use Rattle.log_format.specs.Limit.{record_limit}
use Rattle.kernel_syntax.specs.declared.syntax.Stmt.{Stmt}
use Rattle.kernel_syntax.specs.Program.{stmt_code, code_of}
use Rattle.kernel_syntax.proofs.Equations.{stmts_code-append}
use Rattle.kernel_syntax.specs.Tree as tree
use Rattle.kernel_syntax.specs.Tree.{Term, Code}
use Rattle.kernel_model.specs.State.{State, Outcome, and_then, after, state_of}
use Rattle.kernel_model.specs.Growth.{Grows}
use Rattle.kernel_model.specs.Iterations.{total_of}
use Rattle.kernel_model.specs.Trace.{run, branch, turns}
use Rattle.kernel_model.specs.Value.{Site, value}
use Rattle.kernel_model.specs.Effect.{Returned}
use Rattle.kernel_model.proofs.Equations.{run-If, run-Loop}
use Rattle.kernel_model.proofs.Growing.{grows-plain, run-grows, value-grows, test-grows}
use Rattle.kernel_model.proofs.Joining.{run-stmts, run-first, turns-add, after-nothing, after-done, branch-zero, branch-other}
use Rattle.kernel_model.proofs.RunEffects.{makes-turns_none}
use Rattle.kernel_model.proofs.Turns.{turn_grows}
use Rattle.kernel_model.proofs.Steps.{kept-and_then, kept-after, kept-turns}
use Rattle.lane_runner.specs.declared.stop.Halt.{Halt}
use Rattle.lane_runner.specs.World.{WorldValue}
use Rattle.kernel_model.specs.Drawing.{turn_from}
use Rattle.event_buffer.specs.Buffered.{Buffered}
use Rattle.lane_runner.specs.Going.{Progress, CanGo, Made, Goes, IsSameLog}
use Rattle.lane_runner.proofs.Following.{goes_stop, goes_then, goes_same}
use Rattle.lane_runner.proofs.Values.{made_still}
use Rattle.lane_runner.proofs.Running.{after_stop, after_goes}

pub log_still : (a : Buffered) → IsSameLog a a
log_still a = record { dir = refl; path = refl; size = refl; tells = refl; later = omega arith }

pub log_later : (a b c : Buffered) → IsSameLog a b → IsSameLog b c → IsSameLog a c
log_later a b c one more = record {
  dir = more.dir ∙ one.dir;
  path = more.path ∙ one.path;
  size = more.size ∙ one.size;
  tells = more.tells ∙ one.tells;
  later = omega (arith, one.later, more.later);
}

-- ---- lists of statements

module _ (w : WorldValue) (at : Site) (slots mid_slots slots' : List ℤ) (prefix : List Stmt) (stmt : Stmt) (old mid new : Progress)
    (before : Made w (run at (code_of prefix)) slots mid_slots old mid (Returned tt)) where
  -- one statement more
  pub statements_next : Made w (run at (stmt_code stmt tree.Done)) mid_slots slots' mid new (Returned tt) → Made w (run at (code_of (prefix ++ stmt ∷ []))) slots slots' old new (Returned tt)
  statements_next m =
      goes_same w _ (run at (code_of (prefix ++ stmt ∷ []))) slots slots' old new
      (λ s. ap (λ c. run at c s) (stmts_code-append prefix (stmt ∷ []) tree.Done) ∙ run-stmts at prefix (stmt_code stmt tree.Done) s) (Ok tt)
      (after_goes w (run at (code_of prefix)) (run at (stmt_code stmt tree.Done)) slots mid_slots slots' old mid new (Ok tt) before m)

  -- the next one stops
  pub statements_stop : (rest : List Stmt) (why : Halt) → Goes w (run at (stmt_code stmt tree.Done)) mid_slots slots' mid new (Err why) → Goes w (run at (code_of (prefix ++ stmt ∷ rest))) slots slots' old new (Err why)
  statements_stop rest why m =
      goes_same w _ (run at (code_of (prefix ++ stmt ∷ rest))) slots slots' old new
      (λ s. ap (λ c. run at c s) (stmts_code-append prefix (stmt ∷ rest) tree.Done) ∙ run-stmts at prefix (stmt_code stmt (code_of rest)) s) (Err why)
      (after_goes w (run at (code_of prefix)) (run at (stmt_code stmt (code_of rest))) slots mid_slots slots' old mid new (Err why) before
      (goes_same w _ (run at (stmt_code stmt (code_of rest))) mid_slots slots' mid new (run-first at stmt (code_of rest)) (Err why)
      (after_stop w (run at (stmt_code stmt tree.Done)) (run at (code_of rest)) mid_slots slots' mid new why (run-grows at (code_of rest)) m)))

-- ---- tests

module _ (w : WorldValue) (at : Site) (slots : List ℤ) (test : Term) (if_true if_false : Code) where
  abbrev after_test : ℤ → State → Outcome (Unit {0})
  after_test v s = after (branch v (run at if_true) (run at if_false) s) (run at tree.Done)

  pub test_stops : (old new : Progress) (why : Halt) → Goes w (value at test) slots slots old new (Err why) → Goes w (run at (tree.If test if_true if_false tree.Done)) slots slots old new (Err why)
  test_stops old new why goes =
      goes_same w _ (run at (tree.If test if_true if_false tree.Done)) slots slots old new (run-If at test if_true if_false tree.Done) (Err why)
      (goes_stop w (value at test) after_test slots slots old new why (test-grows at if_true if_false) goes)

  module _ (v : ℤ) (slots' : List ℤ) (old mid new : Progress) (r : Result (Unit {0}) Halt) (made : Made w (value at test) slots slots old mid (Returned v)) where
    chosen_goes : (code : Code) → ((s : State) → branch v (run at if_true) (run at if_false) s ≡ run at code s) → Goes w (run at code) slots slots' mid new r
        → Goes w (run at (tree.If test if_true if_false tree.Done)) slots slots' old new r
    chosen_goes code is goes =
        goes_same w _ (run at (tree.If test if_true if_false tree.Done)) slots slots' old new (run-If at test if_true if_false tree.Done) r
        (goes_then w (value at test) after_test slots slots slots' old mid new v made r
        (goes_same w (run at code) (after_test v) slots slots' mid new (λ s. after-done at (branch v (run at if_true) (run at if_false) s) ∙ is s) r goes))

    pub else_goes : v ≡ pos 0 → Goes w (run at if_false) slots slots' mid new r → Goes w (run at (tree.If test if_true if_false tree.Done)) slots slots' old new r
    else_goes is = chosen_goes if_false (λ s. branch-zero v (run at if_true) (run at if_false) s is)

    pub then_goes : v ≢ pos 0 → Goes w (run at if_true) slots slots' mid new r → Goes w (run at (tree.If test if_true if_false tree.Done)) slots slots' old new r
    then_goes other = chosen_goes if_true (λ s. branch-other v (run at if_true) (run at if_false) s other)

-- ---- loops

module _ (w : WorldValue) (at : Site) (body : Code) (slot : ℕ) (from : ℤ) where
  pub turns_none : (first : ℕ) (slots : List ℤ) (p : Progress) → CanGo w p → Made w (turns 0 first (turn_from at body slot from)) slots slots p p (Returned tt)
  turns_none first slots p can = made_still w (turns 0 first (turn_from at body slot from)) slots p (Returned tt) can (makes-turns_none (turn_from at body slot from) slots (record_limit - p.buffer.count) first)

  module _ (first : ℕ) (slots mid_slots slots' : List ℤ) (i : ℕ) (old mid new : Progress) (before : Made w (turns i first (turn_from at body slot from)) slots mid_slots old mid (Returned tt)) where
    turns_more : (n : ℕ) (r : Result (Unit {0}) Halt) → Goes w (turns n (first + i) (turn_from at body slot from)) mid_slots slots' mid new r → Goes w (turns (i + n) first (turn_from at body slot from)) slots slots' old new r
    turns_more n r goes =
        goes_same w _ (turns (i + n) first (turn_from at body slot from)) slots slots' old new
        (λ s. turns-add i n first (turn_from at body slot from) s) r
        (after_goes w (turns i first (turn_from at body slot from)) (turns n (first + i) (turn_from at body slot from)) slots mid_slots slots' old mid new r before goes)

    pub turns_next : Made w (turn_from at body slot from (first + i)) mid_slots slots' mid new (Returned tt) → Made w (turns (i + 1) first (turn_from at body slot from)) slots slots' old new (Returned tt)
    turns_next m = turns_more 1 (Ok tt) (goes_same w (turn_from at body slot from (first + i)) (turns 1 (first + i) (turn_from at body slot from)) mid_slots slots' mid new (λ s. after-nothing (turn_from at body slot from (first + i) s)) (Ok tt) m)

    pub turns_stop : (count : ℕ) (why : Halt) → i < count → Goes w (turn_from at body slot from (first + i)) mid_slots slots' mid new (Err why) → Goes w (turns count first (turn_from at body slot from)) slots slots' old new (Err why)
    turns_stop count why less m =
        subst (λ (n : ℕ). Goes w (turns n first (turn_from at body slot from)) slots slots' old new (Err why)) (let e : i + suc (count - i - 1) ≡ count = omega arith in e)
        (turns_more (suc (count - i - 1)) (Err why)
        (after_stop w (turn_from at body slot from (first + i)) (turns (count - i - 1) (suc (first + i)) (turn_from at body slot from)) mid_slots slots' mid new why
        (λ s. kept-turns Grows grows-plain (count - i - 1) (suc (first + i)) (turn_from at body slot from) s (turn_grows at body slot from)) m))

module _ (w : WorldValue) (at : Site) (slots : List ℤ) (slot : ℕ) (from to : Term) (body : Code) where
  abbrev after_bounds : ℤ → ℤ → State → Outcome (Unit {0})
  after_bounds a b s = after (turns (total_of a b) 0 (turn_from at body slot a) s) (run at tree.Done)

  bounds_grow : (a b : ℤ) (s : State) → Grows s (state_of (after_bounds a b s))
  bounds_grow a b s = kept-after Grows grows-plain s (turns (total_of a b) 0 (turn_from at body slot a) s) (run at tree.Done)
      (kept-turns Grows grows-plain (total_of a b) 0 (turn_from at body slot a) s (turn_grows at body slot a)) (run-grows at tree.Done)

  abbrev after_from : ℤ → State → Outcome (Unit {0})
  after_from a s = and_then (value at to s) (after_bounds a)

  from_grows : (a : ℤ) (s : State) → Grows s (state_of (after_from a s))
  from_grows a s = kept-and_then Grows grows-plain s (value at to s) (after_bounds a) (value-grows at to s) (bounds_grow a)

  pub from_stops : (old new : Progress) (why : Halt) → Goes w (value at from) slots slots old new (Err why) → Goes w (run at (tree.Loop slot from to body tree.Done)) slots slots old new (Err why)
  from_stops old new why goes =
      goes_same w _ (run at (tree.Loop slot from to body tree.Done)) slots slots old new (run-Loop at slot from to body tree.Done) (Err why)
      (goes_stop w (value at from) after_from slots slots old new why from_grows goes)

  module _ (a : ℤ) (old mid new : Progress) (made : Made w (value at from) slots slots old mid (Returned a)) where
    loop_after : (slots' : List ℤ) (r : Result (Unit {0}) Halt) → Goes w (after_from a) slots slots' mid new r → Goes w (run at (tree.Loop slot from to body tree.Done)) slots slots' old new r
    loop_after slots' r goes =
        goes_same w _ (run at (tree.Loop slot from to body tree.Done)) slots slots' old new (run-Loop at slot from to body tree.Done) r
        (goes_then w (value at from) after_from slots slots slots' old mid new a made r goes)

    pub to_stops : (why : Halt) → Goes w (value at to) slots slots mid new (Err why) → Goes w (run at (tree.Loop slot from to body tree.Done)) slots slots old new (Err why)
    to_stops why goes = loop_after slots (Err why) (goes_stop w (value at to) (after_bounds a) slots slots mid new why (bounds_grow a) goes)

    pub loop_goes : (last : Progress) (b : ℤ) (slots' : List ℤ) (r : Result (Unit {0}) Halt) → Made w (value at to) slots slots mid last (Returned b)
        → Goes w (turns (total_of a b) 0 (turn_from at body slot a)) slots slots' last new r → Goes w (run at (tree.Loop slot from to body tree.Done)) slots slots' old new r
    loop_goes last b slots' r made_to goes =
        loop_after slots' r
        (goes_then w (value at to) (after_bounds a) slots slots slots' mid last new b made_to r
        (goes_same w (turns (total_of a b) 0 (turn_from at body slot a)) (after_bounds a b) slots slots' last new
        (λ s. after-done at (turns (total_of a b) 0 (turn_from at body slot a) s)) r goes))
